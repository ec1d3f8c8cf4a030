-- The hitless rollover, by numbers.
use Rattle.std.proofs.Common.{◌≡◌, ◌⊎◌, inl, inr, ℕ, suc, ◌+◌, ◌≤◌, ◌<◌, true, false, ◌∷◌, ◌++◌}
use Rattle.std.proofs.Common.{Option, Some, None, is_some, refl, ap, sym, ◌∙◌, subst, arith}
use Rattle.std.proofs.lemmas.Bool.{cases_lt}
use Rattle.lan_base.specs.Timers.{retire_time}
use Rattle.sak_exchange.specs.declared.held_key.Key.{Key}
use Rattle.sak_exchange.specs.Histories.{ticked, clock, installs, begun_at, has_begun}
use Rattle.sak_exchange.specs.Held.{KeepsRules, received, latest, old, allows}
use Rattle.sak_exchange.specs.Lives.{Has, IsFresh}
use Rattle.sak_exchange.proofs.Public.{old-stays, latest-stays, unbegun-fresh, begun-stays}
use Rattle.sak_exchange.proofs.Public.{was-received}
use Rattle.group_safety.specs.Steady.{Rollover}
use Rattle.group_safety.proofs.rollover.Course.{Course, IsCourse, Lives, Rests, RestsThrough}
use Rattle.group_safety.proofs.rollover.Course.{IsRollover, IsListening, IsKeeping, Holds}
use Rattle.group_safety.proofs.rollover.Course.{SendsUnder}
use Rattle.group_safety.proofs.rollover.Spans.{from_to, clock-append, grown}
use Rattle.group_safety.proofs.rollover.Spans.{grown-quietly}
use Rattle.group_safety.proofs.rollover.Spans.{clock-rises, rounds-rise, lives-later, rests-part}
use Rattle.group_safety.proofs.rollover.Spans.{rests-join}
use Rattle.group_safety.proofs.rollover.KeyFacts.{installed-on, received-installed, latest-received}
use Rattle.group_safety.proofs.rollover.KeyFacts.{old-received, old-is-older, full, begun-at-stays}
use Rattle.group_safety.proofs.rollover.KeyFacts.{transmitting-received, transmits-later}
use Rattle.group_safety.proofs.rollover.Young.{IsRecent, recent-on, fresh-of}
use Rattle.group_safety.proofs.Members.{by_sum}

none-begun : (o : Option ℕ) → is_some o ≡ false → (at : ℕ) → o ≡ Some at → ⊥
none-begun None none at is = cc (is)
none-begun (Some b) none at is = cc (none)

some-begun : (o : Option ℕ) (at : ℕ) → o ≡ Some at → is_some o ≡ true
some-begun o at is = ap is_some is

module _ (c : Course) (o : Rollover) (is : IsCourse c) (R : IsRollover c o) where
  -- ---- the server

  -- up to the beginning it holds the old key, since it does then and installs nothing
  server-old_before : (n : ℕ) → suc o.made ≤ n → n ≤ suc o.start → Holds o.old_id
      (c.keys o.server n)
  server-old_before n low high =
      let within = R.within in
      let kept = is.kept o.server (suc o.start) within in
      let g = grown-quietly c o.server n (suc o.start) high
      (rests-part c o.server (suc o.made) (suc o.start) n (suc o.start) low (omega arith)
      R.no_makes) in
      let last = old-received kept.0 (c.keys o.server (suc o.start)) R.old_key kept.1 R.old_is in
      record {
        key = R.old_key;
        received_here = was-received g.new (c.keys o.server n) R.old_key g.quiet
            (subst (λ h. Has R.old_key (received h)) g.whole last);
        named = R.old_named;
      }

  -- the new key has begun no more ticks ago than rounds have gone by
  server-recent : (n : ℕ) → suc o.start ≤ n → n ≤ c.end
      → IsRecent c o.server R.new_key.epoch (c.rounds (suc o.start)) n
  server-recent n low high =
      let order = R.order in let early = R.early in
      recent-on c o.server R.new_key.epoch (suc o.start) n (c.rounds (suc o.start))
      (lives-later c o.server (suc o.made) (suc o.start) (omega arith) R.life) low high
      (omega arith) R.counted
      (λ m p l. rounds-rise c (suc o.start) (suc m) (omega arith) l is)
      (λ at begun. let same : clock (c.keys o.server (suc o.start)) ≡ at = let f = sym R.begun
      ∙ begun in
      cc (f) in let idle = R.settled in omega arith)

  -- While it holds the old key, the new one having begun, it makes none.
  server-no_make : (n : ℕ) → suc o.start ≤ n → n < c.end → RestsThrough c o.server (suc o.start) n
      → clock (c.keys o.server (suc n)) < clock (c.keys o.server (suc o.start)) + retire_time
      → Rests c o.server n
  server-no_make n low high rests soon =
      by_sum (R.makes n low high) (λ e. e) (λ m.
      let order = R.order in let within = R.within in
      let g = grown-quietly c o.server (suc o.start) n low rests in
      let h = c.keys o.server (suc o.start) in
      let now = ticked true ∷ c.keys o.server n in
      let longer : now ≡ (ticked true ∷ g.new) ++ h = ap (λ t. ticked true ∷ t) g.whole in
      let kept = is.kept o.server n (omega arith) in
      let base : ℕ = kept.0 in
      let kept2 = subst (KeepsRules base) longer kept.1 in
      let begun = begun-at-stays base (ticked true ∷ g.new) h R.new_key.epoch
      (clock h) kept2 R.begun in
      let s = R.life.step n (omega arith) high in
      let after = ap clock s.whole ∙ clock-append s.new (c.keys o.server n) in
      let timed = s.timed in
      let one = m.0 in
      let now_clock = ap clock longer in
      let fresh : IsFresh (clock ((ticked true ∷ g.new) ++ h))
      (begun_at ((ticked true ∷ g.new) ++ h) R.new_key.epoch) =
      subst (λ w. IsFresh (clock ((ticked true ∷ g.new) ++ h)) w) (sym begun) (omega arith) in
      let held = old-stays base (ticked true ∷ g.new) h R.new_key R.old_key kept2
      (refl, g.quiet) R.new_is R.old_is fresh in
      let newest = latest-stays base (ticked true ∷ g.new) h R.new_key kept2
      (refl, g.quiet) R.new_is in
      let never = full ((ticked true ∷ g.new) ++ h) R.new_key R.old_key newest held
      (some-begun (begun_at ((ticked true ∷ g.new) ++ h) R.new_key.epoch) (clock h) begun) in
      let open_now = subst (λ t. allows t ≡ true) longer m.1 in
      absurd (cc (never, open_now)))

  server-rests : (d : ℕ) → suc o.start ≤ d → d ≤ c.end
      → clock (c.keys o.server d) < clock (c.keys o.server (suc o.start)) + retire_time
      → RestsThrough c o.server (suc o.start) d
  server-rests d low high soon =
      let order = R.order in
      from_to (λ n. RestsThrough c o.server (suc o.start) n) (suc o.start) d low
      (record { on = λ n p l. absurd (omega arith) })
      (λ n p l rests. record {
        on = λ m a b. by_sum (cases_lt m n) (λ k. rests.on m a k) (λ k.
            let same : m ≡ n = omega arith in
            let rests_here = subst (λ v. RestsThrough c o.server (suc o.start) v) (sym same)
            rests in
            let rise = clock-rises c o.server (suc m) d (omega arith) high
            (lives-later c o.server (suc o.made) (suc m) (omega arith) R.life) in
            server-no_make m a (omega arith) rests_here (omega arith));
      })

  server-old_after : (d : ℕ) → suc o.start ≤ d → d ≤ c.end
      → clock (c.keys o.server d) < clock (c.keys o.server (suc o.start)) + retire_time
      → Holds o.old_id (c.keys o.server d)
  server-old_after d low high soon =
      let g = grown-quietly c o.server (suc o.start) d low (server-rests d low high soon) in
      let h = c.keys o.server (suc o.start) in
      let known = is.kept o.server d high in
      let base : ℕ = known.0 in
      let kept = subst (KeepsRules base) g.whole known.1 in
      let begun = begun-at-stays base g.new h R.new_key.epoch (clock h) kept R.begun in
      let now_clock = ap clock g.whole in
      let fresh : IsFresh (clock (g.new ++ h)) (begun_at (g.new ++ h) R.new_key.epoch) =
      subst (λ w. IsFresh (clock (g.new ++ h)) w) (sym begun) (omega arith) in
      let held = old-stays base g.new h R.new_key R.old_key kept g.quiet R.new_is R.old_is fresh in
      record {
        key = R.old_key;
        received_here = subst (λ t. Has R.old_key (received t)) (sym g.whole)
            (old-received base (g.new ++ h) R.old_key kept held);
        named = R.old_named;
      }

  -- in rounds
  server-clock : (d : ℕ) → suc o.start ≤ d → d ≤ c.end → c.waits o.server d ≡ 0
      → c.rounds d < c.rounds (suc o.start) + retire_time
      → clock (c.keys o.server d) < clock (c.keys o.server (suc o.start)) + retire_time
  server-clock d low high idle soon =
      let order = R.order in
      let g = grown c o.server (suc o.start) d low high
      (lives-later c o.server (suc o.made) (suc o.start) (omega arith) R.life) in
      let known = is.kept o.server d high in
      let kept = subst (KeepsRules known.0) g.whole known.1 in
      let begun = begun-at-stays known.0 g.new (c.keys o.server (suc o.start)) R.new_key.epoch
      (clock (c.keys o.server (suc o.start))) kept R.begun in
      let r = server-recent d low high (clock (c.keys o.server (suc o.start)))
      (subst (λ t. begun_at t R.new_key.epoch ≡ Some (clock (c.keys o.server (suc o.start))))
      (sym g.whole) begun) in
      omega arith

  -- no key is made before
  server-rests_until : (d : ℕ) → suc o.made ≤ d → d ≤ c.end → c.waits o.server d ≡ 0
      → c.rounds d < c.rounds (suc o.start) + retire_time → RestsThrough c o.server (suc o.made) d
  server-rests_until d low high idle soon =
      by_sum (cases_lt o.start d)
      (λ l. rests-join c o.server (suc o.made) (suc o.start) d R.no_makes
      (server-rests d l high (server-clock d l high idle soon)))
      (λ l. rests-part c o.server (suc o.made) (suc o.start) (suc o.made) d (omega arith)
      (omega arith) R.no_makes)

  server-old : (d : ℕ) → suc o.made ≤ d → d ≤ c.end → c.waits o.server d ≡ 0
      → c.rounds d < c.rounds (suc o.start) + retire_time → Holds o.old_id (c.keys o.server d)
  server-old d low high idle soon =
      by_sum (cases_lt o.start d)
      (λ l. server-old_after d l high (server-clock d l high idle soon))
      (λ l. server-old_before d low (omega arith))

  server-new : (d : ℕ) → suc o.made ≤ d → d ≤ c.end → RestsThrough c o.server (suc o.made) d
      → Holds o.new_id (c.keys o.server d)
  server-new d low high rests =
      let g = grown-quietly c o.server (suc o.made) d low rests in
      let known = is.kept o.server d high in
      let newest = latest-stays known.0 g.new (c.keys o.server (suc o.made)) R.new_key
      (subst (KeepsRules known.0) g.whole known.1) g.quiet R.made in
      record {
        key = R.new_key;
        received_here = latest-received known.0 (c.keys o.server d) R.new_key known.1
            (subst (λ h. latest h ≡ Some R.new_key) (sym g.whole) newest);
        named = R.new_named;
      }

  -- ---- a listener

  listener-rests : (t sent d : ℕ) → IsListening c o t sent → d ≤ c.end
      → RestsThrough c o.server (suc o.made) d → RestsThrough c t sent d
  listener-rests t sent d L high rests = record {
    on = λ n p k. by_sum (L.takes n p (omega arith)) (λ e. e)
        (λ m. absurd (m.3 (rests.on m.0 m.1 (omega (arith, m.2)))));
  }

  listener-new : (t sent d : ℕ) → IsListening c o t sent → sent ≤ d → d ≤ c.end
      → RestsThrough c o.server (suc o.made) d → Holds o.new_id (c.keys t d)
  listener-new t sent d L low high rests =
      let g = grown-quietly c t sent d low (listener-rests t sent d L high rests) in
      let known = is.kept t d high in
      let newest = latest-stays known.0 g.new (c.keys t sent) L.new_key
      (subst (KeepsRules known.0) g.whole known.1) g.quiet L.new_is in
      record {
        key = L.new_key;
        received_here = latest-received known.0 (c.keys t d) L.new_key known.1
            (subst (λ h. latest h ≡ Some L.new_key) (sym g.whole) newest);
        named = L.new_named;
      }

  listener-installed : (t sent d : ℕ) → (L : IsListening c o t sent) → sent ≤ d
      → d ≤ c.end → Has L.new_key (installs (c.keys t d))
  listener-installed t sent d L low high =
      let g = grown c t sent d low high L.life in
      let known = is.kept t sent (omega arith) in
      let first = received-installed (c.keys t sent) L.new_key
      (latest-received known.0 (c.keys t sent) L.new_key known.1 L.new_is) in
      subst (λ h. Has L.new_key (installs h)) (sym g.whole)
      (installed-on L.new_key g.new (c.keys t sent) first)

  -- the new key began there no more ticks ago than rounds have gone by since the server began it
  listener-recent : (t sent d : ℕ) → (L : IsListening c o t sent) → o.start ≤ d
      → d ≤ c.end → IsRecent c t L.new_key.epoch (c.rounds (suc o.start)) d
  listener-recent t sent d L low high =
      let before = L.before in let early = R.early in let within = R.within in
      let none = R.unbegun t o.start L.new_key (omega arith)
      (listener-installed t sent o.start L before (omega arith)) L.new_named in
      recent-on c t L.new_key.epoch o.start d (c.rounds (suc o.start))
      (lives-later c t sent o.start before L.life) low high early L.counted
      (λ m p l. rounds-rise c (suc o.start) (suc m) (omega arith) l is)
      (λ at begun. absurd (none-begun (begun_at (c.keys t o.start) L.new_key.epoch) none at begun))

  listener-fresh : (t sent d : ℕ) → (L : IsListening c o t sent) → sent ≤ d
      → d ≤ c.end → c.waits t d ≡ 0 → c.rounds d < c.rounds (suc o.start) + retire_time
      → IsFresh (clock (c.keys t d)) (begun_at (c.keys t d) L.new_key.epoch)
  listener-fresh t sent d L low high idle soon =
      by_sum (cases_lt o.start d)
      (λ l. fresh-of c t L.new_key.epoch (c.rounds (suc o.start)) d
      (listener-recent t sent d L (omega arith) high) idle soon)
      (λ l. unbegun-fresh (clock (c.keys t d)) (begun_at (c.keys t d) L.new_key.epoch)
      (R.unbegun t d L.new_key (omega arith) (listener-installed t sent d L low high) L.new_named))

  -- a keeper holds the old key
  keeper-old : (t sent d : ℕ) → IsKeeping c o t sent → sent ≤ d
      → d ≤ c.end → c.waits t d ≡ 0 → c.waits o.server d ≡ 0
      → c.rounds d < c.rounds (suc o.start) + retire_time → Holds o.old_id (c.keys t d)
  keeper-old t sent d K low high idle idle_server soon =
      let L = K.listens in
      let after = L.after in
      let rests = server-rests_until d (omega arith) high idle_server soon in
      let g = grown-quietly c t sent d low (listener-rests t sent d L high rests) in
      let h = c.keys t sent in
      let known = is.kept t d high in
      let base : ℕ = known.0 in
      let kept = subst (KeepsRules base) g.whole known.1 in
      let fresh = subst (λ v. IsFresh (clock v) (begun_at v L.new_key.epoch)) g.whole
      (listener-fresh t sent d L low high idle soon) in
      let held = old-stays base g.new h L.new_key K.old_key kept g.quiet L.new_is K.old_is fresh in
      record {
        key = K.old_key;
        received_here = subst (λ v. Has K.old_key (received v)) (sym g.whole)
            (old-received base (g.new ++ h) K.old_key kept held);
        named = K.old_named;
      }

  -- ---- when frames of the old key were claimed

  -- no station sends under the old key in a life that held it as old and has begun the new one
  no-claim : (u a n : ℕ) (k j : Key) → a ≤ n → n ≤ c.end → Lives c u a
      → old (c.keys u a) ≡ Some k → k.id ≡ o.old_id → latest (c.keys u a) ≡ Some j
      → has_begun (c.keys u n) j.epoch ≡ true → SendsUnder o.old_id (c.keys u n) → ⊥
  no-claim u a n k j low high life older named newest begun under =
      let g = grown c u a n low high life in
      let h = c.keys u n in
      let known = is.kept u n high in
      let first = is.kept u a (omega arith) in
      let was = received-installed (c.keys u a) k
      (old-received first.0 (c.keys u a) k first.1 older) in
      let there = subst (λ v. Has k (installs v)) (sym g.whole)
      (installed-on k g.new (c.keys u a) was) in
      let sending = received-installed h under.key
      (transmitting-received h under.key under.sends) in
      let same = is.one_install u n under.key k high sending there (under.named ∙ sym named) in
      let later = transmits-later known.0 h under.key j.epoch known.1 begun under.sends in
      let less = old-is-older first.0 (c.keys u a) j k first.1 newest older in
      let e = ap (λ (v : Key). v.epoch) same in
      omega arith

  server-begun : (n : ℕ) → suc o.start ≤ n → n ≤ c.end
      → has_begun (c.keys o.server n) R.new_key.epoch ≡ true
  server-begun n low high =
      let order = R.order in
      let g = grown c o.server (suc o.start) n low high
      (lives-later c o.server (suc o.made) (suc o.start) (omega arith) R.life) in
      let h = c.keys o.server (suc o.start) in
      subst (λ v. has_begun v R.new_key.epoch ≡ true) (sym g.whole)
      (begun-stays g.new h R.new_key.epoch
      (some-begun (begun_at h R.new_key.epoch) (clock h) R.begun))

  -- the rounds up to the claim are those up to the beginning and the lag, or the whole run's are
  abbrev pub IsSoon : ℕ → Type 0
  IsSoon n = (c.rounds n ≤ c.rounds (suc o.start) + o.lag) ⊎ (c.rounds c.end ≤ c.rounds
      (suc o.start) + o.lag)

  server-when : (n : ℕ) → n ≤ c.end → SendsUnder o.old_id (c.keys o.server n) → IsSoon n
  server-when n high under =
      let order = R.order in let within = R.within in
      by_sum (cases_lt o.start n)
      (λ l. absurd (no-claim o.server (suc o.start) n R.old_key R.new_key l high
      (lives-later c o.server (suc o.made) (suc o.start) (omega arith) R.life) R.old_is R.old_named
      R.new_is
      (server-begun n l high) under))
      (λ l. let rise = rounds-rise c n (suc o.start) (omega arith) within is in inl (omega arith))

  keeper-when : (t sent n : ℕ) → IsKeeping c o t sent → n ≤ c.end
      → SendsUnder o.old_id (c.keys t n) → IsSoon n
  keeper-when t sent n K high under =
      let within = R.within in let before = K.listens.before in let L = K.listens in
      by_sum (cases_lt n sent)
      (λ less. let rise = rounds-rise c n (suc o.start) (omega arith) within is in inl
      (omega arith))
      (λ more. by_sum (cases_lt (c.rounds (suc o.start) + o.lag) (c.rounds c.end))
      (λ late. let b = K.soon late in
      by_sum (cases_lt b.0 n)
      (λ less. let g = grown c t (suc b.0) n less high
      (lives-later c t sent (suc b.0) (omega (arith, b.1)) L.life) in
      let begun = begun-stays g.new (c.keys t (suc b.0)) L.new_key.epoch b.3 in
      absurd (no-claim t sent n K.old_key L.new_key more high L.life K.old_is K.old_named L.new_is
      (subst (λ v. has_begun v L.new_key.epoch ≡ true) (sym g.whole) begun) under))
      (λ le. let rise = rounds-rise c n (suc b.0) (omega arith) b.2 is in let soon = b.4 in
      inl (omega arith)))
      (λ e. inr e))

  pub soon-enough : (n d : ℕ) → IsSoon n → d ≤ c.end
      → c.rounds d + o.lag < c.rounds n + retire_time → c.rounds d < c.rounds (suc o.start)
      + retire_time
  soon-enough n d soon high near =
      let short = R.lag_short in
      by_sum soon
      (λ l. omega arith)
      (λ l. let rise = rounds-rise c d c.end high (omega arith) is in omega arith)

  -- ---- what is held

  -- any frame under the old key that comes so soon after the beginning finds it at the server
  pub found-old_server : (d : ℕ) → suc o.made ≤ d → d ≤ c.end → c.waits o.server d ≡ 0
      → c.rounds d < c.rounds (suc o.start) + retire_time → Holds o.old_id (c.keys o.server d)
  found-old_server d low high idle soon = server-old d low high idle soon

  -- and at a keeper
  pub found-old_keeper : (t sent d : ℕ) → IsKeeping c o t sent
      → sent ≤ d → d ≤ c.end → c.waits t d ≡ 0 → c.waits o.server d ≡ 0
      → c.rounds d < c.rounds (suc o.start) + retire_time → Holds o.old_id (c.keys t d)
  found-old_keeper = keeper-old

  -- any frame under the new key finds it at the server until it makes the next
  pub found-new_server : (d : ℕ) → suc o.made ≤ d → d ≤ c.end → RestsThrough c o.server
      (suc o.made) d
      → Holds o.new_id (c.keys o.server d)
  found-new_server = server-new

  -- and at a listener
  pub found-new_listener : (t sent d : ℕ) → IsListening c o t sent → sent ≤ d
      → d ≤ c.end → RestsThrough c o.server (suc o.made) d → Holds o.new_id (c.keys t d)
  found-new_listener = listener-new

  -- when the server, or a keeper, sent under the old key
  pub sent-when_server : (n : ℕ) → n ≤ c.end → SendsUnder o.old_id (c.keys o.server n) → IsSoon n
  sent-when_server = server-when

  pub sent-when_keeper : (t sent n : ℕ) → IsKeeping c o t sent
      → n ≤ c.end → SendsUnder o.old_id (c.keys t n) → IsSoon n
  sent-when_keeper = keeper-when
