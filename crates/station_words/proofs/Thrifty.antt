-- A run with which the words have caught up leaves out few numbers, and few claims spend no words.
use Rattle.std.proofs.Common.{◌≡◌, ◌⊎◌, ℕ, zero, suc, ◌+◌, ◌-◌, ◌≤◌, ◌==◌, ◌&&◌, Bool, true, false, not, cond, List, [], ◌∷◌, length, filter, Some}
use Rattle.std.proofs.Common.{refl, sym, ap, ◌∙◌, subst, inl, inr, ⊎_elim, arith, append-nil}
use Rattle.sak_exchange.proofs.Public.{by_test}
use Rattle.std.specs.Prelude.{slice_get}
use Rattle.std.specs.List.{range_with_len}
use Rattle.lan_base.specs.declared.association_number.AssociationNumber.{AssociationNumber}
use Rattle.association_slots.specs.Learned.{Learned}
use Rattle.association_slots.specs.Views.{In, ControlAt, count, current, lost, told_sum}
use Rattle.association_slots.specs.declared.view.ControlView.{ControlView}
use Rattle.association_slots.specs.declared.view.Mark.{Mark}
use Rattle.lan_core.specs.declared.event.Event.TheVariants as events
use Rattle.lan_core.specs.declared.settings.Settings.{Settings}
use Rattle.lan_core.specs.Run.{Run, stations}
use Rattle.lan_core.specs.Claims.{next}
use Rattle.lan_core.specs.Ledgers.{claims}
use Rattle.lan_core.specs.Expected.{last_number}
use Rattle.lan_core.specs.Legal.{is_unused, unused}
use Rattle.group_safety.specs.Transmitting.{nothing, now, CarriesAt}
use Rattle.group_safety.specs.Accounts.{Account, blank, account_at, onward, showing}
use Rattle.station_words.specs.Counting.{times_in, times_under}
use Rattle.station_words.specs.Telling.{CatchUp}
use Rattle.station_words.specs.Ties.{AreToldAll, HaveCaughtUp, HaveClaimsBeside, KeepAhead}
use Rattle.station_words.specs.Seats.{AreAllIn, AreSpent}
use Rattle.station_words.proofs.Beside.{beside-event}
use Rattle.station_words.proofs.Counts.{unclaimed-none, under-few}
use Rattle.station_words.proofs.Catching.{caught-beside, left-over, few-unused, marked-over}

there-or-past : (cs : List ControlAt) (s : ℕ) → (length cs ≤ s) ⊎ ((c : ControlAt) × (slice_get cs s ≡ Some c))
there-or-past [] s = inl (omega arith)
there-or-past (c ∷ cs) zero = inr (c, refl)
there-or-past (c ∷ cs) (suc s) = ⊎_elim
    (λ (past : length cs ≤ s). inl (omega (arith, past)))
    (λ (there : (d : ControlAt) × (slice_get cs s ≡ Some d)). inr there)
    (there-or-past cs s)

module _ (settings : Settings) (r : Run) (cs : List ControlAt) (caught : HaveCaughtUp settings r cs)
    (few : (v : ControlView) → Learned v → (an : AssociationNumber) (e : ℕ) → count (lost an e) v.told ≤ 16) where
  pub few-left : ((s : ℕ) → length (stations r) ≤ s → CarriesAt settings s r nothing × (account_at settings s r nothing ≡ blank)) → (s e : ℕ) → unused settings s e r ≤ 16
  few-left past s e = ⊎_elim
      (λ (none : length cs ≤ s).
      let is = ap (λ (a : Account). a.nexts e) (past s (let z = caught.many in omega (arith, none))).1 in
      subst (λ (n : ℕ). length (filter (is_unused s e r) (range_with_len 1 (n - 1))) ≤ 16) (sym is) (omega arith))
      (λ (there : (c : ControlAt) × (slice_get cs s ≡ Some c)).
      let t = caught.each s there.0 there.1 in
      few-unused (account_at settings s r t.0) there.0.view t.2 e (is_unused s e r) (λ m some. ap not (unclaimed-none s e m (claims r) some))
      (λ an. few there.0.view t.2.keep_up.learned an e))
      (there-or-past cs s)

  pub none-spent : (s : ℕ) → length (claims r) + 17 ≤ last_number → AreSpent s cs → ⊥
  none-spent s low spent =
      let v = spent.0.view in
      let an = (current v).an in
      let e = (current v).epoch in
      let t = caught.each s spent.0 spent.1 in
      let sum = left-over (account_at settings s r t.0) v t.2 an e (few v t.2.keep_up.learned an e) in
      let all = under-few s e (claims r) in
      let over = spent.2 in absurd (omega (arith, low, over))

-- ---- where some tick showed a number that the run hasn't

-- a shorter range has fewer
filter-low : (p : ℕ → Bool) (from m n : ℕ) → m ≤ n → length (filter p (range_with_len from m)) ≤ length (filter p (range_with_len from n))
filter-low p from zero n low = omega arith
filter-low p from (suc m) zero low = absurd (omega (arith, low))
filter-low p from (suc m) (suc n) low = go (p from) (filter-low p (from + 1) m n (omega (arith, low)))
  where
    go : (b : Bool) → length (filter p (range_with_len (from + 1) m)) ≤ length (filter p (range_with_len (from + 1) n))
        → length (cond b (from ∷ filter p (range_with_len (from + 1) m)) (filter p (range_with_len (from + 1) m)))
        ≤ length (cond b (from ∷ filter p (range_with_len (from + 1) n)) (filter p (range_with_len (from + 1) n)))
    go true less = omega (arith, less)
    go false less = less

-- a number that is shown lowers no next number
shown-high : (n e : ℕ) (a : Account) → a.nexts e ≤ (showing n a).nexts e
shown-high n e a = by_test ((now a.carried).present && (e == (now a.carried).epoch)) (λ y. rw y (omega arith)) (λ y. rw y (omega arith))

ticked-high : (s t n e : ℕ) (a : Account) → a.nexts e ≤ (onward s (events.Tick t n) a).nexts e
ticked-high s t n e a = by_test (t == s) (λ y. rw y (shown-high n e a)) (λ y. rw y (omega arith))

ticked-claims : (s t n : ℕ) (a : Account) → (onward s (events.Tick t n) a).claims ≡ a.claims
ticked-claims s t n a = by_test (t == s) (λ y. rw y refl) (λ y. rw y refl)

module _ (settings : Settings) (q r : Run) (cs : List ControlAt) (t n : ℕ) (ahead : KeepAhead settings q (events.Tick t n) cs)
    (all_in : AreAllIn cs) (beside : HaveClaimsBeside settings q r) (told_all : AreToldAll r cs)
    (few : (v : ControlView) → Learned v → (an : AssociationNumber) (e : ℕ) → count (lost an e) v.told ≤ 16) where
  -- a station whose words are there
  looked-one : (s e : ℕ) (c : ControlAt) → slice_get cs s ≡ Some c → unused settings s e r ≤ 16
  looked-one s e c at =
      let tie = ahead.each s c at in
      let a : Account = account_at settings s r tie.0 in
      let b : Account = onward s (events.Tick t n) a in
      let stands = beside.each s tie.0 tie.1 in
      let same : b.claims ≡ a.claims = ticked-claims s t n a in
      let caught : CatchUp b c.view = caught-beside (onward s (events.Tick t n) (account_at settings s q tie.0)) b c.view tie.2 (all_in s c at)
      (beside-event (account_at settings s q tie.0) a s (events.Tick t n) refl stands.1)
      (λ epoch pn. told_all s c at epoch pn ∙ ap (times_in epoch pn) (sym same)) in
      let all = few-unused b c.view caught e (is_unused s e r)
      (λ m some. ap not (unclaimed-none s e m (claims r) (subst (λ (xs : List (ℕ × ℕ)). 1 ≤ times_in e m xs) same some)))
      (λ an. few c.view caught.keep_up.learned an e) in
      let high = ticked-high s t n e a in
      let low = filter-low (is_unused s e r) 1 (a.nexts e - 1) (b.nexts e - 1) (omega (arith, high)) in
      omega (arith, all, low)

  pub looked-left : ((s e : ℕ) → length (stations r) ≤ s → next settings s e r ≡ 1) → (s e : ℕ) → unused settings s e r ≤ 16
  looked-left past s e = ⊎_elim
      (λ (none : length cs ≤ s).
      let is = past s e (let z = ahead.many in let y = beside.many in let x = ap length (append-nil (stations q)) in omega (arith, none, z, y, x)) in
      subst (λ (k : ℕ). length (filter (is_unused s e r) (range_with_len 1 (k - 1))) ≤ 16) (sym is) (omega arith))
      (λ (there : (c : ControlAt) × (slice_get cs s ≡ Some c)). looked-one s e there.0 there.1)
      (there-or-past cs s)

-- few claims of an epoch leave it a packet number
pub words-left : (a : Account) (c : ControlView) → CatchUp a c → (an : AssociationNumber) (e : ℕ) → count (lost an e) c.told ≤ 16 → times_under e a.claims + 17 ≤ last_number → told_sum c an e ≤ last_number
words-left a c t an e few low = let sum = left-over a c t an e few in omega (arith, low)

-- so no seat found it over
pub none-over : (a : Account) (c : ControlView) → CatchUp a c → (m : Mark) → count (lost m.an m.epoch) c.told ≤ 16 → times_under m.epoch a.claims + 17 ≤ last_number → In m c.told_over → ⊥
none-over a c t m few low i = let sum = words-left a c t m.an m.epoch few low in let over = marked-over a c t m i in absurd (omega (arith, sum, over))
