-- The account of a station after an event is the one before it, a step ahead.
use Rattle.std.proofs.Common.{◌≡◌, ℕ, ◌+◌, ◌≤◌, Bool, true, false, ◌&&◌, cond, List, [], ◌∷◌, ◌++◌, map, max}
use Rattle.std.proofs.Common.{Option, Some, None, refl, ap, sym, ◌∙◌, subst, arith}
use Rattle.std.proofs.lemmas.Bool.{eqb-true, eq-eqb, ne_eqb, lt-ltb}
use Rattle.std.specs.Prelude.{◌==◌, nat_lt, option_map, option_and_then, option_to_list}
use Rattle.lan_base.specs.declared.frame.UserFrame.{UserFrame}
use Rattle.lan_base.specs.declared.address.Mi.{Mi}
use Rattle.gcm_frames.specs.Tags.{is_sec}
use Rattle.sak_exchange.specs.declared.change.Change.{Change}
use Rattle.sak_exchange.specs.declared.change.Change.TheVariants as changes
use Rattle.sak_exchange.specs.declared.held_key.Key.{Key}
use Rattle.sak_exchange.specs.Held.{transmitting}
use Rattle.sak_exchange.proofs.Public.{by_test, by_option}
use Rattle.mka_station.specs.declared.reaction.Reaction.{Reaction}
use Rattle.mka_station.specs.declared.verdict.Verdict.{Verdict}
use Rattle.mka_station.specs.Hearing.{frame_turn}
use Rattle.mka_station.specs.Restart.{ending}
use Rattle.lan_core.specs.declared.event.Event.{Event}
use Rattle.lan_core.specs.declared.event.Event.TheVariants as events
use Rattle.lan_core.specs.declared.fact.Fact.{Fact}
use Rattle.lan_core.specs.declared.fact.Fact.TheVariants as facts
use Rattle.lan_core.specs.declared.fact.Lack.{Lack}
use Rattle.lan_core.specs.declared.fact.Lack.TheVariants.{NoKey}
use Rattle.lan_core.specs.declared.settings.Settings.{Settings}
use Rattle.lan_core.specs.Run.{Run, Happening, happened}
use Rattle.lan_core.specs.Ledgers.{Claim, claims, claim_of, gather, next_frame}
use Rattle.lan_core.specs.Lives.{Life, life, transmitting_at, keys_in, turn_at_tick, sak_in}
use Rattle.lan_core.specs.Claims.{next, shown_by, after_claim, is_epoch, frame_of_claim}
use Rattle.lan_core.specs.Unstopped.{next_under}
use Rattle.lan_core.specs.Expected.{change_fact, reaction_facts, reached_facts, claim_fact, lack}
use Rattle.group_safety.specs.Transmitting.{Carried, sends, now, CarriesIn, CarriesAt}
use Rattle.group_safety.specs.Accounts.{Account, next_now, looked, numbers_at, shows_at}
use Rattle.group_safety.specs.Accounts.{account_at, ahead, onward, IsExact}
use Rattle.group_safety.proofs.once.Nexts.{mapped}
use Rattle.group_safety.proofs.rollover.EventKinds.{Kind}
use Rattle.group_safety.proofs.rollover.EventKinds as kinds
use Rattle.group_safety.proofs.moves.Carrying.{carried-some, carried-none}

-- ---- facts that tell of no claim

abbrev pub AreOther : List Fact → Type 0
AreOther [] = Unit {0}
AreOther (facts.Claimed s an epoch pn ∷ later) = ⊥
AreOther (fact ∷ later) = AreOther later

other-append : (a b : List Fact) → AreOther a → AreOther b → AreOther (a ++ b)
other-append [] b first second = second
other-append (facts.Claimed s an epoch pn ∷ a) b first second = first
other-append (_ ∷ a) b first second = other-append a b first second

other-changes : (s : ℕ) (cs : List Change) → AreOther (map (change_fact s) cs)
other-changes s [] = tt
other-changes s (changes.Dropped k ∷ cs) = other-changes s cs
other-changes s (changes.Retired k ∷ cs) = other-changes s cs
other-changes s (changes.Began k cause ∷ cs) = other-changes s cs
other-changes s (changes.Installed k ∷ cs) = other-changes s cs
other-changes s (changes.Untaken id why ∷ cs) = other-changes s cs

pub other-reaction : (s h n : ℕ) (re : Reaction) → AreOther (reaction_facts s h n re)
other-reaction s h n re =
    other-append (option_to_list (option_map (λ v. facts.HeardMka h s v) re.heard)) _ (by-verdict re.heard)
    (other-append (option_to_list (option_map (λ m. facts.Server s m) re.server)) _ (by-server re.server)
    (other-append (map (change_fact s) re.changes) _ (other-changes s re.changes) (by-sent re.sent)))
  where
    by-verdict : (o : Option Verdict) → AreOther (option_to_list (option_map (λ v. facts.HeardMka h s v) o))
    by-verdict None = tt
    by-verdict (Some v) = tt

    by-server : (o : Option (Option Mi)) → AreOther (option_to_list (option_map (λ m. facts.Server s m) o))
    by-server None = tt
    by-server (Some m) = tt

    by-sent : (o : Option (List ℕ)) → AreOther (option_to_list (option_map (λ octets. facts.Framed n s false octets) o))
    by-sent None = tt
    by-sent (Some octets) = tt

pub other-reached : (settings : Settings) (s : ℕ) (r : Run) (number : ℕ) (octets : List ℕ) (l : Life) → AreOther (reached_facts settings s r number octets l)
other-reached settings s r number octets l = by_test (is_sec octets) (λ sec. rw sec tt) (λ sec. rw sec (other-reaction s number 0 (frame_turn l.member octets l.past).reaction))

pub other-after : (s epoch : ℕ) (f : List Fact) → AreOther f → after_claim s epoch f ≡ 0
other-after s epoch [] are = refl
other-after s epoch (facts.Claimed t an e pn ∷ later) are = absurd are
other-after s epoch (_ ∷ later) are = refl

pub other-claims : (f : List Fact) (xs : List Claim) → AreOther f → gather claim_of f xs ≡ xs
other-claims [] xs are = refl
other-claims (facts.Claimed t an e pn ∷ later) xs are = absurd are
other-claims (_ ∷ later) xs are = other-claims later xs are

-- ---- next numbers

pub next-is : (settings : Settings) (s e : ℕ) (x : Happening) (r : Run) → next settings s e (x ∷ r) ≡ max (shown_by settings s e r x.facts x.event) (next settings s e r)
unfolding next
next-is settings s e x r = refl

pub next-first : (settings : Settings) (s e : ℕ) → next settings s e [] ≡ 1
unfolding next
next-first settings s e = refl

next-some : (settings : Settings) (s e : ℕ) (r : Run) → 1 ≤ next settings s e r
next-some settings s e [] = let z = next-first settings s e in omega arith
next-some settings s e (x ∷ r) = let z = next-is settings s e x r in let y = next-some settings s e r in omega arith

pub claims-are : (x : Happening) (r : Run) → claims (x ∷ r) ≡ gather claim_of x.facts (claims r)
unfolding claims
claims-are x r = refl

-- what an event leaves of what a run tells
record Leaves (settings : Settings) (t : ℕ) (r : Run) (k : Carried) (e : Event) (f : List Fact) : Type 0 where
  pub nexts : (n : ℕ) → next settings t n (happened e f ∷ r) ≡ (ahead t e (account_at settings t r k)).nexts n
  pub numbers : numbers_at t (claims (happened e f ∷ r)) ≡ (ahead t e (account_at settings t r k)).claims
  pub shows : shows_at t (happened e f ∷ r) ≡ (ahead t e (account_at settings t r k)).shows

module _ (settings : Settings) (t : ℕ) (r : Run) (k : Carried) (carries : CarriesAt settings t r k) where
  abbrev l : Account
  l = account_at settings t r k

  still-next : (n : ℕ) (e : Event) (f : List Fact) → AreOther f → shown_by settings t n r f e ≡ after_claim t n f → next settings t n (happened e f ∷ r) ≡ next settings t n r
  still-next n e f are is = let z = next-is settings t n (happened e f) r in let y = is ∙ other-after t n f are in omega arith

  still-numbers : (e : Event) (f : List Fact) → AreOther f → numbers_at t (claims (happened e f ∷ r)) ≡ numbers_at t (claims r)
  still-numbers e f are = ap (numbers_at t) (claims-are (happened e f) r ∙ other-claims f (claims r) are)

  abbrev IsQuiet : Event → Type 0
  IsQuiet (events.Tick s n) = ⊥
  IsQuiet (events.Claim s user pn) = ⊥
  IsQuiet _ = Unit {0}

  quiet-leaves : (e : Event) (f : List Fact) → IsQuiet e → AreOther f → Leaves settings t r k e f
  quiet-leaves (events.Start name sci priority) f q are = record { nexts = λ n. still-next n _ f are refl; numbers = still-numbers _ f are; shows = refl }
  quiet-leaves (events.Tick s n) f q are = absurd q
  quiet-leaves (events.Deliver frame s) f q are = record { nexts = λ n. still-next n _ f are refl; numbers = still-numbers _ f are; shows = refl }
  quiet-leaves (events.Restart s) f q are = record { nexts = λ n. still-next n _ f are refl; numbers = still-numbers _ f are; shows = refl }
  quiet-leaves (events.Claim s user pn) f q are = absurd q
  quiet-leaves events.Emit f q are = record { nexts = λ n. still-next n _ f are refl; numbers = still-numbers _ f are; shows = refl }
  quiet-leaves (events.Inject s octets) f q are = record { nexts = λ n. still-next n _ f are refl; numbers = still-numbers _ f are; shows = refl }

  -- the key that transmits, as it is carried
  transmits-some : (key : Key) → transmitting_at settings t r ≡ Some key → now k ≡ sends key.an key.epoch
  transmits-some key is = by (life settings t r) carries is
    where
      by : (o : Option Life) → CarriesIn o k → option_and_then (λ l. transmitting (keys_in l)) o ≡ Some key → now k ≡ sends key.an key.epoch
      by None c is = absurd (cc is)
      by (Some m) c is = carried-some m.member.base (keys_in m) k key c is

  transmits-none : transmitting_at settings t r ≡ None → (now k).present ≡ false
  transmits-none is = by (life settings t r) carries is
    where
      by : (o : Option Life) → CarriesIn o k → option_and_then (λ l. transmitting (keys_in l)) o ≡ None → (now k).present ≡ false
      by None c is = ap (λ (q : Carried). (now q).present) c
      by (Some m) c is = carried-none m.member.base (keys_in m) k c is

  pub next-told : next_now l ≡ next_under settings t r (transmitting_at settings t r)
  next-told = by_option (transmitting_at settings t r)
      (λ none. let absent = transmits-none none in rw (none, absent) refl)
      (λ key some. let at = transmits-some key some in rw (some, at) refl)

  -- ---- a tick

  under-key : (n shown : ℕ) (o : Option Key) → shown ≡ next_under settings t r o → max (cond (is_epoch n o) shown 0) (next settings t n r) ≡ next settings t n r
  under-key n shown None is = omega arith
  under-key n shown (Some key) is = by_test (key.epoch == n)
      (λ y. let same : next settings t key.epoch r ≡ next settings t n r = ap (λ m. next settings t m r) (eqb-true key.epoch n y) in rw y (omega (arith, is, same)))
      (λ y. rw y (omega arith))

  shows-next : (n : ℕ) → n ≡ next_under settings t r (transmitting_at settings t r) → cond (nat_lt 0 n) (n ∷ shows_at t r) (shows_at t r) ≡ (looked l).shows
  shows-next n is = by_option (transmitting_at settings t r)
      (λ none. let zero_is : n ≡ 0 = is ∙ rw none refl in let absent = transmits-none none in rw (zero_is, absent) refl)
      (λ key some. let this : n ≡ next settings t key.epoch r = is ∙ rw some refl in let at = transmits-some key some in
      let more : nat_lt 0 n ≡ true = lt-ltb 0 n (let z = next-some settings t key.epoch r in omega arith) in
      rw (more, at) (ap (λ (m : ℕ). m ∷ shows_at t r) this))

  tick-leaves : (s n : ℕ) (f : List Fact) → AreOther f → n ≡ next_under settings s r (transmitting_at settings s r) → Leaves settings t r k (events.Tick s n) f
  tick-leaves s n f are is = by_test (s == t)
      (λ y. let same = eqb-true s t y in let exact : n ≡ next_under settings t r (transmitting_at settings t r) = subst (λ v. n ≡ next_under settings v r (transmitting_at settings v r)) same is in
      record {
        nexts = λ m. next-is settings t m (happened (events.Tick s n) f) r ∙ rw y (under-key m n (transmitting_at settings t r) exact);
        numbers = still-numbers (events.Tick s n) f are ∙ rw y refl;
        shows = rw y (shows-next n exact);
      })
      (λ y. record {
        nexts = λ m. next-is settings t m (happened (events.Tick s n) f) r ∙ rw y (omega arith);
        numbers = still-numbers (events.Tick s n) f are ∙ rw y refl;
        shows = rw y refl;
      })

  -- ---- a claim

  claim-leaves : (s user pn : ℕ) → pn ≡ next_under settings s r (transmitting_at settings s r) → Leaves settings t r k (events.Claim s user pn) (claim_fact settings s r pn (transmitting_at settings s r) ∷ [])
  claim-leaves s user pn is = by_option (transmitting_at settings s r)
      (λ none. let zero_is : pn ≡ 0 = is ∙ rw none refl in
      let f : claim_fact settings s r pn (transmitting_at settings s r) ≡ facts.Unclaimed s (lack settings s r (transmitting_at settings s r)) = rw zero_is refl in
      subst (λ (fact : Fact). Leaves settings t r k (events.Claim s user pn) (fact ∷ [])) (sym f) (refused (lack settings s r (transmitting_at settings s r)) none))
      (λ key some. let this : pn ≡ next settings s key.epoch r = is ∙ rw some refl in
      let more : (pn == 0) ≡ false = ne_eqb pn 0 (λ e. let z = next-some settings s key.epoch r in absurd (omega arith)) in
      let f : claim_fact settings s r pn (transmitting_at settings s r) ≡ facts.Claimed s key.an key.epoch pn = rw (more, some) refl in
      subst (λ (fact : Fact). Leaves settings t r k (events.Claim s user pn) (fact ∷ [])) (sym f) (numbered key some this))
    where
      refused : (why : Lack) → transmitting_at settings s r ≡ None → Leaves settings t r k (events.Claim s user pn) (facts.Unclaimed s why ∷ [])
      refused why none = by_test (s == t)
          (λ y. let absent = transmits-none (subst (λ v. transmitting_at settings v r ≡ None) (eqb-true s t y) none) in record {
            nexts = λ m. still-next m (events.Claim s user pn) (facts.Unclaimed s why ∷ []) tt refl ∙ rw (y, absent) refl;
            numbers = still-numbers (events.Claim s user pn) (facts.Unclaimed s why ∷ []) tt ∙ rw (y, absent) refl;
            shows = rw (y, absent) refl;
          })
          (λ y. record {
            nexts = λ m. still-next m (events.Claim s user pn) (facts.Unclaimed s why ∷ []) tt refl ∙ rw y refl;
            numbers = still-numbers (events.Claim s user pn) (facts.Unclaimed s why ∷ []) tt ∙ rw y refl;
            shows = rw y refl;
          })

      numbered : (key : Key) → transmitting_at settings s r ≡ Some key → pn ≡ next settings s key.epoch r → Leaves settings t r k (events.Claim s user pn) (facts.Claimed s key.an key.epoch pn ∷ [])
      numbered key some this = by_test (s == t)
          (λ y. let same = eqb-true s t y in let at = transmits-some key (subst (λ v. transmitting_at settings v r ≡ Some key) same some) in
          let now_it : next settings t key.epoch r ≡ pn = subst (λ v. next settings v key.epoch r ≡ pn) same (sym this) in record {
            nexts = λ m. next-is settings t m (happened (events.Claim s user pn) (facts.Claimed s key.an key.epoch pn ∷ [])) r ∙ rw (y, at) (raised key m now_it);
            numbers = ap (numbers_at t) (claims-are (happened (events.Claim s user pn) (facts.Claimed s key.an key.epoch pn ∷ [])) r) ∙ rw (y, at) (ap (λ (n : ℕ). (key.epoch, n) ∷ numbers_at t (claims r)) (sym now_it));
            shows = rw (y, at) refl;
          })
          (λ y. record {
            nexts = λ m. next-is settings t m (happened (events.Claim s user pn) (facts.Claimed s key.an key.epoch pn ∷ [])) r ∙ rw y (omega arith);
            numbers = ap (numbers_at t) (claims-are (happened (events.Claim s user pn) (facts.Claimed s key.an key.epoch pn ∷ [])) r) ∙ rw y refl;
            shows = rw y refl;
          })
        where
          raised : (key : Key) (m : ℕ) → next settings t key.epoch r ≡ pn → max (cond (key.epoch == m) (pn + 1) 0) (next settings t m r) ≡ cond (m == key.epoch) (next settings t key.epoch r + 1) (next settings t m r)
          raised key m now_it = by_test (m == key.epoch)
              (λ z. let e = eqb-true m key.epoch z in let back : (key.epoch == m) ≡ true = eq-eqb key.epoch m (sym e) in let here : next settings t m r ≡ pn = ap (λ v. next settings t v r) e ∙ now_it in rw (z, back) (omega (arith, here, now_it)))
              (λ z. let back : (key.epoch == m) ≡ false = ne_eqb key.epoch m (λ e. absurd (cc (sym z ∙ eq-eqb m key.epoch (sym e)))) in rw (z, back) (omega arith))

  -- ---- any event

  leaves : (users : List UserFrame) (e : Event) (f : List Fact) → Kind settings users r e f → IsExact settings r e → Leaves settings t r k e f
  leaves users e f (kinds.starts name sci priority mi ev q) exact =
      subst (λ v. Leaves settings t r k v f) (sym ev) (quiet-leaves (events.Start name sci priority) f tt (subst AreOther (sym q) tt))
  leaves users e f (kinds.ticks s n m ev living q) exact =
      subst (λ v. Leaves settings t r k v f) (sym ev) (tick-leaves s n f (subst AreOther (sym q) (other-reaction s 0 (next_frame r) (turn_at_tick settings s r m n (sak_in f)).reaction)) (subst (IsExact settings r) ev exact))
  leaves users e f (kinds.reached s number octets m (kinds.delivered g there same ev) living q) exact =
      subst (λ v. Leaves settings t r k v f) (sym ev) (quiet-leaves (events.Deliver number s) f tt (subst AreOther (sym q) (other-reached settings s r number octets m)))
  leaves users e f (kinds.reached s number octets m (kinds.injected zero_is ev) living q) exact =
      subst (λ v. Leaves settings t r k v f) (sym ev) (quiet-leaves (events.Inject s octets) f tt (subst AreOther (sym q) (other-reached settings s r number octets m)))
  leaves users e f (kinds.restarts s mi m ev drawn living q) exact =
      subst (λ v. Leaves settings t r k v f) (sym ev) (quiet-leaves (events.Restart s) f tt (subst AreOther (sym q) (other-reaction s 0 0 (ending m.member m.past))))
  leaves users e f (kinds.claims s user pn ev q) exact =
      subst (λ v. Leaves settings t r k v f) (sym ev) (subst (λ g. Leaves settings t r k (events.Claim s user pn) g) (sym q) (claim-leaves s user pn (subst (IsExact settings r) ev exact)))
  leaves users e f (kinds.emits w ev waits is) exact =
      let m = mapped (λ octets. facts.Framed (next_frame r) w.station true octets ∷ []) (frame_of_claim users r w) f is in
      subst (λ v. Leaves settings t r k v f) (sym ev) (quiet-leaves events.Emit f tt (subst AreOther m.2 tt))

  -- ---- an event with any number

  and-false : (b : Bool) → (b && false) ≡ false
  and-false true = refl
  and-false false = refl

  record LeavesOn (e : Event) (f : List Fact) : Type 0 where
    pub nexts : (n : ℕ) → next settings t n (happened e f ∷ r) ≡ (onward t e l).nexts n
    pub numbers : numbers_at t (claims (happened e f ∷ r)) ≡ (onward t e l).claims
    pub shows : shows_at t (happened e f ∷ r) ≡ (onward t e l).shows

  quiet-on : (e : Event) (f : List Fact) → IsQuiet e → Leaves settings t r k e f → LeavesOn e f
  quiet-on (events.Start name sci priority) f q is = record { nexts = is.nexts; numbers = is.numbers; shows = is.shows }
  quiet-on (events.Tick s n) f q is = absurd q
  quiet-on (events.Deliver frame s) f q is = record { nexts = is.nexts; numbers = is.numbers; shows = is.shows }
  quiet-on (events.Restart s) f q is = record { nexts = is.nexts; numbers = is.numbers; shows = is.shows }
  quiet-on (events.Claim s user pn) f q is = absurd q
  quiet-on events.Emit f q is = record { nexts = is.nexts; numbers = is.numbers; shows = is.shows }
  quiet-on (events.Inject s octets) f q is = record { nexts = is.nexts; numbers = is.numbers; shows = is.shows }

  shown-on : (n m : ℕ) (o : Option Key) → transmitting_at settings t r ≡ o
      → max (cond (is_epoch m o) n 0) (next settings t m r) ≡ cond ((now k).present && (m == (now k).epoch)) (max n (next settings t m r)) (next settings t m r)
  shown-on n m None is = let absent = transmits-none is in rw absent (omega arith)
  shown-on n m (Some key) is = let at = transmits-some key is in rw at (by_test (m == key.epoch)
      (λ z. let back : (key.epoch == m) ≡ true = eq-eqb key.epoch m (sym (eqb-true m key.epoch z)) in rw (z, back) refl)
      (λ z. let back : (key.epoch == m) ≡ false = ne_eqb key.epoch m (λ e. absurd (cc (sym z ∙ eq-eqb m key.epoch (sym e)))) in rw (z, back) (omega arith)))

  tick-on : (s n : ℕ) (f : List Fact) → AreOther f → LeavesOn (events.Tick s n) f
  tick-on s n f are = by_test (s == t)
      (λ y. record {
        nexts = λ m. next-is settings t m (happened (events.Tick s n) f) r ∙ rw y (shown-on n m (transmitting_at settings t r) refl);
        numbers = still-numbers (events.Tick s n) f are ∙ rw y refl;
        shows = rw y refl;
      })
      (λ y. record {
        nexts = λ m. next-is settings t m (happened (events.Tick s n) f) r ∙ rw y (omega arith);
        numbers = still-numbers (events.Tick s n) f are ∙ rw y refl;
        shows = rw y refl;
      })

  -- a claim that got no number, as none was left to it, or as no key transmits
  refused-on : (s user pn : ℕ) (why : Lack) → ((s == t) ≡ true → ((now k).present && nat_lt 0 pn) ≡ false) → LeavesOn (events.Claim s user pn) (facts.Unclaimed s why ∷ [])
  refused-on s user pn why none = by_test (s == t)
      (λ y. let no = none y in record {
        nexts = λ m. still-next m (events.Claim s user pn) (facts.Unclaimed s why ∷ []) tt refl ∙ rw (y, no) refl;
        numbers = still-numbers (events.Claim s user pn) (facts.Unclaimed s why ∷ []) tt ∙ rw (y, no) refl;
        shows = rw (y, no) refl;
      })
      (λ y. record {
        nexts = λ m. still-next m (events.Claim s user pn) (facts.Unclaimed s why ∷ []) tt refl ∙ rw y refl;
        numbers = still-numbers (events.Claim s user pn) (facts.Unclaimed s why ∷ []) tt ∙ rw y refl;
        shows = rw y refl;
      })

  claimed-on : (s user pn : ℕ) (key : Key) → transmitting_at settings s r ≡ Some key → nat_lt 0 pn ≡ true → LeavesOn (events.Claim s user pn) (facts.Claimed s key.an key.epoch pn ∷ [])
  claimed-on s user pn key some more = by_test (s == t)
      (λ y. let at = transmits-some key (subst (λ v. transmitting_at settings v r ≡ Some key) (eqb-true s t y) some) in record {
        nexts = λ m. next-is settings t m (happened (events.Claim s user pn) (facts.Claimed s key.an key.epoch pn ∷ [])) r ∙ rw (y, at, more) (raised m);
        numbers = ap (numbers_at t) (claims-are (happened (events.Claim s user pn) (facts.Claimed s key.an key.epoch pn ∷ [])) r) ∙ rw (y, at, more) refl;
        shows = rw (y, at, more) refl;
      })
      (λ y. record {
        nexts = λ m. next-is settings t m (happened (events.Claim s user pn) (facts.Claimed s key.an key.epoch pn ∷ [])) r ∙ rw y (omega arith);
        numbers = ap (numbers_at t) (claims-are (happened (events.Claim s user pn) (facts.Claimed s key.an key.epoch pn ∷ [])) r) ∙ rw y refl;
        shows = rw y refl;
      })
    where
      raised : (m : ℕ) → max (cond (key.epoch == m) (pn + 1) 0) (next settings t m r) ≡ cond (m == key.epoch) (max (pn + 1) (next settings t m r)) (next settings t m r)
      raised m = by_test (m == key.epoch)
          (λ z. let back : (key.epoch == m) ≡ true = eq-eqb key.epoch m (sym (eqb-true m key.epoch z)) in rw (z, back) refl)
          (λ z. let back : (key.epoch == m) ≡ false = ne_eqb key.epoch m (λ e. absurd (cc (sym z ∙ eq-eqb m key.epoch (sym e)))) in rw (z, back) (omega arith))

  claim-on : (s user pn : ℕ) → LeavesOn (events.Claim s user pn) (claim_fact settings s r pn (transmitting_at settings s r) ∷ [])
  claim-on s user pn = by_test (pn == 0)
      (λ z. let zero_is = eqb-true pn 0 z in
      let f : claim_fact settings s r pn (transmitting_at settings s r) ≡ facts.Unclaimed s (lack settings s r (transmitting_at settings s r)) = rw z refl in
      subst (λ (fact : Fact). LeavesOn (events.Claim s user pn) (fact ∷ [])) (sym f)
      (refused-on s user pn (lack settings s r (transmitting_at settings s r)) (λ y. ap (λ (n : ℕ). (now k).present && nat_lt 0 n) zero_is ∙ and-false (now k).present)))
      (λ z. let more : nat_lt 0 pn ≡ true = lt-ltb 0 pn (let ne : pn ≡ 0 → ⊥ = (λ e. absurd (cc (sym z ∙ eq-eqb pn 0 e))) in omega (arith, ne)) in
      by_option (transmitting_at settings s r)
      (λ none. let f : claim_fact settings s r pn (transmitting_at settings s r) ≡ facts.Unclaimed s NoKey = rw (z, none) refl in
      subst (λ (fact : Fact). LeavesOn (events.Claim s user pn) (fact ∷ [])) (sym f)
      (refused-on s user pn NoKey (λ y. ap (λ (b : Bool). b && nat_lt 0 pn) (transmits-none (subst (λ v. transmitting_at settings v r ≡ None) (eqb-true s t y) none)))))
      (λ key some. let f : claim_fact settings s r pn (transmitting_at settings s r) ≡ facts.Claimed s key.an key.epoch pn = rw (z, some) refl in
      subst (λ (fact : Fact). LeavesOn (events.Claim s user pn) (fact ∷ [])) (sym f) (claimed-on s user pn key some more)))

  leaves-on : (users : List UserFrame) (e : Event) (f : List Fact) → Kind settings users r e f → LeavesOn e f
  leaves-on users e f (kinds.starts name sci priority mi ev q) =
      subst (λ v. LeavesOn v f) (sym ev) (quiet-on (events.Start name sci priority) f tt (quiet-leaves (events.Start name sci priority) f tt (subst AreOther (sym q) tt)))
  leaves-on users e f (kinds.ticks s n m ev living q) =
      subst (λ v. LeavesOn v f) (sym ev) (tick-on s n f (subst AreOther (sym q) (other-reaction s 0 (next_frame r) (turn_at_tick settings s r m n (sak_in f)).reaction)))
  leaves-on users e f (kinds.reached s number octets m (kinds.delivered g there same ev) living q) =
      subst (λ v. LeavesOn v f) (sym ev) (quiet-on (events.Deliver number s) f tt (quiet-leaves (events.Deliver number s) f tt (subst AreOther (sym q) (other-reached settings s r number octets m))))
  leaves-on users e f (kinds.reached s number octets m (kinds.injected zero_is ev) living q) =
      subst (λ v. LeavesOn v f) (sym ev) (quiet-on (events.Inject s octets) f tt (quiet-leaves (events.Inject s octets) f tt (subst AreOther (sym q) (other-reached settings s r number octets m))))
  leaves-on users e f (kinds.restarts s mi m ev drawn living q) =
      subst (λ v. LeavesOn v f) (sym ev) (quiet-on (events.Restart s) f tt (quiet-leaves (events.Restart s) f tt (subst AreOther (sym q) (other-reaction s 0 0 (ending m.member m.past)))))
  leaves-on users e f (kinds.claims s user pn ev q) =
      subst (λ v. LeavesOn v f) (sym ev) (subst (λ g. LeavesOn (events.Claim s user pn) g) (sym q) (claim-on s user pn))
  leaves-on users e f (kinds.emits w ev waits is) =
      let m = mapped (λ octets. facts.Framed (next_frame r) w.station true octets ∷ []) (frame_of_claim users r w) f is in
      subst (λ v. LeavesOn v f) (sym ev) (quiet-on events.Emit f tt (quiet-leaves events.Emit f tt (subst AreOther m.2 tt)))

-- the account of a run with an event more is the one before, onward by the event, with what its
-- facts moved
pub account-onward : (settings : Settings) (users : List UserFrame) (x : Happening) (r : Run) (t : ℕ) (k j : Carried) → Kind settings users r x.event x.facts → CarriesAt settings t r k
    → account_at settings t (x ∷ r) j ≡ record (onward t x.event (account_at settings t r k)) { carried = j }
account-onward settings users x r t k j kind carries =
    let a = leaves-on settings t r k carries users x.event x.facts kind in
    λ i. record { carried = j; nexts = λ n. a.nexts n i; claims = a.numbers i; shows = a.shows i }

-- the account of a run with an event more is the one before, ahead of the event, with what its facts
-- moved
pub account-on : (settings : Settings) (users : List UserFrame) (x : Happening) (r : Run) (t : ℕ) (k j : Carried) → Kind settings users r x.event x.facts → IsExact settings r x.event → CarriesAt settings t r k
    → account_at settings t (x ∷ r) j ≡ record (ahead t x.event (account_at settings t r k)) { carried = j }
account-on settings users x r t k j kind exact carries =
    let a = leaves settings t r k carries users x.event x.facts kind exact in
    λ i. record { carried = j; nexts = λ n. a.nexts n i; claims = a.numbers i; shows = a.shows i }
