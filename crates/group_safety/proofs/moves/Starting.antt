-- A station that has not started claimed nothing and showed nothing.
use Rattle.std.proofs.Common.{◌≡◌, ◌≢◌, ℕ, ◌≤◌, true, false, cond, List, [], ◌∷◌, length}
use Rattle.std.proofs.Common.{Option, Some, None, refl, sym, ap, ◌∙◌, subst, arith, length-append}
use Rattle.std.proofs.lemmas.Bool.{ne_eqb}
use Rattle.std.specs.Prelude.{◌==◌}
use Rattle.lan_base.specs.declared.frame.UserFrame.{UserFrame}
use Rattle.lan_base.specs.declared.association_number.AssociationNumber.{AssociationNumber}
use Rattle.sak_exchange.specs.declared.held_key.Key.{Key}
use Rattle.sak_exchange.proofs.Public.{by_test, by_option}
use Rattle.mka_station.specs.Restart.{ending}
use Rattle.lan_core.specs.declared.event.Event.{Event}
use Rattle.lan_core.specs.declared.event.Event.TheVariants as events
use Rattle.lan_core.specs.declared.fact.Fact.{Fact}
use Rattle.lan_core.specs.declared.fact.Fact.TheVariants as facts
use Rattle.lan_core.specs.declared.fact.Lack.{Lack}
use Rattle.lan_core.specs.declared.settings.Settings.{Settings}
use Rattle.lan_core.specs.Run.{Run, Happening, happened, stations, started}
use Rattle.lan_core.specs.Ledgers.{claims, next_frame}
use Rattle.lan_core.specs.Lives.{Life, life, transmitting_at, turn_at_tick, sak_in}
use Rattle.lan_core.specs.Claims.{next, shown_by, frame_of_claim}
use Rattle.lan_core.specs.Expected.{number_fact, lack}
use Rattle.lan_core.specs.Order.{IsAllowed}
use Rattle.lan_core.specs.Legal.{IsStepped}
use Rattle.lan_core.specs.Standing.{State, StandsFor}
use Rattle.group_safety.specs.Transmitting.{nothing, CarriesIn, CarriesAt}
use Rattle.group_safety.specs.Accounts.{blank, numbers_at, shows_at, account_at}
use Rattle.group_safety.proofs.once.Nexts.{mapped, stations-next}
use Rattle.group_safety.proofs.rollover.EventKinds.{Kind, kind}
use Rattle.group_safety.proofs.rollover.EventKinds as kinds
use Rattle.group_safety.proofs.moves.Known.{there-by}
use Rattle.group_safety.proofs.moves.Accounting.{AreOther, other-reaction, other-reached}
use Rattle.group_safety.proofs.moves.Accounting.{other-after, other-claims, next-is, next-first}
use Rattle.group_safety.proofs.moves.Accounting.{claims-are}

-- an event of a station that is another one, or of none
abbrev IsElse : ℕ → Event → Type 0
IsElse s (events.Tick t n) = t ≢ s
IsElse s (events.Claim t user pn) = t ≢ s
IsElse s _ = Unit {0}

-- what a run tells of the station is what the one before told
record Same (settings : Settings) (s : ℕ) (r : Run) (e : Event) (f : List Fact) : Type 0 where
  pub nexts : (n : ℕ) → next settings s n (happened e f ∷ r) ≡ next settings s n r
  pub numbers : numbers_at s (claims (happened e f ∷ r)) ≡ numbers_at s (claims r)
  pub shows : shows_at s (happened e f ∷ r) ≡ shows_at s r

module _ (settings : Settings) (s : ℕ) (r : Run) where
  by-none : (e : Event) (f : List Fact) → ((n : ℕ) → shown_by settings s n r f e ≡ 0) → AreOther f → shows_at s (happened e f ∷ r) ≡ shows_at s r → Same settings s r e f
  by-none e f none are shows = record {
    nexts = λ n. let z = next-is settings s n (happened e f) r in let y = none n in omega arith;
    numbers = ap (numbers_at s) (claims-are (happened e f) r ∙ other-claims f (claims r) are);
    shows = shows;
  }

  by-event : (e : Event) (f : List Fact) → IsElse s e → AreOther f → Same settings s r e f
  by-event (events.Start name sci priority) f else_one are = by-none _ f (λ n. other-after s n f are) are refl
  by-event (events.Tick t n) f else_one are = let y : (t == s) ≡ false = ne_eqb t s else_one in by-none (events.Tick t n) f (λ n. rw y refl) are (rw y refl)
  by-event (events.Deliver frame t) f else_one are = by-none _ f (λ n. other-after s n f are) are refl
  by-event (events.Restart t) f else_one are = by-none _ f (λ n. other-after s n f are) are refl
  by-event (events.Claim t user pn) f else_one are = by-none (events.Claim t user pn) f (λ n. other-after s n f are) are refl
  by-event events.Emit f else_one are = by-none _ f (λ n. other-after s n f are) are refl
  by-event (events.Inject t octets) f else_one are = by-none _ f (λ n. other-after s n f are) are refl

  by-number : (t user pn : ℕ) (an : AssociationNumber) (epoch : ℕ) → t ≢ s → Same settings s r (events.Claim t user pn) (facts.Claimed t an epoch pn ∷ [])
  by-number t user pn an epoch else_one = let y : (t == s) ≡ false = ne_eqb t s else_one in let x = happened (events.Claim t user pn) (facts.Claimed t an epoch pn ∷ []) in record {
    nexts = λ n. next-is settings s n x r ∙ rw y (omega arith);
    numbers = ap (numbers_at s) (claims-are x r) ∙ rw y refl;
    shows = refl;
  }

  by-claim : (t user pn : ℕ) (o : Option Key) (why : Lack) → t ≢ s → Same settings s r (events.Claim t user pn) (cond (pn == 0) (facts.Unclaimed t why) (number_fact t pn o) ∷ [])
  by-claim t user pn o why else_one = by_test (pn == 0)
      (λ y. rw y (by-event (events.Claim t user pn) (facts.Unclaimed t why ∷ []) else_one tt))
      (λ y. rw y (go o))
    where
      go : (o : Option Key) → Same settings s r (events.Claim t user pn) (number_fact t pn o ∷ [])
      go None = by-event (events.Claim t user pn) _ else_one tt
      go (Some k) = by-number t user pn k.an k.epoch else_one

  by-kind : (users : List UserFrame) (e : Event) (f : List Fact) → Kind settings users r e f → IsElse s e → Same settings s r e f
  by-kind users e f (kinds.starts name sci priority mi ev q) else_one = by-event e f else_one (subst AreOther (sym q) tt)
  by-kind users e f (kinds.ticks t n m ev living q) else_one = by-event e f else_one (subst AreOther (sym q) (other-reaction t 0 (next_frame r) (turn_at_tick settings t r m n (sak_in f)).reaction))
  by-kind users e f (kinds.reached t number octets m came living q) else_one = by-event e f else_one (subst AreOther (sym q) (other-reached settings t r number octets m))
  by-kind users e f (kinds.restarts t mi m ev drawn living q) else_one = by-event e f else_one (subst AreOther (sym q) (other-reaction t 0 0 (ending m.member m.past)))
  by-kind users e f (kinds.claims t user pn ev q) else_one =
      subst (λ v. Same settings s r v f) (sym ev) (subst (λ g. Same settings s r (events.Claim t user pn) g) (sym q)
      (by-claim t user pn (transmitting_at settings t r) (lack settings t r (transmitting_at settings t r)) (subst (IsElse s) ev else_one)))
  by-kind users e f (kinds.emits w ev waits is) else_one =
      let m = mapped (λ octets. facts.Framed (next_frame r) w.station true octets ∷ []) (frame_of_claim users r w) f is in
      by-event e f else_one (subst AreOther m.2 tt)

else-by : (settings : Settings) (users : List UserFrame) (r : Run) (x : Happening) (e : Event) (s : ℕ) → length (stations r) ≤ s → IsAllowed settings users r x e → IsElse s e
else-by settings users r x (events.Start name sci priority) s past is = tt
else-by settings users r x (events.Tick t n) s past is = λ same. let there = is.0 in absurd (omega (arith, same, there, past))
else-by settings users r x (events.Deliver frame t) s past is = tt
else-by settings users r x (events.Restart t) s past is = tt
else-by settings users r x (events.Claim t user pn) s past is = λ same. let there = is.0 in absurd (omega (arith, same, there, past))
else-by settings users r x events.Emit s past is = tt
else-by settings users r x (events.Inject t octets) s past is = tt

claims-first : claims [] ≡ []
unfolding claims
claims-first = refl

-- what is told of a station before it starts
pub record IsBlank (settings : Settings) (s : ℕ) (r : Run) : Type 0 where
  pub nexts : (n : ℕ) → next settings s n r ≡ 1
  pub numbers : numbers_at s (claims r) ≡ []
  pub shows : shows_at s r ≡ []

pub blank-before : (settings : Settings) (users : List UserFrame) (r : Run) (s : ℕ) → IsStepped settings users r → length (stations r) ≤ s → IsBlank settings s r
blank-before settings users [] s stepped past = record { nexts = λ n. next-first settings s n; numbers = ap (numbers_at s) claims-first; shows = refl }
blank-before settings users (x ∷ r) s stepped past =
    let fewer : length (stations r) ≤ s = (let z = ap length (stations-next x r) ∙ length-append (stations r) (started x.event) in omega (arith, z, past)) in
    let b = blank-before settings users r s stepped.1 fewer in
    let a = by-kind settings s r users x.event x.facts (kind settings users x r stepped.0) (else-by settings users r x x.event s fewer stepped.0.in_order.1) in
    record { nexts = λ n. a.nexts n ∙ b.nexts n; numbers = a.numbers ∙ b.numbers; shows = a.shows ∙ b.shows }

-- and its account is blank
pub blank-account : (settings : Settings) (s : ℕ) (r : Run) → IsBlank settings s r → account_at settings s r nothing ≡ blank
blank-account settings s r b = λ i. record { carried = nothing; nexts = λ n. b.nexts n i; claims = b.numbers i; shows = b.shows i }

-- nothing is carried there
pub nothing-carried : (settings : Settings) (users : List UserFrame) (old : State) (r : Run) (s : ℕ) → StandsFor settings users old r → length (stations r) ≤ s → CarriesAt settings s r nothing
nothing-carried settings users old r s before past =
    let never : life settings s r ≡ None = by_option (life settings s r) (λ none. none) (λ l some. let less = there-by settings users old r before s l some in absurd (omega arith)) in
    subst (λ (o : Option Life). CarriesIn o nothing) (sym never) refl
