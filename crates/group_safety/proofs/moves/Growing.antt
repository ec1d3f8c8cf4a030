-- A next number grows by one with a claim, and with nothing else.
use Rattle.std.proofs.Common.{◌≡◌, ℕ, ◌+◌, ◌≤◌, true, cond, List, [], ◌∷◌, Option, Some, None, refl, sym, ap}
use Rattle.std.proofs.Common.{◌∙◌, subst, arith}
use Rattle.std.proofs.lemmas.Bool.{eqb-true}
use Rattle.std.specs.Prelude.{◌==◌}
use Rattle.lan_base.specs.declared.frame.UserFrame.{UserFrame}
use Rattle.sak_exchange.specs.declared.held_key.Key.{Key}
use Rattle.sak_exchange.proofs.Public.{by_test}
use Rattle.mka_station.specs.Restart.{ending}
use Rattle.lan_core.specs.declared.event.Event.{Event}
use Rattle.lan_core.specs.declared.event.Event.TheVariants as events
use Rattle.lan_core.specs.declared.fact.Fact.{Fact}
use Rattle.lan_core.specs.declared.fact.Fact.TheVariants as facts
use Rattle.lan_core.specs.declared.fact.Lack.{Lack}
use Rattle.lan_core.specs.declared.settings.Settings.{Settings}
use Rattle.lan_core.specs.Run.{Run, happened}
use Rattle.lan_core.specs.Ledgers.{next_frame}
use Rattle.lan_core.specs.Lives.{transmitting_at}
use Rattle.lan_core.specs.Claims.{next, shown_by, after_claim, is_epoch, frame_of_claim}
use Rattle.lan_core.specs.Unstopped.{next_under}
use Rattle.lan_core.specs.Expected.{number_fact, lack}
use Rattle.group_safety.specs.Accounts.{IsExact, claims_of}
use Rattle.group_safety.proofs.once.Nexts.{mapped}
use Rattle.group_safety.proofs.rollover.EventKinds.{Kind}
use Rattle.group_safety.proofs.rollover.EventKinds as kinds
use Rattle.group_safety.proofs.moves.Accounting.{AreOther, other-reaction, other-reached}
use Rattle.group_safety.proofs.moves.Accounting.{other-after, next-is}

module _ (settings : Settings) (r : Run) (s m : ℕ) where
  shown-few : (e : Event) (f : List Fact) (n : ℕ) → shown_by settings s m r f e ≤ next settings s m r + n → next settings s m (happened e f ∷ r) ≤ next settings s m r + n
  shown-few e f n few = let z = next-is settings s m (happened e f) r in omega arith

  other-few : (e : Event) (f : List Fact) → AreOther f → shown_by settings s m r f e ≡ after_claim s m f → next settings s m (happened e f ∷ r) ≤ next settings s m r + claims_of e
  other-few e f are is = shown-few e f (claims_of e) (let z = is ∙ other-after s m f are in omega arith)

  tick-few : (t n : ℕ) (f : List Fact) → n ≡ next_under settings t r (transmitting_at settings t r) → next settings s m (happened (events.Tick t n) f ∷ r) ≤ next settings s m r + 0
  tick-few t n f is = shown-few (events.Tick t n) f 0 (by_test (t == s)
      (λ y. let here = subst (λ v. n ≡ next_under settings v r (transmitting_at settings v r)) (eqb-true t s y) is in rw y (under (transmitting_at settings s r) here))
      (λ y. rw y (omega arith)))
    where
      under : (o : Option Key) → n ≡ next_under settings s r o → cond (is_epoch m o) n 0 ≤ next settings s m r + 0
      under None here = omega arith
      under (Some key) here = by_test (key.epoch == m)
          (λ y. let same : next settings s key.epoch r ≡ next settings s m r = ap (λ v. next settings s v r) (eqb-true key.epoch m y) in rw y (omega (arith, same, here)))
          (λ y. rw y (omega arith))

  claim-few : (t user pn : ℕ) (o : Option Key) (why : Lack) → pn ≡ next_under settings t r o → next settings s m (happened (events.Claim t user pn) (cond (pn == 0) (facts.Unclaimed t why) (number_fact t pn o) ∷ []) ∷ r) ≤ next settings s m r + 1
  claim-few t user pn o why is = shown-few (events.Claim t user pn) (cond (pn == 0) (facts.Unclaimed t why) (number_fact t pn o) ∷ []) 1
      (by_test (pn == 0) (λ y. rw y (omega arith)) (λ y. rw y (under o is)))
    where
      under : (o : Option Key) → pn ≡ next_under settings t r o → after_claim s m (number_fact t pn o ∷ []) ≤ next settings s m r + 1
      under None is = omega arith
      under (Some key) is = by_test (t == s)
          (λ y. by_test (key.epoch == m)
          (λ z. let same : next settings t key.epoch r ≡ next settings s m r = (λ i. next settings (eqb-true t s y i) (eqb-true key.epoch m z i) r) in rw (y, z) (omega (arith, same, is)))
          (λ z. rw (y, z) (omega arith)))
          (λ y. rw y (omega arith))

  pub few : (users : List UserFrame) (e : Event) (f : List Fact) → Kind settings users r e f → IsExact settings r e → next settings s m (happened e f ∷ r) ≤ next settings s m r + claims_of e
  few users e f (kinds.starts name sci priority mi ev q) exact =
      subst (λ v. next settings s m (happened v f ∷ r) ≤ next settings s m r + claims_of v) (sym ev) (other-few (events.Start name sci priority) f (subst AreOther (sym q) tt) refl)
  few users e f (kinds.ticks t n l ev living q) exact =
      subst (λ v. next settings s m (happened v f ∷ r) ≤ next settings s m r + claims_of v) (sym ev) (tick-few t n f (subst (IsExact settings r) ev exact))
  few users e f (kinds.reached t number octets l (kinds.delivered g there same ev) living q) exact =
      subst (λ v. next settings s m (happened v f ∷ r) ≤ next settings s m r + claims_of v) (sym ev) (other-few (events.Deliver number t) f (subst AreOther (sym q) (other-reached settings t r number octets l)) refl)
  few users e f (kinds.reached t number octets l (kinds.injected zero_is ev) living q) exact =
      subst (λ v. next settings s m (happened v f ∷ r) ≤ next settings s m r + claims_of v) (sym ev) (other-few (events.Inject t octets) f (subst AreOther (sym q) (other-reached settings t r number octets l)) refl)
  few users e f (kinds.restarts t mi l ev drawn living q) exact =
      subst (λ v. next settings s m (happened v f ∷ r) ≤ next settings s m r + claims_of v) (sym ev) (other-few (events.Restart t) f (subst AreOther (sym q) (other-reaction t 0 0 (ending l.member l.past))) refl)
  few users e f (kinds.claims t user pn ev q) exact =
      subst (λ v. next settings s m (happened v f ∷ r) ≤ next settings s m r + claims_of v) (sym ev) (subst (λ g. next settings s m (happened (events.Claim t user pn) g ∷ r) ≤ next settings s m r + 1) (sym q)
      (claim-few t user pn (transmitting_at settings t r) (lack settings t r (transmitting_at settings t r)) (subst (IsExact settings r) ev exact)))
  few users e f (kinds.emits w ev waits is) exact =
      let a = mapped (λ octets. facts.Framed (next_frame r) w.station true octets ∷ []) (frame_of_claim users r w) f is in
      subst (λ v. next settings s m (happened v f ∷ r) ≤ next settings s m r + claims_of v) (sym ev) (other-few events.Emit f (subst AreOther a.2 tt) refl)
