-- A tick that changes no key.
use Rattle.std.proofs.Common.{◌≡◌, ℕ, Bool, true, false, cond, not, ◌&&◌, List, [], ◌∷◌, Option, Some, None, is_some, is_none, refl, ap, sym, ◌∙◌}
use Rattle.std.proofs.lemmas.Bool.{and_parts}
use Rattle.std.specs.Prelude.{◌==◌}
use Rattle.std.specs.Option.{option_map}
use Rattle.lan_base.specs.declared.address.Mi.{Mi}
use Rattle.lan_base.specs.Timers.{retire_time}
use Rattle.sak_exchange.specs.declared.held_key.Key.{Key}
use Rattle.sak_exchange.specs.declared.report.Report.{Report}
use Rattle.sak_exchange.specs.Histories.{Keying, ticked, last_roster, has_begun}
use Rattle.sak_exchange.specs.Held.{latest, old, transmitting, received, held, KeepsRules}
use Rattle.sak_exchange.specs.Beginning.{leads}
use Rattle.sak_exchange.specs.Outcomes.{dropping, retiring}
use Rattle.sak_exchange.specs.Stills.{IsStill}
use Rattle.sak_exchange.specs.Standing.{State, StandsFor, kept_of}
use Rattle.sak_exchange.specs.inside.States.{counted, ticked_now, retires_now, stays_now}
use Rattle.sak_exchange.proofs.Cases.{by_option, not-true}
use Rattle.sak_exchange.proofs.Shape.{none, one, two, shape, latest-one, latest-two}
use Rattle.sak_exchange.proofs.Entries.{is_over, current-begun, current-none, keys-ticked, keys-dropped, transmitting-is}
use Rattle.sak_exchange.proofs.Ticks.{stands-ticked, retires-told}

-- ---- nothing is held

none-former : (h : List Keying) (o : Option Key) → is_none (option_map (held h) o) ≡ true → o ≡ None
none-former h None is = refl
none-former h (Some k) is = absurd (cc (is))

none-received : (base : ℕ) (h : List Keying) → KeepsRules base h → latest h ≡ None → received h ≡ []
none-received base h kept is =
    elim (shape base h kept) [
      | none r ↦ r
      | one l r last ↦ absurd (cc ((latest-one h l r last).0, is))
      | two l o r last b ↦ absurd (cc ((latest-two h l o r last b.less).0, is))
    ]

unled-none : (h : List Keying) (live : List Report) → latest h ≡ None → leads h live ≡ None
unled-none h live is = rw is refl

retired-nothing : (h : List Keying) → latest h ≡ None → (retiring h).changes ≡ []
retired-nothing h is = rw is refl

dropped-nothing : (h : List Keying) → received h ≡ [] → (dropping h).changes ≡ []
dropped-nothing h is = rw is refl

none-kept : (base : ℕ) (h : List Keying) → KeepsRules base h → latest h ≡ None → transmitting h ≡ None
none-kept base h kept is = transmitting-is base h kept ∙ current-none base h kept is

still-bare : (elected : Bool) (base : ℕ) (h : List Keying) → KeepsRules base h → latest h ≡ None → old h ≡ None → IsStill elected h
still-bare false base h kept l o =
    let keys = keys-dropped h in record {
      ended = dropped-nothing h (none-received base h kept l);
      unled = λ live. unled-none (ticked false ∷ h) live keys.latest;
      latest = keys.latest ∙ sym l;
      old = keys.old ∙ sym o;
      transmitting = none-kept base (ticked false ∷ h) kept keys.latest ∙ sym (none-kept base h kept l);
    }
still-bare true base h kept l o =
    let keys = keys-ticked base h kept in
    let over : is_over h ≡ false = rw l refl in
    record {
      ended = retired-nothing h l;
      unled = λ live. unled-none (ticked true ∷ h) live (keys.latest ∙ l);
      latest = keys.latest;
      old = keys.old ∙ ap (λ (b : Bool). cond b None (old h)) over;
      transmitting = none-kept base (ticked true ∷ h) kept (keys.latest ∙ l) ∙ sym (none-kept base h kept l);
    }

-- ---- the latest key has begun, and retires none

never-told : {A : Type 0} (b : Bool) (o : Option A) → cond (b && false) o None ≡ None
never-told true o = refl
never-told false o = refl

unled-begun : (h : List Keying) (live : List Report) (k : Key) → latest h ≡ Some k → has_begun h k.epoch ≡ true → leads h live ≡ None
unled-begun h live k is begun = rw (is, begun) (never-told (is_some (last_roster h)) _)

retired-unover : (h : List Keying) → is_over h ≡ false → (retiring h).changes ≡ []
retired-unover h is = rw is refl

still-begun : (base : ℕ) (h : List Keying) (k : Key) → KeepsRules base h → latest h ≡ Some k → has_begun h k.epoch ≡ true → is_over h ≡ false → IsStill true h
still-begun base h k kept is begun over =
    let keys = keys-ticked base h kept in
    let after : latest (ticked true ∷ h) ≡ Some k = keys.latest ∙ is in
    record {
      ended = retired-unover h over;
      unled = λ live. unled-begun (ticked true ∷ h) live k after begun;
      latest = keys.latest;
      old = keys.old ∙ ap (λ (b : Bool). cond b None (old h)) over;
      transmitting = transmitting-is base (ticked true ∷ h) kept ∙ current-begun (ticked true ∷ h) k after begun ∙ sym (transmitting-is base h kept ∙ current-begun h k is begun);
    }

-- ---- both

over-later : (base : ℕ) (own : Mi) (s : State) (h : List Keying) (k : Key) → StandsFor base own false s h → latest h ≡ Some k → has_begun h k.epoch ≡ true → (counted (kept_of false h k).since_begun == retire_time) ≡ is_over h
over-later base own s h k t is begun =
    let now = t.latest ∙ ap (option_map (kept_of false h)) is in
    let after : retires_now (ticked_now s) ≡ (counted (kept_of false h k).since_begun == retire_time) = rw (now, begun) refl in
    sym after ∙ retires-told base own (ticked_now s) h (stands-ticked base own s h t)

pub still : (elected : Bool) (base : ℕ) (own : Mi) (s : State) (h : List Keying) → StandsFor base own false s h → stays_now elected s ≡ true → IsStill elected h
still elected base own s h t stays =
    by_option (latest h)
    (λ is. let now : s.latest ≡ None = t.latest ∙ ap (option_map (kept_of false h)) is in
    let former : is_none s.former ≡ true = rw now at stays in
    still-bare elected base h t.kept is (none-former h (old h) (rw t.former at former)))
    (λ k is. let now : s.latest ≡ Some (kept_of false h k) = t.latest ∙ ap (option_map (kept_of false h)) is in
    let all : (elected && (has_begun h k.epoch && not (counted (kept_of false h k).since_begun == retire_time))) ≡ true = rw now at stays in
    let parts = and_parts elected (has_begun h k.epoch && not (counted (kept_of false h k).since_begun == retire_time)) all in
    let rest = and_parts (has_begun h k.epoch) (not (counted (kept_of false h k).since_begun == retire_time)) parts.1 in
    let over = sym (over-later base own s h k t is rest.0) ∙ not-true (counted (kept_of false h k).since_begun == retire_time) rest.1 in
    rw parts.0 (still-begun base h k t.kept is rest.0 over))

-- what stands a still tick later
pub stands-still : (elected : Bool) (base : ℕ) (own : Mi) (s : State) (h : List Keying) → StandsFor base own false s h → IsStill elected h → StandsFor base own false (ticked_now s) (ticked elected ∷ h)
stands-still elected base own s h t still =
    let u = stands-ticked base own s h t in record {
      kept = u.kept;
      numbered = u.numbered;
      owner = u.owner;
      latest = u.latest ∙ ap (option_map (kept_of true h)) (sym still.latest);
      former = u.former ∙ ap (option_map (held h)) (sym still.old);
      roster = u.roster;
      epochs = u.epochs;
      numbers = u.numbers;
      made = u.made;
      since_made = u.since_made;
      last_an = u.last_an;
    }
