-- What passes from a run to what comes before its later events.
use Rattle.std.proofs.Common.{◌≡◌, ◌<◌, ◌≤◌, ℕ, List, [], ◌∷◌, ◌++◌, map, Option, Some, None, arith}
use Rattle.lan_base.specs.declared.association_number.AssociationNumber.{AssociationNumber}
use Rattle.lan_base.specs.declared.frame.UserFrame.{UserFrame}
use Rattle.sak_exchange.specs.declared.held_key.Key.{Key}
use Rattle.lan_core.specs.declared.fact.Fact.{Fact}
use Rattle.lan_core.specs.declared.settings.Settings.{Settings}
use Rattle.lan_core.specs.declared.event.Event.TheVariants as events
use Rattle.lan_core.specs.Run.{Run, Happening, happened}
use Rattle.lan_core.specs.Lives.{transmitting_at}
use Rattle.lan_core.specs.Ledgers.{Birth, born, births, gather, with_one}
use Rattle.lan_core.specs.Claims.{next, a_claim}
use Rattle.lan_core.specs.Legal.{IsStepped}
use Rattle.lan_base.specs.Differing.{AllDiffer}
use Rattle.lan_core.specs.Fresh.{IsFresh, drawn_mis, drawn_saks, sak_drawn, IsUnforged}

pub front-stepped : (settings : Settings) (users : List UserFrame) (later front : Run)
    → IsStepped settings users (later ++ front) → IsStepped settings users front
front-stepped settings users [] front all = all
front-stepped settings users (x ∷ later) front (step, before) =
    front-stepped settings users later front before

pub front-unforged : (settings : Settings) (later front : Run)
    → IsUnforged settings (later ++ front) → IsUnforged settings front
front-unforged settings [] front all = all
front-unforged settings (x ∷ later) front (last, before) =
    front-unforged settings later front before

-- ---- packet numbers

step-rises : (settings : Settings) (s epoch : ℕ) (x : Happening) (r : Run)
    → next settings s epoch r ≤ next settings s epoch (x ∷ r)
unfolding next
step-rises settings s epoch x r = omega arith

pub never-falls : (settings : Settings) (s epoch : ℕ) (later front : Run)
    → next settings s epoch front ≤ next settings s epoch (later ++ front)
never-falls settings s epoch [] front = omega arith
never-falls settings s epoch (x ∷ later) front =
    let before = never-falls settings s epoch later front in
    let step = step-rises settings s epoch x (later ++ front) in
    omega arith

claim-passed : (settings : Settings) (s user : ℕ) (an : AssociationNumber) (epoch pn : ℕ)
    (front : Run)
    → pn < next settings s epoch (a_claim s user an epoch pn ∷ front)
unfolding next
claim-passed settings s user an epoch pn front = search arith

pub stays-passed : (settings : Settings) (s user : ℕ) (an : AssociationNumber) (epoch pn : ℕ)
    (later front : Run)
    → pn < next settings s epoch (later ++ a_claim s user an epoch pn ∷ front)
stays-passed settings s user an epoch pn later front =
    let passed = claim-passed settings s user an epoch pn front in
    let stays = never-falls settings s epoch later (a_claim s user an epoch pn ∷ front) in
    omega arith

tick-kept : (settings : Settings) (s shown : ℕ) (k : Key) (told : List Fact) (front : Run)
    → transmitting_at settings s front ≡ Some k
    → shown ≤ next settings s k.epoch (happened (events.Tick s shown) told ∷ front)
unfolding next
tick-kept settings s shown k told front is = rw is (search arith)

pub stays-kept : (settings : Settings) (s shown : ℕ) (k : Key) (told : List Fact)
    (later front : Run) → transmitting_at settings s front ≡ Some k
    → shown ≤ next settings s k.epoch (later ++ happened (events.Tick s shown) told ∷ front)
stays-kept settings s shown k told later front is =
    let kept = tick-kept settings s shown k told front is in
    let stays =
    never-falls settings s k.epoch later (happened (events.Tick s shown) told ∷ front) in
    omega arith

-- ---- draws

without-one : {A B : Type 0} (f : A → B) (o : Option A) (xs : List A)
    → AllDiffer (map f (with_one o xs)) → AllDiffer (map f xs)
without-one f None xs all = all
without-one f (Some x) xs (differs, all) = all

without-facts : (shown : List Fact) (bs : List Birth)
    → AllDiffer (map (λ b. b.mi) (gather born shown bs)) → AllDiffer (map (λ b. b.mi) bs)
without-facts [] bs all = all
without-facts (fact ∷ shown) bs all =
    without-one (λ b. b.mi) (born fact) bs (without-facts shown (with_one (born fact) bs) all)

front-mis : (later front : Run)
    → AllDiffer (drawn_mis (later ++ front)) → AllDiffer (drawn_mis front)
unfolding births
front-mis [] front all = all
front-mis (x ∷ later) front all =
    front-mis later front (without-facts x.facts (births (later ++ front)) all)

without-sak : (o : Option (List ℕ)) (saks : List (List ℕ))
    → AllDiffer (with_one o saks) → AllDiffer saks
without-sak None saks all = all
without-sak (Some sak) saks (differs, all) = all

front-saks : (later front : Run)
    → AllDiffer (drawn_saks (later ++ front)) → AllDiffer (drawn_saks front)
unfolding drawn_saks
front-saks [] front all = all
front-saks (x ∷ later) front all =
    front-saks later front
    (without-sak (sak_drawn x.facts x.event) (drawn_saks (later ++ front)) all)

pub front-fresh : (later front : Run) → IsFresh (later ++ front) → IsFresh front
front-fresh later front fresh =
    record { mis = front-mis later front fresh.mis; saks = front-saks later front fresh.saks }
