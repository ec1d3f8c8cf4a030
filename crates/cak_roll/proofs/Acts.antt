-- What a twin knows of its groups: their next numbers, and whether a key transmits.
use Rattle.std.proofs.Common.{◌≡◌, ℕ, true, false, List, [], ◌∷◌}
use Rattle.std.proofs.Common.{Option, Some, None, sym, ap, ◌∙◌, subst}
use Rattle.std.specs.Prelude.{is_some, slice_get, option_map, option_to_list}
use Rattle.lan_base.specs.declared.frame.UserFrame.{UserFrame}
use Rattle.lan_core.specs.declared.event.Event.TheVariants as events
use Rattle.lan_core.specs.Lives.{life, transmitting_at}
use Rattle.lan_core.specs.Unstopped.{next_under}
use Rattle.cak_roll.specs.declared.event.GroupNumber.{GroupNumber}
use Rattle.cak_roll.specs.declared.event.GroupNumber.TheVariants.{First, Second}
use Rattle.cak_roll.specs.declared.event.TwinEvent.TheVariants as twins
use Rattle.cak_roll.specs.declared.members.Station.{Station}
use Rattle.cak_roll.specs.Twin.{Pair, of_group, setting_of, Twin, run_of, merged, events_in, start_of}
use Rattle.cak_roll.specs.Twin.{same_group, only, sent_as, place_in, takes_part, next_in, claimed_in}
use Rattle.cak_roll.specs.Twin.{carrier}
use Rattle.cak_roll.specs.Standing.{Side, StandsIn, Held, IfThere, StandsFor, profile_of}
use Rattle.cak_roll.proofs.MembersFollow.{profile-at}

some-same : {A : Type 0} {a b : A} → Some a ≡ Some b → a ≡ b
some-same e = cc e

module _ (pair : Pair) (users : List UserFrame) (t : Twin) (held : Held)
    (stands : StandsFor pair users held t) where
  -- a group that is there
  pub side-stands : (g : GroupNumber) (side : Side)
      → of_group g (Some held.first) held.second ≡ Some side
      → StandsIn (setting_of pair g) users (run_of g t) (merged t) side
  side-stands First side is =
      subst (StandsIn pair.first users (run_of First t) (merged t)) (some-same is)
      stands.groups.first
  side-stands Second side is =
      subst (IfThere pair.second users (run_of Second t) (merged t)) is stands.groups.second

  -- a group that is not there
  pub side-absent : (g : GroupNumber) → of_group g (Some held.first) held.second ≡ None
      → run_of g t ≡ []
  side-absent First is = absurd (cc is)
  side-absent Second is =
      subst (IfThere pair.second users (run_of Second t) (merged t)) is stands.groups.second

  pub no-key : (g : GroupNumber) (place : ℕ) → of_group g (Some held.first) held.second ≡ None
      → false ≡ is_some (transmitting_at (setting_of pair g) place (run_of g t))
  unfolding life
  no-key g place is =
      sym (ap (λ r. is_some (transmitting_at (setting_of pair g) place r)) (side-absent g is))

  pub no-number : (g : GroupNumber) (s : ℕ) → of_group g (Some held.first) held.second ≡ None
      → 0 ≡ next_in pair g s t
  unfolding life
  no-number g s is =
      sym (ap (λ r. next_under (setting_of pair g) (place_in g s t) r
      (transmitting_at (setting_of pair g) (place_in g s t) r)) (side-absent g is))

  -- an adoption is a start, as that in the first group
  pub adopts : (s : ℕ) (o : Option Station) → slice_get held.members.stations s ≡ o
      → events_in pair Second t (twins.Adopt s)
      ≡ option_to_list (option_map start_of (option_map profile_of o))
  adopts s o is =
      ap (λ o. option_to_list (option_map start_of o))
      (profile-at t held.members s stands.members ∙ ap (option_map profile_of) is)

-- ---- what an event is in a group

pub tick-there : (pair : Pair) (t : Twin) (g of : GroupNumber) (s place next : ℕ)
    → same_group of g ≡ true → place ≡ place_in g s t → next ≡ next_in pair g s t
    → events.Tick place next ∷ [] ≡ events_in pair g t (twins.Tick s of)
tick-there pair t g of s place next same at is =
    rw (at, is) (sym (ap (λ b. only b (events.Tick (place_in g s t) (next_in pair g s t) ∷ [])) same))

pub tick-elsewhere : (pair : Pair) (t : Twin) (g of : GroupNumber) (s : ℕ)
    → same_group of g ≡ false → [] ≡ events_in pair g t (twins.Tick s of)
tick-elsewhere pair t g of s other =
    sym (ap (λ b. only b (events.Tick (place_in g s t) (next_in pair g s t) ∷ [])) other)

pub delivery-there : (pair : Pair) (t : Twin) (g of : GroupNumber) (frame s place : ℕ)
    → same_group of g ≡ true → place ≡ place_in g s t
    → events.Deliver frame place ∷ [] ≡ events_in pair g t (twins.Deliver of frame s)
delivery-there pair t g of frame s place same at =
    rw at (sym (ap (λ b. only b (events.Deliver frame (place_in g s t) ∷ [])) same))

pub delivery-elsewhere : (pair : Pair) (t : Twin) (g of : GroupNumber) (frame s : ℕ)
    → same_group of g ≡ false → [] ≡ events_in pair g t (twins.Deliver of frame s)
delivery-elsewhere pair t g of frame s other =
    sym (ap (λ b. only b (events.Deliver frame (place_in g s t) ∷ [])) other)

pub restart-there : (pair : Pair) (t : Twin) (g : GroupNumber) (s place : ℕ)
    → takes_part g s t ≡ true → place ≡ place_in g s t
    → events.Restart place ∷ [] ≡ events_in pair g t (twins.Restart s)
restart-there pair t g s place part at =
    rw at (sym (ap (λ b. only b (events.Restart (place_in g s t) ∷ [])) part))

pub restart-elsewhere : (pair : Pair) (t : Twin) (g : GroupNumber) (s : ℕ)
    → takes_part g s t ≡ false → [] ≡ events_in pair g t (twins.Restart s)
restart-elsewhere pair t g s none =
    sym (ap (λ b. only b (events.Restart (place_in g s t) ∷ [])) none)

pub send-there : (pair : Pair) (t : Twin) (g : GroupNumber) (s user place pn : ℕ)
    → same_group (carrier pair s t) g ≡ true → place ≡ place_in g s t → pn ≡ claimed_in pair g s t
    → sent_as place user pn ≡ events_in pair g t (twins.Send s user)
send-there pair t g s user place pn same at is =
    ap (λ place. sent_as place user pn) at ∙ ap (λ pn. sent_as (place_in g s t) user pn) is
    ∙ sym (ap (λ b. only b (sent_as (place_in g s t) user (claimed_in pair g s t))) same)

pub send-elsewhere : (pair : Pair) (t : Twin) (g : GroupNumber) (s user : ℕ)
    → same_group (carrier pair s t) g ≡ false → [] ≡ events_in pair g t (twins.Send s user)
send-elsewhere pair t g s user other =
    sym (ap (λ b. only b (sent_as (place_in g s t) user (claimed_in pair g s t))) other)
