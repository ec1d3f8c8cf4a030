-- What is counted, on a worked example: two numbers of epoch 3 were claimed and one was lost, so the
-- word is one ahead of what was claimed.
use Rattle.std.proofs.Common.{◌≡◌, ℕ, Bool, true, false, List, [], ◌∷◌, refl}
use Rattle.lan_base.specs.declared.association_number.AssociationNumber.TheVariants.{An0, An1}
use Rattle.association_slots.specs.Views.{count, claimed, lost, told_sum}
use Rattle.association_slots.specs.Steps.{at_first}
use Rattle.association_slots.specs.declared.view.Addition.{Addition}
use Rattle.association_slots.specs.declared.view.ControlView.{ControlView}
use Rattle.station_words.specs.Counting.{times_in, times_under, past_claims, greatest_seen}

abbrev numbers : List (ℕ × ℕ)
numbers = (3, 2) ∷ (2, 9) ∷ (3, 1) ∷ []

abbrev an_addition : Bool → ℕ → Addition
an_addition got pn = record { seat = 1; an = An1; met = 3; loaded = 3; claimed = got; pn = pn }

abbrev view : ControlView
view = record (at_first 1 4096) {
  told = an_addition true 2 ∷ an_addition false 0 ∷ an_addition true 1 ∷ [];
  loads = record { an = An1; epoch = 3; next = 4 } ∷ record { an = An0; epoch = 2; next = 10 } ∷ [];
}

twice-none : times_in 3 2 numbers ≡ 1
twice-none = refl

under : times_under 3 numbers ≡ 2
under = refl

past : past_claims 3 numbers ≡ 3
past = refl

past-other : past_claims 4 numbers ≡ 0
past-other = refl

seen : greatest_seen 3 view.loads ≡ 4
seen = refl

-- what the words show, and what a run shows in which a tick showed 4 behind the claims
ahead : told_sum view An1 3 ≡ 4
ahead = refl

lost-one : count (lost An1 3) view.told ≡ 1
lost-one = refl

each-told : count (claimed 3 2) view.told ≡ 1
each-told = refl
