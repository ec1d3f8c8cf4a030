-- The packet numbers that ticks show and stations claim. Before the first race each is the next
-- one. From then on a slot word may be ahead, by additions that got no number, and what it shows is
-- left to chance; it is never below the next number.
use Rattle.std.specs.Prelude.{ℕ, if◌then◌else◌, List, [], ◌∷◌, nat_le, Bool, false, ◌&&◌, drop}
use Rattle.lan_core.specs.Expected.{last_number}
use Rattle.lan_core.specs.declared.event.Event.{Event}
use Rattle.lan_core.specs.declared.event.Event.TheVariants.{Tick, Claim}
pub use Rattle.next_numbers.specs.Numbers.{shown_next, in_range, claimed_number}
use Rattle.lan_schedule.specs.Races.{Chance, Shown, number_in}
use Rattle.lan_schedule.specs.World.{World, settings}

-- ---- by chance

-- whether a number that chance names stands: a race was begun, a key transmits, and the number isn't
-- below the next one
abbrev pub stands : Bool → ℕ → ℕ → Bool
stands raced next number = raced && (nat_le 1 next && nat_le next number)

-- what a tick of a station shows in a world
abbrev pub number_shown : World → ℕ → ℕ
number_shown w s =
    let next = shown_next (settings w) s w.run in
    let number = number_in w.kept.chances in
    if stands w.kept.raced next number then number else next

-- what a station claims in a world
abbrev pub number_claimed : World → ℕ → ℕ
number_claimed w s =
    let next = shown_next (settings w) s w.run in
    let number = number_in w.kept.chances in
    if stands w.kept.raced next number && nat_le number last_number then number else in_range next

-- whether chance names the number of an event, which has one
abbrev pub takes_chance : Bool → Event → Bool
takes_chance raced (Tick s next) = raced && nat_le 1 next
takes_chance raced (Claim s user pn) = raced && nat_le 1 pn
takes_chance raced _ = false

-- the number that an event shows or claims
abbrev pub number_of_event : Event → ℕ
number_of_event (Tick s next) = next
number_of_event (Claim s user pn) = pn
number_of_event _ = 0

-- what chance decides of an event
abbrev pub decided : Bool → Event → List Chance
decided raced event = if takes_chance raced event then Shown (number_of_event event) ∷ [] else []

-- what chance will decide after an event
abbrev pub chances_after : World → Event → List Chance
chances_after w event =
    if takes_chance w.kept.raced event then drop 1 w.kept.chances else w.kept.chances
