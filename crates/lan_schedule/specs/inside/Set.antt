-- How the words of all stations stand when an event comes.
use Rattle.std.specs.Prelude.{◌≡◌, ◌≤◌, ◌⊎◌, ◌-◌, ◌^◌, ℕ, Bool, true, false, List}
use Rattle.association_slots.specs.Views.{ControlAt}
use Rattle.lan_core.specs.declared.event.Event.{Event}
use Rattle.lan_core.specs.declared.event.Event.TheVariants as events
use Rattle.lan_core.specs.declared.settings.Settings.{Settings}
use Rattle.lan_core.specs.Run.{Run}
use Rattle.lan_core.specs.Expected.{last_number}
use Rattle.station_words.specs.Ties.{AreAhead, CaughtAhead, KeepAhead}
use Rattle.lan_schedule.specs.Stages.{Says}

-- what the words say where the step of an event was taken
abbrev pub SaysAhead : Bool → Bool → Settings → Run → Event → List ControlAt → Type 0
SaysAhead false racing settings r event cs = AreAhead settings r event cs
SaysAhead true false settings r event cs = CaughtAhead settings r event cs
SaysAhead true true settings r event cs = KeepAhead settings r event cs

-- the number of a tick was shown, that of a claim was claimed, and every other event finds the words
-- as they are between two events
abbrev pub AreSet : Event → Bool → Bool → Settings → Run → List ControlAt → Type 0
AreSet (events.Tick s next) raced racing settings r cs =
    SaysAhead raced racing settings r (events.Tick s next) cs
AreSet (events.Claim s user pn) raced racing settings r cs =
    SaysAhead raced racing settings r (events.Claim s user pn) cs
AreSet _ raced racing settings r cs = Says raced racing settings r cs

-- the number that the words show for a next one: before the first race just that; from then on one
-- that isn't below it, and 0 where that is
abbrev pub IsGiven : Bool → ℕ → ℕ → Type 0
IsGiven false next n = n ≡ next
IsGiven true next n = (next ≤ n) × (next ≡ 0 → n ≡ 0)

-- the number that they give to a claim
abbrev pub IsClaimNumber : Bool → ℕ → ℕ → Type 0
IsClaimNumber false next n = (n ≡ next) × (next ≤ last_number)
IsClaimNumber true next n =
    ((1 ≤ next) × (next ≤ n) × (n ≤ last_number)) ⊎ ((next ≡ 0) × (n ≡ 0))

-- The greatest count of claims before one more, from the first race on: a race may lose 16 numbers of
-- a key.
abbrev pub most_claims : ℕ
most_claims = 2 ^ 32 - 18
