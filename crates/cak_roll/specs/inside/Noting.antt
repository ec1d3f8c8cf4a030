-- How what an event of a group drew is judged and noted among the draws of both.
use Rattle.std.specs.Prelude.{◌≡◌, ◌⊎◌, ℕ, ◌+◌, ◌-◌, if◌then◌else◌, List, slice_get}
use Rattle.std.specs.Prelude.{Option, Some, None, is_some, option_map, option_and_then, unwrap_or}
use Rattle.std.specs.Option.{option_or}
use Rattle.lan_base.specs.declared.address.Mi.{Mi}
use Rattle.lan_base.specs.declared.suite.Suite.{Suite}
use Rattle.lan_base.specs.Suites.{sak_draws}
use Rattle.aes_block.specs.declared.secret.Secret.{Secret}
use Rattle.lan_core.specs.declared.event.Event.{Event}
use Rattle.lan_core.specs.declared.fact.Fact.{Fact}
use Rattle.lan_core.specs.declared.stop.Stop.{Stop}
use Rattle.lan_core.specs.declared.stop.Stop.TheVariants.{RepeatedDraw}
use Rattle.lan_core.specs.declared.stop.StepError.{StepError}
use Rattle.lan_core.specs.declared.stop.StepError.TheVariants.{Stopped, Memory}
use Rattle.lan_core.specs.Lives.{drawn_mi}
use Rattle.lan_core.specs.Stops.{sak_of_tick}
use Rattle.lan_core.specs.Standing.{Numbers, number_of_mi, number_of_sak}
use Rattle.lan_core.specs.Noting.{MiIsNoted, SakIsNoted}

-- the stop of the draw of a number, which gave what that of another gave before
abbrev pub repeating : ℕ → Option ℕ → Option Stop
repeating next before = option_map (λ first. RepeatedDraw first next) before

-- the number of the draw that gave a value before
abbrev pub given_before : Numbers → Option Mi → Option Secret → Option ℕ
given_before drawn mi sak =
    option_or (option_and_then (number_of_mi drawn) mi) (option_and_then (number_of_sak drawn) sak)

-- how many draws gave a value
abbrev pub draws_of : Suite → Option Mi → Option Secret → ℕ
draws_of suite mi sak =
    (if is_some mi then 1 else 0) + (if is_some sak then sak_draws suite else 0)

-- a value is noted, if there is one; nothing is said of two
abbrev pub IsNoted : Suite → Numbers → Numbers → Option Mi → Option Secret → Type 0
IsNoted suite old new None None = new ≡ old
IsNoted suite old new (Some mi) None = MiIsNoted old new mi
IsNoted suite old new None (Some sak) = SakIsNoted (sak_draws suite) old new sak
IsNoted suite old new (Some mi) (Some sak) = Unit {0}

-- an event draws one value at most
abbrev pub DrawsOne : Event → List Fact → Type 0
DrawsOne event facts = (drawn_mi facts ≡ None) ⊎ (sak_of_tick facts event ≡ None)

-- the number over both of a draw of a group, whose own draws have these numbers there; 0 where there
-- was none
abbrev pub number_over : List ℕ → ℕ → ℕ
number_over draws own = unwrap_or (slice_get draws (own - 1)) 0

-- a stop of a group, by the draws of both, of which the next one has this number
abbrev pub over_both : List ℕ → ℕ → Stop → Stop
over_both draws next (RepeatedDraw first second) = RepeatedDraw (number_over draws first) next
over_both draws next stop = stop

-- why both groups go no further, where one of them answered this
abbrev pub over : List ℕ → ℕ → StepError → StepError
over draws next Memory = Memory
over draws next (Stopped stop) = Stopped (over_both draws next stop)
