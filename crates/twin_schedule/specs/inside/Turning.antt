-- What lines do so many times.
use Rattle.twin_schedule.specs.declared.moves.Turn.{Turn}
use Rattle.twin_schedule.specs.declared.moves.Turn.TheVariants as turns
use Rattle.twin_schedule.specs.Acts.{Act}
use Rattle.twin_schedule.specs.Lines.{flow_round, round, tick_both}

abbrev pub turn_of : Turn → Act
turn_of (turns.Station station) = tick_both station
turn_of turns.Round = round
turn_of turns.FlowRound = flow_round
