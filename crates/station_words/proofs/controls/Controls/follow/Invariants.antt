use Rattle.std.proofs.Common.{◌≡◌, List, take}
use Rattle.lan_base.specs.declared.frame.UserFrame.{UserFrame}
use Rattle.lan_core.specs.declared.settings.Settings.{Settings}
use Rattle.lan_core.specs.Run.{Run}
use Rattle.lan_core.specs.Standing.{StandsFor}
use Rattle.station_words.specs.Seats.{NoMoreOut}
use Rattle.station_words.specs.Ties.{tables_of, Followed}
use Rattle.station_words.proofs.controls.Controls.follow.Given as goal

abbrev pub invariant-loop-fact : goal.invariant-loop-fact
invariant-loop-fact g l = (tables_of l.self ≡ tables_of l.fn.self)
    × ((settings : Settings) (users : List UserFrame) (r : Run) → StandsFor settings users l.fn.lan r
    → Followed settings r (take l.fact-index l.facts) l.fn.self l.self)
    × NoMoreOut l.fn.self l.self
