-- So many frames are taken, from the first number on.
use Rattle.std.proofs.Common.{◌≡◌, ◌≤◌, ℕ, List, length}
use Rattle.std.specs.Prelude.{All, map}
use Rattle.std.specs.Borrow.{Bor}
use Rattle.lan_base.specs.Ranges.{most_frame_octets}
use Rattle.lan_base.specs.declared.frame.UserFrame.{UserFrame}
use Rattle.lan_core.specs.declared.settings.Settings.{Settings}
use Rattle.lan_core.specs.Run.{Run}
use Rattle.lan_core.specs.Standing.{StandsFor as GroupStandsFor}
use Rattle.lan_schedule.specs.inside.Batching.{AreData}
use Rattle.lan_schedule.proofs.stage.Stage.batch.Given as goal

abbrev pub invariant-loop-behind : goal.invariant-loop-behind
invariant-loop-behind l = (length l.frames.items ≡ l.behind)
    × All (λ (frame : Bor (List ℕ)). length frame.now ≤ most_frame_octets) l.frames.items
    × ((settings : Settings) (users : List UserFrame) (r : Run)
    → GroupStandsFor settings users l.self.lan r → AreData r l.first
    (map (λ (frame : Bor (List ℕ)). frame.now) l.frames.items))
