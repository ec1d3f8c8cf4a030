-- Where lines stand.
use Rattle.std.specs.Prelude.{Bool, true, false}
use Rattle.trace_text.specs.declared.line.Line.{Line}
use Rattle.trace_text.specs.declared.line.Line.TheVariants as lines

-- whether a line may only stand before the first station, or inside a race
abbrev pub is_elsewhere : Line → Bool
is_elsewhere lines.DrawsCount = true
is_elsewhere (lines.DrawsChaCha key) = true
is_elsewhere (lines.DrawsList values) = true
is_elsewhere (lines.Conf conf) = true
is_elsewhere (lines.Window window) = true
is_elsewhere (lines.Rekey rekey) = true
is_elsewhere (lines.Lag lag) = true
is_elsewhere (lines.Suite suite) = true
is_elsewhere (lines.Flag early) = true
is_elsewhere (lines.Group cak ckn) = true
is_elsewhere (lines.Burst name workers frames destination body) = true
is_elsewhere lines.While = true
is_elsewhere lines.End = true
is_elsewhere _ = false

-- whether a race begins with a line
abbrev pub is_race : Line → Bool
is_race lines.Race = true
is_race _ = false

-- a line that starts a station
abbrev pub IsStation : Line → Type 0
IsStation (lines.Station name sci priority) = Unit {0}
IsStation _ = ⊥
