-- How the line of a summary is written behind a run.
use Rattle.std.specs.Prelude.{◌≡◌, ℕ, List, [], ◌∷◌, Result, Ok, Err, MatchResult}
use Rattle.lan_base.specs.declared.sink.Unwritten.{Unwritten}
use Rattle.text_lines.specs.declared.reading.End.{End}
use Rattle.trace_acts.specs.declared.halt.Halt.{Halt}
use Rattle.replay.specs.Sinks.{Sunk, Wrote, Fails}
use Rattle.replay.specs.inside.Ended.{answered}

-- it is written where the run ended well, and then the answer is that of the writing; and else
-- nothing is, and the answer is the run's
abbrev pub SumsUp : Result (Unit {0}) (End Halt) → List ℕ → Sunk → Sunk → Result (Unit {0}) (End Halt)
    → Type 0
SumsUp (Ok done) line old new result =
    (r : Result (Unit {0}) Unwritten) × MatchResult r (λ done. Wrote (line ∷ []) old new)
    (λ why. Fails (line ∷ []) old new why) × (result ≡ answered r)
SumsUp (Err why) line old new result = (new ≡ old) × (result ≡ Err why)
