-- The further words of a line, as they are appended.
use Rattle.std.specs.Prelude.{ℕ, List, map}
use Rattle.trace_text.specs.Words.{spaced}
use Rattle.trace_text.specs.Kinds.{spelled}
use Rattle.trace_text.specs.Writing.{Field}

-- the words of fields, each behind a space
abbrev pub further : List Field → List ℕ
further fs = spaced (map (λ field. spelled field.kind field.says) fs)
