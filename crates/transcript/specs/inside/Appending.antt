-- A line that is appended.
use Rattle.std.specs.Prelude.{ℕ, List, [], ◌∷◌, ◌++◌, Option, Some, None, decimal}
use Rattle.trace_text.specs.Words.{spaced}
use Rattle.transcript.specs.declared.tables.Told.{Told}

-- a line of a first word and the texts of others
abbrev pub line_of : List ℕ → List (List ℕ) → List ℕ
line_of first others = (first ++ spaced others) ++ 10 ∷ []

-- the number that stands behind a word, if one does
abbrev pub number_text : Option ℕ → List (List ℕ)
number_text None = []
number_text (Some n) = decimal n ∷ []

-- the last words of a line that tell something
abbrev pub told : Told → List (List ℕ)
told t = t.word.now ∷ number_text t.number
