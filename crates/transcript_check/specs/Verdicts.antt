-- What a verdict says, and its text (this profile's own rule): a line for each of its parts.
use Rattle.std.specs.Prelude.{ℕ, ◌&&◌, Bool, is_none, List, [], ◌∷◌, ◌++◌, codes, decimal, Option, Some, None}
use Rattle.transcript.specs.Rendering.{joined}
use Rattle.transcript_check.specs.declared.verdict.Verdict.{Verdict}

-- no pair is there
abbrev pub is_clean : Verdict → Bool
is_clean verdict = is_none verdict.once && is_none verdict.one_key

-- whether a pair is there, and which: the earlier number, and the later
abbrev pub pair_words : Option (ℕ × ℕ) → List (List ℕ)
pair_words None = codes "ok" ∷ []
pair_words (Some pair) = codes "broken" ∷ decimal pair.0 ∷ decimal pair.1 ∷ []

-- the line of words, one space between each two
abbrev pub line_of : List (List ℕ) → List ℕ
line_of words = joined words ++ 10 ∷ []

abbrev pub text_of : Verdict → List ℕ
text_of verdict =
    line_of (codes "once" ∷ pair_words verdict.once)
    ++ line_of (codes "onekey" ∷ pair_words verdict.one_key)
    ++ line_of (codes "missed" ∷ decimal verdict.missed ∷ [])
