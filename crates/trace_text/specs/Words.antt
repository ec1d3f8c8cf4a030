-- The words of a line.
use Rattle.std.specs.Prelude.{ℕ, ◌==◌, ◌||◌, Bool, nat_eq, nat_lt, List, ◌∷◌, length, filter}
use Rattle.std.specs.List.{slice_split, flat_map}
use Rattle.std.specs.Cmp.Lexicographic.{pointwise}

-- space and tab
abbrev pub is_blank : ℕ → Bool
is_blank octet = octet == 32 || octet == 9

-- the words of a line: what stands between blanks, without the empty pieces
abbrev pub words_of : List ℕ → List (List ℕ)
words_of line = filter (λ word. nat_lt 0 (length word)) (slice_split is_blank line)

-- each word behind one space
abbrev pub spaced : List (List ℕ) → List ℕ
spaced words = flat_map (λ word. 32 ∷ word) words

-- whether a word is this one
abbrev pub is_word : List ℕ → List ℕ → Bool
is_word word text = pointwise nat_eq word text
