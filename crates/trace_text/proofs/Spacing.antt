-- Words that stand behind spaces are the words of the line.
use Rattle.std.proofs.Common.{◌≡◌, ℕ, ◌<◌, Bool, true, false, List, [], ◌∷◌, ◌++◌, length, refl, ap, ◌∙◌}
use Rattle.std.specs.Prelude.{not}
use Rattle.std.specs.List.{All, list_all, slice_split}
use Rattle.std.proofs.lemmas.List.{append-nil}
use Rattle.std.proofs.lemmas.List.Elements.{All-weaker}
use Rattle.std.proofs.lemmas.List.Sums.{AllPass-from_list_all}
use Rattle.std.proofs.lemmas.List.Splits.{slice_split_none, slice_split_at}
use Rattle.trace_text.specs.Words.{is_blank, words_of, spaced}
use Rattle.trace_text.proofs.Taking.{kept, kept-cons}

-- octets without a blank, one at least
pub record IsWord (word : List ℕ) : Type 0 where
  pub some : 0 < length word
  pub whole : All (λ octet. is_blank octet ≡ false) word

abbrev pub AreWords : List (List ℕ) → Type 0
AreWords [] = Unit {0}
AreWords (word ∷ words) = IsWord word × AreWords words

not_true : (b : Bool) → not b ≡ true → b ≡ false
not_true true e = absurd cc
not_true false e = refl

-- a test of a literal
pub IsWord-literal : (word : List ℕ) → 0 < length word → list_all (λ octet. not (is_blank octet)) word ≡ true → IsWord word
IsWord-literal word some test = record {
  some = some;
  whole = All-weaker (λ octet. not (is_blank octet) ≡ true) (λ octet. is_blank octet ≡ false) (λ octet e. not_true (is_blank octet) e) word
      (AllPass-from_list_all (λ octet. not (is_blank octet)) word test);
}

one : (word : List ℕ) → IsWord word → words_of word ≡ word ∷ []
one word w = ap kept (slice_split_none is_blank word w.whole) ∙ kept-cons word [] w.some

pub before_space : (word rest : List ℕ) → IsWord word → words_of (word ++ 32 ∷ rest) ≡ word ∷ words_of rest
before_space word rest w = ap kept (slice_split_at is_blank word 32 rest w.whole refl) ∙ kept-cons word (slice_split is_blank rest) w.some

pub words_of-spaced : (first : List ℕ) (words : List (List ℕ)) → IsWord first → AreWords words → words_of (first ++ spaced words) ≡ first ∷ words
words_of-spaced first [] f ws = ap words_of (append-nil first) ∙ one first f
words_of-spaced first (word ∷ words) f ws =
    before_space first (word ++ spaced words) f ∙ ap (λ others. first ∷ others) (words_of-spaced word words ws.0 ws.1)
