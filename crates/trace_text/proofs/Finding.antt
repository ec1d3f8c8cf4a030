-- The first keyword that a word is, from a place on.
use Rattle.std.proofs.Common.{◌≡◌, ℕ, ◌+◌, ◌<◌, true, false, List, length, get_or, drop, refl, ◌∙◌}
use Rattle.std.specs.Prelude.{Option, Some}
use Rattle.std.specs.List.{find}
use Rattle.std.proofs.lemmas.List.{at_drop_more}
use Rattle.trace_text.specs.declared.keyword.Keyword.{Keyword}
use Rattle.trace_text.specs.Words.{is_word}
use Rattle.trace_text.specs.Keywords.{spelling}

abbrev pub from : List ℕ → List Keyword → Option Keyword
from word ks = find (λ k. is_word word (spelling k)) ks

pub here : (word text : List ℕ) (ks : List Keyword) (i : ℕ) (d : Keyword) → i < length ks → text ≡ spelling (get_or ks i d) → is_word word text ≡ true
    → from word (drop i ks) ≡ Some (get_or ks i d)
here word text ks i d within e test =
    let same : is_word word (spelling (get_or ks i d)) ≡ true = rw (← e) test in
    at_drop_more (from word) ks i d within ∙ rw same refl

pub past : (word text : List ℕ) (ks : List Keyword) (i : ℕ) (d : Keyword) → i < length ks → text ≡ spelling (get_or ks i d) → is_word word text ≡ false
    → from word (drop i ks) ≡ from word (drop (i + 1) ks)
past word text ks i d within e test =
    let other : is_word word (spelling (get_or ks i d)) ≡ false = rw (← e) test in
    at_drop_more (from word) ks i d within ∙ rw other refl
