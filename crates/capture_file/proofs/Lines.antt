-- A line is put together part by part.
use Rattle.std.proofs.Common.{◌≡◌, ◌∙◌, ℕ, List, [], ◌∷◌, ◌++◌, ap, append_assoc, sym}
use Rattle.std.proofs.lemmas.List.Concat.{flat_map-append}
use Rattle.trace_text.specs.Words.{spaced}

-- words, and then others
pub and-then : (old mid new : List ℕ) (xs ys : List (List ℕ)) → mid ≡ old ++ spaced xs
    → new ≡ mid ++ spaced ys → new ≡ old ++ spaced (xs ++ ys)
and-then old mid new xs ys first second =
    second ∙ ap (λ text. text ++ spaced ys) first ∙ append_assoc old (spaced xs) (spaced ys)
    ∙ ap (λ text. old ++ text) (sym (flat_map-append (λ word. 32 ∷ word) xs ys))

-- a first word, others, yet others, and the line feed
pub lined : (old a b c new word : List ℕ) (xs ys : List (List ℕ)) → a ≡ old ++ word
    → b ≡ a ++ spaced xs → c ≡ b ++ spaced ys → new ≡ c ++ 10 ∷ []
    → new ≡ old ++ (word ++ (spaced (xs ++ ys) ++ 10 ∷ []))
lined old a b c new word xs ys ea eb ec en =
    let feed : List ℕ = 10 ∷ [] in
    let text = spaced (xs ++ ys) in
    en ∙ ap (λ t. t ++ feed) (and-then a b c xs ys eb ec) ∙ append_assoc a text feed
    ∙ ap (λ t. t ++ (text ++ feed)) ea ∙ append_assoc old word (text ++ feed)
