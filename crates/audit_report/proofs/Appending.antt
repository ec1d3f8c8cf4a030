-- Text that is put together part by part.
use Rattle.std.proofs.Common.{◌≡◌, ◌∙◌, ℕ, ◌-◌, List, [], ◌∷◌, ◌++◌, length, take, ap, append_assoc, arith, sym}
use Rattle.std.proofs.lemmas.List.Concat.{flat_map-append}
use Rattle.trace_text.specs.Words.{spaced}
use Rattle.audit_report.specs.Lines.{line_of}
use Rattle.std.proofs.lemmas.List.{length-append}
use Rattle.std.proofs.Math.Seq.{take-append_seam}

-- a line feed comes last
pub feed_last : (old a b : List ℕ) → old ++ (a ++ (b ++ 10 ∷ [])) ≡ (old ++ (a ++ b)) ++ 10 ∷ []
feed_last old a b = simp append_assoc

-- the last element is taken off
pub without_last : (xs items new : List ℕ) (n : ℕ) (x : ℕ) → items ≡ xs ++ x ∷ [] → n ≡ length items
    → new ≡ take (n - 1) items → new ≡ xs
without_last xs items new n x e len taken =
    let few : n - 1 ≡ length xs = omega (arith, len, ap length e, length-append xs (x ∷ [])) in
    taken ∙ ap (λ k. take k items) few ∙ ap (λ ys. take (length xs) ys) e ∙ take-append_seam xs (x ∷ [])

-- one text, and then another
pub then : (old mid new a b : List ℕ) → mid ≡ old ++ a → new ≡ mid ++ b → new ≡ old ++ (a ++ b)
then old mid new a b first second = second ∙ ap (λ text. text ++ b) first ∙ append_assoc old a b

-- a line in two parts
pub in_two : (old mid new first : List ℕ) (xs ys : List (List ℕ)) → mid ≡ old ++ (first ++ spaced xs)
    → new ≡ mid ++ line_of [] ys → new ≡ old ++ line_of first (xs ++ ys)
in_two old mid new first xs ys begun ended =
    then old mid new (first ++ spaced xs) (line_of [] ys) begun ended
    ∙ ap (λ text. old ++ text) (append_assoc first (spaced xs) (line_of [] ys)
    ∙ ap (λ text. first ++ text) (sym (append_assoc (spaced xs) (spaced ys) (10 ∷ [])))
    ∙ ap (λ text. first ++ (text ++ 10 ∷ [])) (sym (flat_map-append (λ word. 32 ∷ word) xs ys)))
