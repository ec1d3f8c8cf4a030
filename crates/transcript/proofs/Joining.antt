-- Words behind spaces, list after list.
use Rattle.std.proofs.Common.{◌≡◌, ℕ, List, [], ◌∷◌, ◌++◌, ap, ◌∙◌, append_assoc, refl, sym}
use Rattle.std.specs.Prelude.{map}
use Rattle.hex.specs.Hex.{encode_lower}
use Rattle.aes_block.specs.Secrets.{secret_octets}
use Rattle.aes_block.specs.declared.secret.Secret.{Secret}
use Rattle.aes_block.specs.declared.secret.Secret.TheVariants.{S128, S256}
use Rattle.transcript.specs.Words.{spelled, secret_word}
use Rattle.trace_text.specs.Words.{spaced}
use Rattle.trace_text.specs.Appending.{word_text}
use Rattle.trace_text.specs.declared.appending.Word.{Word}
use Rattle.transcript.specs.inside.Appending.{line_of}

pub spaced_append : (xs ys : List (List ℕ)) → spaced (xs ++ ys) ≡ spaced xs ++ spaced ys
spaced_append [] ys = refl
spaced_append (x ∷ xs) ys =
    ap (λ text. (32 ∷ x) ++ text) (spaced_append xs ys) ∙ sym (append_assoc (32 ∷ x) (spaced xs) (spaced ys))

-- a line that is appended part by part
pub by_parts : (old a b c new first : List ℕ) (head tail : List Word) → a ≡ old ++ first
    → b ≡ a ++ spaced (map word_text head) → c ≡ b ++ spaced (map word_text tail) → new ≡ c ++ 10 ∷ []
    → new ≡ old ++ line_of first (map word_text head ++ map word_text tail)
by_parts old a b c new first head tail ea eb ec en =
    let h = spaced (map word_text head) in
    let t = spaced (map word_text tail) in
    let end : List ℕ = 10 ∷ [] in
    en ∙ rw (ec, eb, ea, spaced_append (map word_text head) (map word_text tail)) (
    ap (λ xs. xs ++ end) (ap (λ xs. xs ++ t) (append_assoc old first h) ∙ append_assoc old (first ++ h) t ∙ ap (λ xs. old ++ xs) (append_assoc first h t))
    ∙ append_assoc old (first ++ (h ++ t)) end)

pub secret_spelled : (names : List (List ℕ)) (sak : Secret) → spelled names (secret_word sak) ≡ encode_lower (secret_octets sak)
secret_spelled names (S128 xs) = refl
secret_spelled names (S256 xs) = refl
