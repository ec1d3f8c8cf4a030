-- The lines of the text of facts are the lines of the facts.
use Rattle.std.proofs.Common.{◌≡◌, ◌∙◌, ℕ, Bool, false, cond, List, [], ◌∷◌, ◌++◌, map, refl, sym, ap, append_assoc}
use Rattle.std.specs.Prelude.{All, ◌==◌}
use Rattle.std.proofs.lemmas.List.{append-nil}
use Rattle.std.proofs.lemmas.List.Elements.{All-head, All-tail}
use Rattle.lan_base.specs.Name.{IsName}
use Rattle.lan_core.specs.declared.fact.Fact.{Fact}
use Rattle.text_lines.specs.Texts.{ended, lines_of, open_line, whole_lines, without_return}
use Rattle.transcript.specs.Rendering.{line, transcript, IsFact}

-- an octet stands nowhere in these
abbrev Lacks : ℕ → List ℕ → Type 0
Lacks c xs = All (λ octet. (octet == c) ≡ false) xs

-- ---- one line

ended-line : (begun xs rest : List ℕ) → Lacks 10 xs
    → ended begun (xs ++ 10 ∷ rest) ≡ without_return (begun ++ xs) ∷ ended [] rest
ended-line begun [] rest none = ap (λ b. without_return b ∷ ended [] rest) (sym (append-nil begun))
ended-line begun (x ∷ xs) rest none =
    ap (λ (b : Bool). cond b (without_return begun ∷ ended [] (xs ++ 10 ∷ rest)) (ended (begun ++ x ∷ []) (xs ++ 10 ∷ rest)))
    (All-head (λ octet. (octet == 10) ≡ false) x xs none)
    ∙ ended-line (begun ++ x ∷ []) xs rest (All-tail (λ octet. (octet == 10) ≡ false) x xs none)
    ∙ ap (λ b. without_return b ∷ ended [] rest) (append_assoc begun (x ∷ []) xs)

open-behind : (begun xs rest : List ℕ) → Lacks 10 xs → open_line begun (xs ++ 10 ∷ rest) ≡ open_line [] rest
open-behind begun [] rest none = refl
open-behind begun (x ∷ xs) rest none =
    ap (λ (b : Bool). cond b (open_line [] (xs ++ 10 ∷ rest)) (open_line (begun ++ x ∷ []) (xs ++ 10 ∷ rest)))
    (All-head (λ octet. (octet == 10) ≡ false) x xs none)
    ∙ open-behind (begun ++ x ∷ []) xs rest (All-tail (λ octet. (octet == 10) ≡ false) x xs none)

no-return : (xs : List ℕ) → Lacks 13 xs → without_return xs ≡ xs
no-return [] none = refl
no-return (x ∷ []) none =
    ap (λ (b : Bool). cond b [] (x ∷ [])) (All-head (λ octet. (octet == 13) ≡ false) x [] none)
no-return (x ∷ y ∷ xs) none =
    ap (λ zs. x ∷ zs) (no-return (y ∷ xs) (All-tail (λ octet. (octet == 13) ≡ false) x (y ∷ xs) none))

-- ---- all lines

-- what the law of lines gives, as premises
pub record NoFactEndsALine : Type 0 where
  pub feeds : (names : List (List ℕ)) (fact : Fact) → All IsName names → IsFact names fact
      → Lacks 10 (line names fact)
  pub returns : (names : List (List ℕ)) (fact : Fact) → All IsName names → IsFact names fact
      → Lacks 13 (line names fact)

module _ (law : NoFactEndsALine) (names : List (List ℕ)) (named : All IsName names) where
  behind-line : (fact : Fact) (facts : List Fact)
      → transcript names (fact ∷ facts) ≡ line names fact ++ 10 ∷ transcript names facts
  behind-line fact facts = append_assoc (line names fact) (10 ∷ []) (transcript names facts)

  whole : (facts : List Fact) → All (IsFact names) facts
      → whole_lines (transcript names facts) ≡ map (line names) facts
  whole [] fit = refl
  whole (fact ∷ facts) fit =
      let one = All-head (IsFact names) fact facts fit in
      ap whole_lines (behind-line fact facts)
      ∙ ended-line [] (line names fact) (transcript names facts) (law.feeds names fact named one)
      ∙ ap (λ l. l ∷ whole_lines (transcript names facts)) (no-return (line names fact) (law.returns names fact named one))
      ∙ ap (λ ls. line names fact ∷ ls) (whole facts (All-tail (IsFact names) fact facts fit))

  none-open : (facts : List Fact) → All (IsFact names) facts → open_line [] (transcript names facts) ≡ []
  none-open [] fit = refl
  none-open (fact ∷ facts) fit =
      ap (open_line []) (behind-line fact facts)
      ∙ open-behind [] (line names fact) (transcript names facts)
      (law.feeds names fact named (All-head (IsFact names) fact facts fit))
      ∙ none-open facts (All-tail (IsFact names) fact facts fit)

  pub lines-of-transcript : (facts : List Fact) → All (IsFact names) facts
      → lines_of (transcript names facts) ≡ map (line names) facts
  lines-of-transcript facts fit = rw (whole facts fit, none-open facts fit) (append-nil (map (line names) facts))
