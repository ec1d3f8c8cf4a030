-- How many lines a text has.
use Rattle.std.proofs.Common.{◌≡◌, ◌==◌, ◌+◌, ◌≤◌, ℕ, suc, Bool, true, false, List, [], ◌∷◌, ◌++◌}
use Rattle.std.proofs.Common.{length, take, refl, arith, cond, length-append}
use Rattle.std.specs.Prelude.{nat_le}
use Rattle.std.proofs.lemmas.List.{length-take-le}
use Rattle.text_lines.specs.Texts.{ended, open_line, whole_lines, last_line, lines_of}
use Rattle.text_lines.specs.Texts.{without_return}
use Rattle.text_lines.specs.Reading.{lines_within}

either-few : (b : Bool) (line : List ℕ) (first later : List (List ℕ)) (n : ℕ)
    → length first ≤ n → length later ≤ n → length (cond b (line ∷ first) later) ≤ suc n
either-few true line first later n few more = omega (arith, few)
either-few false line first later n few more = omega (arith, more)

pub ended-few : (begun text : List ℕ) → length (ended begun text) ≤ length text
ended-few begun [] = omega arith
ended-few begun (x ∷ text) =
    either-few (x == 10) (without_return begun) (ended [] text) (ended (begun ++ x ∷ []) text)
    (length text) (ended-few [] text) (ended-few (begun ++ x ∷ []) text)

last-few : (octets : List ℕ) → length (last_line octets) ≤ 1
last-few [] = omega arith
last-few (x ∷ octets) = omega arith

pub all-few : (text : List ℕ) → length (lines_of text) ≤ length text + 1
all-few text =
    let both = length-append (whole_lines text) (last_line (open_line [] text)) in
    let first = ended-few [] text in
    let last = last-few (open_line [] text) in
    omega (arith, both, first, last)

pub within-few : (limit : ℕ) (text : List ℕ) → length (lines_within limit text) ≤ limit + 1
within-few limit text = go (nat_le (length text) limit) refl
  where
    go : (b : Bool) → nat_le (length text) limit ≡ b
        → length (cond b (lines_of text) (whole_lines (take limit text))) ≤ limit + 1
    go true is =
        let few = all-few text in
        let most : length text ≤ limit = grind (arith, is) in omega (arith, few, most)
    go false is =
        let past : limit ≤ length text = grind (arith, is) in
        let few = ended-few [] (take limit text) in
        let most = length-take-le limit text past in omega (arith, few, most)
