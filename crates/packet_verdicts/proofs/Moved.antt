-- Addresses that are moved over the octets behind them.
use Rattle.std.proofs.Common.{◌≡◌, ℕ, ◌+◌, ◌-◌, ◌≤◌, List, ◌++◌, length, take, drop, sym, ap, ◌∙◌, arith, append_assoc}
use Rattle.std.proofs.Math.Seq.{paste, drop-append_seam}
use Rattle.std.proofs.lemmas.List.{take-append-drop, drop-drop, length-take-le}
use Rattle.std.proofs.lemmas.List.Edits.{drop-paste, take-paste}

-- what begins at the length of a front is what stands behind it
pub behind_front : (front rest : List ℕ) (n : ℕ) → length front ≡ n → drop n (front ++ rest) ≡ rest
behind_front front rest n e = ap (λ k. drop k (front ++ rest)) (sym e) ∙ drop-append_seam front rest

pub moved : (d : List ℕ) (start : ℕ) → start + 12 ≤ length d
    → drop start (paste d start (drop 0 d) (12 - 0)) ≡ take 12 d ++ drop start (drop 12 d)
moved d start room =
    let new : List ℕ = paste d start d 12 in
    let few : start ≤ length d = omega arith in
    let twelve : 12 ≤ length d = omega arith in
    let front : take (start + 12) new ≡ take start d ++ take 12 d = take-paste d start d 12 few twelve in
    let back : drop (start + 12) new ≡ drop (start + 12) d = drop-paste d start d 12 few twelve in
    let whole : new ≡ take start d ++ (take 12 d ++ drop (start + 12) d) =
    sym (take-append-drop (start + 12) new) ∙ ap (λ xs. xs ++ drop (start + 12) new) front
    ∙ ap (λ xs. (take start d ++ take 12 d) ++ xs) back
    ∙ append_assoc (take start d) (take 12 d) (drop (start + 12) d) in
    let same : drop start (drop 12 d) ≡ drop (start + 12) d =
    drop-drop start 12 d ∙ ap (λ k. drop k d) (omega arith) in
    ap (λ xs. drop start xs) whole
    ∙ behind_front (take start d) (take 12 d ++ drop (start + 12) d) start (length-take-le start d few)
    ∙ ap (λ xs. take 12 d ++ xs) (sym same)
