-- The parts of joined lists, by how long they are.
use Rattle.std.proofs.Common.{◌≡◌, ℕ, ◌+◌, List, ◌++◌, length, take, drop, sym, ap, ◌∙◌, arith}
use Rattle.std.proofs.lemmas.List.{length-append, append_assoc, take-append-le, drop-append-le, take_all, drop_all}

pub take_front : (a b : List ℕ) (n : ℕ) → length a ≡ n → take n (a ++ b) ≡ a
take_front a b n h = take-append-le n a b (omega arith) ∙ take_all n a (omega arith)

pub drop_front : (a b : List ℕ) (n : ℕ) → length a ≡ n → drop n (a ++ b) ≡ b
drop_front a b n h = drop-append-le n a b (omega arith) ∙ ap (λ (x : List ℕ). x ++ b) (drop_all n a (omega arith))

pub take_two : (a b c : List ℕ) (m n : ℕ) → length a ≡ m → length b ≡ n → take (m + n) (a ++ (b ++ c)) ≡ a ++ b
take_two a b c m n h k =
    ap (take (m + n)) (sym (append_assoc a b c)) ∙ take_front (a ++ b) c (m + n) (omega (arith, length-append a b))

pub drop_two : (a b c : List ℕ) (m n : ℕ) → length a ≡ m → length b ≡ n → drop (m + n) (a ++ (b ++ c)) ≡ c
drop_two a b c m n h k =
    ap (drop (m + n)) (sym (append_assoc a b c)) ∙ drop_front (a ++ b) c (m + n) (omega (arith, length-append a b))

pub middle : (a b c : List ℕ) (m n : ℕ) → length a ≡ m → length b ≡ n → take n (drop m (a ++ (b ++ c))) ≡ b
middle a b c m n h k = ap (take n) (drop_front a (b ++ c) m h) ∙ take_front b c n k
