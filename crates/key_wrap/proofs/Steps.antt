-- one step, undone
use Rattle.std.proofs.Common.{◌≡◌, ℕ, ◌+◌, ◌-◌, ◌≤◌, List, [], ◌++◌, length, take, drop, refl, ap, sym, ◌∙◌, arith, add-one}
use Rattle.std.proofs.lemmas.List.{append_assoc, length-append, length-take-le, length-drop, take_at, drop_at, take_all, drop_all, drop-drop, take-append-le, drop-append-le, append-nil, take-append-drop}
use Rattle.aes_block.specs.Aes.{aes}
use Rattle.key_wrap.specs.Wrap.{numbered, step, steps}
use Rattle.key_wrap.proofs.Numbered.{length-numbered, numbered-numbered}

-- one step more
pub steps-more : (kek state : List ℕ) (i : ℕ) → steps kek state (i + 1) ≡ step kek (steps kek state i) (i + 1)
unfolding steps
steps-more kek state i = rw add-one refl

pub steps-none : (kek state : List ℕ) → steps kek state 0 ≡ state
unfolding steps
steps-none kek state = refl

-- equal joins of which the first parts are of one length
pub parts_of : (a b c d : List ℕ) → length a ≡ length c → a ++ b ≡ c ++ d → (a ≡ c) × (b ≡ d)
parts_of a b c d e h = (
  sym (take_at a b (length a) refl) ∙ ap (take (length a)) h ∙ take_at c d (length a) (sym e),
  sym (drop_at a b (length a) refl) ∙ ap (drop (length a)) h ∙ drop_at c d (length a) (sym e),
)

-- the step after one that was undone: a is A, r the last register, m those between
pub step-undone : (kek a m r x : List ℕ) (number : ℕ) → length a ≡ 8 → length r ≡ 8 → length x ≡ 16
    → aes kek x ≡ numbered (a ++ r) number → step kek (x ++ m) number ≡ a ++ m ++ r
unfolding step
step-undone kek a m r x number e f g h =
    let whole : length (a ++ r) ≡ 16 = rw length-append (omega arith) in
    let front : take 16 (x ++ m) ≡ x = take_at x m 16 g in
    let rest : drop 16 (x ++ m) ≡ m = drop_at x m 16 g in
    let back : numbered (aes kek x) number ≡ a ++ r = rw (h, numbered-numbered (a ++ r) number whole) refl in
    rw (front, rest, back, take_at a r 8 e, drop_at a r 8 e) refl

-- the state before a step
pub before-step : (kek a m r before : List ℕ) (number : ℕ) → length a ≡ 8 → length r ≡ 8
    → length (aes kek (take 16 before)) ≡ 16 → step kek before number ≡ a ++ m ++ r
    → length before ≡ 16 + length m
    → (aes kek (take 16 before) ≡ numbered (a ++ r) number) × (drop 16 before ≡ m)
unfolding step
before-step kek a m r before number e f g h k =
    let ciphertext = aes kek (take 16 before) in
    let block = numbered ciphertext number in
    let whole : length block ≡ 16 = length-numbered ciphertext number g in
    let l : length (take 8 block) ≡ 8 = length-take-le 8 block (omega arith) in
    let first = parts_of (take 8 block ++ drop 16 before) (drop 8 block) (a ++ m) r (simp (length-append, length-drop) (omega arith)) h in
    let second = parts_of (take 8 block) (drop 16 before) a m (omega arith) first.0 in
    let is : a ++ r ≡ block = rw (← second.0, ← first.1) (take-append-drop 8 block) in
    (rw is (sym (numbered-numbered ciphertext number g)), second.1)

-- a list is its first eight, its last eight and what is between
pub three_parts : (s : List ℕ) → 16 ≤ length s → take 8 s ++ take (length s - 16) (drop 8 s) ++ drop (length s - 8) s ≡ s
three_parts s h =
    let e : drop (length s - 8) s ≡ drop (length s - 16) (drop 8 s) = sym (drop-drop (length s - 16) 8 s ∙ ap (λ n. drop n s) (omega arith)) in
    rw (e, append_assoc, take-append-drop (length s - 16) (drop 8 s)) (take-append-drop 8 s)

-- the first register behind the others
pub turned : (block rest : List ℕ) → length block ≡ 16 → take 8 (block ++ rest) ++ drop 16 (block ++ rest) ++ take 8 (drop 8 (block ++ rest)) ≡ take 8 block ++ rest ++ drop 8 block
turned block rest h =
    let front : take 8 (block ++ rest) ≡ take 8 block = take-append-le 8 block rest (omega arith) in
    let behind : drop 16 (block ++ rest) ≡ rest = drop_at block rest 16 h in
    let more : drop 8 (block ++ rest) ≡ drop 8 block ++ rest = drop-append-le 8 block rest (omega arith) in
    let first : take 8 (drop 8 block ++ rest) ≡ drop 8 block = take_at (drop 8 block) rest 8 (length-drop 8 block ∙ omega arith) in
    rw (front, behind, more, first) refl

-- the last register before the others
pub turned_back : (s m ys : List ℕ) → 16 ≤ length s → m ≡ take (length s - 8) (drop 8 s)
    → ys ≡ drop (length m - 8) m ++ take (length m - 8) m
    → take 8 s ++ (ys ++ drop (length s - 8) (drop 8 s)) ≡ take 8 s ++ drop (length s - 8) s ++ take (length s - 16) (drop 8 s)
turned_back s m ys h e f =
    let all : m ≡ drop 8 s = e ∙ take_all (length s - 8) (drop 8 s) (omega (arith, length-drop 8 s)) in
    let n : length m - 8 ≡ length s - 16 = omega (arith, ap length all, length-drop 8 s) in
    let none : drop (length s - 8) (drop 8 s) ≡ [] = drop_all (length s - 8) (drop 8 s) (omega (arith, length-drop 8 s)) in
    let last : drop (length s - 16) (drop 8 s) ≡ drop (length s - 8) s = drop-drop (length s - 16) 8 s ∙ ap (λ k. drop k s) (omega arith) in
    rw (f, n, all, none, last, append-nil, ← append_assoc) refl

pub same_step : (kek s block put new : List ℕ) (number : ℕ) → length block ≡ 16 → block ≡ numbered (aes kek (take 16 s)) number
    → put ≡ block ++ drop 16 s → new ≡ take 8 put ++ drop 16 put ++ take 8 (drop 8 put) → new ≡ step kek s number
unfolding step
same_step kek s block put new number e f g h = h ∙ rw (g, turned block (drop 16 s) e, f) refl

-- what undoing a step puts together
pub record Undoes (kek s back ciphertext x new : List ℕ) (number : ℕ) : Type 0 where
  pub room : 16 ≤ length s
  pub turns : back ≡ take 8 s ++ drop (length s - 8) s ++ take (length s - 16) (drop 8 s)
  pub numbers : ciphertext ≡ numbered (take 16 back) number
  pub whole : length x ≡ 16
  pub puts : new ≡ x ++ drop 16 back

pub record Parts (s back a m r : List ℕ) : Type 0 where
  pub first : length a ≡ 8
  pub last : length r ≡ 8
  pub middle : length s ≡ 16 + length m
  pub whole : a ++ m ++ r ≡ s
  pub front : take 16 back ≡ a ++ r
  pub behind : drop 16 back ≡ m

pub parts_of_state : (s back : List ℕ) → 16 ≤ length s
    → back ≡ take 8 s ++ drop (length s - 8) s ++ take (length s - 16) (drop 8 s)
    → Parts s back (take 8 s) (take (length s - 16) (drop 8 s)) (drop (length s - 8) s)
parts_of_state s back room turns =
    let a = take 8 s in let r = drop (length s - 8) s in let m = take (length s - 16) (drop 8 s) in
    let first : length a ≡ 8 = length-take-le 8 s (omega arith) in
    let last : length r ≡ 8 = length-drop (length s - 8) s ∙ omega arith in
    let middle : length m ≡ length s - 16 = length-take-le (length s - 16) (drop 8 s) (omega (arith, length-drop 8 s)) in
    let both : length (a ++ r) ≡ 16 = rw length-append (omega arith) in
    record {
      first = first;
      last = last;
      middle = omega arith;
      whole = three_parts s room;
      front = ap (take 16) turns ∙ take_at (a ++ r) m 16 both;
      behind = ap (drop 16) turns ∙ drop_at (a ++ r) m 16 both;
    }

pub undone : (kek s back ciphertext x new : List ℕ) (number : ℕ) → Undoes kek s back ciphertext x new number → aes kek x ≡ ciphertext → step kek new number ≡ s
undone kek s back ciphertext x new number u h =
    let p = parts_of_state s back u.room u.turns in
    let a = take 8 s in let r = drop (length s - 8) s in let m = take (length s - 16) (drop 8 s) in
    let before : new ≡ x ++ m = u.puts ∙ ap (λ y. x ++ y) p.behind in
    let is : aes kek x ≡ numbered (a ++ r) number = h ∙ u.numbers ∙ ap (λ y. numbered y number) p.front in
    ap (λ y. step kek y number) before ∙ step-undone kek a m r x number p.first p.last u.whole is ∙ p.whole

pub only_before : (kek s back ciphertext x new before : List ℕ) (number : ℕ) → Undoes kek s back ciphertext x new number
    → length before ≡ length s → length (aes kek (take 16 before)) ≡ 16 → step kek before number ≡ s
    → (aes kek (take 16 before) ≡ ciphertext → x ≡ take 16 before) → new ≡ before
only_before kek s back ciphertext x new before number u e f h only =
    let p = parts_of_state s back u.room u.turns in
    let a = take 8 s in let r = drop (length s - 8) s in let m = take (length s - 16) (drop 8 s) in
    let q = before-step kek a m r before number p.first p.last f (h ∙ sym p.whole) (omega (arith, p.middle)) in
    let is : x ≡ take 16 before = only (q.0 ∙ sym (u.numbers ∙ ap (λ y. numbered y number) p.front)) in
    u.puts ∙ rw (p.behind, is, ← q.1) (take-append-drop 16 before)
