-- equal wraps are of equal keys, under a key that encrypts each block to a block, and one block to
-- one ciphertext
use Rattle.std.proofs.Common.{◌≡◌, ℕ, zero, suc, ◌+◌, ◌*◌, ◌/◌, ◌<◌, ◌≤◌, List, ◌++◌, length, take, drop, refl, ap, sym, ◌∙◌, arith}
use Rattle.std.proofs.lemmas.List.{length-append, length-take-le, length-drop, take-append-drop}
use Rattle.std.proofs.lemmas.List.Elements.{All-append, All-replicate, All-take}
use Rattle.aes_block.specs.Aes.{aes, IsBlock, IsOctets}
use Rattle.key_wrap.specs.Wrap.{numbered, initial_value, step, steps, wrapped}
use Rattle.key_wrap.proofs.Numbered.{length-numbered, numbered-numbered}
use Rattle.key_wrap.proofs.Octets.{IsOctets-steps}
use Rattle.key_wrap.proofs.Steps.{parts_of}

-- what is known of encryption under a key
pub record Permutes (kek : List ℕ) : Type 0 where
  pub blocks : (text : List ℕ) → IsBlock text → IsBlock (aes kek text)
  pub one : (x y : List ℕ) → IsBlock x → IsBlock y → aes kek x ≡ aes kek y → x ≡ y

first_block : (state : List ℕ) (n : ℕ) → 16 ≤ n → IsOctets n state → IsBlock (take 16 state)
first_block state n room h =
    let count = h.count in
    record { count = length-take-le 16 state (omega arith); octets = All-take (λ octet. octet < 256) 16 state h.octets }

step-injective : (kek s t : List ℕ) (n number : ℕ) → 16 ≤ n → Permutes kek → IsOctets n s → IsOctets n t
    → step kek s number ≡ step kek t number → s ≡ t
unfolding step
step-injective kek s t n number room p h k e =
    let c = aes kek (take 16 s) in
    let d = aes kek (take 16 t) in
    let f : length c ≡ 16 = (p.blocks (take 16 s) (first_block s n room h)).count in
    let g : length d ≡ 16 = (p.blocks (take 16 t) (first_block t n room k)).count in
    let b = numbered c number in
    let v = numbered d number in
    let lb : length b ≡ 16 = length-numbered c number f in
    let lv : length v ≡ 16 = length-numbered d number g in
    let tb : length (take 8 b) ≡ 8 = length-take-le 8 b (omega arith) in
    let tv : length (take 8 v) ≡ 8 = length-take-le 8 v (omega arith) in
    let rest : length (drop 16 s) ≡ length (drop 16 t) = length-drop 16 s ∙ (omega (arith, h.count, k.count)) ∙ sym (length-drop 16 t) in
    let front : length (take 8 b ++ drop 16 s) ≡ length (take 8 v ++ drop 16 t) = omega (arith, length-append (take 8 b) (drop 16 s), length-append (take 8 v) (drop 16 t)) in
    let outer = parts_of (take 8 b ++ drop 16 s) (drop 8 b) (take 8 v ++ drop 16 t) (drop 8 v) front e in
    let inner = parts_of (take 8 b) (drop 16 s) (take 8 v) (drop 16 t) (tb ∙ sym tv) outer.0 in
    let same : b ≡ v = sym (take-append-drop 8 b) ∙ ap (λ x. x ++ drop 8 b) inner.0 ∙ ap (λ x. take 8 v ++ x) outer.1 ∙ take-append-drop 8 v in
    let ciphertext : c ≡ d = sym (numbered-numbered c number f) ∙ ap (λ x. numbered x number) same ∙ numbered-numbered d number g in
    let text : take 16 s ≡ take 16 t = p.one (take 16 s) (take 16 t) (first_block s n room h) (first_block t n room k) ciphertext in
    sym (take-append-drop 16 s) ∙ ap (λ x. x ++ drop 16 s) text ∙ ap (λ x. take 16 t ++ x) inner.1 ∙ take-append-drop 16 t

steps-injective : (kek s t : List ℕ) (n count : ℕ) → 16 ≤ n → Permutes kek → IsOctets n s → IsOctets n t
    → steps kek s count ≡ steps kek t count → s ≡ t
unfolding steps
steps-injective kek s t n zero room p h k e = e
steps-injective kek s t n (suc count) room p h k e =
    steps-injective kek s t n count room p h k
    (step-injective kek (steps kek s count) (steps kek t count) n (suc count) room p
    (IsOctets-steps kek s n count room p.blocks h) (IsOctets-steps kek t n count room p.blocks k) e)

start : (key : List ℕ) (n : ℕ) → IsOctets n key → IsOctets (8 + n) (initial_value ++ key)
start key n h = record {
  count = length-append initial_value key ∙ omega (arith, h.count);
  octets = All-append (λ octet. octet < 256) initial_value key (All-replicate (λ octet. octet < 256) 8 0xa6 (omega arith)) h.octets;
}

pub one_key : (kek a b : List ℕ) (n : ℕ) → 8 ≤ n → Permutes kek → IsOctets n a → IsOctets n b
    → wrapped kek a ≡ wrapped kek b → a ≡ b
unfolding wrapped
one_key kek a b n room p h k e =
    let count : 6 * (length b / 8) ≡ 6 * (length a / 8) = ap (λ m. 6 * (m / 8)) (k.count ∙ sym h.count) in
    let same : steps kek (initial_value ++ a) (6 * (length a / 8)) ≡ steps kek (initial_value ++ b) (6 * (length a / 8)) =
    e ∙ ap (steps kek (initial_value ++ b)) count in
    let whole : initial_value ++ a ≡ initial_value ++ b =
    steps-injective kek (initial_value ++ a) (initial_value ++ b) (8 + n) (6 * (length a / 8)) (omega arith) p (start a n h) (start b n k) same in
    (parts_of initial_value a initial_value b refl whole).1
