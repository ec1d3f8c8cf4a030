-- one block, and a context of 16 octets
use Rattle.std.proofs.Common.{◌≡◌, ℕ, ◌+◌, ◌-◌, ◌≤◌, List, ◌++◌, length, take, drop, replicate, ap, sym, ◌∙◌, arith, min, inl, inr, length-append}
use Rattle.std.proofs.Math.Seq.{take-append-add}
use Rattle.std.proofs.lemmas.List.{take_all, take-append-le, take-replicate, drop-replicate, append-nil}
use Rattle.std.proofs.lemmas.Bool.{cases_lt}
use Rattle.aes_cmac.specs.Cmac.{cmac}
use Rattle.mka_kdf.specs.Kdf.{blocks, derived, input, context_of}

-- 16 octets are one block
pub derived-16 : (key label context : List ℕ) → length (cmac key (input 1 label context 128)) ≡ 16
    → derived key label context 16 ≡ cmac key (input 1 label context 128)
unfolding derived blocks
derived-16 key label context h = take_all 16 (cmac key (input 1 label context 128)) (omega arith)

-- 32 octets are two blocks
pub derived-32 : (key label context : List ℕ) → length (cmac key (input 1 label context 256)) ≡ 16
    → length (cmac key (input 2 label context 256)) ≡ 16
    → cmac key (input 1 label context 256) ++ cmac key (input 2 label context 256) ≡ derived key label context 32
unfolding derived blocks
derived-32 key label context one two =
    let first = cmac key (input 1 label context 256) in
    let second = cmac key (input 2 label context 256) in
    sym (take_all 32 (first ++ second) (omega (arith, one, two, length-append first second)))

-- a name of at most 16 octets, and zeros behind it
context_of-short : (ckn : List ℕ) → length ckn ≤ 16 → context_of ckn ≡ ckn ++ drop (length ckn) (replicate 16 0)
context_of-short ckn h =
    let whole : 16 ≡ length ckn + (16 - length ckn) = omega arith in
    let first : context_of ckn ≡ ckn ++ take (16 - length ckn) (replicate 16 0) =
    ap (λ k. take k (ckn ++ replicate 16 0)) whole ∙ take-append-add ckn (replicate 16 0) (16 - length ckn) in
    let zeros : take (16 - length ckn) (replicate 16 0) ≡ drop (length ckn) (replicate 16 0) =
    take-replicate (16 - length ckn) 16 0 (omega arith) ∙ sym (drop-replicate (length ckn) 16 0) in
    first ∙ ap (λ z. ckn ++ z) zeros

-- so many octets of a name, and zeros behind them
pub padded_context : (ckn front : List ℕ) (n : ℕ) → n ≡ min (length ckn) 16 → front ≡ take n ckn
    → front ++ drop n (replicate 16 0) ≡ context_of ckn
padded_context ckn front n e f =
    elim (cases_lt (length ckn) 16) [
      | inl h ↦
          let short : n ≡ length ckn = omega arith in
          let all : front ≡ ckn = f ∙ take_all n ckn (omega arith) in
          let is = context_of-short ckn (omega arith) in
          cc
      | inr h ↦
          let long : n ≡ 16 = omega arith in
          let first : context_of ckn ≡ take 16 ckn = take-append-le 16 ckn (replicate 16 0) h in
          let none : take 16 ckn ++ drop 16 (replicate 16 0) ≡ take 16 ckn = append-nil (take 16 ckn) in
          cc
    ]
