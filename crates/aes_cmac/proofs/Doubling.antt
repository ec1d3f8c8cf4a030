-- A block doubled without asking for its highest bit.
use Rattle.std.proofs.Common.{◌≡◌, ℕ, ◌*◌, ◌/◌, ◌%◌, ◌^◌, ◌<◌, sym, ap, ◌∙◌, arith, bit_xor, inl, inr}
use Rattle.std.specs.Prelude.{if◌then◌else◌}
use Rattle.std.specs.Int.Bits.{xor_zero_r}
use Rattle.std.proofs.lemmas.Bool.{cases_lt, lt-ltb, le-ltb}
use Rattle.aes_cmac.specs.Cmac.{doubled_bits}

pub doubled_bits-is : (n : ℕ) → n < 2 ^ 128 → bit_xor (n * 2 % 2 ^ 128) (n / 2 ^ 127 * 0x87) ≡ doubled_bits n
doubled_bits-is n fits =
    elim (cases_lt n (2 ^ 127)) [
      | inl less ↦
          let whole : n * 2 % 2 ^ 128 ≡ 2 * n = omega arith in
          let none : n / 2 ^ 127 * 0x87 ≡ 0 = omega arith in
          (λ i. bit_xor (whole i) (none i)) ∙ xor_zero_r (2 * n)
          ∙ sym (ap (λ b. if b then 2 * n else bit_xor (2 * n % 2 ^ 128) 0x87) (lt-ltb n (2 ^ 127) less))
      | inr more ↦
          let low : n * 2 % 2 ^ 128 ≡ 2 * n % 2 ^ 128 = omega arith in
          let one : n / 2 ^ 127 * 0x87 ≡ 0x87 = omega arith in
          (λ i. bit_xor (low i) (one i))
          ∙ sym (ap (λ b. if b then 2 * n else bit_xor (2 * n % 2 ^ 128) 0x87) (le-ltb n (2 ^ 127) more))
    ]
