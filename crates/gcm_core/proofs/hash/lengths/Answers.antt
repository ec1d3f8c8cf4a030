use Rattle.std.proofs.Common.{◌≡◌, ℕ, ◌*◌, ◌%◌, ◌^◌, length, ap, ◌∙◌, arith}
use Rattle.std.proofs.lemmas.Nat.{or_shifted}
use Rattle.gcm_core.specs.Blocks.{block_octets}
use Rattle.gcm_core.specs.Gcm.{lengths}
use Rattle.gcm_core.proofs.Octets.{block_octets-halves}
use Rattle.gcm_core.proofs.hash.lengths.Goals as goal

pub returns : goal.returns
unfolding lengths
returns c =
    let m : ℕ = length c.args.extra.now in
    let n : ℕ = length c.args.ciphertext.now in
    let high : 8 * m * 2 ^ 64 % 2 ^ 128 ≡ 8 * m * 2 ^ 64 = omega arith in
    ap block_octets (rw high (or_shifted (8 * m) 64 (8 * n) (omega arith)))
    ∙ block_octets-halves (8 * m) (8 * n) (omega arith) (omega arith)
