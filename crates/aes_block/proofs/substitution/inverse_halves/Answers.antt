use Rattle.std.proofs.Common.{◌/◌, bit_and, bit_xor}
use Rattle.aes_block.specs.LookUp.{entry_at}
use Rattle.aes_block.specs.inside.Halves.{both, over}
use Rattle.aes_block.specs.declared.tables.TheConstants.{INVERSES, CONSTANT_OVER}
use Rattle.aes_block.proofs.Lanes.{looked, lower, sum, upper}
use Rattle.aes_block.proofs.substitution.inverse_halves.Goals as goal

pub returns-clause-first : goal.returns-clause-first
returns-clause-first c =
    let v = c.args.octets in
    let i = upper v c.fits-octets in
    let k = lower v c.fits-octets in
    let j = sum (λ x. x / 16) (λ x. bit_and x 15) v i k in
    let ak = looked CONSTANT_OVER (λ x. bit_and x 15) v c.look_up-ak.ensures k in
    let iak = sum (λ x. entry_at INVERSES (x / 16)) over v (looked INVERSES (λ x. x / 16) v c.look_up.ensures i) ak in
    sum (λ x. entry_at INVERSES (bit_xor (entry_at INVERSES (x / 16)) (over x))) both v (looked INVERSES (λ x. bit_xor (entry_at INVERSES (x / 16)) (over x)) v c.look_up-3.ensures iak) j

pub returns-clause-second : goal.returns-clause-second
returns-clause-second c =
    let v = c.args.octets in
    let i = upper v c.fits-octets in
    let k = lower v c.fits-octets in
    let j = sum (λ x. x / 16) (λ x. bit_and x 15) v i k in
    let ak = looked CONSTANT_OVER (λ x. bit_and x 15) v c.look_up-ak.ensures k in
    let jak = sum (λ x. entry_at INVERSES (both x)) over v (looked INVERSES both v c.look_up-2.ensures j) ak in
    sum (λ x. entry_at INVERSES (bit_xor (entry_at INVERSES (both x)) (over x))) (λ x. x / 16) v (looked INVERSES (λ x. bit_xor (entry_at INVERSES (both x)) (over x)) v c.look_up-4.ensures jak) i
