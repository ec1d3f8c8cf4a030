use Rattle.std.proofs.Common.{◌∙◌, arith}
use Rattle.aes_block.proofs.RoundKeys.{kept_between_is, kept_first, kept_last_is}
use Rattle.aes_block.proofs.key.kept.Goals as goal
use Rattle.aes_block.proofs.key.kept.Goals.{then-i-eq0, else-i-eq0, then-i-last, else-i-last}

pub returns : goal.returns
returns c =
    let i = c.args.i in
    let last = c.args.last in
    let o = c.args.octets in
    elim c.if-i-eq0.branch [
      | then-i-eq0 w ↦ kept_first i last o _ (omega (arith, w.if-i-eq0.true)) (w.result-is ∙ w.changed.ensures)
      | else-i-eq0 w ↦ w.result-is ∙ elim w.if-i-last.branch [
        | then-i-last v ↦ v.result-is ∙ kept_between_is i last o _ c.fits-octets.0 (omega (arith, w.if-i-eq0.false)) (omega (arith, v.if-i-last.true)) v.changed-then-i-last.ensures
        | else-i-last v ↦ v.result-is ∙ kept_last_is i last o c.fits-octets.0 (omega (arith, w.if-i-eq0.false)) (omega (arith, v.if-i-last.false))
      ]
    ]
