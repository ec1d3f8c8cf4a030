use Rattle.std.proofs.Common.{rules, ◌∙◌, ap}
use Rattle.gcm_core.proofs.Public.{IsBlock-counter}
use Rattle.gcm_frames.specs.Sealed.{is_tag_right_with, behind_clear}
use Rattle.gcm_frames.proofs.Opening.{Encrypts}
use Rattle.gcm_frames.proofs.Offsets.{sealed_by}
use Rattle.gcm_frames.proofs.validating.is_sealed_with.Goals as goal

pub returns-clause-sealed : goal.returns-clause-sealed
returns-clause-sealed c =
    let w : Encrypts c.args.key.now c.args.iv = record {
      counter = IsBlock-counter c.args.iv 1 (search rules) (λ i. search rules);
      blocks = λ text h. c.law_ciphertexts_are_blocks.ensures c.args.key.now text c.law_is_key.ensures h;
    } in
    sealed_by c.args.key.now c.args.iv c.args.frame.now (behind_clear c.args.clear c.args.tag.now) c.is_tag_right.result w
    (c.is_tag_right.ensures ∙ ap (λ t. is_tag_right_with c.args.key.now c.args.iv t c.args.frame.now) c.behind_clear.ensures.value)
