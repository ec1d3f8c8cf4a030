use Rattle.std.proofs.Common.{rules}
use Rattle.gcm_core.proofs.Public.{IsBlock-counter}
use Rattle.gcm_frames.proofs.Opening.{Encrypts}
use Rattle.gcm_frames.proofs.Validated.{conf_plain, conf_unchanged, conf_exact, plain_plain, plain_exact}
use Rattle.gcm_frames.proofs.validating.open_in_place.Goals as goal

pub returns-then-tag-clause-plain : goal.returns-then-tag-clause-plain
returns-then-tag-clause-plain c =
    conf_plain _ c.args.frame.now _ c.args.tag.now _ _ _ _ c.unseal.result
    (record { head_is = c.split_at_mut-head.ensures.front; rest_is = c.split_at_mut-head.ensures.back; check_is = c.check_of-check.ensures; conf_is = c.if-tag.true })
    c.unseal.ensures.only

pub returns-then-tag-clause-unchanged : goal.returns-then-tag-clause-unchanged
returns-then-tag-clause-unchanged c =
    conf_unchanged c.args.frame.now _ c.args.tag.now _ _ _ c.unseal.result
    (record { head_is = c.split_at_mut-head.ensures.front; rest_is = c.split_at_mut-head.ensures.back; check_is = c.check_of-check.ensures; conf_is = c.if-tag.true })
    c.unseal.ensures.unchanged

pub returns-then-tag-clause-exact : goal.returns-then-tag-clause-exact
returns-then-tag-clause-exact c =
    let w : Encrypts c.args.key.now c.args.iv = record {
      counter = IsBlock-counter c.args.iv 1 (search rules) (λ i. search rules);
      blocks = λ text h. c.law_ciphertexts_are_blocks.ensures c.args.key.now text c.law_is_key.ensures h;
    } in
    conf_exact _ c.args.frame.now _ c.args.tag.now _ _ _ _ c.unseal.result w
    (record { head_is = c.split_at_mut-head.ensures.front; rest_is = c.split_at_mut-head.ensures.back; check_is = c.check_of-check.ensures; conf_is = c.if-tag.true })
    c.requires.within c.unseal.ensures.opened c.unseal.ensures.refused

pub returns-else-tag-clause-plain : goal.returns-else-tag-clause-plain
returns-else-tag-clause-plain c = plain_plain c.args.key.now c.args.iv c.args.frame.now c.args.tag.now c.unseal-else-tag.result c.if-tag.false

pub returns-else-tag-clause-exact : goal.returns-else-tag-clause-exact
returns-else-tag-clause-exact c =
    let w : Encrypts c.args.key.now c.args.iv = record {
      counter = IsBlock-counter c.args.iv 1 (search rules) (λ i. search rules);
      blocks = λ text h. c.law_ciphertexts_are_blocks.ensures c.args.key.now text c.law_is_key.ensures h;
    } in
    plain_exact _ c.args.frame.now _ c.args.tag.now _ _ c.unseal-else-tag.result w c.if-tag.false c.check_of-check.ensures
    c.unseal-else-tag.ensures.opened c.unseal-else-tag.ensures.refused
