use Rattle.std.proofs.Common.{List, ℕ, ap, ◌∙◌}
use Rattle.gcm_core.specs.Gcm.{counter_block, gctr}
use Rattle.gcm_core.proofs.KeyStream.{IsBlock-counter}
use Rattle.gcm_core.proofs.Tags.{gcm_text-is}
use Rattle.gcm_core.proofs.sealing.encrypt_text.Goals as goal

pub returns-clause-text : goal.returns-clause-text
returns-clause-text c =
    gcm_text-is _ _ _ _ c.told-iv (c.encrypt.ensures ∙ ap (λ (k : List ℕ). gctr k (counter_block c.args.iv.now 2) c.args.text.now) c.key.view_is)

pub returns-clause-counter : goal.returns-clause-counter
returns-clause-counter c = IsBlock-counter c.args.iv.now 1 c.told-iv c.fits-iv
