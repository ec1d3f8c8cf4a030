use Rattle.std.proofs.Common.{◌≡◌, sym, ◌∙◌, rules}
use Rattle.gcm_core.proofs.Tags.{unsealed_is, unsealed_only}
use Rattle.gcm_core.proofs.sealing.unseal.Goals as goal

pub returns-clause-opened : goal.returns-clause-opened
returns-clause-opened c =
    let same : c.tag_of-found.result ≡ c.args.tag = search rules in
    unsealed_is _ _ _ _ _ _ record { counter = c.encrypt_text.ensures.counter; blocks = c.tag_of-found.ensures.blocks }
    c.encrypt_text.ensures.text (sym same ∙ c.tag_of-found.ensures.tag)

pub returns-clause-only : goal.returns-clause-only
returns-clause-only c = λ plain e.
    unsealed_only _ _ _ _ _ _ plain record { counter = c.encrypt_text.ensures.counter; blocks = c.tag_of-found.ensures.blocks }
    c.encrypt_text.ensures.text e
