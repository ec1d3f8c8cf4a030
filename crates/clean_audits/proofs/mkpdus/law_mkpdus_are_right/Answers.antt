use Rattle.group_safety.proofs.Public.{contains-in}
use Rattle.lan_core.specs.Ledgers.{air}
use Rattle.clean_audits.proofs.MkpdusRight.{mkpdus-right}
use Rattle.clean_audits.proofs.mkpdus.law_mkpdus_are_right.Goals as goal

pub returns : goal.returns
returns c = λ settings users r frame packet stepped fresh unforged there plain is.
    mkpdus-right c.law_one_key_for_one_wrap.ensures settings users r frame packet
    (record { stepped = stepped; fresh = fresh; unforged = unforged })
    (contains-in (air r) frame there) plain is
