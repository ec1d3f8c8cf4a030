use Rattle.group_safety.proofs.typed.Runs.{facts-typed}
use Rattle.group_safety.proofs.fields.law_facts_are_typed.Goals as goal

pub returns : goal.returns
returns c = facts-typed c.law_reading_refuses.ensures
