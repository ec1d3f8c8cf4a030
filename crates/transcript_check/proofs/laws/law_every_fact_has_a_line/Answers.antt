use Rattle.transcript_check.proofs.AllFit.{all-fit}
use Rattle.transcript_check.proofs.laws.law_every_fact_has_a_line.Goals as goal

pub returns : goal.returns
returns c = λ settings users r stepped.
    all-fit c.law_typed_facts_have_lines.ensures settings users r stepped
    (c.law_facts_are_typed.ensures settings users r stepped)
    (c.law_facts_have_their_stations.ensures.all settings users r stepped)
