use Rattle.least_pairs.proofs.Verdicts.{repetition-in, repetition-out}
use Rattle.least_pairs.proofs.laws.law_a_repetition_changes_no_pair.Goals as goal

pub returns : goal.returns
returns g c = λ agree before now earlier number key v itself turned told go verdict. (
  repetition-in g.row.K.Denot g.row.V.Denot agree before now earlier number key v itself turned told go verdict,
  repetition-out g.row.K.Denot g.row.V.Denot agree before now earlier number key v itself turned told go verdict,
)
