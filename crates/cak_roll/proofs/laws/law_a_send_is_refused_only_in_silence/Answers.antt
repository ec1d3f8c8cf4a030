use Rattle.cak_roll.proofs.Refusals.{refused-silent}
use Rattle.cak_roll.proofs.Sends.{nothing-transmits}
use Rattle.cak_roll.proofs.laws.law_a_send_is_refused_only_in_silence.Goals as goal

pub returns-clause-number : goal.returns-clause-number
returns-clause-number c = λ pair users t s run none. nothing-transmits pair users t s run none

pub returns-clause-shown : goal.returns-clause-shown
returns-clause-shown c = λ pair users x t g s user place why run sent there.
    refused-silent pair users x t g s user place why run sent there
