use Rattle.std.proofs.Common.{ap, sym, ◌∙◌}
use Rattle.sak_exchange.specs.Lives.{apart}
use Rattle.sak_exchange.proofs.Entries.{keys-installed, transmitting-is}
use Rattle.sak_exchange.proofs.laws.law_an_install_leaves_what_transmits.Goals as goal

pub returns-clause-latest : goal.returns-clause-latest
returns-clause-latest c = λ base h r k kept. (keys-installed base h r k kept).latest

pub returns-clause-old : goal.returns-clause-old
returns-clause-old c = λ base h r k kept. (keys-installed base h r k kept).old ∙ ap (apart k.an) (sym (transmitting-is base h kept.2))
