use Rattle.packet_verdicts.specs.Groups.{gives_check, keys_of}
use Rattle.packet_verdicts.proofs.Mapped.{position-map}
use Rattle.packet_verdicts.proofs.groups.Groups.first_right.Goals as goal

pub returns-clause-value : goal.returns-clause-value
returns-clause-value c = let e = position-map (gives_check c.args.covered.now c.args.spelled.now) keys_of c.self.inside.groups.items in cc
