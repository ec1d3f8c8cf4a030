use Rattle.packet_verdicts.specs.Groups.{has_name, keys_of}
use Rattle.packet_verdicts.proofs.Mapped.{any-map}
use Rattle.packet_verdicts.proofs.groups.Groups.has_name.Goals as goal

pub returns : goal.returns
returns c = let e = any-map (has_name c.args.ckn.now) keys_of c.self.inside.groups.items in cc
