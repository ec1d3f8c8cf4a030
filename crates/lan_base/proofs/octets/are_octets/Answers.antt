use Rattle.std.proofs.Common.{arith, ◌<◌}
use Rattle.std.proofs.lemmas.List.Elements.{All-from_get_or}
use Rattle.lan_base.proofs.octets.are_octets.Goals as goal

pub returns : goal.returns
returns c = All-from_get_or (λ o. o < 256) c.args.octets.now 0 (λ i within. omega (arith, c.type_inv.octets i))
