use Rattle.std.proofs.Common.{arith}
use Rattle.mkpdu_codec.specs.inside.Views.{set_of}
use Rattle.mkpdu_codec.proofs.Taking.{set_at-shorter}
use Rattle.mkpdu_codec.proofs.basic.read_basic.Goals as goal

pub returns-clause-within : goal.returns-clause-within
returns-clause-within c =
    let shorter = set_at-shorter c.args.octets.now (set_of c.in_ok-set.set, c.in_ok-set.rest.now) c.in_ok-set.ensures in
    omega (arith, shorter)
