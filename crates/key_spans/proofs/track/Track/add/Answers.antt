use Rattle.key_spans.proofs.Claiming.{added-behind}
use Rattle.key_spans.proofs.Standing.{on_ok}
use Rattle.key_spans.proofs.track.Track.add.Goals as goal

pub returns : goal.returns
returns c =
    on_ok c.put.result (added-behind c.args.station c.args.attempt c.args.self.now c.reach.new.self c.put.new.self c.in_ok-reach.ensures.same) c.put.ensures
