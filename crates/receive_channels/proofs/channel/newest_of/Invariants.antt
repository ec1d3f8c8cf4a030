use Rattle.std.proofs.Common.{◌≡◌, drop}
use Rattle.receive_channels.specs.Channels.{newest_of}
use Rattle.receive_channels.proofs.channel.newest_of.Given as goal

abbrev pub invariant-loop-key : goal.invariant-loop-key
invariant-loop-key l = newest_of l.newest (drop l.key-index l.keys) ≡ newest_of l.epoch l.keys
