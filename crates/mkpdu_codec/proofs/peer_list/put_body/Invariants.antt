use Rattle.std.proofs.Common.{take}
use Rattle.lan_base.specs.Room.{Puts}
use Rattle.mkpdu_codec.specs.Sets.{peers_body}
use Rattle.mkpdu_codec.proofs.peer_list.put_body.Given as goal

abbrev pub invariant-loop-entry : goal.invariant-loop-entry
invariant-loop-entry l = Puts l.initial.into l.into (peers_body (take l.entry-index l.peers))
