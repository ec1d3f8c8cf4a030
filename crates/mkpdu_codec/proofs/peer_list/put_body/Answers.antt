use Rattle.mkpdu_codec.proofs.PeerRoom.{room_for_peer}
use Rattle.mkpdu_codec.proofs.peer_list.put_body.Goals as goal

pub put_entry-requires : goal.put_entry-requires
put_entry-requires c = room_for_peer c.args.into.now c.loop-entry.into c.args.peers.now c.loop-entry.entry-index _ c.loop-entry-test.true c.requires c.loop-entry.invariant
