use Rattle.std.proofs.Common.{arith}
use Rattle.mkpdu_codec.proofs.Loops.{entries_begin, entries_go_on, entries_end}
use Rattle.mkpdu_codec.proofs.Taking.{entry_at-shorter}
use Rattle.mkpdu_codec.proofs.peer_list.read_entries.Goals as goal

pub loop-peer-init : goal.loop-peer-init
loop-peer-init c = rw c.new-peers.ensures (entries_begin c.args.octets.now)

pub loop-peer-smaller : goal.loop-peer-smaller
loop-peer-smaller c =
    let shorter = entry_at-shorter c.loop-peer.rest.now (c.in-Some.peer, c.in-Some.behind.now) c.in-Some.ensures in
    omega (arith, shorter)

pub loop-peer-preserved : goal.loop-peer-preserved
loop-peer-preserved c =
    rw c.in_ok-push.ensures.ok (entries_go_on c.loop-peer.peers c.loop-peer.rest.now c.args.octets.now c.in-Some.peer c.in-Some.behind.now c.in-Some.ensures c.loop-peer.invariant)

pub returns : goal.returns
returns c = entries_end c.loop-peer.peers c.loop-peer.rest.now c.args.octets.now c.in_default.ensures c.loop-peer.invariant
