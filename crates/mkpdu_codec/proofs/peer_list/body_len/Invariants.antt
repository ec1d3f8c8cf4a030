use Rattle.std.proofs.Common.{◌≡◌, ◌*◌, length, take}
use Rattle.mkpdu_codec.specs.Sets.{peers_body}
use Rattle.mkpdu_codec.proofs.peer_list.body_len.Given as goal

abbrev pub invariant-loop-entry : goal.invariant-loop-entry
invariant-loop-entry l = (l.len ≡ length (peers_body (take l.entry-index l.peers))) × (l.len ≡ 16 * l.entry-index)
