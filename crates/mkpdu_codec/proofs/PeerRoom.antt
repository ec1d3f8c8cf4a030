-- Where there is room for a peer list, there is room for each of its peers in turn.
use Rattle.std.proofs.Common.{◌≡◌, ℕ, List, ◌++◌, length, get_or, suc, take, drop, drop-cons, ◌<◌, subst, sym, ap, ◌∙◌}
use Rattle.std.specs.Global.{Vec}
use Rattle.std.proofs.lemmas.List.{take-append-drop}
use Rattle.std.proofs.lemmas.List.Concat.{flat_map-append}
use Rattle.lan_base.specs.Room.{HasRoom, Puts}
use Rattle.lan_base.proofs.Public.{room_in_front, room_behind}
use Rattle.mkpdu_codec.specs.declared.peer.Peer.{Peer}
use Rattle.mkpdu_codec.specs.Sets.{peer, peers_body}

-- the peers before one, that one, and the peers behind it
pub peers_body-split : (ps : List Peer) (i : ℕ) (d : Peer) → i < length ps → peers_body ps ≡ peers_body (take i ps) ++ (peer (get_or ps i d) ++ peers_body (drop (suc i) ps))
peers_body-split ps i d lt =
    ap peers_body (sym (take-append-drop i ps)) ∙ flat_map-append peer (take i ps) (drop i ps)
    ∙ ap (λ (x : List Peer). peers_body (take i ps) ++ peers_body x) (drop-cons ps i d lt)

pub room_for_peer : (u v : Vec ℕ) (ps : List Peer) (i : ℕ) (d : Peer) → i < length ps → HasRoom u (peers_body ps) → Puts u v (peers_body (take i ps)) → HasRoom v (peer (get_or ps i d))
room_for_peer u v ps i d lt r p =
    room_in_front v (peer (get_or ps i d)) (peers_body (drop (suc i) ps)) (room_behind u v (peers_body (take i ps)) _ p (subst (HasRoom u) (peers_body-split ps i d lt) r))
