use Rattle.mka_station.proofs.peer_view.PeerView.new.Goals as goal

pub returns : goal.returns
returns c = λ setup mi peers. record { found = λ is. absurd (cc (is)) }
