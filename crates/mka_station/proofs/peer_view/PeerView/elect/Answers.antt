use Rattle.std.proofs.Common.{◌∙◌, List, map, ap, refl}
use Rattle.server_election.specs.declared.candidate.Candidate.{Candidate}
use Rattle.server_election.specs.Election.{elected as elected_among}
use Rattle.peer_lists.specs.declared.heard.Row.{Row}
use Rattle.mka_station.specs.Lives.{own, peers_of}
use Rattle.mka_station.specs.inside.Rows.{live_rows, candidate_in}
use Rattle.mka_station.proofs.PeerViews.{elected-now}
use Rattle.mka_station.proofs.peer_view.PeerView.elect.Goals as goal

pub returns-clause-server : goal.returns-clause-server
returns-clause-server c = λ m p setup mi peers.
    let rows = c.rows_now.new.into.items in
    elected-now m p rows c.elected.result (c.rows_now.ensures.rows (own m) (peers_of m p) peers)
    (c.elected.ensures.server ∙ ap (λ (rs : List Row). elected_among c.candidate.result (map candidate_in (live_rows rs))) c.deref.ensures.value ∙ ap (λ (x : Candidate). elected_among x (map candidate_in (live_rows rows))) (c.candidate.ensures ∙ rw (setup, mi) refl))

pub returns-clause-forgotten : goal.returns-clause-forgotten
returns-clause-forgotten c = λ setup mi peers. record { found = λ is. absurd (cc (is)) }
