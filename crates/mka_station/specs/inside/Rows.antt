-- What a station makes of the rows of its peer lists.
use Rattle.std.specs.Prelude.{◌≡◌, ◌<◌, ℕ, List, length, map, slice_get}
use Rattle.std.specs.List.{filter}
use Rattle.mkpdu_codec.specs.declared.peer.Peer.{Peer}
use Rattle.peer_lists.specs.declared.heard.Row.{Row}
use Rattle.peer_lists.specs.Acceptance.{Own}
use Rattle.peer_lists.specs.Histories.{Peering}
use Rattle.peer_lists.specs.Peers.{row_at}
use Rattle.server_election.specs.declared.candidate.Candidate.{Candidate}
use Rattle.sak_exchange.specs.declared.report.Report.{Report}
use Rattle.mka_station.specs.Lives.{Member, candidate_of}
use Rattle.mka_station.specs.Views.{View, speakers, reports}
use Rattle.mka_station.specs.Announcing.{peer_of}

abbrev pub live_rows : List Row → List Row
live_rows rows = filter (λ r. r.live) rows

abbrev pub potential_rows : List Row → List Row
potential_rows rows = filter (λ r. r.potential) rows

abbrev pub report_of : Row → Report
report_of r = record { mi = r.mi; uses = r.uses }

abbrev pub candidate_in : Row → Candidate
candidate_in r = record { mi = r.mi; sci = r.sci; priority = r.priority }

abbrev pub peer_in : Row → Peer
peer_in r = record { mi = r.mi; mn = r.mn }

-- the rows show what a view has of live and potential members
pub record IsShown (m : Member) (v : View) (rows : List Row) : Type 0 where
  pub live_members : map (λ r. r.mi) (live_rows rows) ≡ speakers v.live
  pub live_reports : map report_of (live_rows rows) ≡ reports v.live
  pub live_candidates : map candidate_in (live_rows rows) ≡ map candidate_of v.live
  pub live_peers : map peer_in (live_rows rows) ≡ map (peer_of m v) v.live
  pub potential_members : map (λ r. r.mi) (potential_rows rows) ≡ speakers v.potential
  pub potential_peers : map peer_in (potential_rows rows) ≡ map (peer_of m v) v.potential
