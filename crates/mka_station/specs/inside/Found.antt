-- What a tick finds in the peer lists.
use Rattle.std.specs.Prelude.{◌≡◌, ℕ, Bool, List, ◌∷◌, Option, IsTrue, map, slice_get}
use Rattle.lan_base.specs.declared.address.Mi.{Mi}
use Rattle.server_election.specs.declared.candidate.Candidate.{Candidate}
use Rattle.server_election.specs.Election.{elected}
use Rattle.peer_lists.specs.Table.{Table}
use Rattle.peer_lists.specs.Showing.{rows_shown_later}
use Rattle.peer_lists.specs.declared.heard.Row.{Row}
use Rattle.peer_lists.specs.Histories.{ticked as peers_ticked}
use Rattle.peer_lists.specs.Peers.{row_at}
use Rattle.sak_exchange.specs.declared.report.Report.{Report}
use Rattle.mka_station.specs.Lives.{Setup, Member, Entry, ticked, own, peers_of}
use Rattle.mka_station.specs.Views.{view, reports}
use Rattle.mka_station.specs.inside.Rows.{live_rows, report_of, candidate_in}

-- the rows of the peer lists, what the live members say of their keys, and the elected server; and
-- whether the next tick finds just that
pub record Found : Type 0 where
  pub rows : List Row
  pub reports : List Report
  pub server : Option Mi
  pub ahead : Bool

-- the station as a candidate
abbrev pub candidate_by : Setup → Mi → Candidate
candidate_by setup mi = record { mi = mi; sci = setup.sci; priority = setup.priority }

-- this is what a station that is this candidate finds in these rows
pub record IsIn (own : Candidate) (seen : List Row) (c : Found) : Type 0 where
  pub rows : c.rows ≡ seen
  pub reports : c.reports ≡ map report_of (live_rows c.rows)
  pub server : c.server ≡ elected own (map candidate_in (live_rows c.rows))

-- where it is said to be so, the next tick finds this in these peer lists
pub record IsAhead (setup : Setup) (mi : Mi) (peers : Table) (c : Found) : Type 0 where
  pub found : IsTrue c.ahead → IsIn (candidate_by setup mi) (rows_shown_later peers) c

-- this is what the next tick finds
pub record IsFoundNext (m : Member) (p : List Entry) (c : Found) : Type 0 where
  pub rows : (at : ℕ) → slice_get c.rows at ≡ row_at (own m) (peers_ticked ∷ peers_of m p) at
  pub told : c.reports ≡ reports (view m (ticked ∷ p)).live
  pub server : c.server ≡ (view m (ticked ∷ p)).server
