use Rattle.std.proofs.Common.{◌∙◌, List, map, ap}
use Rattle.server_election.specs.declared.candidate.Candidate.{Candidate}
use Rattle.server_election.specs.Election.{elected as elected_among}
use Rattle.peer_lists.specs.declared.heard.Row.{Row}
use Rattle.mka_station.specs.inside.Rows.{live_rows, candidate_in, report_of}
use Rattle.mka_station.proofs.peer_view.PeerView.look.Goals as goal

pub returns : goal.returns
returns c =
    let rows = c.rows_after_tick.new.into.items in
    record {
      rows = c.rows_after_tick.ensures.shown;
      reports = c.note_reports.ensures.reports ∙ ap (λ (rs : List Row). map report_of (live_rows rs)) c.deref.ensures.value;
      server = c.elected-self-inside.ensures.server ∙ ap (λ (rs : List Row). elected_among c.candidate.result (map candidate_in (live_rows rs))) c.deref-2.ensures.value ∙ ap (λ (x : Candidate). elected_among x (map candidate_in (live_rows rows))) c.candidate.ensures;
    }
