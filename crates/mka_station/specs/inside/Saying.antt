-- What a station says, by what the code has.
use Rattle.std.specs.Prelude.{ℕ, ◌==◌, Bool, true, if◌then◌else◌, not, ◌&&◌, List, take, map, Option}
use Rattle.std.specs.Prelude.{Some, None, is_none, option_and_then}
use Rattle.std.specs.List.{list_all, list_any}
use Rattle.lan_base.specs.declared.address.Mi.{Mi}
use Rattle.lan_base.specs.declared.key_id.KeyId.{KeyId}
use Rattle.mkpdu_codec.specs.declared.announcement.Announcement.{Announcement}
use Rattle.mkpdu_codec.specs.declared.given.Given.{Given}
use Rattle.mkpdu_codec.specs.declared.key_use.Uses.{Uses}
use Rattle.sak_exchange.specs.declared.report.Report.{Report}
use Rattle.sak_exchange.specs.declared.held_key.Key.{Key}
use Rattle.sak_exchange.specs.Histories.{Keying}
use Rattle.sak_exchange.specs.Held.{latest, old}
use Rattle.sak_exchange.specs.declared.due.Seen.{Seen}
use Rattle.sak_exchange.specs.Reports.{reports as is_reported}
use Rattle.sak_exchange.specs.Making.{is_in_roster}
use Rattle.mka_station.specs.declared.saying.Lowest.{Lowest}
use Rattle.server_election.specs.Election.{never_serves}
use Rattle.mka_station.specs.Lives.{Setup}
use Rattle.mka_station.specs.Views.{is_server}
use Rattle.mka_station.specs.Announcing.{lowest_under, given_as}
use Rattle.mka_station.specs.Standing.{State}
use Rattle.mka_station.specs.inside.Rows.{live_rows, potential_rows, peer_in}
use Rattle.mka_station.specs.inside.Found.{Found}

-- the lowest acceptable packet numbers that a tick is shown behind this history of the keys
abbrev pub lowest_of : List Keying → Seen → Lowest
lowest_of h seen = record { latest = latest h; old = old h; seen = seen }

-- the lowest acceptable packet number under a key
abbrev pub lowest_by : Lowest → Key → ℕ
lowest_by l k = lowest_under l.latest l.old l.seen k

-- whether the latest key is given to those that say this
abbrev pub is_given_to : List Keying → List Report → KeyId → Bool
is_given_to h told id =
    list_all (λ r. is_in_roster h r.mi) told && list_any (λ r. not (is_reported id r.uses)) told

-- the Distributed SAK of a station that serves
abbrev pub given_after : List ℕ → Bool → List Report → List Keying → Option Given
given_after kek is_serving told h =
    option_and_then
    (λ k. if is_serving && is_given_to h told k.id then Some (given_as kek k) else None)
    (latest h)

-- whether the key server flag is set, where this server is elected
abbrev pub is_flagged_by : Setup → Option Mi → Mi → Bool
is_flagged_by setup server mi =
    if setup.early_flag && (is_none server && not (setup.priority == never_serves)) then true
    else is_server server mi

-- the announcement
abbrev pub announced_by : State → Found → ℕ → Option Uses → Option Given → Announcement
announced_by s c mn uses given =
    record {
      source = record { 0 = take 6 s.setup.sci.0 };
      priority = s.setup.priority;
      server = is_flagged_by s.setup c.server s.mi;
      sci = s.setup.sci;
      mi = s.mi;
      mn = mn;
      ckn = s.setup.ckn;
      live = map peer_in (live_rows c.rows);
      potential = map peer_in (potential_rows c.rows);
      uses = uses;
      given = given;
      highs = None;
    }
