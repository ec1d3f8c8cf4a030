-- When an announcement is due, by what the code keeps.
use Rattle.std.specs.Prelude.{ℕ, ◌+◌, min, nat_le, Bool, true, not, ◌&&◌, ◌||◌, List, map, Option}
use Rattle.std.specs.Prelude.{Some, None}
use Rattle.lan_base.specs.declared.address.Mi.{Mi}
use Rattle.lan_base.specs.Timers.{hello_time}
use Rattle.peer_lists.specs.declared.heard.Row.{Row}
use Rattle.sak_exchange.specs.Histories.{Keying}
use Rattle.sak_exchange.specs.Held.{latest, old, transmitting}
use Rattle.sak_exchange.specs.Standing.{most_ticks}
use Rattle.mka_station.specs.Announcing.{Shown, id_of, shown_of, same_option, same_key, same_shown}
use Rattle.mka_station.specs.declared.shown.Spoken.{Spoken}
use Rattle.mka_station.specs.inside.Rows.{live_rows, potential_rows}

-- what rows, a server and keys show
abbrev pub shown_by : List Row → Option Mi → List Keying → Shown
shown_by rows server h =
    shown_of (map (λ r. r.mi) (live_rows rows)) (map (λ r. r.mi) (potential_rows rows)) server h

-- whether these keys are those that were shown
abbrev pub same_keys : List Keying → Shown → Bool
same_keys h t =
    same_option same_key (id_of (latest h)) t.latest
    && (same_option same_key (id_of (old h)) t.old
    && same_option same_key (id_of (transmitting h)) t.transmitting)

-- the ticks of a count, one later
abbrev pub one_later : ℕ → ℕ
one_later since = min (since + 1) most_ticks

-- whether a station that shows this one tick later announces itself
abbrev pub is_due_now : Spoken → Shown → Bool
is_due_now spoken shown =
    nat_le hello_time (one_later spoken.since) || not (same_shown shown spoken.shown)

abbrev pub is_due_after : Option Spoken → Shown → Bool
is_due_after None shown = true
is_due_after (Some spoken) shown = is_due_now spoken shown
