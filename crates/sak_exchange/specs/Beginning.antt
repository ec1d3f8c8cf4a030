-- When the latest key begins, and when the old one is retired (IEEE Std 802.1X, clause 9).
use Rattle.std.specs.Prelude.{ℕ, ◌+◌, nat_le, Bool, false, if◌then◌else◌, not, ◌&&◌, List, Option, Some, None, is_some, option_map, option_and_then}
use Rattle.std.specs.List.{list_all}
use Rattle.lan_base.specs.Timers.{life_time}
use Rattle.mkpdu_codec.specs.declared.key_use.Uses.{Uses}
use Rattle.sak_exchange.specs.declared.change.Cause.{Cause}
use Rattle.sak_exchange.specs.declared.change.Cause.TheVariants.{All, Timeout, Flag}
use Rattle.sak_exchange.specs.declared.report.Report.{Report}
use Rattle.sak_exchange.specs.declared.held_key.Key.{Key}
use Rattle.sak_exchange.specs.Histories.{Keying, clock, last_roster, last_made_at, begun_at, has_begun}
use Rattle.sak_exchange.specs.Held.{is_retire_time_ago, latest, old, is_latest}
use Rattle.sak_exchange.specs.Reports.{reports_latest, transmits}

-- whether something came at a tick count that lies the life time or longer before another
abbrev pub is_long_ago : ℕ → Option ℕ → Bool
is_long_ago now None = false
is_long_ago now (Some at) = nat_le (at + life_time) now

-- whether this life made the latest key
abbrev pub is_latest_made : List Keying → Bool
is_latest_made h = is_latest h (λ k. is_some (last_roster h))

-- a key that begins, and why
pub record Beginning : Type 0 where
  pub key : Key
  pub cause : Cause

-- Why a key begins that this life made: all live members report it as their latest one, or it was
-- made the life time ago or earlier.
abbrev pub lead_cause : List Keying → List Report → Key → Option Cause
lead_cause h live k =
    if list_all (λ r. reports_latest k.id r.uses) live then Some All
    else if is_long_ago (clock h) (last_made_at h) then Some Timeout
    else None

-- the latest key, where a station that is its own elected server begins it at a tick: its life made
-- it, it has not begun, and there is a cause
abbrev pub leads : List Keying → List Report → Option Beginning
leads h live =
    option_and_then (λ k.
    if is_latest_made h && not (has_begun h k.epoch)
    then option_map (λ c. record { key = k; cause = c }) (lead_cause h live k)
    else None) (latest h)

-- the latest key, where a station begins it because its elected server says that it transmits under
-- it, and it has not begun
abbrev pub follows : List Keying → Uses → Option Beginning
follows h u =
    option_and_then (λ k.
    if not (has_begun h k.epoch) && transmits k.id u
    then Some (record { key = k; cause = Flag })
    else None) (latest h)

-- the old key, where the next tick is the one at which the latest key began the retire time ago
abbrev pub retired : List Keying → Option Key
retired h =
    if is_latest h (λ k. is_retire_time_ago (clock h + 1) (begun_at h k.epoch)) then old h
    else None
