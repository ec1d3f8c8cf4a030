-- What the state of the keys holds, and for which histories it stands (this profile's own): no
-- other file knows of counters and maps.
use Rattle.std.specs.Prelude.{◌≡◌, ℕ, ◌+◌, ◌-◌, min, Bool, if◌then◌else◌, List, Option, Some, None, option_map}
use Rattle.std.specs.Map.{lookup}
use Rattle.std.specs.BTreeMap.{is_at}
use Rattle.lan_base.specs.declared.address.Mi.{Mi}
use Rattle.lan_base.specs.declared.association_number.AssociationNumber.{AssociationNumber}
use Rattle.lan_base.specs.Identifiers.{order}
use Rattle.sak_exchange.specs.declared.held_key.HeldKey.{HeldKey}
use Rattle.sak_exchange.specs.declared.latest.Latest.{Latest}
use Rattle.sak_exchange.specs.declared.held_key.Key.{Key}
use Rattle.sak_exchange.specs.Histories.{Keying, clock, last_key, last_roster, last_made_at, install_count, made_count, begun_at}
use Rattle.sak_exchange.specs.Held.{latest, old, KeepsRules, held}
use Rattle.sak_exchange.specs.Taking.{greatest_of}
use Rattle.sak_exchange.specs.Lives.{IsNumbered}

-- what contracts see of the state
pub record State : Type 0 where
  pub own : Mi
  pub latest : Option Latest
  pub former : Option HeldKey
  pub roster : Option (List Mi)
  pub epochs : ℕ
  pub numbers : List (Mi × ℕ)
  pub made : ℕ
  pub since_made : Option ℕ
  pub last_an : Option AssociationNumber

-- the number of a key server in a map from key servers to numbers
abbrev pub number_in : List (Mi × ℕ) → Mi → Option ℕ
number_in entries s = lookup (is_at (order s)) entries

-- as many ticks as are counted
abbrev pub most_ticks : ℕ
most_ticks = 4294967295

-- the ticks from one tick count to another, as far as they are counted
abbrev pub ticks_since : ℕ → ℕ → ℕ
ticks_since now at = min (now - at) most_ticks

-- the ticks from a moment that may not have come, as far as they are counted; 0 where it has not
abbrev pub ticks_since_any : ℕ → Option ℕ → ℕ
ticks_since_any now None = 0
ticks_since_any now (Some at) = ticks_since now at

-- the tick count, with the tick that neither retire nor drop all has followed yet
abbrev pub now : Bool → List Keying → ℕ
now pending h = if pending then clock h + 1 else clock h

-- what is kept of the latest key
abbrev pub kept_of : Bool → List Keying → Key → Latest
kept_of pending h k =
    record { held = held h k; since_begun = ticks_since_any (now pending h) (begun_at h k.epoch) }

-- The state stands for a history of the station's life, before which so many keys were installed:
-- it holds the latest key and the old one of the history, and its counts, numbers and ticks are the
-- history's. Where a tick is pending, the history ends before that tick.
pub record StandsFor (base : ℕ) (own : Mi) (pending : Bool) (s : State)
    (h : List Keying) : Type 0 where
  pub kept : KeepsRules base h
  pub numbered : IsNumbered own h
  pub owner : s.own ≡ own
  pub latest : s.latest ≡ option_map (kept_of pending h) (latest h)
  pub former : s.former ≡ option_map (held h) (old h)
  pub roster : s.roster ≡ last_roster h
  pub epochs : s.epochs ≡ base + install_count h
  pub numbers : (server : Mi) → number_in s.numbers server ≡ greatest_of server h
  pub made : s.made ≡ made_count h
  pub since_made : s.since_made ≡ option_map (ticks_since (now pending h)) (last_made_at h)
  pub last_an : s.last_an ≡ option_map (λ k. k.an) (last_key h)
