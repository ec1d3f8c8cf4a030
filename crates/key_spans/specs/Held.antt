-- Which keys of a run the spans of its facts tell of (IEEE Std 802.1X, clause 9: the keys that a station
-- holds, and the one that transmits).
use Rattle.std.specs.Prelude.{ℕ, ◌≡◌, Bool, if◌then◌else◌, List, map, Option, Some, None, option_map, option_to_list}
use Rattle.std.specs.List.{filter}
use Rattle.lan_base.specs.AssociationNumbers.{same_an}
use Rattle.lan_base.specs.declared.association_number.AssociationNumber.{AssociationNumber}
use Rattle.lan_base.specs.declared.key_id.KeyId.{KeyId}
use Rattle.sak_exchange.specs.declared.held_key.Key.{Key}
use Rattle.lan_core.specs.declared.settings.Settings.{Settings}
use Rattle.lan_core.specs.Run.{Run, facts_of}
use Rattle.lan_core.specs.Lives.{transmitting_at}
use Rattle.lan_core.specs.Keys.{held_at}
use Rattle.key_spans.specs.declared.span.Span.{Span}
use Rattle.key_spans.specs.Spans.{spans}
use Rattle.key_spans.specs.Times.{is_held, is_transmitting}

-- what names a key at its station: its identifier and its epoch
abbrev pub KeyName : Type 0
KeyName = KeyId × ℕ

-- the keys of the spans of which this is true
abbrev pub keys_where : (Span → Bool) → List Span → List KeyName
keys_where test all = map (λ span. (span.id, span.epoch)) (filter test all)

-- a key, if there is one
abbrev pub named : Option Key → List KeyName
named key = option_to_list (option_map (λ k. (k.id, k.epoch)) key)

-- a key, if it has this association number
abbrev pub under : AssociationNumber → Option Key → Option Key
under an None = None
under an (Some k) = if same_an k.an an then Some k else None

-- Under each number of each station one span is held exactly where the station holds a key, and it is
-- that key's; it transmits exactly where that key does.
pub record TellOf (settings : Settings) (r : Run) : Type 0 where
  pub held : (s : ℕ) (an : AssociationNumber) → keys_where is_held (spans s an (facts_of r))
      ≡ named (option_map (λ h. h.key) (held_at settings s r an))
  pub transmits : (s : ℕ) (an : AssociationNumber) → keys_where is_transmitting (spans s an (facts_of r))
      ≡ named (under an (transmitting_at settings s r))
