-- The life that a station is in after a run, and its history. Claims and emissions are no part of
-- it.
use Rattle.std.specs.Prelude.{ℕ, ◌==◌, false, if◌then◌else◌, List, [], ◌∷◌, length, slice_get, replicate}
use Rattle.std.specs.Prelude.{Option, Some, None, option_map, option_and_then, unwrap_or}
use Rattle.lan_base.specs.declared.address.Mi.{Mi}
use Rattle.lan_base.specs.declared.address.Sci.{Sci}
use Rattle.aes_block.specs.Secrets.{secret_octets}
use Rattle.aes_block.specs.declared.secret.Secret.{Secret}
use Rattle.aes_block.specs.declared.secret.Secret.TheVariants.{S128}
use Rattle.mka_kdf.specs.Kdf.{kek_of, ick_of}
use Rattle.gcm_frames.specs.Tags.{is_sec}
use Rattle.rx_slots.specs.Histories.{Receiving, installed, removed, heard}
use Rattle.rx_slots.specs.Numbers.{accepted, lowest}
use Rattle.sak_exchange.specs.declared.due.Seen.{Seen}
use Rattle.sak_exchange.specs.declared.held_key.Key.{Key}
use Rattle.sak_exchange.specs.Histories.{Keying}
use Rattle.sak_exchange.specs.Held.{latest, old, transmitting}
use Rattle.mka_station.specs.Lives.{Setup, Member, Entry, keys_of}
use Rattle.mka_station.specs.Tick.{Turn, tick_turn}
use Rattle.mka_station.specs.Hearing.{frame_turn}
use Rattle.lan_core.specs.declared.event.Event.{Event}
use Rattle.lan_core.specs.declared.event.Event.TheVariants as events
use Rattle.lan_core.specs.declared.fact.Fact.{Fact}
use Rattle.lan_core.specs.declared.fact.Fact.TheVariants as facts
use Rattle.lan_core.specs.declared.settings.Settings.{Settings}
use Rattle.lan_core.specs.Run.{Run, Profile, stations}
use Rattle.lan_core.specs.Ledgers.{gather, frame_at, installs_at}

-- ---- what was drawn

-- the member identifier that facts begin a life with
abbrev pub drawn_mi : List Fact → Option Mi
drawn_mi [] = None
drawn_mi (facts.Life station mi ∷ later) = Some mi
drawn_mi (_ ∷ later) = drawn_mi later

-- the SAK that facts install
abbrev pub drawn_sak : List Fact → Option Secret
drawn_sak [] = None
drawn_sak (facts.Installed station id an epoch sak ∷ later) = Some sak
drawn_sak (_ ∷ later) = drawn_sak later

-- what stands for the SAK of a tick that makes no key
abbrev pub no_sak : Secret
no_sak = S128 (replicate 16 0)

-- the SAK that a tick drew, by the facts that it showed
abbrev pub sak_in : List Fact → Secret
sak_in facts = unwrap_or (drawn_sak facts) no_sak

-- ---- what a station receives

-- what a fact does to the receive slots of a station
abbrev pub slot_change : ℕ → Fact → Option Receiving
slot_change s (facts.Installed station id an epoch sak) =
    if station == s then Some (installed an sak) else None
slot_change s (facts.Dropped station id an) = if station == s then Some (removed an) else None
slot_change s (facts.Retired station id an) = if station == s then Some (removed an) else None
slot_change s _ = None

-- a protected frame is heard by the receive slots, any other by the key agreement
abbrev pub heard_data : List ℕ → List Receiving → List Receiving
heard_data octets h = if is_sec octets then heard octets ∷ h else h

-- the octets that an event brings to a station
abbrev pub reaches : ℕ → Run → Event → Option (List ℕ)
reaches s r (events.Deliver frame station) =
    if station == s then option_map (λ f. f.octets) (frame_at r frame) else None
reaches s r (events.Inject station octets) = if station == s then Some octets else None
reaches s r _ = None

abbrev pub with_data : Option (List ℕ) → List Receiving → List Receiving
with_data None h = h
with_data (Some octets) h = heard_data octets h

-- the history of a station's receive slots, over all its lives
unfoldable pub receiving : ℕ → Run → List Receiving
receiving s [] = []
receiving s (x ∷ r) =
    gather (slot_change s) x.facts (with_data (reaches s r x.event) (receiving s r))

-- ---- lives

-- A station in a life, and the life's history.
pub record Life : Type 0 where
  pub member : Member
  pub past : List Entry

-- what a station of a group is set up with
abbrev pub setup_of : Settings → Profile → Setup
setup_of settings p =
    let cak = secret_octets settings.cak in
    record {
      sci = p.sci;
      priority = p.priority;
      rekey = record { from = settings.rekey; as_old = false };
      conf = settings.conf;
      early_flag = settings.early_flag;
      suite = settings.suite;
      ckn = settings.ckn;
      kek = kek_of cak settings.ckn;
      ick = ick_of cak settings.ckn;
    }

-- the life that begins with these facts
abbrev pub begun : Settings → ℕ → Run → List Fact → Profile → Option Life
begun settings s r facts p =
    option_map
    (λ mi. record {
      member = record { setup = setup_of settings p; mi = mi; base = length (installs_at s r) };
      past = [];
    })
    (drawn_mi facts)

-- the keys of a life
abbrev pub keys_in : Life → List Keying
keys_in l = keys_of l.member l.past

-- the lowest acceptable packet number under a key, 1 where there is none
abbrev pub lowest_under : Settings → Sci → List Receiving → Option Key → ℕ
lowest_under settings own h None = 1
lowest_under settings own h (Some k) = lowest settings.window (accepted own settings.window h) k.an

-- what a tick is shown of packet numbers
abbrev pub seen_at : Settings → ℕ → Run → Life → ℕ → Seen
seen_at settings s r l next =
    let own = l.member.setup.sci in
    let h = receiving s r in
    record {
      next = next;
      latest = lowest_under settings own h (latest (keys_in l));
      old = lowest_under settings own h (old (keys_in l));
    }

-- what a station does at a tick
abbrev pub turn_at_tick : Settings → ℕ → Run → Life → ℕ → Secret → Turn
turn_at_tick settings s r l next sak = tick_turn l.member (seen_at settings s r l next) sak l.past

-- a life goes on with a turn
abbrev pub lived : Life → Turn → Life
lived l turn = record l { past = turn.past }

-- a life goes on with octets that reach it, where they are no protected frame
abbrev pub lived_hearing : Life → List ℕ → Life
lived_hearing l octets =
    if is_sec octets then l else lived l (frame_turn l.member octets l.past)

-- a life goes on with a tick
abbrev pub lived_ticking : Settings → ℕ → Run → ℕ → Secret → Life → Life
lived_ticking settings s r next sak l = lived l (turn_at_tick settings s r l next sak)

abbrev pub lived_reached : Option Life → Option (List ℕ) → Option Life
lived_reached l None = l
lived_reached l (Some octets) = option_map (λ l. lived_hearing l octets) l

-- the life of station s after one more event
abbrev pub life_after : Settings → ℕ → Run → List Fact → Event → Option Life → Option Life
life_after settings s r facts (events.Start name sci priority) l =
    if length (stations r) == s
    then begun settings s r facts (record { name = name; sci = sci; priority = priority }) else l
life_after settings s r facts (events.Tick station next) l =
    if station == s then option_map (lived_ticking settings s r next (sak_in facts)) l else l
life_after settings s r facts (events.Deliver frame station) l =
    lived_reached l (reaches s r (events.Deliver frame station))
life_after settings s r facts (events.Restart station) l =
    if station == s then option_and_then (begun settings s r facts) (slice_get (stations r) s)
    else l
life_after settings s r facts (events.Inject station octets) l =
    lived_reached l (reaches s r (events.Inject station octets))
life_after settings s r facts _ l = l

-- the life of station s after a run
unfoldable pub life : Settings → ℕ → Run → Option Life
life settings s [] = None
life settings s (x ∷ r) = life_after settings s r x.facts x.event (life settings s r)

-- the key that transmits at a station
abbrev pub transmitting_at : Settings → ℕ → Run → Option Key
transmitting_at settings s r = option_and_then (λ l. transmitting (keys_in l)) (life settings s r)
