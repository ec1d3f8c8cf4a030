-- Packet numbers: the next one of a key at a station, and the claims that wait to be put on the air
-- (IEEE Std 802.1AE, clause 10; that a claim and its emission are two events is this profile's own
-- rule).
use Rattle.std.specs.Prelude.{ℕ, ◌==◌, ◌&&◌, ◌+◌, ◌-◌, Bool, false, if◌then◌else◌, max}
use Rattle.std.specs.Prelude.{List, [], ◌∷◌, ◌++◌, length, slice_get}
use Rattle.std.specs.Prelude.{Option, Some, None, option_and_then, option_map}
use Rattle.lan_base.specs.declared.association_number.AssociationNumber.{AssociationNumber}
use Rattle.lan_base.specs.declared.frame.UserFrame.{UserFrame}
use Rattle.aes_block.specs.Secrets.{secret_octets}
use Rattle.gcm_frames.specs.Protected.{protected}
use Rattle.sak_exchange.specs.declared.held_key.Key.{Key}
use Rattle.lan_core.specs.declared.event.Event.{Event}
use Rattle.lan_core.specs.declared.event.Event.TheVariants as events
use Rattle.lan_core.specs.declared.fact.Fact.{Fact}
use Rattle.lan_core.specs.declared.fact.Fact.TheVariants as facts
use Rattle.lan_core.specs.declared.settings.Settings.{Settings}
use Rattle.lan_core.specs.Run.{Run, Happening, happened, Profile, stations}
use Rattle.lan_core.specs.Ledgers.{emitted}
use Rattle.lan_core.specs.Lives.{transmitting_at}

-- whether a key has this epoch
abbrev pub is_epoch : ℕ → Option Key → Bool
is_epoch epoch None = false
is_epoch epoch (Some k) = k.epoch == epoch

-- one more than the number of a claim of this station and epoch, else 0
abbrev pub after_claim : ℕ → ℕ → List Fact → ℕ
after_claim s epoch (facts.Claimed station an e pn ∷ later) =
    if (station == s) && (e == epoch) then pn + 1 else 0
after_claim s epoch _ = 0

-- The least next packet number that an event leaves to a station under an epoch: one more than a
-- claimed number, or what a tick showed under the key that transmitted before it.
abbrev pub shown_by : Settings → ℕ → ℕ → Run → List Fact → Event → ℕ
shown_by settings s epoch r facts (events.Tick station next) =
    if (station == s) && is_epoch epoch (transmitting_at settings s r) then next else 0
shown_by settings s epoch r facts _ = after_claim s epoch facts

-- the next packet number of a station under an epoch
unfoldable pub next : Settings → ℕ → ℕ → Run → ℕ
next settings s epoch [] = 1
next settings s epoch (x ∷ r) =
    max (shown_by settings s epoch r x.facts x.event) (next settings s epoch r)

-- a station claims a number for a user frame, under the key of an epoch
abbrev pub a_claim : ℕ → ℕ → AssociationNumber → ℕ → ℕ → Happening
a_claim s user an epoch pn =
    happened (events.Claim s user pn) (facts.Claimed s an epoch pn ∷ [])

-- ---- claims that wait for their emission

-- a claim that got a number: its station, the key that transmitted then, the number, and which
-- user frame it protects
pub record Waiting : Type 0 where
  pub station : ℕ
  pub key : Key
  pub pn : ℕ
  pub user : ℕ

abbrev pub waiting_under : ℕ → ℕ → ℕ → Option Key → List Waiting
waiting_under s user pn None = []
waiting_under s user pn (Some k) =
    if pn == 0 then [] else record { station = s; key = k; pn = pn; user = user } ∷ []

-- what an event adds to them
abbrev pub claimed_by : Settings → Run → Event → List Waiting
claimed_by settings r (events.Claim station user pn) =
    waiting_under station user pn (transmitting_at settings station r)
claimed_by settings r _ = []

-- the claims that got a number, oldest first
unfoldable pub claimed : Settings → Run → List Waiting
claimed settings [] = []
claimed settings (x ∷ r) = claimed settings r ++ claimed_by settings r x.event

-- the earliest claim whose frame is not on the air
abbrev pub waiting : Settings → Run → Option Waiting
waiting settings r = slice_get (claimed settings r) (length (emitted r))

-- the user frame of a number, from 1
abbrev pub user_at : List UserFrame → ℕ → Option UserFrame
user_at users number = if number == 0 then None else slice_get users (number - 1)

-- the octets of a claim's frame, protected by a station for a user
abbrev pub frame_by : Waiting → Profile → UserFrame → List ℕ
frame_by w p user = protected (secret_octets w.key.sak) p.sci w.key.an w.pn w.key.conf user

abbrev pub frame_of_claim : List UserFrame → Run → Waiting → Option (List ℕ)
frame_of_claim users r w =
    option_and_then (λ p. option_map (frame_by w p) (user_at users w.user))
    (slice_get (stations r) w.station)
