-- A frame's way through a run, from its claim to a delivery; when it is in time for a rollover, and
-- when it is found to be of a key that is held (this profile's own words).
use Rattle.std.specs.Prelude.{⊤, ◌≡◌, ◌<◌, ◌⊎◌, ◌+◌, ℕ, true, List, length, Contains, Some}
use Rattle.lan_base.specs.declared.association_number.AssociationNumber.{AssociationNumber}
use Rattle.lan_base.specs.declared.key_id.KeyId.{KeyId}
use Rattle.lan_base.specs.Timers.{retire_time}
use Rattle.peer_lists.specs.Acceptance.{Accepted}
use Rattle.aes_block.specs.declared.secret.Secret.{Secret}
use Rattle.rx_slots.specs.declared.arrival.Arrival.{Arrival}
use Rattle.rx_slots.specs.declared.arrival.Arrival.TheVariants as arrivals
use Rattle.sak_exchange.specs.declared.held_key.Key.{Key}
use Rattle.sak_exchange.specs.Held.{received}
use Rattle.lan_core.specs.declared.event.Event.TheVariants as events
use Rattle.lan_core.specs.declared.fact.Fact.TheVariants as facts
use Rattle.lan_core.specs.declared.settings.Settings.{Settings}
use Rattle.lan_core.specs.Run.{Run, Happening}
use Rattle.lan_core.specs.Ledgers.{emitted}
use Rattle.lan_core.specs.Lives.{transmitting_at}
use Rattle.lan_core.specs.Claims.{claimed}
use Rattle.group_safety.specs.Moments.{upto, At}
use Rattle.group_safety.specs.Rounds.{rounds}
use Rattle.group_safety.specs.Stations.{keys_at}
use Rattle.group_safety.specs.Steady.{Rollover, IsListener, IsKeeper, Makes}

-- in the event at a moment a station claims a packet number under a key, which transmits there
pub record Claims (settings : Settings) (run : Run) (moment station : ℕ) (key : Key) (pn : ℕ) :
    Type 0 where
  pub event : Happening
  pub at : At run moment event
  pub within : moment < length run
  pub fact : Contains event.facts (facts.Claimed station key.an key.epoch pn)
  pub sends : transmitting_at settings station (upto moment run) ≡ Some key

-- The frame of a number is that of a claim: as many claims came before the claim as frames were
-- emitted before the emission.
pub record IsFrameOf (settings : Settings) (run : Run) (claim frame : ℕ) : Type 0 where
  pub emission : ℕ
  pub event : Happening
  pub at : At run emission event
  pub within : emission < length run
  pub station : ℕ
  pub octets : List ℕ
  pub fact : Contains event.facts (facts.Framed frame station true octets)
  pub place : length (emitted (upto emission run)) ≡ length (claimed settings (upto claim run))

-- A flight of a frame: which station claims it under which key, to which it is delivered, and the
-- moments of both.
pub record Flight : Type 0 where
  pub frame : ℕ
  pub key : Key
  pub sender : ℕ
  pub claim : ℕ
  pub receiver : ℕ
  pub delivery : ℕ

-- The frame is claimed in one event by the sender under the key, and delivered in another to the
-- receiver.
pub record IsFlight (settings : Settings) (run : Run) (flight : Flight) : Type 0 where
  pub pn : ℕ
  pub claims : Claims settings run flight.claim flight.sender flight.key pn
  pub its_frame : IsFrameOf settings run flight.claim flight.frame
  pub event : Happening
  pub at : At run flight.delivery event
  pub within : flight.delivery < length run
  pub delivered : event.event ≡ events.Deliver flight.frame flight.receiver

-- ---- found

-- the receiver's association answers
abbrev pub Answers : Arrival → Type 0
Answers (arrivals.Accepted pn body) = ⊤
Answers (arrivals.Late next) = ⊤
Answers arrivals.Own = ⊤
Answers (arrivals.Malformed refusal) = ⊥
Answers (arrivals.Missed an) = ⊥
Answers arrivals.BadCheck = ⊥

-- a station receives a key of this association number and SAK
pub record Receives (settings : Settings) (run : Run) (moment station : ℕ)
    (an : AssociationNumber) (sak : Secret) : Type 0 where
  pub key : Key
  pub received_here : Contains (received (keys_at settings station (upto moment run))) key
  pub number : key.an ≡ an
  pub secret : key.sak ≡ sak

-- A delivery is found: it is answered, by a key that has the frame's SAK.
pub record IsFound (settings : Settings) (run : Run) (flight : Flight) : Type 0 where
  pub event : Happening
  pub at : At run flight.delivery event
  pub arrival : Arrival
  pub fact : Contains event.facts (facts.Arrived flight.frame flight.receiver arrival)
  pub answers : Answers arrival
  pub receives :
      Receives settings run flight.delivery flight.receiver flight.key.an flight.key.sak

-- ---- in time

-- a station takes part in the rollover: it is the server, or one that listens
abbrev pub TakesPart : ℕ → ℕ → (ℕ → ℕ → Accepted → Type 0) → Type 0
TakesPart server station listens =
    (station ≡ server) ⊎ ((sent : ℕ) × (says : Accepted) × listens station sent says)

-- the server, or one that listens and has said so before a moment
abbrev pub HasSaid : ℕ → ℕ → ℕ → (ℕ → ℕ → Accepted → Type 0) → Type 0
HasSaid server station moment listens =
    (station ≡ server)
    ⊎ ((sent : ℕ) × (says : Accepted) × (sent < moment) × listens station sent says)

-- A frame under the old key is in time for it: the server or a keeper sent it, and it reaches the
-- server, or a keeper that has said so, before so many rounds have passed as are left of the retire
-- time without the lag. (Claims and deliveries begin no round: those before one are those up to
-- it.)
pub record IsInTimeForOld (settings : Settings) (run : Run) (rollover : Rollover)
    (flight : Flight) : Type 0 where
  pub named : flight.key.id ≡ rollover.old_id
  pub after : rollover.made < flight.claim
  pub sent : TakesPart rollover.server flight.sender (IsKeeper settings run rollover)
  pub reaches :
      HasSaid rollover.server flight.receiver flight.delivery (IsKeeper settings run rollover)
  pub soon : rounds rollover.from (upto flight.delivery run) + rollover.lag
      < rounds rollover.from (upto flight.claim run) + retire_time

-- A frame under the new key is: the server or a listener sent it, and it reaches the server, or a
-- listener that has said so, before the server makes the next.
pub record IsInTimeForNew (settings : Settings) (run : Run) (rollover : Rollover)
    (flight : Flight) : Type 0 where
  pub named : flight.key.id ≡ rollover.new_id
  pub after : rollover.made < flight.claim
  pub sent : TakesPart rollover.server flight.sender (IsListener settings run rollover)
  pub reaches :
      HasSaid rollover.server flight.receiver flight.delivery (IsListener settings run rollover)
  pub last : (n : ℕ) (id : KeyId) → rollover.made < n → n < flight.delivery
      → Makes run n rollover.server id → ⊥

abbrev pub IsInTime : Settings → Run → Rollover → Flight → Type 0
IsInTime settings run rollover flight =
    IsInTimeForOld settings run rollover flight ⊎ IsInTimeForNew settings run rollover flight
