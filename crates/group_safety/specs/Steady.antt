-- A steady rollover (this profile's own word): a key server begins a key that all live members said
-- they receive, and the members follow while nobody restarts, the server stays elected and ticks
-- come in whole rounds.
use Rattle.std.specs.Prelude.{◌≡◌, ◌<◌, ◌≤◌, ◌+◌, ℕ, suc, false, true, List, length, Contains}
use Rattle.std.specs.Prelude.{Some, is_some, option_map}
use Rattle.lan_base.specs.declared.association_number.AssociationNumber.{AssociationNumber}
use Rattle.lan_base.specs.declared.key_id.KeyId.{KeyId}
use Rattle.lan_base.specs.Timers.{retire_time}
use Rattle.mkpdu_codec.specs.declared.announcement.Announcement.{Announcement}
use Rattle.peer_lists.specs.Acceptance.{Accepted}
use Rattle.sak_exchange.specs.declared.change.Cause.{Cause}
use Rattle.sak_exchange.specs.declared.change.Cause.TheVariants.{All, Flag}
use Rattle.sak_exchange.specs.Held.{old}
use Rattle.sak_exchange.specs.Reports.{reports_old}
use Rattle.aes_block.specs.declared.secret.Secret.{Secret}
use Rattle.mka_station.specs.Lives.{live_words, peers_of}
use Rattle.mka_station.specs.Hearing.{right}
use Rattle.lan_core.specs.declared.event.Event.TheVariants as events
use Rattle.lan_core.specs.declared.fact.Fact.TheVariants as facts
use Rattle.lan_core.specs.declared.settings.Settings.{Settings}
use Rattle.lan_core.specs.Run.{Run, Happening, Profile, stations}
use Rattle.lan_core.specs.Lives.{Life, life, setup_of}
use Rattle.group_safety.specs.Moments.{upto, At}
use Rattle.group_safety.specs.Rounds.{Since, is_among, pace, rounds}
use Rattle.group_safety.specs.Stations.{mi_at, keys_at, server_at}

-- in the event at a moment a station begins the key of an identifier
pub record Begins (run : Run) (moment station : ℕ) (id : KeyId) (cause : Cause) : Type 0 where
  pub event : Happening
  pub at : At run moment event
  pub within : moment < length run
  pub an : AssociationNumber
  pub epoch : ℕ
  pub fact : Contains event.facts (facts.Began station id an epoch cause)

-- it makes one: it installs the key at a tick
pub record Makes (run : Run) (moment station : ℕ) (id : KeyId) : Type 0 where
  pub event : Happening
  pub at : At run moment event
  pub within : moment < length run
  pub next : ℕ
  pub tick : event.event ≡ events.Tick station next
  pub an : AssociationNumber
  pub epoch : ℕ
  pub sak : Secret
  pub fact : Contains event.facts (facts.Installed station id an epoch sak)

-- it puts a frame of key agreement on the air that spells an announcement
pub record Sends (settings : Settings) (run : Run) (moment station : ℕ) (a : Announcement) :
    Type 0 where
  pub event : Happening
  pub at : At run moment event
  pub within : moment < length run
  pub number : ℕ
  pub octets : List ℕ
  pub fact : Contains event.facts (facts.Framed number station false octets)
  pub profile : Profile
  pub here : Contains (stations run) profile
  pub spelled : right (setup_of settings profile) octets ≡ Some a

-- a station isn't restarted from a moment on
pub record IsUnbroken (run : Run) (station since : ℕ) : Type 0 where
  pub on : (n : ℕ) (x : Happening) → since ≤ n → At run n x → n < length run
      → x.event ≡ events.Restart station → ⊥

-- its elected server is that of the other station's life, from a moment on
pub record Trusts (settings : Settings) (run : Run) (station server since : ℕ) : Type 0 where
  pub on : (n : ℕ) → since ≤ n → n ≤ length run
      → server_at settings station (upto n run) ≡ mi_at settings server (upto n run)

-- A rollover: which station is the server, the moments at which it makes the new key and begins it,
-- the identifiers of the old and the new key, how many rounds the members may lag, from which moment
-- on rounds count, and which stations take no part in them.
pub record Rollover : Type 0 where
  pub server : ℕ
  pub made : ℕ
  pub start : ℕ
  pub old_id : KeyId
  pub new_id : KeyId
  pub lag : ℕ
  pub from : Since

-- A listener: a member that takes part in rounds and said what a live member says to the server
-- after the event in which this one begins the key, and the moment at which it sent that.
pub record IsListener (settings : Settings) (run : Run) (rollover : Rollover) (member sent : ℕ)
    (says : Accepted) : Type 0 where
  pub server_life : Life
  pub living : life settings rollover.server (upto (suc rollover.start) run) ≡ Some server_life
  pub live :
      Contains (live_words server_life.member (peers_of server_life.member server_life.past)) says
  pub announcement : Announcement
  pub sends : Sends settings run sent member announcement
  pub mi : announcement.mi ≡ says.told.mi
  pub mn : announcement.mn ≡ says.told.mn
  pub counts : is_among member rollover.from.out ≡ false

-- a keeper: one that said, too, that it receives the old key as its old one
pub record IsKeeper (settings : Settings) (run : Run) (rollover : Rollover) (member sent : ℕ)
    (says : Accepted) : Type 0 where
  pub listener : IsListener settings run rollover member sent says
  pub keeps : reports_old rollover.old_id says.told.uses ≡ true

-- A steady rollover of a run: the server takes part in rounds, makes the new key in one event, and
-- begins it in another; the members begin it no later than so many rounds after.
pub record IsSteady (settings : Settings) (run : Run) (rollover : Rollover) : Type 0 where
  -- the server begins the new key since all reported it, and the old one is then its old key
  pub begins : Begins run rollover.start rollover.server rollover.new_id All
  pub old_held :
      option_map (λ k. k.id)
      (old (keys_at settings rollover.server (upto (suc rollover.start) run)))
      ≡ Some rollover.old_id
  -- it made the new key before, and since then isn't restarted and is its own elected server
  pub makes : Makes run rollover.made rollover.server rollover.new_id
  pub order : rollover.made ≤ rollover.start
  pub unbroken : IsUnbroken run rollover.server rollover.made
  pub served : Trusts settings run rollover.server rollover.server (suc rollover.made)
  -- from the round of the make on, ticks come in whole rounds only
  pub whole_rounds : is_some (pace rollover.from run) ≡ true
  pub early : rollover.from.moment ≤ rollover.made
  pub server_counts : is_among rollover.server rollover.from.out ≡ false
  pub first_round : rounds rollover.from (upto (suc rollover.made) run) ≡ 1
  -- since it sent what it says, no listener was restarted, and its elected server is the server
  pub listeners_stay : (member sent : ℕ) (says : Accepted)
      → IsListener settings run rollover member sent says → IsUnbroken run member sent
  pub listeners_trust : (member sent : ℕ) (says : Accepted)
      → IsListener settings run rollover member sent says
      → Trusts settings run member rollover.server (suc sent)
  -- the keepers that begin the new key do so since they follow, and in time; and each has begun it
  -- where the run has come to a later round
  pub lag_short : rollover.lag < retire_time
  pub follow : (member sent : ℕ) (says : Accepted)
      → IsKeeper settings run rollover member sent says → (n : ℕ) (cause : Cause)
      → Begins run n member rollover.new_id cause
      → (cause ≡ Flag)
      × (rounds rollover.from (upto (suc n) run)
      ≤ rounds rollover.from (upto (suc rollover.start) run) + rollover.lag)
  pub begun : (member sent : ℕ) (says : Accepted)
      → IsKeeper settings run rollover member sent says
      → rounds rollover.from (upto (suc rollover.start) run) + rollover.lag
      < rounds rollover.from run
      → (n : ℕ) × (cause : Cause) × Begins run n member rollover.new_id cause
