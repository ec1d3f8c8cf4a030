-- Numbers inside the types of their fields, and octets of their lengths.
use Rattle.std.specs.Prelude.{◌≡◌, ◌<◌, ℕ, ◌^◌, List, length, All, Option, Some, None}
use Rattle.lan_base.specs.declared.address.Mi.{Mi}
use Rattle.lan_base.specs.declared.frame.UserFrame.{UserFrame}
use Rattle.lan_base.specs.Name.{IsName}
use Rattle.lan_base.specs.Ranges.{IsCkn, IsUserData}
use Rattle.aes_block.specs.declared.secret.Secret.{Secret}
use Rattle.aes_block.specs.declared.secret.Secret.TheVariants.{S128, S256}
use Rattle.gcm_frames.specs.Protected.{IsSci}
use Rattle.lan_core.specs.declared.event.Event.{Event}
use Rattle.lan_core.specs.declared.event.Event.TheVariants as events
use Rattle.lan_core.specs.declared.settings.Settings.{Settings}

abbrev pub AreOctets : List ℕ → Type 0
AreOctets octets = All (λ octet. octet < 256) octets

-- octets of a length
abbrev pub AreSome : ℕ → List ℕ → Type 0
AreSome count octets = (length octets ≡ count) × AreOctets octets

-- a member identifier
abbrev pub IsMi : Mi → Type 0
IsMi mi = AreSome 12 mi.0

-- a key of 16 or 32 octets
abbrev pub IsSecret : Secret → Type 0
IsSecret (S128 octets) = AreSome 16 octets
IsSecret (S256 octets) = AreSome 32 octets

-- a user frame: a whole destination, and user data that can be sent
pub record IsUserFrame (frame : UserFrame) : Type 0 where
  pub destination : AreSome 6 frame.destination.0
  pub body : IsUserData frame.body
  pub octets : AreOctets frame.body

-- what a group is set up with
pub record IsSetting (settings : Settings) : Type 0 where
  pub cak : IsSecret settings.cak
  pub ckn : IsCkn settings.ckn
  pub name_octets : AreOctets settings.ckn
  pub window : settings.window < 2 ^ 32
  pub rekey : settings.rekey < 2 ^ 32

-- the fields of an event
abbrev pub IsTyped : Event → Type 0
IsTyped (events.Start name sci priority) = IsName name × IsSci sci × (priority < 2 ^ 8)
IsTyped (events.Tick s next) = (s < 2 ^ 8) × (next < 2 ^ 64)
IsTyped (events.Deliver frame s) = (frame < 2 ^ 32) × (s < 2 ^ 8)
IsTyped (events.Restart s) = s < 2 ^ 8
IsTyped (events.Claim s user pn) = (s < 2 ^ 8) × (user < 2 ^ 32) × (pn < 2 ^ 32)
IsTyped events.Emit = Unit {0}
IsTyped (events.Inject s octets) = (s < 2 ^ 8) × AreOctets octets

-- what was drawn, if anything
abbrev pub IfDrawn : {A : Type 0} → (A → Type 0) → Option A → Type 0
IfDrawn test None = Unit {0}
IfDrawn test (Some drawn) = test drawn
