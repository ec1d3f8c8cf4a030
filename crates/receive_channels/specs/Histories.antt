-- What is there after steps, and what they told (this profile's own rule). A history stands newest first.
use Rattle.std.specs.Prelude.{ℕ, ◌<◌, ◌==◌, ◌⊎◌, Bool, IsTrue, List, [], ◌∷◌, ◌++◌, All}
use Rattle.std.specs.List.{list_any}
use Rattle.lan_base.specs.declared.address.Sci.{Sci}
use Rattle.lan_base.specs.Differing.{AllDiffer}
use Rattle.receive_channels.specs.declared.channel.ChannelKey.{ChannelKey}
use Rattle.receive_channels.specs.declared.changes.Receive.{Receive}
use Rattle.receive_channels.specs.Channels.{Step, ChannelSet, none, after, present, associations}

-- what is there after these steps
abbrev pub standing : List Step → ChannelSet
standing [] = none
standing (step ∷ h) = after step (standing h)

-- the associations that a step makes
abbrev pub made_at : Step → List Step → List Receive
made_at step h = associations step (present step (standing h)) step.keys

-- all associations that were made
abbrev pub made : List Step → List Receive
made [] = []
made (step ∷ h) = made_at step h ++ made h

-- ---- what is asked of steps: epochs count installs, so that a key that is new is newer than all before

-- whether a key of this epoch is among these
abbrev pub is_held : List ChannelKey → ℕ → Bool
is_held keys epoch = list_any (λ key. key.epoch == epoch) keys

-- each key is newer than this epoch's
abbrev pub AreAbove : ℕ → List ChannelKey → Type 0
AreAbove epoch keys = All (λ key. epoch < key.epoch) keys

-- the oldest key stands first
abbrev pub AreRising : List ChannelKey → Type 0
AreRising [] = Unit {0}
AreRising (key ∷ keys) = AreAbove key.epoch keys × AreRising keys

-- a key is newer than all that were held at these steps
abbrev pub IsNewer : List Step → ChannelKey → Type 0
IsNewer [] key = 0 < key.epoch
IsNewer (step ∷ h) key = All (λ one. one.epoch < key.epoch) step.keys × IsNewer h key

abbrev pub keys_before : List Step → List ChannelKey
keys_before [] = []
keys_before (step ∷ h) = step.keys

-- a key was held at the step before, or is newer than all that were
abbrev pub IsNext : List Step → ChannelKey → Type 0
IsNext h key = IsTrue (is_held (keys_before h) key.epoch) ⊎ IsNewer h key

-- no SCI stands twice, keys stand in their order, and none that went comes again
abbrev pub AreSteady : List Step → Type 0
AreSteady [] = Unit {0}
AreSteady (step ∷ h) =
    AllDiffer step.scis × AreRising step.keys × All (IsNext h) step.keys × AreSteady h

-- an association: of a key by its epoch, in the channel of an SCI
pub record Association : Type 0 where
  pub epoch : ℕ
  pub sci : Sci

abbrev pub association : Receive → Association
association r = record { epoch = r.epoch; sci = r.sci }

-- the key that comes into the channel
abbrev pub key_of : Receive → ChannelKey
key_of r = record { epoch = r.epoch; an = r.an }
