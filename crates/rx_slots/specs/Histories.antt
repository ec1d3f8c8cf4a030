-- The history of the receive side of a station: keys installed and removed, and frames heard.
use Rattle.std.specs.Prelude.{⊤, ◌≢◌, ℕ, if◌then◌else◌, List, [], ◌∷◌, Option, Some, None}
use Rattle.aes_block.specs.declared.secret.Secret.{Secret}
use Rattle.lan_base.specs.declared.association_number.AssociationNumber.{AssociationNumber}
use Rattle.lan_base.specs.AssociationNumbers.{same_an}

-- a key was installed under an association number, what stood under one was removed, or a frame was
-- heard
pub data Receiving : Type 0 where
  installed : AssociationNumber → Secret → Receiving
  removed : AssociationNumber → Receiving
  heard : List ℕ → Receiving

-- The key that stands under an association number: that of the last install, unless it was removed
-- since. A history stands newest first.
abbrev pub standing_key : List Receiving → AssociationNumber → Option Secret
standing_key [] an = None
standing_key (installed n secret ∷ h) an = if same_an n an then Some secret else standing_key h an
standing_key (removed n ∷ h) an = if same_an n an then None else standing_key h an
standing_key (heard frame ∷ h) an = standing_key h an

-- nothing was installed or removed under an association number
abbrev pub IsQuiet : AssociationNumber → List Receiving → Type 0
IsQuiet an [] = ⊤
IsQuiet an (installed n secret ∷ h) = (n ≢ an) × IsQuiet an h
IsQuiet an (removed n ∷ h) = (n ≢ an) × IsQuiet an h
IsQuiet an (heard frame ∷ h) = IsQuiet an h
