-- The answer to a heard frame: the first that applies.
use Rattle.std.specs.Prelude.{⊤, ℕ, if◌then◌else◌, List, Option, Some, None, Result, Ok, Err}
use Rattle.aes_block.specs.declared.secret.Secret.{Secret}
use Rattle.aes_block.specs.Secrets.{secret_octets}
use Rattle.lan_base.specs.declared.association_number.AssociationNumber.{AssociationNumber}
use Rattle.lan_base.specs.declared.address.Sci.{Sci}
use Rattle.lan_base.specs.Identifiers.{same_sci}
use Rattle.gcm_frames.specs.declared.tag.Tag.{Tag}
use Rattle.gcm_frames.specs.declared.tag.TagRefusal.{TagRefusal}
use Rattle.gcm_frames.specs.Tags.{tag_fields}
use Rattle.gcm_frames.specs.Sealed.{opened}
use Rattle.rx_slots.specs.declared.arrival.Checked.{Checked}
use Rattle.rx_slots.specs.declared.arrival.Checked.TheVariants.{Malformed, Own, Missed, BadCheck, Sealed}

-- BadCheck: the frame is not sealed under the key
abbrev pub checked_data : Tag → Option (List ℕ) → Checked
checked_data tag None = BadCheck
checked_data tag (Some user) = Sealed tag.sci tag.an tag.pn user

-- Missed: no key stands under the frame's association number
abbrev pub checked_under : Option Secret → Tag → List ℕ → Checked
checked_under None tag frame = Missed tag.an
checked_under (Some secret) tag frame = checked_data tag (opened (secret_octets secret) tag frame)

-- Malformed: the frame is no protected frame. Own: the station is its sender.
abbrev pub checked_fields : Sci → (AssociationNumber → Option Secret) → List ℕ
    → Result Tag TagRefusal → Checked
checked_fields own keys frame (Err refusal) = Malformed refusal
checked_fields own keys frame (Ok tag) =
    if same_sci tag.sci own then Own else checked_under (keys tag.an) tag frame

-- what is answered to a frame by the keys that stand, before its number is looked at
abbrev pub checked : Sci → (AssociationNumber → Option Secret) → List ℕ → Checked
checked own keys frame = checked_fields own keys frame (tag_fields frame)

-- an answer that needs no deciphering, and so no memory
abbrev pub IsPrompt : Checked → Type 0
IsPrompt (Malformed refusal) = ⊤
IsPrompt Own = ⊤
IsPrompt (Missed an) = ⊤
IsPrompt BadCheck = ⊥
IsPrompt (Sealed sci an pn body) = ⊥
