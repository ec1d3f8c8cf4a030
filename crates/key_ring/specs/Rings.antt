-- What the key text says: groups, and keys that are set by hand.
use Rattle.std.specs.Prelude.{ℕ, suc, ◌==◌, if◌then◌else◌, List, [], ◌∷◌, ◌++◌, length, All, Option, Some, None, unwrap_or, Result, Ok, Err}
use Rattle.aes_block.specs.Aes.{IsKey}
use Rattle.aes_block.specs.declared.secret.Secret.{Secret}
use Rattle.aes_block.specs.declared.secret.Secret.TheVariants.{S128, S256}
use Rattle.lan_base.specs.declared.association_number.AssociationNumber.TheVariants.{An0}
use Rattle.lan_base.specs.AssociationNumbers.{numbered}
use Rattle.text_lines.specs.Texts.{lines_of}
use Rattle.trace_text.specs.declared.fault.TextFault.{TextFault}
use Rattle.audit_text.specs.declared.line.KeyLine.{KeyLine}
use Rattle.audit_text.specs.declared.line.KeyLine.TheVariants.{Capture, Group, Sak}
use Rattle.audit_text.specs.declared.line.Sender.{Sender}
use Rattle.audit_text.specs.declared.line.Sender.TheVariants as read
use Rattle.audit_text.specs.Parting.{key_text}
use Rattle.audit_text.specs.Reading.{key_line_in}
use Rattle.known_keys.specs.declared.sender.Sender.{Sender as Whose}
use Rattle.known_keys.specs.declared.sender.Sender.TheVariants as whose
use Rattle.packet_verdicts.specs.Groups.{GroupKeys, derived_keys}
use Rattle.key_ring.specs.declared.ring.HandKey.{HandKey}

-- the groups, and the keys that are set by hand, in the order of their lines
pub record Ring : Type 0 where
  pub groups : List GroupKeys
  pub hand : List HandKey

-- the key encrypting key of each group is one of AES
abbrev pub AreKeyed : Ring → Type 0
AreKeyed ring = All (λ g. IsKey g.kek) ring.groups

abbrev pub no_ring : Ring
no_ring = record { groups = []; hand = [] }

-- a key of 16 octets, or of 32
abbrev pub secret_of : List ℕ → Secret
secret_of octets = if length octets == 16 then S128 octets else S256 octets

-- whose frames a key protects
abbrev pub whose_of : Sender → Whose
whose_of read.Any = whose.Any
whose_of (read.One sci) = whose.One sci

-- what the line of this number adds
abbrev pub with_line : ℕ → KeyLine → Ring → Ring
with_line n (Group cak ckn) ring = record ring { groups = ring.groups ++ derived_keys cak ckn ∷ [] }
with_line n (Sak sender an sak) ring = record ring {
  hand = ring.hand ++ record {
    line = n;
    sender = whose_of sender;
    an = unwrap_or (numbered an) An0;
    sak = secret_of sak;
  } ∷ [];
}
with_line n Capture ring = ring

-- the first line that is refused, from 1
pub record LineFault : Type 0 where
  pub line : ℕ
  pub why : TextFault

abbrev pub ring_by : (Ring → Result Ring LineFault) → ℕ → Ring → Result (Option KeyLine) TextFault
    → Result Ring LineFault
ring_by later n ring (Err why) = Err (record { line = n; why = why })
ring_by later n ring (Ok None) = later ring
ring_by later n ring (Ok (Some line)) = later (with_line n line ring)

-- what lines say, of which the first has this number, beside what was said before
abbrev pub ring_from : ℕ → List (List ℕ) → Ring → Result Ring LineFault
ring_from n [] ring = Ok ring
ring_from n (line ∷ lines) ring = ring_by (ring_from (suc n) lines) n ring (key_line_in line)

-- what the key text before a capture says, or its first fault
abbrev pub ring_in : List ℕ → Result Ring LineFault
ring_in text = ring_from 1 (lines_of (key_text text)) no_ring
