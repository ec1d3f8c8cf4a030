-- The key encrypting key of each group of a key text is one of AES.
use Rattle.std.proofs.Common.{◌≡◌, ℕ, suc, List, [], ◌∷◌, Option, Some, None, Result, Ok, Err, refl, subst}
use Rattle.std.proofs.lemmas.List.Elements.{All-append, All-cons, All-nil}
use Rattle.hex.specs.Hex.{IsBytes}
use Rattle.aes_block.specs.Aes.{IsKey}
use Rattle.aes_block.proofs.Public.{AreOctets}
use Rattle.audit_text.specs.InForm.{IsInFormKey}
use Rattle.audit_text.specs.Reading.{key_line_in}
use Rattle.audit_text.specs.declared.line.KeyLine.{KeyLine}
use Rattle.audit_text.specs.declared.line.KeyLine.TheVariants.{Capture, Group, Sak}
use Rattle.audit_text.proofs.Public.{key_read_fits}
use Rattle.packet_verdicts.specs.Groups.{GroupKeys, derived_keys}
use Rattle.trace_text.specs.declared.fault.TextFault.{TextFault}
use Rattle.key_ring.specs.Rings.{AreKeyed, Ring, ring_by, ring_from, with_line}
use Rattle.key_ring.proofs.DerivedKeys.{AreBlocks, kek-is-key}

octets-from : (xs : List ℕ) → IsBytes xs → AreOctets xs
octets-from [] is = tt
octets-from (x ∷ xs) is = (is 0, octets-from xs (λ i. is (suc i)))

abbrev HasKey : GroupKeys → Type 0
HasKey g = IsKey g.kek

line-keyed : AreBlocks → (n : ℕ) (line : KeyLine) (ring : Ring) → IsInFormKey line → AreKeyed ring
    → AreKeyed (with_line n line ring)
line-keyed blocks n (Group cak ckn) ring (key, its_name) keyed =
    All-append HasKey ring.groups (derived_keys cak ckn ∷ []) keyed
    (All-cons HasKey (derived_keys cak ckn) [] (kek-is-key blocks cak ckn key.0 (octets-from cak key.1) (octets-from ckn its_name.2))
    (All-nil HasKey))
line-keyed blocks n (Sak sender an sak) ring fit keyed = keyed
line-keyed blocks n Capture ring fit keyed = keyed

pub lines-keyed : AreBlocks → (n : ℕ) (lines : List (List ℕ)) (ring said : Ring) → AreKeyed ring
    → ring_from n lines ring ≡ Ok said → AreKeyed said
lines-keyed blocks n [] ring said keyed is = let same : ring ≡ said = cc is in subst AreKeyed same keyed
lines-keyed blocks n (line ∷ lines) ring said keyed is =
    go (key_line_in line) refl (λ it with_it. lines-keyed blocks (suc n) lines it said with_it) is
  where
    go : (r : Result (Option KeyLine) TextFault) → key_line_in line ≡ r
        → ((it : Ring) → AreKeyed it → ring_from (suc n) lines it ≡ Ok said → AreKeyed said)
        → ring_by (ring_from (suc n) lines) n ring r ≡ Ok said → AreKeyed said
    go (Err why) e later at = absurd (cc at)
    go (Ok None) e later at = later ring keyed at
    go (Ok (Some it)) e later at =
        later (with_line n it ring) (line-keyed blocks n it ring (key_read_fits line it e) keyed) at
