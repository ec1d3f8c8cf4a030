-- Which SAKs are known (this profile's own rule): those with the mark of one that was noted.
use Rattle.std.specs.Prelude.{◌≡◌, ℕ, nat_eq, Bool, List, []}
use Rattle.std.specs.List.{list_any}
use Rattle.std.specs.BTreeMap.{is_at}
use Rattle.std.specs.Ordering.{nat_cmp}
use Rattle.std.specs.Cmp.Lexicographic.{pointwise, slice_cmp}
use Rattle.aes_block.specs.declared.secret.Secret.{Secret}
use Rattle.aes_block.specs.Secrets.{secret_octets}
use Rattle.aes_cmac.specs.Cmac.{cmac}

-- the mark of a SAK: the CMAC under it of no octets
unfoldable pub mark : Secret → List ℕ
mark sak = cmac (secret_octets sak) []

-- whether the octets are the mark of one of the SAKs
abbrev pub is_mark : List Secret → List ℕ → Bool
is_mark noted octets = list_any (λ one. pointwise nat_eq (mark one) octets) noted

-- whether a SAK has the mark of one that was noted
abbrev pub is_known : List Secret → Secret → Bool
is_known noted sak = is_mark noted (mark sak)

-- whether the octets are among marks that stand in the order of their octets
abbrev pub is_kept : List (List ℕ) → List ℕ → Bool
is_kept marks octets = list_any (is_at (slice_cmp nat_cmp octets)) marks

-- the marks are those of the SAKs that were noted, and no others
pub record StandsFor (marks : List (List ℕ)) (noted : List Secret) : Type 0 where
  pub kept : (octets : List ℕ) → is_kept marks octets ≡ is_mark noted octets
