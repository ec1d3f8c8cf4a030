-- What is kept of what members say.
use Rattle.std.specs.Prelude.{ℕ, ◌≡◌, max, if◌then◌else◌, List, [], ◌∷◌, map, Option, Some, None}
use Rattle.std.specs.Map.{lookup}
use Rattle.std.specs.BTreeMap.{is_at}
use Rattle.lan_base.specs.declared.address.Mi.{Mi}
use Rattle.lan_base.specs.declared.address.Sci.{Sci}
use Rattle.member_notes.specs.declared.claim.Claim.{Claim}
use Rattle.member_notes.specs.Speakers.{Speaker}
use Rattle.member_notes.specs.Facts.{Test, by, is_any, is_new, counts_of, first_sci, gives_key, number_given}
use Rattle.member_notes.specs.Spoken.{Spoken}
use Rattle.member_notes.specs.Standing.{member_cmp}

abbrev pub greatest : List ℕ → ℕ
greatest [] = 0
greatest (n ∷ ns) = max n (greatest ns)

-- what is kept of one that serves
abbrev pub claim_in : Spoken → Option Claim
claim_in e =
    if e.said.server then Some (record { nanos = e.nanos; sci = e.said.sci; live = e.said.live }) else None

-- of the newest
abbrev pub claim_of : List Spoken → Option Claim
claim_of [] = None
claim_of (e ∷ es) = claim_in e

-- of a member: what is told, the greatest key number that it gave, and whom the last new one lists if it serves
abbrev pub speaker_in : (Test → List Spoken) → Sci → Speaker
speaker_in chosen sci = record {
  counts = counts_of chosen sci;
  greatest = greatest (map (λ e. number_given e.said.given) (chosen gives_key));
  claim = claim_of (chosen is_new);
}

abbrev pub speaker_of : (Test → List Spoken) → List Spoken → Option Speaker
speaker_of chosen [] = None
speaker_of chosen (e ∷ es) = Some (speaker_in chosen (first_sci e es))

abbrev pub speaker_told : ℕ → Mi → List Spoken → Option Speaker
speaker_told group mi h = speaker_of (by group mi h) (by group mi h is_any)

-- by member what is kept
abbrev pub Speakers : Type 0
Speakers = List ((ℕ × Mi) × Speaker)

abbrev pub speaker_at : Speakers → ℕ → Mi → Option Speaker
speaker_at speakers group mi = lookup (is_at (member_cmp (group, mi))) speakers

abbrev pub HoldsFacts : List Spoken → Speakers → Type 0
HoldsFacts h speakers = (group : ℕ) (mi : Mi) → speaker_at speakers group mi ≡ speaker_told group mi h
