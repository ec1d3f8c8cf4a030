-- What is kept of right frames.
use Rattle.std.specs.Prelude.{ℕ, ◌≡◌, ◌<◌, if◌then◌else◌, List, [], length, Option, Some, None}
use Rattle.std.specs.Option.{option_or}
use Rattle.std.specs.Map.{lookup}
use Rattle.std.specs.BTreeMap.{is_at}
use Rattle.std.specs.Ordering.{nat_cmp, ordering_then}
use Rattle.std.specs.declared.cmp.Ordering.{Ordering}
use Rattle.std.specs.Cmp.Lexicographic.{slice_cmp}
use Rattle.lan_base.specs.declared.address.Sci.{Sci}
use Rattle.use_notes.specs.declared.frame.RightFrame.{RightFrame}
use Rattle.use_notes.specs.declared.frame.First.{First}
use Rattle.use_notes.specs.declared.counts.Counts.{Counts}
use Rattle.use_notes.specs.Frames.{AreInOrder, frames_of, first_alike, first_of, same_check}
use Rattle.use_notes.specs.Once.{first_reuse}
use Rattle.use_notes.specs.Uses.{counts_of, use_cmp}

-- by packet number, and then by the first octet in which the check values differ
abbrev pub check_cmp : ℕ × List ℕ → ℕ × List ℕ → Ordering
check_cmp a b = ordering_then (nat_cmp a.0 b.0) (slice_cmp nat_cmp a.1 b.1)

-- of a key and a sender: by packet number the first frame; by number and check value the first one of
-- those that reuse a number; and what is told
pub record KeptOfUse : Type 0 where
  pub firsts : List (ℕ × First)
  pub reused : List ((ℕ × List ℕ) × First)
  pub counts : Counts

-- where there is one with this check value
abbrev pub with_check : List ℕ → Option First → Option First
with_check check None = None
with_check check (Some first) = if same_check first.check check then Some first else None

-- the first frame with a number and a check value, by the first one with the number and what is kept of
-- those that reuse it
abbrev pub found_alike : Option First → List ((ℕ × List ℕ) × First) → ℕ → List ℕ → Option First
found_alike first reused pn check =
    option_or (with_check check first) (lookup (is_at (check_cmp (pn, check))) reused)

-- after these frames of the key and sender which are found
pub record Finds (fs : List RightFrame) (kept : KeptOfUse) : Type 0 where
  pub firsts : (pn : ℕ) → lookup (is_at (nat_cmp pn)) kept.firsts ≡ first_of pn fs
  pub alike : (pn : ℕ) (check : List ℕ)
      → found_alike (first_of pn fs) kept.reused pn check ≡ first_alike pn check fs

-- and what is told of them
pub record Keeps (fs : List RightFrame) (kept : KeptOfUse) : Type 0 where
  pub finds : Finds fs kept
  pub counts : kept.counts ≡ counts_of fs

-- by key and sender what is kept, and the pair that breaks
pub record Notes : Type 0 where
  pub senders : List ((ℕ × Sci) × KeptOfUse)
  pub once : Option (ℕ × ℕ)

abbrev pub kept_at : Notes → ℕ → Sci → Option KeptOfUse
kept_at notes key sci = lookup (is_at (use_cmp (key, sci))) notes.senders

-- something is kept exactly where there are frames
abbrev pub KeepsSome : List RightFrame → Option KeptOfUse → Type 0
KeepsSome fs None = fs ≡ []
KeepsSome fs (Some kept) = (0 < length fs) × Keeps fs kept

pub record StandsFor (h : List RightFrame) (notes : Notes) : Type 0 where
  pub ordered : AreInOrder h
  pub senders : (key : ℕ) (sci : Sci) → KeepsSome (frames_of key sci h) (kept_at notes key sci)
  pub once : notes.once ≡ first_reuse h
