-- What is counted when a value is put.
use Rattle.std.proofs.Common.{◌≡◌, ◌∙◌, ℕ, Bool, true, false, cond, List, Option, Some, refl, sym, ap}
use Rattle.std.specs.Prelude.{◌&&◌, unwrap_or}
use Rattle.std.specs.Map.{lookup}
use Rattle.std.specs.BTreeMap.{is_at}
use Rattle.lan_base.specs.declared.address.Sci.{Sci}
use Rattle.rollover_notes.specs.declared.counts.Counts.{Counts}
use Rattle.rollover_notes.specs.declared.late_frames.LateFrames.{LateFrames}
use Rattle.rollover_notes.specs.declared.timing.Timing.{Timing}
use Rattle.rollover_notes.specs.Counted.{Pair, counted, none_late, pair_cmp, with_late}
use Rattle.rollover_notes.specs.Standing.{number_sci_cmp}
use Rattle.rollover_notes.specs.inside.Putting.{CountsMore, Lates, Puts, lates_at}
use Rattle.rollover_notes.specs.inside.Walking.{counts_at, told}
use Rattle.rollover_notes.proofs.Ties.{equal, exact-number-sci, exact-pair}

pub put-told : (at : Pair) (v : Counts) (packet : ℕ) (x : Timing) (old new : List (Pair × Counts))
    → Some v ≡ counted (counts_at old at) packet x → Puts pair_cmp at v old new
    → counts_at new ≡ told (counts_at old) at packet x
put-told at v packet x old new is puts = λ t p. whole p t
  where
    at-key : (p : Pair) (b : Bool) → is_at (pair_cmp at) p ≡ b
        → cond b (Some v) (counts_at old p) ≡ cond b (counted (counts_at old p) packet x) (counts_at old p)
    at-key p true same =
        is ∙ ap (λ (q : Pair). counted (counts_at old q) packet x) (exact-pair at p (equal (pair_cmp at p) same))
    at-key p false apart = refl

    whole : (p : Pair) → counts_at new p ≡ told (counts_at old) at packet x p
    whole p = puts p ∙ at-key p (is_at (pair_cmp at) p) refl

pub put-more : (at : ℕ × Sci) (v : LateFrames) (packet : ℕ) (old new : Lates) (is_late : Bool)
    → v ≡ with_late packet (lates_at old at) → Puts number_sci_cmp at v old new
    → is_late ≡ true → CountsMore is_late packet at old new
put-more at v packet old new is_late is puts late = λ q.
    ap (λ (o : Option LateFrames). unwrap_or o none_late) (puts q)
    ∙ at-key q (is_at (number_sci_cmp at) q) refl
    ∙ ap (λ (b : Bool). cond (is_at (number_sci_cmp at) q && b) (with_late packet (lates_at old q)) (lates_at old q))
    (sym late)
  where
    at-key : (q : ℕ × Sci) (b : Bool) → is_at (number_sci_cmp at) q ≡ b
        → unwrap_or (cond b (Some v) (lookup (is_at (number_sci_cmp q)) old)) none_late
        ≡ cond (b && true) (with_late packet (lates_at old q)) (lates_at old q)
    at-key q true same =
        is ∙ ap (λ (k : ℕ × Sci). with_late packet (lates_at old k))
        (exact-number-sci at q (equal (number_sci_cmp at q) same))
    at-key q false apart = refl
