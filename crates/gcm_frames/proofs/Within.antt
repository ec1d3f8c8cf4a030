-- A frame that is read has the fields that stand in it, and its secure data and tag lie in it.
use Rattle.std.proofs.Common.{◌≡◌, ◌≤◌, ℕ, ◌+◌, Bool, not, ◌&&◌, true, false, cond, Option, Some, None, Ok, List, length, refl, sym, subst, arith}
use borrow.Author.Tests.{ltb-false}
use Rattle.gcm_frames.specs.declared.tag.Tag.{Tag}
use Rattle.gcm_frames.specs.declared.tag.TagRefusal.{TagRefusal}
use Rattle.gcm_frames.specs.declared.tag.TagRefusal.TheVariants.{NotSec, Version, Mode, Short, SlWrong}
use Rattle.gcm_frames.specs.Tags.{refused_in, is_sec, has_control, has_version, is_implied_mode, is_short, is_length_wrong, start_of, short_length_of, data_length, tag_in, fields_or, implied_fields}

-- a frame that is read has no refusal
read_from : (r : Option TagRefusal) (frame : List ℕ) (tag : Tag) → fields_or r frame ≡ Ok tag → (r ≡ None) × (tag ≡ tag_in frame)
read_from None frame tag e = (refl, (cc))
read_from (Some x) frame tag e = absurd (cc)

-- none of five refusals, tried in turn, applies
none_of : (a b c d e : Bool) (v w x y z : TagRefusal) → cond a (Some v) (cond b (Some w) (cond c (Some x) (cond d (Some y) (cond e (Some z) None)))) ≡ None → d ≡ false
none_of true b c d e v w x y z h = absurd (cc)
none_of false true c d e v w x y z h = absurd (cc)
none_of false false true d e v w x y z h = absurd (cc)
none_of false false false true e v w x y z h = absurd (cc)
none_of false false false false e v w x y z h = refl

not_short : (mode : Bool) (frame : List ℕ) → refused_in mode frame ≡ None → start_of frame + short_length_of frame + 16 ≤ length frame
not_short mode frame h =
    ltb-false _ _
    (none_of (not (is_sec frame)) (has_control frame && has_version frame) (has_control frame && not mode)
    (is_short frame) (is_length_wrong frame) NotSec Version Mode Short SlWrong h)

within_in : (mode : Bool) (frame : List ℕ) (tag : Tag) → fields_or (refused_in mode frame) frame ≡ Ok tag → tag.start + tag.len + 16 ≤ length frame
within_in mode frame tag h =
    let r = read_from (refused_in mode frame) frame tag h in
    let far : start_of frame + short_length_of frame + 16 ≤ length frame = not_short mode frame r.0 in
    let inside : start_of frame + data_length frame + 16 ≤ length frame = grind arith in
    subst (λ (t : Tag). t.start + t.len + 16 ≤ length frame) (sym r.1) inside

pub implied_within : (frame : List ℕ) (tag : Tag) → implied_fields frame ≡ Ok tag → tag.start + tag.len + 16 ≤ length frame
unfolding implied_fields
implied_within frame tag h = within_in (is_implied_mode frame) frame tag h
