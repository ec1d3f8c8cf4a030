use Rattle.std.proofs.Common.{◌≡◌, ℕ, ◌==◌, ◌%◌, nat_le, length, Bool, true, false, ◌&&◌, refl, ap, slice_index}
use Rattle.std.proofs.lemmas.Bool.{and_parts, eqb-true}
use Rattle.mkpdu_codec.specs.Refusals.{refused, is_mka}
use Rattle.gcm_frames.proofs.laws.law_no_frame_is_both.Goals as goal

-- a test that fails in the middle of others
middle_fails : (a b c d e : Bool) → c ≡ false → (a && b && c && d && e) ≡ false
middle_fails true true true d e h = absurd (cc)
middle_fails true true false d e h = refl
middle_fails true false c d e h = refl
middle_fails false b c d e h = refl

pub returns : goal.returns
unfolding refused
returns c = λ frame h.
    let octet : slice_index frame 13 ≡ 0xe5 = eqb-true _ _ ((and_parts _ _ h).1) in
    let other : (slice_index frame 13 == 0x8e) ≡ false = ap (λ (n : ℕ). n == 0x8e) octet in
    let no : is_mka frame ≡ false =
    middle_fails (nat_le 18 (length frame)) (slice_index frame 12 == 0x88) (slice_index frame 13 == 0x8e) (slice_index frame 15 == 5) (slice_index frame 0 % 2 == 1) other in
    rw no refl
