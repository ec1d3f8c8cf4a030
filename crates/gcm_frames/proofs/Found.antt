-- Whether a frame's tag is right, as the code finds it.
use Rattle.std.proofs.Common.{◌≡◌, ◌+◌, ℕ, Bool, true, false, cond, List, [], take, refl, sym, ◌∙◌, subst}
use Rattle.std.specs.Prelude.{◌↔◌, IsTrue}
use Rattle.std.specs.Cmp.Lexicographic.{bytes_decides}
use Rattle.gcm_core.specs.Gcm.{gcm_tag}
use Rattle.gcm_frames.specs.declared.tag.Tag.{Tag}
use Rattle.gcm_frames.specs.Sealed.{additional_data, check_octets, enciphered, is_tag_right_with, secure_data}

decided : {X : Type 0} (b p : Bool) → (IsTrue b ↔ X) → (p ≡ true → X) → (X → p ≡ true) → b ≡ p
decided true p r f g = sym (g (r.0 refl))
decided false true r f g = absurd (cc (r.1 (f refl)))
decided false false r f g = refl

by-tag : (key frame : List ℕ) (tag : Tag) (b : Bool) (v extra text : List ℕ)
    → extra ≡ additional_data tag frame → text ≡ enciphered tag frame
    → (IsTrue b ↔ (gcm_tag key v extra text ≡ check_octets tag frame)) → b ≡ is_tag_right_with key v tag frame
by-tag key frame tag b v extra text extra_is text_is found =
    let there : IsTrue b ↔ (gcm_tag key v (additional_data tag frame) (enciphered tag frame) ≡ check_octets tag frame) =
    subst (λ (t : List ℕ). IsTrue b ↔ (gcm_tag key v (additional_data tag frame) t ≡ check_octets tag frame)) text_is
    (subst (λ (e : List ℕ). IsTrue b ↔ (gcm_tag key v e text ≡ check_octets tag frame)) extra_is found) in
    decided b _ there (bytes_decides _ _).0 (bytes_decides _ _).1

pick : (x y : List ℕ) (conf : Bool) → conf ≡ true → x ≡ cond conf x y
pick x y true e = refl
pick x y false e = absurd (cc e)

other : (x y : List ℕ) (conf : Bool) → conf ≡ false → y ≡ cond conf x y
other x y true e = absurd (cc e)
other x y false e = refl

pub by-tag-conf : (key frame : List ℕ) (tag : Tag) (b : Bool) (v extra text check : List ℕ) → tag.conf ≡ true
    → extra ≡ take tag.start frame → text ≡ secure_data tag frame → check ≡ check_octets tag frame
    → (IsTrue b ↔ (gcm_tag key v extra text ≡ check)) → b ≡ is_tag_right_with key v tag frame
by-tag-conf key frame tag b v extra text check conf extra_is text_is check_is found =
    by-tag key frame tag b v extra text (extra_is ∙ pick _ _ tag.conf conf) (text_is ∙ pick _ _ tag.conf conf)
    (subst (λ (c : List ℕ). IsTrue b ↔ (gcm_tag key v extra text ≡ c)) check_is found)

pub by-tag-plain : (key frame : List ℕ) (tag : Tag) (b : Bool) (v extra check : List ℕ) → tag.conf ≡ false
    → extra ≡ take (tag.start + tag.len) frame → check ≡ check_octets tag frame
    → (IsTrue b ↔ (gcm_tag key v extra [] ≡ check)) → b ≡ is_tag_right_with key v tag frame
by-tag-plain key frame tag b v extra check conf extra_is check_is found =
    by-tag key frame tag b v extra [] (extra_is ∙ other _ _ tag.conf conf) (other _ _ tag.conf conf)
    (subst (λ (c : List ℕ). IsTrue b ↔ (gcm_tag key v extra [] ≡ c)) check_is found)
