-- A frame with octets of its user data in clear, by its tag.
use Rattle.std.proofs.Common.{◌≡◌, ℕ, ◌+◌, ◌-◌, Bool, true, false, cond, List, Some, None, refl, sym, ◌∙◌, arith}
use Rattle.std.specs.Prelude.{min, ◌↔◌, IsTrue, is_some}
use Rattle.gcm_frames.specs.declared.tag.Tag.{Tag}
use Rattle.gcm_frames.specs.Sealed.{is_tag_right, is_tag_right_with, opened, behind_clear, IsSealedFromWith}
use Rattle.gcm_frames.proofs.Opening.{Encrypts, right_from, from_right}

some-is : (b : Bool) (x : List ℕ) → b ≡ is_some (cond b (Some x) None)
some-is true x = refl
some-is false x = refl

-- a frame opens exactly where its tag is right
pub opens : (key frame : List ℕ) (tag : Tag) → is_tag_right key tag frame ≡ is_some (opened key tag frame)
unfolding opened
opens key frame tag = some-is (is_tag_right key tag frame) _

-- with no octets in clear the fields are as they were
pub no_clear : (tag : Tag) → behind_clear 0 tag ≡ tag
no_clear tag =
    let start : tag.start + min 0 tag.len ≡ tag.start = grind arith in
    let len : tag.len - 0 ≡ tag.len = omega arith in
    let moved : record tag { start = tag.start + min 0 tag.len; len = tag.len - 0 } ≡ tag = λ i. record tag { start = start i; len = len i } in
    elim tag.conf as (λ b. cond b (record tag { start = tag.start + min 0 tag.len; len = tag.len - 0 }) tag ≡ tag) [
      | true ↦ moved
      | false ↦ refl
    ]

-- a frame is sealed exactly where its tag is right
pub sealed_by : (key v frame : List ℕ) (tag : Tag) (b : Bool) → Encrypts key v → b ≡ is_tag_right_with key v tag frame
    → IsTrue b ↔ ((text : List ℕ) × IsSealedFromWith key v tag frame text)
sealed_by key v frame tag b w e = (there, back) where
  there : IsTrue b → (text : List ℕ) × IsSealedFromWith key v tag frame text
  there t = (_, from_right key v frame tag w (sym e ∙ t))

  back : (text : List ℕ) × IsSealedFromWith key v tag frame text → IsTrue b
  back s = e ∙ (right_from key v frame s.0 tag w s.1).0
