-- What the code did to a received frame is what its definition says.
use Rattle.std.proofs.Common.{◌≡◌, ℕ, ◌+◌, ◌≤◌, Bool, true, false, cond, List, [], ◌++◌, length, take, drop, Some, None, sym, ap, ◌∙◌, arith}
use Rattle.std.specs.Bool.{OnTrue, OnFalse}
use Rattle.std.proofs.lemmas.List.{length-drop, length-take-le, take-append-drop, drop-drop}
use Rattle.gcm_core.specs.Gcm.{gcm}
use Rattle.gcm_frames.specs.declared.tag.Tag.{Tag}
use Rattle.gcm_frames.specs.Sealed.{check_octets, secure_data, user_data, with_user_data, opened_with, IsSealedFromWith}
use Rattle.gcm_frames.proofs.Parts.{middle}
use Rattle.gcm_frames.proofs.Opening.{Encrypts, opened_some, opened_none, length-gcm_text}

on_true : {P Q : Type 0} (b : Bool) → (P → Q) → OnTrue b P → OnTrue b Q
on_true true f p = f p
on_true false f p = p

on_false : {P Q : Type 0} (b : Bool) → (P → Q) → OnFalse b P → OnFalse b Q
on_false true f p = p
on_false false f p = f p

-- the parts of a frame, joined again
joined : (frame : List ℕ) (start len : ℕ) → take start frame ++ (take len (drop start frame) ++ drop (start + len) frame) ≡ frame
joined frame start len =
    ap (λ (x : List ℕ). take start frame ++ (take len (drop start frame) ++ x)) (sym (drop-drop len start frame))
    ∙ ap (λ (x : List ℕ). take start frame ++ x) (take-append-drop len (drop start frame))
    ∙ take-append-drop start frame

-- where the data is enciphered, what was sealed is what stands in the frame
sealed_conf : (key v frame text : List ℕ) (tag : Tag) (conf : Bool) → conf ≡ true
    → (gcm key v (cond conf (take tag.start frame) (take (tag.start + tag.len) frame)) text
    ≡ (cond conf (secure_data tag frame) [], check_octets tag frame))
    → gcm key v (take tag.start frame) text ≡ (secure_data tag frame, check_octets tag frame)
sealed_conf key v frame text tag true e s = s
sealed_conf key v frame text tag false e s = absurd (cc)

conf_sealed : (key v frame text : List ℕ) (tag : Tag) (conf : Bool) → conf ≡ true
    → gcm key v (take tag.start frame) text ≡ (secure_data tag frame, check_octets tag frame)
    → (gcm key v (cond conf (take tag.start frame) (take (tag.start + tag.len) frame)) text
    ≡ (cond conf (secure_data tag frame) [], check_octets tag frame))
conf_sealed key v frame text tag true e s = s
conf_sealed key v frame text tag false e s = absurd (cc)

plain_sealed : (key v frame text : List ℕ) (tag : Tag) (conf : Bool) → conf ≡ false
    → gcm key v (take (tag.start + tag.len) frame) text ≡ ([], check_octets tag frame)
    → (gcm key v (cond conf (take tag.start frame) (take (tag.start + tag.len) frame)) text
    ≡ (cond conf (secure_data tag frame) [], check_octets tag frame))
plain_sealed key v frame text tag true e s = absurd (cc)
plain_sealed key v frame text tag false e s = s

sealed_plain : (key v frame text : List ℕ) (tag : Tag) (conf : Bool) → conf ≡ false
    → (gcm key v (cond conf (take tag.start frame) (take (tag.start + tag.len) frame)) text
    ≡ (cond conf (secure_data tag frame) [], check_octets tag frame))
    → gcm key v (take (tag.start + tag.len) frame) text ≡ ([], check_octets tag frame)
sealed_plain key v frame text tag true e s = absurd (cc)
sealed_plain key v frame text tag false e s = s

data_at : (x y : List ℕ) (conf : Bool) → conf ≡ true → cond conf x y ≡ x
data_at x y conf e = ap (λ (t : Bool). cond t x y) e

data_else : (x y : List ℕ) (conf : Bool) → conf ≡ false → cond conf x y ≡ y
data_else x y conf e = ap (λ (t : Bool). cond t x y) e

-- what the code saw of a frame whose data is enciphered
pub record Saw (frame : List ℕ) (tag : Tag) (head rest check : List ℕ) : Type 0 where
  pub head_is : head ≡ take tag.start frame
  pub rest_is : rest ≡ drop tag.start frame
  pub check_is : check ≡ check_octets tag frame
  pub conf_is : tag.conf ≡ true

sealed_seen : (key frame text : List ℕ) (tag : Tag) (v head rest check : List ℕ) → Saw frame tag head rest check → IsSealedFromWith key v tag frame text
    → gcm key v head text ≡ (take tag.len rest, check)
sealed_seen key frame text tag v head rest check w s =
    let there = sealed_conf key v frame text tag tag.conf w.conf_is s in
    (λ i. gcm key v (w.head_is i) text) ∙ there ∙ sym (λ i. (take tag.len (w.rest_is i), w.check_is i))

seen_sealed : (key frame text : List ℕ) (tag : Tag) (v head rest check : List ℕ) → Saw frame tag head rest check
    → gcm key v head text ≡ (take tag.len rest, check) → IsSealedFromWith key v tag frame text
seen_sealed key frame text tag v head rest check w g =
    conf_sealed key v frame text tag tag.conf w.conf_is
    (sym (λ i. gcm key v (w.head_is i) text) ∙ g ∙ (λ i. (take tag.len (w.rest_is i), w.check_is i)))

pub conf_plain : (key frame new : List ℕ) (tag : Tag) (v head rest check : List ℕ) (b : Bool) → Saw frame tag head rest check
    → OnTrue b ((plain : List ℕ) → gcm key v head plain ≡ (take tag.len rest, check) → plain ≡ new)
    → OnTrue b ((text : List ℕ) → IsSealedFromWith key v tag frame text
    → head ++ (new ++ drop tag.len rest) ≡ with_user_data tag frame (user_data tag frame text))
conf_plain key frame new tag v head rest check b w only =
    on_true b (λ f text s.
    let user : user_data tag frame text ≡ new =
    data_at text (secure_data tag frame) tag.conf w.conf_is ∙ f text (sealed_seen key frame text tag v head rest check w s) in
    let tail : drop tag.len rest ≡ drop (tag.start + tag.len) frame =
    ap (drop tag.len) w.rest_is ∙ drop-drop tag.len tag.start frame in
    λ i. w.head_is i ++ (sym user i ++ tail i)) only

pub conf_unchanged : (frame new : List ℕ) (tag : Tag) (head rest check : List ℕ) (b : Bool) → Saw frame tag head rest check
    → OnFalse b (new ≡ take tag.len rest) → OnFalse b (head ++ (new ++ drop tag.len rest) ≡ frame)
conf_unchanged frame new tag head rest check b w same =
    on_false b (λ e.
    let tail : drop tag.len rest ≡ drop (tag.start + tag.len) frame =
    ap (drop tag.len) w.rest_is ∙ drop-drop tag.len tag.start frame in
    let mid : new ≡ take tag.len (drop tag.start frame) = e ∙ ap (take tag.len) w.rest_is in
    (λ i. w.head_is i ++ (mid i ++ tail i)) ∙ joined frame tag.start tag.len) same

pub conf_exact : (key frame new : List ℕ) (tag : Tag) (v head rest check : List ℕ) (b : Bool) → Encrypts key v → Saw frame tag head rest check
    → tag.start + tag.len + 16 ≤ length frame
    → OnTrue b (gcm key v head new ≡ (take tag.len rest, check))
    → OnFalse b ((plain : List ℕ) → gcm key v head plain ≡ (take tag.len rest, check) → ⊥)
    → opened_with key v tag frame ≡ cond b (Some (secure_data tag (head ++ (new ++ drop tag.len rest)))) None
conf_exact key frame new tag v head rest check true works w within right wrong =
    let long : length head ≡ tag.start = ap length w.head_is ∙ length-take-le tag.start frame (omega arith) in
    let inside : length new ≡ tag.len =
    sym (length-gcm_text key v new works) ∙ ap length (ap (λ p. p.0) right) ∙ length-take-le tag.len rest (omega (arith, ap length w.rest_is, length-drop tag.start frame)) in
    opened_some key v frame new tag works (seen_sealed key frame new tag v head rest check w right)
    ∙ ap Some (data_at new (secure_data tag frame) tag.conf w.conf_is ∙ sym (middle head new (drop tag.len rest) tag.start tag.len long inside))
conf_exact key frame new tag v head rest check false works w within right wrong =
    opened_none key v frame tag works (λ text s. wrong text (sealed_seen key frame text tag v head rest check w s))

-- ---- where the data is not enciphered

pub plain_plain : (key v frame : List ℕ) (tag : Tag) (b : Bool) → tag.conf ≡ false
    → OnTrue b ((text : List ℕ) → IsSealedFromWith key v tag frame text → frame ≡ with_user_data tag frame (user_data tag frame text))
plain_plain key v frame tag b conf_is =
    on_true {P = Unit {0}} b (λ _ text s.
    sym (joined frame tag.start tag.len)
    ∙ ap (λ (x : List ℕ). take tag.start frame ++ (x ++ drop (tag.start + tag.len) frame))
    (sym (data_else text (secure_data tag frame) tag.conf conf_is))) (always b)
  where
    always : (b : Bool) → OnTrue b (Unit {0})
    always true = tt
    always false = tt

pub plain_exact : (key frame new : List ℕ) (tag : Tag) (v check : List ℕ) (b : Bool) → Encrypts key v → tag.conf ≡ false
    → check ≡ check_octets tag frame
    → OnTrue b (gcm key v (take (tag.start + tag.len) frame) new ≡ ([], check))
    → OnFalse b ((plain : List ℕ) → gcm key v (take (tag.start + tag.len) frame) plain ≡ ([], check) → ⊥)
    → opened_with key v tag frame ≡ cond b (Some (secure_data tag frame)) None
plain_exact key frame new tag v check true works conf_is check_is right wrong =
    let there : gcm key v (take (tag.start + tag.len) frame) new ≡ ([], check_octets tag frame) =
    right ∙ (λ i. ([], check_is i)) in
    opened_some key v frame new tag works (plain_sealed key v frame new tag tag.conf conf_is there)
    ∙ ap Some (data_else new (secure_data tag frame) tag.conf conf_is)
plain_exact key frame new tag v check false works conf_is check_is right wrong =
    opened_none key v frame tag works (λ text s. wrong text
    (sealed_plain key v frame text tag tag.conf conf_is s ∙ sym (λ i. ([], check_is i))))
