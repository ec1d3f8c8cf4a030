-- What an answer of `read` says of the frame. A frame has one spelling at most, and the covered
-- octets alone decide it.
use Rattle.std.specs.Prelude.{IfOk, IsOk, ◌↔◌}
use Rattle.std.proofs.Common.{◌≡◌, ℕ, ◌+◌, ◌⊎◌, inl, inr, List, [], ◌++◌, length, take, Some, None, Result, Ok, Err, refl, sym, ap, subst, ◌∙◌, arith, length-append, append_assoc}
use Rattle.std.proofs.lemmas.List.{take_at}
use Rattle.mkpdu_codec.specs.declared.announcement.Announcement.{Announcement}
use Rattle.mkpdu_codec.specs.declared.refusal.Refusal.{Refusal}
use Rattle.mkpdu_codec.specs.declared.read_error.ReadError.{ReadError}
use Rattle.mkpdu_codec.specs.declared.read_error.ReadError.TheVariants.{Refused, Memory}
use Rattle.mkpdu_codec.specs.declared.spelled.Spelled.{Spelled}
use Rattle.mkpdu_codec.specs.Frames.{covered_octets, Spells}
use Rattle.mkpdu_codec.specs.Refusals.{refused}
use Rattle.mkpdu_codec.specs.Reading.{reading}
use Rattle.mkpdu_codec.specs.inside.Views.{Answers}
use Rattle.mkpdu_codec.proofs.SetOctets.{IsBytes}
use Rattle.mkpdu_codec.proofs.Order.{error_of, refused-is, refused_exactly}
use Rattle.mkpdu_codec.proofs.FrameAgain.{read_again}
use Rattle.mkpdu_codec.proofs.WhatIsRead.{read_is_spelled}

same_value : (r : Result Spelled Refusal) (x y : Spelled) → r ≡ Ok x → r ≡ Ok y → x ≡ y
same_value r x y e d = cc

pub one_spelling : (frame : List ℕ) (a b : Announcement) (m n : ℕ) (c d : List ℕ) → Spells frame a m c → Spells frame b n d → (a ≡ b) × (m ≡ n) × (c ≡ d)
one_spelling frame a b m n c d s t =
    let same = same_value (reading frame) (record { announcement = a; covered = m; check = c }) (record { announcement = b; covered = n; check = d }) (read_again frame a m c s) (read_again frame b n d t) in
    (ap (λ (x : Spelled). x.announcement) same, ap (λ (x : Spelled). x.covered) same, ap (λ (x : Spelled). x.check) same)

pub not_refused : (frame : List ℕ) (a : Announcement) (m : ℕ) (c : List ℕ) → Spells frame a m c → refused frame ≡ None
not_refused frame a m c s = refused-is frame ∙ ap error_of (read_again frame a m c s)

-- the check value and what stands behind it may be others
with_check : (frame : List ℕ) (a : Announcement) (m : ℕ) (c check behind : List ℕ) → Spells frame a m c → length check ≡ 16 → Spells (take m frame ++ (check ++ behind)) a m check
with_check frame a m c check behind s sixteen =
    let p = s.parts in
    record {
      parts = record p { check = check; behind = behind };
      basic = s.basic;
      others = s.others;
      whole = ap (λ (x : List ℕ). x ++ (check ++ behind)) (ap (take m) s.whole ∙ take_at (covered_octets p) (p.check ++ p.behind) m (sym s.covers));
      is_frame = record { destination = s.is_frame.destination; group = s.is_frame.group; source = s.is_frame.source; body = s.is_frame.body; check = sixteen };
      is_body = s.is_body;
      covers = s.covers;
      checked = refl;
      source = s.source;
      says = s.says;
      live = s.live;
      potential = s.potential;
      uses = s.uses;
      given = s.given;
      highs = s.highs;
    }

length-check : (frame : List ℕ) (a : Announcement) (m : ℕ) (c : List ℕ) → Spells frame a m c → length c ≡ 16
length-check frame a m c s = ap length s.checked ∙ s.is_frame.check

pub same_covered : (frame other : List ℕ) (a b : Announcement) (m n : ℕ) (c d : List ℕ) → Spells frame a m c → Spells other b n d → take m frame ≡ take n other → (a ≡ b) × (m ≡ n)
same_covered frame other a b m n c d s t covered =
    let sixteen = length-check frame a m c s in
    let one = one_spelling (take m frame ++ (c ++ [])) a b m n c c (with_check frame a m c c [] s sixteen) (subst (λ (x : List ℕ). Spells (x ++ (c ++ [])) b n c) (sym covered) (with_check other b n d c [] t sixteen)) in
    (one.0, one.1)

pub behind_ignored : (frame behind check : List ℕ) (a : Announcement) (m : ℕ) → Spells frame a m check → Spells (take (m + 16) frame ++ behind) a m check
behind_ignored frame behind check a m s =
    let p = s.parts in
    let sixteen = length-check frame a m check s in
    let front : take m frame ≡ covered_octets p = ap (take m) s.whole ∙ take_at (covered_octets p) (p.check ++ p.behind) m (sym s.covers) in
    let both : take (m + 16) frame ≡ covered_octets p ++ p.check =
    ap (take (m + 16)) (s.whole ∙ sym (append_assoc (covered_octets p) p.check p.behind)) ∙ take_at (covered_octets p ++ p.check) p.behind (m + 16) (omega (arith, s.covers, s.is_frame.check, length-append (covered_octets p) p.check)) in
    let same : take m frame ++ (check ++ behind) ≡ take (m + 16) frame ++ behind =
    ap (λ (x : List ℕ). x ++ (check ++ behind)) front ∙ ap (λ (x : List ℕ). covered_octets p ++ (x ++ behind)) s.checked ∙ sym (append_assoc (covered_octets p) p.check behind) ∙ ap (λ (x : List ℕ). x ++ behind) (sym both) in
    subst (λ (x : List ℕ). Spells x a m check) same (with_check frame a m check check behind s sixteen)

-- ---- the answers of `read`

pub answer_found : (frame : List ℕ) (r : Result Spelled ReadError) → IsBytes frame → Answers r (reading frame) → IfOk r (λ s. Spells frame s.announcement s.covered s.check)
answer_found frame (Ok s) bytes answers = read_is_spelled frame s bytes answers
answer_found frame (Err e) bytes answers = tt

pub answer_only : (frame : List ℕ) (r : Result Spelled ReadError) (a : Announcement) (m : ℕ) (c : List ℕ) → Answers r (reading frame) → Spells frame a m c
    → (r ≡ Ok (record { announcement = a; covered = m; check = c })) ⊎ (r ≡ Err Memory)
answer_only frame (Ok s) a m c answers spells =
    let same : s ≡ record { announcement = a; covered = m; check = c } = same_value (reading frame) s (record { announcement = a; covered = m; check = c }) answers (read_again frame a m c spells) in
    inl (ap (λ (x : Spelled). let r : Result Spelled ReadError = Ok x in r) same)
answer_only frame (Err (Refused e)) a m c answers spells = absurd (let both = sym (read_again frame a m c spells) ∙ answers in cc)
answer_only frame (Err Memory) a m c answers spells = inr refl

pub answer_refused : (frame : List ℕ) (r : Result Spelled ReadError) (e : Refusal) → Answers r (reading frame) → (r ≡ Err (Refused e)) ↔ (refused frame ≡ Some e)
answer_refused frame r e answers = (there r answers, back r answers) where
  there : (r : Result Spelled ReadError) → Answers r (reading frame) → r ≡ Err (Refused e) → refused frame ≡ Some e
  there (Ok s) answers was = absurd cc
  there (Err (Refused d)) answers was = (refused_exactly frame e).1 (answers ∙ (let same : d ≡ e = cc in ap (λ (x : Refusal). let r : Result Spelled Refusal = Err x in r) same))
  there (Err Memory) answers was = absurd cc

  back : (r : Result Spelled ReadError) → Answers r (reading frame) → refused frame ≡ Some e → r ≡ Err (Refused e)
  back (Ok s) answers was = absurd (let both = sym answers ∙ (refused_exactly frame e).0 was in cc)
  back (Err (Refused d)) answers was = let both = sym answers ∙ (refused_exactly frame e).0 was in cc
  back (Err Memory) answers was = absurd (let got : IsOk (reading frame) = answers in let gone = rw ((refused_exactly frame e).0 was) at got in cc)

pub answer_memory : (frame : List ℕ) (r : Result Spelled ReadError) → Answers r (reading frame) → r ≡ Err Memory → refused frame ≡ None
answer_memory frame (Ok s) answers was = absurd cc
answer_memory frame (Err (Refused d)) answers was = absurd cc
answer_memory frame (Err Memory) answers was = refused-is frame ∙ go (reading frame) answers where
  go : (r : Result Spelled Refusal) → IsOk r → error_of r ≡ None
  go (Ok s) got = refl
  go (Err x) got = absurd cc
