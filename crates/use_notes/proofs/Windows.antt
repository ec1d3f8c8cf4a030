-- The window is the least under which none of the new frames is late.
use Rattle.std.proofs.Common.{◌≡◌, ◌≢◌, ◌∙◌, ◌<◌, ◌≤◌, ◌+◌, ◌-◌, ◌⊎◌, inl, inr, ℕ, Bool, true, false, cond, List, [], ◌∷◌, None, max, refl, sym, ap, arith}
use Rattle.std.specs.Prelude.{◌&&◌, nat_lt}
use Rattle.std.specs.Option.{option_or}
use Rattle.std.proofs.lemmas.Bool.{ltb-true, ltb-false, cases_lt}
use Rattle.use_notes.specs.declared.frame.RightFrame.{RightFrame}
use Rattle.use_notes.specs.Frames.{first_alike, first_of, note_here, novelty, is_new}
use Rattle.use_notes.specs.Uses.{greatest_pn, lag, window, IsInTime, AreInTime}
use Rattle.use_notes.proofs.Firsts.{new-none, none-before, same-here}

-- ---- all numbers before

in-time-from : (w : ℕ) (e : RightFrame) (fs : List RightFrame)
    → ((f : RightFrame) (gs : List RightFrame) → fs ≡ f ∷ gs → greatest_pn fs < e.pn + w) → IsInTime w e fs
in-time-from w e [] below = tt
in-time-from w e (f ∷ fs) below =
    let less = below f fs refl in
    (omega (arith, less), in-time-from w e fs (λ g gs is. omega (arith, less)))

greatest-in-time : (w : ℕ) (e : RightFrame) (fs : List RightFrame) → IsInTime w e fs → e.pn < greatest_pn fs
    → greatest_pn fs < e.pn + w
greatest-in-time w e [] all more = absurd (omega (arith, more))
greatest-in-time w e (f ∷ fs) all more = go (cases_lt e.pn (greatest_pn fs)) (greatest-in-time w e fs all.1)
  where
    go : (e.pn < greatest_pn fs) ⊎ (greatest_pn fs ≤ e.pn) → (e.pn < greatest_pn fs → greatest_pn fs < e.pn + w)
        → max f.pn (greatest_pn fs) < e.pn + w
    go (inl above) later =
        let less = later above in
        let one = all.0 in omega (arith, less, one)
    go (inr below) later = let one = all.0 in omega (arith, below, one, more)

-- ---- a new frame's number is not among those before

abbrev IsApart : ℕ → List RightFrame → Type 0
IsApart pn [] = Unit {0}
IsApart pn (f ∷ fs) = (f.pn ≢ pn) × IsApart pn fs

apart-here : (pn : ℕ) (f : RightFrame) (fs : List RightFrame) → first_of pn (f ∷ fs) ≡ None → f.pn ≢ pn
apart-here pn f fs none is =
    cc (sym (same-here f) ∙ ap (λ n. note_here n f) is
    ∙ ap (λ o. option_or o (note_here pn f)) (sym (none-before pn f fs none)) ∙ none)

all-apart : (pn : ℕ) (fs : List RightFrame) → first_of pn fs ≡ None → IsApart pn fs
all-apart pn [] none = tt
all-apart pn (f ∷ fs) none = (apart-here pn f fs none, all-apart pn fs (none-before pn f fs none))

greatest-apart : (pn : ℕ) (fs : List RightFrame) → IsApart pn fs → greatest_pn fs ≤ pn → (w : ℕ) (e : RightFrame)
    → e.pn ≡ pn → IsInTime w e fs
greatest-apart pn [] apart below w e is = tt
greatest-apart pn (f ∷ fs) apart below w e is =
    let no = apart.0 in (omega (arith, no, below, is), greatest-apart pn fs apart.1 (omega (arith, below)) w e is)

-- ---- one frame

lag-in : (w : ℕ) (e : RightFrame) (fs : List RightFrame) → lag fs e ≤ w → is_new (novelty fs e) ≡ true
    → IsInTime w e fs
lag-in w e fs less new = go (nat_lt e.pn (greatest_pn fs)) refl
  where
    lag-is : (b : Bool) → nat_lt e.pn (greatest_pn fs) ≡ b → lag fs e ≡ cond b (greatest_pn fs + 1 - e.pn) 0
    lag-is b is =
        ap (λ n. cond (n && nat_lt e.pn (greatest_pn fs)) (greatest_pn fs + 1 - e.pn) 0) new
        ∙ ap (λ b. cond b (greatest_pn fs + 1 - e.pn) 0) is

    go : (b : Bool) → nat_lt e.pn (greatest_pn fs) ≡ b → IsInTime w e fs
    go true is =
        let same = lag-is true is in
        in-time-from w e fs (λ f gs some. omega (arith, same, less))
    go false is =
        greatest-apart e.pn fs (all-apart e.pn fs (new-none (first_of e.pn fs) (first_alike e.pn e.check fs) new))
        (ltb-false e.pn (greatest_pn fs) is) w e refl

lag-out : (w : ℕ) (e : RightFrame) (fs : List RightFrame) → (is_new (novelty fs e) ≡ true → IsInTime w e fs)
    → lag fs e ≤ w
lag-out w e fs all = go (is_new (novelty fs e)) refl (nat_lt e.pn (greatest_pn fs)) refl
  where
    go : (n : Bool) → is_new (novelty fs e) ≡ n → (b : Bool) → nat_lt e.pn (greatest_pn fs) ≡ b → lag fs e ≤ w
    go false new b is =
        let same : lag fs e ≡ 0 = ap (λ n. cond (n && nat_lt e.pn (greatest_pn fs)) (greatest_pn fs + 1 - e.pn) 0) new in
        omega (arith, same)
    go true new false is =
        let same : lag fs e ≡ 0 =
        ap (λ n. cond (n && nat_lt e.pn (greatest_pn fs)) (greatest_pn fs + 1 - e.pn) 0) new
        ∙ ap (λ b. cond b (greatest_pn fs + 1 - e.pn) 0) is in
        omega (arith, same)
    go true new true is =
        let same : lag fs e ≡ greatest_pn fs + 1 - e.pn =
        ap (λ n. cond (n && nat_lt e.pn (greatest_pn fs)) (greatest_pn fs + 1 - e.pn) 0) new
        ∙ ap (λ b. cond b (greatest_pn fs + 1 - e.pn) 0) is in
        let above = ltb-true e.pn (greatest_pn fs) is in
        let less = greatest-in-time w e fs (all new) above in
        omega (arith, same, less)

-- ---- all

pub window-in : (fs : List RightFrame) (w : ℕ) → window fs ≤ w → AreInTime w fs
window-in [] w less = tt
window-in (e ∷ fs) w less =
    (λ new. lag-in w e fs (omega (arith, less)) new, window-in fs w (omega (arith, less)))

pub window-out : (fs : List RightFrame) (w : ℕ) → AreInTime w fs → window fs ≤ w
window-out [] w all = omega arith
window-out (e ∷ fs) w all =
    let one = lag-out w e fs all.0 in
    let more = window-out fs w all.1 in omega (arith, one, more)
