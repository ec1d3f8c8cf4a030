-- Frames are put, marked and passed by, and stay in the order of their rounds.
use Rattle.std.proofs.Common.{◌≡◌, ℕ, zero, suc, ◌+◌, ◌-◌, ◌<◌, ◌≤◌, Bool, true, false, List, []}
use Rattle.std.proofs.Common.{◌∷◌, ◌++◌, length, get_or, set, drop, drop-cons, add-one, refl, sym}
use Rattle.std.proofs.Common.{ap, ◌∙◌, subst, arith}
use Rattle.std.specs.Prelude.{◌&&◌, nat_le, not, map, cond}
use Rattle.std.specs.List.{filter}
use Rattle.lan_schedule.specs.declared.frames.Put.{Put}
use Rattle.lan_schedule.specs.World.{marked_at, with_mark}
use Rattle.lan_schedule.specs.Lines.{is_due, due_of}
use Rattle.lan_schedule.specs.inside.Frames.{AreMarked, CameFrom, AreInOrder}

-- ---- order

pub order-later : (rounds later : ℕ) (frames : List Put) → rounds ≤ later → AreInOrder rounds frames
    → AreInOrder later frames
order-later rounds later [] up h = tt
order-later rounds later (put ∷ others) up h =
    (let a : put.at ≤ rounds = h.0 in omega (arith, a, up), h.1, order-later rounds later others up h.2)

came-end : (at : ℕ) (frames : List Put) (put : Put) → at ≤ put.at → CameFrom at frames
    → CameFrom at (frames ++ put ∷ [])
came-end at [] put le h = (le, tt)
came-end at (p ∷ others) put le h = (h.0, came-end at others put le h.1)

pub order-end : (rounds : ℕ) (frames : List Put) (put : Put) → put.at ≡ rounds
    → AreInOrder rounds frames → AreInOrder rounds (frames ++ put ∷ [])
order-end rounds [] put is h = (omega (arith, is), tt, tt)
order-end rounds (p ∷ others) put is h = (
  h.0,
  came-end p.at others put (let a : p.at ≤ rounds = h.0 in omega (arith, is)) h.1,
  order-end rounds others put is h.2,
)

came-marked : (at n : ℕ) (frames : List Put) → CameFrom at frames → CameFrom at (marked_at n frames)
came-marked at n [] h = h
came-marked at zero (p ∷ others) h = h
came-marked at (suc n) (p ∷ others) h = (h.0, came-marked at n others h.1)

pub order-marked : (rounds n : ℕ) (frames : List Put) → AreInOrder rounds frames
    → AreInOrder rounds (marked_at n frames)
order-marked rounds n [] h = h
order-marked rounds zero (p ∷ others) h = h
order-marked rounds (suc n) (p ∷ others) h =
    (h.0, came-marked p.at n others h.1, order-marked rounds n others h.2)

pub order-drop : (rounds n : ℕ) (frames : List Put) → AreInOrder rounds frames
    → AreInOrder rounds (drop n frames)
order-drop rounds zero frames h = h
order-drop rounds (suc n) [] h = h
order-drop rounds (suc n) (p ∷ others) h = order-drop rounds n others h.2

-- ---- marks

pub marked-end : (n : ℕ) (frames : List Put) (put : Put) → AreMarked n frames
    → AreMarked n (frames ++ put ∷ [])
marked-end zero frames put h = tt
marked-end (suc n) [] put h = absurd h
marked-end (suc n) (p ∷ others) put h = (h.0, marked-end n others put h.1)

pub marked-marked : (n place : ℕ) (frames : List Put) → AreMarked n frames
    → AreMarked n (marked_at place frames)
marked-marked zero place frames h = tt
marked-marked (suc n) place [] h = absurd h
marked-marked (suc n) zero (p ∷ others) h = (refl, h.1)
marked-marked (suc n) (suc place) (p ∷ others) h = (h.0, marked-marked n place others h.1)

pub marked-more : (n : ℕ) (frames : List Put) (d : Put) → n < length frames
    → (get_or frames n d).marked ≡ true → AreMarked n frames → AreMarked (n + 1) frames
marked-more n frames d lt is h = rw add-one (more n frames d lt is h) where
  more : (n : ℕ) (frames : List Put) (d : Put) → n < length frames
      → (get_or frames n d).marked ≡ true → AreMarked n frames → AreMarked (suc n) frames
  more zero [] d lt is h = absurd (omega arith)
  more zero (p ∷ others) d lt is h = (is, tt)
  more (suc n) [] d lt is h = absurd h
  more (suc n) (p ∷ others) d lt is h = (h.0, more n others d (omega arith) is h.1)

pub mark-set : (i : ℕ) (xs : List Put) (p : Put) → p ≡ get_or xs i p → i < length xs
    → set xs i (with_mark p) ≡ marked_at i xs
mark-set i [] p is lt = absurd (omega arith)
mark-set zero (x ∷ xs) p is lt = ap (λ (q : Put). with_mark q ∷ xs) is
mark-set (suc i) (x ∷ xs) p is lt = ap (λ (l : List Put). x ∷ l) (mark-set i xs p is (omega arith))

pub mark-past : (i : ℕ) (xs : List Put) → length xs ≤ i → marked_at i xs ≡ xs
mark-past i [] le = refl
mark-past zero (x ∷ xs) le = absurd (omega arith)
mark-past (suc i) (x ∷ xs) le = ap (λ (l : List Put). x ∷ l) (mark-past i xs (omega arith))

-- ---- what is due

marked-not-due : (lag rounds : ℕ) (p : Put) → p.marked ≡ true → is_due lag rounds p ≡ false
marked-not-due lag rounds p is = rw is refl

-- no frame that is marked is due
pub due-marked : (lag rounds n : ℕ) (frames : List Put) → AreMarked n frames
    → due_of lag rounds (drop n frames) ≡ due_of lag rounds frames
due-marked lag rounds zero frames h = refl
due-marked lag rounds (suc n) [] h = absurd h
due-marked lag rounds (suc n) (p ∷ others) h =
    due-marked lag rounds n others h.1
    ∙ ap (λ (b : Bool). map (λ (put : Put). put.number)
    (cond b (p ∷ filter (is_due lag rounds) others) (filter (is_due lag rounds) others)))
    (sym (marked-not-due lag rounds p h.0))

le-true : (a b : ℕ) → a ≤ b → nat_le a b ≡ true
le-true a b le = grind arith

due-here : (lag rounds : ℕ) (d : Put) (others : List Put) (m : Bool) → d.marked ≡ m
    → lag ≤ rounds - d.at → d.at ≤ rounds
    → map (λ (put : Put). put.number)
    (cond (is_due lag rounds d) (d ∷ filter (is_due lag rounds) others)
    (filter (is_due lag rounds) others))
    ≡ cond m [] (d.number ∷ []) ++ map (λ (put : Put). put.number)
    (filter (is_due lag rounds) others)
due-here lag rounds d others true marked timely within =
    ap (λ (b : Bool). map (λ (put : Put). put.number)
    (cond b (d ∷ filter (is_due lag rounds) others) (filter (is_due lag rounds) others)))
    (marked-not-due lag rounds d marked)
due-here lag rounds d others false marked timely within =
    let e : is_due lag rounds d ≡ true =
    ap (λ (b : Bool). not b && nat_le (d.at + lag) rounds) marked
    ∙ le-true (d.at + lag) rounds (omega arith) in
    ap (λ (b : Bool). map (λ (put : Put). put.number)
    (cond b (d ∷ filter (is_due lag rounds) others) (filter (is_due lag rounds) others))) e

-- frames that came too late are not due, and neither is what stands behind them
le-false : (a b : ℕ) → b < a → nat_le a b ≡ false
le-false a b lt = grind arith

late-not-due : (lag rounds : ℕ) (p : Put) → rounds - p.at < lag → p.at ≤ rounds
    → is_due lag rounds p ≡ false
late-not-due lag rounds p late le = late-by p.marked where
  late-by : (m : Bool) → (not m && nat_le (p.at + lag) rounds) ≡ false
  late-by true = refl
  late-by false = le-false (p.at + lag) rounds (omega arith)

pub due-none : (lag rounds at : ℕ) (frames : List Put) → rounds - at < lag → CameFrom at frames
    → AreInOrder rounds frames → due_of lag rounds frames ≡ []
due-none lag rounds at [] late came ordered = refl
due-none lag rounds at (p ∷ others) late came ordered =
    let le : at ≤ p.at = came.0 in
    let within : p.at ≤ rounds = ordered.0 in
    ap (λ (b : Bool). map (λ (put : Put). put.number)
    (cond b (p ∷ filter (is_due lag rounds) others) (filter (is_due lag rounds) others)))
    (late-not-due lag rounds p (omega arith) within)
    ∙ due-none lag rounds at others late came.1 ordered.2

-- the one that stands at a place, and those behind it
at-place : (i : ℕ) (frames : List Put) (d : Put) → d ≡ get_or frames i d → i < length frames
    → drop i frames ≡ d ∷ drop (i + 1) frames
at-place i frames d is lt = rw (add-one, drop-cons frames i d)
    (ap (λ (p : Put). p ∷ drop (suc i) frames) (sym is))

-- what is due from a place on, where that place came too late
pub due-late : (lag rounds i : ℕ) (frames : List Put) (d : Put) → d ≡ get_or frames i d
    → i < length frames → rounds - d.at < lag
    → AreInOrder rounds frames → due_of lag rounds (drop i frames) ≡ []
due-late lag rounds i frames d is lt late ordered =
    let here = at-place i frames d is lt in
    let there : AreInOrder rounds (d ∷ drop (i + 1) frames) =
    subst (λ (l : List Put). AreInOrder rounds l) here (order-drop rounds i frames ordered) in
    ap (λ (l : List Put). due_of lag rounds l) here
    ∙ due-none lag rounds d.at (d ∷ drop (i + 1) frames) late (omega arith, there.1) there

-- what is due from a place on, where that place came in time
pub due-next : (lag rounds i : ℕ) (frames : List Put) (d : Put) → d ≡ get_or frames i d
    → i < length frames → lag ≤ rounds - d.at
    → AreInOrder rounds frames → due_of lag rounds (drop i frames)
    ≡ cond d.marked [] (d.number ∷ []) ++ due_of lag rounds (drop (i + 1) frames)
due-next lag rounds i frames d is lt timely ordered =
    let here = at-place i frames d is lt in
    let there : AreInOrder rounds (d ∷ drop (i + 1) frames) =
    subst (λ (l : List Put). AreInOrder rounds l) here (order-drop rounds i frames ordered) in
    ap (λ (l : List Put). due_of lag rounds l) here
    ∙ due-here lag rounds d (drop (i + 1) frames) d.marked refl timely there.0

-- nothing is due behind the end
pub due-past : (lag rounds i : ℕ) (frames : List Put) → length frames ≤ i
    → due_of lag rounds (drop i frames) ≡ []
due-past lag rounds zero [] le = refl
due-past lag rounds (suc i) [] le = refl
due-past lag rounds zero (p ∷ others) le = absurd (omega arith)
due-past lag rounds (suc i) (p ∷ others) le = due-past lag rounds i others (omega arith)
