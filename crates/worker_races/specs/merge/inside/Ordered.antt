-- What each prefix of a merged list says, and when the list is in order by that alone.
use Rattle.std.specs.Prelude.{◌≡◌, ◌⊎◌, ◌<◌, ◌≤◌, ℕ, suc, max, ◌==◌, Bool, true, false, not, ◌&&◌}
use Rattle.std.specs.Prelude.{if◌then◌else◌, List, [], ◌∷◌}
use Rattle.std.specs.List.{AllByRecursion}
use Rattle.worker_races.specs.merge.Places.{Move, Follows}
use Rattle.worker_races.specs.merge.Marks.{Mark, Control, Claim}
use Rattle.worker_races.specs.merge.Merged.{Before}
use Rattle.worker_races.specs.merge.inside.Moments.{AllGrow, IsAt}

abbrev pub is_control : Mark → Bool
is_control (Control n m) = true
is_control (Claim x) = false

abbrev pub is_of_log : ℕ → Mark → Bool
is_of_log u (Control n m) = false
is_of_log u (Claim x) = x.log == u

-- ---- prefixes, the newest mark first

-- what transmits at s, where t did before
unfoldable pub now : ℕ → ℕ → List Mark → ℕ
now s t [] = t
now s t (Control n m ∷ past) = if m.station == s then m.after else now s t past
now s t (Claim x ∷ past) = now s t past

-- the next number of s under e, where it was r before
unfoldable pub next : ℕ → ℕ → ℕ → List Mark → ℕ
next s e r [] = r
next s e r (Control n m ∷ past) =
    if (m.station == s) && (m.before == e) then max m.shown (next s e r past) else next s e r past
next s e r (Claim x ∷ past) =
    if not x.refused && ((x.station == s) && (x.epoch == e))
    then max (suc x.number) (next s e r past) else next s e r past

-- the next number of s under e at the newest event of s that is no claim: where none is, d
unfoldable pub settled : ℕ → ℕ → ℕ → ℕ → List Mark → ℕ
settled s e r d [] = d
settled s e r d (Control n m ∷ past) =
    if m.station == s then next s e r (Control n m ∷ past) else settled s e r d past
settled s e r d (Claim x ∷ past) = settled s e r d past

-- the next event of s that is no claim drops the key that transmits and begins another
unfoldable pub replaced : ℕ → List Mark → Type 0
replaced s [] = ⊥
replaced s (Control n m ∷ zs) =
    ((m.station ≡ s) × (m.gap ≡ true)) ⊎ ((m.station ≡ s → ⊥) × replaced s zs)
replaced s (Claim x ∷ zs) = replaced s zs

-- a mark between those before it and those after it
abbrev pub InOrder : Before → List Mark → Mark → List Mark → Type 0
InOrder b past (Control n m) zs =
    (m.before ≡ now m.station (b.standing m.station).transmitting past)
    × (0 < m.shown → m.after ≡ m.before
    → next m.station m.before (b.next_of m.station m.before) past ≤ m.shown)
    × (0 < m.shown → (m.after ≡ m.before → ⊥)
    → settled m.station m.before (b.next_of m.station m.before)
    (b.settled_of m.station m.before) past ≤ m.shown)
InOrder b past (Claim x) zs =
    (x.refused ≡ false → (now x.station (b.standing x.station).transmitting past ≡ x.epoch)
    × (next x.station x.epoch (b.next_of x.station x.epoch) past ≤ x.number))
    × (x.refused ≡ true
    → (now x.station (b.standing x.station).transmitting past ≡ 0) ⊎ replaced x.station zs)

abbrev pub AreInOrder : Before → List Mark → List Mark → Type 0
AreInOrder b past [] = Unit {0}
AreInOrder b past (z ∷ zs) = InOrder b past z zs × AreInOrder b (z ∷ past) zs

-- ---- premises

-- the steps are those of a legal run after what was before
pub record IsControl (b : Before) (ms : List Move) : Type 0 where
  pub follows : (s : ℕ) → Follows s (b.standing s) ms
  pub pointed : (s : ℕ) → (b.standing s).transmitting ≤ (b.standing s).pointed
  pub grow : AllGrow ms
  pub keeps : AllByRecursion (λ m. 0 < m.shown → m.after ≡ m.before
      → b.next_of m.station m.before ≤ m.shown) ms
  pub first : AllByRecursion (λ m. 0 < m.shown → b.settled_of m.station m.before ≤ m.shown) ms
  pub later : (i j : ℕ) (u m : Move) → i < j → IsAt ms i u → IsAt ms j m
      → u.station ≡ m.station → 0 < m.shown → b.next_of m.station m.before ≤ m.shown
