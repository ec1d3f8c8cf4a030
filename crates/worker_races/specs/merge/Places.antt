-- Steps of control, attempts of workers, and the place of an attempt among the steps.
use Rattle.std.specs.Prelude.{◌≡◌, ◌⊎◌, ◌<◌, ℕ, suc, ◌==◌, nat_lt, Bool, true, false, not}
use Rattle.std.specs.Prelude.{if◌then◌else◌}
use Rattle.std.specs.Prelude.{◌&&◌, ◌||◌, List, [], ◌∷◌}
use Rattle.lan_base.specs.declared.association_number.AssociationNumber.{AssociationNumber}
use Rattle.lan_core.specs.Run.{Happening}

-- A step of control, as the places see it: what happened, at which station, the epochs of the keys
-- that transmit there before and after it, 0 for none, the packet number that it showed, 0 for
-- none, and whether nothing was present for a while within it.
pub record Move : Type 0 where
  pub x : Happening
  pub station : ℕ
  pub before : ℕ
  pub after : ℕ
  pub shown : ℕ
  pub gap : Bool

-- An attempt of a worker to claim a packet number: it got a number of an epoch under an association
-- number; or it was refused, and then its epoch is the last one that was pointed at, and its number
-- is 0. And the place of its log, from 0.
pub record Attempt : Type 0 where
  pub station : ℕ
  pub an : AssociationNumber
  pub epoch : ℕ
  pub refused : Bool
  pub number : ℕ
  pub log : ℕ

-- whether a step ends the time in which an attempt can stand: of a claim, the first step after
-- which its key transmits no more, or that showed a greater number; of a refusal, the first after
-- which a later epoch transmits
unfoldable pub ends : Attempt → Move → Bool
ends x m =
    (m.station == x.station)
    && (if x.refused then nat_lt x.epoch m.after
    else (m.before == x.epoch) && (nat_lt x.number m.shown || not (m.after == x.epoch)))

-- an attempt stands before the first step that ends its time, or behind the last one
unfoldable pub place : Attempt → List Move → ℕ
place x [] = 0
place x (m ∷ ms) = if ends x m then 0 else suc (place x ms)

-- ---- how the steps of one station go on

-- what stands at a station: the epoch of the key that transmits, and the last one pointed at, 0 for
-- none
pub record Standing : Type 0 where
  pub transmitting : ℕ
  pub pointed : ℕ

-- one step of a station keeps the key, drops it, or begins a later one
abbrev pub Moves : Standing → Move → Type 0
Moves now m =
    ((m.after ≡ now.transmitting) × (m.gap ≡ false)) ⊎ (((m.after ≡ 0) × (m.gap ≡ false))
    ⊎ ((now.pointed < m.after) × (m.gap ≡ true → 0 < now.transmitting)))

-- the last epoch pointed at after a step
abbrev pub last_of : ℕ → Move → ℕ
last_of top m = if nat_lt top m.after then m.after else top

-- what stands at its station after a step
abbrev pub standing_after : Standing → Move → Standing
standing_after now m = record { transmitting = m.after; pointed = last_of now.pointed m }

-- the steps of s from now on
abbrev pub Follows : ℕ → Standing → List Move → Type 0
Follows s now [] = Unit {0}
Follows s now (m ∷ ms) =
    ((m.station ≡ s) × (m.before ≡ now.transmitting) × Moves now m
    × Follows s (standing_after now m) ms)
    ⊎ ((m.station ≡ s → ⊥) × Follows s now ms)

abbrev pub Begun : ℕ → ℕ → List Move → Type 0
Begun s e [] = ⊥
Begun s e (m ∷ ms) = ((m.station ≡ s) × (m.after ≡ e)) ⊎ Begun s e ms

-- e transmits at s now, or after a later step
abbrev pub Lives : ℕ → Standing → ℕ → List Move → Type 0
Lives s now e ms = (now.transmitting ≡ e) ⊎ Begun s e ms

-- at some moment from now on nothing is present at s, and a was pointed at last
abbrev pub Noted : ℕ → Standing → ℕ → List Move → Type 0
Noted s now a [] = (now.transmitting ≡ 0) × (now.pointed ≡ a)
Noted s now a (m ∷ ms) =
    ((now.transmitting ≡ 0) × (now.pointed ≡ a))
    ⊎ (((m.station ≡ s) × (m.gap ≡ true) × (now.pointed ≡ a))
    ⊎ (((m.station ≡ s) × Noted s (standing_after now m) a ms)
    ⊎ ((m.station ≡ s → ⊥) × Noted s now a ms)))
