-- What asking once did.
use Rattle.std.specs.Prelude.{⊤, ◌≡◌, ◌⊎◌, ℕ, ◌<◌, Bool, true, false, List, [], ◌∷◌, ◌++◌, length, take, drop, Option, Some, None, Result, Ok, Err}
use Rattle.lan_base.specs.declared.source.ReadEnd.{ReadEnd}
use Rattle.lan_base.specs.declared.source.ReadEnd.TheVariants.{Limit, Failed, Memory}
use Rattle.octet_supply.specs.Supplying.{Held}

-- a piece was held, all of it where the limit allows
abbrev pub Holds : Held → List ℕ → Held → Result Bool ReadEnd → Type 0
Holds old piece new (Ok true) =
    (0 < length piece) × (new.past ≡ false → new.octets ≡ old.octets ++ piece)
Holds old piece new (Ok false) = piece ≡ []
Holds old piece new (Err Limit) = ⊤
Holds old piece new (Err Memory) = ⊤
Holds old piece new (Err Failed) = ⊥

-- one read gave a piece that is held; or nothing, at the end; or it failed; or its piece is not held
abbrev pub AsksOnce : {S : Type 0} → (S → Option (List ℕ) → S → Type 0) → Held → Held → S → S
    → Result Bool ReadEnd → Type 0
AsksOnce Gave old new s s_then (Ok true) =
    (piece : List ℕ) × Gave s (Some piece) s_then × Holds old piece new (Ok true)
AsksOnce Gave old new s s_then (Ok false) = Gave s (Some []) s_then
AsksOnce Gave old new s s_then (Err Limit) = (piece : List ℕ) × Gave s (Some piece) s_then
AsksOnce Gave old new s s_then (Err Memory) = (piece : List ℕ) × Gave s (Some piece) s_then
AsksOnce Gave old new s s_then (Err Failed) = Gave s None s_then

-- nothing was asked for, since octets are held, or one past the limit was taken
pub record Rests {S : Type 0} (old new : Held) (s s_then : S) (result : Result Bool ReadEnd) : Type 0 where
  pub source : s_then ≡ s
  pub same : new ≡ old
  pub answer : (result ≡ Ok true) ⊎ (result ≡ Err Limit)

-- once, where none were held
pub record AsksFirst {S : Type 0} (Gave : S → Option (List ℕ) → S → Type 0) (old new : Held) (s s_then : S)
    (result : Result Bool ReadEnd) : Type 0 where
  pub none : old.octets ≡ []
  pub calm : old.past ≡ false
  pub once : AsksOnce Gave old new s s_then result

abbrev pub HasAsked : {S : Type 0} → (S → Option (List ℕ) → S → Type 0) → Held → Held → S → S
    → Result Bool ReadEnd → Type 0
HasAsked Gave old new s s_then result = Rests old new s s_then result ⊎ AsksFirst Gave old new s s_then result

-- the next octet was given out, once there was one; or there is none
abbrev pub NextAsked : {S : Type 0} → (S → Option (List ℕ) → S → Type 0) → Held → Held → S → S
    → Result (Option ℕ) ReadEnd → Type 0
NextAsked Gave old new s s_then (Ok (Some octet)) =
    (middle : Held) × HasAsked Gave old middle s s_then (Ok true) × (take 1 middle.octets ≡ octet ∷ [])
    × (new.octets ≡ drop 1 middle.octets) × (new.past ≡ middle.past)
NextAsked Gave old new s s_then (Ok None) = HasAsked Gave old new s s_then (Ok false)
NextAsked Gave old new s s_then (Err end) = HasAsked Gave old new s s_then (Err end)
