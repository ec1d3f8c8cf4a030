-- Which pair of things that are told, one by one and each with a number, is the least that breaks a
-- rule.
use Rattle.std.specs.Prelude.{ℕ, ◌≡◌, ◌≢◌, ◌<◌, ◌≤◌, Bool, false, Option, Some, None}

-- what is told under a number, if something is: of this key that
abbrev pub Noted : Type 0 → Type 0 → Type 0
Noted K V = ℕ → Option (K × V)

-- two numbers, the less first, under which one key is told of what does not agree
pub record Breaks (K V : Type 0) (agree : V → V → Bool) (noted : Noted K V) (earlier later : ℕ) :
    Type 0 where
  pub key : K
  pub one : V
  pub other : V
  pub order : earlier < later
  pub first : noted earlier ≡ Some (key, one)
  pub second : noted later ≡ Some (key, other)
  pub apart : agree one other ≡ false

-- this pair breaks, none has a less later number, and none with this later number a less earlier
pub record IsLeast (Broken : ℕ → ℕ → Type 0) (earlier later : ℕ) : Type 0 where
  pub broken : Broken earlier later
  pub least : (a b : ℕ) → Broken a b → later ≤ b
  pub first : (a : ℕ) → Broken a later → earlier ≤ a

-- no pair breaks, or this is the least one that does
abbrev pub IsJudged : (ℕ → ℕ → Type 0) → Option (ℕ × ℕ) → Type 0
IsJudged Broken None = (a b : ℕ) → Broken a b → ⊥
IsJudged Broken (Some pair) = IsLeast Broken pair.0 pair.1

-- what is found under a key is what was told of it first
abbrev pub IsFound : (K V : Type 0) → Noted K V → K → Option (ℕ × V) → Type 0
IsFound K V noted key None = (m : ℕ) (v : V) → noted m ≡ Some (key, v) → ⊥
IsFound K V noted key (Some nv) =
    (noted nv.0 ≡ Some (key, nv.1)) × ((m : ℕ) (w : V) → noted m ≡ Some (key, w) → nv.0 ≤ m)

-- one number more, behind all under which something was told, and what is told under it
pub record IsOneMore (K V : Type 0) (before now : Noted K V) (number : ℕ) (new : Option (K × V)) :
    Type 0 where
  pub here : now number ≡ new
  pub kept : (m : ℕ) → m ≢ number → now m ≡ before m
  pub within : (m : ℕ) (kv : K × V) → before m ≡ Some kv → m < number

-- a front tells what the whole tells up to a number, and nothing behind it
pub record IsFront (K V : Type 0) (end : ℕ) (front whole : Noted K V) : Type 0 where
  pub same : (m : ℕ) → m ≤ end → whole m ≡ front m
  pub ends : (m : ℕ) (kv : K × V) → front m ≡ Some kv → m ≤ end
