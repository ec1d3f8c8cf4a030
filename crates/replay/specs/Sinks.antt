-- What a sink holds after texts were written to it, each by one call, and how that fails.
use Rattle.std.specs.Prelude.{◌≡◌, ◌⊎◌, ℕ, ◌≤◌, ◌-◌, List, [], ◌∷◌, ◌++◌, length, take, Option}
use Rattle.std.specs.List.{flat_map}
use Rattle.lan_base.specs.Faults.{Rose}
use Rattle.lan_base.specs.Told.{after}
use Rattle.lan_base.specs.declared.sink.Unwritten.{Unwritten}
use Rattle.lan_base.specs.declared.sink.Unwritten.TheVariants.{Failed, Memory}

-- a sink at a moment: what it holds, and its count of faults
pub record Sunk : Type 0 where
  pub held : Option (List ℕ)
  pub faults : ℕ

abbrev pub sunk : Option (List ℕ) → ℕ → Sunk
sunk held faults = record { held = held; faults = faults }

-- texts behind one another
abbrev pub joined : List (List ℕ) → List ℕ
joined texts = flat_map (λ text. text) texts

-- these texts were written, each of them whole; where there are none, nothing changed
abbrev pub Wrote : List (List ℕ) → Sunk → Sunk → Type 0
Wrote [] old new = new ≡ old
Wrote (text ∷ later) old new =
    (new.held ≡ after old.held (joined (text ∷ later))) × (old.faults ≤ new.faults)

-- These texts were written up to one of which the sink didn't take all, but so many octets; nothing
-- behind it was.
pub record BrokeOff (texts : List (List ℕ)) (old new : Sunk) : Type 0 where
  pub whole : List (List ℕ)
  pub broken : List ℕ
  pub later : List (List ℕ)
  pub parts : whole ++ broken ∷ later ≡ texts
  pub count : ℕ
  pub short : count ≤ length broken - 1
  pub held : new.held ≡ after old.held (joined whole ++ take count broken)
  pub counts : old.faults ≤ new.faults

-- all of these texts were written, or they were up to a part of one
abbrev pub WroteSome : List (List ℕ) → Sunk → Sunk → Type 0
WroteSome texts old new = Wrote texts old new ⊎ BrokeOff texts old new

-- these texts were not all written, for this reason
abbrev pub Fails : List (List ℕ) → Sunk → Sunk → Unwritten → Type 0
Fails texts old new Failed = Rose old.faults new.faults × BrokeOff texts old new
Fails texts old new Memory = BrokeOff texts old new
