-- What can be performed, and what performing it leaves, for one group and for two (this profile's own
-- rule). A world is a run `R` and what is kept beside it, `C`. What can happen in it is an event `E`;
-- what asks for more than a limit leaves is an excess `X`; and what an act can be performed beside is
-- a `B`.
use Rattle.std.specs.Prelude.{ℕ, ◌+◌, Bool, if◌then◌else◌, zero, suc, List, [], ◌∷◌}
use Rattle.std.specs.Prelude.{min, None, Option, Some}
use Rattle.lan_core.specs.declared.stop.Which.{Which}
use Rattle.trace_acts.specs.declared.halt.Halt.{Halt}
use Rattle.trace_acts.specs.declared.halt.Halt.TheVariants as halts
use Rattle.trace_acts.specs.declared.halt.Kind.{Kind}

-- what the lines so far have made
pub record World (R C : Type 0) : Type 0 where
  pub run : R
  pub kept : C

-- nothing; the line is refused; it asks for more than a limit leaves; an event happens; what is kept
-- changes; one act and then another; an act that depends on the world it begins in; or an act beside
-- which something else goes on
pub data Act (R C E X B : Type 0) : Type 0 where
  nothing : Act R C E X B
  refuse : Kind → Act R C E X B
  exceed : X → Act R C E X B
  happen : E → Act R C E X B
  change : (C → C) → Act R C E X B
  seq : Act R C E X B → Act R C E X B → Act R C E X B
  look : (World R C → Act R C E X B) → Act R C E X B
  race : B → Act R C E X B → Act R C E X B

-- what an act leaves: the world, also where it stopped before its end
pub data Course (W : Type 0) : Type 0 where
  Goes : W → Course W
  Stops : W → Halt → Course W

-- What differs: the number of the line; the limit that is passed; what an event leaves; where an act
-- begins beside something; and what both leave, by what the act left.
pub record Rules (R C E X B : Type 0) : Type 0 where
  pub line : C → ℕ
  pub limit : X → Which
  pub happens : World R C → E → Course (World R C)
  pub begins : B → World R C → World R C
  pub beside : B → World R C → Course (World R C) → Course (World R C)

abbrev pub and_then : {W : Type 0} → Course W → (W → Course W) → Course W
and_then (Goes w) later = later w
and_then (Stops w halt) later = Stops w halt

abbrev pub world_of : {W : Type 0} → Course W → W
world_of (Goes w) = w
world_of (Stops w halt) = w

abbrev pub perform : {R C E X B : Type 0} → Rules R C E X B → Act R C E X B → World R C
    → Course (World R C)
perform rules nothing w = Goes w
perform rules (refuse kind) w = Stops w (halts.Trace (rules.line w.kept) kind)
perform rules (exceed excess) w = Stops w (halts.Limit (rules.limit excess))
perform rules (happen event) w = rules.happens w event
perform rules (change f) w = Goes (record w { kept = f w.kept })
perform rules (seq first then_) w = and_then (perform rules first w) (λ v. perform rules then_ v)
perform rules (look act) w = perform rules (act w) w
perform rules (race others act) w =
    rules.beside others w (perform rules act (rules.begins others w))

-- ---- many acts

-- one for each item
abbrev pub each : {R C E X B A : Type 0} → (A → Act R C E X B) → List A → Act R C E X B
each act [] = nothing
each act (x ∷ xs) = seq (act x) (each act xs)

-- one for each of so many numbers, from the first on
abbrev pub span : {R C E X B : Type 0} → (ℕ → Act R C E X B) → ℕ → ℕ → Act R C E X B
span act first zero = nothing
span act first (suc count) = seq (act first) (span act (suc first) count)

-- one act, so many times
abbrev pub times : {R C E X B : Type 0} → ℕ → Act R C E X B → Act R C E X B
times count act = span (λ _. act) 0 count

-- skipped where the test holds
abbrev pub unless : {R C E X B : Type 0} → Bool → Act R C E X B → Act R C E X B
unless skipped act = if skipped then nothing else act

-- a refused line performs nothing
abbrev pub unless_refused : {R C E X B : Type 0} → Option Kind → Act R C E X B → Act R C E X B
unless_refused None act = act
unless_refused (Some kind) act = refuse kind

-- the number of the line behind that of a number; the greatest number of 32 bits is that of all lines
-- from there on
abbrev pub line_after : ℕ → ℕ
line_after line = min (line + 1) 4294967295

-- ---- what can be performed

abbrev pub IsGoing : {W : Type 0} → Course W → (W → Type 0) → Type 0
IsGoing (Goes w) Holds = Holds w
IsGoing (Stops w halt) Holds = Unit {0}

-- what acts ask: which worlds are tidy, which events may come, and where what goes on beside others
-- may come to from where it began
pub record Demands (R C E X B : Type 0) : Type 1 where
  pub IsTidy : World R C → Type 0
  pub MayCome : World R C → E → Type 0
  pub MayEnd : B → World R C → World R C → Type 0

-- an act can be performed in a world
abbrev pub Comes : {R C E X B : Type 0} → Rules R C E X B → Demands R C E X B → Act R C E X B
    → World R C → Type 0
Comes rules asks (happen event) w = asks.MayCome w event
Comes rules asks (change f) w = asks.IsTidy (record w { kept = f w.kept })
Comes rules asks (seq first later) w = Comes rules asks first w
    × IsGoing (perform rules first w) (λ v. asks.IsTidy v → Comes rules asks later v)
Comes rules asks (look act) w = Comes rules asks (act w) w
Comes rules asks (race others act) w =
    let v = rules.begins others w in
    asks.IsTidy v × Comes rules asks act v × asks.MayEnd others v (world_of (perform rules act v))
Comes rules asks act w = Unit {0}
