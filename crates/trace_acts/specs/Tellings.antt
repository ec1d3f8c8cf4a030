-- What is told of what acts show, and to whom.
use Rattle.std.specs.Prelude.{◌≡◌, List, [], ◌∷◌, ◌++◌}
use Rattle.lan_base.specs.declared.sink.Unwritten.{Unwritten}
use Rattle.trace_acts.specs.Acts.{Course, World, world_of}

-- a value that performs acts, and what is told, at a moment of a call
pub record Moment (V K : Type 0) : Type 0 where
  pub value : V
  pub outlet : K

abbrev pub moment : {V K : Type 0} → V → K → Moment V K
moment value outlet = record { value = value; outlet = outlet }

-- a value stands for a tidy world
pub record IsReached {W V : Type 0} (IsTidy : W → Type 0) (Stands : W → V → Type 0) (w : W)
    (now : V) : Type 0 where
  pub stands : Stands w now
  pub tidy : IsTidy w

-- reports were told, one after the other
abbrev pub AreTold : {K P : Type 0} → (K → P → K → Type 0) → K → List P → K → Type 0
AreTold Took old [] new = old ≡ new
AreTold {K = K} Took old (report ∷ later) new =
    (now : K) × Took old report now × AreTold Took now later new

-- reports were told up to one, at which the recorder broke
pub record WereToldUpTo {K P : Type 0} (Took : K → P → K → Type 0)
    (Broke : K → P → K → Unwritten → Type 0) (all : List P) (old new : K) (why : Unwritten) : Type 0
  where
    pub told : List P
    pub last : P
    pub behind : List P
    pub parts : all ≡ told ++ last ∷ behind
    pub before : K
    pub by_one : AreTold Took old told before
    pub breaks : Broke before last new why

-- what events showed from one world up to another was told
pub record WasTold {R C K P : Type 0} (reports : R → List P) (Took : K → P → K → Type 0)
    (w v : World R C) (old new : K) : Type 0 where
  pub told : List P
  pub since : reports v.run ≡ reports w.run ++ told
  pub by_one : AreTold Took old told new

-- reports begin with others
pub record Begins {P : Type 0} (front all : List P) : Type 0 where
  pub more : List P
  pub parts : front ++ more ≡ all

-- all that a course reports, also before an act
abbrev pub reported : {R C P : Type 0} → (R → List P) → Course (World R C) → List P
reported reports out = reports (world_of out).run
