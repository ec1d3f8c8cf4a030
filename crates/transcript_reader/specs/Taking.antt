-- Who takes the facts of a transcript (this profile's own rule).
use Rattle.std.specs.Prelude.{ℕ, ◌⊎◌, List, [], ◌∷◌, ◌++◌, Result, Ok, Err}
use Rattle.lan_core.specs.declared.fact.Fact.{Fact}
use Rattle.text_lines.specs.Moments.{Moment}
use Rattle.transcript_reader.specs.Facts.{Known}
use Rattle.transcript_reader.specs.declared.take_error.TakeError.{TakeError}
use Rattle.transcript_reader.specs.declared.take_error.TakeError.TheVariants.{Refused, Failed, Memory}

-- by which rule lines are taken: which facts are free behind others, and why a line is to be refused behind
-- lines from which this is known, and that told these facts
pub record Rule (F : Type 0) : Type 1 where
  pub Free : List Fact → Fact → Type 0
  pub Denies : Known → List Fact → List ℕ → F → Type 0

-- what holds of a taker and its outlet, where these facts were taken since a first moment; where they were
-- taken, the last of them perhaps in part, and no memory was left; and where the outlet failed at the last
pub record Courses (T K : Type 0) : Type 1 where
  pub Took : Moment T K → List Fact → Moment T K → Type 0
  pub Broke : Moment T K → List Fact → Moment T K → Type 0
  pub Cut : Moment T K → List Fact → Moment T K → Type 0

-- What a call did with a fact that came behind others: it is free, and counts from now on; or it is refused,
-- and nothing changed; or memory ran out, or the outlet failed.
abbrev pub TakesFact : {F T K : Type 0} → Rule F → (List Fact → Fact → F → Type 0) → Courses T K → Moment T K
    → List Fact → Fact → Moment T K → Result (Unit {0}) (TakeError F) → Type 0
TakesFact rule Refuses courses first facts fact now (Ok done) =
    rule.Free facts fact × courses.Took first (facts ++ fact ∷ []) now
TakesFact rule Refuses courses first facts fact now (Err (Refused why)) =
    Refuses facts fact why × courses.Took first facts now
TakesFact rule Refuses courses first facts fact now (Err Failed) =
    rule.Free facts fact × courses.Cut first (facts ++ fact ∷ []) now
TakesFact rule Refuses courses first facts fact now (Err Memory) =
    courses.Broke first facts now ⊎ (rule.Free facts fact × courses.Broke first (facts ++ fact ∷ []) now)
