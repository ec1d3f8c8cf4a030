-- The lines of one group are taken as they are read.
use Rattle.std.proofs.Common.{◌≡◌, inr, ℕ, List, [], ◌∷◌, ◌++◌, None, refl}
use Rattle.lan_base.specs.declared.name.Name.{Name}
use Rattle.lan_core.specs.declared.fact.Fact.{Fact}
use Rattle.transcript.specs.Naming.{Reads}
use Rattle.transcript_reader.specs.Facts.{IsOfOneGroup, Known, Tells, in_one_group}
use Rattle.transcript_check.specs.Standing.{AreTaken, refusal}

-- lines of facts are taken one after another, from these names and facts to those
abbrev pub AreTakenAlone : List Name → List Fact → List (List ℕ) → List Name → List Fact → Type 0
AreTakenAlone names facts [] names_then facts_then = (names ≡ names_then) × (facts ≡ facts_then)
AreTakenAlone names facts (line ∷ lines) names_then facts_then =
    (after : List Name) × (fact : Fact) × Reads names line after fact
    × (refusal facts fact ≡ None) × AreTakenAlone after (facts ++ fact ∷ []) lines names_then facts_then

-- what the law of lines of one group gives, as premise
abbrev pub TellsAlone : Type 0
TellsAlone = (known : Known) (line : List ℕ) (after : List Name) (fact : Fact) → IsOfOneGroup known.form
    → Reads known.names.first line after fact → Tells known line (in_one_group after known.names.second) fact

pub taken-alone : TellsAlone → (known : Known) (facts : List Fact) (lines : List (List ℕ)) (names : List Name)
    (all : List Fact) → IsOfOneGroup known.form → AreTakenAlone known.names.first facts lines names all
    → (then : Known) × (then.names.first ≡ names) × AreTaken known facts lines then all
taken-alone law known facts [] names all is t = (known, t.0, (refl, t.1))
taken-alone law known facts (line ∷ lines) names all is t =
    let next = in_one_group t.0 known.names.second in
    let rest = taken-alone law next (facts ++ t.1 ∷ []) lines names all (inr refl) t.4 in
    (rest.0, rest.1, (next, t.1, law known line t.0 t.1 is t.2, t.3, rest.2))
