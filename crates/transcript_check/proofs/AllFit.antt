-- Each fact of a run has a line.
use Rattle.std.proofs.Common.{◌<◌, ◌≤◌, ℕ, List, [], ◌∷◌, length, arith}
use Rattle.std.specs.Prelude.{All}
use Rattle.std.proofs.lemmas.List.{length-map}
use Rattle.lan_base.specs.declared.frame.UserFrame.{UserFrame}
use Rattle.lan_core.specs.declared.fact.Fact.{Fact}
use Rattle.lan_core.specs.declared.settings.Settings.{Settings}
use Rattle.lan_core.specs.Run.{Run, Profile, facts_of, place, stations}
use Rattle.lan_core.specs.Legal.{IsStepped}
use Rattle.lan_core.specs.Places.{names, ArePlaced}
use Rattle.lan_core.specs.TypedFacts.{IsTypedFact}
use Rattle.transcript.specs.Rendering.{IsFact}

pub few-stations : (settings : Settings) (users : List UserFrame) (r : Run) → IsStepped settings users r
    → length (stations r) ≤ 16
unfolding stations
few-stations settings users [] stepped = omega arith
few-stations settings users (x ∷ r) stepped = stepped.0.within.stations

pub all-fit : ((ns : List (List ℕ)) (fact : Fact) → IsTypedFact fact → place fact < length ns
    → length ns ≤ 256 → IsFact ns fact)
    → (settings : Settings) (users : List UserFrame) (r : Run) → IsStepped settings users r
    → All IsTypedFact (facts_of r) → ArePlaced r (facts_of r) → All (IsFact (names r)) (facts_of r)
all-fit lines settings users r stepped typed placed = λ k d less.
    let is = typed k d less in
    let at = placed k d less in
    let l = length-map (stations r) (λ (p : Profile). p.name) in
    let few = few-stations settings users r stepped in
    lines (names r) _ is (omega (arith, l, at)) (omega (arith, l, few))
