-- More names at the end change nothing of the line of a fact.
use Rattle.std.proofs.Common.{◌≡◌, ◌<◌, ℕ, zero, suc, List, [], ◌∷◌, ◌++◌, length, map, get_or, refl, ap, arith}
use Rattle.std.proofs.lemmas.List.{length-append}
use Rattle.lan_core.specs.declared.fact.Fact.{Fact}
use Rattle.transcript.specs.Words.{Word, text, station, number, array, octets, words, spelled, Fits}
use Rattle.transcript.specs.Rendering.{line, joined, AllFit, IsFact}

got-more : (names more : List (List ℕ)) (n : ℕ) → n < length names
    → get_or (names ++ more) n [] ≡ get_or names n []
got-more [] more n less = absurd (omega (arith, less))
got-more (name ∷ names) more zero less = refl
got-more (name ∷ names) more (suc n) less = got-more names more n (omega (arith, less))

fits-more : (names more : List (List ℕ)) (word : Word) → Fits names word
    → Fits (names ++ more) word × (spelled (names ++ more) word ≡ spelled names word)
fits-more names more (text letters) fit = (fit, refl)
fits-more names more (station place) fit =
    let count = length-append names more in let less = fit.0 in
    ((omega (arith, count, less), fit.1), got-more names more place fit.0)
fits-more names more (number bits n) fit = (fit, refl)
fits-more names more (array count xs) fit = (fit, refl)
fits-more names more (octets xs) fit = (fit, refl)

all-more : (names more : List (List ℕ)) (ws : List Word) → AllFit names ws
    → AllFit (names ++ more) ws × (map (spelled (names ++ more)) ws ≡ map (spelled names) ws)
all-more names more [] fit = (tt, refl)
all-more names more (word ∷ ws) fit =
    let here = fits-more names more word fit.0 in
    let later = all-more names more ws fit.1 in
    ((here.0, later.0), λ t. here.1 t ∷ later.1 t)

pub names-grow : (names more : List (List ℕ)) (fact : Fact) → IsFact names fact
    → IsFact (names ++ more) fact × (line (names ++ more) fact ≡ line names fact)
unfolding line
names-grow names more fact fit =
    let all = all-more names more (words fact) fit in (all.0, ap joined all.1)
