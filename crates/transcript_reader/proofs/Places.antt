-- Where the station of a fact has its place.
use Rattle.std.proofs.Common.{◌≡◌, ◌∙◌, ◌<◌, ℕ, Bool, true, false, List, [], length, refl, sym, ap, arith}
use Rattle.std.specs.Prelude.{◌==◌, ◌&&◌, ◌||◌, get_or}
use Rattle.std.proofs.lemmas.Bool.{eq-eqb}
use Rattle.lan_base.specs.declared.address.Mi.{Mi}
use Rattle.lan_core.specs.declared.fact.Fact.{Fact}
use Rattle.lan_core.specs.declared.fact.Fact.TheVariants as shows
use Rattle.lan_core.specs.Run.{place}
use Rattle.transcript.specs.Rendering.{IsFact, IsOfFrame, Says, line}
use Rattle.transcript_reader.specs.declared.group.Group.{Group}
use Rattle.transcript_reader.specs.declared.group.Group.TheVariants.{First, Second}
use Rattle.transcript_reader.specs.Forms.{moved, placed}
use Rattle.transcript_reader.specs.Facts.{IsLife, IsLineIn, unnamed}

-- its name is one of those that are known
pub place-named : (names : List (List ℕ)) (fact : Fact) → IsFact names fact → place fact < length names
place-named names (shows.Framed k s sec octets) fit = fit.1.1.0.0
place-named names (shows.HeardMka k s verdict) fit = fit.1.1.0.0
place-named names (shows.Arrived k s arrival) fit = fit.1.1.0.0
place-named names _ fit = fit.1.0.0

-- what is of a frame, or begins a life, does so in either group
frame-moved : (fact : Fact) → IsOfFrame fact → IsOfFrame (moved fact)
frame-moved (shows.Framed k s sec octets) is = tt
frame-moved (shows.Arrived k s arrival) is = tt
frame-moved _ is = absurd is

pub frame-placed : (g : Group) (fact : Fact) → IsOfFrame fact → IsOfFrame (placed g fact)
frame-placed First fact is = is
frame-placed Second fact is = frame-moved fact is

life-moved : (fact : Fact) → IsLife fact → IsLife (moved fact)
life-moved (shows.Life s mi) is = tt
life-moved _ is = absurd is

pub life-placed : (g : Group) (fact : Fact) → IsLife fact → IsLife (placed g fact)
life-placed First fact is = is
life-placed Second fact is = life-moved fact is

-- under no names there is no line but those that give one
none-said : (text : List ℕ) (fact : Fact) → Says [] text fact → ⊥
none-said text fact says = let less = place-named [] fact says.0 in absurd (omega (arith, less))

pub none-read : (g : Group) (text : List ℕ) (fact : Fact) → IsLineIn g unnamed text unnamed fact → ⊥
none-read First text fact l = none-said text fact l.0.0
none-read Second text fact l = none-said text fact l.0

-- ---- the same text under other names

-- the letter at a place
abbrev letter : ℕ → List ℕ → ℕ
letter n xs = get_or xs n 0

apart : (a b : ℕ) → a ≡ b → (a == b) ≡ false → ⊥
apart a b e n = cc (sym (eq-eqb a b e) ∙ n)

-- it begins a life there too
pub life-line : (names others : List (List ℕ)) (fact : Fact) (s : ℕ) (mi : Mi)
    → line names fact ≡ line others (shows.Life s mi) → IsLife fact
unfolding line
life-line names others (shows.Life t mj) s mi e = tt
life-line names others other s mi e = absurd (apart (letter 0 (line names other)) 108 (ap (letter 0) e) refl)

-- it begins as the line of a frame that was sent, or came
abbrev is_front : List ℕ → Bool
is_front xs =
    (letter 0 xs == 102) && (letter 1 xs == 114) || (letter 0 xs == 100) && (letter 1 xs == 97)

frame-front : (others : List (List ℕ)) (there : Fact) → IsOfFrame there → is_front (line others there) ≡ true
unfolding line
frame-front others (shows.Framed k s sec octets) is = refl
frame-front others (shows.Arrived k s arrival) is = refl
frame-front others _ is = absurd is

never : (b : Bool) → b ≡ true → b ≡ false → ⊥
never b is none = cc

-- it is that of a frame there too
pub frame-line : (names others : List (List ℕ)) (fact there : Fact) → line names fact ≡ line others there
    → IsOfFrame there → IsOfFrame fact
unfolding line
frame-line names others (shows.Framed k s sec octets) there e is = tt
frame-line names others (shows.Arrived k s arrival) there e is = tt
frame-line names others other there e is =
    absurd (never (is_front (line names other)) (ap is_front e ∙ frame-front others there is) refl)
