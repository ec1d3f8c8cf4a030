-- The text of facts.
use Rattle.std.specs.Prelude.{ℕ, ◌≡◌, List, [], ◌∷◌, ◌++◌, map}
use Rattle.std.specs.List.{All, flat_map}
use Rattle.lan_base.specs.Name.{IsName}
use Rattle.lan_base.specs.Differing.{AllDiffer}
use Rattle.lan_core.specs.declared.fact.Fact.{Fact}
use Rattle.lan_core.specs.declared.fact.Fact.TheVariants.{Framed, Arrived}
use Rattle.trace_text.specs.Words.{spaced}
use Rattle.transcript.specs.Words.{Word, words, spelled, Fits}

-- words, one space between each two
abbrev pub joined : List (List ℕ) → List ℕ
joined [] = []
joined (word ∷ others) = word ++ spaced others

-- the line of a fact, without its line feed, under the names of the stations by place
unfoldable pub line : List (List ℕ) → Fact → List ℕ
line names fact = joined (map (spelled names) (words fact))

-- the line of a fact, with its line feed
abbrev pub rendered : List (List ℕ) → Fact → List ℕ
rendered names fact = line names fact ++ 10 ∷ []

-- the text of facts, the oldest first
abbrev pub transcript : List (List ℕ) → List Fact → List ℕ
transcript names facts = flat_map (rendered names) facts

-- each of these words fits
abbrev pub AllFit : List (List ℕ) → List Word → Type 0
AllFit names [] = Unit {0}
AllFit names (word ∷ others) = Fits names word × AllFit names others

-- each number of a fact is inside its field's type, each array has its length, and its station is
-- one of those that are named
abbrev pub IsFact : List (List ℕ) → Fact → Type 0
IsFact names fact = AllFit names (words fact)

-- a line, without its line feed, is that of this fact
abbrev pub Says : List (List ℕ) → List ℕ → Fact → Type 0
Says names octets fact = IsFact names fact × (line names fact ≡ octets)

-- a fact of a frame that was sent or came: no line of another fact holds octets of any count
abbrev pub IsOfFrame : Fact → Type 0
IsOfFrame (Framed number s sec octets) = Unit {0}
IsOfFrame (Arrived number s arrival) = Unit {0}
IsOfFrame fact = ⊥

-- names of stations, each of another
abbrev pub AreNames : List (List ℕ) → Type 0
AreNames names = All IsName names × AllDiffer names
