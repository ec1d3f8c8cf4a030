-- What a supply of octets has taken from a text that a source tells, within a limit, and given out.
use Rattle.std.specs.Prelude.{⊤, ◌≡◌, ◌≢◌, ◌⊎◌, ℕ, ◌+◌, ◌<◌, ◌≤◌, Bool, true, false, List, [], ◌∷◌, ◌++◌, length, take, All, Option, Some, None, Result, Ok, Err}
use Rattle.lan_base.specs.declared.source.ReadEnd.{ReadEnd}
use Rattle.lan_base.specs.declared.source.ReadEnd.TheVariants.{Limit, Failed, Memory}
use Rattle.text_lines.specs.Reading.{most_at_once}
use Rattle.octet_supply.specs.declared.supply.LineEnd.{LineEnd}
use Rattle.octet_supply.specs.declared.supply.LineEnd.TheVariants.{Feed, Most, Source}

-- the octets that are held, how many were given out, how many the limit still allows to be taken, and
-- whether one past it was taken
pub record Held : Type 0 where
  pub octets : List ℕ
  pub given : ℕ
  pub room : ℕ
  pub past : Bool

-- how many octets it gives out at most, with those that it gave out
abbrev pub most_given : Held → ℕ
most_given h = h.given + (length h.octets + h.room)

abbrev pub StandsBy : ℕ → Bool → List ℕ → List ℕ → Held → List ℕ → Type 0
StandsBy limit false text given h rest =
    (text ≡ given ++ (h.octets ++ rest)) × (length given + (length h.octets + h.room) ≡ limit)
StandsBy limit true text given h rest =
    (limit < length text) × (take limit text ≡ given ++ h.octets)

-- of a text these octets were given out, and a source has what was not taken of it: what was taken
-- beyond them is held or lost, and no more than is asked for at once
pub record Stands (limit : ℕ) (text given : List ℕ) (h : Held) (left : Option (List ℕ)) : Type 0
  where
    pub rest : List ℕ
    pub told : left ≡ Some rest
    pub count : h.given ≡ length given
    pub by : StandsBy limit h.past text given h rest
    pub lost : List ℕ
    pub taken : text ≡ given ++ (h.octets ++ (lost ++ rest))
    pub few : length h.octets + length lost ≤ most_at_once

-- a text within the limit was given out whole
pub record IsAtEnd (limit : ℕ) (text given : List ℕ) (left : Option (List ℕ)) : Type 0 where
  pub all : text ≡ given
  pub within : length text ≤ limit
  pub end : left ≡ Some []

-- these octets are those of a text within the limit, which is longer
pub record IsPast (limit : ℕ) (text given : List ℕ) : Type 0 where
  pub longer : limit < length text
  pub front : take limit text ≡ given

-- these octets were taken of a text, within the limit
pub record IsTaken (limit : ℕ) (text given : List ℕ) (left : Option (List ℕ)) : Type 0 where
  pub rest : List ℕ
  pub told : left ≡ Some rest
  pub whole : text ≡ given ++ rest
  pub within : length given ≤ limit

-- Giving out ended behind these octets, for one of two reasons: an octet past the limit was taken, or the
-- source failed. The supply stands there. Where memory was wanting, what was taken may be lost.
abbrev pub StopsAt : ReadEnd → ℕ → List ℕ → List ℕ → Held → Option (List ℕ) → Type 0
StopsAt Limit limit text given new left = Stands limit text given new left × IsPast limit text given
StopsAt Failed limit text given new left = Stands limit text given new left × IsTaken limit text given left
StopsAt Memory limit text given new left = ⊤

-- ---- giving octets out

-- so many octets were given out, or fewer at the end of the text
abbrev pub IsGiven : ℕ → List ℕ → List ℕ → ℕ → List ℕ → Held → Option (List ℕ) → Type 0
IsGiven limit text given count more new left =
    Stands limit text (given ++ more) new left
    × ((length more ≡ count) ⊎ ((length more < count) × IsAtEnd limit text (given ++ more) left))

-- what taking so many octets did
abbrev pub Takes : ℕ → List ℕ → List ℕ → ℕ → List ℕ → List ℕ → Held → Option (List ℕ)
    → Result (Unit {0}) ReadEnd → Type 0
Takes limit text given count into into_then new left (Ok done) =
    (more : List ℕ) × (into_then ≡ into ++ more) × IsGiven limit text given count more new left
Takes limit text given count into into_then new left (Err Memory) = ⊤
Takes limit text given count into into_then new left (Err end) =
    (more : List ℕ) × (into_then ≡ into ++ more) × (length more < count)
    × StopsAt end limit text (given ++ more) new left

-- what passing over so many octets did
abbrev pub Passes : ℕ → List ℕ → List ℕ → ℕ → Held → Option (List ℕ) → Result (Unit {0}) ReadEnd
    → Type 0
Passes limit text given count new left (Ok done) =
    (more : List ℕ) × IsGiven limit text given count more new left
Passes limit text given count new left (Err Memory) = ⊤
Passes limit text given count new left (Err end) =
    (more : List ℕ) × (length more < count) × StopsAt end limit text (given ++ more) new left

-- ---- a line

-- octets of a line: no line feed, and no more than so many
pub record IsInLine (most : ℕ) (octets : List ℕ) : Type 0 where
  pub none : All (λ o. o ≢ 10) octets
  pub few : length octets ≤ most

-- How a line ends: its line feed was given out too; or it has an octet more than the most, which was
-- given out; or the text ends.
abbrev pub EndsLine : LineEnd → ℕ → List ℕ → List ℕ → ℕ → List ℕ → Held → Option (List ℕ) → Type 0
EndsLine Feed limit text given most line new left =
    Stands limit text (given ++ (line ++ 10 ∷ [])) new left
EndsLine Most limit text given most line new left =
    (length line ≡ most) × ((octet : ℕ) × (octet ≢ 10)
    × Stands limit text (given ++ (line ++ octet ∷ [])) new left)
EndsLine Source limit text given most line new left = IsAtEnd limit text (given ++ line) left

-- what taking a line did
abbrev pub TakesLine : ℕ → List ℕ → List ℕ → ℕ → List ℕ → List ℕ → Held → Option (List ℕ)
    → Result LineEnd ReadEnd → Type 0
TakesLine limit text given most into into_then new left (Ok end) =
    (line : List ℕ) × (into_then ≡ into ++ line) × IsInLine most line
    × EndsLine end limit text given most line new left
TakesLine limit text given most into into_then new left (Err Memory) = ⊤
TakesLine limit text given most into into_then new left (Err end) =
    (line : List ℕ) × (into_then ≡ into ++ line) × IsInLine most line
    × StopsAt end limit text (given ++ line) new left

-- ---- looking ahead

-- How far looking at so many octets came: they are held; or the text ends within the limit, or the
-- limit cuts it, or the source failed, behind the fewer octets that are held.
abbrev pub SeesAhead : ℕ → List ℕ → List ℕ → ℕ → List ℕ → Option (List ℕ)
    → Result (Unit {0}) ReadEnd → Type 0
SeesAhead limit text given count held left (Ok done) =
    (count ≤ length held) ⊎ ((length held < count) × IsAtEnd limit text (given ++ held) left)
SeesAhead limit text given count held left (Err Limit) =
    (length held < count) × IsPast limit text (given ++ held)
SeesAhead limit text given count held left (Err Failed) =
    (length held < count) × IsTaken limit text (given ++ held) left
SeesAhead limit text given count held left (Err Memory) = ⊤

-- what looking at so many octets did, where there was memory
abbrev pub Peeks : ℕ → List ℕ → List ℕ → ℕ → Held → Option (List ℕ) → Result (Unit {0}) ReadEnd
    → Type 0
Peeks limit text given count new left (Err Memory) = ⊤
Peeks limit text given count new left result =
    Stands limit text given new left × SeesAhead limit text given count new.octets left result

-- ---- asking for more

-- what asking for more did, where these octets were held: more are held now, or there are no more
abbrev pub FillsMore : ℕ → List ℕ → List ℕ → List ℕ → Held → Option (List ℕ) → Result Bool ReadEnd
    → Type 0
FillsMore limit text given held new left (Ok true) =
    Stands limit text given new left × (length held < length new.octets)
FillsMore limit text given held new left (Ok false) =
    Stands limit text given new left × (new.octets ≡ held) × IsAtEnd limit text (given ++ held) left
FillsMore limit text given held new left (Err Limit) =
    Stands limit text given new left × (new.octets ≡ held) × IsPast limit text (given ++ held)
FillsMore limit text given held new left (Err Failed) =
    Stands limit text given new left × (new.octets ≡ held)
    × IsTaken limit text (given ++ held) left
FillsMore limit text given held new left (Err Memory) = ⊤

-- what asking for more did, where no octets were held: some are held now, or there are no more
abbrev pub Fills : ℕ → List ℕ → List ℕ → Held → Option (List ℕ) → Result Bool ReadEnd → Type 0
Fills limit text given new left (Ok true) =
    Stands limit text given new left × (1 ≤ length new.octets)
Fills limit text given new left (Ok false) =
    Stands limit text given new left × IsAtEnd limit text given left
Fills limit text given new left (Err end) = StopsAt end limit text given new left

-- what giving out one octet did, if there is one
abbrev pub GivesOne : ℕ → List ℕ → List ℕ → Held → Option (List ℕ) → Result (Option ℕ) ReadEnd
    → Type 0
GivesOne limit text given new left (Ok (Some octet)) =
    Stands limit text (given ++ octet ∷ []) new left
GivesOne limit text given new left (Ok None) = IsAtEnd limit text given left
GivesOne limit text given new left (Err end) = StopsAt end limit text given new left
