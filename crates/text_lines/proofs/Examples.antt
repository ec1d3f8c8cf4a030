-- Worked texts and their lines, and a turn.
use Rattle.std.specs.Prelude.{◌≡◌, ℕ, ◌+◌, List, [], ◌∷◌, Option, Some, Result, Ok, Err}
use Rattle.std.proofs.Common.{arith, refl, subst}
use Rattle.text_lines.specs.declared.reading.End.{End}
use Rattle.text_lines.specs.declared.reading.End.TheVariants.{Refused, Memory, ReadFault, Limit}
use Rattle.text_lines.specs.Texts.{ended, whole_lines, lines_of}
use Rattle.text_lines.specs.Reading.{lines_within}
use Rattle.text_lines.specs.Turns.{InTurn, LastTurn, Turns, lines_due}

-- 'a', a line feed, 'b': the last line needs no line feed, but ends only with the text
two : (whole_lines (97 ∷ 10 ∷ 98 ∷ []) ≡ (97 ∷ []) ∷ [])
    × (lines_of (97 ∷ 10 ∷ 98 ∷ []) ≡ (97 ∷ []) ∷ (98 ∷ []) ∷ [])
two = (refl, refl)

-- one carriage return before a line feed belongs to the ending, another one to the line; behind the
-- last line feed there is no line
returns : lines_of (97 ∷ 13 ∷ 13 ∷ 10 ∷ 10 ∷ []) ≡ (97 ∷ 13 ∷ []) ∷ [] ∷ []
returns = refl

-- a last line keeps its carriage return
kept : lines_of (97 ∷ 13 ∷ []) ≡ (97 ∷ 13 ∷ []) ∷ []
kept = refl

-- with a limit of two octets 'a', a line feed and 'b' have one line
limited : lines_within 2 (97 ∷ 10 ∷ 98 ∷ []) ≡ (97 ∷ []) ∷ []
limited = refl

-- 'a', a line feed and 'b' were given, and then nothing, or another line feed
due_at_the_end : lines_due 9 (97 ∷ 10 ∷ 98 ∷ []) [] ≡ (97 ∷ []) ∷ (98 ∷ []) ∷ []
due_at_the_end = refl

due_behind : lines_due 9 (97 ∷ 10 ∷ 98 ∷ []) (10 ∷ []) ≡ (97 ∷ []) ∷ (98 ∷ []) ∷ []
due_behind = refl

-- ---- a source that counts its reads, each of which gives a line feed, and a taker that refuses all lines

abbrev Gave : ℕ → Option (List ℕ) → ℕ → Type 0
Gave reads given reads_then = (reads_then ≡ reads + 1) × (given ≡ Some (10 ∷ []))

abbrev Refuses : List (List ℕ) → ℕ → ℕ → Result (Unit {0}) ℕ → Type 0
Refuses [] t t_then r = (t_then ≡ t) × (r ≡ Ok tt)
Refuses (line ∷ lines) t t_then r = (t_then ≡ t) × (r ≡ Err 7)

-- the first line was refused, and no more was asked for
refused_at_once : InTurn Gave Refuses 9 0 1 0 0 (Err (Refused 7))
refused_at_once = record {
  pieces = [];
  within = omega arith;
  between = 0;
  told = 0;
  turns = (refl, refl);
  last = (10 ∷ [], (refl, refl), (refl, refl));
}

some-same : (xs ys : List ℕ) → Some xs ≡ Some ys → xs ≡ ys
some-same xs ys e = cc

never-taken : (piece : List ℕ) (t t_then : ℕ) → piece ≡ 10 ∷ [] → Refuses (ended [] piece) t t_then (Ok tt) → ⊥
never-taken piece t t_then is d =
    let refused = subst (λ (l : List ℕ). Refuses (ended [] l) t t_then (Ok tt)) is d in cc (refused.1)

none-taken : (pieces : List (List ℕ)) (s a t b : ℕ) → Turns Gave Refuses [] pieces s a t b → a ≡ s
none-taken [] s a t b h = h.0
none-taken ([] ∷ pieces) s a t b h = absurd h
none-taken ((x ∷ xs) ∷ pieces) s a t b h =
    absurd (never-taken (x ∷ xs) t h.1 (some-same (x ∷ xs) (10 ∷ []) h.2.1) h.3)

last-counts : (room : ℕ) (begun : List ℕ) (a s_then b t : ℕ) (r : Result (Unit {0}) (End ℕ))
    → LastTurn Gave Refuses room begun a s_then b t r → s_then ≡ a + 1
last-counts room begun a s_then b t (Ok done) h = h.0.0
last-counts room begun a s_then b t (Err (Refused e)) h = h.1.0
last-counts room begun a s_then b t (Err Memory) h = h.1.0
last-counts room begun a s_then b t (Err ReadFault) h = h.0.0
last-counts room begun a s_then b t (Err Limit) h = h.1.0

-- who has read twice then read ahead
read_ahead : (r : Result (Unit {0}) (End ℕ)) → InTurn Gave Refuses 9 0 2 0 0 r → ⊥
read_ahead r h =
    let one = last-counts _ _ h.between 2 h.told 0 r h.last in
    let none = none-taken h.pieces 0 h.between 0 h.told h.turns in
    omega (arith, one, none)
