-- How reading ends where it is told of other answers, or where less is said of the facts.
use Rattle.std.proofs.Common.{◌≡◌, ◌∙◌, ◌<◌, ◌≤◌, ℕ, Bool, true, false, List, [], length, Option, Some, None, Ok, Err, refl, sym, ap, arith}
use Rattle.std.specs.Prelude.{if◌then◌else◌, nat_le, take}
use Rattle.std.proofs.lemmas.Bool.{le-leb}
use Rattle.std.proofs.lemmas.List.{append-nil}
use Rattle.lan_base.specs.Told.{before}
use Rattle.lan_core.specs.declared.fact.Fact.{Fact}
use Rattle.text_lines.specs.Reading.{Sourced, lines_within}
use Rattle.text_lines.specs.Texts.{lines_of, whole_lines}
use Rattle.lan_base.specs.Ranges.{most_input}
use Rattle.transcript_reader.specs.Facts.{nothing}
use Rattle.transcript_reader.specs.Taking.{Rule}
use Rattle.transcript_reader.specs.Transcripts.{AreRead, EndsBy, EndsReading, IsTakenFrom}
use Rattle.text_lines.specs.declared.unfinished.Unfinished.{Unfinished}
use Rattle.text_lines.specs.declared.unfinished.Unfinished.TheVariants as ends

-- a text within the limit has all of its lines within it
pub all-within : (text : List ℕ) → length text ≤ most_input → lines_within most_input text ≡ lines_of text
all-within text few =
    ap (λ (b : Bool). if b then lines_of text else whole_lines (take most_input text))
    (le-leb (length text) most_input few)

-- a text past the limit has those lines that end within it
pub past-within : (text : List ℕ) → most_input < length text
    → lines_within most_input text ≡ whole_lines (take most_input text)
past-within text more = go (nat_le (length text) most_input) refl
  where
    go : (b : Bool) → nat_le (length text) most_input ≡ b
        → lines_within most_input text ≡ whole_lines (take most_input text)
    go true is = let few : length text ≤ most_input = grind (arith, is) in absurd (omega (arith, few, more))
    go false is = ap (λ (b : Bool). if b then lines_of text else whole_lines (take most_input text)) is

abbrev pub read-as : {F : Type 0} (rule : Rule F) (Holds Says : List Fact → Type 0)
    → ((facts : List Fact) → Holds facts → Says facts) → (lines : List (List ℕ)) → AreRead rule Holds lines
    → AreRead rule Says lines
read-as rule Holds Says so lines r = record {
  known = r.known;
  facts = r.facts;
  taken = r.taken;
  holds = so r.facts r.holds;
}

module _ {F : Type 0} (rule : Rule F) (Held Said Holds Says : List Fact → Type 0)
    (held : (facts : List Fact) → Held facts → Said facts) (so : (facts : List Fact) → Holds facts → Says facts)
    (text : List ℕ) (left now : Sourced) where
  abbrev pub taken-as : IsTakenFrom rule Held left now → IsTakenFrom rule Said left now
  taken-as t = record {
    earlier = t.earlier;
    piece = t.piece;
    moved = t.moved;
    within = t.within;
    at_once = t.at_once;
    read = read-as rule Held Said held (whole_lines t.earlier) t.read;
  }

  pub by-end-as : (X Y : Type 0) (why : Unfinished F) → EndsBy {X = X} rule Holds text left now (Err why)
      → EndsBy {X = Y} rule Says text left now (Err why)
  by-end-as X Y (ends.Refused number why) e = record {
    earlier = e.earlier;
    line = e.line;
    later = e.later;
    parts = e.parts;
    number_is = e.number_is;
    read = read-as rule Holds Says so e.earlier e.read;
    denied = e.denied;
  }
  by-end-as X Y ends.Memory e = record {
    front = e.front;
    later = e.later;
    parts = e.parts;
    read = read-as rule Holds Says so e.front e.read;
  }
  by-end-as X Y ends.WriteFault e = record {
    front = e.front;
    later = e.later;
    parts = e.parts;
    read = read-as rule Holds Says so e.front e.read;
  }
  by-end-as X Y ends.ReadFault e =
      let t = e.1 in (e.0, (t.0, t.1, t.2, read-as rule Holds Says so (whole_lines t.0) t.3))
  by-end-as X Y ends.Limit e = (e.0, read-as rule Holds Says so (whole_lines (take most_input text)) e.1)

  pub ends-as : (X Y : Type 0) (why : Unfinished F) → EndsReading {X = X} rule Held Holds text left now (Err why)
      → EndsReading {X = Y} rule Said Says text left now (Err why)
  ends-as X Y why e = record { taken = taken-as e.taken; ends = by-end-as X Y why e.ends }

  pub answers-as : {X Y : Type 0} (x : X) (y : Y) → EndsReading rule Held Holds text left now (Ok x)
      → EndsReading rule Said Says text left now (Ok y)
  answers-as x y e = record {
    taken = taken-as e.taken;
    ends = (e.ends.0, e.ends.1, read-as rule Holds Says so (lines_of text) e.ends.2);
  }

  -- all lines were taken, and no memory was left for an answer
  pub unanswered : {X : Type 0} (Y : Type 0) (x : X) → EndsReading rule Held Holds text left now (Ok x)
      → EndsReading {X = Y} rule Said Says text left now (Err ends.Memory)
  unanswered Y x e = record {
    taken = taken-as e.taken;
    ends = record {
      front = lines_of text;
      later = [];
      parts = append-nil (lines_of text) ∙ sym (all-within text e.ends.0);
      read = read-as rule Holds Says so (lines_of text) e.ends.2;
    };
  }

-- ---- nothing was read

pub before-none : (told : Option (List ℕ)) → told ≡ before [] told
before-none None = refl
before-none (Some rest) = refl

abbrev none-read : {F : Type 0} (rule : Rule F) (Holds : List Fact → Type 0) → Holds [] → AreRead rule Holds []
none-read rule Holds holds = record { known = nothing; facts = []; taken = (refl, refl); holds = holds }

abbrev pub none-taken : {F : Type 0} (rule : Rule F) (Held : List Fact → Type 0) (left : Sourced) → Held []
    → IsTakenFrom rule Held left left
none-taken rule Held left held = record {
  earlier = [];
  piece = [];
  moved = before-none left.left;
  within = omega arith;
  at_once = omega arith;
  read = none-read rule Held held;
}

-- for want of memory
pub not-begun : {F : Type 0} (X : Type 0) (rule : Rule F) (Held Holds : List Fact → Type 0) (text : List ℕ) (left : Sourced)
    → Held [] → Holds [] → EndsReading {X = X} rule Held Holds text left left (Err ends.Memory)
not-begun X rule Held Holds text left held holds = record {
  taken = none-taken rule Held left held;
  ends = record {
    front = [];
    later = lines_within most_input text;
    parts = refl;
    read = none-read rule Holds holds;
  };
}
