-- The summary of facts: how many there are of nine kinds, as one line of JSON (this profile's own).
use Rattle.std.specs.Prelude.{ℕ, ◌-◌, ◌^◌, min, Bool, true, false, List, [], ◌∷◌, ◌++◌, codes}
use Rattle.std.specs.List.{count_by}
use Rattle.serde_json.specs.Data.{Data, number, unsigned, object, Members, member, no_members}
use Rattle.serde_json.specs.Written.{compact_text}
use Rattle.rx_slots.specs.declared.arrival.Arrival.{Arrival}
use Rattle.rx_slots.specs.declared.arrival.Arrival.TheVariants as arrivals
use Rattle.lan_core.specs.declared.fact.Fact.{Fact}
use Rattle.lan_core.specs.declared.fact.Fact.TheVariants as facts

-- ---- the kinds of facts that are counted

-- user data came to a station
abbrev pub was_accepted : Arrival → Bool
was_accepted (arrivals.Accepted pn body) = true
was_accepted _ = false

abbrev pub is_accepted : Fact → Bool
is_accepted (facts.Arrived frame station arrival) = was_accepted arrival
is_accepted _ = false

-- a key began
abbrev pub is_beginning : Fact → Bool
is_beginning (facts.Began station id an epoch cause) = true
is_beginning _ = false

-- a packet number was claimed
abbrev pub is_claim : Fact → Bool
is_claim (facts.Claimed station an epoch pn) = true
is_claim _ = false

-- a frame was put on the air
abbrev pub is_frame : Fact → Bool
is_frame (facts.Framed place station sec octets) = true
is_frame _ = false

-- a key was installed
abbrev pub is_install : Fact → Bool
is_install (facts.Installed station id an epoch sak) = true
is_install _ = false

-- a protected frame came too late
abbrev pub was_late : Arrival → Bool
was_late (arrivals.Late next) = true
was_late _ = false

abbrev pub is_late : Fact → Bool
is_late (facts.Arrived frame station arrival) = was_late arrival
is_late _ = false

-- a protected frame met no key
abbrev pub was_missed : Arrival → Bool
was_missed (arrivals.Missed an) = true
was_missed _ = false

abbrev pub is_missed : Fact → Bool
is_missed (facts.Arrived frame station arrival) = was_missed arrival
is_missed _ = false

-- no packet number was had
abbrev pub is_refusal : Fact → Bool
is_refusal (facts.Unclaimed station why) = true
is_refusal _ = false

-- a station's clock went on
abbrev pub is_tick : Fact → Bool
is_tick (facts.Ticked station at next) = true
is_tick _ = false

-- ---- how many there are

-- the greatest count
abbrev pub most : ℕ
most = 2 ^ 64 - 1

-- how many facts are of a kind; a count stops at the greatest
abbrev pub counted : (Fact → Bool) → List Fact → ℕ
counted kind shown = min (count_by kind shown) most

pub record Counts : Type 0 where
  pub accepted : ℕ
  pub begun : ℕ
  pub claims : ℕ
  pub frames : ℕ
  pub installed : ℕ
  pub late : ℕ
  pub missed : ℕ
  pub noclaims : ℕ
  pub ticks : ℕ

unfoldable pub counts : List Fact → Counts
counts shown = record {
  accepted = counted is_accepted shown;
  begun = counted is_beginning shown;
  claims = counted is_claim shown;
  frames = counted is_frame shown;
  installed = counted is_install shown;
  late = counted is_late shown;
  missed = counted is_missed shown;
  noclaims = counted is_refusal shown;
  ticks = counted is_tick shown;
}

-- ---- the line

-- a name, a count, and further members
abbrev pub with_count : List ℕ → ℕ → Members → Members
with_count name n others = member name (number (unsigned n)) others

-- the counts, each under its name, in the order of the names
abbrev pub members_of : Counts → Members
members_of c =
    with_count (codes "accepted") c.accepted
    (with_count (codes "begun") c.begun
    (with_count (codes "claims") c.claims
    (with_count (codes "frames") c.frames
    (with_count (codes "installed") c.installed
    (with_count (codes "late") c.late
    (with_count (codes "missed") c.missed
    (with_count (codes "noclaims") c.noclaims
    (with_count (codes "ticks") c.ticks no_members))))))))

-- the counts as an object
abbrev pub object_of : Counts → Data
object_of c = object (members_of c)

-- the object without blanks, and a line feed
abbrev pub line_of : Counts → List ℕ
line_of c = compact_text (object_of c) ++ 10 ∷ []

-- the summary line of facts
abbrev pub summary : List Fact → List ℕ
summary shown = line_of (counts shown)
