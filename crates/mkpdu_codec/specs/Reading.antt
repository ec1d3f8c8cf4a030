-- Reading a frame from front to back: what it spells, or the first refusal.
use Rattle.std.specs.Prelude.{ℕ, zero, suc, ◌-◌, not, ◌||◌, ◌&&◌, ◌==◌, is_some, if◌then◌else◌, List, length, take, drop, Option, Some, None, Result, Ok, Err}
use Rattle.lan_base.specs.declared.address.Mac.{Mac}
use Rattle.mkpdu_codec.specs.declared.announcement.Announcement.{Announcement}
use Rattle.mkpdu_codec.specs.declared.refusal.Refusal.{Refusal}
use Rattle.mkpdu_codec.specs.declared.refusal.Refusal.TheVariants.{NotMka, Short, Shape, Repeated, Agility}
use Rattle.mkpdu_codec.specs.declared.spelled.Spelled.{Spelled}
use Rattle.mkpdu_codec.specs.Frames.{Set, has_highs}
use Rattle.mkpdu_codec.specs.Sets.{check_length}
use Rattle.mkpdu_codec.specs.Refusals.{is_mka, is_long_enough, check_place, sets_of, is_indicator, is_length_of, is_known}
use Rattle.mkpdu_codec.specs.Fields.{set_at, Basics, basic_at, peers_in, uses_in, given_in, highs_in}

infixl 10 ◌>>=◌
abbrev pub ◌>>=◌ : {A B : Type 0} → Result A Refusal → (A → Result B Refusal) → Result B Refusal
(Ok x) >>= f = f x
(Err e) >>= f = Err e

-- ---- the frame's header

-- the parts of a frame that are read: source, the octets of the sets, how many octets stand before
-- the check value, and the check value
pub record Inner : Type 0 where
  pub source : Mac
  pub sets : List ℕ
  pub covered : ℕ
  pub check : List ℕ

unfoldable pub parts_at : List ℕ → Result Inner Refusal
parts_at frame =
    if not (is_mka frame) then Err NotMka else
    if not (is_long_enough frame) then Err Short else
    Ok (record {
      source = record { 0 = take 6 (drop 6 frame) };
      sets = sets_of frame;
      covered = check_place frame;
      check = take check_length (drop (check_place frame) frame);
    })

-- the check value of a frame, where its header says that it has one
abbrev pub check_value : List ℕ → Option (List ℕ)
check_value frame =
    if is_mka frame && is_long_enough frame
    then Some (take check_length (drop (check_place frame) frame)) else None

-- ---- the sets behind the Basic Parameter Set

-- the sets that are read, one of each type, and the first that has high halves
pub record Gathered : Type 0 where
  pub live : Option Set
  pub potential : Option Set
  pub uses : Option Set
  pub given : Option Set
  pub highs : Option Set

abbrev pub nothing : Gathered
nothing = record { live = None; potential = None; uses = None; given = None; highs = None }

-- a set of a type that may come twice: the first that has high halves is kept
abbrev pub noted : Set → Gathered → Gathered
noted s g = if has_highs s && not (is_some g.highs) then record g { highs = Some s } else g

-- a set takes its place, which no set has taken
unfoldable pub placed : Gathered → Set → Result Gathered Refusal
placed g s =
    if s.kind == 1 then (if is_some g.live then Err (Repeated s.kind)
    else Ok (record g { live = Some s })) else
    if s.kind == 2 then (if is_some g.potential then Err (Repeated s.kind)
    else Ok (record g { potential = Some s })) else
    if s.kind == 3 then (if is_some g.uses then Err (Repeated s.kind)
    else Ok (record g { uses = Some s })) else
    if s.kind == 4 then (if is_some g.given then Err (Repeated s.kind)
    else Ok (record g { given = Some s })) else
    Ok (noted s g)

-- a set that has a length of its type
abbrev pub with_length : ℕ → Option (Set × List ℕ) → Result (Set × List ℕ) Refusal
with_length at None = Err (Shape at)
with_length at (Some x) = if is_length_of x.0.kind (length x.0.body) then Ok x else Err (Shape at)

unfoldable pub shaped_at : ℕ → List ℕ → Result (Set × List ℕ) Refusal
shaped_at end octets = with_length (end - length octets) (set_at octets)

-- the sets of the octets that are left, of which there are at most so many; the check value begins
-- at `end`
unfoldable pub gathered : ℕ → ℕ → Gathered → List ℕ → Result Gathered Refusal
gathered zero end g octets = Ok g
gathered (suc n) end g octets = if (length octets == 0) || is_indicator octets then Ok g else do
  s ← shaped_at end octets
  more ← placed g s.0
  gathered n end more s.1

-- ---- the whole frame

abbrev pub basic_or : ℕ → Option (Basics × List ℕ) → Result (Basics × List ℕ) Refusal
basic_or at None = Err (Shape at)
basic_or at (Some x) = Ok x

-- the announcement of a Basic Parameter Set and further sets
abbrev pub announcement_of : Mac → Basics → Gathered → Announcement
announcement_of source b g = record {
  source = source;
  priority = b.priority;
  server = b.server;
  sci = b.sci;
  mi = b.mi;
  mn = b.mn;
  ckn = b.ckn;
  live = peers_in g.live;
  potential = peers_in g.potential;
  uses = uses_in g.uses;
  given = given_in g.given;
  highs = highs_in g.highs;
}

unfoldable pub reading : List ℕ → Result Spelled Refusal
reading frame = do
  parts ← parts_at frame
  basic ← basic_or 18 (basic_at parts.sets)
  others ← gathered (length basic.1) parts.covered nothing basic.1
  if not (is_known basic.0.agility) then Err Agility
      else Ok (record {
        announcement = announcement_of parts.source basic.0 others;
        covered = parts.covered;
        check = parts.check;
      })
