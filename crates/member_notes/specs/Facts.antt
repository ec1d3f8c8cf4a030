-- What is told of each member, of right MKPDUs with what they say, newest first.
use Rattle.std.specs.Prelude.{ℕ, ◌≡◌, ◌&&◌, ◌||◌, Bool, true, false, not, nat_lt, min, if◌then◌else◌, List, [], ◌∷◌, map, length, find, sum_by, is_some, Option, Some, None}
use Rattle.std.specs.List.{list_any}
use Rattle.std.specs.List.Sorted.{IsStrictlySortedBy}
use Rattle.std.specs.Set.{distinct_count}
use Rattle.std.specs.Cmp.Lexicographic.{slice_cmp}
use Rattle.std.specs.Ordering.{nat_cmp, is_eq, eq_by_cmp, ordering_then}
use Rattle.std.specs.declared.cmp.Ordering.{Ordering}
use Rattle.lan_base.specs.declared.address.Mi.{Mi}
use Rattle.lan_base.specs.declared.address.Sci.{Sci}
use Rattle.lan_base.specs.Identifiers.{same_mi, same_sci}
use Rattle.lan_base.specs.Instants.{is_recent}
use Rattle.mkpdu_codec.specs.declared.announcement.Announcement.{Announcement}
use Rattle.mkpdu_codec.specs.declared.given.Given.{Given}
use Rattle.mkpdu_codec.specs.declared.key_use.Uses.{Uses}
use Rattle.member_notes.specs.declared.facts.Member.{Member}
use Rattle.member_notes.specs.declared.facts.MemberCounts.{MemberCounts}
use Rattle.member_notes.specs.declared.facts.Times.{Times}
use Rattle.member_notes.specs.declared.sums.MemberSums.{MemberSums}
use Rattle.member_notes.specs.declared.mkpdu.RightMkpdu.{RightMkpdu}
use Rattle.member_notes.specs.declared.novelty.MkpduNovelty.{MkpduNovelty}
use Rattle.member_notes.specs.declared.novelty.MkpduNovelty.TheVariants.{New, Fell, Again}
use Rattle.member_notes.specs.Mkpdus.{is_of, novelty_in}
use Rattle.member_notes.specs.Spoken.{Spoken}
use Rattle.member_notes.specs.Standing.{member_cmp}

abbrev pub spoken : RightMkpdu → ℕ → Announcement → Spoken
spoken mkpdu nanos said = record { mkpdu = mkpdu; nanos = nanos; said = said }

-- what one is behind those before it
abbrev pub novelty_behind : List Spoken → Spoken → MkpduNovelty
novelty_behind h e = novelty_in (map (λ s. s.mkpdu) h) e.mkpdu

-- whether one is of a kind, behind those before it
abbrev pub Test : Type 0
Test = List Spoken → Spoken → Bool

-- those of a member that are of a kind
abbrev pub by : ℕ → Mi → List Spoken → Test → List Spoken
by group mi [] test = []
by group mi (e ∷ h) test =
    if is_of group mi e.mkpdu && test h e then e ∷ by group mi h test else by group mi h test

-- ---- kinds

abbrev pub is_any : Test
is_any h e = true

abbrev pub new_mkpdu : MkpduNovelty → Bool
new_mkpdu New = true
new_mkpdu _ = false

abbrev pub fallen_mkpdu : MkpduNovelty → Bool
fallen_mkpdu Fell = true
fallen_mkpdu _ = false

abbrev pub repeated_mkpdu : MkpduNovelty → Bool
repeated_mkpdu (Again first) = true
repeated_mkpdu _ = false

abbrev pub is_new : Test
is_new h e = new_mkpdu (novelty_behind h e)

abbrev pub is_again : Test
is_again h e = repeated_mkpdu (novelty_behind h e)

abbrev pub has_fallen : Test
has_fallen h e = fallen_mkpdu (novelty_behind h e)

-- a new one that gives a key
abbrev pub gives_key : Test
gives_key h e = is_new h e && is_some e.said.given

abbrev pub number_given : Option Given → ℕ
number_given None = 0
number_given (Some given) = given.number

-- the numbers of the keys that a member gave
abbrev pub numbers_given : ℕ → Mi → List Spoken → List ℕ
numbers_given group mi h = map (λ e. number_given e.said.given) (by group mi h gives_key)

-- the key has a number below one that its member gave before
abbrev pub gives_back : Test
gives_back h e = gives_key h e
    && list_any (λ n. nat_lt (number_given e.said.given) n) (numbers_given e.mkpdu.group e.mkpdu.mi h)

abbrev pub lists_live : Mi → Announcement → Bool
lists_live mi said = list_any (λ p. same_mi p.mi mi) said.live

-- of another member the last new one is recent, serves, is of another SCI, and lists the member as live
abbrev pub is_rival : Spoken → List Spoken → Bool
is_rival e [] = false
is_rival e (last ∷ before) = last.said.server && (is_recent last.nanos e.nanos
    && (not (same_sci last.said.sci e.said.sci) && lists_live e.mkpdu.mi last.said))

-- a new one that serves, and lists one as live that serves too, and lists it
abbrev pub serves_too : Test
serves_too h e = is_new h e
    && (e.said.server && list_any (λ p. is_rival e (by e.mkpdu.group p.mi h is_new)) e.said.live)

-- one of two keys in use is near the end of its packet numbers: above 3,221,225,472
abbrev pub nears_end : Option Uses → Bool
nears_end None = false
nears_end (Some uses) = nat_lt 3221225472 uses.latest.lowest || nat_lt 3221225472 uses.old.lowest

abbrev pub is_high : Test
is_high h e = is_new h e && nears_end e.said.uses

-- ---- of a member

-- how many there are, as far as they can be counted
abbrev pub counted : List Spoken → ℕ
counted es = min (length es) 4294967295

abbrev pub oldest_packet : List Spoken → ℕ
oldest_packet [] = 0
oldest_packet (e ∷ []) = e.mkpdu.packet
oldest_packet (e ∷ f ∷ es) = oldest_packet (f ∷ es)

abbrev pub times : List Spoken → Times
times es = record { count = counted es; first = oldest_packet es }

-- the SCI of the oldest one
abbrev pub first_sci : Spoken → List Spoken → Sci
first_sci e [] = e.said.sci
first_sci e (f ∷ es) = first_sci f es

abbrev pub counts_of : (Test → List Spoken) → Sci → MemberCounts
counts_of chosen sci = record {
  sci = sci;
  mkpdus = counted (chosen is_any);
  again = counted (chosen is_again);
  given = counted (chosen gives_key);
  fell = times (chosen has_fallen);
  servers = times (chosen serves_too);
  returned = times (chosen gives_back);
  high = times (chosen is_high);
}

-- of one that has sent these
abbrev pub member_of : ℕ → Mi → (Test → List Spoken) → List Spoken → Option Member
member_of group mi chosen [] = None
member_of group mi chosen (e ∷ es) =
    Some (record { group = group; mi = mi; counts = counts_of chosen (first_sci e es) })

abbrev pub member_told : ℕ → Mi → List Spoken → Option Member
member_told group mi h = member_of group mi (by group mi h) (by group mi h is_any)

-- ---- of all

abbrev pub is_member : ℕ → Mi → Member → Bool
is_member group mi m = is_eq (member_cmp (group, mi) (m.group, m.mi))

-- each member of some MKPDU, ascending, with what is told of it
pub record AreMembersOf (h : List Spoken) (ms : List Member) : Type 0 where
  pub ascending : IsStrictlySortedBy member_cmp (map (λ m. (m.group, m.mi)) ms)
  pub each : (group : ℕ) (mi : Mi) → find (is_member group mi) ms ≡ member_told group mi h

-- by group, and then by the first octet in which the SCIs differ
abbrev pub station_cmp : ℕ × Sci → ℕ × Sci → Ordering
station_cmp a b = ordering_then (nat_cmp a.0 b.0) (slice_cmp nat_cmp a.1.0 b.1.0)

abbrev pub station_of : Member → ℕ × Sci
station_of m = (m.group, m.counts.sci)

abbrev pub in_all : (Member → ℕ) → List Member → ℕ
in_all count ms = min (sum_by count ms) 18446744073709551615

-- how many members there are, and how many different groups with SCIs; and what is told of all, as far as it can be counted
abbrev pub sums_of : List Member → MemberSums
sums_of ms = record {
  members = length ms;
  scis = distinct_count (eq_by_cmp station_cmp) (map station_of ms);
  fell = in_all (λ m. m.counts.fell.count) ms;
  servers = in_all (λ m. m.counts.servers.count) ms;
  returned = in_all (λ m. m.counts.returned.count) ms;
  high = in_all (λ m. m.counts.high.count) ms;
}
