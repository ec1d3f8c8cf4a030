-- What is kept of a member, one MKPDU after the other.
use Rattle.std.specs.Prelude.{ℕ, ◌≡◌, ◌≢◌, ◌+◌, ◌==◌, ◌&&◌, Bool, true, false, not, nat_lt, min, max, if◌then◌else◌, [], is_some, Option, Some, None}
use Rattle.std.specs.List.{list_any}
use Rattle.std.specs.Map.{lookup}
use Rattle.std.specs.BTreeMap.{is_at}
use Rattle.lan_base.specs.declared.address.Mi.{Mi}
use Rattle.lan_base.specs.declared.address.Sci.{Sci}
use Rattle.lan_base.specs.Identifiers.{same_mi, same_sci}
use Rattle.lan_base.specs.Instants.{is_recent}
use Rattle.member_notes.specs.declared.claim.Claim.{Claim}
use Rattle.member_notes.specs.declared.facts.MemberCounts.{MemberCounts}
use Rattle.member_notes.specs.declared.facts.Telling.{Telling}
use Rattle.member_notes.specs.declared.facts.Times.{Times}
use Rattle.member_notes.specs.declared.novelty.MkpduNovelty.{MkpduNovelty}
use Rattle.member_notes.specs.Speakers.{Speaker}
use Rattle.member_notes.specs.Facts.{new_mkpdu, fallen_mkpdu, repeated_mkpdu, number_given, nears_end}
use Rattle.member_notes.specs.FactsKept.{speaker_in, speaker_at, Speakers}
use Rattle.member_notes.specs.Spoken.{Spoken}
use Rattle.member_notes.specs.Standing.{member_cmp}

abbrev pub more_of : ℕ → Bool → ℕ
more_of count counted = min (count + (if counted then 1 else 0)) 4294967295

abbrev pub times_with : Bool → ℕ → Times → Times
times_with counted packet t =
    if counted then record { count = more_of t.count true; first = if t.count == 0 then packet else t.first } else t

abbrev pub counts_with : Telling → MemberCounts → MemberCounts
counts_with it c = record {
  sci = c.sci;
  mkpdus = more_of c.mkpdus true;
  again = more_of c.again (repeated_mkpdu it.novelty);
  given = more_of c.given it.gives;
  fell = times_with (fallen_mkpdu it.novelty) it.packet c.fell;
  servers = times_with it.serves_too it.packet c.servers;
  returned = times_with it.gives_back it.packet c.returned;
  high = times_with it.is_high it.packet c.high;
}

abbrev pub telling : MkpduNovelty → Bool → ℕ → Spoken → Telling
telling novelty serves_too greatest e = record {
  packet = e.mkpdu.packet;
  novelty = novelty;
  gives = new_mkpdu novelty && is_some e.said.given;
  serves_too = serves_too;
  gives_back = (new_mkpdu novelty && is_some e.said.given) && nat_lt (number_given e.said.given) greatest;
  is_high = new_mkpdu novelty && nears_end e.said.uses;
}

-- one more
abbrev pub hears : MkpduNovelty → Bool → Option Claim → Spoken → Speaker → Speaker
hears novelty serves_too claim e s = record {
  counts = counts_with (telling novelty serves_too s.greatest e) s.counts;
  greatest = if new_mkpdu novelty && is_some e.said.given then max (number_given e.said.given) s.greatest else s.greatest;
  claim = if new_mkpdu novelty then claim else s.claim;
}

-- of no MKPDU
abbrev pub unheard : Sci → Speaker
unheard sci = speaker_in (λ test. []) sci

abbrev pub speaker_or : Sci → Option Speaker → Speaker
speaker_or sci None = unheard sci
speaker_or sci (Some s) = s

-- ---- another that serves

abbrev pub rivals : Spoken → Option Claim → Bool
rivals e None = false
rivals e (Some claim) = is_recent claim.nanos e.nanos
    && (not (same_sci claim.sci e.said.sci) && list_any (λ p. same_mi p.mi e.mkpdu.mi) claim.live)

abbrev pub rivals_kept : Spoken → Option Speaker → Bool
rivals_kept e None = false
rivals_kept e (Some s) = rivals e s.claim

abbrev pub lists_rival : Speakers → Spoken → Bool
lists_rival speakers e = list_any (λ p. rivals_kept e (speaker_at speakers e.mkpdu.group p.mi)) e.said.live

-- ---- where it is put

pub record IsHeard (at : ℕ × Mi) (s : Speaker) (old new : Speakers) : Type 0 where
  pub here : lookup (is_at (member_cmp at)) new ≡ Some s
  pub others : (other : ℕ × Mi) → other ≢ at
      → lookup (is_at (member_cmp other)) new ≡ lookup (is_at (member_cmp other)) old
