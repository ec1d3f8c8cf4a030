-- Of each law a run that meets its premises, and one that its conclusion refuses.
use Rattle.std.proofs.Common.{◌∙◌, inl, inr, sym, ap, ◌≡◌, ◌≤◌, ℕ, true, false, List, [], ◌∷◌, ◌++◌, length, Option, Some, None, refl, subst, arith}
use Rattle.std.specs.Fmt.{digits}
use Rattle.std.specs.List.Sorted.{IsStrictlySortedBy}
use Rattle.std.specs.Prelude.{All, codes, take}
use Rattle.std.proofs.lemmas.List.Elements.{All-nil}
use Rattle.aes_block.specs.Aes.{IsKey}
use Rattle.audit_report.specs.declared.blame.Blame.TheVariants as blames
use Rattle.audit_report.specs.declared.ending.Ending.TheVariants.{Whole}
use Rattle.audit_text.specs.Parting.{IsParted}
use Rattle.lan_base.specs.Ranges.{most_input}
use Rattle.capture_file.specs.declared.order.Order.TheVariants.{Big, Little}
use Rattle.capture_packets.specs.Captures.{begins_file, begun}
use Rattle.capture_packets.specs.Written.{blocks_file, classic_file}
use Rattle.capture_packets.specs.declared.state.Layout.TheVariants.{Records}
use Rattle.capture_packets.specs.declared.state.Parts.TheVariants.{Micros, Nanos}
use Rattle.audit_report.specs.Verdicts.{Verdict}
use Rattle.use_notes.specs.changes.Changes.{AreChangesOf}
use Rattle.known_keys.specs.History.{Entry, keys}
use Rattle.known_keys.specs.OneKey.{BreaksOneKey, given, key_given}
use Rattle.key_ring.specs.Rings.{AreKeyed, Ring, no_ring}
use Rattle.member_notes.specs.Facts.{AreMembersOf}
use Rattle.packet_verdicts.specs.Groups.{GroupKeys}
use Rattle.rollover_notes.specs.Counted.{AreUnreadyOf}
use Rattle.use_notes.specs.Once.{BreaksOnce}
use Rattle.use_notes.specs.Uses.{AreUsesOf}
use Rattle.capture_audit.specs.Before.{IsUnwrapped, Unwrapped, entries, frames}
use Rattle.capture_audit.specs.declared.asks.Asks.{Asks}
use Rattle.capture_audit.specs.Ends.{IsReported}
use Rattle.capture_audit.specs.Laws.{IsFileOf, IsInput, IsOfOther, IsWhole, moved_pair, once_more, with_group}
use Rattle.capture_audit.specs.Telling.{IsVerdict, report, told_lines}
use Rattle.capture_audit.proofs.FrontTold.{once-stays}
use Rattle.capture_audit.proofs.GiftsAgree.{IsOneKeyForOneWrap}
use Rattle.capture_audit.proofs.OneReport.{one-report}

-- a packet of a link that is not Ethernet
abbrev foreign : Unwrapped
foreign = record {
  packet = record {
    octets = 1 ∷ [];
    head = record { original = 1; nanos = 5; is_ethernet = false; is_untimed = false };
  };
  gift = None;
}

abbrev judged : Option (ℕ × ℕ) → Verdict
judged pair = record {
  once = pair;
  one_key = None;
  uses = [];
  timed = [];
  changes = [];
  unready = [];
  members = [];
  unknown = [];
}

-- ---- the least pair is named

none-given : (history : List Entry) → history ≡ [] → (a b : ℕ) → BreaksOneKey history a b → ⊥
none-given history none a b (inl broken) = absurd (cc (sym (ap (λ (es : List Entry). given es a) none) ∙ broken.first))
none-given history none a b (inr broken) = absurd (cc (sym (ap (λ (es : List Entry). key_given es a) none) ∙ broken.first))

no_uses : AreUsesOf [] []
unfolding IsStrictlySortedBy
no_uses = record { ascending = tt; each = λ key sci. refl }

no_changes : AreChangesOf [] []
unfolding IsStrictlySortedBy
no_changes = record { senders = []; ascending = tt; others = λ sci none. refl; each = refl }

no_unready : AreUnreadyOf [] []
unfolding IsStrictlySortedBy
no_unready = record { ascending = tt; each = λ p. refl }

no_members : AreMembersOf [] []
unfolding IsStrictlySortedBy
no_members = record { ascending = tt; each = λ group mi. refl }

first_judged : IsVerdict no_ring (foreign ∷ []) (judged None)
first_judged = record {
  once = λ a b broken. absurd (cc broken.first);
  one_key = λ a b broken. none-given [] refl a b broken;
  uses = no_uses;
  timed = refl;
  changes = no_changes;
  unready = no_unready;
  members = no_members;
  unknown = refl;
}

-- no pair is named of packets none of which breaks
none_named : IsVerdict no_ring (foreign ∷ []) (judged (Some (1, 2))) → ⊥
none_named is = absurd (cc is.once.broken.first)

-- nor is a pair passed over
none_passed : (ring : Ring) (packets : List Unwrapped) → IsVerdict ring packets (judged None)
    → BreaksOnce (frames ring packets) 1 2 → ⊥
none_passed ring packets is broken = is.once 1 2 broken

-- ---- a front is told first

abbrev strict : Asks
strict = record { shows = true; strict = true; keys = true }

front_lines : told_lines strict no_ring (foreign ∷ []) ≡ codes "packet 1 foreign" ++ 10 ∷ []
unfolding digits
front_lines = refl

whole_lines : told_lines strict no_ring (foreign ∷ foreign ∷ [])
    ≡ (codes "packet 1 foreign" ++ 10 ∷ []) ++ (codes "packet 2 foreign" ++ 10 ∷ [])
unfolding digits
whole_lines = refl

-- no whole tells nothing of its front
no_front : (more : List ℕ) → [] ≡ told_lines strict no_ring (foreign ∷ []) ++ more → ⊥
no_front more e = absurd (cc e)

-- none takes back what was broken
not_taken_back : (ring : Ring) (later earlier : List Unwrapped) → IsVerdict ring earlier (judged (Some (1, 2)))
    → IsVerdict ring (later ++ earlier) (judged None) → ⊥
not_taken_back ring later earlier was is =
    absurd (cc (once-stays ring later earlier (judged (Some (1, 2))) (judged None) (1, 2) was is refl))

-- ---- the format says nothing

abbrev classic : List ℕ
classic = classic_file Big Micros []

abbrev blocks : List ℕ
blocks = blocks_file Little []

none-left : (front rest : List ℕ) → [] ≡ front ++ rest → rest ≡ []
none-left [] rest e = sym e
none-left (octet ∷ front) rest e = absurd (cc e)

parted : (file : List ℕ) → begins_file (take 4 file) ≡ true → IsParted file [] file
parted file begins = record {
  whole = refl;
  none = λ front rest e some at. absurd (some (none-left front rest e));
  ends = λ some. (refl, inl begins);
}

classic_of : IsFileOf [] classic
classic_of = (Big, Micros, tt, inl refl)

blocks_of : IsFileOf [] blocks
blocks_of = (Little, Nanos, tt, inr refl)

classic_few : length classic ≤ most_input
classic_few = let long : length classic ≡ 24 = refl in omega (arith, long)

blocks_few : length blocks ≤ most_input
blocks_few = let long : length blocks ≡ 56 = refl in omega (arith, long)

classic_input : IsInput [] classic classic
classic_input = (parted classic refl, classic_few)

blocks_input : IsInput [] blocks blocks
blocks_input = (parted blocks refl, blocks_few)

none_judged : IsVerdict no_ring [] (judged None)
none_judged = record {
  once = λ a b broken. absurd (cc broken.first);
  one_key = λ a b broken. none-given [] refl a b broken;
  uses = no_uses;
  timed = refl;
  changes = no_changes;
  unready = no_unready;
  members = no_members;
  unknown = refl;
}

abbrev told : List ℕ
told = report strict no_ring [] (judged None) Whole

no_unwrapped : All (IsUnwrapped no_ring) []
no_unwrapped = All-nil (IsUnwrapped no_ring)

classic_reported : IsReported strict classic (Some []) Whole blames.NotJudged (Some []) (Some told)
classic_reported = record {
  ring = no_ring;
  packets = [];
  verdict = judged None;
  read = record {
    said = refl;
    head = record { packet = None; known = begun (record { layout = Records Micros; order = Big }); rest = [] };
    opens = refl;
    unwrapped = no_unwrapped;
    few = let none : length (keys (entries no_ring [])) ≡ 0 = refl in omega (arith, none);
    first = ([], refl);
    ends = (classic_few, refl, refl);
  };
  judged = none_judged;
  blame_is = refl;
  written = refl;
}

whole-classic : IsWhole classic []
whole-classic = (classic_few, refl)

whole-blocks : IsWhole blocks []
whole-blocks = (blocks_few, refl)

-- nothing else is reported of the same in the other format
blocks_alike : IsOneKeyForOneWrap → (then : Option (List ℕ)) → IsReported strict blocks (Some []) Whole blames.NotJudged (Some []) then
    → Some told ≡ then
blocks_alike law then is =
    (one-report law strict [] classic blocks refl (λ ring said. keyed ring (cc said)) whole-classic whole-blocks Whole Whole
    (λ e. absurd (cc e)) (λ e. absurd (cc e)) (Some []) (Some []) (Some []) (Some told) then blames.NotJudged blames.NotJudged classic_reported is).2
  where
    keyed : (ring : Ring) → no_ring ≡ ring → AreKeyed ring
    keyed ring same = subst AreKeyed same (All-nil (λ g. IsKey g.kek))

nothing_refused : IsOneKeyForOneWrap → IsReported strict blocks (Some []) Whole blames.NotJudged (Some []) (Some []) → ⊥
unfolding digits
nothing_refused law is = absurd (cc (blocks_alike law (Some []) is))

-- ---- a packet once more

abbrev twice : List Unwrapped
twice = once_more 7 false foreign ∷ foreign ∷ []

twice_judged : IsVerdict no_ring twice (judged None)
twice_judged = record {
  once = λ a b broken. absurd (cc broken.first);
  one_key = λ a b broken. none-given [] refl a b broken;
  uses = no_uses;
  timed = refl;
  changes = no_changes;
  unready = no_unready;
  members = no_members;
  unknown = refl;
}

-- in the midst of others
midst_judged : IsVerdict no_ring (foreign ∷ twice) (judged None)
midst_judged = record {
  once = λ a b broken. absurd (cc broken.first);
  one_key = λ a b broken. none-given [] refl a b broken;
  uses = no_uses;
  timed = refl;
  changes = no_changes;
  unready = no_unready;
  members = no_members;
  unknown = refl;
}

-- a pair of the packet and one behind it, which is counted further
further : moved_pair 1 (1, 2) ≡ (1, 3)
further = refl

-- no pair appears
none_appears : IsVerdict no_ring twice (judged (Some (1, 2))) → ⊥
none_appears is = absurd (cc is.once.broken.first)

-- ---- a group that no packet names

abbrev strange : GroupKeys
strange = record { ckn = 1 ∷ []; kek = 2 ∷ []; ick = 3 ∷ [] }

foreign_names_none : IsOfOther strange foreign
foreign_names_none s ethernet e = absurd (cc ethernet)

told_with : told_lines strict (with_group no_ring strange) (foreign ∷ []) ≡ told_lines strict no_ring (foreign ∷ [])
told_with = refl

-- no line of another packet appears
not_told_with : told_lines strict (with_group no_ring strange) (foreign ∷ []) ≡ [] → ⊥
not_told_with e = absurd (cc e)
