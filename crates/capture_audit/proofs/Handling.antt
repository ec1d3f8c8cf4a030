-- What a right MKPDU does.
use Rattle.std.proofs.Common.{◌≡◌, ◌<◌, ◌≤◌, ◌-◌, ◌⊎◌, inl, inr, ℕ, List, ◌∷◌, ◌++◌, length, Some, None, Err, sym, ap, subst, arith, get_or}
use Rattle.std.specs.Prelude.{Option, slice_get}
use Rattle.std.proofs.lemmas.Option.{slice_get_cases}
use Rattle.audit_report.specs.declared.finding.Finding.TheVariants as findings
use Rattle.audit_report.specs.declared.finding.Handed.{Handed}
use Rattle.known_keys.specs.declared.fault.KeyError.{KeyError}
use Rattle.known_keys.specs.declared.fault.KeyError.TheVariants.{TooManyKeys, Memory}
use Rattle.known_keys.specs.History.{Entry, keys}
use Rattle.known_keys.specs.Standing.{KeptKeys, StandsFor as KnownStandsFor}
use Rattle.member_notes.specs.declared.mkpdu.RightMkpdu.{RightMkpdu}
use Rattle.member_notes.specs.declared.novelty.MkpduNovelty.{MkpduNovelty}
use Rattle.member_notes.specs.Mkpdus.{novelty_in}
use Rattle.member_notes.specs.Standing.{StandsFor as MembersStandFor}
use Rattle.mkpdu_codec.specs.declared.spelled.Spelled.{Spelled}
use Rattle.packet_verdicts.specs.declared.given.Gift.{Gift}
use Rattle.packet_verdicts.specs.declared.given.ShownKeys.{ShownKeys}
use Rattle.packet_verdicts.specs.declared.kind.Mka.TheVariants.{Right}
use Rattle.packet_verdicts.specs.declared.kind.Kind.TheVariants as kinds
use Rattle.packet_verdicts.specs.Given.{Gives, shown_keys}
use Rattle.packet_verdicts.specs.Groups.{GroupKeys}
use Rattle.use_notes.specs.declared.frame.RightFrame.{RightFrame}
use Rattle.use_notes.specs.Standing.{StandsFor as UsesStandFor}
use Rattle.capture_audit.specs.declared.auditor.Auditor.{Auditor}
use Rattle.capture_audit.specs.Before.{UnwrapsBy, gift_entries, mkpdu_of, shown_entries}
use Rattle.capture_audit.specs.Giving.{handed}
use Rattle.known_keys.specs.Numbered.{most_keys}
use Rattle.capture_audit.specs.inside.Keeping.{Handles, HandsOver, IsHandled, end_of_key}
use Rattle.capture_audit.proofs.Behind.{mkpdu-behind, mkpdu-keys}

-- the group of a number is there
pub group-there : (groups : List GroupKeys) (group : ℕ) → 1 ≤ group → group ≤ length groups
    → (keys : GroupKeys) × (slice_get groups (group - 1) ≡ Some keys)
group-there groups group first last = go (slice_get_cases groups (group - 1)).1
  where
    go : ((x : GroupKeys) × (group - 1 < length groups) × (slice_get groups (group - 1) ≡ Some x) × (get_or groups (group - 1) x ≡ x))
        ⊎ ((length groups ≤ group - 1) × (slice_get groups (group - 1) ≡ None))
        → (keys : GroupKeys) × (slice_get groups (group - 1) ≡ Some keys)
    go (inl it) = (it.0, it.2)
    go (inr past) = let p = past.0 in absurd (omega (arith, p, first, last))

pub unwraps : (groups : List GroupKeys) (group : ℕ) (s : Spelled) (gift : Option Gift) → 1 ≤ group
    → group ≤ length groups
    → ((keys : GroupKeys) → slice_get groups (group - 1) ≡ Some keys → Gives keys.kek s.announcement gift)
    → UnwrapsBy groups gift (kinds.Mka (Right group s))
unwraps groups group s gift first last gives =
    let it = group-there groups group first last in
    (it.0, it.1, gives it.0 it.1)

pub overfull : (groups : List GroupKeys) (told : List Entry) (rights : List RightFrame) (spelled : List RightMkpdu)
    (n nanos group : ℕ) (s : Spelled) (gift : Option Gift) (old : Auditor) (known : KeptKeys) (e : KeyError)
    → UnwrapsBy groups gift (kinds.Mka (Right group s))
    → HandsOver told n nanos group gift old.known known (Err e)
    → Handles groups told rights spelled n nanos (Right group s) old (record old { known = known }) (Err (end_of_key e))
overfull groups told rights spelled n nanos group s gift old known TooManyKeys is it = record {
  gift = gift;
  unwrapped = is;
  many = subst (λ ks. most_keys < length ks) (sym (mkpdu-keys n nanos group (shown_keys s.announcement.uses) gift told)) it.0;
  same = ap (λ (k : KeptKeys). record old { known = k }) it.1;
}
overfull groups told rights spelled n nanos group s gift old known Memory is it = tt

pub handled : (groups : List GroupKeys) (told : List Entry) (rights : List RightFrame) (spelled : List RightMkpdu)
    (n nanos group : ℕ) (s : Spelled) (gift : Option Gift) (it : Option Handed) (novelty : MkpduNovelty)
    (shown : ShownKeys) (new : Auditor)
    → UnwrapsBy groups gift (kinds.Mka (Right group s))
    → shown ≡ shown_keys s.announcement.uses → it ≡ handed told n nanos group gift
    → novelty ≡ novelty_in spelled (mkpdu_of n group s)
    → new.groups ≡ groups
    → KnownStandsFor (shown_entries n nanos group shown.old ++ (shown_entries n nanos group shown.latest
    ++ (gift_entries n nanos group gift ++ told))) new.known
    → UsesStandFor rights new.uses → MembersStandFor (mkpdu_of n group s ∷ spelled) new.members
    → length (keys (gift_entries n nanos group gift ++ told)) ≤ most_keys
    → IsHandled groups told rights spelled n nanos (Right group s)
    (findings.RightMkpdu (mkpdu_of n group s) novelty it) new
handled groups told rights spelled n nanos group s gift it novelty shown new is shows hands notes same known uses members few =
    let behind = mkpdu-behind n nanos group (shown_keys s.announcement.uses) gift told in
    let then = subst (λ (sh : ShownKeys). KnownStandsFor (shown_entries n nanos group sh.old ++ (shown_entries n nanos group sh.latest
    ++ (gift_entries n nanos group gift ++ told))) new.known) shows known in
    record {
      gift = gift;
      unwrapped = is;
      told_is = cc (hands, notes);
      holds = record {
        groups_are = same;
        known = subst (λ (es : List Entry). KnownStandsFor es new.known) (sym behind) then;
        uses = uses;
        members = members;
      };
      few = subst (λ ks. length ks ≤ most_keys) (sym (mkpdu-keys n nanos group (shown_keys s.announcement.uses) gift told)) few;
    }
