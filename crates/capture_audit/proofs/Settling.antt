-- What settling a packet does.
use Rattle.std.proofs.Common.{◌≡◌, ◌∙◌, ◌<◌, ◌≤◌, ℕ, Bool, List, ◌∷◌, ◌++◌, length, None, Ok, Err, refl, sym, ap, subst}
use Rattle.std.specs.Prelude.{Option, option_map, Result}
use Rattle.std.proofs.lemmas.List.Elements.{All-cons}
use Rattle.audit_facts.specs.Noted.{IsNext, Noted, noted_of}
use Rattle.audit_facts.specs.Standing.{KeptFacts, StandsFor as FactsStandFor}
use Rattle.audit_report.specs.Packets.{begun_words}
use Rattle.audit_report.specs.Tallies.{tally_of}
use Rattle.audit_report.specs.declared.finding.Finding.{Finding}
use Rattle.audit_report.specs.declared.tally.Tally.{Tally}
use Rattle.capture_packets.specs.Packets.{Seen}
use Rattle.capture_packets.specs.declared.packet.PacketHead.{PacketHead}
use Rattle.key_ring.specs.Rings.{Ring}
use Rattle.known_keys.specs.History.{Entry, keys}
use Rattle.packet_verdicts.specs.declared.given.Gift.{Gift}
use Rattle.packet_verdicts.specs.declared.kind.Kind.{Kind}
use Rattle.packet_verdicts.specs.declared.kind.Kind.TheVariants as kinds
use Rattle.packet_verdicts.specs.declared.kind.Mka.{Mka}
use Rattle.packet_verdicts.specs.declared.kind.Sec.{Sec}
use Rattle.packet_verdicts.specs.declared.kind.Sec.TheVariants as secs
use Rattle.packet_verdicts.specs.Frames.{frame_of}
use Rattle.packet_verdicts.specs.Kinds.{packet_kind}
use Rattle.use_notes.specs.declared.frame.RightFrame.{RightFrame}
use Rattle.capture_audit.specs.declared.auditor.Auditor.{Auditor}
use Rattle.capture_audit.specs.declared.end.AuditEnd.{AuditEnd}
use Rattle.capture_audit.specs.declared.end.AuditEnd.TheVariants as ends
use Rattle.capture_audit.specs.Before.{IsUnwrapped, Unwrapped, UnwrapsBy, entries, entries_by, frame_by, frames, kind_in, mkpdu_by, mkpdus, number_behind, right_under, with_some}
use Rattle.capture_audit.specs.Findings.{finding, finding_by, sec_finding}
use Rattle.known_keys.specs.Numbered.{most_keys}
use Rattle.capture_audit.specs.Telling.{all_told, noted}
use Rattle.capture_audit.specs.inside.Keeping.{Finds, Handles, Holds, IsFindable, IsFound, IsSettled, IsTried, Keeps, NotesSec, Settles, frame_under}
use Rattle.capture_audit.proofs.Noting.{is-next}

module _ (ring : Ring) (before : List Unwrapped) (seen : Seen) where
  abbrev with_gift : Option Gift → Unwrapped
  with_gift gift = record { packet = seen; gift = gift }

  abbrev keys_by : Option Gift → Kind → List Entry
  keys_by gift k = entries_by (number_behind before) seen.head.nanos gift k ++ entries ring before

  abbrev HoldsBy : Option Gift → Auditor → Kind → Type 0
  HoldsBy gift new k = Holds ring.groups (keys_by gift k)
      (with_some (frame_by (entries ring before) (number_behind before) seen k) (frames ring before))
      (with_some (mkpdu_by (number_behind before) k) (mkpdus ring before)) new

  -- by the kind of a packet
  pub findable : (gift : Option Gift) (it : Finding) (new : Auditor) (k : Kind) → packet_kind ring.groups seen ≡ k
      → UnwrapsBy ring.groups gift k → it ≡ finding_by ring before (with_gift gift) k → HoldsBy gift new k
      → length (keys (keys_by gift k)) ≤ most_keys → IsFindable ring before seen it new
  findable gift it new k e unwraps is holds few = record {
    gift = gift;
    unwrapped = subst (λ (k : Kind). UnwrapsBy ring.groups gift k) (sym e) unwraps;
    told_is = subst (λ (k : Kind). it ≡ finding_by ring before (with_gift gift) k) (sym e) is;
    holds = subst (λ (k : Kind). HoldsBy gift new k) (sym e) holds;
    few = subst (λ (k : Kind). length (keys (keys_by gift k)) ≤ most_keys) (sym e) few;
  }

  frame-found : (sec : Sec) (newest : Option ℕ) → IsTried (entries ring before) seen (kinds.Sec sec) newest
      → frame_under (number_behind before) seen.head.nanos newest sec
      ≡ frame_by (entries ring before) (number_behind before) seen (kinds.Sec sec)
  frame-found secs.Cut newest tried = refl
  frame-found (secs.Malformed why) newest tried = refl
  frame-found (secs.Protected tag check) newest tried =
      ap (λ (o : Option ℕ). option_map (right_under (number_behind before) seen.head.nanos tag check) o) tried

  pub sec-found : (sec : Sec) (newest : Option ℕ) (it : Finding) (new : Auditor)
      → packet_kind ring.groups seen ≡ kinds.Sec sec → IsTried (entries ring before) seen (kinds.Sec sec) newest
      → NotesSec ring.groups (entries ring before) (frames ring before) (mkpdus ring before) (number_behind before)
      seen.head.nanos newest sec new it
      → length (keys (entries ring before)) ≤ most_keys → IsFindable ring before seen it new
  sec-found sec newest it new e tried notes few =
      let same = frame-found sec newest tried in
      findable None it new (kinds.Sec sec) e refl
      (subst (λ (o : Option RightFrame). it ≡ sec_finding (entries ring before) (frames ring before) o seen.head.nanos sec) same notes.0)
      (subst (λ (o : Option RightFrame). Holds ring.groups (entries ring before) (with_some o (frames ring before)) (mkpdus ring before) new) same notes.1)
      few

  pub mka-finds : (mka : Mka) (old new : Auditor) (r : Result Finding AuditEnd)
      → packet_kind ring.groups seen ≡ kinds.Mka mka
      → Handles ring.groups (entries ring before) (frames ring before) (mkpdus ring before) (number_behind before)
      seen.head.nanos mka old new r
      → Finds ring before seen old new r
  mka-finds mka old new (Ok it) e h = findable h.gift it new (kinds.Mka mka) e h.unwrapped h.told_is h.holds h.few
  mka-finds mka old new (Err ends.KeyLimit) e h = record {
    gift = h.gift;
    unwrapped = subst (λ (k : Kind). UnwrapsBy ring.groups h.gift k) (sym e) h.unwrapped;
    many = subst (λ (k : Kind). most_keys < length (keys (keys_by h.gift k))) (sym e) h.many;
    same = h.same;
  }
  mka-finds mka old new (Err ends.Memory) e h = tt
  mka-finds mka old new (Err _) e h = absurd h

  -- what is noted of a packet is what is noted behind those before it
  noted-is : (it : Finding) (new : Auditor) (head : PacketHead) (kind : Kind) (newest : Option ℕ)
      (found : IsFindable ring before seen it new) → IsFound ring before seen head kind newest
      → noted_of it head.nanos kind
      ≡ noted_of (finding ring before (with_gift found.gift)) seen.head.nanos (kind_in ring (with_gift found.gift))
  noted-is it new head kind newest found is =
      ap (λ (f : Finding). noted_of f head.nanos kind) found.told_is
      ∙ ap (λ (h : PacketHead). noted_of (finding ring before (with_gift found.gift)) h.nanos kind) is.head_is
      ∙ ap (λ (k : Kind). noted_of (finding ring before (with_gift found.gift)) seen.head.nanos k) is.kind_is

  pub next-found : (it : Finding) (new : Auditor) (head : PacketHead) (kind : Kind) (newest : Option ℕ)
      → IsFindable ring before seen it new → IsFound ring before seen head kind newest
      → IsNext (noted ring before) (noted_of it head.nanos kind)
  next-found it new head kind newest found is =
      subst (λ (n : Noted). IsNext (noted ring before) n) (sym (noted-is it new head kind newest found is))
      (is-next ring before (with_gift found.gift))

  pub settled : (it : Finding) (head : PacketHead) (kind : Kind) (newest : Option ℕ) (old new : Auditor)
      (facts : KeptFacts) (tally : Tally) → Keeps ring before old
      → IsFindable ring before seen it new → IsFound ring before seen head kind newest
      → FactsStandFor (noted_of it head.nanos kind ∷ noted ring before) facts
      → tally ≡ tally_of (record {
        begun = begun_words (frame_of seen.octets) (packet_kind ring.groups seen);
        finding = it;
        is_untimed = head.is_untimed;
      } ∷ all_told ring before)
      → IsSettled ring before seen it (record new { facts = facts; tally = tally })
  settled it head kind newest old new facts tally keeps found same stands is = record {
    gift = found.gift;
    told_is = found.told_is;
    keeps = record {
      holds = record {
        groups_are = found.holds.groups_are;
        known = found.holds.known;
        uses = found.holds.uses;
        members = found.holds.members;
      };
      facts = subst (λ (n : Noted). FactsStandFor (n ∷ noted ring before) facts)
          (noted-is it new head kind newest found same) stands;
      tally = is ∙ ap (λ (f : Finding). counted f head.is_untimed) found.told_is
          ∙ ap (λ (h : PacketHead). counted (finding_by ring before (with_gift found.gift) (packet_kind ring.groups seen)) h.is_untimed) same.head_is;
      unwrapped = All-cons (IsUnwrapped ring) (with_gift found.gift) before found.unwrapped keeps.unwrapped;
      few = found.few;
    };
  }
    where
      counted : Finding → Bool → Tally
      counted f untimed = tally_of (record {
        begun = begun_words (frame_of seen.octets) (packet_kind ring.groups seen);
        finding = f;
        is_untimed = untimed;
      } ∷ all_told ring before)

  pub settles-err : (end : AuditEnd) (old new : Auditor) → Finds ring before seen old new (Err end)
      → Settles ring before seen old new (Err end)
  settles-err ends.KeyLimit old new h = h
  settles-err ends.Memory old new h = tt
  settles-err _ old new h = absurd h
