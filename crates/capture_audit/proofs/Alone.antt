-- A packet is settled alone.
use Rattle.std.proofs.Common.{◌≡◌, ◌∙◌, ◌<◌, ◌+◌, ℕ, Bool, true, List, [], ◌∷◌, ◌++◌, length, None, Ok, Err, refl, sym, ap, subst, append_assoc}
use Rattle.std.specs.Prelude.{Option, Result, OnOk}
use Rattle.std.proofs.lemmas.List.{append-nil}
use Rattle.audit_report.specs.Packets.{begun_part, begun_words}
use Rattle.audit_report.specs.declared.tally.Tally.{Tally}
use Rattle.capture_packets.specs.Packets.{Seen}
use Rattle.capture_packets.specs.declared.packet.PacketHead.{PacketHead}
use Rattle.key_ring.specs.Rings.{Ring}
use Rattle.lan_base.specs.Told.{after}
use Rattle.packet_verdicts.specs.declared.kind.Kind.{Kind}
use Rattle.packet_verdicts.specs.declared.kind.Kind.TheVariants as kinds
use Rattle.packet_verdicts.specs.Frames.{frame_of}
use Rattle.packet_verdicts.specs.Kinds.{packet_kind}
use Rattle.capture_audit.specs.declared.asks.Asks.{Asks}
use Rattle.capture_audit.specs.declared.auditor.Auditor.{Auditor}
use Rattle.capture_audit.specs.declared.batch.Batch.{Batch}
use Rattle.capture_audit.specs.declared.batch.Waiting.{Waiting}
use Rattle.capture_audit.specs.declared.end.AuditEnd.{AuditEnd}
use Rattle.capture_audit.specs.declared.end.AuditEnd.TheVariants as ends
use Rattle.capture_audit.specs.Before.{Unwrapped, entries, number_behind}
use Rattle.capture_audit.specs.Reading.{in_order}
use Rattle.capture_audit.specs.Telling.{told_lines}
use Rattle.capture_audit.specs.inside.Batches.{AreWaiting, IsJudged, IsPartWritten, IsTold, SettlesAlone, StandsAt, Tells, Writes, answers, distributes}
use Rattle.capture_audit.specs.inside.Keeping.{IsFound, IsTried, Keeps}
use Rattle.capture_audit.proofs.Behind.{told-length}
use Rattle.capture_audit.proofs.Standing.{after-none, none-written}

-- a packet that gives a key is tried under none
alone-tried : (ring : Ring) (before : List Unwrapped) (p : Seen) (k : Kind) → distributes k ≡ true
    → IsTried (entries ring before) p k None
alone-tried ring before p (kinds.Sec sec) gives = absurd (cc gives)
alone-tried ring before p _ gives = tt

pub alone-found : (ring : Ring) (before : List Unwrapped) (p : Seen) (head : PacketHead) (kind : Kind) (frame : List ℕ)
    → IsJudged ring p head kind frame → distributes kind ≡ true → IsFound ring before p head kind None
alone-found ring before p head kind frame judged gives = record {
  head_is = judged.head_is;
  kind_is = judged.kind_is;
  tried = alone-tried ring before p kind gives;
}

pub alone-begun : (asks : Asks) (ring : Ring) (before : List Unwrapped) (p : Seen) (head : PacketHead) (kind : Kind)
    (frame : List ℕ) (a : Auditor) (line : List ℕ) → IsJudged ring p head kind frame → Keeps ring before a
    → line ≡ begun_part asks.shows (a.tally.all + 1) (begun_words frame kind)
    → line ≡ begun_part asks.shows (number_behind before) (begun_words (frame_of p.octets) (packet_kind ring.groups p))
alone-begun asks ring before p head kind frame a line judged keeps is =
    is ∙ ap (λ n. begun_part asks.shows n (begun_words frame kind))
    (ap (λ (t : Tally). t.all + 1) keeps.tally ∙ ap (λ n. n + 1) (told-length ring before))
    ∙ ap (λ (k : Kind). begun_part asks.shows (number_behind before) (begun_words frame k)) judged.kind_is
    ∙ ap (λ (f : List ℕ). begun_part asks.shows (number_behind before) (begun_words f (packet_kind ring.groups p))) judged.frame_is

module _ (asks : Asks) (ring : Ring) (before : List Unwrapped) (p : Seen) (written : List ℕ) (a : Auditor) (b : Batch)
    (stands : StandsAt asks ring before [] written a b) where
  pub alone-stops : (end : AuditEnd) (a_then : Auditor) (b_then : Batch) (text_then : List ℕ) (held : Option (List ℕ))
      → b_then.text.items ≡ text_then
      → Tells b.asks ring before p a a_then b.text.items text_then (Err end)
      → SettlesAlone asks ring before p written held held a_then b_then (Err end)
  alone-stops ends.KeyLimit a_then b_then text_then held same is =
      let old = is.0.same in
      record {
        now = before;
        all = sym (append-nil (in_order before));
        more = [];
        written_is = after-none held;
        keeps = subst (λ (x : Auditor). Keeps ring before x) (sym old) stands.keeps;
        lines = ap (λ (xs : List ℕ). xs ++ b_then.text.items) (append-nil written)
            ∙ ap (λ (xs : List ℕ). written ++ xs) (same ∙ is.1) ∙ stands.lines;
        full = record { gift = is.0.gift; unwrapped = is.0.unwrapped; many = is.0.many; same = refl };
      }
  alone-stops ends.Memory a_then b_then text_then held same is =
      none-written asks ring before (p ∷ []) written held a b [] [] stands
  alone-stops _ a_then b_then text_then held same is = absurd is

  pub alone-memory : (held : Option (List ℕ)) → IsPartWritten asks ring before (p ∷ []) written held held
  alone-memory held = none-written asks ring before (p ∷ []) written held a b [] [] stands

  none-waiting : (ws : List Waiting) → AreWaiting asks ring (entries ring before) (answers (entries ring before) b.trials.items) (number_behind before) [] ws
      → ws ≡ []
  none-waiting [] are = refl
  none-waiting (w ∷ ws) are = absurd are

  pub alone-writes : (a_then : Auditor) (b_then : Batch) (text_then : List ℕ) (held then : Option (List ℕ))
      (r : Result (Unit {0}) AuditEnd) → IsTold b.asks ring before p a_then b.text.items text_then
      → Writes text_then held then r → b_then.asks ≡ b.asks → b_then.waiting.items ≡ b.waiting.items
      → OnOk r (b_then.text.items ≡ [])
      → SettlesAlone asks ring before p written held then a_then b_then r
  alone-writes a_then b_then text_then held then r told =
      elim r as (λ (r : Result (Unit {0}) AuditEnd). Writes text_then held then r → b_then.asks ≡ b.asks → b_then.waiting.items ≡ b.waiting.items
      → OnOk r (b_then.text.items ≡ [])
      → SettlesAlone asks ring before p written held then a_then b_then r) [
        | Ok done ↦ λ writes asks_too same empty. record {
          now = told.now;
          all = told.all;
          more = text_then;
          written_is = writes;
          stands = record {
            keeps = told.keeps;
            asks_are = asks_too ∙ stands.asks_are;
            waits = subst (λ (ws : List Waiting). AreWaiting asks ring (entries ring told.now) (answers (entries ring told.now) b_then.trials.items) (number_behind told.now) [] ws)
                (sym (same ∙ none-waiting b.waiting.items stands.waits)) tt;
            lines = ap (λ (xs : List ℕ). (written ++ text_then) ++ xs) empty ∙ append-nil (written ++ text_then) ∙ so;
          };
          empty = empty;
        }
        | Err end ↦ λ writes asks_too same empty. on-err end writes
      ]
    where
      so : written ++ text_then ≡ told_lines asks ring told.now
      so = subst (λ (s : Asks). written ++ text_then ≡ told_lines s ring told.now) stands.asks_are
          (told.lines written (subst (λ (s : Asks). written ++ b.text.items ≡ told_lines s ring before) (sym stands.asks_are) stands.lines))

      part : (more : List ℕ) × (rest : List ℕ) × (0 < length rest) × (more ++ rest ≡ text_then) × (then ≡ after held more)
          → IsPartWritten asks ring before (p ∷ []) written held then
      part it = record {
        now = told.now;
        later = [];
        all = append-nil (in_order told.now) ∙ told.all;
        unwrapped = told.keeps.unwrapped;
        more = it.0;
        rest = it.1;
        lines = append_assoc written it.0 it.1 ∙ ap (λ (xs : List ℕ). written ++ xs) it.3 ∙ so;
        written_is = it.4;
      }

      on-err : (end : AuditEnd) → Writes text_then held then (Err end)
          → SettlesAlone asks ring before p written held then a_then b_then (Err end)
      on-err ends.WriteFault it = part it
      on-err ends.Memory it = part it
      on-err _ it = absurd it
