-- Where an audit stands, and where it stands behind all that wait.
use Rattle.std.proofs.Common.{◌≡◌, ◌∙◌, ◌<◌, ℕ, Bool, List, [], ◌++◌, length, Some, None, Ok, Err, refl, sym, ap, subst, append_assoc}
use Rattle.std.specs.Prelude.{Option, Result, OnOk}
use Rattle.std.proofs.lemmas.List.{append-nil}
use Rattle.lan_base.specs.Told.{after}
use Rattle.capture_packets.specs.Packets.{Seen}
use Rattle.key_ring.specs.Rings.{Ring}
use Rattle.capture_audit.specs.declared.asks.Asks.{Asks}
use Rattle.capture_audit.specs.declared.auditor.Auditor.{Auditor}
use Rattle.capture_audit.specs.declared.batch.Batch.{Batch}
use Rattle.capture_audit.specs.declared.batch.Waiting.{Waiting}
use Rattle.capture_audit.specs.declared.end.AuditEnd.{AuditEnd}
use Rattle.capture_audit.specs.declared.end.AuditEnd.TheVariants as ends
use Rattle.capture_audit.specs.Before.{Unwrapped, entries, number_behind}
use Rattle.capture_audit.specs.Reading.{in_order}
use Rattle.capture_audit.specs.Telling.{told_lines}
use Rattle.capture_audit.specs.inside.Batches.{AreTold, AreWaiting, IsPartWritten, SettlesUp, StandsAt, TellsAll, Writes, answers}

pub after-none : (held : Option (List ℕ)) → held ≡ after held []
after-none None = refl
after-none (Some octets) = ap (λ (xs : List ℕ). Some xs) (sym (append-nil octets))

-- nothing more is written
pub none-written : (asks : Asks) (ring : Ring) (before : List Unwrapped) (packets : List Seen) (written : List ℕ)
    (held : Option (List ℕ)) (a : Auditor) (b : Batch) (waiting : List Seen) (later : List Seen)
    → StandsAt asks ring before waiting written a b
    → IsPartWritten asks ring before packets written held held
none-written asks ring before packets written held a b waiting later stands = record {
  now = before;
  later = packets;
  all = refl;
  unwrapped = stands.keeps.unwrapped;
  more = [];
  rest = b.text.items;
  lines = ap (λ (xs : List ℕ). xs ++ b.text.items) (append-nil written) ∙ stands.lines;
  written_is = after-none held;
}

module _ (asks : Asks) (ring : Ring) (before : List Unwrapped) (packets : List Seen) (written : List ℕ)
    (a : Auditor) (b : Batch) (stands : StandsAt asks ring before packets written a b) where
  pub waits-found : (found : List (Option ℕ)) (ws : List Waiting)
      → found ≡ answers (entries ring before) b.trials.items → ws ≡ b.waiting.items
      → AreWaiting b.asks ring (entries ring before) found (number_behind before) packets ws
  waits-found found ws e same =
      subst (λ (s : Asks). AreWaiting s ring (entries ring before) found (number_behind before) packets ws) (sym stands.asks_are)
      (subst (λ (f : List (Option ℕ)). AreWaiting asks ring (entries ring before) f (number_behind before) packets ws) (sym e)
      (subst (λ (xs : List Waiting). AreWaiting asks ring (entries ring before) (answers (entries ring before) b.trials.items) (number_behind before) packets xs) (sym same) stands.waits))

  pub stops-before : (end : AuditEnd) (asks_too : Asks) (a_then : Auditor) (b_then : Batch) (text text_then : List ℕ)
      (held : Option (List ℕ)) → TellsAll asks_too ring before packets a_then text text_then (Err end)
      → SettlesUp asks ring before packets written held held a_then b_then (Err end)
  stops-before ends.Memory asks_too a_then b_then text text_then held is =
      none-written asks ring before packets written held a b packets [] stands
  stops-before _ asks_too a_then b_then text text_then held is = absurd is

  pub writes-all : (a_then : Auditor) (b_then : Batch) (text text_then : List ℕ) (held then : Option (List ℕ))
      (r : Result (Unit {0}) AuditEnd) → text ≡ b.text.items
      → AreTold b.asks ring before packets a_then text text_then
      → Writes text_then held then r → b_then.asks ≡ b.asks → b_then.waiting.items ≡ []
      → OnOk r (b_then.text.items ≡ [])
      → SettlesUp asks ring before packets written held then a_then b_then r
  writes-all a_then b_then text text_then held then r same told =
      elim r as (λ (r : Result (Unit {0}) AuditEnd). Writes text_then held then r → b_then.asks ≡ b.asks → b_then.waiting.items ≡ []
      → OnOk r (b_then.text.items ≡ [])
      → SettlesUp asks ring before packets written held then a_then b_then r) [
        | Ok done ↦ λ writes asks_too none empty. record {
          now = told.now;
          all = told.all;
          more = text_then;
          written_is = writes;
          stands = record {
            keeps = told.keeps;
            asks_are = asks_too ∙ stands.asks_are;
            waits = subst (λ (ws : List Waiting). AreWaiting asks ring (entries ring told.now) (answers (entries ring told.now) b_then.trials.items) (number_behind told.now) [] ws) (sym none) tt;
            lines = ap (λ (xs : List ℕ). (written ++ text_then) ++ xs) empty ∙ append-nil (written ++ text_then) ∙ so;
          };
          empty = empty;
        }
        | Err end ↦ λ writes asks_too none empty. on-err end writes
      ]
    where
      so : written ++ text_then ≡ told_lines asks ring told.now
      so = subst (λ (s : Asks). written ++ text_then ≡ told_lines s ring told.now) stands.asks_are
          (told.lines written (ap (λ (xs : List ℕ). written ++ xs) same ∙ subst (λ (s : Asks). written ++ b.text.items ≡ told_lines s ring before) (sym stands.asks_are) stands.lines))

      part : (more : List ℕ) × (rest : List ℕ) × (0 < length rest) × (more ++ rest ≡ text_then) × (then ≡ after held more)
          → IsPartWritten asks ring before packets written held then
      part it = record {
        now = told.now;
        later = [];
        all = append-nil (in_order told.now) ∙ told.all;
        unwrapped = told.keeps.unwrapped;
        more = it.0;
        rest = it.1;
        lines = append_assoc written it.0 it.1 ∙ ap (λ (xs : List ℕ). written ++ xs) it.3 ∙ so;
        written_is = it.4;
      }

      on-err : (end : AuditEnd) → Writes text_then held then (Err end)
          → SettlesUp asks ring before packets written held then a_then b_then (Err end)
      on-err ends.WriteFault it = part it
      on-err ends.Memory it = part it
      on-err _ it = absurd it
