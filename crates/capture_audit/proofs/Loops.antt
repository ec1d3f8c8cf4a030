-- Packets that wait are settled one after the other.
use Rattle.std.proofs.Common.{◌≡◌, ◌∙◌, ◌<◌, ◌+◌, ℕ, suc, Bool, List, [], ◌∷◌, ◌++◌, drop, get_or, length, Ok, Err, refl, sym, ap, subst, arith, append_assoc}
use Rattle.std.specs.Prelude.{Option, Result}
use Rattle.std.proofs.lemmas.List.{append-nil}
use Rattle.std.proofs.Math.Seq.{drop-cons}
use Rattle.audit_report.specs.Packets.{begun_part, begun_words}
use Rattle.capture_packets.specs.Packets.{Seen}
use Rattle.key_ring.specs.Rings.{Ring}
use Rattle.known_keys.specs.History.{Entry}
use Rattle.packet_verdicts.specs.declared.kind.Kind.{Kind}
use Rattle.packet_verdicts.specs.declared.kind.Kind.TheVariants as kinds
use Rattle.packet_verdicts.specs.declared.kind.Sec.TheVariants as secs
use Rattle.packet_verdicts.specs.Frames.{frame_of}
use Rattle.packet_verdicts.specs.Kinds.{packet_kind}
use Rattle.capture_audit.specs.declared.asks.Asks.{Asks}
use Rattle.capture_audit.specs.declared.auditor.Auditor.{Auditor}
use Rattle.capture_audit.specs.declared.batch.Waiting.{Waiting}
use Rattle.capture_audit.specs.declared.end.AuditEnd.{AuditEnd}
use Rattle.capture_audit.specs.declared.end.AuditEnd.TheVariants as ends
use Rattle.capture_audit.specs.Before.{Unwrapped, entries, number_behind}
use Rattle.capture_audit.specs.Reading.{in_order}
use Rattle.capture_audit.specs.Telling.{told_lines}
use Rattle.capture_audit.specs.inside.Batches.{AreTold, AreToldUpTo, AreWaiting, HaveSameKeys, IsTriedAt, IsWaiting, Tells, TellsAll, found_at}
use Rattle.capture_audit.specs.inside.Keeping.{IsFound, IsTried, Keeps}

tried-of : (told told_now : List Entry) (found : List (Option ℕ)) (packet : Seen) (place : Option ℕ) (k : Kind)
    → HaveSameKeys told told_now → IsTriedAt told found packet place k → IsTried told_now packet k (found_at found place)
tried-of told told_now found packet place (kinds.Sec (secs.Protected tag check)) same is =
    ap (λ (o : Option ℕ). found_at found o) is.1 ∙ is.3 ∙ sym (same.right tag (frame_of packet.octets))
tried-of told told_now found packet place _ same is = tt

-- an element, and those behind it
pub element-drop : (ws : List Waiting) (i : ℕ) (w : Waiting) → i < length ws → w ≡ get_or ws i w
    → drop i ws ≡ w ∷ drop (i + 1) ws
element-drop ws i w less is =
    let n : suc i ≡ i + 1 = omega arith in
    drop-cons ws i w less ∙ ap (λ (x : Waiting). x ∷ drop (suc i) ws) (sym is) ∙ ap (λ k. w ∷ drop k ws) n

module _ (asks : Asks) (ring : Ring) (before : List Unwrapped) (packets : List Seen) (found : List (Option ℕ))
    (ws : List Waiting) where
  is-found : (now : List Unwrapped) (n : ℕ) (p : Seen) (w : Waiting)
      → HaveSameKeys (entries ring before) (entries ring now)
      → IsWaiting asks ring (entries ring before) found n p w
      → IsFound ring now p w.head w.kind (found_at found w.trial)
  is-found now n p w same is = record {
    head_is = is.head;
    kind_is = is.kind;
    tried = subst (λ (k : Kind). IsTried (entries ring now) p k (found_at found w.trial)) (sym is.kind)
        (tried-of (entries ring before) (entries ring now) found p w.trial (packet_kind ring.groups p) same is.tried);
  }

  -- what telling one did, in whatever it stands behind
  abbrev pub TellsOne : Waiting → Auditor → Auditor → List ℕ → List ℕ → Result (Unit {0}) AuditEnd → Type 0
  TellsOne w a a_then text text_then r = (now : List Unwrapped) (p : Seen) → Keeps ring now a
      → IsFound ring now p w.head w.kind (found_at found w.trial)
      → w.line.items ≡ begun_part asks.shows (number_behind now) (begun_words (frame_of p.octets) (packet_kind ring.groups p))
      → Tells asks ring now p a a_then text text_then r

  pub begins : (a : Auditor) (text : List ℕ) → Keeps ring before a
      → AreWaiting asks ring (entries ring before) found (number_behind before) packets ws
      → AreToldUpTo asks ring before packets found ws 0 a text text
  begins a text keeps are = record {
    now = before;
    rest = packets;
    all = refl;
    left = are;
    keeps = keeps;
    same = record { key_list = refl; right = λ tag frame. refl };
    lines = λ written so. so;
  }

  goes-on : (i : ℕ) (w : Waiting) (a a_then : Auditor) (t0 text text_then : List ℕ)
      → TellsOne w a a_then text text_then (Ok tt)
      → (now : List Unwrapped) (rest : List Seen) → in_order now ++ rest ≡ in_order before ++ packets
      → AreWaiting asks ring (entries ring before) found (number_behind now) rest (w ∷ drop (i + 1) ws)
      → Keeps ring now a → HaveSameKeys (entries ring before) (entries ring now)
      → ((written : List ℕ) → written ++ t0 ≡ told_lines asks ring before → written ++ text ≡ told_lines asks ring now)
      → AreToldUpTo asks ring before packets found ws (i + 1) a_then t0 text_then
  goes-on i w a a_then t0 text text_then tells now [] all left keeps same lines = absurd left
  goes-on i w a a_then t0 text text_then tells now (p ∷ ps) all left keeps same lines =
      let is = left.0 in
      let told = tells now p keeps (is-found now (number_behind now) p w same is) is.line in
      let more = told.quiet is.quiet in
      record {
        now = told.now;
        rest = ps;
        all = ap (λ (xs : List Seen). xs ++ ps) told.all ∙ append_assoc (in_order now) (p ∷ []) ps ∙ all;
        left = subst (λ n. AreWaiting asks ring (entries ring before) found n ps (drop (i + 1) ws)) (sym told.number) left.1;
        keeps = told.keeps;
        same = record {
          key_list = more.key_list ∙ same.key_list;
          right = λ tag frame. more.right tag frame ∙ same.right tag frame;
        };
        lines = λ written so. told.lines written (lines written so);
      }

  pub goes : (i : ℕ) (w : Waiting) (a a_then : Auditor) (t0 text text_then : List ℕ)
      → drop i ws ≡ w ∷ drop (i + 1) ws → TellsOne w a a_then text text_then (Ok tt)
      → AreToldUpTo asks ring before packets found ws i a t0 text
      → AreToldUpTo asks ring before packets found ws (i + 1) a_then t0 text_then
  goes i w a a_then t0 text text_then e tells up =
      goes-on i w a a_then t0 text text_then tells up.now up.rest up.all
      (subst (λ (xs : List Waiting). AreWaiting asks ring (entries ring before) found (number_behind up.now) up.rest xs) e up.left)
      up.keeps up.same up.lines

  ends-in : (end : AuditEnd) (i : ℕ) (w : Waiting) (a a_then : Auditor) (t0 text text_then : List ℕ)
      → TellsOne w a a_then text text_then (Err end)
      → (now : List Unwrapped) (rest : List Seen)
      → AreWaiting asks ring (entries ring before) found (number_behind now) rest (w ∷ drop (i + 1) ws)
      → Keeps ring now a → HaveSameKeys (entries ring before) (entries ring now)
      → TellsAll asks ring before packets a_then t0 text_then (Err end)
  ends-in end i w a a_then t0 text text_then tells now [] left keeps same = absurd left
  ends-in ends.KeyLimit i w a a_then t0 text text_then tells now (p ∷ ps) left keeps same =
      let is = left.0 in
      let full = tells now p keeps (is-found now (number_behind now) p w same is) is.line in
      let quiet = is.quiet in
      let gives = full.2 in
      absurd (cc (quiet, gives))
  ends-in ends.Memory i w a a_then t0 text text_then tells now (p ∷ ps) left keeps same = tt
  ends-in _ i w a a_then t0 text text_then tells now (p ∷ ps) left keeps same =
      absurd (tells now p keeps (is-found now (number_behind now) p w same left.0) left.0.line)

  pub stops : (end : AuditEnd) (i : ℕ) (w : Waiting) (a a_then : Auditor) (t0 text text_then : List ℕ)
      → drop i ws ≡ w ∷ drop (i + 1) ws → TellsOne w a a_then text text_then (Err end)
      → AreToldUpTo asks ring before packets found ws i a t0 text
      → TellsAll asks ring before packets a_then t0 text_then (Err end)
  stops end i w a a_then t0 text text_then e tells up =
      ends-in end i w a a_then t0 text text_then tells up.now up.rest
      (subst (λ (xs : List Waiting). AreWaiting asks ring (entries ring before) found (number_behind up.now) up.rest xs) e up.left)
      up.keeps up.same

  none-left : (told : List Entry) (n : ℕ) (rest : List Seen) → AreWaiting asks ring told found n rest [] → rest ≡ []
  none-left told n [] are = refl
  none-left told n (p ∷ ps) are = absurd are

  pub is-done : (i : ℕ) (a : Auditor) (t0 text : List ℕ) → drop i ws ≡ []
      → AreToldUpTo asks ring before packets found ws i a t0 text
      → AreTold asks ring before packets a t0 text
  is-done i a t0 text e up =
      let none = none-left (entries ring before) (number_behind up.now) up.rest
      (subst (λ (xs : List Waiting). AreWaiting asks ring (entries ring before) found (number_behind up.now) up.rest xs) e up.left) in
      record {
        now = up.now;
        all = sym (append-nil (in_order up.now)) ∙ ap (λ (xs : List Seen). in_order up.now ++ xs) (sym none) ∙ up.all;
        keeps = up.keeps;
        lines = up.lines;
      }
