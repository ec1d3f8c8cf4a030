-- A packet is taken.
use Rattle.std.proofs.Common.{◌≡◌, ◌∙◌, ℕ, Bool, List, [], ◌∷◌, ◌++◌, Some, None, Ok, Err, refl, sym, ap, subst, append_assoc}
use Rattle.std.specs.Prelude.{Option, Result}
use Rattle.std.proofs.lemmas.List.{append-nil}
use Rattle.capture_packets.specs.Packets.{Seen}
use Rattle.capture_packets.specs.declared.packet.PacketHead.{PacketHead}
use Rattle.key_ring.specs.Rings.{Ring}
use Rattle.lan_base.specs.Told.{after}
use Rattle.packet_verdicts.specs.declared.kind.Kind.{Kind}
use Rattle.packet_verdicts.specs.Frames.{frame_of}
use Rattle.packet_verdicts.specs.Groups.{GroupKeys}
use Rattle.packet_verdicts.specs.Kinds.{Fits, packet_kind}
use Rattle.capture_audit.specs.declared.asks.Asks.{Asks}
use Rattle.capture_audit.specs.declared.auditor.Auditor.{Auditor}
use Rattle.capture_audit.specs.declared.batch.Batch.{Batch}
use Rattle.capture_audit.specs.declared.end.AuditEnd.{AuditEnd}
use Rattle.capture_audit.specs.declared.end.AuditEnd.TheVariants as ends
use Rattle.capture_audit.specs.Before.{Unwrapped}
use Rattle.capture_audit.specs.Reading.{in_order}
use Rattle.capture_audit.specs.inside.Batches.{IsFurther, IsJudged, IsPartWritten, IsSettledUp, SettlesAlone, SettlesUp, StandsAt, Takes}
use Rattle.capture_audit.proofs.Standing.{after-none, none-written}

-- what a packet is fits its frame
abbrev pub AllFit : Type 0
AllFit = (groups : List GroupKeys) (p : Seen) → Fits groups (frame_of p.octets) (packet_kind groups p)

-- what was judged fits
pub judged-fits : AllFit → (groups : List GroupKeys) (p : Seen) (kind : Kind) (frame : List ℕ) → kind ≡ packet_kind groups p
    → frame ≡ frame_of p.octets → Fits groups frame kind
judged-fits fits groups p kind frame is e =
    subst (λ (f : List ℕ). Fits groups f kind) (sym e)
    (subst (λ (k : Kind). Fits groups (frame_of p.octets) k) (sym is) (fits groups p))

pub judged-so : (ring : Ring) (groups : List GroupKeys) (p : Seen) (head : PacketHead) (kind : Kind) (frame : List ℕ)
    → groups ≡ ring.groups → head ≡ p.head → kind ≡ packet_kind groups p → frame ≡ frame_of p.octets
    → IsJudged ring p head kind frame
judged-so ring groups p head kind frame same is_head is_kind is_frame = record {
  head_is = is_head;
  kind_is = is_kind ∙ ap (λ (gs : List GroupKeys). packet_kind gs p) same;
  frame_is = is_frame;
}

-- what is written after is written, behind what was before
after-both : (held : Option (List ℕ)) (one two : List ℕ) → after (after held one) two ≡ after held (one ++ two)
after-both None one two = refl
after-both (Some xs) one two = ap (λ (ys : List ℕ). Some ys) (append_assoc xs one two)

module _ (asks : Asks) (ring : Ring) (before : List Unwrapped) (waiting : List Seen) (p : Seen) (written : List ℕ) where
  pub no-memory : (held : Option (List ℕ)) (a : Auditor) (b : Batch) → StandsAt asks ring before waiting written a b
      → IsPartWritten asks ring before (waiting ++ p ∷ []) written held held
  no-memory held a b stands = none-written asks ring before (waiting ++ p ∷ []) written held a b waiting [] stands

  longer-part : (held then : Option (List ℕ)) → IsPartWritten asks ring before waiting written held then
      → IsPartWritten asks ring before (waiting ++ p ∷ []) written held then
  longer-part held then part = record {
    now = part.now;
    later = part.later ++ p ∷ [];
    all = sym (append_assoc (in_order part.now) part.later (p ∷ []))
        ∙ ap (λ (xs : List Seen). xs ++ p ∷ []) part.all ∙ append_assoc (in_order before) waiting (p ∷ []);
    unwrapped = part.unwrapped;
    more = part.more;
    rest = part.rest;
    lines = part.lines;
    written_is = part.written_is;
  }

  -- those that wait were not settled
  pub settle-stops : (end : AuditEnd) (held then : Option (List ℕ)) (a : Auditor) (b b_then : Batch)
      → SettlesUp asks ring before waiting written held then a b (Err end)
      → Takes asks ring before waiting p written held then a b_then (Err end)
  settle-stops ends.WriteFault held then a b b_then is = longer-part held then is
  settle-stops ends.Memory held then a b b_then is = longer-part held then is
  settle-stops _ held then a b b_then is = absurd is

  -- nor were those with one more
  pub both-stop : (end : AuditEnd) (held then : Option (List ℕ)) (a : Auditor) (b : Batch)
      → SettlesUp asks ring before (waiting ++ p ∷ []) written held then a b (Err end)
      → Takes asks ring before waiting p written held then a b (Err end)
  both-stop ends.WriteFault held then a b is = is
  both-stop ends.Memory held then a b is = is
  both-stop _ held then a b is = absurd is

  pub waits-on : (held : Option (List ℕ)) (a : Auditor) (b : Batch)
      → StandsAt asks ring before (waiting ++ p ∷ []) written a b
      → IsFurther asks ring before (waiting ++ p ∷ []) written held held a b
  waits-on held a b stands = record {
    now = before;
    waiting = waiting ++ p ∷ [];
    all = refl;
    more = [];
    written_is = after-none held;
    stands = subst (λ (xs : List ℕ). StandsAt asks ring before (waiting ++ p ∷ []) xs a b) (sym (append-nil written)) stands;
  }

  pub is-up : (held then : Option (List ℕ)) (a : Auditor) (b : Batch)
      → IsSettledUp asks ring before (waiting ++ p ∷ []) written held then a b
      → IsFurther asks ring before (waiting ++ p ∷ []) written held then a b
  is-up held then a b up = record {
    now = up.now;
    waiting = [];
    all = append-nil (in_order up.now) ∙ up.all;
    more = up.more;
    written_is = up.written_is;
    stands = up.stands;
  }

  -- all that wait were settled, and then this one alone
  pub then-alone : (held between then : Option (List ℕ)) (a a_then : Auditor) (b b_then : Batch) (r : Result (Unit {0}) AuditEnd)
      → (up : IsSettledUp asks ring before waiting written held between a b)
      → SettlesAlone asks ring up.now p (written ++ up.more) between then a_then b_then r
      → Takes asks ring before waiting p written held then a_then b_then r
  then-alone held between then a a_then b b_then r up = elim r as (λ (r : Result (Unit {0}) AuditEnd).
      SettlesAlone asks ring up.now p (written ++ up.more) between then a_then b_then r
      → Takes asks ring before waiting p written held then a_then b_then r) [
        | Ok done ↦ λ is. record {
          now = is.now;
          waiting = [];
          all = append-nil (in_order is.now) ∙ is.all ∙ ap (λ (xs : List Seen). xs ++ p ∷ []) up.all
              ∙ append_assoc (in_order before) waiting (p ∷ []);
          more = up.more ++ is.more;
          written_is = is.written_is ∙ ap (λ (h : Option (List ℕ)). after h is.more) up.written_is ∙ after-both held up.more is.more;
          stands = subst (λ (xs : List ℕ). StandsAt asks ring is.now [] xs a_then b_then) (append_assoc written up.more is.more) is.stands;
        }
        | Err end ↦ λ is. on-err end is
      ]
    where
      part : IsPartWritten asks ring up.now (p ∷ []) (written ++ up.more) between then
          → IsPartWritten asks ring before (waiting ++ p ∷ []) written held then
      part it = record {
        now = it.now;
        later = it.later;
        all = it.all ∙ ap (λ (xs : List Seen). xs ++ p ∷ []) up.all ∙ append_assoc (in_order before) waiting (p ∷ []);
        unwrapped = it.unwrapped;
        more = up.more ++ it.more;
        rest = it.rest;
        lines = ap (λ (xs : List ℕ). xs ++ it.rest) (sym (append_assoc written up.more it.more)) ∙ it.lines;
        written_is = it.written_is ∙ ap (λ (h : Option (List ℕ)). after h it.more) up.written_is ∙ after-both held up.more it.more;
      }

      on-err : (end : AuditEnd) → SettlesAlone asks ring up.now p (written ++ up.more) between then a_then b_then (Err end)
          → Takes asks ring before waiting p written held then a_then b_then (Err end)
      on-err ends.KeyLimit it = record {
        now = it.now;
        all = it.all ∙ append-nil (in_order up.now) ∙ up.all;
        more = up.more ++ it.more;
        written_is = it.written_is ∙ ap (λ (h : Option (List ℕ)). after h it.more) up.written_is ∙ after-both held up.more it.more;
        keeps = it.keeps;
        lines = ap (λ (xs : List ℕ). xs ++ b_then.text.items) (sym (append_assoc written up.more it.more)) ∙ it.lines;
        full = it.full;
      }
      on-err ends.WriteFault it = part it
      on-err ends.Memory it = part it
      on-err _ it = absurd it
