-- The packets of facts, part by part.
use Rattle.std.proofs.Common.{◌≡◌, ℕ, ◌+◌, ◌≤◌, Bool, true, false, cond, List, [], ◌∷◌, ◌++◌, length, Option, Result, Ok, Err, refl, sym, ap, ◌∙◌, subst, arith, map}
use Rattle.std.specs.Prelude.{All}
use Rattle.std.proofs.lemmas.List.Elements.{All-nil, All-cons, All-head, All-tail}
use Rattle.lan_core.specs.declared.fact.Fact.{Fact}
use Rattle.lan_core.specs.declared.fact.Fact.TheVariants as shows
use Rattle.capture_file.specs.Pcap.{most_written}
use Rattle.capture_file.specs.Records.{Packet}
use Rattle.transcript_reader.specs.Time.{moves, own_after, ticks}
use Rattle.transcript_reader.proofs.Public.{own-more, ticks-more}
use Rattle.transcript_capture.specs.declared.clock.Clock.{Clock}
use Rattle.transcript_capture.specs.declared.fault.RecordError.{RecordError}
use Rattle.transcript_capture.specs.declared.fault.RecordError.TheVariants.{TooLong, Failed, Memory}
use Rattle.transcript_capture.specs.Recording.{IsClockAfter, IsClockAt, Records}
use Rattle.transcript_capture.specs.inside.Taking.{Writes}
use Rattle.transcript_capture.specs.Packets.{frame_of, frames, packet_of, packets, packets_after}

-- ---- frames and packets

one-frame : (n : ℕ) (fact : Fact) (ps : List Packet) (fs : List (List ℕ)) → map (λ p. p.octets) ps ≡ fs
    → map (λ p. p.octets) (packet_of n fact ++ ps) ≡ frame_of fact ++ fs
one-frame n (shows.Framed k s sec octets) ps fs e = ap (λ (l : List (List ℕ)). octets ∷ l) e
one-frame n _ ps fs e = e

octets-after : (earlier facts : List Fact) → map (λ p. p.octets) (packets_after earlier facts) ≡ frames facts
octets-after earlier [] = refl
octets-after earlier (fact ∷ later) =
    one-frame (ticks earlier) fact (packets_after (earlier ++ fact ∷ []) later) (frames later)
    (octets-after (earlier ++ fact ∷ []) later)

pub octets-are : (facts : List Fact) → map (λ p. p.octets) (packets facts) ≡ frames facts
octets-are facts = octets-after [] facts

-- what holds of the octets of packets
short-all : (P : List ℕ → Type 0) (ps : List Packet) → All P (map (λ (p : Packet). p.octets) ps)
    → All (λ (p : Packet). P p.octets) ps
short-all P [] a = All-nil (λ (p : Packet). P p.octets)
short-all P (p ∷ ps) a =
    All-cons (λ (p : Packet). P p.octets) p ps
    (All-head P p.octets (map (λ (p : Packet). p.octets) ps) a)
    (short-all P ps (All-tail P p.octets (map (λ (p : Packet). p.octets) ps) a))

pub packets-short : (facts : List Fact) → All (λ (octets : List ℕ). length octets ≤ most_written) (frames facts)
    → All (λ (p : Packet). length p.octets ≤ most_written) (packets facts)
packets-short facts short =
    short-all (λ (octets : List ℕ). length octets ≤ most_written) (packets facts)
    (subst (λ (l : List (List ℕ)). All (λ (octets : List ℕ). length octets ≤ most_written) l) (sym (octets-are facts)) short)

-- ---- the clock

one-or-none : (n : ℕ) (b : Bool) → cond b (n + 1) n ≡ n + cond b 1 0
one-or-none n true = refl
one-or-none n false = let e : n ≡ n + 0 = omega arith in e

-- a fact more was heard: time moved on by it, or not
pub heard : (earlier : List Fact) (fact : Fact) (old mid new : Clock) (moved : Bool) → IsClockAfter earlier old
    → moved ≡ moves old.own fact → IsClockAt (cond moved (ticks earlier + 1) (ticks earlier)) mid
    → new.seconds ≡ mid.seconds → new.tenths ≡ mid.tenths → new.own ≡ own_after old.own fact
    → IsClockAfter (earlier ++ fact ∷ []) new
heard earlier fact old mid new moved is moves-is at seconds tenths own =
    let same : cond moved (ticks earlier + 1) (ticks earlier) ≡ ticks (earlier ++ fact ∷ []) =
    one-or-none (ticks earlier) moved
    ∙ ap (λ (b : Bool). ticks earlier + cond b 1 0) (moves-is ∙ ap (λ (b : Bool). moves b fact) is.own_is)
    ∙ sym (ticks-more false earlier fact) in
    let now = subst (λ (n : ℕ). IsClockAt n mid) same at in
    record {
      at = record { seconds = seconds ∙ now.seconds; tenths = tenths ∙ now.tenths };
      own_is = own ∙ ap (λ (b : Bool). own_after b fact) is.own_is ∙ sym (own-more false earlier fact);
    }

-- a frame is recorded
pub framed : (earlier : List Fact) (k s : ℕ) (sec : Bool) (octets : List ℕ) (old new : Clock)
    (held then : Option (List ℕ)) (r : Result (Unit {0}) RecordError) → IsClockAfter earlier old → new ≡ old
    → Writes (ticks earlier) octets held then r
    → Records earlier (shows.Framed k s sec octets) old new held then r
framed earlier k s sec octets old new held then (Ok done) is kept w =
    let now = subst (λ (c : Clock). IsClockAfter earlier c) (sym kept) is in
    let after = heard earlier (shows.Framed k s sec octets) new new new false now refl now.at refl refl refl in
    (w.0, after, w.1)
framed earlier k s sec octets old new held then (Err TooLong) is kept w = (w.0, kept, w.1)
framed earlier k s sec octets old new held then (Err Failed) is kept w = (w.0, kept, w.1)
framed earlier k s sec octets old new held then (Err Memory) is kept w = (w.0, kept, w.1)
