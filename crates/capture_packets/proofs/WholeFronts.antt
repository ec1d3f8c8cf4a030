-- Whole records and blocks are read the same, whatever follows them.
use Rattle.std.proofs.Common.{◌≡◌, ◌≢◌, ℕ, ◌+◌, ◌-◌, ◌≤◌, Bool, true, false, List, [], ◌∷◌, ◌++◌, drop, length, take, Option, Some, None, Result, Ok, Err, refl, sym, ap, ◌∙◌, subst, append_assoc, length-append, length-drop, arith}
use Rattle.std.specs.Prelude.{◌==◌, if◌then◌else◌, nat_lt, not}
use Rattle.std.proofs.lemmas.Bool.{le-ltb, ltb-false}
use Rattle.std.proofs.lemmas.List.{length-take-le, take-append-drop}
use Rattle.octet_supply.proofs.Public.{no-octets}
use Rattle.capture_file.specs.declared.order.Order.TheVariants.{Big}
use Rattle.capture_file.specs.Pcap.{number_in}
use Rattle.capture_packets.specs.declared.block.Block.{Block}
use Rattle.capture_packets.specs.declared.block.What.{What}
use Rattle.capture_packets.specs.declared.block.What.TheVariants as what
use Rattle.capture_packets.specs.declared.fault.CaptureFault.{CaptureFault}
use Rattle.capture_packets.specs.declared.fault.CaptureFault.TheVariants as fault
use Rattle.capture_packets.specs.Numbers.{part}
use Rattle.capture_packets.specs.Packets.{Context, Seen}
use Rattle.capture_packets.specs.Blocks.{section_type}
use Rattle.capture_packets.specs.Options.{ticks_in}
use Rattle.capture_packets.specs.Captures.{Step, Told, blank, capture, done, frame_of, is_closed, size, step, step_by, with_first, with_interface, with_packets}
use Rattle.capture_packets.specs.Reading.{HasPackets, HasRead, IsTold}
use Rattle.capture_packets.proofs.FrontFields.{frame-more}
use Rattle.capture_packets.proofs.FrontFrames.{frame-there}
use Rattle.capture_packets.proofs.FrontSteps.{before, step-more}
use Rattle.capture_packets.proofs.Opened.{first-size}
use Rattle.capture_packets.proofs.Told.{told-step}

abbrev Stepped : Type 0
Stepped = Result Step CaptureFault

-- ---- what a whole block does

rest-of : (k s : Step) (r : Stepped) → r ≡ Ok k → r ≡ Ok s → s.rest ≡ k.rest
rest-of k s r is other =
    let same : s ≡ k = cc (sym other ∙ is) in ap (λ (x : Step). x.rest) same

with-rest : (known : Context) (is_ethernet : Bool) (snap : ℕ) (rest : List ℕ) (o : Option ℕ) (s : Step)
    → with_interface known is_ethernet snap rest o ≡ Ok s → s.rest ≡ rest
with-rest known is_ethernet snap rest None s is = cc is
with-rest known is_ethernet snap rest (Some ticks) s is = rest-of _ s _ refl is

done-rest : (known : Context) (w : What) (kept rest : List ℕ) (s : Step) → done known w kept rest ≡ Ok s
    → s.rest ≡ rest
done-rest known (what.Section order) kept rest s is = rest-of _ s _ refl is
done-rest known (what.Interface is_ethernet snap) kept rest s is =
    with-rest known is_ethernet snap rest (ticks_in known.order kept) s is
done-rest known (what.Packet head) kept rest s is = rest-of _ s _ refl is
done-rest known what.Other kept rest s is = rest-of _ s _ refl is

with-uncut : (known : Context) (is_ethernet : Bool) (snap : ℕ) (rest : List ℕ) (o : Option ℕ)
    → with_interface known is_ethernet snap rest o ≢ Err fault.Cut
with-uncut known is_ethernet snap rest None is = cc is
with-uncut known is_ethernet snap rest (Some ticks) is = cc is

done-uncut : (known : Context) (w : What) (kept rest : List ℕ) → done known w kept rest ≢ Err fault.Cut
done-uncut known (what.Section order) kept rest is = cc is
done-uncut known (what.Interface is_ethernet snap) kept rest is =
    with-uncut known is_ethernet snap rest (ticks_in known.order kept) is
done-uncut known (what.Packet head) kept rest is = cc is
done-uncut known what.Other kept rest is = cc is

-- ---- how many octets a step takes

pub taken-by : (p q : Bool) (r : Stepped) (s : Step)
    → (if p then Err fault.Cut else if q then Err fault.Block else r) ≡ Ok s → (p ≡ false) × (r ≡ Ok s)
taken-by true q r s is = cc is
taken-by false true r s is = cc is
taken-by false false r s is = (refl, is)

-- the record or block that is whole in so many octets
record Takes (known : Context) (behind : List ℕ) (all : ℕ) : Type 0 where
  pub block : Block
  pub frame : frame_of known behind ≡ Ok block
  pub count : size known.layout block ≡ all

takes-by : (known : Context) (behind : List ℕ) (all : ℕ) (s : Step) (r : Result Block CaptureFault)
    → frame_of known behind ≡ r → step_by known behind r ≡ Ok s → all ≤ length behind → s.rest ≡ drop all behind
    → Takes known behind all
takes-by known behind all s (Err why) fr st few rest = cc st
takes-by known behind all s (Ok b) fr st few rest =
    let n = size known.layout b in
    let t = taken-by (nat_lt (length behind) n) (not (is_closed known.layout known.order b (part (n - 4) 4 behind)))
    (done known b.what (part b.before b.kept behind) (drop n behind)) s st in
    let within : n ≤ length behind = ltb-false (length behind) n t.0 in
    let same = done-rest known b.what (part b.before b.kept behind) (drop n behind) s t.1 in
    let l = ap length (sym same ∙ rest) in
    let one = length-drop n behind in
    let two = length-drop all behind in
    record { block = b; frame = fr; count = omega (arith, l, one, two, within, few) }

takes : (known : Context) (behind : List ℕ) (all : ℕ) (s : Step) → step known behind ≡ Ok s → all ≤ length behind
    → s.rest ≡ drop all behind → Takes known behind all
takes known behind all s st few rest = takes-by known behind all s (frame_of known behind) refl st few rest

pub first-long : (file : List ℕ) (all : ℕ) (now : Context) → (number_in Big (take 24 file) == section_type) ≡ true
    → all ≤ length file
    → step blank file ≡ Ok (record { packet = None; known = now; rest = drop all file }) → 28 ≤ all
first-long file all now section few st =
    let t = takes blank file all (record { packet = None; known = now; rest = drop all file }) st few refl in
    let n = first-size file t.block section t.frame in
    let c = t.count in omega (arith, n, c)

-- ---- a step on its octets alone

uncut-by : (p q : Bool) (r : Stepped) → p ≡ false → r ≢ Err fault.Cut
    → (if p then Err fault.Cut else if q then Err fault.Block else r) ≢ Err fault.Cut
uncut-by true q r whole uncut is = cc whole
uncut-by false true r whole uncut is = cc is
uncut-by false false r whole uncut is = uncut is

whole-uncut : (known : Context) (octets : List ℕ) (b : Block) → size known.layout b ≤ length octets
    → step_by known octets (Ok b) ≢ Err fault.Cut
whole-uncut known octets b few =
    let n = size known.layout b in
    uncut-by (nat_lt (length octets) n) (not (is_closed known.layout known.order b (part (n - 4) 4 octets)))
    (done known b.what (part b.before b.kept octets) (drop n octets)) (le-ltb (length octets) n few)
    (done-uncut known b.what (part b.before b.kept octets) (drop n octets))

front-uncut : (known : Context) (behind : List ℕ) (all : ℕ) → Takes known behind all → all ≤ length behind
    → step known (take all behind) ≢ Err fault.Cut
front-uncut known behind all t few cut =
    let front = take all behind in
    let parts = take-append-drop all behind in
    let long = length-take-le all behind few in
    let c = t.count in
    let whole : frame_of known (front ++ drop all behind) ≡ Ok t.block = ap (frame_of known) parts ∙ t.frame in
    let there = frame-there known front (drop all behind) t.block whole (omega (arith, long, c)) in
    let own : frame_of known front ≡ Ok t.block =
    sym (frame-more known front (drop all behind) there) ∙ whole in
    whole-uncut known front t.block (omega (arith, long, c)) (sym (ap (step_by known front) own) ∙ cut)

-- a step before which octets follow
alone-by : (r : Stepped) (c : List ℕ) (s : Step) → before c r ≡ Ok s → s.rest ≡ c
    → r ≡ Ok (record { packet = s.packet; known = s.known; rest = [] })
alone-by (Err why) c s is rest = cc is
alone-by (Ok q) c s is rest =
    let same : record { packet = q.packet; known = q.known; rest = q.rest ++ c } ≡ s = cc is in
    let l = ap length (ap (λ (x : Step). x.rest) same ∙ rest) in
    let m = length-append q.rest c in
    let none = no-octets q.rest (omega (arith, l, m)) in
    let packet = ap (λ (x : Step). x.packet) same in
    let known = ap (λ (x : Step). x.known) same in
    λ i. Ok (record { packet = packet i; known = known i; rest = none i })

-- whatever follows it
pub step-on : (known : Context) (behind : List ℕ) (all : ℕ) (s : Step) → all ≤ length behind
    → step known behind ≡ Ok s → s.rest ≡ drop all behind → (rest : List ℕ)
    → step known (take all behind ++ rest) ≡ Ok (record { packet = s.packet; known = s.known; rest = rest })
step-on known behind all s few st is rest =
    let front = take all behind in
    let uncut = front-uncut known behind all (takes known behind all s st few is) few in
    let alone = alone-by (step known front) (drop all behind) s
    (sym (step-more known front (drop all behind) uncut) ∙ ap (step known) (take-append-drop all behind) ∙ st) is in
    step-more known front rest uncut ∙ ap (before rest) alone

-- ---- what a front has

-- packets, and one more if there is one
abbrev pub with_more : List Seen → Option Seen → List Seen
with_more packets None = packets
with_more packets (Some packet) = packets ++ packet ∷ []

pub packets-more : (packets : List Seen) (p : Option Seen) (t : Told)
    → with_packets packets (with_first p t) ≡ with_packets (with_more packets p) t
packets-more packets None t = refl
packets-more packets (Some packet) t =
    ap (λ (l : List Seen). record t { packets = l }) (sym (append_assoc packets (packet ∷ []) t.packets))

has-more : (front behind : List ℕ) (packets : List Seen) (known now : Context) (p : Option Seen) (all : ℕ)
    → HasPackets front packets known → 8 ≤ all → all ≤ length behind
    → step known behind ≡ Ok (record { packet = p; known = now; rest = drop all behind })
    → HasPackets (front ++ take all behind) (with_more packets p) now
has-more front behind packets known now p all has some few st = record {
  goes = λ rest.
      let own = take all behind in
      let long = length-take-le all behind few in
      let g = has.goes (own ++ rest) in
      let l = length-append own rest in
      let m = length-append front own in
      let on = step-on known behind all (record { packet = p; known = now; rest = drop all behind }) few st refl rest in
      let d = told-step known (length front) (own ++ rest) g.0 (record { packet = p; known = now; rest = rest }) g.1
      (λ none. let n = ap length none in omega (arith, n, l, long, some)) on (omega (arith, l, long, some)) in
      let place : length front + (length (own ++ rest) - length rest) ≡ length (front ++ own) = omega (arith, l, m) in (
        d.later,
        subst (λ (k : ℕ). IsTold now k rest d.later) place d.tells,
        ap capture (append_assoc front own rest) ∙ g.2 ∙ ap (with_packets packets) d.first
            ∙ packets-more packets p d.later,
      );
}

-- what was read, and a step more
pub read-more : (start : ℕ) (given behind : List ℕ) (packets : List Seen) (known now : Context) (p : Option Seen)
    (all : ℕ) → HasRead start given packets known → 8 ≤ all → all ≤ length behind
    → step known behind ≡ Ok (record { packet = p; known = now; rest = drop all behind })
    → HasRead start (given ++ take all behind) (with_more packets p) now
read-more start given behind packets known now p all read some few st = record {
  before = read.before;
  front = read.front ++ take all behind;
  parts = ap (λ (l : List ℕ). l ++ take all behind) read.parts
      ∙ append_assoc read.before read.front (take all behind);
  starts = read.starts;
  has = has-more read.front behind packets known now p all read.has some few st;
}
