-- How reading the packets of a capture ends.
use Rattle.std.proofs.Common.{◌≡◌, ℕ, ◌-◌, ◌≤◌, ◌<◌, true, false, List, [], ◌∷◌, ◌++◌, length, take, Option, Some, None, Ok, Err, refl, sym, ap, ◌∙◌, append_assoc, length-append, arith, inl, inr}
use Rattle.std.specs.Prelude.{◌⊎◌, nat_lt}
use Rattle.std.proofs.lemmas.Bool.{cases_lt}
use Rattle.std.proofs.lemmas.Bool.Decides.{nat_tests}
use Rattle.std.proofs.lemmas.List.{append-nil, take-append-le, take_all}
use Rattle.lan_base.specs.Ranges.{most_input}
use Rattle.capture_packets.specs.declared.block.Block.{Block}
use Rattle.text_lines.specs.declared.reading.End.TheVariants as ends
use Rattle.capture_packets.specs.declared.fault.CaptureFault.{CaptureFault}
use Rattle.capture_packets.specs.declared.fault.CaptureFault.TheVariants.{Cut}
use Rattle.capture_packets.specs.declared.packet.Packet.{Packet}
use Rattle.capture_packets.specs.declared.reader.PacketReader.{PacketReader}
use Rattle.capture_packets.specs.declared.state.Layout.{Layout}
use Rattle.capture_packets.specs.declared.state.Layout.TheVariants.{Records, Blocks}
use Rattle.capture_packets.specs.Packets.{Context, Seen, seen}
use Rattle.capture_packets.specs.Captures.{Told, capture, frame_of, framed, head_in, most_fields, no_more, opened, opened_with, refused_at, size, with_packets}
use Rattle.capture_packets.specs.Reading.{HasPackets, IsWithinNext, Opens, ReadsNext}
use Rattle.capture_packets.proofs.Public.{opened-refused, packets-more, step-cut, told-end, told-refused}
use Rattle.audit_text.specs.Parting.{capture_behind}
use Rattle.audit_text.proofs.Public.{cut-to}
use Rattle.key_ring.specs.Reading.{file_in}
use Rattle.capture_audit.specs.Reading.{HasAll, IsFailedBehind, IsRefusedBehind}
use Rattle.capture_audit.specs.inside.Auditing.{IsReading}
use Rattle.capture_audit.proofs.HeadsRead.{taken-front}

pub reading-begins : (text given : List ℕ) (reader : PacketReader) (left : Option (List ℕ))
    → take most_input text ≡ given ++ file_in text
    → Opens most_input text given (file_in text) left (Ok reader) → IsReading text reader left []
reading-begins text given reader left visible (head, opens, start, tells) = record {
  given = given;
  visible = visible;
  start = start;
  later = capture (file_in text);
  tells = tells;
  all = refl;
}

-- the packets that were read are the first ones of the capture
pub reading-front : (text : List ℕ) (reader : PacketReader) (left : Option (List ℕ)) (packets : List Seen)
    → IsReading text reader left packets → (later : List Seen) × ((capture (file_in text)).packets ≡ packets ++ later)
reading-front text reader left packets r = (r.later.packets, ap (λ (t : Told). t.packets) r.all)

pub reading-goes : (text : List ℕ) (reader new : PacketReader) (left left_then : Option (List ℕ)) (packets : List Seen)
    (packet : Packet) (r : IsReading text reader left packets) → new.start ≡ reader.start
    → ReadsNext most_input text packets r.later packet new left_then (Ok true)
    → IsReading text new left_then (packets ++ seen packet ∷ [])
reading-goes text reader new left left_then packets packet r same (later, first, tells) = record {
  given = r.given;
  visible = r.visible;
  start = same ∙ r.start;
  later = later;
  tells = tells;
  all = r.all ∙ ap (with_packets packets) first ∙ packets-more packets (Some (seen packet)) later;
}

-- ---- the ends

no-later : (text : List ℕ) (packets : List Seen) (later : Told) → capture (file_in text) ≡ with_packets packets later
    → later ≡ no_more → HasAll (file_in text) packets
no-later text packets later all none =
    all ∙ ap (with_packets packets) none
    ∙ ap (λ (l : List Seen). record { packets = l; refused = None }) (append-nil packets)

refused-later : (text : List ℕ) (packets : List Seen) (later : Told) (at : ℕ) (why : CaptureFault)
    → capture (file_in text) ≡ with_packets packets later → later ≡ refused_at at why
    → IsRefusedBehind (file_in text) packets at why
refused-later text packets later at why all is =
    all ∙ ap (with_packets packets) is
    ∙ ap (λ (l : List Seen). record { packets = l; refused = Some (record { at = at; why = why }) }) (append-nil packets)

pub reading-whole : (text : List ℕ) (reader new : PacketReader) (left left_then : Option (List ℕ))
    (packets : List Seen) (packet : Packet) (r : IsReading text reader left packets)
    → ReadsNext most_input text packets r.later packet new left_then (Ok false)
    → (length text ≤ most_input) × (left_then ≡ Some []) × HasAll (file_in text) packets
reading-whole text reader new left left_then packets packet r (none, few, end) =
    (few, end, no-later text packets r.later r.all none)

pub reading-refused : (text : List ℕ) (reader new : PacketReader) (left left_then : Option (List ℕ))
    (packets : List Seen) (packet : Packet) (at : ℕ) (why : CaptureFault) (r : IsReading text reader left packets)
    → ReadsNext most_input text packets r.later packet new left_then (Err (ends.Refused (at, why)))
    → IsRefusedBehind (file_in text) packets at why × (why ≡ Cut → length text ≤ most_input)
reading-refused text reader new left left_then packets packet at why r (is, within) =
    (refused-later text packets r.later at why r.all is, within)

pub reading-past : (text : List ℕ) (reader new : PacketReader) (left left_then : Option (List ℕ))
    (packets : List Seen) (packet : Packet) (r : IsReading text reader left packets)
    → ReadsNext most_input text packets r.later packet new left_then (Err ends.Limit)
    → (most_input < length text) × (HasAll (file_in text) packets
    ⊎ ((at : ℕ) × IsRefusedBehind (file_in text) packets at Cut))
reading-past text reader new left left_then packets packet r (longer, inl none) =
    (longer, inl (no-later text packets r.later r.all none))
reading-past text reader new left left_then packets packet r (longer, inr (at, cut)) =
    (longer, inr (at, refused-later text packets r.later at Cut r.all cut))

-- ---- the source failed

-- two fronts of a text that are as long
pub record AreSame (a b c d : List ℕ) : Type 0 where
  pub fronts : a ≡ b
  pub rests : c ≡ d

same-fronts : (a b c d : List ℕ) → a ++ c ≡ b ++ d → length a ≡ length b → AreSame a b c d
same-fronts [] [] c d same long = record { fronts = refl; rests = same }
same-fronts [] (y ∷ b) c d same long = absurd (omega (arith, long))
same-fronts (x ∷ a) [] c d same long = absurd (omega (arith, long))
same-fronts (x ∷ a) (y ∷ b) c d same long =
    let first : x ≡ y = cc same in
    let later : a ++ c ≡ b ++ d = cc same in
    let s = same-fronts a b c d later (omega (arith, long)) in
    record { fronts = λ i. first i ∷ s.fronts i; rests = s.rests }

front-all : (front : List ℕ) (packets : List Seen) (known : Context) → HasPackets front packets known
    → HasAll front packets
front-all front packets known has =
    let g = has.goes [] in
    ap capture (sym (append-nil front)) ∙ g.2 ∙ ap (with_packets packets) (told-end known (length front) [] g.0 g.1 refl)
    ∙ ap (λ (l : List Seen). record { packets = l; refused = None }) (append-nil packets)

-- a front that is read has a head
short-opened : (front : List ℕ) → length front < 4 → opened front ≡ Err Cut
short-opened front few =
    let all : take 24 front ≡ front = take_all 24 front (omega (arith, few)) in
    let test : nat_lt (length front) 4 ≡ true = grind (arith, nat_tests) in
    let short : head_in front ≡ Err Cut = rw test refl in
    ap (opened_with front) (ap head_in all ∙ short)

front-long : (front : List ℕ) (packets : List Seen) → HasAll front packets → 4 ≤ length front
front-long front packets has = elim (cases_lt (length front) 4) [
  | inl few ↦
      absurd (cc (sym (ap (λ (t : Told). t.refused) has)
      ∙ ap (λ (t : Told). t.refused) (opened-refused front Cut (short-opened front few))))
  | inr many ↦ many
]

fields-few : (layout : Layout) → most_fields layout ≤ 28
fields-few (Records parts) = omega arith
fields-few Blocks = omega arith

-- of a record or block that isn't whole no packet is told
cut-told : (front more c : List ℕ) (packets : List Seen) (known : Context) (block : Block)
    → HasPackets front packets known → 28 ≤ length more → frame_of known (more ++ c) ≡ Ok block
    → length more < size known.layout block → (capture (front ++ more)).packets ≡ packets
cut-told front more c packets known block has many frame less =
    let n = fields-few known.layout in
    let own : frame_of known more ≡ Ok block =
    sym (ap (framed known known.layout) (take-append-le (most_fields known.layout) more c (omega (arith, n, many))))
    ∙ frame in
    let g = has.goes more in
    let cut = told-refused known (length front) more g.0 Cut g.1
    (λ none. let l = ap length none in omega (arith, l, many)) (step-cut known more block own less) in
    ap (λ (t : Told). t.packets) g.2 ∙ ap (λ (t : Told). packets ++ t.packets) cut ∙ append-nil packets

failed-none : (front behind more c : List ℕ) (packets : List Seen) (known : Context) → HasPackets front packets known
    → behind ≡ more ++ c → IsWithinNext known behind more
    → (length more < 28) ⊎ ((capture (front ++ more)).packets ≡ packets)
failed-none front behind more c packets known has parts within = elim (cases_lt (length more) 28) [
  | inl few ↦ inl few
  | inr many ↦ elim within [
    | inl less ↦ let n = fields-few known.layout in absurd (omega (arith, n, less, many))
    | inr cut ↦
        inr (cut-told front more c packets known cut.0 has many
        (sym (ap (frame_of known) parts) ∙ cut.1) cut.2)
  ]
]

pub reading-failed : (text : List ℕ) (reader new : PacketReader) (left left_then : Option (List ℕ))
    (packets : List Seen) (packet : Packet) (r : IsReading text reader left packets) → new.start ≡ reader.start
    → ReadsNext most_input text packets r.later packet new left_then (Err ends.ReadFault)
    → IsFailedBehind text left_then packets
reading-failed text reader new left left_then packets packet r same f =
    let read = f.read in
    let front = read.front in
    let more = f.more in
    let taken = f.taken in
    let c = take (most_input - length (f.given ++ more)) taken.rest in
    let parts : f.behind ≡ more ++ c =
    taken-front most_input text f.given f.behind more taken.rest f.visible taken.whole taken.within in
    let two : r.given ++ file_in text ≡ read.before ++ (front ++ f.behind) =
    sym r.visible ∙ f.visible ∙ ap (λ (l : List ℕ). l ++ f.behind) read.parts
    ∙ append_assoc read.before front f.behind in
    let start = r.start in
    let starts = read.starts in
    let s = same-fronts r.given read.before (file_in text) (front ++ f.behind) two (omega (arith, start, starts, same)) in
    let file : file_in text ≡ (front ++ more) ++ c =
    s.rests ∙ ap (λ (l : List ℕ). front ++ l) parts ∙ sym (append_assoc front more c) in
    let all : capture_behind (r.given ++ ((front ++ more) ++ c)) ≡ (front ++ more) ++ c =
    ap capture_behind (ap (λ (l : List ℕ). r.given ++ l) (sym file) ∙ sym r.visible) ∙ file in
    let has = front-all front packets f.known read.has in
    let four = front-long front packets has in
    let l = length-append front more in
    record {
      taken = f.given ++ more;
      rest = taken.rest;
      whole = taken.whole;
      told = taken.told;
      within = taken.within;
      front = front;
      more = more;
      file = ap (λ (g : List ℕ). capture_behind (g ++ more)) read.parts
          ∙ ap capture_behind (append_assoc read.before front more)
          ∙ ap (λ (g : List ℕ). capture_behind (g ++ (front ++ more))) (sym s.fronts)
          ∙ cut-to r.given (front ++ more) c (omega (arith, l, four)) all;
      has = has;
      none = failed-none front f.behind more c packets f.known read.has parts f.within;
    }
