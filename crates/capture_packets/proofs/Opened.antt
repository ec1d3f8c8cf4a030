-- The head of a file is read, and its first section.
use Rattle.std.proofs.Common.{◌≡◌, ◌≢◌, ℕ, ◌+◌, ◌-◌, ◌<◌, ◌≤◌, Bool, true, false, List, [], ◌++◌, drop, length, take, Option, Some, None, Result, Ok, Err, refl, sym, ap, ◌∙◌, subst, length-append, arith, inl, inr}
use Rattle.std.specs.Prelude.{◌==◌, ◌&&◌, ◌%◌, if◌then◌else◌, min, nat_le, nat_lt, not}
use Rattle.std.proofs.lemmas.Bool.{leb-true, ltb-false}
use Rattle.std.proofs.lemmas.List.{length-take-le, take-append-drop}
use Rattle.byteorder.specs.Numbers.{big_from-take}
use Rattle.lan_base.specs.declared.source.ReadEnd.{ReadEnd}
use Rattle.lan_base.specs.declared.source.ReadEnd.TheVariants as readings
use Rattle.capture_file.specs.declared.order.Order.{Order}
use Rattle.capture_file.specs.declared.order.Order.TheVariants.{Big, Little}
use Rattle.capture_file.specs.Pcap.{ethernet, link_type, number_in}
use Rattle.octet_supply.specs.Supplying.{Held, Passes, Stands}
use Rattle.capture_packets.specs.Reading.{FileEnd}
use Rattle.capture_packets.specs.declared.block.Block.{Block}
use Rattle.capture_packets.specs.declared.block.What.TheVariants as what
use Rattle.text_lines.specs.Ends.{end_of}
use Rattle.text_lines.specs.declared.reading.End.TheVariants.{Limit, Memory, ReadFault, Refused}
use Rattle.capture_packets.specs.declared.fault.CaptureFault.{CaptureFault}
use Rattle.capture_packets.specs.declared.fault.CaptureFault.TheVariants as fault
use Rattle.capture_packets.specs.declared.head.Head.{Head}
use Rattle.capture_packets.specs.declared.packet.Packet.{Packet}
use Rattle.capture_packets.specs.declared.state.Layout.TheVariants.{Records, Blocks}
use Rattle.capture_packets.specs.declared.state.Parts.{Parts}
use Rattle.capture_packets.specs.declared.state.Progress.{Progress}
use Rattle.capture_packets.specs.declared.state.Progress.TheVariants as progress
use Rattle.capture_packets.specs.Numbers.{number_at, part}
use Rattle.capture_packets.specs.Packets.{Context}
use Rattle.capture_packets.specs.Records.{parts_in}
use Rattle.capture_packets.specs.Blocks.{marked_order, section_by, section_in, section_type, typed_in}
use Rattle.capture_packets.specs.Captures.{Step, blank, blocks_head, done, frame_of, head_by, head_in, is_closed, size, step, step_by}
use Rattle.capture_packets.specs.inside.Taking.{BeginsBlocks, BeginsRecords, Looks, ReadsHead, StepsOn, judged_head, no_packet}
use Rattle.capture_packets.proofs.Framed.{Sees}
use Rattle.capture_packets.proofs.Taken.{Got, got-failed, got-more, got-past}

-- ---- the head

pub heads-by : (limit : ℕ) (text given file held : List ℕ) (new : Held) (left : Option (List ℕ)) (past : Bool)
    (r : Result Head CaptureFault) → Stands limit text given new left → Sees limit text given file held 24 past left
    → head_in (take 24 file) ≡ r → (r ≡ Err fault.Cut → length held < 24)
    → ReadsHead limit text given file new left (judged_head past r)
heads-by limit text given file held new left true (Ok head) stands s is short = (stands, is)
heads-by limit text given file held new left false (Ok head) stands s is short = (stands, is)
heads-by limit text given file held new left true (Err fault.Cut) stands s is short = (s.cut refl, is)
heads-by limit text given file held new left false (Err fault.Cut) stands s is short =
    (refl, is, (λ cut. s.within refl (short refl)))
heads-by limit text given file held new left true (Err fault.Magic) stands s is short = (refl, is, (λ e. cc e))
heads-by limit text given file held new left false (Err fault.Magic) stands s is short = (refl, is, (λ e. cc e))
heads-by limit text given file held new left true (Err fault.LinkType) stands s is short = (refl, is, (λ e. cc e))
heads-by limit text given file held new left false (Err fault.LinkType) stands s is short = (refl, is, (λ e. cc e))
heads-by limit text given file held new left true (Err fault.Length) stands s is short = (refl, is, (λ e. cc e))
heads-by limit text given file held new left false (Err fault.Length) stands s is short = (refl, is, (λ e. cc e))
heads-by limit text given file held new left true (Err fault.Block) stands s is short = (refl, is, (λ e. cc e))
heads-by limit text given file held new left false (Err fault.Block) stands s is short = (refl, is, (λ e. cc e))
heads-by limit text given file held new left true (Err fault.Interface) stands s is short = (refl, is, (λ e. cc e))
heads-by limit text given file held new left false (Err fault.Interface) stands s is short = (refl, is, (λ e. cc e))

pub heads-look : (limit : ℕ) (text given file : List ℕ) (middle new : Held) (left : Option (List ℕ)) (e : FileEnd)
    → Looks limit text given 24 middle left (Err e) → ReadsHead limit text given file new left (Err e)
heads-look limit text given file middle new left (Refused (place, why)) l = absurd l
heads-look limit text given file middle new left Limit l = absurd l
heads-look limit text given file middle new left ReadFault l = l
heads-look limit text given file middle new left Memory l = tt

pub front-within : (held : List ℕ) (n : ℕ) → n ≡ min (length held) 24 → length (take n held) < 24
    → length held < 24
front-within held n is less = let t = length-take-le n held (omega (arith, is)) in omega (arith, t, is, less)

-- ---- the head of a classic file

pub passed-head : (limit : ℕ) (text given file : List ℕ) (h new : Held) (left left_then : Option (List ℕ))
    → take limit text ≡ given ++ file → Got limit text given file 0 h left
    → Passes limit text (given ++ take 0 file) 24 new left_then (Ok tt)
    → BeginsRecords limit text given file new left_then (Ok tt)
passed-head limit text given file h new left left_then visible g p =
    let m = got-more limit text given file p.0 0 24 h new left left_then visible g p.1 in
    let s = m.got.stands in
    subst (λ (k : ℕ). Stands limit text (given ++ take k file) new left_then)
    (let e : 0 + 24 ≡ 24 = omega arith in e) s

pub passed-err : (limit : ℕ) (text given file : List ℕ) (middle new : Held) (left : Option (List ℕ)) (e : ReadEnd)
    → take limit text ≡ given ++ file → 24 ≤ length file
    → Passes limit text (given ++ take 0 file) 24 middle left (Err e)
    → BeginsRecords limit text given file new left (Err (end_of e))
passed-err limit text given file middle new left readings.Limit visible long (more, less, (stands, past)) =
    let p = got-past limit text given file more 0 24 24 visible less (omega arith) past in
    let l = p.0 in absurd (omega (arith, l, long))
passed-err limit text given file middle new left readings.Failed visible long (more, less, (stands, taken)) =
    got-failed limit text given file more 0 24 24 left less (omega arith) taken
passed-err limit text given file middle new left readings.Memory visible long p = tt

-- ---- which head it is

either : (b : Bool) (r : Result Head CaptureFault) (h : Head)
    → (if b then Err fault.Cut else r) ≡ Ok h → r ≡ Ok h
either true r h is = cc is
either false r h is = is

records-are : (b d : Bool) (h k : Head)
    → (if b then Err fault.Cut else if d then Err fault.LinkType else Ok k) ≡ Ok h → (b ≡ false) × (h ≡ k)
records-are true d h k is = cc is
records-are false true h k is = cc is
records-are false false h k is = (refl, cc is)

blocks-are : (b : Bool) (h : Head) → (if b then Ok blocks_head else Err fault.Magic) ≡ Ok h
    → (b ≡ true) × (h ≡ blocks_head)
blocks-are true h is = (refl, cc is)
blocks-are false h is = cc is

-- a head of blocks has the type of a section
pub record IsBlocks (head : List ℕ) (h : Head) : Type 0 where
  pub section : (number_in Big head == section_type) ≡ true
  pub is : h ≡ blocks_head

head-blocks : (head : List ℕ) (b l : Option Parts) (h : Head) → head_by head b l ≡ Ok h → h.layout ≡ Blocks
    → IsBlocks head h
head-blocks head (Some parts) l h is blocks =
    let r = records-are (nat_lt (length head) 24) (not (link_type Big head == ethernet)) h
    (record { layout = Records parts; order = Big }) is in
    absurd (cc (sym (ap (λ (k : Head). k.layout) r.1) ∙ blocks))
head-blocks head None (Some parts) h is blocks =
    let r = records-are (nat_lt (length head) 24) (not (link_type Little head == ethernet)) h
    (record { layout = Records parts; order = Little }) is in
    absurd (cc (sym (ap (λ (k : Head). k.layout) r.1) ∙ blocks))
head-blocks head None None h is blocks =
    let r = blocks-are (number_in Big head == section_type) h is in record { section = r.0; is = r.1 }

pub in-blocks : (head : List ℕ) (h : Head) → head_in head ≡ Ok h → h.layout ≡ Blocks → IsBlocks head h
in-blocks head h is blocks =
    head-blocks head (parts_in Big head) (parts_in Little head) h
    (either (nat_lt (length head) 4) (head_by head (parts_in Big head) (parts_in Little head)) h is) blocks

head-records : (head : List ℕ) (b l : Option Parts) (h : Head) (parts : Parts) → head_by head b l ≡ Ok h
    → h.layout ≡ Records parts → 24 ≤ length head
head-records head (Some other) l h parts is records =
    let r = records-are (nat_lt (length head) 24) (not (link_type Big head == ethernet)) h
    (record { layout = Records other; order = Big }) is in ltb-false (length head) 24 r.0
head-records head None (Some other) h parts is records =
    let r = records-are (nat_lt (length head) 24) (not (link_type Little head == ethernet)) h
    (record { layout = Records other; order = Little }) is in ltb-false (length head) 24 r.0
head-records head None None h parts is records =
    let r = blocks-are (number_in Big head == section_type) h is in
    absurd (cc (sym (ap (λ (k : Head). k.layout) r.1) ∙ records))

take-within : (n : ℕ) (xs : List ℕ) → n ≤ length (take n xs) → n ≤ length xs
take-within n xs enough =
    let l = ap length (take-append-drop n xs) in
    let a = length-append (take n xs) (drop n xs) in omega (arith, l, a, enough)

pub in-records : (file : List ℕ) (h : Head) (parts : Parts) → head_in (take 24 file) ≡ Ok h
    → h.layout ≡ Records parts → 24 ≤ length file
in-records file h parts is records =
    let head = take 24 file in
    take-within 24 file (head-records head (parts_in Big head) (parts_in Little head) h parts
    (either (nat_lt (length head) 4) (head_by head (parts_in Big head) (parts_in Little head)) h is) records)

-- ---- the first section has no packet

section-or : (b t : Bool) (s r : Result Block CaptureFault) (k : Block) → t ≡ true
    → (if b then Err fault.Cut else if t then s else r) ≡ Ok k → s ≡ Ok k
section-or true t s r k is e = cc e
section-or false true s r k is e = e
section-or false false s r k is e = cc is

three : (p q r : Bool) (k b : Block)
    → (if p then Err fault.Block else if q then Err fault.Cut else if r then Err fault.Block else Ok k) ≡ Ok b
    → b ≡ k
three true q r k b is = cc is
three false true r k b is = cc is
three false false true k b is = cc is
three false false false k b is = cc is

section-what : (octets : List ℕ) (m : Option Order) (b : Block) → section_by octets m ≡ Ok b
    → (order : Order) × (b.what ≡ what.Section order)
section-what octets None b is = cc is
section-what octets (Some order) b is = (order, ap (λ (k : Block). k.what) (three _ _ _ _ b is))

-- and it has 28 octets at least
total-by : (x y z : Bool) → not (x && (y && z)) ≡ false → y ≡ true
total-by true true z is = refl
total-by true false z is = cc is
total-by false y z is = cc is

three-first : (p q r : Bool) (k b : Block)
    → (if p then Err fault.Block else if q then Err fault.Cut else if r then Err fault.Block else Ok k) ≡ Ok b
    → p ≡ false
three-first true q r k b is = cc is
three-first false q r k b is = refl

section-least : (octets : List ℕ) (m : Option Order) (b : Block) → section_by octets m ≡ Ok b → 28 ≤ size Blocks b
section-least octets None b is = cc is
section-least octets (Some order) b is =
    let total = number_at order 4 octets in
    let same = three _ _ _ _ b is in
    let least : nat_le 28 total ≡ true =
    total-by (total % 4 == 0) (nat_le 28 total) _ (three-first _ _ _ _ b is) in
    let n : 28 ≤ total = leb-true 28 total least in
    subst (λ (k : Block). 28 ≤ size Blocks k) (sym same) (omega (arith, n))

two : (p q : Bool) (r : Result Step CaptureFault) (s : Step)
    → (if p then Err fault.Cut else if q then Err fault.Block else r) ≡ Ok s → r ≡ Ok s
two true q r s is = cc is
two false true r s is = cc is
two false false r s is = is

cut-or : (b : Bool) (r : Result Block CaptureFault) (k : Block)
    → (if b then Err fault.Cut else r) ≡ Ok k → r ≡ Ok k
cut-or true r k is = cc is
cut-or false r k is = is

-- the first four octets of a file, however many are looked at
first-number : (file : List ℕ) → number_at Big 0 (take 28 file) ≡ number_in Big (take 24 file)
first-number file = big_from-take 0 4 28 file (omega arith) ∙ sym (big_from-take 0 4 24 file (omega arith))

first-what : (file : List ℕ) (b : Block) → (number_in Big (take 24 file) == section_type) ≡ true
    → frame_of blank file ≡ Ok b → (order : Order) × (b.what ≡ what.Section order)
first-what file b section fr =
    let fields = take 28 file in
    let t = ap (λ (k : ℕ). k == section_type) (first-number file) ∙ section in
    let s = section-or (nat_lt (length fields) 8) (number_at Big 0 fields == section_type) (section_in fields)
    (typed_in (number_at Big 0 fields) Big [] 0 fields) b t fr in
    section-what fields (marked_order fields) b
    (cut-or (nat_lt (length fields) 12) (section_by fields (marked_order fields)) b s)

pub first-size : (file : List ℕ) (b : Block) → (number_in Big (take 24 file) == section_type) ≡ true
    → frame_of blank file ≡ Ok b → 28 ≤ size Blocks b
first-size file b section fr =
    let fields = take 28 file in
    let t = ap (λ (k : ℕ). k == section_type) (first-number file) ∙ section in
    let s = section-or (nat_lt (length fields) 8) (number_at Big 0 fields == section_type) (section_in fields)
    (typed_in (number_at Big 0 fields) Big [] 0 fields) b t fr in
    section-least fields (marked_order fields) b
    (cut-or (nat_lt (length fields) 12) (section_by fields (marked_order fields)) b s)

same-step : (r : Result Step CaptureFault) (k s : Step) → r ≡ Ok k → r ≡ Ok s → k ≡ s
same-step r k s is also = cc (sym is ∙ also)

no-packet-by : (file : List ℕ) (r : Result Block CaptureFault) (s : Step)
    → ((b : Block) → r ≡ Ok b → (order : Order) × (b.what ≡ what.Section order))
    → step_by blank file r ≡ Ok s → s.packet ≡ None
no-packet-by file (Err why) s section st = cc st
no-packet-by file (Ok b) s section st =
    let w = section b refl in
    let all = size Blocks b in
    let kept = part b.before b.kept file in
    let d = two (nat_lt (length file) all) (not (is_closed Blocks Big b (part (all - 4) 4 file)))
    (done blank b.what kept (drop all file)) s st in
    let e = ap (λ w. done blank w kept (drop all file)) w.1 in
    sym (ap (λ (k : Step). k.packet) (same-step (done blank b.what kept (drop all file)) _ s e d))

pub no-packet : (file : List ℕ) (s : Step) → head_in (take 24 file) ≡ Ok blocks_head → step blank file ≡ Ok s
    → s.packet ≡ None
no-packet file s head st =
    let i = in-blocks (take 24 file) blocks_head head refl in
    no-packet-by file (frame_of blank file) s (λ b fr. first-what file b i.section fr) st

some-file : (file : List ℕ) → head_in (take 24 file) ≡ Ok blocks_head → file ≢ []
some-file file head none =
    cc (sym head ∙ ap (λ (l : List ℕ). head_in (take 24 l)) none)

-- ---- the first section

pub begins-blocks : (limit : ℕ) (text given file : List ℕ) (now : Context) (at : ℕ) (packet : Packet) (new : Held)
    (left : Option (List ℕ)) (p : Progress) → head_in (take 24 file) ≡ Ok blocks_head
    → StepsOn limit text given file blank at packet now new left (Ok p)
    → BeginsBlocks limit text given file now new left (no_packet p)
begins-blocks limit text given file now at packet new left progress.Other head s =
    (s.all, s.some, s.whole, s.stands, s.step_is)
begins-blocks limit text given file now at packet new left progress.Packet head s =
    absurd (cc (no-packet file _ head s.step_is))
begins-blocks limit text given file now at packet new left progress.End head (none, within, end) =
    absurd (some-file file head none)

pub begins-err : (limit : ℕ) (text given file : List ℕ) (now later : Context) (at : ℕ) (packet : Packet)
    (middle new : Held) (left : Option (List ℕ)) (e : FileEnd) → head_in (take 24 file) ≡ Ok blocks_head → at ≡ 0
    → StepsOn limit text given file blank at packet now middle left (Err e)
    → BeginsBlocks limit text given file later new left (Err e)
begins-err limit text given file now later at packet middle new left (Refused (place, why)) head first s =
    (s.0 ∙ first, s.2, s.3)
begins-err limit text given file now later at packet middle new left Limit head first (longer, inl none) =
    absurd (some-file file head none)
begins-err limit text given file now later at packet middle new left Limit head first (longer, inr cut) = (longer, cut)
begins-err limit text given file now later at packet middle new left ReadFault head first s = s
begins-err limit text given file now later at packet middle new left Memory head first s = tt
