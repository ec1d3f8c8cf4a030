-- More octets behind a front change nothing of the fields that a front has.
use Rattle.std.proofs.Common.{◌≡◌, ◌≢◌, ℕ, ◌+◌, ◌-◌, ◌*◌, ◌^◌, ◌≤◌, Bool, true, false, List, ◌++◌, drop, length, take, Option, Some, None, Result, Ok, Err, refl, sym, ap, ◌∙◌, length-append, length-drop, arith, inl, inr}
use Rattle.std.specs.Prelude.{◌==◌, if◌then◌else◌, nat_lt, not, slice_get}
use Rattle.std.proofs.lemmas.Bool.{cases_lt, le-ltb, lt-ltb}
use Rattle.std.proofs.lemmas.List.{drop-append-le, take-append-le, take_all}
use Rattle.byteorder.specs.Endian.{big_number, little_number}
use Rattle.byteorder.specs.Numbers.{big_from-append, little_from-append}
use Rattle.capture_file.specs.declared.order.Order.{Order}
use Rattle.capture_file.specs.declared.order.Order.TheVariants.{Big, Little}
use Rattle.capture_file.specs.Pcap.{ethernet, most_kept}
use Rattle.octet_supply.proofs.Public.{take-behind}
use Rattle.capture_packets.specs.declared.block.Block.{Block}
use Rattle.capture_packets.specs.declared.block.What.TheVariants as what
use Rattle.capture_packets.specs.declared.fault.CaptureFault.{CaptureFault}
use Rattle.capture_packets.specs.declared.fault.CaptureFault.TheVariants as fault
use Rattle.capture_packets.specs.declared.state.Interface.{Interface}
use Rattle.capture_packets.specs.declared.state.Layout.{Layout}
use Rattle.capture_packets.specs.declared.state.Layout.TheVariants.{Records, Blocks}
use Rattle.capture_packets.specs.declared.state.Parts.{Parts}
use Rattle.capture_packets.specs.Numbers.{half_at, number_at}
use Rattle.capture_packets.specs.Packets.{Context}
use Rattle.capture_packets.specs.Records.{record_in, unit}
use Rattle.capture_packets.specs.Blocks.{block_in, enhanced_by, enhanced_in, enhanced_type, interface_in, interface_type, is_total, kept_under, marked_order, nanos_of, packet_by, section_by, section_in, section_type, simple_by, simple_in, simple_type, typed_in}
use Rattle.capture_packets.specs.Captures.{frame_of, framed, most_fields}

abbrev pub Read : Type 0
Read = Result Block CaptureFault

-- ---- numbers

pub number-more : (order : Order) (place : ℕ) (a c : List ℕ) → place + 4 ≤ length a
    → number_at order place (a ++ c) ≡ number_at order place a
number-more Big place a c few =
    let l = length-drop place a in
    ap (big_number 4) (drop-append-le place a c (omega (arith, few)))
    ∙ big_from-append 4 (drop place a) c (omega (arith, l, few))
number-more Little place a c few =
    let l = length-drop place a in
    ap (little_number 4) (drop-append-le place a c (omega (arith, few)))
    ∙ little_from-append 4 (drop place a) c (omega (arith, l, few))

pub half-more : (order : Order) (place : ℕ) (a c : List ℕ) → place + 2 ≤ length a
    → half_at order place (a ++ c) ≡ half_at order place a
half-more Big place a c few =
    let l = length-drop place a in
    ap (big_number 2) (drop-append-le place a c (omega (arith, few)))
    ∙ big_from-append 2 (drop place a) c (omega (arith, l, few))
half-more Little place a c few =
    let l = length-drop place a in
    ap (little_number 2) (drop-append-le place a c (omega (arith, few)))
    ∙ little_from-append 2 (drop place a) c (omega (arith, l, few))

-- ---- fields that may be cut

if-same : {A : Type 0} (b d : Bool) (e : A) (x y : A) → b ≡ false → d ≡ false → x ≡ y
    → (if b then e else x) ≡ (if d then e else y)
if-same b d e x y whole front same = rw (whole, front) same

pub cut-more : (n : ℕ) (a c : List ℕ) {A : Type 0} (e x y : A) → (n ≤ length a → y ≢ e → x ≡ y)
    → (if nat_lt (length a) n then e else y) ≢ e
    → (if nat_lt (length (a ++ c)) n then e else x) ≡ (if nat_lt (length a) n then e else y)
cut-more n a c e x y same uncut = elim (cases_lt (length a) n) [
  | inl less ↦ absurd (uncut (ap (λ (b : Bool). if b then e else y) (lt-ltb (length a) n less)))
  | inr long ↦
      let short : nat_lt (length a) n ≡ false = le-ltb (length a) n long in
      let l = length-append a c in
      if-same (nat_lt (length (a ++ c)) n) (nat_lt (length a) n) e x y
      (le-ltb (length (a ++ c)) n (omega (arith, l, long))) short
      (same long (λ is. uncut (ap (λ (b : Bool). if b then e else y) short ∙ is)))
]

pub refused-or-more : {A : Type 0} (b : Bool) (e f x y : A) → e ≢ f → ((if b then e else y) ≢ f → y ≢ f → x ≡ y)
    → (if b then e else y) ≢ f → (if b then e else x) ≡ (if b then e else y)
refused-or-more true e f x y other same uncut = refl
refused-or-more false e f x y other same uncut = same uncut uncut

-- ---- a record

abbrev record_of_fields : Parts → ℕ → ℕ → ℕ → ℕ → Read
record_of_fields parts kept original seconds rest =
    if nat_lt most_kept kept then Err fault.Length
    else Ok (record {
      before = 16;
      kept = kept;
      behind = 0;
      what = what.Packet (record {
        original = original;
        nanos = seconds * 10 ^ 9 + rest * unit parts;
        is_ethernet = true;
        is_untimed = false;
      });
    })

record-more : (order : Order) (parts : Parts) (a c : List ℕ) → record_in order parts a ≢ Err fault.Cut
    → record_in order parts (a ++ c) ≡ record_in order parts a
record-more order parts a c uncut =
    cut-more 16 a c (Err fault.Cut)
    (record_of_fields parts (number_at order 8 (a ++ c)) (number_at order 12 (a ++ c)) (number_at order 0 (a ++ c)) (number_at order 4 (a ++ c)))
    (record_of_fields parts (number_at order 8 a) (number_at order 12 a) (number_at order 0 a) (number_at order 4 a))
    (λ long _.
    let n8 = number-more order 8 a c (omega (arith, long)) in
    let n12 = number-more order 12 a c (omega (arith, long)) in
    let n0 = number-more order 0 a c (omega (arith, long)) in
    let n4 = number-more order 4 a c (omega (arith, long)) in
    λ i. record_of_fields parts (n8 i) (n12 i) (n0 i) (n4 i)) uncut

-- ---- a section

abbrev marked_by : ℕ → ℕ → Option Order
marked_by big little =
    if big == 0x1a2b3c4d then Some Big else if little == 0x1a2b3c4d then Some Little else None

abbrev section_of_fields : Order → ℕ → ℕ → Read
section_of_fields order total version =
    if not (version == 1) then Err fault.Block
    else Ok (record { before = 14; kept = 0; behind = total - 18; what = what.Section order })

section-by-more : (m : Option Order) (a c : List ℕ) → 12 ≤ length a → section_by a m ≢ Err fault.Cut
    → section_by (a ++ c) m ≡ section_by a m
section-by-more None a c long uncut = refl
section-by-more (Some order) a c long uncut =
    let total = number-more order 4 a c (omega (arith, long)) in
    ap (λ (k : ℕ). if not (is_total section_type k) then Err fault.Block
    else if nat_lt (length (a ++ c)) 14 then Err fault.Cut
    else section_of_fields order k (half_at order 12 (a ++ c))) total
    ∙ refused-or-more (not (is_total section_type (number_at order 4 a))) (Err fault.Block) (Err fault.Cut)
    (if nat_lt (length (a ++ c)) 14 then Err fault.Cut
    else section_of_fields order (number_at order 4 a) (half_at order 12 (a ++ c)))
    (if nat_lt (length a) 14 then Err fault.Cut
    else section_of_fields order (number_at order 4 a) (half_at order 12 a))
    (λ e. cc e)
    (λ _ rest. cut-more 14 a c (Err fault.Cut)
    (section_of_fields order (number_at order 4 a) (half_at order 12 (a ++ c)))
    (section_of_fields order (number_at order 4 a) (half_at order 12 a))
    (λ more _. ap (section_of_fields order (number_at order 4 a)) (half-more order 12 a c (omega (arith, more)))) rest)
    uncut

marked-more : (a c : List ℕ) → 12 ≤ length a → marked_order (a ++ c) ≡ marked_order a
marked-more a c long =
    let big = number-more Big 8 a c (omega (arith, long)) in
    let little = number-more Little 8 a c (omega (arith, long)) in
    λ i. marked_by (big i) (little i)

section-more : (a c : List ℕ) → section_in a ≢ Err fault.Cut → section_in (a ++ c) ≡ section_in a
section-more a c uncut =
    cut-more 12 a c (Err fault.Cut) (section_by (a ++ c) (marked_order (a ++ c))) (section_by a (marked_order a))
    (λ long rest. ap (section_by (a ++ c)) (marked-more a c long)
    ∙ section-by-more (marked_order a) a c long rest) uncut

-- ---- an interface

abbrev interface_of_fields : ℕ → ℕ → ℕ → Read
interface_of_fields total link snap = Ok (record {
  before = 16;
  kept = total - 20;
  behind = 0;
  what = what.Interface (link == ethernet) snap;
})

interface-more : (order : Order) (a c : List ℕ) → interface_in order a ≢ Err fault.Cut
    → interface_in order (a ++ c) ≡ interface_in order a
interface-more order a c uncut =
    cut-more 16 a c (Err fault.Cut)
    (interface_of_fields (number_at order 4 (a ++ c)) (half_at order 8 (a ++ c)) (number_at order 12 (a ++ c)))
    (interface_of_fields (number_at order 4 a) (half_at order 8 a) (number_at order 12 a))
    (λ long _.
    let total = number-more order 4 a c (omega (arith, long)) in
    let link = half-more order 8 a c (omega (arith, long)) in
    let snap = number-more order 12 a c (omega (arith, long)) in
    λ i. interface_of_fields (total i) (link i) (snap i)) uncut

-- ---- packets

abbrev enhanced_of_fields : Interface → ℕ → ℕ → ℕ → ℕ → ℕ → Read
enhanced_of_fields interface total kept original high low =
    packet_by total 28 kept (what.Packet (record {
      original = original;
      nanos = nanos_of (high * 2 ^ 32 + low) interface.ticks;
      is_ethernet = interface.is_ethernet;
      is_untimed = false;
    }))

enhanced-by-more : (order : Order) (o : Option Interface) (a c : List ℕ) → 28 ≤ length a
    → enhanced_by order (a ++ c) o ≡ enhanced_by order a o
enhanced-by-more order None a c long = refl
enhanced-by-more order (Some interface) a c long =
    let total = number-more order 4 a c (omega (arith, long)) in
    let kept = number-more order 20 a c (omega (arith, long)) in
    let original = number-more order 24 a c (omega (arith, long)) in
    let high = number-more order 12 a c (omega (arith, long)) in
    let low = number-more order 16 a c (omega (arith, long)) in
    λ i. enhanced_of_fields interface (total i) (kept i) (original i) (high i) (low i)

enhanced-more : (order : Order) (interfaces : List Interface) (a c : List ℕ)
    → enhanced_in order interfaces a ≢ Err fault.Cut
    → enhanced_in order interfaces (a ++ c) ≡ enhanced_in order interfaces a
enhanced-more order interfaces a c uncut =
    cut-more 28 a c (Err fault.Cut)
    (enhanced_by order (a ++ c) (slice_get interfaces (number_at order 8 (a ++ c))))
    (enhanced_by order a (slice_get interfaces (number_at order 8 a)))
    (λ long _. ap (λ (k : ℕ). enhanced_by order (a ++ c) (slice_get interfaces k))
    (number-more order 8 a c (omega (arith, long)))
    ∙ enhanced-by-more order (slice_get interfaces (number_at order 8 a)) a c long) uncut

abbrev simple_of_fields : Interface → ℕ → ℕ → ℕ → Read
simple_of_fields interface last total original =
    packet_by total 12 (kept_under interface.snap original) (what.Packet (record {
      original = original;
      nanos = last;
      is_ethernet = interface.is_ethernet;
      is_untimed = true;
    }))

simple-by-more : (order : Order) (last : ℕ) (o : Option Interface) (a c : List ℕ) → 12 ≤ length a
    → simple_by order last (a ++ c) o ≡ simple_by order last a o
simple-by-more order last None a c long = refl
simple-by-more order last (Some interface) a c long =
    let total = number-more order 4 a c (omega (arith, long)) in
    let original = number-more order 8 a c (omega (arith, long)) in
    λ i. simple_of_fields interface last (total i) (original i)

simple-more : (order : Order) (interfaces : List Interface) (last : ℕ) (a c : List ℕ)
    → simple_in order interfaces last a ≢ Err fault.Cut
    → simple_in order interfaces last (a ++ c) ≡ simple_in order interfaces last a
simple-more order interfaces last a c uncut =
    cut-more 12 a c (Err fault.Cut) (simple_by order last (a ++ c) (slice_get interfaces 0))
    (simple_by order last a (slice_get interfaces 0))
    (λ long _. simple-by-more order last (slice_get interfaces 0) a c long) uncut

-- ---- any block

abbrev skipped : ℕ → Read
skipped total = Ok (record { before = 8; kept = 0; behind = total - 12; what = what.Other })

-- a block by three tests of its type
abbrev pub by_type : Bool → Bool → Bool → Order → List Interface → ℕ → List ℕ → Read
by_type is_interface is_enhanced is_simple order interfaces last octets =
    if is_interface then interface_in order octets
    else if is_enhanced then enhanced_in order interfaces octets
    else if is_simple then simple_in order interfaces last octets
    else skipped (number_at order 4 octets)

by-type-more : (p q r : Bool) (order : Order) (interfaces : List Interface) (last : ℕ) (a c : List ℕ) → 8 ≤ length a
    → by_type p q r order interfaces last a ≢ Err fault.Cut
    → by_type p q r order interfaces last (a ++ c) ≡ by_type p q r order interfaces last a
by-type-more true q r order interfaces last a c long uncut = interface-more order a c uncut
by-type-more false true r order interfaces last a c long uncut = enhanced-more order interfaces a c uncut
by-type-more false false true order interfaces last a c long uncut = simple-more order interfaces last a c uncut
by-type-more false false false order interfaces last a c long uncut =
    ap skipped (number-more order 4 a c (omega (arith, long)))

typed-more : (kind : ℕ) (order : Order) (interfaces : List Interface) (last : ℕ) (a c : List ℕ) → 8 ≤ length a
    → typed_in kind order interfaces last a ≢ Err fault.Cut
    → typed_in kind order interfaces last (a ++ c) ≡ typed_in kind order interfaces last a
typed-more kind order interfaces last a c long uncut =
    let p = kind == interface_type in
    let q = kind == enhanced_type in
    let r = kind == simple_type in
    ap (λ (k : ℕ). if not (is_total kind k) then Err fault.Block else by_type p q r order interfaces last (a ++ c))
    (number-more order 4 a c (omega (arith, long)))
    ∙ refused-or-more (not (is_total kind (number_at order 4 a))) (Err fault.Block) (Err fault.Cut)
    (by_type p q r order interfaces last (a ++ c)) (by_type p q r order interfaces last a)
    (λ e. cc e) (λ _ rest. by-type-more p q r order interfaces last a c long rest) uncut

section-or-more : (b : Bool) (kind : ℕ) (order : Order) (interfaces : List Interface) (last : ℕ) (a c : List ℕ)
    → 8 ≤ length a
    → (if b then section_in a else typed_in kind order interfaces last a) ≢ Err fault.Cut
    → (if b then section_in (a ++ c) else typed_in kind order interfaces last (a ++ c))
    ≡ (if b then section_in a else typed_in kind order interfaces last a)
section-or-more true kind order interfaces last a c long uncut = section-more a c uncut
section-or-more false kind order interfaces last a c long uncut = typed-more kind order interfaces last a c long uncut

block-more : (order : Order) (interfaces : List Interface) (last : ℕ) (a c : List ℕ)
    → block_in order interfaces last a ≢ Err fault.Cut
    → block_in order interfaces last (a ++ c) ≡ block_in order interfaces last a
block-more order interfaces last a c uncut =
    cut-more 8 a c (Err fault.Cut)
    (if number_at order 0 (a ++ c) == section_type then section_in (a ++ c)
    else typed_in (number_at order 0 (a ++ c)) order interfaces last (a ++ c))
    (if number_at order 0 a == section_type then section_in a
    else typed_in (number_at order 0 a) order interfaces last a)
    (λ long rest.
    ap (λ (k : ℕ). if k == section_type then section_in (a ++ c) else typed_in k order interfaces last (a ++ c))
    (number-more order 0 a c (omega (arith, long)))
    ∙ section-or-more (number_at order 0 a == section_type) (number_at order 0 a) order interfaces last a c long rest)
    uncut

framed-more : (known : Context) (layout : Layout) (a c : List ℕ) → framed known layout a ≢ Err fault.Cut
    → framed known layout (a ++ c) ≡ framed known layout a
framed-more known (Records parts) a c uncut = record-more known.order parts a c uncut
framed-more known Blocks a c uncut = block-more known.order known.interfaces known.last a c uncut

-- so many octets of a front are those of the whole, or all of it and some more
pub taken-more : {A : Type 0} (f : List ℕ → A) (e : A) (n : ℕ) (a c : List ℕ)
    → ((b d : List ℕ) → f b ≢ e → f (b ++ d) ≡ f b) → f (take n a) ≢ e
    → f (take n (a ++ c)) ≡ f (take n a)
taken-more f e n a c more uncut = elim (cases_lt (length a) n) [
  | inl less ↦
      let all : take n a ≡ a = take_all n a (omega (arith, less)) in
      ap f (take-behind n a c (omega (arith, less)))
      ∙ more a (take (n - length a) c) (λ is. uncut (ap f all ∙ is))
      ∙ ap f (sym all)
  | inr long ↦ ap f (take-append-le n a c long)
]

pub frame-more : (known : Context) (a c : List ℕ) → frame_of known a ≢ Err fault.Cut
    → frame_of known (a ++ c) ≡ frame_of known a
frame-more known a c uncut =
    taken-more (framed known known.layout) (Err fault.Cut) (most_fields known.layout) a c
    (λ b d u. framed-more known known.layout b d u) uncut
