-- The fields of a record or a block stand before what it keeps.
use Rattle.std.proofs.Common.{◌≡◌, ◌≢◌, ℕ, ◌-◌, ◌≤◌, Bool, true, false, List, ◌++◌, length, take, Option, Some, None, Ok, Err, refl, sym, ap, ◌∙◌, arith, inl, inr}
use Rattle.std.specs.Prelude.{◌==◌, if◌then◌else◌, nat_lt, slice_get}
use Rattle.std.proofs.lemmas.Bool.{cases_lt, le-ltb}
use Rattle.std.proofs.lemmas.List.{take-append-le, take_all}
use Rattle.octet_supply.proofs.Public.{take-behind}
use Rattle.capture_file.specs.declared.order.Order.{Order}
use Rattle.capture_packets.specs.declared.block.Block.{Block}
use Rattle.capture_packets.specs.declared.block.What.{What}
use Rattle.capture_packets.specs.declared.block.What.TheVariants.{Packet}
use Rattle.capture_packets.specs.declared.fault.CaptureFault.{CaptureFault}
use Rattle.capture_packets.specs.declared.fault.CaptureFault.TheVariants as fault
use Rattle.capture_packets.specs.declared.state.Interface.{Interface}
use Rattle.capture_packets.specs.declared.state.Layout.{Layout}
use Rattle.capture_packets.specs.declared.state.Layout.TheVariants.{Records, Blocks}
use Rattle.capture_packets.specs.declared.state.Parts.{Parts}
use Rattle.capture_packets.specs.Numbers.{number_at}
use Rattle.capture_packets.specs.Packets.{Context}
use Rattle.capture_packets.specs.Records.{record_in}
use Rattle.capture_packets.specs.Blocks.{block_in, enhanced_by, enhanced_head, enhanced_type, interface_type, kept_under, marked_order, packet_by, section_by, section_in, section_type, simple_by, simple_type, typed_in}
use Rattle.capture_packets.specs.Captures.{frame_of, framed, most_fields}
use Rattle.capture_packets.proofs.FrontFields.{Read, by_type, number-more}

-- ---- tests

or-ok : (b : Bool) (e : CaptureFault) (r : Read) (k : Block) → (if b then Err e else r) ≡ Ok k → r ≡ Ok k
or-ok true e r k is = cc is
or-ok false e r k is = is

or-uncut : (b : Bool) (e : CaptureFault) (r : Read) → e ≢ fault.Cut → r ≢ Err fault.Cut
    → (if b then Err e else r) ≢ Err fault.Cut
or-uncut true e r other uncut is = other (cc is)
or-uncut false e r other uncut is = uncut is

long-uncut : (n : ℕ) (a : List ℕ) (r : Read) → n ≤ length a → r ≢ Err fault.Cut
    → (if nat_lt (length a) n then Err fault.Cut else r) ≢ Err fault.Cut
long-uncut n a r long uncut is =
    uncut (sym (ap (λ (b : Bool). if b then Err fault.Cut else r) (le-ltb (length a) n long)) ∙ is)

block-uncut : (k : Block) (r : Read) → r ≡ Ok k → r ≢ Err fault.Cut
block-uncut k r is cut = cc (sym is ∙ cut)

before-is : (k b : Block) (r : Read) → r ≡ Ok k → r ≡ Ok b → b.before ≡ k.before
before-is k b r is other =
    let same : b ≡ k = cc (sym other ∙ is) in ap (λ (x : Block). x.before) same

-- ---- how many octets the fields have

packet-before : (total before kept : ℕ) (w : What) (b : Block) → packet_by total before kept w ≡ Ok b → b.before ≡ before
packet-before total before kept w b is =
    let one = or-ok _ fault.Length _ b is in
    let two = or-ok _ fault.Block _ b one in
    before-is _ b _ refl two

packet-uncut : (total before kept : ℕ) (w : What) → packet_by total before kept w ≢ Err fault.Cut
packet-uncut total before kept w =
    or-uncut _ fault.Length _ (λ e. cc e) (or-uncut _ fault.Block _ (λ e. cc e) (block-uncut _ _ refl))

enhanced-before : (order : Order) (x : List ℕ) (o : Option Interface) (b : Block) → enhanced_by order x o ≡ Ok b → b.before ≡ 28
enhanced-before order x None b is = cc is
enhanced-before order x (Some interface) b is =
    packet-before (number_at order 4 x) 28 (number_at order 20 x) (Packet (enhanced_head order x interface)) b is

enhanced-uncut : (order : Order) (x : List ℕ) (o : Option Interface) → enhanced_by order x o ≢ Err fault.Cut
enhanced-uncut order x None is = cc is
enhanced-uncut order x (Some interface) is =
    packet-uncut (number_at order 4 x) 28 (number_at order 20 x) (Packet (enhanced_head order x interface)) is

simple-before : (order : Order) (last : ℕ) (x : List ℕ) (o : Option Interface) (b : Block)
    → simple_by order last x o ≡ Ok b → b.before ≡ 12
simple-before order last x None b is = cc is
simple-before order last x (Some interface) b is =
    packet-before (number_at order 4 x) 12 (kept_under interface.snap (number_at order 8 x)) (Packet (record {
      original = number_at order 8 x;
      nanos = last;
      is_ethernet = interface.is_ethernet;
      is_untimed = true;
    })) b is

simple-uncut : (order : Order) (last : ℕ) (x : List ℕ) (o : Option Interface) → simple_by order last x o ≢ Err fault.Cut
simple-uncut order last x None is = cc is
simple-uncut order last x (Some interface) is =
    packet-uncut (number_at order 4 x) 12 (kept_under interface.snap (number_at order 8 x)) (Packet (record {
      original = number_at order 8 x;
      nanos = last;
      is_ethernet = interface.is_ethernet;
      is_untimed = true;
    })) is

section-before : (x : List ℕ) (m : Option Order) (b : Block) → section_by x m ≡ Ok b → b.before ≡ 14
section-before x None b is = cc is
section-before x (Some order) b is =
    let one = or-ok _ fault.Block _ b is in
    let two = or-ok _ fault.Cut _ b one in
    let three = or-ok _ fault.Block _ b two in
    before-is _ b _ refl three

section-uncut : (a : List ℕ) (m : Option Order) → 14 ≤ length a → section_by a m ≢ Err fault.Cut
section-uncut a None long is = cc is
section-uncut a (Some order) long is =
    or-uncut _ fault.Block _ (λ e. cc e)
    (long-uncut 14 a _ long (or-uncut _ fault.Block _ (λ e. cc e) (block-uncut _ _ refl))) is

-- ---- a front with all fields

record-there : (order : Order) (parts : Parts) (a c : List ℕ) (b : Block) → record_in order parts (a ++ c) ≡ Ok b
    → b.before ≤ length a → record_in order parts a ≢ Err fault.Cut
record-there order parts a c b is long =
    let one = or-ok _ fault.Cut _ b is in
    let two = or-ok _ fault.Length _ b one in
    let n : b.before ≡ 16 = before-is _ b _ refl two in
    long-uncut 16 a _ (omega (arith, n, long)) (or-uncut _ fault.Length _ (λ e. cc e) (block-uncut _ _ refl))

by-type-before : (p q r : Bool) (order : Order) (interfaces : List Interface) (last : ℕ) (x : List ℕ) (b : Block)
    → by_type p q r order interfaces last x ≡ Ok b → 8 ≤ b.before
by-type-before true q r order interfaces last x b is =
    let one = or-ok _ fault.Cut _ b is in
    let n : b.before ≡ 16 = before-is _ b _ refl one in omega (arith, n)
by-type-before false true r order interfaces last x b is =
    let n = enhanced-before order x _ b (or-ok _ fault.Cut _ b is) in omega (arith, n)
by-type-before false false true order interfaces last x b is =
    let o = slice_get interfaces 0 in
    let n = simple-before order last x o b (or-ok (nat_lt (length x) 12) fault.Cut (simple_by order last x o) b is) in
    omega (arith, n)
by-type-before false false false order interfaces last x b is =
    let n : b.before ≡ 8 = before-is _ b _ refl is in omega (arith, n)

by-type-there : (p q r : Bool) (order : Order) (interfaces : List Interface) (last : ℕ) (a c : List ℕ) (b : Block)
    → by_type p q r order interfaces last (a ++ c) ≡ Ok b → b.before ≤ length a
    → by_type p q r order interfaces last a ≢ Err fault.Cut
by-type-there true q r order interfaces last a c b is long =
    let one = or-ok _ fault.Cut _ b is in
    let n : b.before ≡ 16 = before-is _ b _ refl one in
    long-uncut 16 a _ (omega (arith, n, long)) (block-uncut _ _ refl)
by-type-there false true r order interfaces last a c b is long =
    let n = enhanced-before order (a ++ c) _ b (or-ok _ fault.Cut _ b is) in
    long-uncut 28 a _ (omega (arith, n, long)) (enhanced-uncut order a _)
by-type-there false false true order interfaces last a c b is long =
    let o = slice_get interfaces 0 in
    let n = simple-before order last (a ++ c) o b
    (or-ok (nat_lt (length (a ++ c)) 12) fault.Cut (simple_by order last (a ++ c) o) b is) in
    long-uncut 12 a (simple_by order last a o) (omega (arith, n, long)) (simple-uncut order last a o)
by-type-there false false false order interfaces last a c b is long = block-uncut _ _ refl

-- a block that is a section or another
abbrev either_in : Bool → ℕ → Order → List Interface → ℕ → List ℕ → Read
either_in section kind order interfaces last x =
    if section then section_in x else typed_in kind order interfaces last x

either-before : (s : Bool) (kind : ℕ) (order : Order) (interfaces : List Interface) (last : ℕ) (x : List ℕ) (b : Block)
    → either_in s kind order interfaces last x ≡ Ok b → 8 ≤ b.before
either-before true kind order interfaces last x b is =
    let m = marked_order x in
    let n = section-before x m b (or-ok (nat_lt (length x) 12) fault.Cut (section_by x m) b is) in omega (arith, n)
either-before false kind order interfaces last x b is =
    by-type-before (kind == interface_type) (kind == enhanced_type) (kind == simple_type) order interfaces last x b
    (or-ok _ fault.Block _ b is)

either-there : (s : Bool) (kind : ℕ) (order : Order) (interfaces : List Interface) (last : ℕ) (a c : List ℕ) (b : Block)
    → either_in s kind order interfaces last (a ++ c) ≡ Ok b → b.before ≤ length a
    → either_in s kind order interfaces last a ≢ Err fault.Cut
either-there true kind order interfaces last a c b is long =
    let m = marked_order (a ++ c) in
    let n = section-before (a ++ c) m b
    (or-ok (nat_lt (length (a ++ c)) 12) fault.Cut (section_by (a ++ c) m) b is) in
    let own = marked_order a in
    long-uncut 12 a (section_by a own) (omega (arith, n, long)) (section-uncut a own (omega (arith, n, long)))
either-there false kind order interfaces last a c b is long =
    or-uncut _ fault.Block _ (λ e. cc e)
    (by-type-there (kind == interface_type) (kind == enhanced_type) (kind == simple_type) order interfaces last a c b
    (or-ok _ fault.Block _ b is) long)

block-there : (order : Order) (interfaces : List Interface) (last : ℕ) (a c : List ℕ) (b : Block)
    → block_in order interfaces last (a ++ c) ≡ Ok b → b.before ≤ length a
    → block_in order interfaces last a ≢ Err fault.Cut
block-there order interfaces last a c b is long =
    let whole = number_at order 0 (a ++ c) in
    let front = number_at order 0 a in
    let one : either_in (whole == section_type) whole order interfaces last (a ++ c) ≡ Ok b = or-ok _ fault.Cut _ b is in
    let least = either-before (whole == section_type) whole order interfaces last (a ++ c) b one in
    let eight : 8 ≤ length a = omega (arith, least, long) in
    let same = number-more order 0 a c (omega (arith, eight)) in
    let two : either_in (front == section_type) front order interfaces last (a ++ c) ≡ Ok b =
    sym (ap (λ (k : ℕ). either_in (k == section_type) k order interfaces last (a ++ c)) same) ∙ one in
    long-uncut 8 a _ eight (either-there (front == section_type) front order interfaces last a c b two long)

framed-there : (known : Context) (layout : Layout) (a c : List ℕ) (b : Block) → framed known layout (a ++ c) ≡ Ok b
    → b.before ≤ length a → framed known layout a ≢ Err fault.Cut
framed-there known (Records parts) a c b is long = record-there known.order parts a c b is long
framed-there known Blocks a c b is long = block-there known.order known.interfaces known.last a c b is long

-- a front with all octets before what is kept tells the fields of the whole
pub frame-there : (known : Context) (a c : List ℕ) (b : Block) → frame_of known (a ++ c) ≡ Ok b
    → b.before ≤ length a → frame_of known a ≢ Err fault.Cut
frame-there known a c b is long = elim (cases_lt (length a) (most_fields known.layout)) [
  | inl less ↦
      let n = most_fields known.layout in
      let all : take n a ≡ a = take_all n a (omega (arith, less)) in
      let more = take-behind n a c (omega (arith, less)) in
      let uncut = framed-there known known.layout a (take (n - length a) c) b
      (sym (ap (framed known known.layout) more) ∙ is) long in
      λ cut. uncut (sym (ap (framed known known.layout) all) ∙ cut)
  | inr many ↦
      let same = take-append-le (most_fields known.layout) a c many in
      λ cut. cc (sym cut ∙ sym (ap (framed known known.layout) same) ∙ is)
]
