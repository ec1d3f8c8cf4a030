-- Packets that are written are read again, in whatever form.
use Rattle.std.proofs.Common.{◌≡◌, ◌≢◌, ℕ, zero, suc, ◌+◌, ◌-◌, ◌*◌, ◌/◌, ◌%◌, ◌^◌, ◌<◌, ◌≤◌, true, false, List, [], ◌∷◌, ◌++◌, drop, length, take, Some, None, Ok, refl, sym, ap, ◌∙◌, append_assoc, length-append, arith, take_at, drop_at}
use Rattle.std.specs.Prelude.{◌==◌, flat_map, nat_le, nat_lt, replicate}
use Rattle.std.specs.List.{AllByRecursion}
use Rattle.std.proofs.lemmas.Bool.{le-ltb, eq-eqb}
use Rattle.std.proofs.lemmas.Bool.Decides.{nat_tests}
use Rattle.std.proofs.lemmas.List.{length-replicate}
use Rattle.byteorder.specs.Numbers.{big_number-reads_back, little_number-reads_back}
use Rattle.capture_file.specs.declared.order.Order.{Order}
use Rattle.capture_file.specs.declared.order.Order.TheVariants.{Big, Little}
use Rattle.capture_file.specs.Pcap.{most_kept, number_in}
use Rattle.capture_packets.specs.declared.block.Block.{Block}
use Rattle.capture_packets.specs.declared.block.What.{What}
use Rattle.capture_packets.specs.declared.block.What.TheVariants as what
use Rattle.capture_packets.specs.declared.state.Interface.{Interface}
use Rattle.capture_packets.specs.declared.state.Layout.TheVariants.{Records, Blocks}
use Rattle.capture_packets.specs.declared.state.Parts.{Parts}
use Rattle.capture_packets.specs.declared.state.Parts.TheVariants.{Micros, Nanos}
use Rattle.capture_packets.specs.Numbers.{number_at, padded, part}
use Rattle.capture_packets.specs.Packets.{Context, Seen}
use Rattle.capture_packets.specs.Records.{record_in, unit}
use Rattle.capture_packets.specs.Blocks.{block_in, enhanced_type, is_total, nanos_of, packet_by}
use Rattle.capture_packets.specs.Captures.{Step, Told, blank, capture, done, opened, size, step, told, told_by, with_first}
use Rattle.capture_packets.specs.Reading.{IsTold}
use Rattle.capture_packets.specs.Written.{IsWritable, block_of, blocks_file, classic_file, classic_head, interface_of, number, record_of, section_of, total_of}
use Rattle.capture_packets.proofs.Stepped.{step-done}
use Rattle.capture_packets.proofs.Told.{told-end, told-step}

-- ---- the record of a packet

-- the record that is read of these fields
record-by : (order : Order) (parts : Parts) (octets : List ℕ) (k o s f : ℕ) → 16 ≤ length octets
    → number_at order 8 octets ≡ k → k ≤ most_kept → number_at order 12 octets ≡ o
    → number_at order 0 octets ≡ s → number_at order 4 octets ≡ f
    → record_in order parts octets ≡ Ok (record {
      before = 16;
      kept = k;
      behind = 0;
      what = what.Packet (record { original = o; nanos = s * 10 ^ 9 + f * unit parts; is_ethernet = true; is_untimed = false });
    })
record-by order parts octets k o s f long ek few eo es ef =
    let a : nat_lt (length octets) 16 ≡ false = le-ltb (length octets) 16 long in
    let b : nat_lt most_kept k ≡ false = le-ltb most_kept k few in
    rw (a, ek, b, eo, es, ef) refl

-- a time in seconds and parts
whole-time : (parts : Parts) (n : ℕ) → n % unit parts ≡ 0 → n / 10 ^ 9 * 10 ^ 9 + n % 10 ^ 9 / unit parts * unit parts ≡ n
whole-time Micros n whole = omega (arith, whole)
whole-time Nanos n whole = omega arith

parts-fit : (parts : Parts) (n : ℕ) → n % 10 ^ 9 / unit parts < 2 ^ 32
parts-fit Micros n = omega arith
parts-fit Nanos n = omega arith

-- what a packet tells beside its octets
head-is : (parts : Parts) (p : Seen) (nanos : ℕ) → IsWritable parts p → nanos ≡ p.head.nanos
    → what.Packet (record { original = p.head.original; nanos = nanos; is_ethernet = true; is_untimed = false })
    ≡ what.Packet p.head
head-is parts p nanos w is = λ i. what.Packet (record {
  original = p.head.original;
  nanos = is i;
  is_ethernet = sym w.ethernet i;
  is_untimed = sym w.timed i;
})

abbrev record_block : Seen → Block
record_block p = record { before = 16; kept = length p.octets; behind = 0; what = what.Packet p.head }

record-fields : (order : Order) (parts : Parts) (p : Seen) (rest : List ℕ) → IsWritable parts p
    → record_in order parts (take 16 (record_of order parts p ++ rest)) ≡ Ok (record_block p)
record-fields Big parts p rest w =
    let n = p.head.nanos in
    let more = take 0 (p.octets ++ rest) in
    let few = w.few in
    record-by Big parts (take 16 (record_of Big parts p ++ rest)) (length p.octets) p.head.original
    (n / 10 ^ 9) (n % 10 ^ 9 / unit parts) (omega arith)
    (big_number-reads_back 4 (length p.octets) (number Big p.head.original ++ more) (omega (arith, few))) few
    (big_number-reads_back 4 p.head.original more w.original)
    (big_number-reads_back 4 (n / 10 ^ 9) (number Big (n % 10 ^ 9 / unit parts)
    ++ (number Big (length p.octets) ++ (number Big p.head.original ++ more))) w.seconds)
    (big_number-reads_back 4 (n % 10 ^ 9 / unit parts)
    (number Big (length p.octets) ++ (number Big p.head.original ++ more)) (parts-fit parts n))
    ∙ ap (λ h. Ok (record { before = 16; kept = length p.octets; behind = 0; what = h }))
    (head-is parts p (n / 10 ^ 9 * 10 ^ 9 + n % 10 ^ 9 / unit parts * unit parts) w (whole-time parts n w.whole))
record-fields Little parts p rest w =
    let n = p.head.nanos in
    let more = take 0 (p.octets ++ rest) in
    let few = w.few in
    record-by Little parts (take 16 (record_of Little parts p ++ rest)) (length p.octets) p.head.original
    (n / 10 ^ 9) (n % 10 ^ 9 / unit parts) (omega arith)
    (little_number-reads_back 4 (length p.octets) (number Little p.head.original ++ more) (omega (arith, few))) few
    (little_number-reads_back 4 p.head.original more w.original)
    (little_number-reads_back 4 (n / 10 ^ 9) (number Little (n % 10 ^ 9 / unit parts)
    ++ (number Little (length p.octets) ++ (number Little p.head.original ++ more))) w.seconds)
    (little_number-reads_back 4 (n % 10 ^ 9 / unit parts)
    (number Little (length p.octets) ++ (number Little p.head.original ++ more)) (parts-fit parts n))
    ∙ ap (λ h. Ok (record { before = 16; kept = length p.octets; behind = 0; what = h }))
    (head-is parts p (n / 10 ^ 9 * 10 ^ 9 + n % 10 ^ 9 / unit parts * unit parts) w (whole-time parts n w.whole))

abbrev none : List ℕ
none = []

drop-none : (n : ℕ) → none ≡ drop n none
drop-none zero = refl
drop-none (suc n) = refl

drop-more : (m n : ℕ) (xs : List ℕ) → drop (m + n) xs ≡ drop n (drop m xs)
drop-more zero n xs = ap (λ (k : ℕ). drop k xs) (let e : 0 + n ≡ n = omega arith in e)
drop-more (suc m) n [] =
    ap (λ (k : ℕ). drop k none) (let e : suc m + n ≡ suc (m + n) = omega arith in e) ∙ drop-none n
drop-more (suc m) n (x ∷ xs) =
    ap (λ (k : ℕ). drop k (x ∷ xs)) (let e : suc m + n ≡ suc (m + n) = omega arith in e) ∙ drop-more m n xs

-- a record is its header and the octets of its packet
record-parts : (order : Order) (parts : Parts) (p : Seen) (rest : List ℕ)
    → (drop 16 (record_of order parts p ++ rest) ≡ p.octets ++ rest)
    × (length (record_of order parts p ++ rest) ≡ 16 + length (p.octets ++ rest))
record-parts Big parts p rest = (refl, omega arith)
record-parts Little parts p rest = (refl, omega arith)

-- what is known of a classic file behind a packet of this time
abbrev records_known : Order → Parts → ℕ → Context
records_known order parts last = record { layout = Records parts; order = order; interfaces = []; last = last }

abbrev behind : Seen → Context → List ℕ → Step
behind p known rest = record { packet = Some p; known = record known { last = p.head.nanos }; rest = rest }

record-step : (order : Order) (parts : Parts) (p : Seen) (last : ℕ) (rest : List ℕ) → IsWritable parts p
    → step (records_known order parts last) (record_of order parts p ++ rest)
    ≡ Ok (behind p (records_known order parts last) rest)
record-step order parts p last rest w =
    let octets = record_of order parts p ++ rest in
    let x = record-parts order parts p rest in
    let l = x.1 in
    let a = length-append p.octets rest in
    let all : size (Records parts) (record_block p) ≡ 16 + length p.octets = omega arith in
    step-done (records_known order parts last) octets (record_block p) (record-fields order parts p rest w)
    (omega (arith, l, a, all)) refl
    ∙ ap (λ (kept : List ℕ). done (records_known order parts last) (what.Packet p.head) kept
    (drop (size (Records parts) (record_block p)) octets))
    (ap (take (length p.octets)) x.0 ∙ take_at p.octets rest (length p.octets) refl)
    ∙ ap (λ (later : List ℕ). done (records_known order parts last) (what.Packet p.head) p.octets later)
    (ap (λ (k : ℕ). drop k octets) all ∙ drop-more 16 (length p.octets) octets
    ∙ ap (drop (length p.octets)) x.0 ∙ drop_at p.octets rest (length p.octets) refl)

-- ---- all records

longer : (a rest : List ℕ) (n : ℕ) → length (a ++ rest) ≡ n + length rest → 0 < n → length rest < length (a ++ rest)
longer a rest n is some = omega (arith, is, some)

some-octets : (octets : List ℕ) → 0 < length octets → octets ≢ []
some-octets octets some none = let l = ap length none in omega (arith, l, some)

records-tell : (order : Order) (parts : Parts) (packets : List Seen) (last at : ℕ) (t : Told)
    → AllByRecursion (IsWritable parts) packets
    → IsTold (records_known order parts last) at (flat_map (record_of order parts) packets) t
    → t ≡ record { packets = packets; refused = None }
records-tell order parts [] last at t w is = told-end (records_known order parts last) at [] t is refl
records-tell order parts (p ∷ packets) last at t w is =
    let rest = flat_map (record_of order parts) packets in
    let x = record-parts order parts p rest in
    let l = x.1 in
    let a = length-append p.octets rest in
    let d = told-step (records_known order parts last) at (record_of order parts p ++ rest) t
    (behind p (records_known order parts last) rest) is
    (some-octets (record_of order parts p ++ rest) (omega (arith, l)))
    (record-step order parts p last rest w.0) (omega (arith, l, a)) in
    d.first ∙ ap (with_first (Some p))
    (records-tell order parts packets p.head.nanos _ d.later w.1 d.tells)

classic-opened : (order : Order) (parts : Parts) (rest : List ℕ)
    → (opened (classic_head order parts ++ rest)
    ≡ Ok (record { packet = None; known = records_known order parts 0; rest = rest }))
    × (length (classic_head order parts ++ rest) ≡ 24 + length rest)
classic-opened Big Micros rest = (refl, omega arith)
classic-opened Big Nanos rest = (refl, omega arith)
classic-opened Little Micros rest = (refl, omega arith)
classic-opened Little Nanos rest = (refl, omega arith)

pub classic-read : (order : Order) (parts : Parts) (packets : List Seen) → AllByRecursion (IsWritable parts) packets
    → capture (classic_file order parts packets) ≡ record { packets = packets; refused = None }
classic-read order parts packets w =
    let rest = flat_map (record_of order parts) packets in
    let file = classic_file order parts packets in
    let o = classic-opened order parts rest in
    let l = o.1 in
    ap (told_by (told (length file)) 0 (length file)) o.0
    ∙ records-tell order parts packets 0 (0 + (length file - length rest))
    (told (length file) (records_known order parts 0) (0 + (length file - length rest)) rest) w
    (length file, omega (arith, l), refl)

-- ---- the block of a packet

-- an interface of Ethernet whose clock has nanoseconds
abbrev nano_interface : Interface
nano_interface = record { is_ethernet = true; snap = 0; ticks = 1000000000 }

abbrev blocks_known : Order → ℕ → Context
blocks_known order last =
    record { layout = Blocks; order = order; interfaces = nano_interface ∷ []; last = last }

total-fits : (k : ℕ) → is_total enhanced_type (32 + padded k) ≡ true
total-fits k =
    let a : ((32 + padded k) % 4 == 0) ≡ true = eq-eqb ((32 + padded k) % 4) 0 (omega arith) in
    let b : nat_le 32 (32 + padded k) ≡ true = grind (arith, nat_tests) in
    rw (a, b) refl

-- a time as ticks of nanoseconds
ticks-are : (n : ℕ) → n < 2 ^ 64 → nanos_of (n / 2 ^ 32 * 2 ^ 32 + n % 2 ^ 32) 1000000000 ≡ n
ticks-are n few =
    let whole : n / 2 ^ 32 * 2 ^ 32 + n % 2 ^ 32 ≡ n = omega arith in
    let back : n * 10 ^ 9 / 1000000000 ≡ n = omega arith in
    ap (λ (k : ℕ). nanos_of k 1000000000) whole
    ∙ (let e : nanos_of n 1000000000 ≡ n = omega (arith, back, few) in e)

packet-by : (total before kept : ℕ) (packet : What) → kept ≤ most_kept → before + padded kept + 4 ≤ total
    → packet_by total before kept packet
    ≡ Ok (record { before = before; kept = kept; behind = total - 4 - before - kept; what = packet })
packet-by total before kept packet few fits =
    let c : nat_lt most_kept kept ≡ false = le-ltb most_kept kept few in
    let d : nat_lt total (before + padded kept + 4) ≡ false = le-ltb total (before + padded kept + 4) fits in
    rw (c, d) refl

-- the block that is read of these fields
block-by : (order : Order) (octets : List ℕ) (last total k o hi lo : ℕ) → 28 ≤ length octets
    → number_at order 0 octets ≡ enhanced_type → number_at order 4 octets ≡ total
    → is_total enhanced_type total ≡ true → number_at order 8 octets ≡ 0 → number_at order 12 octets ≡ hi
    → number_at order 16 octets ≡ lo → number_at order 20 octets ≡ k → number_at order 24 octets ≡ o
    → k ≤ most_kept → 28 + padded k + 4 ≤ total
    → block_in order (nano_interface ∷ []) last octets ≡ Ok (record {
      before = 28;
      kept = k;
      behind = total - 4 - 28 - k;
      what = what.Packet (record {
        original = o;
        nanos = nanos_of (hi * 2 ^ 32 + lo) 1000000000;
        is_ethernet = true;
        is_untimed = false;
      });
    })
block-by order octets last total k o hi lo long e0 e4 tot e8 e12 e16 e20 e24 few fits =
    let a : nat_lt (length octets) 8 ≡ false = le-ltb (length octets) 8 (omega (arith, long)) in
    let b : nat_lt (length octets) 28 ≡ false = le-ltb (length octets) 28 long in
    rw (a, e0, e4, tot, b, e8, e4, e20, e12, e16, e24) (packet-by total 28 k (what.Packet (record {
      original = o;
      nanos = nanos_of (hi * 2 ^ 32 + lo) 1000000000;
      is_ethernet = true;
      is_untimed = false;
    })) few fits)

abbrev packet_block : Seen → Block
packet_block p = record {
  before = 28;
  kept = length p.octets;
  behind = total_of p - 4 - 28 - length p.octets;
  what = what.Packet p.head;
}

nanos-fit : (parts : Parts) (p : Seen) → IsWritable parts p → p.head.nanos < 2 ^ 64
nanos-fit parts p w = let s = w.seconds in omega (arith, s)

block-fields : (order : Order) (parts : Parts) (p : Seen) (last : ℕ) (rest : List ℕ) → IsWritable parts p
    → block_in order (nano_interface ∷ []) last (take 28 (block_of order p ++ rest)) ≡ Ok (packet_block p)
block-fields Big parts p last rest w =
    let n = p.head.nanos in
    let few = w.few in
    let fit = nanos-fit parts p w in
    let f24 = number Big p.head.original in
    let f20 = number Big (length p.octets) ++ f24 in
    let f16 = number Big (n % 2 ^ 32) ++ f20 in
    let f12 = number Big (n / 2 ^ 32) ++ f16 in
    let f8 = number Big 0 ++ f12 in
    block-by Big (take 28 (block_of Big p ++ rest)) last (total_of p) (length p.octets) p.head.original
    (n / 2 ^ 32) (n % 2 ^ 32) (omega arith) refl
    (big_number-reads_back 4 (total_of p) f8 (omega (arith, few))) (total-fits (length p.octets)) refl
    (big_number-reads_back 4 (n / 2 ^ 32) f16 (omega (arith, fit)))
    (big_number-reads_back 4 (n % 2 ^ 32) f20 (omega arith))
    (big_number-reads_back 4 (length p.octets) f24 (omega (arith, few)))
    (big_number-reads_back 4 p.head.original [] w.original) few (omega arith)
    ∙ ap (λ h. Ok (record { before = 28; kept = length p.octets; behind = total_of p - 4 - 28 - length p.octets; what = h }))
    (head-is parts p (nanos_of (n / 2 ^ 32 * 2 ^ 32 + n % 2 ^ 32) 1000000000) w (ticks-are n fit))
block-fields Little parts p last rest w =
    let n = p.head.nanos in
    let few = w.few in
    let fit = nanos-fit parts p w in
    let f24 = number Little p.head.original in
    let f20 = number Little (length p.octets) ++ f24 in
    let f16 = number Little (n % 2 ^ 32) ++ f20 in
    let f12 = number Little (n / 2 ^ 32) ++ f16 in
    let f8 = number Little 0 ++ f12 in
    block-by Little (take 28 (block_of Little p ++ rest)) last (total_of p) (length p.octets) p.head.original
    (n / 2 ^ 32) (n % 2 ^ 32) (omega arith) refl
    (little_number-reads_back 4 (total_of p) f8 (omega (arith, few))) (total-fits (length p.octets)) refl
    (little_number-reads_back 4 (n / 2 ^ 32) f16 (omega (arith, fit)))
    (little_number-reads_back 4 (n % 2 ^ 32) f20 (omega arith))
    (little_number-reads_back 4 (length p.octets) f24 (omega (arith, few)))
    (little_number-reads_back 4 p.head.original [] w.original) few (omega arith)
    ∙ ap (λ h. Ok (record { before = 28; kept = length p.octets; behind = total_of p - 4 - 28 - length p.octets; what = h }))
    (head-is parts p (nanos_of (n / 2 ^ 32 * 2 ^ 32 + n % 2 ^ 32) 1000000000) w (ticks-are n fit))

-- what stands behind the fields of a packet's block
abbrev padding : Seen → List ℕ
padding p = replicate (padded (length p.octets) - length p.octets) 0

block-parts : (order : Order) (p : Seen) (rest : List ℕ)
    → (drop 28 (block_of order p ++ rest) ≡ (p.octets ++ (padding p ++ number order (total_of p))) ++ rest)
    × (length (block_of order p ++ rest) ≡ 28 + length ((p.octets ++ (padding p ++ number order (total_of p))) ++ rest))
block-parts Big p rest = (refl, omega arith)
block-parts Little p rest = (refl, omega arith)

-- the octets of a packet, then the padding, and then the total
body-is : (order : Order) (p : Seen) (rest : List ℕ)
    → drop 28 (block_of order p ++ rest) ≡ p.octets ++ (padding p ++ (number order (total_of p) ++ rest))
body-is order p rest =
    let x = block-parts order p rest in
    x.0 ∙ append_assoc p.octets (padding p ++ number order (total_of p)) rest
    ∙ ap (λ (l : List ℕ). p.octets ++ l) (append_assoc (padding p) (number order (total_of p)) rest)

padding-count : (p : Seen) → length (padding p) ≡ padded (length p.octets) - length p.octets
padding-count p = length-replicate (padded (length p.octets) - length p.octets) 0

end-is : (order : Order) (p : Seen) (rest : List ℕ)
    → drop (28 + padded (length p.octets)) (block_of order p ++ rest) ≡ number order (total_of p) ++ rest
end-is order p rest =
    let octets = block_of order p ++ rest in
    let k = length p.octets in
    let pad = padded k - k in
    let split : 28 + padded k ≡ 28 + (k + pad) = omega arith in
    ap (λ (n : ℕ). drop n octets) split ∙ drop-more 28 (k + pad) octets
    ∙ ap (drop (k + pad)) (body-is order p rest)
    ∙ drop-more k pad (p.octets ++ (padding p ++ (number order (total_of p) ++ rest)))
    ∙ ap (drop pad) (drop_at p.octets (padding p ++ (number order (total_of p) ++ rest)) k refl)
    ∙ drop_at (padding p) (number order (total_of p) ++ rest) pad (padding-count p)

number-count : (order : Order) (n : ℕ) → length (number order n) ≡ 4
number-count Big n = refl
number-count Little n = refl

number-back : (order : Order) (n : ℕ) → n < 2 ^ 32 → number_in order (number order n) ≡ n
number-back Big n few = big_number-reads_back 4 n [] few
number-back Little n few = little_number-reads_back 4 n [] few

block-size : (p : Seen) → size Blocks (packet_block p) ≡ total_of p
block-size p = omega arith

packet-closed : (order : Order) (p : Seen) (rest : List ℕ) (parts : Parts) → IsWritable parts p
    → (number_in order (part (size Blocks (packet_block p) - 4) 4 (block_of order p ++ rest))
    == size Blocks (packet_block p)) ≡ true
packet-closed order p rest parts w =
    let octets = block_of order p ++ rest in
    let few = w.few in
    let s = block-size p in
    let at : size Blocks (packet_block p) - 4 ≡ 28 + padded (length p.octets) = omega (arith, s) in
    let end = ap (λ (n : ℕ). take 4 (drop n octets)) at ∙ ap (take 4) (end-is order p rest)
    ∙ take_at (number order (total_of p)) rest 4 (number-count order (total_of p)) in
    eq-eqb (number_in order (part (size Blocks (packet_block p) - 4) 4 octets)) (size Blocks (packet_block p))
    (ap (number_in order) end ∙ number-back order (total_of p) (omega (arith, few)) ∙ sym s)

packet-step : (order : Order) (parts : Parts) (p : Seen) (last : ℕ) (rest : List ℕ) → IsWritable parts p
    → step (blocks_known order last) (block_of order p ++ rest) ≡ Ok (behind p (blocks_known order last) rest)
packet-step order parts p last rest w =
    let octets = block_of order p ++ rest in
    let known = blocks_known order last in
    let b = packet_block p in
    let k = length p.octets in
    let x = block-parts order p rest in
    let l = x.1 in
    let a1 = length-append (p.octets ++ (padding p ++ number order (total_of p))) rest in
    let a2 = length-append p.octets (padding p ++ number order (total_of p)) in
    let a3 = length-append (padding p) (number order (total_of p)) in
    let c = padding-count p in
    let d = number-count order (total_of p) in
    let s = block-size p in
    let all : size Blocks b ≡ 28 + padded k + 4 = omega (arith, s) in
    step-done known octets b (block-fields order parts p last rest w)
    (omega (arith, l, a1, a2, a3, c, d, all)) (packet-closed order p rest parts w)
    ∙ ap (λ (kept : List ℕ). done known (what.Packet p.head) kept (drop (size Blocks b) octets))
    (ap (take k) (body-is order p rest) ∙ take_at p.octets (padding p ++ (number order (total_of p) ++ rest)) k refl)
    ∙ ap (λ (later : List ℕ). done known (what.Packet p.head) p.octets later)
    (ap (λ (n : ℕ). drop n octets) all ∙ drop-more (28 + padded k) 4 octets
    ∙ ap (drop 4) (end-is order p rest) ∙ drop_at (number order (total_of p)) rest 4 d)

blocks-tell : (order : Order) (parts : Parts) (packets : List Seen) (last at : ℕ) (t : Told)
    → AllByRecursion (IsWritable parts) packets
    → IsTold (blocks_known order last) at (flat_map (block_of order) packets) t
    → t ≡ record { packets = packets; refused = None }
blocks-tell order parts [] last at t w is = told-end (blocks_known order last) at [] t is refl
blocks-tell order parts (p ∷ packets) last at t w is =
    let rest = flat_map (block_of order) packets in
    let x = block-parts order p rest in
    let l = x.1 in
    let a = length-append (p.octets ++ (padding p ++ number order (total_of p))) rest in
    let d = told-step (blocks_known order last) at (block_of order p ++ rest) t
    (behind p (blocks_known order last) rest) is
    (some-octets (block_of order p ++ rest) (omega (arith, l)))
    (packet-step order parts p last rest w.0) (omega (arith, l, a)) in
    d.first ∙ ap (with_first (Some p))
    (blocks-tell order parts packets p.head.nanos _ d.later w.1 d.tells)

-- ---- the section and the interface

abbrev section_known : Order → Context
section_known order = record { layout = Blocks; order = order; interfaces = []; last = 0 }

section-step : (order : Order) (rest : List ℕ)
    → (opened (section_of order ++ rest)
    ≡ Ok (record { packet = None; known = section_known order; rest = rest }))
    × (length (section_of order ++ rest) ≡ 28 + length rest)
section-step Big rest = (
  step-done blank (section_of Big ++ rest) (record { before = 14; kept = 0; behind = 10; what = what.Section Big })
      refl (omega arith) refl,
  omega arith,
)
section-step Little rest = (
  step-done blank (section_of Little ++ rest) (record { before = 14; kept = 0; behind = 10; what = what.Section Little })
      refl (omega arith) refl,
  omega arith,
)

interface-step : (order : Order) (rest : List ℕ)
    → (step (section_known order) (interface_of order ++ rest)
    ≡ Ok (record { packet = None; known = blocks_known order 0; rest = rest }))
    × (length (interface_of order ++ rest) ≡ 28 + length rest)
interface-step Big rest = (
  step-done (section_known Big) (interface_of Big ++ rest)
      (record { before = 16; kept = 8; behind = 0; what = what.Interface true 0 }) refl (omega arith) refl,
  omega arith,
)
interface-step Little rest = (
  step-done (section_known Little) (interface_of Little ++ rest)
      (record { before = 16; kept = 8; behind = 0; what = what.Interface true 0 }) refl (omega arith) refl,
  omega arith,
)

pub blocks-read : (order : Order) (parts : Parts) (packets : List Seen) → AllByRecursion (IsWritable parts) packets
    → capture (blocks_file order packets) ≡ record { packets = packets; refused = None }
blocks-read order parts packets w =
    let rest = flat_map (block_of order) packets in
    let more = interface_of order ++ rest in
    let file = blocks_file order packets in
    let o = section-step order more in
    let l = o.1 in
    let i = interface-step order rest in
    let m = i.1 in
    let at = 0 + (length file - length more) in
    let d = told-step (section_known order) at more (told (length file) (section_known order) at more)
    (record { packet = None; known = blocks_known order 0; rest = rest })
    (length file, omega (arith, l), refl) (some-octets more (omega (arith, m))) i.0 (omega (arith, m)) in
    ap (told_by (told (length file)) 0 (length file)) o.0 ∙ d.first
    ∙ blocks-tell order parts packets 0 _ d.later w d.tells
