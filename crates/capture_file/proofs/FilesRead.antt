-- What is written is read, and in one way.
use Rattle.std.proofs.Common.{◌≡◌, ◌≤◌, ◌<◌, ◌+◌, ◌^◌, ℕ, Bool, false, cond, List, [], ◌∷◌, ◌++◌, length, take, drop, Result, Ok, Err, refl, ap, sym, ◌∙◌, append_assoc, arith, length-append, take_at, drop_at, subst}
use Rattle.std.specs.Prelude.{All, map, nat_lt}
use Rattle.std.proofs.lemmas.Bool.{le-ltb}
use Rattle.std.proofs.lemmas.List.Elements.{All-head, All-tail}
use Rattle.byteorder.specs.Endian.{big_bytes}
use Rattle.byteorder.specs.Numbers.{big_number-reads_back}
use Rattle.capture_file.specs.declared.fault.CaptureFault.{CaptureFault}
use Rattle.capture_file.specs.declared.fault.CaptureFault.TheVariants.{Length}
use Rattle.capture_file.specs.declared.order.Order.{Order}
use Rattle.capture_file.specs.declared.order.Order.TheVariants.{Big}
use Rattle.capture_file.specs.Pcap.{head_octets, header_octets, head_read, kept_read, most_kept, most_written, number_in}
use Rattle.capture_file.specs.Records.{AreRecords, IsRecord, IsFileOf, Packet, file_of, records_of}

-- ---- what is written is read

-- the count of a record's header
kept-again : (seconds micros count : ℕ) → count ≤ most_written
    → kept_read Big (header_octets seconds micros count) ≡ Ok count
kept-again seconds micros count few =
    let number : number_in Big (drop 8 (header_octets seconds micros count)) ≡ count =
    big_number-reads_back 4 count (big_bytes 4 count) (omega (arith, few)) in
    let within : nat_lt most_kept count ≡ false = le-ltb most_kept count (omega (arith, few)) in
    ap (λ (n : ℕ). cond (nat_lt most_kept n) (Err Length) (Ok n)) number
    ∙ ap (λ (b : Bool). cond b (Err Length) (Ok count)) within

-- the records of packets
records : (packets : List Packet) → All (λ (p : Packet). length p.octets ≤ most_written) packets
    → AreRecords Big (map (λ p. p.octets) packets) (records_of packets)
records [] short = refl
records (p ∷ later) short = (
  records_of later,
  record {
    header = header_octets p.seconds p.micros (length p.octets);
    count = refl;
    kept = kept-again p.seconds p.micros (length p.octets)
        (All-head (λ (p : Packet). length p.octets ≤ most_written) p later short);
    whole = append_assoc (header_octets p.seconds p.micros (length p.octets)) p.octets (records_of later);
  },
  records later (All-tail (λ (p : Packet). length p.octets ≤ most_written) p later short),
)

pub file-of-packets : (packets : List Packet) → All (λ (p : Packet). length p.octets ≤ most_written) packets
    → IsFileOf (map (λ p. p.octets) packets) (file_of packets)
file-of-packets packets short = record {
  head = head_octets;
  records = records_of packets;
  order = Big;
  whole = refl;
  count = refl;
  read = refl;
  parts = records packets short;
}

-- ---- a file has no other packets

-- two lists that are one begin with one front of a length
front-same : {A : Type 0} (a b c d : List A) → length a ≡ length b → a ++ c ≡ b ++ d → (a ≡ b) × (c ≡ d)
front-same a b c d same is = (
  sym (take_at a c (length a) refl) ∙ ap (take (length a)) is ∙ take_at b d (length a) (sym same),
  sym (drop_at a c (length a) refl) ∙ ap (drop (length a)) is ∙ drop_at b d (length a) (sym same),
)

abbrev value_or : {A : Type 0} → A → Result A CaptureFault → A
value_or other (Ok a) = a
value_or other (Err why) = other

ok-same : {A : Type 0} (r : Result A CaptureFault) (a b : A) → r ≡ Ok a → r ≡ Ok b → a ≡ b
ok-same r a b is also = ap (value_or a) (sym is ∙ also)

-- a record isn't nothing
not-empty : (order : Order) (packet behind : List ℕ) → IsRecord order packet behind [] → ⊥
not-empty order packet behind is =
    omega (arith, ap length is.whole, length-append is.header (packet ++ behind), is.count)

-- one record begins octets
one-record : (order : Order) (p q b c octets : List ℕ) → IsRecord order p b octets
    → IsRecord order q c octets → (p ≡ q) × (b ≡ c)
one-record order p q b c octets x y =
    let headers = front-same x.header y.header (p ++ b) (q ++ c) (x.count ∙ sym y.count)
    (sym x.whole ∙ y.whole) in
    let count = ok-same (kept_read order x.header) (length p) (length q) x.kept
    (ap (kept_read order) headers.0 ∙ y.kept) in
    front-same p q b c count headers.1

one-list : (order : Order) (ps qs : List (List ℕ)) (octets : List ℕ) → AreRecords order ps octets
    → AreRecords order qs octets → ps ≡ qs
one-list order [] [] octets a b = refl
one-list order [] (q ∷ qs) octets a b =
    absurd (not-empty order q b.0 (subst (λ o. IsRecord order q b.0 o) a b.1))
one-list order (p ∷ ps) [] octets a b =
    absurd (not-empty order p a.0 (subst (λ o. IsRecord order p a.0 o) b a.1))
one-list order (p ∷ ps) (q ∷ qs) octets a b =
    let same = one-record order p q a.0 b.0 octets a.1 b.1 in
    let later = one-list order ps qs a.0 a.2 (subst (λ o. AreRecords order qs o) (sym same.1) b.2) in
    (λ i. same.0 i ∷ later i)

pub one-file : (file : List ℕ) (ps qs : List (List ℕ)) → IsFileOf ps file → IsFileOf qs file → ps ≡ qs
one-file file ps qs x y =
    let parts = front-same x.head y.head x.records y.records (x.count ∙ sym y.count)
    (sym x.whole ∙ y.whole) in
    let order = ok-same (head_read x.head) x.order y.order x.read (ap head_read parts.0 ∙ y.read) in
    one-list x.order ps qs x.records x.parts
    (subst (λ o. AreRecords o qs x.records) (sym order)
    (subst (λ octets. AreRecords y.order qs octets) (sym parts.1) y.parts))
