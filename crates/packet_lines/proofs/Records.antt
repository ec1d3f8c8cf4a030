-- Records behind one another are a file.
use Rattle.std.proofs.Common.{◌≡◌, ℕ, ◌+◌, List, [], ◌∷◌, ◌++◌, length, Option, Some, None, Ok, refl, sym, ap, ◌∙◌, append_assoc, arith}
use Rattle.std.proofs.lemmas.List.{append-nil}
use Rattle.lan_base.specs.Told.{after}
use Rattle.capture_file.specs.declared.order.Order.{Order}
use Rattle.capture_file.specs.Describing.{described}
use Rattle.capture_file.specs.Pcap.{head_read, kept_read}
use Rattle.capture_file.specs.Records.{AreRecords, IsRecord, IsFileOf}
use Rattle.packet_lines.specs.Telling.{lines, lines_after}

-- ---- packets of a file

-- a head alone
abbrev pub head-file : (order : Order) (head : List ℕ) → length head ≡ 24 → head_read head ≡ Ok order
    → IsFileOf [] head
head-file order head count read = record {
  head = head;
  records = [];
  order = order;
  whole = sym (append-nil head);
  count = count;
  read = read;
  parts = refl;
}

record-before : (order : Order) (packet behind octets more : List ℕ) → IsRecord order packet behind octets
    → IsRecord order packet (behind ++ more) (octets ++ more)
record-before order packet behind octets more is = record {
  header = is.header;
  count = is.count;
  kept = is.kept;
  whole = ap (λ (l : List ℕ). l ++ more) is.whole ∙ append_assoc is.header (packet ++ behind) more
      ∙ ap (λ (l : List ℕ). is.header ++ l) (append_assoc packet behind more);
}

pub records-more : (order : Order) (packets : List (List ℕ)) (records header packet : List ℕ)
    → length header ≡ 16 → kept_read order header ≡ Ok (length packet)
    → AreRecords order packets records
    → AreRecords order (packets ++ packet ∷ []) (records ++ (header ++ packet))
records-more order [] records header packet count kept are = (
  [],
  record {
    header = header;
    count = count;
    kept = kept;
    whole = ap (λ (l : List ℕ). l ++ (header ++ packet)) are
        ∙ ap (λ (l : List ℕ). header ++ l) (sym (append-nil packet));
  },
  refl,
)
records-more order (first ∷ later) records header packet count kept are = (
  are.0 ++ (header ++ packet),
  record-before order first are.0 records (header ++ packet) are.1,
  records-more order later are.0 header packet count kept are.2,
)

-- a record behind a file
abbrev pub file-more : (packets : List (List ℕ)) (file header packet : List ℕ) (f : IsFileOf packets file)
    → length header ≡ 16 → kept_read f.order header ≡ Ok (length packet)
    → IsFileOf (packets ++ packet ∷ []) (file ++ (header ++ packet))
file-more packets file header packet f count kept = record {
  head = f.head;
  records = f.records ++ (header ++ packet);
  order = f.order;
  whole = ap (λ (l : List ℕ). l ++ (header ++ packet)) f.whole
      ∙ append_assoc f.head f.records (header ++ packet);
  count = f.count;
  read = f.read;
  parts = records-more f.order packets f.records header packet count kept f.parts;
}

-- ---- lines of packets

lines-more : (n : ℕ) (packets : List (List ℕ)) (packet : List ℕ)
    → lines_after n (packets ++ packet ∷ [])
    ≡ lines_after n packets ++ described (n + length packets + 1) packet
lines-more n [] packet =
    append-nil (described (n + 1) packet)
    ∙ ap (λ (k : ℕ). described k packet) (let e : n + 1 ≡ n + 0 + 1 = omega arith in e)
lines-more n (first ∷ later) packet =
    ap (λ (l : List ℕ). described (n + 1) first ++ l) (lines-more (n + 1) later packet)
    ∙ sym (append_assoc (described (n + 1) first) (lines_after (n + 1) later)
    (described (n + 1 + length later + 1) packet))
    ∙ ap (λ (k : ℕ). (described (n + 1) first ++ lines_after (n + 1) later) ++ described k packet)
    (let e : n + 1 + length later + 1 ≡ n + length (first ∷ later) + 1 = omega arith in e)

pub lines-and : (packets : List (List ℕ)) (packet : List ℕ) (number : ℕ)
    → number ≡ length packets + 1
    → lines (packets ++ packet ∷ []) ≡ lines packets ++ described number packet
lines-and packets packet number is =
    lines-more 0 packets packet
    ∙ ap (λ (k : ℕ). lines packets ++ described k packet)
    (let e : 0 + length packets + 1 ≡ number = omega (arith, is) in e)

-- ---- what a sink holds

pub after-none : (held : Option (List ℕ)) → held ≡ after held []
after-none None = refl
after-none (Some l) = ap (λ (m : List ℕ). Some m) (sym (append-nil l))

pub after-after : (held : Option (List ℕ)) (xs ys : List ℕ) → after (after held xs) ys ≡ after held (xs ++ ys)
after-after None xs ys = refl
after-after (Some l) xs ys = ap (λ (m : List ℕ). Some m) (append_assoc l xs ys)
