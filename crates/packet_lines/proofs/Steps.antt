-- A head and a record are read of a text.
use Rattle.std.proofs.Common.{◌≡◌, ◌≢◌, ℕ, ◌<◌, ◌≤◌, List, [], ◌++◌, length, take, Option, Result, Ok, Err, refl, sym, ap, ◌∙◌, subst, append_assoc, length-append, arith, inl, inr}
use Rattle.std.proofs.lemmas.List.{append-nil, take_all}
use Rattle.lan_base.specs.declared.source.ReadEnd.{ReadEnd}
use Rattle.lan_base.specs.declared.source.ReadEnd.TheVariants as readings
use Rattle.capture_file.specs.declared.order.Order.{Order}
use Rattle.capture_file.specs.declared.fault.CaptureFault.{CaptureFault}
use Rattle.capture_file.specs.declared.fault.CaptureFault.TheVariants.{Magic, LinkType, Cut, Length}
use Rattle.lan_base.specs.Ranges.{most_input}
use Rattle.capture_file.specs.Pcap.{head_read, kept_read}
use Rattle.text_lines.specs.declared.reading.End.TheVariants.{Refused, Limit, ReadFault, Memory}
use Rattle.text_lines.specs.declared.unfinished.Unfinished.TheVariants as unfinished
use Rattle.text_lines.specs.Ends.{end_of, unfinished_by}
use Rattle.packet_lines.specs.Files.{IsHeadCut, IsHeadRefused, IsRecordCut, IsRecordRefused}
use Rattle.octet_supply.specs.Supplying.{Held, IsAtEnd, IsPast, IsTaken, Stands, Takes}
use Rattle.packet_lines.specs.inside.Reading.{GivesCount, GivesOrder, IsOpened, IsReadNext, Opens, ReadsNext, RefusedNext, FileEnd}
use Rattle.octet_supply.proofs.Public.{within}

-- ---- the head

pub opens-err : (text into now : List ℕ) (h : Held) (left : Option (List ℕ)) (e : ReadEnd)
    → Takes most_input text [] 24 into now h left (Err e) → Opens text left (Err (end_of e))
opens-err text into now h left readings.Limit (more, is, less, (stands, past)) = (more, less, past)
opens-err text into now h left readings.Failed (more, is, less, (stands, taken)) = (more, less, taken)
opens-err text into now h left readings.Memory t = tt

record IsFront (text octets : List ℕ) (h : Held) (left : Option (List ℕ)) : Type 0 where
  count : length octets ≡ 24
  stands : Stands most_input text octets h left

front-whole : (text octets : List ℕ) (h : Held) (left : Option (List ℕ)) → Takes most_input text [] 24 [] octets h left (Ok tt)
    → 24 ≤ length octets → IsFront text octets h left
front-whole text octets h left (more, is, (stands, inl count)) enough = record {
  count = ap length is ∙ count;
  stands = subst (λ (l : List ℕ). Stands most_input text l h left) (sym is) stands;
}
front-whole text octets h left (more, is, (stands, inr (less, end))) enough =
    let l = ap length is in absurd (omega (arith, l, less, enough))

front-cut : (text octets : List ℕ) (h : Held) (left : Option (List ℕ)) → Takes most_input text [] 24 [] octets h left (Ok tt)
    → length octets < 24 → (length text ≤ most_input) × IsHeadCut text
front-cut text octets h left (more, is, (stands, inl count)) less =
    let l = ap length is in absurd (omega (arith, l, less, count))
front-cut text octets h left (more, is, (stands, inr (few, end))) less =
    (end.within, let l = ap length end.all in omega (arith, l, few))

head-refused : (text octets : List ℕ) (h : Held) (left : Option (List ℕ)) (why : CaptureFault)
    → Takes most_input text [] 24 [] octets h left (Ok tt) → 24 ≤ length octets
    → head_read (take 24 octets) ≡ Err why → IsHeadRefused (take most_input text) why
head-refused text octets h left why t enough read =
    let f = front-whole text octets h left t enough in
    let a = within most_input text octets h left f.stands in
    let c = f.count in
    record {
      head = octets;
      behind = a.ahead;
      whole = a.front;
      count = c;
      read = ap head_read (sym (take_all 24 octets (omega (arith, c)))) ∙ read;
    }

pub opens-refused : (text octets : List ℕ) (h : Held) (left : Option (List ℕ)) (end : FileEnd)
    → Takes most_input text [] 24 [] octets h left (Ok tt) → GivesOrder octets (Err end) → Opens text left (Err end)
opens-refused text octets h left (Refused (at, Cut)) t (none, less) =
    let f = front-cut text octets h left t less in (f.0, inl (refl, none, f.1))
opens-refused text octets h left (Refused (at, Magic)) t (none, enough, read) =
    inl (refl, none, head-refused text octets h left Magic t enough read)
opens-refused text octets h left (Refused (at, LinkType)) t (none, enough, read) =
    inl (refl, none, head-refused text octets h left LinkType t enough read)
opens-refused text octets h left (Refused (at, Length)) t (none, enough, read) =
    inl (refl, none, head-refused text octets h left Length t enough read)
opens-refused text octets h left Limit t g = absurd g
opens-refused text octets h left ReadFault t g = absurd g
opens-refused text octets h left Memory t g = absurd g

pub opens-ok : (text octets : List ℕ) (h : Held) (left : Option (List ℕ)) (order : Order)
    → Takes most_input text [] 24 [] octets h left (Ok tt) → GivesOrder octets (Ok order)
    → IsOpened text order h left
opens-ok text octets h left order t (enough, read) =
    let f = front-whole text octets h left t enough in
    let c = f.count in
    record {
      head = octets;
      stands = f.stands;
      count = c;
      read = ap head_read (sym (take_all 24 octets (omega (arith, c)))) ∙ read;
    }

-- ---- the header of a record

pub header-err : (text given into now packet : List ℕ) (order : Order) (h new : Held) (left : Option (List ℕ))
    (e : ReadEnd) → Takes most_input text given 16 into now h left (Err e)
    → ReadsNext text given order packet new left (Err (end_of e))
header-err text given into now packet order h new left readings.Limit (more, is, less, (stands, past)) =
    (more, inl less, past)
header-err text given into now packet order h new left readings.Failed (more, is, less, (stands, taken)) =
    (more, inl less, taken)
header-err text given into now packet order h new left readings.Memory t = tt

pub at-whole : (text given now : List ℕ) (h : Held) (left : Option (List ℕ))
    → Takes most_input text given 16 [] now h left (Ok tt) → now ≡ [] → IsAtEnd most_input text given left
at-whole text given now h left (more, is, (stands, inl count)) none =
    let l = ap length (sym is ∙ none) in absurd (omega (arith, l, count))
at-whole text given now h left (more, is, (stands, inr (less, end))) none =
    let empty : more ≡ [] = sym is ∙ none in
    subst (λ (l : List ℕ). IsAtEnd most_input text l left)
    (ap (λ (l : List ℕ). given ++ l) empty ∙ append-nil given) end

pub record HasHeader (text given header : List ℕ) (h : Held) (left : Option (List ℕ)) : Type 0 where
  pub count : length header ≡ 16
  pub stands : Stands most_input text (given ++ header) h left

pub header-whole : (text given octets : List ℕ) (h : Held) (left : Option (List ℕ))
    → Takes most_input text given 16 [] octets h left (Ok tt) → 16 ≤ length octets → HasHeader text given octets h left
header-whole text given octets h left (more, is, (stands, inl count)) enough = record {
  count = ap length is ∙ count;
  stands = subst (λ (l : List ℕ). Stands most_input text (given ++ l) h left) (sym is) stands;
}
header-whole text given octets h left (more, is, (stands, inr (less, end))) enough =
    let l = ap length is in absurd (omega (arith, l, less, enough))

header-refused : (text given octets : List ℕ) (order : Order) (h : Held) (left : Option (List ℕ))
    (why : CaptureFault) → Takes most_input text given 16 [] octets h left (Ok tt) → 16 ≤ length octets
    → kept_read order (take 16 octets) ≡ Err why
    → (behind : List ℕ) × (take most_input text ≡ given ++ behind) × IsRecordRefused order behind why
header-refused text given octets order h left why t enough read =
    let f = header-whole text given octets h left t enough in
    let a = within most_input text (given ++ octets) h left f.stands in
    let c = f.count in (
      octets ++ a.ahead,
      a.front ∙ append_assoc given octets a.ahead,
      record {
        header = octets;
        behind = a.ahead;
        whole = refl;
        count = c;
        read = ap (kept_read order) (sym (take_all 16 octets (omega (arith, c)))) ∙ read;
      },
    )

header-cut : (text given octets : List ℕ) (order : Order) (h : Held) (left : Option (List ℕ))
    → Takes most_input text given 16 [] octets h left (Ok tt) → octets ≢ [] → length octets < 16
    → RefusedNext Cut text given order
header-cut text given octets order h left (more, is, (stands, inl count)) some less =
    let l = ap length is in absurd (omega (arith, l, less, count))
header-cut text given octets order h left (more, is, (stands, inr (few, end))) some less =
    (end.within, (more, end.all, (λ none. some (is ∙ none)), inl few))

pub next-refused : (text given octets packet : List ℕ) (order : Order) (at : ℕ) (h new : Held)
    (left : Option (List ℕ)) (end : FileEnd) → Takes most_input text given 16 [] octets h left (Ok tt) → octets ≢ []
    → at ≡ length given → GivesCount order at octets (Err end)
    → ReadsNext text given order packet new left (Err end)
next-refused text given octets packet order at h new left (Refused (where_at, Cut)) t some here (is, less) =
    (is ∙ here, header-cut text given octets order h left t some less)
next-refused text given octets packet order at h new left (Refused (where_at, Magic)) t some here (is, enough, read) =
    (is ∙ here, header-refused text given octets order h left Magic t enough read)
next-refused text given octets packet order at h new left (Refused (where_at, LinkType)) t some here (is, enough, read) =
    (is ∙ here, header-refused text given octets order h left LinkType t enough read)
next-refused text given octets packet order at h new left (Refused (where_at, Length)) t some here (is, enough, read) =
    (is ∙ here, header-refused text given octets order h left Length t enough read)
next-refused text given octets packet order at h new left Limit t some here g = absurd g
next-refused text given octets packet order at h new left ReadFault t some here g = absurd g
next-refused text given octets packet order at h new left Memory t some here g = absurd g

-- ---- the octets of a record

kept-header : (order : Order) (octets : List ℕ) (kept : ℕ) → length octets ≡ 16
    → kept_read order (take 16 octets) ≡ Ok kept → kept_read order octets ≡ Ok kept
kept-header order octets kept count read =
    ap (kept_read order) (sym (take_all 16 octets (omega (arith, count)))) ∙ read

packet-cut : (order : Order) (header more : List ℕ) (kept : ℕ) → length header ≡ 16
    → kept_read order (take 16 header) ≡ Ok kept → length more < kept
    → IsRecordCut order (header ++ more)
packet-cut order header more kept count read less = inr (record {
  header = header;
  behind = more;
  whole = refl;
  count = count;
  kept = kept;
  read = kept-header order header kept count read;
  short = less;
})

pub packet-err : (text given header into now packet : List ℕ) (order : Order) (kept : ℕ) (h middle new : Held)
    (left left_then : Option (List ℕ)) (e : ReadEnd) → HasHeader text given header h left
    → kept_read order (take 16 header) ≡ Ok kept
    → Takes most_input text (given ++ header) kept into now middle left_then (Err e)
    → ReadsNext text given order packet new left_then (Err (end_of e))
packet-err text given header into now packet order kept h middle new left left_then readings.Limit has read (more, is, less, (stands, past)) = (
  header ++ more,
  packet-cut order header more kept has.count read less,
  subst (λ (l : List ℕ). IsPast most_input text l) (append_assoc given header more) past,
)
packet-err text given header into now packet order kept h middle new left left_then readings.Failed has read (more, is, less, (stands, taken)) = (
  header ++ more,
  packet-cut order header more kept has.count read less,
  subst (λ (l : List ℕ). IsTaken most_input text l left_then) (append_assoc given header more) taken,
)
packet-err text given header into now packet order kept h middle new left left_then readings.Memory has read t = tt

pub packet-short : (text given header now : List ℕ) (order : Order) (kept : ℕ) (h middle : Held)
    (left left_then : Option (List ℕ)) → HasHeader text given header h left
    → kept_read order (take 16 header) ≡ Ok kept
    → Takes most_input text (given ++ header) kept [] now middle left_then (Ok tt) → length now < kept
    → RefusedNext Cut text given order
packet-short text given header now order kept h middle left left_then has read (more, is, (stands, inl count)) less =
    let l = ap length is in absurd (omega (arith, l, less, count))
packet-short text given header now order kept h middle left left_then has read (more, is, (stands, inr (few, end))) less =
    let c = has.count in (
      end.within,
      (
        header ++ more,
        end.all ∙ append_assoc given header more,
        (λ none. let l = sym (length-append header more) ∙ ap length none in omega (arith, l, c)),
        packet-cut order header more kept c read few,
      ),
    )

pub packet-whole : (text given header now : List ℕ) (order : Order) (kept : ℕ) (h middle : Held)
    (left left_then : Option (List ℕ)) → HasHeader text given header h left
    → kept_read order (take 16 header) ≡ Ok kept
    → Takes most_input text (given ++ header) kept [] now middle left_then (Ok tt) → kept ≤ length now
    → IsReadNext text given order now middle left_then
packet-whole text given header now order kept h middle left left_then has read (more, is, (stands, inl count)) enough = record {
  header = header;
  count = has.count;
  kept = kept-header order header kept has.count read
      ∙ ap (λ (n : ℕ). Ok n) (sym (ap length is ∙ count));
  stands = subst (λ (l : List ℕ). Stands most_input text l middle left_then)
      (append_assoc given header more ∙ ap (λ (l : List ℕ). given ++ (header ++ l)) (sym is)) stands;
}
packet-whole text given header now order kept h middle left left_then has read (more, is, (stands, inr (less, end))) enough =
    let l = ap length is in absurd (omega (arith, l, less, enough))

-- ---- what reading is to who tells

-- reading writes nothing
pub never-write : (end : FileEnd) → unfinished_by end ≡ unfinished.WriteFault → ⊥
never-write (Refused (at, why)) is = cc is
never-write Limit is = cc is
never-write ReadFault is = cc is
never-write Memory is = cc is

pub read-faulted : (end : FileEnd) → unfinished_by end ≡ unfinished.ReadFault → end ≡ ReadFault
read-faulted (Refused (at, why)) is = absurd (cc is)
read-faulted Limit is = absurd (cc is)
read-faulted ReadFault is = refl
read-faulted Memory is = absurd (cc is)

-- the error of a result
pub same-error : {X E : Type 0} (r : Result X E) (a b : E) → r ≡ Err a → r ≡ Err b → a ≡ b
same-error {X = X} {E = E} r a b is also = ap error (sym is ∙ also)
  where
    error : Result X E → E
    error (Ok x) = a
    error (Err end) = end
