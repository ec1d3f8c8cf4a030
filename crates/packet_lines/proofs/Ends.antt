-- How telling a file comes to its end.
use Rattle.std.proofs.Common.{◌≡◌, ℕ, ◌+◌, ◌-◌, List, [], ◌∷◌, ◌++◌, length, take, Option, Ok, Err, refl, sym, ap, ◌∙◌, subst, append_assoc, length-append, arith, inl, inr}
use Rattle.std.proofs.lemmas.List.{take_all}
use Rattle.lan_base.specs.Told.{after}
use Rattle.capture_file.specs.declared.order.Order.{Order}
use Rattle.capture_file.specs.declared.fault.CaptureFault.{CaptureFault}
use Rattle.capture_file.specs.declared.fault.CaptureFault.TheVariants.{Magic, LinkType, Cut, Length}
use Rattle.capture_file.specs.Describing.{described}
use Rattle.lan_base.specs.Ranges.{most_input}
use Rattle.capture_file.specs.Pcap.{kept_read}
use Rattle.capture_file.specs.Records.{IsFileOf}
use Rattle.text_lines.specs.declared.reading.End.TheVariants.{Refused, Limit, ReadFault, Memory}
use Rattle.text_lines.specs.declared.unfinished.Unfinished.{Unfinished}
use Rattle.text_lines.specs.declared.unfinished.Unfinished.TheVariants as unfinished
use Rattle.text_lines.specs.Ends.{unfinished_by}
use Rattle.packet_lines.specs.Files.{IsFileBefore, IsHeadCut, IsRecordCut, IsRecordRefused, IsRefusedAt}
use Rattle.packet_lines.specs.Telling.{EndsTold, IsTakenNear, IsWithinLast, Told, ToldPart, lines}
use Rattle.octet_supply.specs.Supplying.{Held, IsAtEnd, Stands}
use Rattle.packet_lines.specs.inside.Reading.{FileEnd, IsOpened, IsReadNext, Opens, ReadsNext, Writes, WritesPart}
use Rattle.packet_lines.proofs.Records.{after-after, after-none, file-more, head-file, lines-and}
use Rattle.octet_supply.proofs.Public.{take-behind, within}

-- packets were read of a file, and told
pub record HasTold (file : List ℕ) (order : Order) (h : Held) (left : Option (List ℕ)) (number : ℕ)
    (held now : Option (List ℕ)) : Type 0 where
  pub packets : List (List ℕ)
  pub given : List ℕ
  pub is : IsFileOf packets given
  pub order_is : order ≡ is.order
  pub stands : Stands most_input file given h left
  pub count : number ≡ length packets
  pub told : Told packets held now

pub told-none : (file : List ℕ) (order : Order) (h : Held) (left : Option (List ℕ)) (held : Option (List ℕ))
    → IsOpened file order h left → HasTold file order h left 0 held held
told-none file order h left held o = record {
  packets = [];
  given = o.head;
  is = head-file order o.head o.count o.read;
  order_is = refl;
  stands = o.stands;
  count = refl;
  told = after-none held;
}

-- the packets with one more
abbrev more-read : (file packet : List ℕ) (order : Order) (h new : Held) (left left_then : Option (List ℕ))
    (number : ℕ) (held now : Option (List ℕ)) (t : HasTold file order h left number held now)
    (r : IsReadNext file t.given order packet new left_then)
    → IsFileOf (t.packets ++ packet ∷ []) (t.given ++ (r.header ++ packet))
more-read file packet order h new left left_then number held now t r =
    file-more t.packets t.given r.header packet t.is r.count
    (ap (λ (o : Order). kept_read o r.header) (sym t.order_is) ∙ r.kept)

pub told-more : (file packet : List ℕ) (order : Order) (h new : Held) (left left_then : Option (List ℕ))
    (number next : ℕ) (held now then : Option (List ℕ)) → (t : HasTold file order h left number held now)
    → IsReadNext file t.given order packet new left_then → next ≡ number + 1
    → Writes next packet now then (Ok tt) → HasTold file order new left_then next held then
told-more file packet order h new left left_then number next held now then t r is w =
    let c = t.count in
    let numbered : next ≡ length t.packets + 1 = omega (arith, is, c) in
    record {
      packets = t.packets ++ packet ∷ [];
      given = t.given ++ (r.header ++ packet);
      is = more-read file packet order h new left left_then number held now t r;
      order_is = t.order_is;
      stands = r.stands;
      count = let l = length-append t.packets (packet ∷ []) in omega (arith, numbered, l);
      told = w ∙ ap (λ (o : Option (List ℕ)). after o (described next packet)) t.told
          ∙ after-after held (lines t.packets) (described next packet)
          ∙ ap (after held) (sym (lines-and t.packets packet next numbered));
    }

-- ---- the ends

pub open-ends : (file : List ℕ) (left : Option (List ℕ)) (held : Option (List ℕ)) (end : FileEnd)
    → Opens file left (Err end) → EndsTold file left held held (Err (unfinished_by end))
open-ends file left held (Refused (at, why)) o = ([], o, after-none held)
open-ends file left held Limit (front, cut, past) =
    (past.longer, ([], inl (refl, subst IsHeadCut (sym past.front) cut), after-none held))
open-ends file left held ReadFault (front, cut, taken) =
    (front, taken.rest, taken.whole, taken.told, taken.within, ([], inl (refl, cut), after-none held))
open-ends file left held Memory o = inl refl

pub whole-ends : (file : List ℕ) (order : Order) (h : Held) (left left_then : Option (List ℕ)) (number : ℕ)
    (held now : Option (List ℕ)) → (t : HasTold file order h left number held now)
    → IsAtEnd most_input file t.given left_then → EndsTold file left_then held now (Ok tt)
whole-ends file order h left left_then number held now t end =
    (end.within, end.end, (t.packets, subst (λ (l : List ℕ). IsFileOf t.packets l) (sym end.all) t.is, t.told))

-- what is behind the packets that were told
abbrev file-before : (file octets behind : List ℕ) (order : Order) (h : Held) (left : Option (List ℕ)) (number : ℕ)
    (held now : Option (List ℕ)) (t : HasTold file order h left number held now)
    → octets ≡ t.given ++ behind → IsFileBefore t.packets behind octets
file-before file octets behind order h left number held now t whole =
    record { file = t.given; packets_are = t.is; whole = whole }

all-told : (packets : List (List ℕ)) (held now : Option (List ℕ)) → Told packets held now
    → ToldPart (length (lines packets)) packets held now
all-told packets held now told =
    told ∙ ap (after held) (sym (take_all (length (lines packets)) (lines packets) (omega arith)))

refused-by : (file : List ℕ) (order : Order) (h : Held) (left : Option (List ℕ)) (number at : ℕ)
    (held now : Option (List ℕ)) (why : CaptureFault) (t : HasTold file order h left number held now)
    → at ≡ length t.given
    → (behind : List ℕ) × (take most_input file ≡ t.given ++ behind) × IsRecordRefused order behind why
    → IsRefusedAt t.packets at why (take most_input file)
refused-by file order h left number at held now why t here (behind, whole, refused) =
    inr (
      behind,
      file-before file (take most_input file) behind order h left number held now t whole,
      here,
      subst (λ (o : Order). IsRecordRefused o behind why) t.order_is refused,
    )

pub read-ends : (file packet : List ℕ) (order : Order) (h new : Held) (left left_then : Option (List ℕ))
    (number : ℕ) (held now : Option (List ℕ)) (end : FileEnd) → (t : HasTold file order h left number held now)
    → ReadsNext file t.given order packet new left_then (Err end)
    → EndsTold file left_then held now (Err (unfinished_by end))
read-ends file packet order h new left left_then number held now (Refused (at, Cut)) t (here, (few, (behind, whole, some, cut))) = (
  t.packets,
  (
    few,
    inr (
      behind,
      file-before file file behind order h left number held now t whole,
      here,
      some,
      subst (λ (o : Order). IsRecordCut o behind) t.order_is cut,
    ),
  ),
  t.told,
)
read-ends file packet order h new left left_then number held now (Refused (at, Magic)) t (here, r) =
    (t.packets, refused-by file order h left number at held now Magic t here r, t.told)
read-ends file packet order h new left left_then number held now (Refused (at, LinkType)) t (here, r) =
    (t.packets, refused-by file order h left number at held now LinkType t here r, t.told)
read-ends file packet order h new left left_then number held now (Refused (at, Length)) t (here, r) =
    (t.packets, refused-by file order h left number at held now Length t here r, t.told)
read-ends file packet order h new left left_then number held now Limit t (behind, cut, past) = (
  past.longer,
  (
    t.packets,
    inr (
      behind,
      file-before file (take most_input file) behind order h left number held now t past.front,
      subst (λ (o : Order). IsRecordCut o behind) t.order_is cut,
    ),
    t.told,
  ),
)
read-ends file packet order h new left left_then number held now ReadFault t (behind, cut, taken) = (
  t.given ++ behind,
  taken.rest,
  taken.whole,
  taken.told,
  taken.within,
  (
    t.packets,
    inr (
      behind,
      file-before file (t.given ++ behind) behind order h left number held now t refl,
      subst (λ (o : Order). IsRecordCut o behind) t.order_is cut,
    ),
    t.told,
  ),
)
read-ends file packet order h new left left_then number held now Memory t r =
    let a = within most_input file t.given h left t.stands in
    inr (
      t.packets,
      a.ahead,
      file-before file (take most_input file) a.ahead order h left number held now t a.front,
      (length (lines t.packets), all-told t.packets held now t.told),
    )

-- a part of the line of the packet that was read last
record IsToldPart (file : List ℕ) (left held now : Option (List ℕ)) : Type 0 where
  packets : List (List ℕ)
  behind : List ℕ
  before : IsFileBefore packets behind (take most_input file)
  near : IsTakenNear file before.file left
  count : ℕ
  last : IsWithinLast count packets
  told : ToldPart count packets held now

part-told : (file packet : List ℕ) (order : Order) (h new : Held) (left left_then : Option (List ℕ))
    (number next : ℕ) (held now then : Option (List ℕ)) → (t : HasTold file order h left number held now)
    → IsReadNext file t.given order packet new left_then → next ≡ number + 1
    → WritesPart next packet now then → IsToldPart file left_then held then
part-told file packet order h new left left_then number next held now then t r is (n, less, w) =
    let c = t.count in
    let numbered : next ≡ length t.packets + 1 = omega (arith, is, c) in
    let both = lines-and t.packets packet next numbered in
    let line = described next packet in
    let a = within most_input file (t.given ++ (r.header ++ packet)) new left_then r.stands in
    let long = ap length both ∙ length-append (lines t.packets) line in
    let rest : length (lines t.packets) + n - length (lines t.packets) ≡ n = omega arith in
    record {
      packets = t.packets ++ packet ∷ [];
      behind = a.ahead;
      before = record {
        file = t.given ++ (r.header ++ packet);
        packets_are = more-read file packet order h new left left_then number held now t r;
        whole = a.front;
      };
      near = let s = r.stands in let f = s.few in let l = length-append new.octets s.lost in (
        new.octets ++ s.lost,
        s.rest,
        s.taken ∙ ap (λ (o : List ℕ). (t.given ++ (r.header ++ packet)) ++ o)
            (sym (append_assoc new.octets s.lost s.rest)),
        s.told,
        omega (arith, f, l),
      );
      count = length (lines t.packets) + n;
      last = record {
        before = t.packets;
        last = packet;
        all = refl;
        from = omega arith;
        to = omega (arith, long, less);
      };
      told = w ∙ ap (λ (o : Option (List ℕ)). after o (take n line)) t.told
          ∙ after-after held (lines t.packets) (take n line)
          ∙ ap (λ (k : ℕ). after held (lines t.packets ++ take k line)) (sym rest)
          ∙ ap (after held) (sym (take-behind (length (lines t.packets) + n) (lines t.packets) line (omega arith)))
          ∙ ap (λ (l : List ℕ). after held (take (length (lines t.packets) + n) l)) (sym both);
    }

pub write-ends : (file packet : List ℕ) (order : Order) (h new : Held) (left left_then : Option (List ℕ))
    (number next : ℕ) (held now then : Option (List ℕ)) (end : Unfinished CaptureFault)
    → (t : HasTold file order h left number held now)
    → IsReadNext file t.given order packet new left_then → next ≡ number + 1
    → Writes next packet now then (Err end) → EndsTold file left_then held then (Err end)
write-ends file packet order h new left left_then number next held now then (unfinished.Refused at why) t r is w = absurd w
write-ends file packet order h new left left_then number next held now then unfinished.Limit t r is w = absurd w
write-ends file packet order h new left left_then number next held now then unfinished.ReadFault t r is w = absurd w
write-ends file packet order h new left left_then number next held now then unfinished.WriteFault t r is w =
    let p = part-told file packet order h new left left_then number next held now then t r is w in
    (p.packets, p.behind, p.before, p.near, (p.count, p.last, p.told))
write-ends file packet order h new left left_then number next held now then unfinished.Memory t r is w =
    let p = part-told file packet order h new left left_then number next held now then t r is w in
    inr (p.packets, p.behind, p.before, (p.count, p.told))
