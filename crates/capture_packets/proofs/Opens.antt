-- A reader goes on behind the head of a file, or behind its first section.
use Rattle.std.proofs.Common.{◌≡◌, ℕ, ◌+◌, ◌-◌, ◌≤◌, List, [], ◌++◌, drop, length, take, Option, None, Result, Ok, Err, refl, sym, ap, ◌∙◌, subst, append_assoc, length-append, length-drop, arith, inl, inr}
use Rattle.std.proofs.lemmas.List.{length-take, length-take-le, take-append-drop, take-append-le, take_all}
use Rattle.std.proofs.Math.Nat.{min-le_left}
use Rattle.std.proofs.Math.Seq.{drop-append_seam}
use Rattle.octet_supply.specs.Supplying.{Held, Stands}
use Rattle.text_lines.specs.declared.reading.End.TheVariants.{Limit, Memory, ReadFault, Refused}
use Rattle.capture_packets.specs.declared.fault.CaptureFault.{CaptureFault}
use Rattle.capture_packets.specs.declared.fault.CaptureFault.TheVariants as fault
use Rattle.capture_packets.specs.declared.head.Head.{Head}
use Rattle.capture_packets.specs.declared.reader.PacketReader.{PacketReader}
use Rattle.capture_packets.specs.declared.state.Layout.{Layout}
use Rattle.capture_packets.specs.declared.state.Layout.TheVariants.{Records, Blocks}
use Rattle.capture_packets.specs.declared.state.Parts.{Parts}
use Rattle.capture_packets.specs.Packets.{Context, context}
use Rattle.capture_packets.specs.Captures.{Step, begun, blank, blocks_head, capture, done, head_in, opened, opened_by, opened_with, refused_at, step, told, told_by}
use Rattle.capture_packets.specs.Reading.{FileEnd, HasPackets, IsTold, Opens, TellsOn}
use Rattle.capture_packets.specs.inside.Taking.{BeginsBlocks, BeginsRecords, ReadsHead, begun_by}
use Rattle.capture_packets.proofs.Opened.{in-blocks, in-records}
use Rattle.capture_packets.proofs.WholeFronts.{first-long, step-on}

-- ---- what a file tells behind its head

-- the first octets of a file are those of a longer front of it
front-more : (all : ℕ) (file rest : List ℕ) → 24 ≤ all → all ≤ length file
    → take 24 (take all file ++ rest) ≡ take 24 file
front-more all file rest least few =
    let long = length-take-le all file few in
    take-append-le 24 (take all file) rest (omega (arith, long, least))
    ∙ sym (take-append-le 24 (take all file) (drop all file) (omega (arith, long, least)))
    ∙ ap (take 24) (take-append-drop all file)

front-same : (file rest : List ℕ) → 24 ≤ length (take 24 file) → take 24 (take 24 file ++ rest) ≡ take 24 file
front-same file rest long = take-append-le 24 (take 24 file) rest long ∙ take_all 24 (take 24 file) (let t = length-take 24 file in let m = min-le_left 24 (length file) in omega (arith, t, m))

-- a file whose head is whole
has-opened : (front : List ℕ) (known : Context)
    → ((rest : List ℕ) → opened (front ++ rest) ≡ Ok (record { packet = None; known = known; rest = rest }))
    → HasPackets front [] known
has-opened front known on = record {
  goes = λ rest.
      let l = length-append front rest in
      let place : 0 + (length (front ++ rest) - length rest) ≡ length front = omega (arith, l) in (
        told (length (front ++ rest)) known (length front) rest,
        (length (front ++ rest), omega (arith, l), refl),
        ap (told_by (told (length (front ++ rest))) 0 (length (front ++ rest))) (on rest)
            ∙ ap (λ (k : ℕ). told (length (front ++ rest)) known k rest) place,
      );
}

pub opened-refused : (file : List ℕ) (why : CaptureFault) → opened file ≡ Err why → capture file ≡ refused_at 0 why
opened-refused file why is = ap (told_by (told (length file)) 0 (length file)) is

opened-tells : (limit : ℕ) (text given file : List ℕ) (all : ℕ) (reader : PacketReader) (left : Option (List ℕ))
    → all ≤ length file → take limit text ≡ given ++ file → reader.start ≡ length given
    → Stands limit text (given ++ take all file) reader.supply left
    → opened file ≡ Ok (record { packet = None; known = context reader.state; rest = drop all file })
    → ((rest : List ℕ) → opened (take all file ++ rest)
    ≡ Ok (record { packet = None; known = context reader.state; rest = rest }))
    → TellsOn limit text reader left [] (capture file)
opened-tells limit text given file all reader left few visible start stands is on =
    let rest = drop all file in
    let front = length-append given (take all file) in
    let gone = length-take-le all file few in
    let long = length-drop all file in
    let known = context reader.state in
    let place : 0 + (length file - length rest) ≡ length (given ++ take all file) - reader.start =
    omega (arith, front, gone, long, few, start) in
    record {
      given = given ++ take all file;
      behind = rest;
      before = record {
        stands = stands;
        visible = visible ∙ ap (λ (l : List ℕ). given ++ l) (sym (take-append-drop all file))
            ∙ sym (append_assoc given (take all file) rest);
        begun = omega (arith, front, start);
      };
      read = record {
        before = given;
        front = take all file;
        parts = refl;
        starts = sym start;
        has = has-opened (take all file) known on;
      };
      tells = subst (λ (k : ℕ). IsTold known k rest (capture file)) place (
        length file,
        omega (arith, long),
        sym (ap (told_by (told (length file)) 0 (length file)) is),
      );
    }

opened-records : (file : List ℕ) (h : Head) (parts : Parts) → head_in (take 24 file) ≡ Ok h
    → h.layout ≡ Records parts
    → opened file ≡ Ok (record { packet = None; known = begun h; rest = drop 24 file })
opened-records file h parts is records =
    ap (opened_with file) is ∙ ap (λ (l : Layout). opened_by l (begun h) file) records

opened-blocks : (file : List ℕ) (h : Head) (r : Result Step CaptureFault) → head_in (take 24 file) ≡ Ok h
    → h ≡ blocks_head → step blank file ≡ r → opened file ≡ r
opened-blocks file h r is blocks st =
    ap (opened_with file) is ∙ ap (λ (k : Head). opened_with file (Ok k)) blocks ∙ st

pub opens-head : (limit : ℕ) (text given file : List ℕ) (new : Held) (left : Option (List ℕ)) (e : FileEnd)
    → ReadsHead limit text given file new left (Err e) → Opens limit text given file left (Err e)
opens-head limit text given file new left (Refused (place, why)) r =
    (r.0, ap (opened_with file) r.1, r.2)
opens-head limit text given file new left Limit r = (r.0, ap (opened_with file) r.1)
opens-head limit text given file new left ReadFault (more, less, taken) = (more, taken, inl less)
opens-head limit text given file new left Memory r = tt

pub opens-records : (limit : ℕ) (text given file : List ℕ) (h : Head) (parts : Parts) (reader : PacketReader)
    (left : Option (List ℕ)) → take limit text ≡ given ++ file → head_in (take 24 file) ≡ Ok h
    → h.layout ≡ Records parts → reader.start ≡ length given → context reader.state ≡ begun h
    → BeginsRecords limit text given file reader.supply left (Ok tt)
    → Opens limit text given file left (Ok reader)
opens-records limit text given file h parts reader left visible is records start known b =
    let long = length-take-le 24 file (in-records file h parts is records) in
    let on : (rest : List ℕ) → opened (take 24 file ++ rest)
    ≡ Ok (record { packet = None; known = begun h; rest = rest }) = λ rest.
    opened-records (take 24 file ++ rest) h parts (ap head_in (front-same file rest (omega (arith, long))) ∙ is) records
    ∙ ap (λ (l : List ℕ). Ok (record { packet = None; known = begun h; rest = l }))
    (ap (λ (k : ℕ). drop k (take 24 file ++ rest)) (sym long) ∙ drop-append_seam (take 24 file) rest) in
    let o = opened-records file h parts is records
    ∙ ap (λ (k : Context). Ok (record { packet = None; known = k; rest = drop 24 file })) (sym known) in (
      record { packet = None; known = context reader.state; rest = drop 24 file },
      o,
      start,
      opened-tells limit text given file 24 reader left (in-records file h parts is records) visible start b o
          (λ rest. on rest ∙ ap (λ (k : Context). Ok (record { packet = None; known = k; rest = rest })) (sym known)),
    )

pub opens-passed : (limit : ℕ) (text given file : List ℕ) (new : Held) (left : Option (List ℕ)) (e : FileEnd)
    → BeginsRecords limit text given file new left (Err e) → Opens limit text given file left (Err e)
opens-passed limit text given file new left (Refused (place, why)) b = absurd b
opens-passed limit text given file new left Limit b = absurd b
opens-passed limit text given file new left ReadFault (more, less, taken) = (more, taken, inl less)
opens-passed limit text given file new left Memory b = tt

pub opens-blocks : (limit : ℕ) (text given file : List ℕ) (h : Head) (reader : PacketReader)
    (left : Option (List ℕ)) → take limit text ≡ given ++ file → head_in (take 24 file) ≡ Ok h
    → h.layout ≡ Blocks → reader.start ≡ length given
    → BeginsBlocks limit text given file (context reader.state) reader.supply left (Ok tt)
    → Opens limit text given file left (Ok reader)
opens-blocks limit text given file h reader left visible is blocks start (all, some, whole, stands, st) =
    let i = in-blocks (take 24 file) h is blocks in
    let o = opened-blocks file h _ is i.is st in
    let least = first-long file all (context reader.state) i.section whole st in
    let long = length-take-le all file whole in
    let on : (rest : List ℕ) → opened (take all file ++ rest)
    ≡ Ok (record { packet = None; known = context reader.state; rest = rest }) = λ rest.
    opened-blocks (take all file ++ rest) h _
    (ap head_in (front-more all file rest (omega (arith, least)) whole) ∙ is) i.is
    (step-on blank file all _ whole st refl rest) in (
      record { packet = None; known = context reader.state; rest = drop all file },
      o,
      start,
      opened-tells limit text given file all reader left whole visible start stands o on,
    )

pub opens-section : (limit : ℕ) (text given file : List ℕ) (h : Head) (now : Context) (new : Held)
    (left : Option (List ℕ)) (e : FileEnd) → head_in (take 24 file) ≡ Ok h → h.layout ≡ Blocks
    → BeginsBlocks limit text given file now new left (Err e)
    → Opens limit text given file left (Err e)
opens-section limit text given file h now new left (Refused (place, why)) is blocks b =
    (b.0, opened-blocks file h (Err why) is (in-blocks (take 24 file) h is blocks).is b.1, b.2)
opens-section limit text given file h now new left Limit is blocks b =
    (b.0, opened-blocks file h (Err fault.Cut) is (in-blocks (take 24 file) h is blocks).is b.1)
opens-section limit text given file h now new left ReadFault is blocks (more, taken, within) = (
  more,
  taken,
  inr (is ∙ ap (λ (k : Head). Ok k) (in-blocks (take 24 file) h is blocks).is, within),
)
opens-section limit text given file h now new left Memory is blocks b = tt

-- ---- either way

pub opens-by-records : (limit : ℕ) (text given file : List ℕ) (h : Head) (parts : Parts) (reader : PacketReader)
    (left : Option (List ℕ)) (r : Result (Unit {0}) FileEnd) → take limit text ≡ given ++ file
    → head_in (take 24 file) ≡ Ok h → h.layout ≡ Records parts → reader.start ≡ length given
    → context reader.state ≡ begun h → BeginsRecords limit text given file reader.supply left r
    → Opens limit text given file left (begun_by reader r)
opens-by-records limit text given file h parts reader left (Ok done) visible is records start known b =
    opens-records limit text given file h parts reader left visible is records start known b
opens-by-records limit text given file h parts reader left (Err e) visible is records start known b =
    opens-passed limit text given file reader.supply left e b

pub opens-by-blocks : (limit : ℕ) (text given file : List ℕ) (h : Head) (reader : PacketReader)
    (left : Option (List ℕ)) (r : Result (Unit {0}) FileEnd) → take limit text ≡ given ++ file
    → head_in (take 24 file) ≡ Ok h → h.layout ≡ Blocks → reader.start ≡ length given
    → BeginsBlocks limit text given file (context reader.state) reader.supply left r
    → Opens limit text given file left (begun_by reader r)
opens-by-blocks limit text given file h reader left (Ok done) visible is blocks start b =
    opens-blocks limit text given file h reader left visible is blocks start b
opens-by-blocks limit text given file h reader left (Err e) visible is blocks start b =
    opens-section limit text given file h (context reader.state) reader.supply left e is blocks b
