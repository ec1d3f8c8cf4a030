-- The fields of the record or block that a text goes on with are looked at.
use Rattle.std.proofs.Common.{◌≡◌, ◌≢◌, ℕ, ◌<◌, ◌≤◌, Bool, true, false, List, [], ◌++◌, length, take, Option, Some, None, Result, Ok, Err, refl, sym, ap, ◌∙◌, length-append, arith, inl, inr}
use Rattle.std.specs.Prelude.{if◌then◌else◌, min, ◌==◌}
use Rattle.std.proofs.lemmas.Bool.{cases_lt}
use Rattle.std.proofs.lemmas.Bool.Decides.{nat_tests}
use Rattle.std.proofs.lemmas.List.{length-take-le, take-append-le, take_all}
use Rattle.octet_supply.specs.Supplying.{Held, Stands}
use Rattle.octet_supply.proofs.Public.{no-octets, within-held}
use Rattle.capture_packets.specs.Reading.{FileEnd}
use Rattle.capture_packets.specs.declared.block.Block.{Block}
use Rattle.text_lines.specs.declared.reading.End.TheVariants.{Limit, Memory, ReadFault, Refused}
use Rattle.capture_packets.specs.declared.fault.CaptureFault.{CaptureFault}
use Rattle.capture_packets.specs.declared.fault.CaptureFault.TheVariants as fault
use Rattle.capture_packets.specs.Packets.{Context}
use Rattle.capture_packets.specs.Captures.{frame_of, most_fields, step_by}
use Rattle.capture_packets.specs.inside.Taking.{Frames, Looks, StepsOn, judged}
use Rattle.capture_packets.specs.declared.packet.Packet.{Packet}
use Rattle.capture_packets.proofs.Taken.{behind-same}

-- so many of the octets that a text goes on with are held, or all of them
pub record Sees (limit : ℕ) (text given behind held : List ℕ) (count : ℕ) (past : Bool)
    (left : Option (List ℕ)) : Type 0 where
  pub same : take count behind ≡ take count held
  pub some : held ≢ [] → behind ≢ []
  pub none : held ≡ [] → behind ≡ []
  pub within : past ≡ false → length held < count → length text ≤ limit
  pub end : past ≡ false → held ≡ [] → left ≡ Some []
  pub cut : past ≡ true → limit < length text

some-part : (held behind all : List ℕ) → all ≡ held ++ behind → held ≢ [] → all ≢ []
some-part held behind all is some none =
    let l = sym (length-append held behind) ∙ ap length (sym is ∙ none) in
    some (no-octets held (omega (arith, l)))

pub sees : (limit : ℕ) (text given behind : List ℕ) (count : ℕ) (new : Held) (left : Option (List ℕ)) (past : Bool)
    → 0 < count → take limit text ≡ given ++ behind → Looks limit text given count new left (Ok past)
    → Sees limit text given behind new.octets count past left
sees limit text given behind count new left false some visible (s, inl enough) =
    let a = within-held limit text given new left s in
    let same = behind-same given behind (new.octets ++ a.behind) (sym visible ∙ a.front) in
    record {
      same = ap (take count) same ∙ take-append-le count new.octets a.behind enough;
      some = some-part new.octets a.behind behind same;
      none = λ none. absurd (let l = ap length none in omega (arith, l, enough, some));
      within = λ is less. absurd (omega (arith, less, enough));
      end = λ is none. absurd (let l = ap length none in omega (arith, l, enough, some));
      cut = λ is. absurd (cc is);
    }
sees limit text given behind count new left false some visible (s, inr (less, e)) =
    let w = e.within in
    let same = behind-same given behind new.octets (sym visible ∙ take_all limit text (omega (arith, w)) ∙ e.all) in
    record {
      same = ap (take count) same;
      some = λ h none. h (sym same ∙ none);
      none = λ none. same ∙ none;
      within = λ is l. w;
      end = λ is none. e.end;
      cut = λ is. absurd (cc is);
    }
sees limit text given behind count new left true some visible (s, (less, p)) =
    let same = behind-same given behind new.octets (sym visible ∙ p.front) in
    record {
      same = ap (take count) same;
      some = λ h none. h (sym same ∙ none);
      none = λ none. same ∙ none;
      within = λ is l. absurd (cc is);
      end = λ is none. absurd (cc is);
      cut = λ is. p.longer;
    }

pub looks-stands : (limit : ℕ) (text given : List ℕ) (count : ℕ) (new : Held) (left : Option (List ℕ)) (past : Bool)
    → Looks limit text given count new left (Ok past) → Stands limit text given new left
looks-stands limit text given count new left false l = l.0
looks-stands limit text given count new left true l = l.0

-- a front of a list is one however it is cut
pub take-least : (count : ℕ) (xs : List ℕ) → take (min (length xs) count) xs ≡ take count xs
take-least count xs = elim (cases_lt (length xs) count) [
  | inl less ↦ take_all (min (length xs) count) xs (omega (arith, less))
      ∙ sym (take_all count xs (omega (arith, less)))
  | inr more ↦ ap (λ (k : ℕ). take k xs) (let e : min (length xs) count ≡ count = omega (arith, more) in e)
]

-- a front within so many octets is empty where the list is
pub empty-front : (held : List ℕ) (n most : ℕ) → 0 < most → n ≡ min (length held) most
    → (length (take n held) == 0) ≡ true → held ≡ []
empty-front held n most some is none =
    let z : length (take n held) ≡ 0 = grind (arith, nat_tests) in
    let t = length-take-le n held (omega (arith, is)) in no-octets held (omega (arith, z, t, is, some))

pub some-front : (held : List ℕ) (n most : ℕ) → n ≡ min (length held) most → (length (take n held) == 0) ≡ false
    → held ≢ []
some-front held n most is some none =
    let t = length-take-le n held (omega (arith, is)) in
    let l = ap length none in
    let z : length (take n held) ≡ 0 = omega (arith, t, l, is) in
    cc (sym some ∙ ap (λ (k : ℕ). k == 0) z)

pub front-short : (held : List ℕ) (n most : ℕ) → n ≡ min (length held) most → length (take n held) < most
    → length held < most
front-short held n most is less = let t = length-take-le n held (omega (arith, is)) in omega (arith, t, is, less)

pub frames-none : (limit : ℕ) (text given behind held : List ℕ) (known : Context) (at : ℕ) (new : Held)
    (left : Option (List ℕ)) (most : ℕ) (past : Bool) → 0 < most → Sees limit text given behind held most past left
    → held ≡ []
    → Frames limit text given behind known at new left (if past then Err Limit else Ok None)
frames-none limit text given behind held known at new left most true some s none = (s.cut refl, inl (s.none none))
frames-none limit text given behind held known at new left most false some s none =
    (s.none none, s.within refl (let l = ap length none in omega (arith, l, some)), s.end refl none)

frames-refused : (limit : ℕ) (text given behind held : List ℕ) (known : Context) (at : ℕ) (new : Held)
    (left : Option (List ℕ)) (most : ℕ) (past : Bool) (why : CaptureFault)
    → Sees limit text given behind held most past left → held ≢ []
    → frame_of known behind ≡ Err why → why ≢ fault.Cut
    → Frames limit text given behind known at new left (Err (Refused (at, why)))
frames-refused limit text given behind held known at new left most past why s some is other =
    (refl, s.some some, is, (λ cut. absurd (other cut)))

pub frames-by : (limit : ℕ) (text given behind held : List ℕ) (known : Context) (at : ℕ) (new : Held)
    (left : Option (List ℕ)) (most : ℕ) (past : Bool) (r : Result Block CaptureFault)
    → Stands limit text given new left → Sees limit text given behind held most past left → held ≢ []
    → frame_of known behind ≡ r → (r ≡ Err fault.Cut → length held < most)
    → Frames limit text given behind known at new left (judged at past r)
frames-by limit text given behind held known at new left most true (Ok block) stands s some is short =
    (stands, s.some some, is)
frames-by limit text given behind held known at new left most false (Ok block) stands s some is short =
    (stands, s.some some, is)
frames-by limit text given behind held known at new left most true (Err fault.Cut) stands s some is short =
    (s.cut refl, inr is)
frames-by limit text given behind held known at new left most false (Err fault.Cut) stands s some is short =
    (refl, s.some some, is, (λ cut. s.within refl (short refl)))
frames-by limit text given behind held known at new left most true (Err fault.Magic) stands s some is short =
    frames-refused limit text given behind held known at new left most true fault.Magic s some is (λ e. cc e)
frames-by limit text given behind held known at new left most false (Err fault.Magic) stands s some is short =
    frames-refused limit text given behind held known at new left most false fault.Magic s some is (λ e. cc e)
frames-by limit text given behind held known at new left most true (Err fault.LinkType) stands s some is short =
    frames-refused limit text given behind held known at new left most true fault.LinkType s some is (λ e. cc e)
frames-by limit text given behind held known at new left most false (Err fault.LinkType) stands s some is short =
    frames-refused limit text given behind held known at new left most false fault.LinkType s some is (λ e. cc e)
frames-by limit text given behind held known at new left most true (Err fault.Length) stands s some is short =
    frames-refused limit text given behind held known at new left most true fault.Length s some is (λ e. cc e)
frames-by limit text given behind held known at new left most false (Err fault.Length) stands s some is short =
    frames-refused limit text given behind held known at new left most false fault.Length s some is (λ e. cc e)
frames-by limit text given behind held known at new left most true (Err fault.Block) stands s some is short =
    frames-refused limit text given behind held known at new left most true fault.Block s some is (λ e. cc e)
frames-by limit text given behind held known at new left most false (Err fault.Block) stands s some is short =
    frames-refused limit text given behind held known at new left most false fault.Block s some is (λ e. cc e)
frames-by limit text given behind held known at new left most true (Err fault.Interface) stands s some is short =
    frames-refused limit text given behind held known at new left most true fault.Interface s some is (λ e. cc e)
frames-by limit text given behind held known at new left most false (Err fault.Interface) stands s some is short =
    frames-refused limit text given behind held known at new left most false fault.Interface s some is (λ e. cc e)

-- looking failed
pub frames-look : (limit : ℕ) (text given behind : List ℕ) (known : Context) (at : ℕ) (middle new : Held)
    (left : Option (List ℕ)) (e : FileEnd) → Looks limit text given (most_fields known.layout) middle left (Err e)
    → Frames limit text given behind known at new left (Err e)
frames-look limit text given behind known at middle new left (Refused (place, why)) l = absurd l
frames-look limit text given behind known at middle new left Limit l = absurd l
frames-look limit text given behind known at middle new left ReadFault l = l
frames-look limit text given behind known at middle new left Memory l = tt

-- ---- a step that has no block

pub steps-frame : (limit : ℕ) (text given behind : List ℕ) (known now : Context) (at place : ℕ) (packet : Packet)
    (middle new : Held) (left : Option (List ℕ)) (e : FileEnd) → place ≡ at
    → Frames limit text given behind known place middle left (Err e)
    → StepsOn limit text given behind known at packet now new left (Err e)
steps-frame limit text given behind known now at place packet middle new left (Refused (there, why)) here f =
    (f.0 ∙ here, f.1, ap (step_by known behind) f.2, f.3)
steps-frame limit text given behind known now at place packet middle new left Limit here (longer, inl none) =
    (longer, inl none)
steps-frame limit text given behind known now at place packet middle new left Limit here (longer, inr cut) =
    (longer, inr (ap (step_by known behind) cut))
steps-frame limit text given behind known now at place packet middle new left ReadFault here (more, less, taken) =
    (more, taken, inl less)
steps-frame limit text given behind known now at place packet middle new left Memory here f = tt
