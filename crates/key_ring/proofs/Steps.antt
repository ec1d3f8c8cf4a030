-- The key text is read line by line, up to the capture.
use Rattle.std.proofs.Common.{◌≡◌, ◌≢◌, ℕ, suc, ◌+◌, ◌≤◌, true, false, List, [], ◌∷◌, ◌++◌, length, take, drop, Ok, Err, Some, None, refl, sym, ap, ◌∙◌, subst, append_assoc, length-append, arith, inl}
use Rattle.std.specs.Prelude.{Bool, IfOk, OnErr, OnOk, Option, Result, if◌then◌else◌}
use Rattle.std.proofs.lemmas.List.{append-nil, append_cancel_left, take_all}
use Rattle.std.proofs.lemmas.List.Elements.{All-append, All-cons, All-nil}
use Rattle.lan_base.specs.declared.source.ReadEnd.{ReadEnd}
use Rattle.lan_base.specs.declared.source.ReadEnd.TheVariants as readings
use Rattle.lan_base.specs.Ranges.{most_input}
use Rattle.octet_supply.specs.Supplying.{Held, Stands}
use Rattle.octet_supply.specs.declared.supply.LineEnd.{LineEnd}
use Rattle.octet_supply.specs.declared.supply.LineEnd.TheVariants as line_ends
use Rattle.octet_supply.proofs.Public.{within}
use Rattle.text_lines.specs.Texts.{last_line, lines_of, open_line, without_return}
use Rattle.trace_text.specs.declared.fault.TextFault.{TextFault}
use Rattle.trace_text.specs.declared.fault.TextFault.TheVariants.{TooLong}
use Rattle.audit_text.specs.declared.line.KeyLine.{KeyLine}
use Rattle.audit_text.specs.declared.parting.Part.TheVariants as parts
use Rattle.audit_text.specs.Parting.{IsLast, IsLine, IsLong, IsUnparted, Parts, begins, capture_behind, is_capture, key_text, says_capture}
use Rattle.audit_text.proofs.Public.{BeginsLong, HasNoFeed, begins-long, behind-line, here, keys-before, line-alone, line-first, lines-append, open-behind, unparted-none}
use Rattle.audit_text.specs.Reading.{key_line_in}
use Rattle.key_ring.specs.Reading.{RingEnd}
use Rattle.text_lines.specs.declared.reading.End.TheVariants as ends
use Rattle.key_ring.specs.Rings.{Ring, no_ring, ring_by, ring_from, ring_in, with_line}
use Rattle.key_ring.specs.Reading.{IsUnfinished, ReadsRing, file_in}
use Rattle.text_lines.specs.Ends.{end_of}
use Rattle.key_ring.specs.inside.Steps.{Adds, AddsLine}
use Rattle.key_ring.proofs.Lines.{empty-line, ring-append, too-long}
use Rattle.key_ring.proofs.KeyFronts.{IsKeyFront, front-keys, front-more, front-none, goes-on, keys-in-line, none-here, rest-is}

-- of a text these octets were given out, which are whole lines of its key text: so many, which say this
pub record HasRead (text : List ℕ) (number : ℕ) (ring : Ring) (supply : Held) (left : Option (List ℕ))
    : Type 0 where
  pub given : List ℕ
  pub stands : Stands most_input text given supply left
  pub rest : List ℕ
  pub whole : text ≡ given ++ rest
  pub front : IsKeyFront given rest
  pub ended : open_line [] given ≡ []
  pub said : ring_from 1 (lines_of given) no_ring ≡ Ok ring
  pub count : number ≡ length (lines_of given)

pub read-none : (text : List ℕ) (supply : Held) (left : Option (List ℕ)) → Stands most_input text [] supply left
    → HasRead text 0 no_ring supply left
read-none text supply left s = record {
  given = [];
  stands = s;
  rest = text;
  whole = refl;
  front = front-none text;
  ended = refl;
  said = refl;
  count = refl;
}

-- ---- what is ahead

abbrev pub ahead : (text : List ℕ) (number : ℕ) (ring : Ring) (supply : Held) (left : Option (List ℕ))
    → HasRead text number ring supply left → List ℕ
ahead text number ring supply left h = (within most_input text h.given supply left h.stands).ahead

pub visible : (text : List ℕ) (number : ℕ) (ring : Ring) (supply : Held) (left : Option (List ℕ))
    (h : HasRead text number ring supply left)
    → take most_input text ≡ h.given ++ ahead text number ring supply left h
visible text number ring supply left h = (within most_input text h.given supply left h.stands).front

-- the file is in what is ahead
file-ahead : (text given behind rest : List ℕ) → take most_input text ≡ given ++ behind → text ≡ given ++ rest
    → IsKeyFront given rest → file_in text ≡ capture_behind behind
file-ahead text given behind rest seen whole front =
    ap capture_behind seen
    ∙ front.capture behind (drop most_input text) (rest-is most_input text given behind rest seen whole)

-- what lines say, behind those that were read
said-by : (text given rest : List ℕ) (ring : Ring) (keys : List ℕ) → text ≡ given ++ rest → IsKeyFront given rest
    → open_line [] given ≡ [] → ring_from 1 (lines_of given) no_ring ≡ Ok ring → key_text rest ≡ keys
    → ring_in text ≡ ring_from (1 + length (lines_of given)) (lines_of keys) ring
said-by text given rest ring keys whole front ended said are =
    ap (λ (t : List ℕ). ring_from 1 (lines_of t) no_ring)
    (ap key_text whole ∙ front-keys given rest rest [] front (sym (append-nil rest))
    ∙ ap (λ (k : List ℕ). given ++ k) are)
    ∙ ap (λ (ls : List (List ℕ)). ring_from 1 ls no_ring) (lines-append given keys ended)
    ∙ ring-append 1 (lines_of given) (lines_of keys) no_ring ring said

-- ---- the capture begins

pub at-capture : (text : List ℕ) (number : ℕ) (ring : Ring) (supply new : Held) (left later : Option (List ℕ))
    (line : List ℕ) (h : HasRead text number ring supply left)
    → Parts most_input text h.given (ahead text number ring supply left h) line new later (Ok parts.Capture)
    → ReadsRing text later (Ok (ring, Some new))
at-capture text number ring supply new left later line h (stands, is) =
    let behind = ahead text number ring supply left h in
    let seen = visible text number ring supply left h in
    let more = rest-is most_input text h.given behind h.rest seen h.whole in
    let none : key_text h.rest ≡ [] = ap key_text more ∙ (goes-on behind (drop most_input text) is).0 in
    let file : file_in text ≡ behind =
    file-ahead text h.given behind h.rest seen h.whole h.front ∙ (here behind is).1 in (
      said-by text h.given h.rest ring [] h.whole h.front h.ended h.said none,
      (h.given, stands, seen ∙ ap (λ (f : List ℕ). h.given ++ f) (sym file)),
    )

-- ---- nothing more is told

unfinished : (text given more rest later : List ℕ) (ring : Ring) → rest ≡ more ++ later → IsKeyFront given rest
    → open_line [] given ≡ [] → ring_from 1 (lines_of given) no_ring ≡ Ok ring → IsUnparted more
    → IsUnfinished (given ++ more)
unfinished text given more rest later ring parts front ended said un = record {
  front = given;
  more = more;
  parts = refl;
  none = front.capture more later parts ∙ unparted-none more un;
  starts = ended;
  ring = ring;
  read = said;
  unparted = un;
}

pub at-end : (text : List ℕ) (number : ℕ) (ring : Ring) (supply new : Held) (left later : Option (List ℕ))
    (line : List ℕ) (e : ReadEnd) (h : HasRead text number ring supply left)
    → Parts most_input text h.given (ahead text number ring supply left h) line new later (Err e)
    → ReadsRing text later (Err (end_of e))
at-end text number ring supply new left later line readings.Limit h (longer, un) =
    let behind = ahead text number ring supply left h in
    let seen = visible text number ring supply left h in (
      longer,
      subst (λ (t : List ℕ). IsUnfinished t) (sym seen)
          (unfinished text h.given behind h.rest (drop most_input text) ring
          (rest-is most_input text h.given behind h.rest seen h.whole) h.front h.ended h.said un),
    )
at-end text number ring supply new left later line readings.Failed h (more, taken, un) =
    let parts : h.rest ≡ more ++ taken.rest =
    append_cancel_left h.given h.rest (more ++ taken.rest)
    (sym h.whole ∙ taken.whole ∙ append_assoc h.given more taken.rest) in
    (h.given ++ more, taken, unfinished text h.given more h.rest taken.rest ring parts h.front h.ended h.said un)
at-end text number ring supply new left later line readings.Memory h p = tt

-- ---- a line

pub adds-said : (n : ℕ) (text : List ℕ) (line : KeyLine) (old new : Ring) (r : Result Bool RingEnd)
    → key_line_in text ≡ Ok (Some line) → OnOk r (new ≡ with_line n line old)
    → OnErr r ((r ≡ Err ends.Memory) × (new ≡ old)) → IfOk r (λ last. last ≡ is_capture (Ok (Some line)))
    → AddsLine n text old new r
adds-said n text line old new (Ok last) said added kept is = rw said (added, is)
adds-said n text line old new (Err ends.Memory) said added kept is = kept.1
adds-said n text line old new (Err (ends.Refused why)) said added kept is = absurd (cc kept.0)
adds-said n text line old new (Err ends.Limit) said added kept is = absurd (cc kept.0)
adds-said n text line old new (Err ends.ReadFault) said added kept is = absurd (cc kept.0)

-- the number of the next line
next-number : (given : List ℕ) (number next : ℕ) → number ≡ length (lines_of given) → next ≡ number + 1
    → next ≡ 1 + length (lines_of given)
next-number given number next count is = omega (arith, count, is)

adds-one : (n : ℕ) (said : Result (Option KeyLine) TextFault) (ring later : Ring) → Adds n said ring later
    → ring_by (ring_from (suc n) []) n ring said ≡ Ok later
adds-one n (Ok None) ring later is = ap (λ (r : Ring). Ok r) (sym is)
adds-one n (Ok (Some line)) ring later is = ap (λ (r : Ring). Ok r) (sym is)
adds-one n (Err why) ring later is = absurd is

refuses-one : (n : ℕ) (line : List ℕ) (lines : List (List ℕ)) (ring : Ring) (why : TextFault)
    → key_line_in line ≡ Err why → ring_from n (line ∷ lines) ring ≡ Err (record { line = n; why = why })
refuses-one n line lines ring why is = rw is refl

-- the line with which a text goes on
record GoesOn (rest octets line : List ℕ) : Type 0 where
  pub later : List ℕ
  pub parts : rest ≡ octets ++ 10 ∷ later
  pub none : HasNoFeed octets
  pub line_is : line ≡ without_return octets
  pub begins : begins rest ≡ false

goes-by : (text given behind rest line : List ℕ) (new : Held) (left : Option (List ℕ))
    → take most_input text ≡ given ++ behind → text ≡ given ++ rest
    → (l : IsLine most_input text given behind line new left) → GoesOn rest l.octets line
goes-by text given behind rest line new left seen whole l = record {
  later = l.later ++ drop most_input text;
  parts = rest-is most_input text given behind rest seen whole
      ∙ ap (λ (b : List ℕ). b ++ drop most_input text) l.parts
      ∙ append_assoc l.octets (10 ∷ l.later) (drop most_input text);
  none = l.within.none;
  line_is = l.line_is;
  begins = none-here most_input text given behind rest seen whole l.none l.seen;
}

-- it is read
pub after-line : (text : List ℕ) (number next : ℕ) (ring then_ring : Ring) (supply new : Held)
    (left later : Option (List ℕ)) (line : List ℕ) (h : HasRead text number ring supply left)
    → IsLine most_input text h.given (ahead text number ring supply left h) line new later
    → next ≡ number + 1 → Adds next (key_line_in line) ring then_ring → says_capture line ≡ false
    → HasRead text next then_ring new later
after-line text number next ring then_ring supply new left later line h l is adds says =
    let behind = ahead text number ring supply left h in
    let seen = visible text number ring supply left h in
    let g = goes-by text h.given behind h.rest line new later seen h.whole l in
    let n = next-number h.given number next h.count is in
    let lines : lines_of (h.given ++ (l.octets ++ 10 ∷ [])) ≡ lines_of h.given ++ line ∷ [] =
    lines-append h.given (l.octets ++ 10 ∷ []) h.ended
    ∙ ap (λ (ls : List (List ℕ)). lines_of h.given ++ ls) (line-first l.octets [] g.none)
    ∙ ap (λ (o : List ℕ). lines_of h.given ++ o ∷ []) (sym g.line_is) in
    record {
      given = h.given ++ (l.octets ++ 10 ∷ []);
      stands = l.stands;
      rest = g.later;
      whole = h.whole ∙ ap (λ (r : List ℕ). h.given ++ r) g.parts
          ∙ ap (λ (r : List ℕ). h.given ++ r) (sym (append_assoc l.octets (10 ∷ []) g.later))
          ∙ sym (append_assoc h.given (l.octets ++ 10 ∷ []) g.later);
      front = front-more h.given h.rest l.octets g.later h.front g.none g.begins g.parts
          (sym (ap says_capture g.line_is) ∙ says);
      ended = open-behind h.given l.octets h.ended g.none;
      said = ap (λ (ls : List (List ℕ)). ring_from 1 ls no_ring) lines
          ∙ ring-append 1 (lines_of h.given) (line ∷ []) no_ring ring h.said
          ∙ ap (λ (m : ℕ). ring_from m (line ∷ []) ring) (sym n)
          ∙ adds-one next (key_line_in line) ring then_ring adds;
      count = let a = length-append (lines_of h.given) (line ∷ []) in
          let b = ap length lines in omega (arith, n, a, b);
    }

-- it says that the capture begins
pub at-capture-line : (text : List ℕ) (number next : ℕ) (ring then_ring : Ring) (supply new : Held)
    (left later : Option (List ℕ)) (line : List ℕ) (h : HasRead text number ring supply left)
    → IsLine most_input text h.given (ahead text number ring supply left h) line new later
    → next ≡ number + 1 → Adds next (key_line_in line) ring then_ring → says_capture line ≡ true
    → ReadsRing text later (Ok (then_ring, Some new))
at-capture-line text number next ring then_ring supply new left later line h l is adds says =
    let behind = ahead text number ring supply left h in
    let seen = visible text number ring supply left h in
    let g = goes-by text h.given behind h.rest line new later seen h.whole l in
    let n = next-number h.given number next h.count is in
    let first = l.octets ++ 10 ∷ [] in
    let keys : key_text h.rest ≡ first =
    ap key_text g.parts
    ∙ (behind-line l.octets g.later g.none (sym (ap begins g.parts) ∙ g.begins)).0
    ∙ ap (λ (b : Bool). first ++ (if b then [] else key_text g.later)) (sym (ap says_capture g.line_is) ∙ says)
    ∙ append-nil first in
    let file : file_in text ≡ l.later =
    file-ahead text h.given behind h.rest seen h.whole h.front ∙ l.capture
    ∙ ap (λ (b : Bool). if b then l.later else capture_behind l.later) says in (
      said-by text h.given h.rest ring first h.whole h.front h.ended h.said keys
          ∙ ap (λ (m : ℕ). ring_from m (lines_of first) ring) (sym n)
          ∙ ap (λ (ls : List (List ℕ)). ring_from next ls ring)
          (line-first l.octets [] g.none ∙ ap (λ (o : List ℕ). o ∷ []) (sym g.line_is))
          ∙ adds-one next (key_line_in line) ring then_ring adds,
      (
        h.given ++ first,
        l.stands,
        seen ∙ ap (λ (b : List ℕ). h.given ++ b) (l.parts ∙ sym (append_assoc l.octets (10 ∷ []) l.later))
            ∙ sym (append_assoc h.given first l.later)
            ∙ ap (λ (f : List ℕ). (h.given ++ first) ++ f) (sym file),
      ),
    )

-- it is refused
line-refused : (text : List ℕ) (number next : ℕ) (ring : Ring) (supply new : Held)
    (left later : Option (List ℕ)) (line : List ℕ) (why : TextFault) (h : HasRead text number ring supply left)
    → IsLine most_input text h.given (ahead text number ring supply left h) line new later
    → next ≡ number + 1 → key_line_in line ≡ Err why
    → ring_in text ≡ Err (record { line = next; why = why })
line-refused text number next ring supply new left later line why h l is refused =
    let behind = ahead text number ring supply left h in
    let seen = visible text number ring supply left h in
    let g = goes-by text h.given behind h.rest line new later seen h.whole l in
    let n = next-number h.given number next h.count is in
    let front = front-more [] h.rest l.octets g.later (front-none h.rest) g.none g.begins g.parts
    (sym (ap says_capture g.line_is) ∙ ap is_capture refused) in
    let keys : key_text h.rest ≡ l.octets ++ 10 ∷ key_text g.later =
    ap key_text (g.parts ∙ sym (append_assoc l.octets (10 ∷ []) g.later))
    ∙ front-keys (l.octets ++ 10 ∷ []) g.later g.later [] front (sym (append-nil g.later))
    ∙ append_assoc l.octets (10 ∷ []) (key_text g.later) in
    said-by text h.given h.rest ring _ h.whole h.front h.ended h.said keys
    ∙ ap (λ (m : ℕ). ring_from m (lines_of (l.octets ++ 10 ∷ key_text g.later)) ring) (sym n)
    ∙ ap (λ (ls : List (List ℕ)). ring_from next ls ring) (line-first l.octets (key_text g.later) g.none)
    ∙ refuses-one next (without_return l.octets) (lines_of (key_text g.later)) ring why
    (ap key_line_in (sym g.line_is) ∙ refused)

-- a long line is refused
long-read : (n count : ℕ) (keys : List ℕ) (ring : Ring) (why : TextFault) → BeginsLong count (lines_of keys)
    → 4098 ≤ count → why ≡ TooLong → ring_from n (lines_of keys) ring ≡ Err (record { line = n; why = why })
long-read n count keys ring why b many own =
    let most = b.long in
    ap (λ (ls : List (List ℕ)). ring_from n ls ring) b.parts
    ∙ refuses-one n b.line b.later ring why
    (too-long b.line (omega (arith, most, many)) ∙ ap (λ (w : TextFault). Err w) (sym own))

long-refused : (text : List ℕ) (number next : ℕ) (ring : Ring) (supply : Held)
    (left : Option (List ℕ)) (line : List ℕ) (why : TextFault) (h : HasRead text number ring supply left)
    → IsLong (ahead text number ring supply left h) line
    → next ≡ number + 1 → key_line_in line ≡ Err why
    → ring_in text ≡ Err (record { line = next; why = why })
long-refused text number next ring supply left line why h l is refused =
    let behind = ahead text number ring supply left h in
    let seen = visible text number ring supply left h in
    let n = next-number h.given number next h.count is in
    let full = l.full in
    let front = line ++ l.octet ∷ [] in
    let count : length front ≡ 4098 = let m = length-append line (l.octet ∷ []) in omega (arith, full, m) in
    let more = l.later ++ drop most_input text in
    let parts : h.rest ≡ front ++ more =
    rest-is most_input text h.given behind h.rest seen h.whole
    ∙ ap (λ (b : List ℕ). b ++ drop most_input text) l.parts
    ∙ append_assoc line (l.octet ∷ l.later) (drop most_input text)
    ∙ sym (append_assoc line (l.octet ∷ []) more) in
    let many : 4 ≤ length behind =
    let a = ap length l.parts in let m = length-append line (l.octet ∷ l.later) in omega (arith, a, m, full) in
    let none : HasNoFeed front = All-append (λ (o : ℕ). o ≢ 10) line (l.octet ∷ []) l.within.none
    (All-cons (λ (o : ℕ). o ≢ 10) l.octet [] l.other (All-nil (λ (o : ℕ). o ≢ 10))) in
    let some : front ≢ [] = λ empty. let c = ap length empty in omega (arith, c, count) in
    let k = keys-in-line front more none
    (sym (ap begins parts) ∙ none-here most_input text h.given behind h.rest seen h.whole l.none (inl many)) in
    let own : why ≡ TooLong = cc (sym refused ∙ too-long line (omega (arith, full))) in
    said-by text h.given h.rest ring _ h.whole h.front h.ended h.said (ap key_text parts ∙ k.parts)
    ∙ ap (λ (m : ℕ). ring_from m (lines_of (front ++ k.more)) ring) (sym n)
    ∙ long-read next (length front) (front ++ k.more) ring why (begins-long front k.more some none)
    (omega (arith, count)) own

-- the last line, without a line feed
last-said : (text : List ℕ) (number next : ℕ) (ring : Ring) (supply : Held)
    (left later : Option (List ℕ)) (line : List ℕ) (h : HasRead text number ring supply left)
    → IsLast most_input text (ahead text number ring supply left h) line later
    → next ≡ number + 1
    → ring_in text ≡ ring_from next (last_line line) ring
last-said text number next ring supply left later line h l is =
    let behind = ahead text number ring supply left h in
    let seen = visible text number ring supply left h in
    let n = next-number h.given number next h.count is in
    let same : h.rest ≡ behind =
    append_cancel_left h.given h.rest behind (sym h.whole ∙ sym (take_all most_input text l.few) ∙ seen) in
    let keys : key_text h.rest ≡ line =
    ap key_text (same ∙ l.all)
    ∙ keys-before line line [] (sym (append-nil line)) (sym (ap capture_behind l.all) ∙ l.capture) in
    said-by text h.given h.rest ring line h.whole h.front h.ended h.said keys
    ∙ ap (λ (m : ℕ). ring_from m (lines_of line) ring) (sym n)
    ∙ ap (λ (ls : List (List ℕ)). ring_from next ls ring) (line-alone line l.within.none)

last-adds : (next : ℕ) (line : List ℕ) (ring then_ring : Ring) → Adds next (key_line_in line) ring then_ring
    → ring_from next (last_line line) ring ≡ Ok then_ring
last-adds next [] ring then_ring adds =
    ap (λ (r : Ring). Ok r) (sym (subst (λ (s : Result (Option KeyLine) TextFault). Adds next s ring then_ring) empty-line adds))
last-adds next (o ∷ line) ring then_ring adds = adds-one next (key_line_in (o ∷ line)) ring then_ring adds

last-refused : (next : ℕ) (line : List ℕ) (ring : Ring) (why : TextFault) → key_line_in line ≡ Err why
    → ring_from next (last_line line) ring ≡ Err (record { line = next; why = why })
last-refused next [] ring why refused = absurd (cc (sym empty-line ∙ refused))
last-refused next (o ∷ line) ring why refused = refuses-one next (o ∷ line) [] ring why refused

-- a text without a capture ends with a line
pub at-last : (text : List ℕ) (number next : ℕ) (ring then_ring : Ring) (supply new : Held)
    (left later : Option (List ℕ)) (line : List ℕ) (end : LineEnd) (h : HasRead text number ring supply left)
    → Parts most_input text h.given (ahead text number ring supply left h) line new later (Ok (parts.Line end))
    → (end ≡ line_ends.Feed → ⊥)
    → next ≡ number + 1 → Adds next (key_line_in line) ring then_ring
    → ReadsRing text later (Ok (then_ring, None))
at-last text number next ring then_ring supply new left later line line_ends.Feed h l other is adds = absurd (other refl)
at-last text number next ring then_ring supply new left later line line_ends.Most h l other is adds =
    let full = l.full in
    absurd (subst (λ (s : Result (Option KeyLine) TextFault). Adds next s ring then_ring)
    (too-long line (omega (arith, full))) adds)
at-last text number next ring then_ring supply new left later line line_ends.Source h l other is adds =
    let behind = ahead text number ring supply left h in
    let seen = visible text number ring supply left h in (
      last-said text number next ring supply left later line h l is ∙ last-adds next line ring then_ring adds,
      file-ahead text h.given behind h.rest seen h.whole h.front ∙ l.capture,
      l.few,
      l.end,
    )

-- a line that is not read
pub at-refused : (text : List ℕ) (number next : ℕ) (ring then_ring : Ring) (supply new : Held)
    (left later : Option (List ℕ)) (line : List ℕ) (end : LineEnd) (e : RingEnd)
    (h : HasRead text number ring supply left)
    → Parts most_input text h.given (ahead text number ring supply left h) line new later (Ok (parts.Line end))
    → next ≡ number + 1 → AddsLine next line ring then_ring (Err e)
    → ReadsRing text later (Err e)
at-refused text number next ring then_ring supply new left later line line_ends.Feed (ends.Refused (n, why)) h l is (at, refused, same) =
    line-refused text number next ring supply new left later line why h l is refused
    ∙ ap (λ (m : ℕ). Err (record { line = m; why = why })) (sym at)
at-refused text number next ring then_ring supply new left later line line_ends.Most (ends.Refused (n, why)) h l is (at, refused, same) =
    long-refused text number next ring supply left line why h l is refused
    ∙ ap (λ (m : ℕ). Err (record { line = m; why = why })) (sym at)
at-refused text number next ring then_ring supply new left later line line_ends.Source (ends.Refused (n, why)) h l is (at, refused, same) =
    last-said text number next ring supply left later line h l is ∙ last-refused next line ring why refused
    ∙ ap (λ (m : ℕ). Err (record { line = m; why = why })) (sym at)
at-refused text number next ring then_ring supply new left later line end ends.Limit h l is adds = absurd adds
at-refused text number next ring then_ring supply new left later line end ends.ReadFault h l is adds = absurd adds
at-refused text number next ring then_ring supply new left later line end ends.Memory h l is adds = tt
