-- How a run of a text ends, whoever performs it.
use Rattle.std.proofs.Common.{◌≡◌, ◌⊎◌, ℕ, ◌≤◌, List, ◌++◌, Option, ap, ◌∙◌, subst}
use Rattle.std.proofs.Common.{arith, inl, inr}
use Rattle.std.specs.Prelude.{Result, Ok, Err, length, take, nat_le, cond, Bool, true, false}
use Rattle.std.proofs.lemmas.Bool.Decides.{nat_tests}
use Rattle.lan_base.specs.Faults.{Rose}
use Rattle.lan_base.specs.Told.{after}
use Rattle.text_lines.specs.declared.reading.End.{End}
use Rattle.text_lines.specs.declared.reading.End.TheVariants as ends
use Rattle.text_lines.specs.Texts.{whole_lines, lines_of}
use Rattle.text_lines.specs.Reading.{Sourced, Takes, Runs, Reads, Ends, lines_within}
use Rattle.trace_acts.specs.declared.halt.Halt.{Halt}
use Rattle.trace_acts.specs.declared.halt.Halt.TheVariants as halts
use Rattle.lan_base.specs.declared.sink.Unwritten.{Unwritten}
use Rattle.lan_base.specs.declared.sink.Unwritten.TheVariants as whys
use Rattle.trace_acts.specs.Halts.{halt_of_unwritten}
use Rattle.replay.specs.Sinks.{Sunk, Wrote, BrokeOff, WroteSome, Fails, joined}
use Rattle.replay.specs.Runs.{most_input, Performing, within, WasPerformed, WasHalted, WasCut}
use Rattle.replay.specs.Runs.{EndsBy, IsTakenFrom, IsReplayed}
use Rattle.replay.proofs.Written.{after-after, wrote-held, wrote-counts, Grew}

-- ---- halts

-- a halt for a reason of the trace
abbrev pub Spares : Halt → Type 0
Spares halt = (halt ≡ halts.Memory) ⊎ (halt ≡ halts.WriteFault) → ⊥

pub spared : (halt : Halt) (why : Unwritten) → Spares halt → halt ≡ halt_of_unwritten why → ⊥
spared halt whys.Failed spares is = spares (inr is)
spared halt whys.Memory spares is = spares (inl is)

pub other : (halt : Halt) → (halt ≡ halts.Memory → ⊥) → (halt ≡ halts.WriteFault → ⊥) → Spares halt
other halt memory broken (inl is) = memory is
other halt memory broken (inr is) = broken is

pub fails-rose : (texts : List (List ℕ)) (old new : Sunk) (why : Unwritten)
    → halts.WriteFault ≡ halt_of_unwritten why → Fails texts old new why
    → Rose old.faults new.faults × BrokeOff texts old new
fails-rose texts old new whys.Failed is f = f
fails-rose texts old new whys.Memory is f = absurd (cc is)

-- ---- who performs

-- A player did acts, and its sink is seen at moments. From the beginning an act was performed, it
-- halted, or was cut off or broken off; lines were performed in part, or went on behind others; and
-- what the lines of a text do, the text does.
pub record Plays {Act World M : Type 0} (p : Performing Act World) (IsSuch : World → Type 0)
    (texts : World → List (List ℕ)) (IsFresh : M → Type 0) (see : M → Sunk)
    (Did : Act → M → M → Result (Unit {0}) Halt → Type 0) : Type 0 where
  pub performed : (act : Act) (old new : M) → IsFresh old → Did act old new (Ok tt)
      → WasPerformed p IsSuch (λ t. Wrote t (see old) (see new)) texts act
  pub halted : (act : Act) (old new : M) (halt : Halt) → IsFresh old → Spares halt
      → Did act old new (Err halt)
      → WasHalted p IsSuch (λ t. Wrote t (see old) (see new)) texts act halt
  pub cut_off : (act : Act) (old new : M) → IsFresh old → Did act old new (Err halts.Memory)
      → WasCut p IsSuch (λ t. WroteSome t (see old) (see new)) texts act
  pub broke_off : (act : Act) (old new : M) → IsFresh old → Did act old new (Err halts.WriteFault)
      → Rose (see old).faults (see new).faults
      × WasCut p IsSuch (λ t. BrokeOff t (see old) (see new)) texts act
  pub in_part : (front rest : List (List ℕ)) (old new : M) → IsFresh old
      → Did (p.lines front) old new (Ok tt)
      → WasCut p IsSuch (λ t. WroteSome t (see old) (see new)) texts (p.lines (front ++ rest))
  pub went_on : (first later : List (List ℕ)) (old mid new : M) (r : Result (Unit {0}) Halt)
      → IsFresh old → Did (p.lines first) old mid (Ok tt) → Did (p.lines later) mid new r
      → (w : World) × p.Reaches (p.lines first) w × Wrote (texts w) (see old) (see mid)
      × Grew (see mid) (see new)
  pub rose : (first later : List (List ℕ)) (old mid new : M) → IsFresh old
      → Did (p.lines first) old mid (Ok tt) → Did (p.lines later) mid new (Err halts.WriteFault)
      → Rose (see old).faults (see new).faults
  pub whole_did : (text : List ℕ) (old new : M) (halt : Halt)
      → Did (p.lines (lines_of text)) old new (Err halt) → Did (p.whole text) old new (Err halt)
  pub whole_passes : (text : List ℕ) (w : World) → p.Passes (p.lines (lines_of text)) w
      → p.Passes (p.whole text) w

module _ {Act World M : Type 0} (p : Performing Act World) (IsSuch : World → Type 0)
    (texts : World → List (List ℕ)) (IsFresh : M → Type 0) (see : M → Sunk)
    (Did : Act → M → M → Result (Unit {0}) Halt → Type 0)
    (plays : Plays p IsSuch texts IsFresh see Did) where
  abbrev DidLines : List (List ℕ) → M → M → Result (Unit {0}) Halt → Type 0
  DidLines lines old new r = Did (p.lines lines) old new r

  -- ---- within the limit

  cut-within : (DidTexts : List (List ℕ) → Type 0) (text : List ℕ)
      → WasCut p IsSuch DidTexts texts (p.lines (lines_within most_input text))
      → WasCut p IsSuch DidTexts texts (within p text)
  cut-within DidTexts text h = by (nat_le (length text) most_input) h where
    by : (b : Bool)
        → WasCut p IsSuch DidTexts texts
        (p.lines (cond b (lines_of text) (whole_lines (take most_input text))))
        → WasCut p IsSuch DidTexts texts
        (cond b (p.whole text) (p.lines (whole_lines (take most_input text))))
    by true h = (h.0, plays.whole_passes text h.0 h.1, h.2, h.3)
    by false h = h

  did-within : (text : List ℕ) (old new : M) (e : Halt)
      → DidLines (lines_within most_input text) old new (Err e)
      → Did (within p text) old new (Err e)
  did-within text old new e d = by (nat_le (length text) most_input) d where
    by : (b : Bool)
        → DidLines (cond b (lines_of text) (whole_lines (take most_input text))) old new (Err e)
        → Did (cond b (p.whole text) (p.lines (whole_lines (take most_input text)))) old new (Err e)
    by true d = plays.whole_did text old new e d
    by false d = d

  fits-within : (text : List ℕ) (old new : M) (e : Halt) → length text ≤ most_input
      → Did (p.whole text) old new (Err e) → Did (within p text) old new (Err e)
  fits-within text old new e fits d =
      let test : nat_le (length text) most_input ≡ true = grind (arith, nat_tests, fits) in
      rw test d

  -- ---- how a text ends

  abbrev Shown : (World → List (List ℕ)) → List ℕ → Sourced → Sourced → M → M
      → Result (Unit {0}) (End Halt) → Type 0
  Shown at_end text left now old new r =
      EndsBy p IsSuch (record { at_end = at_end; before = texts }) text left now (see old)
      (see new) r

  -- what a text came to that ended early
  by-halt : (at_end : World → List (List ℕ)) (text : List ℕ) (left now : Sourced) (old new : M)
      (halt : Halt) → IsFresh old → Did (within p text) old new (Err halt)
      → Shown at_end text left now old new (Err (ends.Refused halt))
  by-halt at_end text left now old new (halts.Trace line kind) fresh h =
      plays.halted (within p text) old new (halts.Trace line kind) fresh
      (other _ (λ e. cc e) (λ e. cc e)) h
  by-halt at_end text left now old new (halts.Limit which) fresh h =
      plays.halted (within p text) old new (halts.Limit which) fresh
      (other _ (λ e. cc e) (λ e. cc e)) h
  by-halt at_end text left now old new (halts.RepeatedDraw first second) fresh h =
      plays.halted (within p text) old new (halts.RepeatedDraw first second) fresh
      (other _ (λ e. cc e) (λ e. cc e)) h
  by-halt at_end text left now old new (halts.Forged line) fresh h =
      plays.halted (within p text) old new (halts.Forged line) fresh
      (other _ (λ e. cc e) (λ e. cc e)) h
  by-halt at_end text left now old new halts.Memory fresh h =
      inl (plays.cut_off (within p text) old new fresh h)
  by-halt at_end text left now old new halts.WriteFault fresh h =
      let b = plays.broke_off (within p text) old new fresh h in (b.0, inl b.1)

  -- a front of the lines was performed
  in-part : (front rest lines : List (List ℕ)) (old new : M) → front ++ rest ≡ lines → IsFresh old
      → DidLines front old new (Ok tt)
      → WasCut p IsSuch (λ t. WroteSome t (see old) (see new)) texts (p.lines lines)
  in-part front rest lines old new parts fresh d =
      subst (λ (l : List (List ℕ)). WasCut p IsSuch (λ t. WroteSome t (see old) (see new)) texts (p.lines l))
      parts (plays.in_part front rest old new fresh d)

  -- what the lines of a text came to, by the end of reading it
  ends-by : (at_end : World → List (List ℕ)) (text : List ℕ) (left now : Sourced) (old new : M)
      (end : End Halt) → IsFresh old → Runs DidLines most_input text left now old new (Err end)
      → Shown at_end text left now old new (Err end)
  ends-by at_end text left now old new (ends.Refused halt) fresh h =
      by-halt at_end text left now old new halt fresh (did-within text old new halt h)
  ends-by at_end text left now old new ends.Memory fresh h =
      inl (cut-within (λ t. WroteSome t (see old) (see new)) text
      (in-part h.front h.rest _ old new h.parts fresh h.did))
  ends-by at_end text left now old new ends.ReadFault fresh h =
      (h.0, (h.1.0, h.1.1, h.1.2, plays.performed _ old new fresh h.1.3))
  ends-by at_end text left now old new ends.Limit fresh h =
      (h.0, plays.performed _ old new fresh h.1)

  -- ---- since an earlier moment

  -- the last lines that were handed on
  record Last (a b : M) : Type 0 where
    lines : List (List ℕ)
    result : Result (Unit {0}) Halt
    did : DidLines lines a b result

  last-did : (limit : ℕ) (octets : List ℕ) (lines last : List (List ℕ)) (left now : Sourced)
      (a b : M) (r : Result (Unit {0}) (End Halt))
      → Ends DidLines limit octets lines last left now a b r → Last a b
  last-did limit octets lines last left now a b (Ok done) h =
      record { lines = last; result = Ok tt; did = h.3 }
  last-did limit octets lines last left now a b (Err (ends.Refused halt)) h =
      record { lines = last; result = Err halt; did = h.1 }
  last-did limit octets lines last left now a b (Err ends.Memory) h =
      record { lines = h.1.front; result = Ok tt; did = h.1.did }
  last-did limit octets lines last left now a b (Err ends.ReadFault) h =
      record { lines = last; result = Ok tt; did = h.3 }
  last-did limit octets lines last left now a b (Err ends.Limit) h =
      record { lines = last; result = Ok tt; did = h.2 }

  -- which octets were taken, and that the sink's count didn't fall
  pub took : (at_end : World → List (List ℕ)) (left now : Sourced) (old new : M)
      (r : Result (Unit {0}) (End Halt)) → IsFresh old
      → Takes DidLines most_input left now old new r
      → IsTakenFrom p (record { at_end = at_end; before = texts }) left now (see old) (see new)
      × ((see old).faults ≤ (see new).faults)
  took at_end left now old new r fresh h =
      let l = last-did most_input _ _ _ left now h.between new r h.ends in
      let g = plays.went_on (whole_lines h.earlier) l.lines old h.between new l.result fresh h.taken l.did in (
        record {
          earlier = h.earlier;
          piece = h.piece;
          moved = h.moved;
          within = h.within;
          at_once = h.at_once;
          world = g.0;
          performed = g.1;
          more = g.3.more;
          held = g.3.held
              ∙ ap (λ (o : Option (List ℕ)). after o g.3.more) (wrote-held _ _ _ g.2)
              ∙ after-after (see old).held (joined (texts g.0)) g.3.more;
        },
        let one = wrote-counts _ _ _ g.2 in let two = g.3.counts in omega (arith, one, two),
      )

  -- a fault of the sink shows in its count
  sink-fault : (left now : Sourced) (old new : M) (r : Result (Unit {0}) (End Halt)) → IsFresh old
      → Takes DidLines most_input left now old new r → r ≡ Err (ends.Refused halts.WriteFault)
      → Rose (see old).faults (see new).faults
  sink-fault left now old new r fresh h is =
      let t = subst (λ (r : Result (Unit {0}) (End Halt)). Takes DidLines most_input left now old new r) is h in
      plays.rose (whole_lines t.earlier) t.last old t.between new fresh t.taken t.ends.1

  source-fault : (left now : Sourced) (old new : M) (r : Result (Unit {0}) (End Halt))
      → Takes DidLines most_input left now old new r → r ≡ Err ends.ReadFault
      → Rose left.faults now.faults
  source-fault left now old new r h is =
      let t = subst (λ (r : Result (Unit {0}) (End Halt)). Takes DidLines most_input left now old new r) is h in
      t.ends.0

  -- ---- a whole replay

  abbrev refused : Halt → Result (Unit {0}) (End Halt)
  refused halt = Err (ends.Refused halt)

  abbrev Replayed : (World → List (List ℕ)) → Sourced → Sourced → M → M
      → Result (Unit {0}) (End Halt) → Type 0
  Replayed at_end left now old new r =
      IsReplayed p IsSuch (record { at_end = at_end; before = texts }) left now (see old) (see new)
      r

  -- the lines of a source were not all performed
  pub replayed-err : (at_end : World → List (List ℕ)) (left now : Sourced) (old new : M)
      (end : End Halt) → IsFresh old → left.faults ≤ now.faults
      → Reads DidLines most_input left now old new (Err end)
      → Replayed at_end left now old new (Err end)
  replayed-err at_end left now old new end fresh counts h =
      let t = took at_end left now old new (Err end) fresh h.takes in record {
        told = λ text is. record {
          taken = t.0;
          ends = ends-by at_end text left now old new end fresh (h.runs text is);
        };
        reads = counts;
        writes = t.1;
        read_fault = λ is. source-fault left now old new (Err end) h.takes is;
        write_fault = λ is. sink-fault left now old new (Err end) fresh h.takes is;
      }

  -- the text may not end there
  pub closed-err : (at_end : World → List (List ℕ)) (left now : Sourced) (old new : M) (halt : Halt)
      → IsFresh old → left.faults ≤ now.faults → Reads DidLines most_input left now old new (Ok tt)
      → (halt ≡ halts.WriteFault → ⊥)
      → ((text : List ℕ) → DidLines (lines_of text) old new (Ok tt)
      → Did (p.whole text) old new (Err halt))
      → Replayed at_end left now old new (Err (ends.Refused halt))
  closed-err at_end left now old new halt fresh counts h unbroken closes =
      let t = took at_end left now old new (Ok tt) fresh h.takes in record {
        told = λ text is.
            let r = h.runs text is in record {
              taken = t.0;
              ends = by-halt at_end text left now old new halt fresh
                  (fits-within text old new halt r.0 (closes text r.2));
            };
        reads = counts;
        writes = t.1;
        read_fault = λ is. absurd (cc is);
        write_fault = λ is. absurd (unbroken (halt-is halt halts.WriteFault is));
      }
    where
      halt-is : (a b : Halt) → refused a ≡ refused b → a ≡ b
      halt-is a b e = cc e

  -- a transcript, to the end of the source
  pub transcribed : (left now : Sourced) (old new : M) → IsFresh old → left.faults ≤ now.faults
      → Reads DidLines most_input left now old new (Ok tt)
      → ((text : List ℕ) → DidLines (lines_of text) old new (Ok tt)
      → Did (p.whole text) old new (Ok tt))
      → Replayed texts left now old new (Ok tt)
  transcribed left now old new fresh counts h closes =
      let t = took texts left now old new (Ok tt) fresh h.takes in record {
        told = λ text is.
            let r = h.runs text is in record {
              taken = t.0;
              ends = (r.0, r.1, plays.performed (p.whole text) old new fresh (closes text r.2));
            };
        reads = counts;
        writes = t.1;
        read_fault = λ is. absurd (cc is);
        write_fault = λ is. absurd (cc is);
      }
