-- How a run ends in turns, whoever performs it.
use Rattle.std.proofs.Common.{◌≡◌, ◌⊎◌, ℕ, ◌<◌, ◌≤◌, List, [], ◌∷◌, ◌++◌, Option, Some, None, ap, ◌∙◌, subst, inl, inr}
use Rattle.std.specs.Prelude.{Result, Ok, Err, length, take}
use Rattle.lan_base.specs.Told.{after}
use Rattle.text_lines.specs.declared.reading.End.{End}
use Rattle.text_lines.specs.declared.reading.End.TheVariants as ends
use Rattle.text_lines.specs.Texts.{whole_lines, lines_of}
use Rattle.text_lines.specs.Turns.{InTurn, lines_due}
use Rattle.text_lines.proofs.Public.{Laws, Seen, together}
use Rattle.trace_acts.specs.declared.halt.Halt.{Halt}
use Rattle.trace_acts.specs.declared.halt.Halt.TheVariants as halts
use Rattle.replay.specs.Sinks.{Sunk, Wrote, BrokeOff, WroteSome, joined}
use Rattle.replay.specs.Runs.{most_input, Performing, Shows, WasPerformed, WasCut}
use Rattle.replay.specs.Turns.{act_due, HaltsIn, EndsTurn, WasShown, PlaysInTurn}
use Rattle.replay.proofs.Ending.{Plays, other}
use Rattle.replay.proofs.Written.{after-after, wrote-held}

module _ {Act World M : Type 0} (p : Performing Act World) (IsSuch : World → Type 0)
    (texts : World → List (List ℕ)) (IsFresh : M → Type 0) (see : M → Sunk)
    (Did : Act → M → M → Result (Unit {0}) Halt → Type 0)
    (plays : Plays p IsSuch texts IsFresh see Did) where
  abbrev DidLines : List (List ℕ) → M → M → Result (Unit {0}) Halt → Type 0
  DidLines lines old new r = Did (p.lines lines) old new r

  -- the transcript, at the end and before it
  abbrev shows : Shows World
  shows = record { at_end = texts; before = texts }

  abbrev Ended : M → M → Result (Unit {0}) (End Halt) → List ℕ → Option (List ℕ) → Type 0
  Ended old new r octets last = EndsTurn p IsSuch shows (see old) (see new) r octets last

  was-shown : (old new : M) (r : Result (Unit {0}) (End Halt)) (octets : List ℕ) (last : Option (List ℕ))
      → IsFresh old → Seen DidLines most_input octets last old new r
      → WasShown p shows (see old) (see new) octets
  was-shown old new r octets last fresh s =
      let g = plays.went_on (whole_lines octets) s.since.lines old s.told new s.since.result fresh s.taken
      s.since.did in record {
        world = g.0;
        performed = g.1;
        more = g.3.more;
        held = g.3.held
            ∙ ap (λ (o : Option (List ℕ)). after o g.3.more) (wrote-held _ _ _ g.2)
            ∙ after-after (see old).held (joined (texts g.0)) g.3.more;
      }

  -- ---- what is due

  did-due : (octets piece : List ℕ) (old new : M) (e : Halt)
      → DidLines (lines_due most_input octets piece) old new (Err e)
      → Did (act_due p octets piece) old new (Err e)
  did-due octets [] old new e d = plays.whole_did octets old new e d
  did-due octets (x ∷ xs) old new e d = d

  cut-due : (DidTexts : List (List ℕ) → Type 0) (octets piece : List ℕ)
      → WasCut p IsSuch DidTexts texts (p.lines (lines_due most_input octets piece))
      → WasCut p IsSuch DidTexts texts (act_due p octets piece)
  cut-due DidTexts octets [] h = (h.0, plays.whole_passes octets h.0 h.1, h.2, h.3)
  cut-due DidTexts octets (x ∷ xs) h = h

  halts-in : (octets piece : List ℕ) (old new : M) (halt : Halt) → IsFresh old
      → Did (act_due p octets piece) old new (Err halt)
      → HaltsIn p IsSuch shows octets piece (see old) (see new) halt
  halts-in octets piece old new (halts.Trace line kind) fresh h =
      plays.halted (act_due p octets piece) old new (halts.Trace line kind) fresh
      (other _ (λ e. cc e) (λ e. cc e)) h
  halts-in octets piece old new (halts.Limit which) fresh h =
      plays.halted (act_due p octets piece) old new (halts.Limit which) fresh
      (other _ (λ e. cc e) (λ e. cc e)) h
  halts-in octets piece old new (halts.RepeatedDraw first second) fresh h =
      plays.halted (act_due p octets piece) old new (halts.RepeatedDraw first second) fresh
      (other _ (λ e. cc e) (λ e. cc e)) h
  halts-in octets piece old new (halts.Forged line) fresh h =
      plays.halted (act_due p octets piece) old new (halts.Forged line) fresh
      (other _ (λ e. cc e) (λ e. cc e)) h
  halts-in octets piece old new halts.Memory fresh h =
      inl (plays.cut_off (act_due p octets piece) old new fresh h)
  halts-in octets piece old new halts.WriteFault fresh h =
      let b = plays.broke_off (act_due p octets piece) old new fresh h in (b.0, inl b.1)

  -- ---- by the end

  by-end : (old new : M) (end : End Halt) (octets : List ℕ) (last : Option (List ℕ)) → IsFresh old
      → Seen DidLines most_input octets last old new (Err end) → Ended old new (Err end) octets last
  by-end old new (ends.Refused halt) octets last fresh s =
      let a = s.all in (a.0, a.1, halts-in octets a.0 old new halt fresh (did-due octets a.0 old new halt a.2))
  by-end old new ends.Memory octets last fresh s =
      let a = s.all in
      let f = a.2 in (
        a.0,
        a.1,
        inl (cut-due (λ t. WroteSome t (see old) (see new)) octets a.0
            (subst (λ (l : List (List ℕ)). WasCut p IsSuch (λ t. WroteSome t (see old) (see new)) texts
            (p.lines l)) f.parts (plays.in_part f.front f.rest old new fresh f.did))),
      )
  by-end old new ends.ReadFault octets last fresh s =
      let a = s.all in (a.0, plays.performed _ old new fresh a.1)
  by-end old new ends.Limit octets last fresh s =
      let a = s.all in (a.0, a.1, a.2, plays.performed _ old new fresh a.3)

  module _ {S : Type 0} (Gave : S → Option (List ℕ) → S → Type 0) (laws : Laws DidLines) (s s_then : S)
      (old new : M) (fresh : IsFresh old) where
    -- the lines of a source were not all performed
    pub turned-err : (end : End Halt) → InTurn Gave DidLines most_input s s_then old new (Err end)
        → PlaysInTurn Gave p IsSuch shows s s_then (see old) (see new) (Err end)
    turned-err end h =
        together Gave DidLines laws (WasShown p shows (see old) (see new)) (Ended old new (Err end)) most_input
        s s_then old new (Err end) (λ octets last seen. (
          was-shown old new (Err end) octets last fresh seen,
          by-end old new end octets last fresh seen,
        )) h

    -- the text may not end there
    pub turned-closed : (halt : Halt)
        → ((text : List ℕ) → DidLines (lines_of text) old new (Ok tt) → Did (p.whole text) old new (Err halt))
        → InTurn Gave DidLines most_input s s_then old new (Ok tt)
        → PlaysInTurn Gave p IsSuch shows s s_then (see old) (see new) (Err (ends.Refused halt))
    turned-closed halt closes h =
        together Gave DidLines laws (WasShown p shows (see old) (see new))
        (Ended old new (Err (ends.Refused halt))) most_input
        s s_then old new (Ok tt) (λ octets last seen. (
          was-shown old new (Ok tt) octets last fresh seen,
          ([], seen.all.0, halts-in octets [] old new halt fresh (closes octets seen.all.1)),
        )) h

    -- a transcript, to the end of the source
    pub turned-ok : ((text : List ℕ) → DidLines (lines_of text) old new (Ok tt)
        → Did (p.whole text) old new (Ok tt))
        → InTurn Gave DidLines most_input s s_then old new (Ok tt)
        → PlaysInTurn Gave p IsSuch shows s s_then (see old) (see new) (Ok tt)
    turned-ok closes h =
        together Gave DidLines laws (WasShown p shows (see old) (see new)) (Ended old new (Ok tt)) most_input
        s s_then old new (Ok tt) (λ octets last seen. (
          was-shown old new (Ok tt) octets last fresh seen,
          (seen.all.0, plays.performed (p.whole octets) old new fresh (closes octets seen.all.1)),
        )) h
