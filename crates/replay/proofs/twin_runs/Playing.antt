-- How a trace of two groups is performed by a player, and ends.
use Rattle.std.proofs.Common.{◌≡◌, ◌⊎◌, ℕ, ◌≤◌, List, ◌∷◌, ◌++◌, Option, map, sym, ap, ◌∙◌, subst}
use Rattle.std.proofs.Common.{refl, inl, inr}
use Rattle.std.specs.Prelude.{Result, Ok, Err}
use Rattle.lan_base.specs.Faults.{Rose}
use Rattle.text_lines.specs.declared.reading.End.{End}
use Rattle.text_lines.specs.declared.reading.End.TheVariants as ends
use Rattle.text_lines.specs.Moments.{Moment as LinesMoment}
use Rattle.text_lines.specs.Reading.{Sourced, Takes, Reads}
use Rattle.text_lines.specs.Turns.{InTurn}
use Rattle.text_lines.proofs.Public.{Laws}
use Rattle.trace_acts.specs.declared.halt.Halt.{Halt}
use Rattle.trace_acts.specs.declared.halt.Halt.TheVariants as halts
use Rattle.lan_base.specs.declared.sink.Unwritten.{Unwritten}
use Rattle.lan_base.specs.declared.sink.Unwritten.TheVariants as whys
use Rattle.trace_acts.specs.Halts.{halt_of_unwritten}
use Rattle.replay.specs.Sinks.{Sunk, Wrote, BrokeOff, WroteSome, Fails}
use Rattle.replay.specs.inside.Ended.{ended}
use Rattle.replay.specs.Runs.{most_input, WasPerformed, WasHalted, WasCut, IsReplayed}
use Rattle.replay.specs.Turns.{PlaysInTurn}
use Rattle.replay.proofs.Ending.{Spares, spared, fails-rose, Plays, replayed-err, transcribed}
use Rattle.replay.proofs.Turning.{turned-ok, turned-err}
use Rattle.replay.proofs.Written.{rose-earlier, wrote-counts, fails-broke}
use Rattle.replay.proofs.Written.{Grew, grew-wrote, grew-broke}
use Rattle.twin_schedule.specs.declared.commands.TwinReplay.{TwinReplay}
use Rattle.twin_schedule.specs.World.{World, beginning}
use Rattle.twin_schedule.specs.Acts.{Act, Course, Stops, perform, and_then}
use Rattle.twin_schedule.specs.Lines.{performed_all}
use Rattle.twin_schedule.specs.Reports.{Report, reports}
use Rattle.twin_schedule.specs.Ends.{Begins, IsReached, WasTold, WasBroken as RecorderBroke}
use Rattle.twin_schedule.specs.Ends.{reported}
use Rattle.twin_schedule.specs.Sound.{IsTidy}
use Rattle.twin_schedule.specs.Standing.{StandsFor}
use Rattle.twin_schedule.proofs.Public.{grows, each-append, does-none, does-more, does-early}
use Rattle.replay.specs.twin.Written.{text_of, texts_of}
use Rattle.replay.specs.twin.TwoGroups.{two_groups}
use Rattle.replay.specs.twin.inside.Playing.{DidAct, DidLines}
use Rattle.replay.proofs.twin_runs.Telling.{TookText, BrokeText, texts-told, texts-broken}

-- what the laws of twin_schedule give
pub record Given : Type 0 where
  pub tidy : IsTidy beginning
  pub never : (act : Act) (w v : World) (halt : Halt) → perform act w ≡ Stops v halt
      → (halt ≡ halts.Memory) ⊎ (halt ≡ halts.WriteFault) → ⊥
  pub unforged : (act : Act) (w v : World) (line : ℕ) → perform act w ≡ Stops v (halts.Forged line)
      → ⊥

module _ {P K : Type 0} (given : Given) (of : LinesMoment P K → TwinReplay) (see : K → Sunk) where
  abbrev Took : K → Report → K → Type 0
  Took old report new = TookText see old report new

  abbrev Broke : K → Report → K → Unwritten → Type 0
  Broke old report new why = BrokeText see old report new why

  abbrev texts : World → List (List ℕ)
  texts w = texts_of w.run

  abbrev seen : LinesMoment P K → Sunk
  seen at = see at.outlet

  -- a fresh replay
  abbrev IsFresh : LinesMoment P K → Type 0
  IsFresh at = StandsFor beginning (of at)

  begins : (at : LinesMoment P K) → IsFresh at → IsReached StandsFor beginning (of at)
  begins at fresh = record { stands = fresh; tidy = given.tidy }

  was-told : (v : World) (a b : K) → WasTold Took beginning v a b
      → Wrote (texts v) (see a) (see b)
  was-told v a b t = subst (λ (xs : List Report). Wrote (map text_of xs) (see a) (see b))
      (sym t.since) (texts-told see a b t.told t.by_one)

  since-broken : (w v : World) (a b : K) (halt : Halt) (t : RecorderBroke Took Broke w v a b halt)
      → Fails (map text_of (t.told ++ t.last ∷ t.behind)) (see a) (see b) t.why
  since-broken w v a b halt t =
      texts-broken see a t.before b t.told t.last t.behind t.why t.by_one t.breaks

  was-broken : (v : World) (a b : K) (halt : Halt)
      (t : RecorderBroke Took Broke beginning v a b halt) → Fails (texts v) (see a) (see b) t.why
  was-broken v a b halt t =
      subst (λ (xs : List Report). Fails (map text_of xs) (see a) (see b) t.why) (sym t.since)
      (since-broken beginning v a b halt t)

  -- ---- from the beginning

  performed : (act : Act) (old new : LinesMoment P K) → IsFresh old
      → DidAct Took Broke of act old new (Ok tt)
      → WasPerformed two_groups IsTidy (λ t. Wrote t (seen old) (seen new)) texts act
  performed act old new fresh d =
      let e = d.ends beginning (begins old fresh) in
      (e.0, e.1, e.2.tidy, was-told e.0 _ _ e.3)

  halted : (act : Act) (old new : LinesMoment P K) (halt : Halt) → IsFresh old → Spares halt
      → DidAct Took Broke of act old new (Err halt)
      → WasHalted two_groups IsTidy (λ t. Wrote t (seen old) (seen new)) texts act halt
  halted act old new halt fresh spares d =
      elim (d.ends beginning (begins old fresh)) [
        | inl s ↦ (s.world, s.stops, s.tidy, was-told s.world _ _ s.told)
        | inr cut ↦ elim cut.cause [
          | inl m ↦ absurd (spares (inl m.0))
          | inr b ↦ absurd (spared halt b.why spares b.is)
        ]
      ]

  cut-off : (act : Act) (old new : LinesMoment P K) → IsFresh old
      → DidAct Took Broke of act old new (Err halts.Memory)
      → WasCut two_groups IsTidy (λ t. WroteSome t (seen old) (seen new)) texts act
  cut-off act old new fresh d =
      elim (d.ends beginning (begins old fresh)) [
        | inl s ↦ absurd (given.never act beginning s.world halts.Memory s.stops (inl refl))
        | inr cut ↦ (
          cut.world,
          cut.begins,
          cut.tidy,
          elim cut.cause [
            | inl m ↦ inl (was-told cut.world _ _ m.1)
            | inr b ↦ inr (fails-broke _ _ _ b.why (was-broken cut.world _ _ halts.Memory b))
          ],
        )
      ]

  broke-off : (act : Act) (old new : LinesMoment P K) → IsFresh old
      → DidAct Took Broke of act old new (Err halts.WriteFault)
      → Rose (seen old).faults (seen new).faults
      × WasCut two_groups IsTidy (λ t. BrokeOff t (seen old) (seen new)) texts act
  broke-off act old new fresh d =
      elim (d.ends beginning (begins old fresh)) [
        | inl s ↦ absurd (given.never act beginning s.world halts.WriteFault s.stops (inr refl))
        | inr cut ↦ elim cut.cause [
          | inl m ↦ absurd (cc (m.0))
          | inr b ↦
              let f = fails-rose _ _ _ b.why b.is (was-broken cut.world _ _ halts.WriteFault b) in
              (f.0, (cut.world, cut.begins, cut.tidy, f.1))
        ]
      ]

  -- a front of the lines was performed
  in-part : (front rest : List (List ℕ)) (old new : LinesMoment P K) → IsFresh old
      → DidLines Took Broke of front old new (Ok tt)
      → WasCut two_groups IsTidy (λ t. WroteSome t (seen old) (seen new)) texts
      (performed_all (front ++ rest))
  in-part front rest old new fresh d =
      let p = performed (performed_all front) old new fresh d in
      let all : perform (performed_all (front ++ rest)) beginning
      ≡ perform (performed_all rest) p.0 =
      each-append front rest beginning
      ∙ ap (λ (out : Course). and_then out (λ v. perform (performed_all rest) v)) p.1 in (
        p.0,
        subst (λ (out : Course). Begins (reports p.0.run) (reported out)) (sym all)
            (grows (performed_all rest) p.0),
        p.2,
        inl p.3,
      )

  -- ---- since an earlier moment

  grew-told : (w v : World) (a b : K) → WasTold Took w v a b → Grew (see a) (see b)
  grew-told w v a b t =
      grew-wrote (map text_of t.told) (see a) (see b) (texts-told see a b t.told t.by_one)

  grew : (act : Act) (a b : LinesMoment P K) (r : Result (Unit {0}) Halt)
      → DidAct Took Broke of act a b r → (w : World) → IsReached StandsFor w (of a)
      → Grew (seen a) (seen b)
  grew act a b (Ok done) d w reached =
      let e = d.ends w reached in grew-told w e.0 _ _ e.3
  grew act a b (Err halt) d w reached =
      elim (d.ends w reached) [
        | inl s ↦ grew-told w s.world _ _ s.told
        | inr cut ↦ elim cut.cause [
          | inl m ↦ grew-told w cut.world _ _ m.1
          | inr t ↦ grew-broke _ _ _
              (fails-broke _ _ _ t.why (since-broken w cut.world _ _ halt t))
        ]
      ]

  rose-since : (act : Act) (a b : LinesMoment P K) → DidAct Took Broke of act a b (Err halts.WriteFault)
      → (w : World) → IsReached StandsFor w (of a) → Rose (seen a).faults (seen b).faults
  rose-since act a b d w reached =
      elim (d.ends w reached) [
        | inl s ↦ absurd (given.never act w s.world halts.WriteFault s.stops (inr refl))
        | inr cut ↦ elim cut.cause [
          | inl m ↦ absurd (cc (m.0))
          | inr t ↦
              (fails-rose _ _ _ t.why t.is (since-broken w cut.world _ _ halts.WriteFault t)).0
        ]
      ]

  went-on : (first later : List (List ℕ)) (old mid new : LinesMoment P K)
      (r : Result (Unit {0}) Halt) → IsFresh old → DidLines Took Broke of first old mid (Ok tt)
      → DidLines Took Broke of later mid new r
      → (w : World) × two_groups.Reaches (performed_all first) w
      × Wrote (texts w) (seen old) (seen mid) × Grew (seen mid) (seen new)
  went-on first later old mid new r fresh d e =
      let p = d.ends beginning (begins old fresh) in (
        p.0,
        p.1,
        was-told p.0 _ _ p.3,
        grew (performed_all later) mid new r e p.0 p.2,
      )

  rose : (first later : List (List ℕ)) (old mid new : LinesMoment P K) → IsFresh old
      → DidLines Took Broke of first old mid (Ok tt)
      → DidLines Took Broke of later mid new (Err halts.WriteFault)
      → Rose (seen old).faults (seen new).faults
  rose first later old mid new fresh d e =
      let p = d.ends beginning (begins old fresh) in
      rose-earlier _ _ _ (wrote-counts _ _ _ (was-told p.0 _ _ p.3))
      (rose-since (performed_all later) mid new e p.0 p.2)

  pub plays : Plays two_groups IsTidy texts IsFresh seen (DidAct Took Broke of)
  plays = record {
    performed = performed;
    halted = halted;
    cut_off = cut-off;
    broke_off = broke-off;
    in_part = in-part;
    went_on = went-on;
    rose = rose;
    whole_did = λ text old new halt d. d;
    whole_passes = λ text w h. h;
  }

  -- ---- the end of a trace

  -- how it ends, whichever way its lines were read
  pub ended-as : (left now : Sourced) (old new : LinesMoment P K)
      (read : Result (Unit {0}) (End Halt)) → IsFresh old → left.faults ≤ now.faults
      → Reads (DidLines Took Broke of) most_input left now old new read
      → IsReplayed two_groups IsTidy (record { at_end = texts; before = texts }) left now
      (seen old) (seen new) (ended read (Ok tt))
  ended-as left now old new (Ok done) fresh counts h =
      transcribed two_groups IsTidy texts IsFresh seen (DidAct Took Broke of) plays left now old new
      fresh counts h (λ text d. d)
  ended-as left now old new (Err end) fresh counts h =
      replayed-err two_groups IsTidy texts IsFresh seen (DidAct Took Broke of) plays texts left now
      old new end fresh counts h

  laws : Laws (DidLines Took Broke of)
  laws = record {
    none = λ a. does-none _;
    more = λ a b c xs ys r d e. does-more _ _ _ xs ys r d e;
    early = λ a b xs ys halt d. does-early _ _ xs ys halt d;
  }

  -- in which turns it was performed
  pub turned-as : {S : Type 0} (Gave : S → Option (List ℕ) → S → Type 0) (s s_then : S)
      (old new : LinesMoment P K) (read : Result (Unit {0}) (End Halt)) → IsFresh old
      → InTurn Gave (DidLines Took Broke of) most_input s s_then old new read
      → PlaysInTurn Gave two_groups IsTidy (record { at_end = texts; before = texts }) s s_then
      (seen old) (seen new) (ended read (Ok tt))
  turned-as Gave s s_then old new (Ok done) fresh h =
      turned-ok two_groups IsTidy texts IsFresh seen (DidAct Took Broke of) plays Gave laws s s_then old new
      fresh (λ text d. d) h
  turned-as Gave s s_then old new (Err end) fresh h =
      turned-err two_groups IsTidy texts IsFresh seen (DidAct Took Broke of) plays Gave laws s s_then old new
      fresh end h

  -- ---- no frame is forged

  not-forged : (line : ℕ) (why : Unwritten) → halts.Forged line ≡ halt_of_unwritten why → ⊥
  not-forged line whys.Failed is = cc is
  not-forged line whys.Memory is = cc is

  forged-never : (act : Act) (a b : LinesMoment P K) (line : ℕ) (w : World)
      → IsReached StandsFor w (of a) → DidAct Took Broke of act a b (Err (halts.Forged line)) → ⊥
  forged-never act a b line w reached d =
      elim (d.ends w reached) [
        | inl s ↦ given.unforged act w s.world line s.stops
        | inr cut ↦ elim cut.cause [
          | inl m ↦ cc (m.0)
          | inr t ↦ not-forged line t.why t.is
        ]
      ]

  none-forged : (left now : Sourced) (old new : LinesMoment P K) (r : Result (Unit {0}) (End Halt))
      (line : ℕ) → IsFresh old → Takes (DidLines Took Broke of) most_input left now old new r
      → r ≡ Err (ends.Refused (halts.Forged line)) → ⊥
  none-forged left now old new r line fresh h is =
      let t = subst (λ (r : Result (Unit {0}) (End Halt)).
      Takes (DidLines Took Broke of) most_input left now old new r) is h in
      let p = t.taken.ends beginning (begins old fresh) in
      forged-never (performed_all t.last) t.between new line p.0 p.2 t.ends.1

  pub never-forged : (left now : Sourced) (old new : LinesMoment P K)
      (read : Result (Unit {0}) (End Halt)) (line : ℕ) → IsFresh old
      → Takes (DidLines Took Broke of) most_input left now old new read
      → ended read (Ok tt) ≡ Err (ends.Refused (halts.Forged line)) → ⊥
  never-forged left now old new (Ok done) line fresh h is = cc is
  never-forged left now old new (Err end) line fresh h is =
      none-forged left now old new (Err end) line fresh h is
