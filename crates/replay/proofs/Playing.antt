-- How a trace of one group is performed by a player, and ends.
use Rattle.std.proofs.Common.{◌≡◌, ◌⊎◌, ℕ, ◌≤◌, List, [], ◌∷◌, ◌++◌, Option, refl, sym, ap, ◌∙◌}
use Rattle.std.proofs.Common.{subst, arith, inl, inr}
use Rattle.std.specs.Prelude.{Result, Ok, Err, MatchResult}
use Rattle.lan_base.specs.Faults.{Rose}
use Rattle.lan_base.specs.Told.{after}
use Rattle.text_lines.specs.Texts.{lines_of}
use Rattle.text_lines.specs.Moments.{Moment as LinesMoment}
use Rattle.text_lines.specs.declared.reading.End.{End}
use Rattle.text_lines.specs.declared.reading.End.TheVariants as ends
use Rattle.text_lines.specs.Reading.{Sourced, Takes, Runs, Reads}
use Rattle.text_lines.specs.Turns.{InTurn}
use Rattle.text_lines.proofs.Public.{Laws}
use Rattle.trace_acts.specs.declared.halt.Halt.{Halt}
use Rattle.trace_acts.specs.declared.halt.Halt.TheVariants as halts
use Rattle.lan_base.specs.declared.sink.Unwritten.{Unwritten}
use Rattle.lan_base.specs.declared.sink.Unwritten.TheVariants as whys
use Rattle.lan_schedule.specs.declared.commands.Replay.{Replay}
use Rattle.lan_schedule.specs.Races.{Chance}
use Rattle.lan_schedule.specs.World.{World, beginning}
use Rattle.lan_schedule.specs.Acts.{Act, Goes, Stops, perform, course}
use Rattle.lan_schedule.specs.Lines.{performed_all, close}
use Rattle.lan_schedule.specs.Reports.{Report, reports}
use Rattle.lan_schedule.specs.Ends.{IsReached, WasTold, WasBroken as RecorderBroke}
use Rattle.lan_schedule.specs.Sound.{IsTidy}
use Rattle.lan_schedule.specs.Standing.{StandsFor, Closes}
use Rattle.lan_schedule.proofs.Public.{way-begun, way-front, does-none, does-more, does-early, does-whole}
use Rattle.lan_schedule.proofs.Public.{does-whole-early}
use Rattle.replay.specs.Sinks.{Sunk, Wrote, BrokeOff, WroteSome, Fails}
use Rattle.replay.specs.Shown.{summary_of}
use Rattle.replay.specs.Runs.{most_input, WasPerformed, WasHalted, WasCut, EndsBy, IsTakenFrom}
use Rattle.replay.specs.Runs.{IsReplayed, Shows}
use Rattle.replay.specs.Turns.{PlaysInTurn}
use Rattle.replay.specs.OneGroup.{one_group, whole, IsSettled}
use Rattle.replay.specs.inside.Ended.{answered, ended}
use Rattle.replay.specs.inside.Playing.{DidAct, DidLines}
use Rattle.replay.specs.inside.Summing.{SumsUp}
use Rattle.replay.proofs.Written.{after-after, rose-earlier, wrote-counts, fails-broke}
use Rattle.replay.proofs.Written.{Grew, grew-wrote, grew-broke}
use Rattle.replay.proofs.Telling.{Shows_on}
use Rattle.replay.proofs.Ending.{Spares, spared, fails-rose, Plays, took, closed-err}
use Rattle.replay.proofs.Ending.{replayed-err, transcribed}
use Rattle.replay.proofs.Turning.{turned-ok, turned-closed, turned-err}

-- what the laws of lan_schedule give
pub record Given : Type 0 where
  pub tidy : (chances : List Chance) → IsTidy (beginning chances)
  pub never : (act : Act) (w v : World) (halt : Halt) → perform act w ≡ Stops v halt
      → (halt ≡ halts.Memory) ⊎ (halt ≡ halts.WriteFault) → ⊥

module _ {P K : Type 0} (given : Given) (Took : K → Report → K → Type 0)
    (Broke : K → Report → K → Unwritten → Type 0) (of : LinesMoment P K → Replay) (see : K → Sunk)
    (show : List Report → List (List ℕ)) (shows : Shows_on Took Broke see show) where
  abbrev texts : World → List (List ℕ)
  texts w = show (reports w.run)

  abbrev seen : LinesMoment P K → Sunk
  seen at = see at.outlet

  -- a fresh replay
  abbrev IsFresh : LinesMoment P K → Type 0
  IsFresh at = (chances : List Chance) → StandsFor (beginning chances) (of at)

  begins : (at : LinesMoment P K) (chances : List Chance) → IsFresh at
      → IsReached StandsFor (beginning chances) (of at)
  begins at chances fresh = record { stands = fresh chances; tidy = given.tidy chances }

  was-told : (chances : List Chance) (v : World) (a b : K)
      → WasTold Took (beginning chances) v a b → Wrote (texts v) (see a) (see b)
  was-told chances v a b t = subst (λ (xs : List Report). Wrote (show xs) (see a) (see b))
      (sym t.since) (shows.tells a b t.told t.by_one)

  was-broken : (chances : List Chance) (v : World) (a b : K) (halt : Halt)
      (t : RecorderBroke Took Broke (beginning chances) v a b halt)
      → Fails (texts v) (see a) (see b) t.why
  was-broken chances v a b halt t = subst (λ (xs : List Report). Fails (show xs) (see a) (see b) t.why)
      (sym t.since) (shows.breaks a t.before b t.told t.last t.behind t.why t.by_one t.breaks)

  -- ---- from the beginning

  performed : (act : Act) (old new : LinesMoment P K) → IsFresh old
      → DidAct Took Broke of act old new (Ok tt)
      → WasPerformed one_group IsSettled (λ t. Wrote t (seen old) (seen new)) texts act
  performed act old new fresh d =
      let c = d.chances ++ [] in
      let e = d.ends (beginning c) [] refl (begins old c fresh) in
      (e.0, (c, e.1), record { tidy = e.2.tidy; apart = e.5 }, was-told c e.0 _ _ e.3)

  halted : (act : Act) (old new : LinesMoment P K) (halt : Halt) → IsFresh old
      → Spares halt → DidAct Took Broke of act old new (Err halt)
      → WasHalted one_group IsSettled (λ t. Wrote t (seen old) (seen new)) texts act halt
  halted act old new halt fresh spares d =
      let c = d.chances ++ [] in
      elim (d.ends (beginning c) [] refl (begins old c fresh)) [
        | inl s ↦ (
          s.world,
          (c, s.stops),
          record { tidy = s.tidy; apart = s.same },
          was-told c s.world _ _ s.told,
        )
        | inr cut ↦ elim cut.cause [
          | inl m ↦ absurd (spares (inl m.0))
          | inr b ↦ absurd (spared halt b.why spares b.is)
        ]
      ]

  cut-off : (act : Act) (old new : LinesMoment P K) → IsFresh old
      → DidAct Took Broke of act old new (Err halts.Memory)
      → WasCut one_group IsSettled (λ t. WroteSome t (seen old) (seen new)) texts act
  cut-off act old new fresh d =
      let c = d.chances ++ [] in
      elim (d.ends (beginning c) [] refl (begins old c fresh)) [
        | inl s ↦ absurd (given.never act (beginning c) s.world halts.Memory s.stops
            (inl refl))
        | inr cut ↦ elim cut.cause [
          | inl m ↦ (
            m.1.world,
            (c, way-begun act (beginning c) m.1.world m.1.begins),
            record { tidy = m.1.tidy; apart = m.1.same },
            inl (was-told c m.1.world _ _ m.1.told),
          )
          | inr b ↦ (
            cut.world,
            (c, cut.on_way),
            record { tidy = cut.tidy; apart = cut.same },
            inr (fails-broke _ _ _ b.why (was-broken c cut.world _ _ halts.Memory b)),
          )
        ]
      ]

  broke-off : (act : Act) (old new : LinesMoment P K) → IsFresh old
      → DidAct Took Broke of act old new (Err halts.WriteFault)
      → Rose (seen old).faults (seen new).faults
      × WasCut one_group IsSettled (λ t. BrokeOff t (seen old) (seen new)) texts act
  broke-off act old new fresh d =
      let c = d.chances ++ [] in
      elim (d.ends (beginning c) [] refl (begins old c fresh)) [
        | inl s ↦ absurd (given.never act (beginning c) s.world halts.WriteFault s.stops
            (inr refl))
        | inr cut ↦ elim cut.cause [
          | inl m ↦ absurd (cc (m.0))
          | inr b ↦
              let f = fails-rose _ _ _ b.why b.is (was-broken c cut.world _ _ halts.WriteFault b) in
              (f.0, (cut.world, (c, cut.on_way), record { tidy = cut.tidy; apart = cut.same }, f.1))
        ]
      ]

  -- a front of the lines was performed
  in-part : (front rest : List (List ℕ)) (old new : LinesMoment P K) → IsFresh old
      → DidLines Took Broke of front old new (Ok tt)
      → WasCut one_group IsSettled (λ t. WroteSome t (seen old) (seen new)) texts
      (performed_all (front ++ rest))
  in-part front rest old new fresh d =
      let p = performed (performed_all front) old new fresh d in
      (p.0, (p.1.0, way-front front rest (beginning p.1.0) p.0 p.1.1), p.2, inl p.3)

  -- ---- since an earlier moment

  grew-told : (w v : World) (a b : K) → WasTold Took w v a b → Grew (see a) (see b)
  grew-told w v a b t = grew-wrote (show t.told) (see a) (see b) (shows.tells a b t.told t.by_one)

  since-broken : (w v : World) (a b : K) (halt : Halt) (t : RecorderBroke Took Broke w v a b halt)
      → Fails (show (t.told ++ t.last ∷ t.behind)) (see a) (see b) t.why
  since-broken w v a b halt t =
      shows.breaks a t.before b t.told t.last t.behind t.why t.by_one t.breaks

  grew : (act : Act) (a b : LinesMoment P K) (r : Result (Unit {0}) Halt)
      (d : DidAct Took Broke of act a b r) (w : World) → w.kept.chances ≡ d.chances ++ []
      → IsReached StandsFor w (of a) → Grew (seen a) (seen b)
  grew act a b (Ok done) d w is reached =
      let e = d.ends w [] is reached in grew-told w e.0 _ _ e.3
  grew act a b (Err halt) d w is reached =
      elim (d.ends w [] is reached) [
        | inl s ↦ grew-told w s.world _ _ s.told
        | inr cut ↦ elim cut.cause [
          | inl m ↦ grew-told w m.1.world _ _ m.1.told
          | inr t ↦ grew-broke _ _ _
              (fails-broke _ _ _ t.why (since-broken w cut.world _ _ halt t))
        ]
      ]

  rose-since : (act : Act) (a b : LinesMoment P K)
      (d : DidAct Took Broke of act a b (Err halts.WriteFault)) (w : World)
      → w.kept.chances ≡ d.chances ++ [] → IsReached StandsFor w (of a)
      → Rose (seen a).faults (seen b).faults
  rose-since act a b d w is reached =
      elim (d.ends w [] is reached) [
        | inl s ↦ absurd (given.never act w s.world halts.WriteFault s.stops (inr refl))
        | inr cut ↦ elim cut.cause [
          | inl m ↦ absurd (cc (m.0))
          | inr t ↦
              (fails-rose _ _ _ t.why t.is (since-broken w cut.world _ _ halts.WriteFault t)).0
        ]
      ]

  -- where an act was performed, whatever the next one decides, and what it told
  record Reached (act : Act) (old new : LinesMoment P K) (later : List Chance) : Type 0 where
    world : World
    chances : List Chance
    reaches : course act chances ≡ Goes world
    wrote : Wrote (texts world) (seen old) (seen new)
    next : world.kept.chances ≡ later
    reached : IsReached StandsFor world (of new)

  reached-by : (act : Act) (old new : LinesMoment P K) (later : List Chance) → IsFresh old
      → DidAct Took Broke of act old new (Ok tt) → Reached act old new later
  reached-by act old new later fresh d =
      let c = d.chances ++ later in
      let e = d.ends (beginning c) later refl (begins old c fresh) in record {
        world = e.0;
        chances = c;
        reaches = e.1;
        wrote = was-told c e.0 _ _ e.3;
        next = e.4;
        reached = e.2;
      }

  went-on : (first later : List (List ℕ)) (old mid new : LinesMoment P K)
      (r : Result (Unit {0}) Halt) → IsFresh old → DidLines Took Broke of first old mid (Ok tt)
      → DidLines Took Broke of later mid new r
      → (w : World) × one_group.Reaches (performed_all first) w
      × Wrote (texts w) (seen old) (seen mid) × Grew (seen mid) (seen new)
  went-on first later old mid new r fresh d e =
      let at = reached-by (performed_all first) old mid (e.chances ++ []) fresh d in (
        at.world,
        (at.chances, at.reaches),
        at.wrote,
        grew (performed_all later) mid new r e at.world at.next at.reached,
      )

  rose : (first later : List (List ℕ)) (old mid new : LinesMoment P K) → IsFresh old
      → DidLines Took Broke of first old mid (Ok tt)
      → DidLines Took Broke of later mid new (Err halts.WriteFault)
      → Rose (seen old).faults (seen new).faults
  rose first later old mid new fresh d e =
      let at = reached-by (performed_all first) old mid (e.chances ++ []) fresh d in
      rose-earlier _ _ _ (wrote-counts _ _ _ at.wrote)
      (rose-since (performed_all later) mid new e at.world at.next at.reached)

  -- ---- all of a text

  pub plays : Plays one_group IsSettled texts IsFresh seen (DidAct Took Broke of)
  plays = record {
    performed = performed;
    halted = halted;
    cut_off = cut-off;
    broke_off = broke-off;
    in_part = in-part;
    went_on = went-on;
    rose = rose;
    whole_did = λ text old new halt d. does-whole-early (lines_of text) _ _ halt d;
    whole_passes = λ text w h. (h.0, inl h.1);
  }

  -- ---- the end of a trace

  -- a world for which a replay stands behind its lines
  record HasWorld (new : LinesMoment P K) : Type 0 where
    world : World
    stands : StandsFor world (of new)

  last-world : (left now : Sourced) (old new : LinesMoment P K) → IsFresh old
      → Takes (DidLines Took Broke of) most_input left now old new (Ok tt) → HasWorld new
  last-world left now old new fresh h =
      let e = h.ends.3 in
      let at = reached-by _ old h.between (e.chances ++ []) fresh h.taken in
      let q = e.ends at.world [] at.next at.reached in
      record { world = q.0; stands = q.2.stands }

  -- no sink is at fault there
  never-broken : (w : World) (halt : Halt) → Closes w (Err halt) → halt ≡ halts.WriteFault → ⊥
  never-broken w halt stops is = given.never close w _ halt stops (inr is)

  -- the source ended inside a race
  pub ended-badly : (at_end : World → List (List ℕ)) (left now : Sourced)
      (old new : LinesMoment P K) (halt : Halt) → IsFresh old → left.faults ≤ now.faults
      → Reads (DidLines Took Broke of) most_input left now old new (Ok tt)
      → ((w : World) → StandsFor w (of new) → Closes w (Err halt))
      → IsReplayed one_group IsSettled (record { at_end = at_end; before = texts }) left now
      (seen old) (seen new) (Err (ends.Refused halt))
  ended-badly at_end left now old new halt fresh counts h closes =
      let at = last-world left now old new fresh h.takes in
      closed-err one_group IsSettled texts IsFresh seen (DidAct Took Broke of) plays at_end left now
      old new halt fresh counts h
      (never-broken at.world halt (closes at.world at.stands))
      (λ text d. does-whole (lines_of text) _ _ (Err halt) d closes)

  laws : Laws (DidLines Took Broke of)
  laws = record {
    none = λ a. does-none _;
    more = λ a b c xs ys r d e. does-more _ _ _ xs ys r d e;
    early = λ a b xs ys halt d. does-early _ _ xs ys halt d;
  }

  -- how a transcript ends, whichever way its lines were read, and whether it may end there
  pub ended-as : (left now : Sourced) (old new : LinesMoment P K)
      (read : Result (Unit {0}) (End Halt)) (may : Result (Unit {0}) Halt) → IsFresh old
      → left.faults ≤ now.faults → Reads (DidLines Took Broke of) most_input left now old new read
      → ((w : World) → StandsFor w (of new) → Closes w may)
      → IsReplayed one_group IsSettled (record { at_end = texts; before = texts }) left now
      (seen old) (seen new) (ended read may)
  ended-as left now old new (Ok done) (Ok may) fresh counts h closes =
      transcribed one_group IsSettled texts IsFresh seen (DidAct Took Broke of) plays left now
      old new fresh counts h (λ text d. does-whole (lines_of text) _ _ (Ok tt) d closes)
  ended-as left now old new (Ok done) (Err halt) fresh counts h closes =
      ended-badly texts left now old new halt fresh counts h closes
  ended-as left now old new (Err end) may fresh counts h closes =
      replayed-err one_group IsSettled texts IsFresh seen (DidAct Took Broke of) plays texts left now
      old new end fresh counts h

  -- in which turns it was performed, whichever way its lines were read, and whether it may end there
  pub turned-as : {S : Type 0} (Gave : S → Option (List ℕ) → S → Type 0) (s s_then : S)
      (old new : LinesMoment P K) (read : Result (Unit {0}) (End Halt)) (may : Result (Unit {0}) Halt)
      → IsFresh old → InTurn Gave (DidLines Took Broke of) most_input s s_then old new read
      → ((w : World) → StandsFor w (of new) → Closes w may)
      → PlaysInTurn Gave one_group IsSettled (record { at_end = texts; before = texts }) s s_then
      (seen old) (seen new) (ended read may)
  turned-as Gave s s_then old new (Ok done) (Ok may) fresh h closes =
      turned-ok one_group IsSettled texts IsFresh seen (DidAct Took Broke of) plays Gave laws s s_then old new
      fresh (λ text d. does-whole (lines_of text) _ _ (Ok tt) d closes) h
  turned-as Gave s s_then old new (Ok done) (Err halt) fresh h closes =
      turned-closed one_group IsSettled texts IsFresh seen (DidAct Took Broke of) plays Gave laws s s_then old
      new fresh halt (λ text d. does-whole (lines_of text) _ _ (Err halt) d closes) h
  turned-as Gave s s_then old new (Err end) may fresh h closes =
      turned-err one_group IsSettled texts IsFresh seen (DidAct Took Broke of) plays Gave laws s s_then old new
      fresh end h

-- ---- a summary

abbrev summed : Shows World
summed = record { at_end = λ w. summary_of w.run ∷ []; before = λ w. [] }

taken-then : (left now : Sourced) (old mid new : Sunk) → IsTakenFrom one_group summed left now old mid
    → Grew mid new → IsTakenFrom one_group summed left now old new
taken-then left now old mid new t g = record {
  earlier = t.earlier;
  piece = t.piece;
  moved = t.moved;
  within = t.within;
  at_once = t.at_once;
  world = t.world;
  performed = t.performed;
  more = t.more ++ g.more;
  held = g.held ∙ ap (λ (o : Option (List ℕ)). after o g.more) t.held
      ∙ after-after old.held t.more g.more;
}

module _ {P K : Type 0} (given : Given) (Took : K → Report → K → Type 0)
    (Broke : K → Report → K → Unwritten → Type 0) (of : LinesMoment P K → Replay) (see : K → Sunk)
    (shows : Shows_on Took Broke see (λ xs. [])) where
  -- how the end of the text is, where the line of its run's summary was written so
  sums : (text line : List ℕ) (left now : Sourced) (old mid : LinesMoment P K) (new : Sunk)
      (r : Result (Unit {0}) Unwritten) → ((chances : List Chance) → StandsFor (beginning chances) (of old))
      → Runs (DidLines Took Broke of) most_input text left now old mid (Ok tt)
      → ((w : World) → StandsFor w (of mid) → Closes w (Ok tt))
      → ((w : World) → StandsFor w (of mid) → line ≡ summary_of w.run)
      → MatchResult r (λ done. Wrote (line ∷ []) (see mid.outlet) new)
      (λ why. Fails (line ∷ []) (see mid.outlet) new why)
      → EndsBy one_group IsSettled summed text left now (see old.outlet) new (answered r)
  sums text line left now old mid new r fresh h closes is wrote =
      let d : DidAct Took Broke of (whole text) old mid (Ok tt) =
      does-whole (lines_of text) _ _ (Ok tt) h.2 closes in
      let c = d.chances ++ [] in
      let e = d.ends (beginning c) [] refl (record { stands = fresh c; tidy = given.tidy c }) in
      let settled : IsSettled e.0 = record { tidy = e.2.tidy; apart = e.5 } in
      let same : see mid.outlet ≡ see old.outlet = shows.tells _ _ e.3.told e.3.by_one in
      go c e.0 e.1 settled r (subst (λ (s : Sunk). MatchResult r (λ done. Wrote (summary_of e.0.run ∷ []) s new)
      (λ why. Fails (summary_of e.0.run ∷ []) s new why)) same
      (subst (λ (l : List ℕ). MatchResult r (λ done. Wrote (l ∷ []) (see mid.outlet) new)
      (λ why. Fails (l ∷ []) (see mid.outlet) new why)) (is e.0 e.2.stands) wrote))
    where
      go : (c : List Chance) (w : World) → course (whole text) c ≡ Goes w → IsSettled w
          → (r : Result (Unit {0}) Unwritten)
          → MatchResult r (λ done. Wrote (summary_of w.run ∷ []) (see old.outlet) new)
          (λ why. Fails (summary_of w.run ∷ []) (see old.outlet) new why)
          → EndsBy one_group IsSettled summed text left now (see old.outlet) new (answered r)
      go c w goes settled (Ok done) f = (h.0, h.1, (w, (c, goes), settled, f))
      go c w goes settled (Err whys.Failed) f =
          (f.0, inr (h.0, h.1, (w, (c, goes), settled, f.1)))
      go c w goes settled (Err whys.Memory) f = inr (h.0, h.1, (w, (c, goes), settled, inr f))

  pub summarized : (line : List ℕ) (left now : Sourced) (old mid : LinesMoment P K) (new : Sunk)
      (r : Result (Unit {0}) Unwritten) → ((chances : List Chance) → StandsFor (beginning chances) (of old))
      → left.faults ≤ now.faults → Reads (DidLines Took Broke of) most_input left now old mid (Ok tt)
      → ((w : World) → StandsFor w (of mid) → Closes w (Ok tt))
      → ((w : World) → StandsFor w (of mid) → line ≡ summary_of w.run)
      → MatchResult r (λ done. Wrote (line ∷ []) (see mid.outlet) new)
      (λ why. Fails (line ∷ []) (see mid.outlet) new why)
      → IsReplayed one_group IsSettled summed left now (see old.outlet) new (answered r)
  summarized line left now old mid new r fresh counts h closes is wrote =
      let t = took one_group IsSettled _ _ _ _ (plays given Took Broke of see (λ xs. []) shows)
      (λ w. summary_of w.run ∷ []) left now old mid (Ok tt) fresh h.takes in
      let g = grew-by r wrote in record {
        told = λ text told. record {
          taken = taken-then left now (see old.outlet) (see mid.outlet) new t.0 g;
          ends = sums text line left now old mid new r fresh (h.runs text told) closes is wrote;
        };
        reads = counts;
        writes = let one = t.1 in let two = g.counts in omega (arith, one, two);
        read_fault = λ e. absurd (unread r e);
        write_fault = λ e. rose-earlier _ _ _ t.1 (rises r wrote e);
      }
    where
      grew-by : (r : Result (Unit {0}) Unwritten)
          → MatchResult r (λ done. Wrote (line ∷ []) (see mid.outlet) new)
          (λ why. Fails (line ∷ []) (see mid.outlet) new why) → Grew (see mid.outlet) new
      grew-by (Ok done) f = grew-wrote (line ∷ []) (see mid.outlet) new f
      grew-by (Err why) f =
          grew-broke (line ∷ []) (see mid.outlet) new (fails-broke (line ∷ []) _ _ why f)

      unread : (r : Result (Unit {0}) Unwritten) → answered r ≡ Err ends.ReadFault → ⊥
      unread (Ok done) e = cc e
      unread (Err whys.Failed) e = cc e
      unread (Err whys.Memory) e = cc e

      rises : (r : Result (Unit {0}) Unwritten)
          → MatchResult r (λ done. Wrote (line ∷ []) (see mid.outlet) new)
          (λ why. Fails (line ∷ []) (see mid.outlet) new why) → answered r ≡ Err (ends.Refused halts.WriteFault)
          → Rose (see mid.outlet).faults new.faults
      rises (Ok done) f e = absurd (cc e)
      rises (Err whys.Failed) f e = f.0
      rises (Err whys.Memory) f e = absurd (cc e)

  -- nothing is written behind a run that ended badly
  unwritten : (left now : Sourced) (old mid : LinesMoment P K) (new : Sunk)
      (result bad : Result (Unit {0}) (End Halt)) → new ≡ see mid.outlet → result ≡ bad
      → IsReplayed one_group IsSettled summed left now (see old.outlet) (see mid.outlet) bad
      → IsReplayed one_group IsSettled summed left now (see old.outlet) new result
  unwritten left now old mid new result bad same is r =
      subst (λ (s : Sunk). IsReplayed one_group IsSettled summed left now (see old.outlet) s result)
      (sym same)
      (subst (λ (x : Result (Unit {0}) (End Halt)). IsReplayed one_group IsSettled summed left now
      (see old.outlet) (see mid.outlet) x) (sym is) r)

  summed-by : (line : List ℕ) (left now : Sourced) (old mid : LinesMoment P K) (new : Sunk)
      (read : Result (Unit {0}) (End Halt)) (may : Result (Unit {0}) Halt)
      (result : Result (Unit {0}) (End Halt))
      → ((chances : List Chance) → StandsFor (beginning chances) (of old))
      → left.faults ≤ now.faults → Reads (DidLines Took Broke of) most_input left now old mid read
      → ((w : World) → StandsFor w (of mid) → Closes w may)
      → ((w : World) → StandsFor w (of mid) → line ≡ summary_of w.run)
      → SumsUp (ended read may) line (see mid.outlet) new result
      → IsReplayed one_group IsSettled summed left now (see old.outlet) new result
  summed-by line left now old mid new (Ok done) (Ok may) result fresh counts h closes is s =
      subst (λ (x : Result (Unit {0}) (End Halt)). IsReplayed one_group IsSettled summed left now
      (see old.outlet) new x) (sym s.2)
      (summarized line left now old mid new s.0 fresh counts h closes is s.1)
  summed-by line left now old mid new (Ok done) (Err halt) result fresh counts h closes is s =
      unwritten left now old mid new result (Err (ends.Refused halt)) s.0 s.1
      (ended-badly given Took Broke of see (λ xs. []) shows (λ w. summary_of w.run ∷ []) left now
      old mid halt fresh counts h closes)
  summed-by line left now old mid new (Err end) may result fresh counts h closes is s =
      unwritten left now old mid new result (Err end) s.0 s.1
      (replayed-err one_group IsSettled _ _ _ _ (plays given Took Broke of see (λ xs. []) shows)
      (λ w. summary_of w.run ∷ []) left now old mid end fresh counts h)

  -- how a run for its summary ends, whichever way its lines were read, and whether it may end there
  pub summed-as : (line : List ℕ) (left now : Sourced) (old mid : LinesMoment P K) (new : Sunk)
      (read : Result (Unit {0}) (End Halt)) (may : Result (Unit {0}) Halt)
      (out result : Result (Unit {0}) (End Halt))
      → ((chances : List Chance) → StandsFor (beginning chances) (of old))
      → left.faults ≤ now.faults → Reads (DidLines Took Broke of) most_input left now old mid read
      → ((w : World) → StandsFor w (of mid) → Closes w may)
      → ((w : World) → StandsFor w (of mid) → line ≡ summary_of w.run)
      → out ≡ ended read may → SumsUp out line (see mid.outlet) new result
      → IsReplayed one_group IsSettled summed left now (see old.outlet) new result
  summed-as line left now old mid new read may out result fresh counts h closes is same s =
      summed-by line left now old mid new read may result fresh counts h closes is
      (subst (λ (x : Result (Unit {0}) (End Halt)). SumsUp x line (see mid.outlet) new result) same s)
