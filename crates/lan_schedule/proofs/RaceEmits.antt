-- What is known once control and the workers stand in one run, and the frames were emitted.
use Rattle.std.proofs.Common.{◌≡◌, ℕ, Bool, true, false, cond, List, [], ◌∷◌, ◌++◌, length, map, refl, sym}
use Rattle.std.proofs.Common.{ap, ◌∙◌, subst, inl, inr, arith, append_assoc}
use Rattle.std.specs.Prelude.{◌⊎◌, None, Some, Result, Ok, Err}
use Rattle.std.proofs.lemmas.List.{length-map, map-append}
use Rattle.std.specs.Result.{result_and}
use Rattle.lan_base.specs.declared.frame.Protected.{Protected}
use Rattle.lan_base.specs.declared.frame.UserFrame.{UserFrame}
use Rattle.lan_core.specs.declared.event.Event.{Event}
use Rattle.lan_core.specs.declared.event.Event.TheVariants.{Emit}
use Rattle.lan_core.specs.declared.fact.Fact.{Fact}
use Rattle.lan_core.specs.declared.settings.Settings.{Settings}
use Rattle.lan_core.specs.Claims.{Waiting}
use Rattle.lan_core.specs.Legal.{IsStepped}
use Rattle.lan_core.specs.Parts.{AreProtected, claimed_in, followed_by, protected_for, without_claims}
use Rattle.lan_core.specs.Run.{Happening, Run, facts_of}
use Rattle.lan_core.specs.Standing.{StandsFor as GroupStandsFor}
use Rattle.fact_tally.specs.Summary.{counts}
use Rattle.worker_races.specs.merge.Steps.{counted_from}
use Rattle.worker_races.specs.merge.Taking.{frames_of}
use Rattle.worker_races.specs.merge.Weaving.{IsWoven}
use Rattle.association_slots.specs.Views.{ControlAt}
use Rattle.station_words.specs.Ties.{HaveCaughtUp}
use Rattle.worker_races.specs.Beside.{Race, WereBeside, attempts_in, logs_in, part_in}
use Rattle.worker_races.specs.Carded.{AreCarded}
use Rattle.worker_races.specs.Performed.{happenings, run_after}
use Rattle.trace_acts.specs.declared.halt.Halt.{Halt}
use Rattle.trace_acts.specs.declared.halt.Halt.TheVariants as halts
use Rattle.trace_acts.specs.Settings.{settings_of}
use Rattle.trace_acts.specs.Names.{names_of}
use Rattle.lan_schedule.specs.declared.race.Ran.{Ran}
use Rattle.lan_schedule.specs.declared.stage.Stage.{Stage}
use Rattle.lan_schedule.specs.Races.{Chance, Numbered, Woven, Worker, behind_numbers}
use Rattle.lan_schedule.specs.Races.{claims_in, count_numbered, woven_in}
use Rattle.lan_schedule.specs.World.{World, is_racing, settings}
use Rattle.lan_schedule.specs.Acts.{Act, Course, Goes, Stops, after_race, begun_race, beside, emitting}
use Rattle.lan_schedule.specs.Acts.{emitting_all, ends_with, happen, is_stop, perform, race as race_act}
use Rattle.lan_schedule.specs.Acts.{times, world_of}
use Rattle.lan_schedule.specs.Lines.{control_act}
use Rattle.lan_schedule.specs.Reports.{Report, reports}
use Rattle.lan_schedule.specs.Ends.{Ends, IsReached, WasBroken, WasCut, WasTold, WasToldTo, moment}
use Rattle.lan_schedule.specs.Sound.{IsTidy}
use Rattle.lan_schedule.specs.Stages.{Counts}
use Rattle.lan_schedule.specs.Woven.{WasWoven, controlled_in}
use Rattle.lan_schedule.specs.inside.Beside.{HasRun, IsLeft, Leaves, Weaves, has_stopped}
use Rattle.lan_schedule.specs.inside.Beside.{mark_of}
use Rattle.lan_schedule.specs.inside.Comes.{IsSteady}
use Rattle.lan_schedule.specs.inside.Recording.{LeavesAt, Mark, StandsSince, stages_since}
use Rattle.lan_schedule.specs.inside.Staged.{Did}
use Rattle.lan_schedule.specs.inside.Weaves.{KeepsNoMore, KeepsReport, reports_with}
use Rattle.lan_schedule.proofs.Emitted.{ShowsMore, comes-emits, emits-more}
use Rattle.lan_schedule.proofs.Emitting.{emitting-times}
use Rattle.lan_schedule.proofs.PartReports.{facts-with, same-rest}
use Rattle.lan_schedule.proofs.RaceOf.{race, were-beside}
use Rattle.lan_schedule.proofs.RacePart.{IsPart, RaceLaws, claims_from}
use Rattle.lan_schedule.proofs.RacePart.{woven-behind}
use Rattle.lan_schedule.proofs.RaceWoven.{many-after, names-after}
use Rattle.lan_schedule.proofs.RaceWoven.{stands-after, tidy-after}
use Rattle.lan_schedule.proofs.RaceWoven.{wait-after}
use Rattle.lan_schedule.proofs.Recorded.{leaves-counts, leaves-names, since-apart}
use Rattle.lan_schedule.proofs.Steered.{IsSteered, broken-memory, kept-told, steered-err, steered-ok}
use Rattle.lan_schedule.proofs.RaceEnds.{IsMerged, control-ends, given, left-after, reports-are}
use Rattle.lan_schedule.proofs.RaceEnds.{steady-at, tally-is, woven-so}

-- ---- where the group goes on

-- what laws say of a race behind which no look at the words came
pub record GoingLaws : Type 0 where
  pub caught : (race : Race) → WereBeside race → race.looked ≡ race.moved → (part : List Happening)
      → IsWoven race.base part (happenings race.performed) (attempts_in race)
      → IsStepped race.settings race.users (followed_by part race.run)
      → HaveCaughtUp race.settings (followed_by part race.run) race.after
  pub cards : (race : Race) → WereBeside race
      → AreCarded race.settings (run_after race.performed race.run) race.moved
      → (part : List Happening)
      → IsWoven race.base part (happenings race.performed) (attempts_in race)
      → IsStepped race.settings race.users (followed_by part race.run)
      → AreCarded race.settings (followed_by part race.run) race.after
  pub protected : (race : Race) → WereBeside race
      → AreCarded race.settings (run_after race.performed race.run) race.moved
      → (part : List Happening) (events : List Event)
      → map (λ h. h.event) part ≡ map (counted_from race.base) events
      → IsWoven race.base part (happenings race.performed) (attempts_in race)
      → IsStepped race.settings race.users (followed_by part race.run)
      → AreProtected race.settings race.users (frames_of events (logs_in race)) part race.run

-- the frames came to wait, and were emitted
pub record WereEmitted (mid set new : Stage) (frames : List Protected) (count : ℕ)
    (first shown : List (List Fact)) (result : Result (Unit {0}) Halt) : Type 0 where
  pub settled : (settings : Settings) (users : List UserFrame) (part : List Happening) (r : Run)
      → GroupStandsFor settings users mid.lan (followed_by (without_claims part) r)
      → IsStepped settings users (followed_by part r) → AreProtected settings users frames part r
      → GroupStandsFor settings users set.lan (followed_by part r)
  pub same : set ≡ record mid { lan = set.lan }
  pub many : count ≡ length frames
  pub did : Did KeepsReport KeepsNoMore (times count (happen Emit)) (moment set first)
      (moment new shown) result
  pub words : new.words ≡ set.words

protected-many : (users : List UserFrame) (r : Run) (frames : List Protected) (ws : List Waiting)
    → map (λ (p : Protected). Some p) frames ≡ map (protected_for users r) ws
    → length frames ≡ length ws
protected-many users r frames ws is =
    sym (length-map frames (λ (p : Protected). Some p)) ∙ ap length is
    ∙ length-map ws (protected_for users r)

module _ (w : World) (workers : List Worker) (lines : List Numbered) (now : Stage) (ran : Ran)
    (has : HasRun w workers lines now ran) (more rest : List Chance) (v : World) (old mid : Stage)
    (es : List Event) (frames : List Protected) (first : List (List Fact))
    (at : IsSteered w has.begun has.beside.moved ran.steps.items ran.kept
    (Woven (claims_from es) ∷ (more ++ rest)) false v)
    (steady : IsSteady (begun_race workers w) v) (laws : RaceLaws) (going : GoingLaws)
    (merged : IsMerged ran old mid es frames first)
    (is_old : old ≡ record now { line = w.kept.line; tally = counts (facts_of w.run) }) where
  abbrev all : List Chance
  all = Woven (claims_from es) ∷ (more ++ rest)

  abbrev r : Race
  r = race w workers lines now ran has all false v at steady

  abbrev u : World
  u = after_race workers w v

  abbrev out_of : IsPart r es (part_in r)
  out_of = given w workers lines now ran has all false v at steady laws old mid es frames first merged
      is_old (more ++ rest) refl

  abbrev part : List Happening
  part = part_in r

  still : r.looked ≡ r.moved
  still = at.still refl

  beside-is : WereBeside r
  beside-is = were-beside w workers lines now ran has all false v at steady

  -- the words that control left have the cards of all keys that were installed
  moved-cards : AreCarded (settings w) (run_after r.performed w.run) at.words
  moved-cards =
      subst (λ (q : Run). AreCarded (settings w) q at.words) at.recorded.run
      (subst (λ (s : Settings). AreCarded s v.run at.words)
      (ap (λ chosen. settings_of chosen) steady.chosen)
      (subst (λ (cs : List ControlAt). AreCarded (settings v) v.run cs) (at.still refl)
      (at.stands refl).cards))

  chances-are : woven_in v.kept.chances ≡ claims_from es
  chances-are = woven-behind v.kept.chances ∙ ap (λ (c : List Chance). woven_in c) at.left

  are-protected : AreProtected (settings w) r.users frames part w.run
  are-protected = subst (λ (fs : List Protected). AreProtected (settings w) r.users fs part w.run)
      (sym (merged.frames_are ∙ ap (λ logs. frames_of es logs) has.beside.logs))
      (going.protected r beside-is moved-cards part es out_of.events out_of.woven
      out_of.legal.stepped)

  many-frames : length frames ≡ count_numbered (claims_in (woven_in v.kept.chances))
  many-frames =
      protected-many r.users (followed_by part w.run) frames (claimed_in (settings w) part w.run)
      are-protected
      ∙ many-after w workers lines now ran has all false v at steady es part out_of chances-are

  -- the group that control left, without what the workers claimed
  moved-stands : GroupStandsFor (settings w) r.users has.beside.moved.lan
      (followed_by (without_claims part) w.run)
  moved-stands =
      let stands = (at.stands refl).lan in
      let run : v.run ≡ followed_by (without_claims part) w.run =
      at.recorded.run
      ∙ ap (λ (hs : List Happening). followed_by hs w.run) (sym out_of.woven.control) in
      subst (λ (q : Run). GroupStandsFor (settings w) r.users has.beside.moved.lan q) run
      (subst (λ (users : List UserFrame).
      GroupStandsFor (settings w) users has.beside.moved.lan v.run) steady.users
      (subst (λ (s : Settings). GroupStandsFor s v.kept.users has.beside.moved.lan v.run)
      (ap (λ chosen. settings_of chosen) steady.chosen) stands))

  module _ (set new : Stage) (count : ℕ) (shown : List (List Fact))
      (result : Result (Unit {0}) Halt)
      (emitted : WereEmitted mid set new frames count first shown result) where
    lan-mid : mid.lan ≡ has.beside.moved.lan
    lan-mid = ap (λ (s : Stage). s.lan) merged.same ∙ ap (λ (s : Stage). s.lan) is_old
        ∙ ap (λ (s : Stage). s.lan) has.beside.same

    set-is : set ≡ record has.beside.moved {
      line = w.kept.line;
      tally = set.tally;
      words = now.words;
      steps = None;
      lan = set.lan;
    }
    set-is =
        let tally : set.tally ≡ mid.tally = ap (λ (s : Stage). s.tally) emitted.same in
        emitted.same
        ∙ ap (λ (s : Stage). record s { lan = set.lan }) merged.same
        ∙ ap (λ (s : Stage). record s { tally = mid.tally; lan = set.lan }) is_old
        ∙ ap (λ (s : Stage). record s {
          line = w.kept.line;
          tally = mid.tally;
          lan = set.lan;
        }) has.beside.same
        ∙ ap (λ t. record has.beside.moved {
          line = w.kept.line;
          tally = t;
          words = now.words;
          steps = None;
          lan = set.lan;
        }) (sym tally)

    -- what control and the workers did was woven
    woven-before : controlled_in w workers lines ≡ v → WasWoven w workers lines has.first.words new.words
    woven-before came = woven-so w workers lines now ran has all false v at steady laws old mid es frames
        first merged is_old (more ++ rest) refl came new
        (emitted.words ∙ ap (λ (s : Stage). s.words) set-is)

    reached : IsReached (StandsSince (mark_of w has.begun)) u set
    reached = record {
      stands = since-apart (mark_of w has.begun) u set
          (stands-after w workers lines now ran has all false v at steady es part out_of chances-are
          set (at.stands refl) set-is
          (emitted.settled (settings w) r.users part w.run
          (subst (λ lan. GroupStandsFor (settings w) r.users lan
          (followed_by (without_claims part) w.run)) (sym lan-mid) moved-stands)
          out_of.legal.stepped are-protected)
          (going.caught r beside-is still part out_of.woven out_of.legal.stepped)
          (going.cards r beside-is moved-cards part out_of.woven out_of.legal.stepped)
          (ap (λ (s : Stage). s.tally) emitted.same
          ∙ tally-is w workers lines now ran has all false v at steady laws old mid es frames first
          merged is_old (more ++ rest) refl)) refl;
      tidy = tidy-after w workers lines now ran has all false v at steady es part out_of chances-are;
    }

    many : count ≡ count_numbered (claims_in (woven_in v.kept.chances))
    many = emitted.many ∙ many-frames

    emit-ends : more ≡ emitted.did.chances
        → Ends (stages_since (mark_of w has.begun)) KeepsReport
        KeepsNoMore u rest (times count (happen Emit)) first (moment new shown) result
    emit-ends own = emitted.did.ends (mark_of w has.begun) u rest
        (left-after w workers lines now ran has all false v at steady laws old mid es frames first
        merged is_old (more ++ rest) refl ∙ ap (λ (c : List Chance). c ++ rest) own)
        reached
        (comes-emits count u refl
        (let wait = wait-after w workers lines now ran has all false v at steady es part out_of
        chances-are in
        let claims = many-after w workers lines now ran has all false v at steady es part out_of
        chances-are in
        let count_is = many in omega (arith, wait, claims, count_is)))

    -- emitting all is so many emissions
    all-emitted : emitting_all v u ≡ perform (times count (happen Emit)) u
    all-emitted = ap (λ n. emitting n u) (sym many) ∙ emitting-times count u

    shows-more : ShowsMore u (world_of (perform (times count (happen Emit)) u))
    shows-more = emits-more count u

    left-at : (x : World) (told : List Report) → world_of (perform (times count (happen Emit)) u) ≡ x
        → reports x.run ≡ reports u.run ++ told
        → shown ≡ first ++ map (λ (report : Report). report.facts) told
        → IsTidy x → is_racing x.kept.phase ≡ false → Counts x new
        → (names_of x.run ≡ names_of w.run → new.lan.names ≡ names_of w.run)
        → IsLeft w x new shown
    left-at x told is since kept tidy apart tally named =
        let more_so : ShowsMore u x = subst (λ (y : World). ShowsMore u y) is shows-more in
        let names_x : names_of x.run ≡ names_of w.run =
        more_so.names ∙ names-after w workers lines now ran has all false v at steady es part out_of
        chances-are in
        let names = named names_x in
        let told_is : told ≡ reports_with (names_of u.run) more_so.more =
        same-rest (reports u.run) told (reports_with (names_of u.run) more_so.more)
        (sym since ∙ more_so.shows) in
        let facts : map (λ (report : Report). report.facts) told ≡ more_so.more =
        ap (λ (l : List Report). map (λ (report : Report). report.facts) l) told_is
        ∙ facts-with (names_of u.run) more_so.more in
        let shown_is : shown ≡ first ++ more_so.more =
        kept ∙ ap (λ (l : List (List Fact)). first ++ l) facts in
        let names_u : new.lan.names ≡ names_of u.run = names ∙ sym (names-after w workers lines now
        ran has all false v at steady es part out_of chances-are) in record {
          tidy = tidy;
          raced = more_so.raced ∙ at.raced;
          apart = apart;
          counts = tally;
          shows = more_so.shows
              ∙ ap (λ (l : List Report). l ++ reports_with (names_of u.run) more_so.more)
              (reports-are w workers lines now ran has all false v at steady laws old mid es frames
              first merged is_old (more ++ rest) refl new.lan.names names)
              ∙ append_assoc (reports w.run) (reports_with new.lan.names first)
              (reports_with (names_of u.run) more_so.more)
              ∙ ap (λ (n : List (List ℕ)). reports w.run
              ++ (reports_with new.lan.names first ++ reports_with n more_so.more)) (sym names_u)
              ∙ ap (λ (l : List Report). reports w.run ++ l)
              (sym (map-append (λ (facts : List Fact).
              record { names = new.lan.names; facts = facts }) first more_so.more))
              ∙ ap (λ (s : List (List Fact)). reports w.run ++ reports_with new.lan.names s)
              (sym shown_is);
        }

    kept-shown : (x : World) (told : WasTold KeepsReport u x first shown)
        → shown ≡ first ++ map (λ (report : Report). report.facts) told.told
    kept-shown x told = kept-told first told.told shown told.by_one

    -- emissions that were done
    done-so : (x : World) → perform (times count (happen Emit)) u ≡ Goes x
        → IsReached (StandsSince (mark_of w has.begun)) x new
        → WasTold KeepsReport u x first shown → is_racing x.kept.phase ≡ false → IsLeft w x new shown
    done-so x goes reached told apart =
        left-at x told.told (ap (λ (o : Course). world_of o) goes) told.since (kept-shown x told)
        reached.tidy apart reached.stands.stands.tally (λ same. reached.stands.stands.lan.names ∙ same)

    -- emissions that ended early
    ended-so : (x : World) (halt : Halt) → perform (times count (happen Emit)) u ≡ Stops x halt
        → IsTidy x → LeavesAt (mark_of w has.begun) halt x new → WasTold KeepsReport u x first shown
        → is_racing x.kept.phase ≡ false → IsLeft w x new shown
    ended-so x halt stops tidy leaves told apart =
        left-at x told.told (ap (λ (o : Course). world_of o) stops) told.since (kept-shown x told)
        tidy apart (leaves-counts (mark_of w has.begun) halt x new leaves)
        (λ same. leaves-names (mark_of w has.begun) halt x new leaves ∙ same)

no-memory : (w : World) (IsOn IsBegin : World → Type 0) (old new : List (List Fact)) (value : Stage) (halt : Halt)
    → (halt ≡ halts.Memory → ⊥)
    → WasCut Counts KeepsReport KeepsNoMore w IsOn IsBegin old (moment value new) halt → ⊥
no-memory w IsOn IsBegin old new value halt some cut = some (memory cut.cause) where
  memory : ((halt ≡ halts.Memory) × WasToldTo KeepsReport w cut.world IsBegin old new)
      ⊎ WasBroken KeepsReport KeepsNoMore w cut.world old new halt → halt ≡ halts.Memory
  memory (inl both) = both.0
  memory (inr broken) = broken-memory w cut.world old new halt broken

-- how emissions end, of which this is known
module _ (mark : Mark) (w u : World) (later : List Chance) (emit : Act) (new : Stage)
    (first shown : List (List Fact)) (apart : is_racing u.kept.phase ≡ false)
    (done : (x : World) → perform emit u ≡ Goes x → IsReached (StandsSince mark) x new
    → WasTold KeepsReport u x first shown → is_racing x.kept.phase ≡ false → IsLeft w x new shown)
    (ended : (x : World) (halt : Halt) → perform emit u ≡ Stops x halt → IsTidy x → LeavesAt mark halt x new
    → WasTold KeepsReport u x first shown → is_racing x.kept.phase ≡ false
    → IsLeft w x new shown) where
  -- where control performed all its lines
  all-lines : (out : Course) (c : Result (Unit {0}) Halt) → (c ≡ Err halts.Memory → ⊥)
      → Ends (stages_since mark) KeepsReport KeepsNoMore u later emit first
      (moment new shown) c
      → out ≡ perform emit u → Leaves w later out new shown c
  all-lines out (Ok tt) some h is = (
    h.0,
    is ∙ h.1,
    done h.0 h.1 h.2 h.3 (h.5 ∙ apart),
    h.2.stands.stands,
    h.4,
  )
  all-lines out (Err halt) some (inl h) is = (
    h.world,
    is ∙ h.stops,
    ended h.world halt h.stops h.tidy h.leaves h.told (h.same ∙ apart),
    h.left,
  )
  all-lines out (Err halt) some (inr h) is = absurd
      (no-memory u _ _ first shown new halt (λ m. some (ap (λ (e : Halt). Err e) m)) h)

  -- where one of them was refused
  some-lines : (out : Course) (halt : Halt) (c : Result (Unit {0}) Halt)
      → (c ≡ Err halts.Memory → ⊥)
      → Ends (stages_since mark) KeepsReport KeepsNoMore u later emit first
      (moment new shown) c
      → out ≡ ends_with halt (perform emit u) → Leaves w later out new shown (Err halt)
  some-lines out halt (Ok tt) some h is = (
    h.0,
    is ∙ ap (λ (o : Course). ends_with halt o) h.1,
    done h.0 h.1 h.2 h.3 (h.5 ∙ apart),
    ap (λ (c : List Chance). behind_numbers c) h.4,
  )
  some-lines out halt (Err other) some (inl h) is = (
    h.world,
    is ∙ ap (λ (o : Course). ends_with halt o) h.stops,
    ended h.world other h.stops h.tidy h.leaves h.told (h.same ∙ apart),
    h.left,
  )
  some-lines out halt (Err other) some (inr h) is = absurd
      (no-memory u _ _ first shown new other (λ m. some (ap (λ (e : Halt). Err e) m)) h)

-- what control did and the emissions behind it
pub weaves-emitted : (ran : Ran) (old mid set new : Stage) (es : List Event)
    (frames : List Protected) (count : ℕ) (first shown : List (List Fact))
    (result : Result (Unit {0}) Halt) → RaceLaws → GoingLaws → (result ≡ Err halts.Memory → ⊥)
    → has_stopped ran.came ≡ false → IsMerged ran old mid es frames first
    → WereEmitted mid set new frames count first shown result
    → Weaves ran old new (Ok (shown, result_and ran.came result))
weaves-emitted ran old mid set new es frames count first shown result laws going some goes_on merged
    emitted = record {
      chances = Woven (claims_from es) ∷ emitted.did.chances;
      leaves = λ w later workers lines now has left is_old.
          by w later workers lines now has is_old ran.came goes_on
          (control-ends w workers lines now ran has
          (Woven (claims_from es) ∷ (emitted.did.chances ++ later)) left);
    }
  where
    by : (w : World) (later : List Chance) (workers : List Worker) (lines : List Numbered)
        (now : Stage) (has : HasRun w workers lines now ran)
        → old ≡ record now { line = w.kept.line; tally = counts (facts_of w.run) }
        → (c : Result (Unit {0}) Halt) → has_stopped c ≡ false
        → Ends (stages_since (mark_of w has.begun))
        KeepsReport KeepsNoMore (begun_race workers w)
        (Woven (claims_from es) ∷ (emitted.did.chances ++ later))
        (control_act lines) []
        (moment has.beside.moved ran.kept) c
        → Leaves w later (perform (race_act workers (control_act lines)) w) new shown
        (result_and c result)
        × WasWoven w workers lines has.first.words new.words
    by w later workers lines now has is_old (Ok tt) goes ends =
        let more = emitted.did.chances in
        let all = Woven (claims_from es) ∷ (more ++ later) in
        let out = steered-ok w has.begun has.beside.moved ran.steps.items ran.kept all
        has.beside.steps workers (control_act lines) ends in
        let v = out.0 in
        let at = out.2 in
        let steady = steady-at w workers lines now ran has all v (Goes v) out.1 refl in
        let u = after_race workers w v in (
          all-lines (mark_of w has.begun) w u later (times count (happen Emit)) new first
              shown refl
              (done-so w workers lines now ran has more later v old mid es frames first at steady laws going
              merged is_old set new count shown result emitted)
              (ended-so w workers lines now ran has more later v old mid es frames first at steady laws going
              merged is_old set new count shown result emitted)
              (perform (race_act workers (control_act lines)) w) result some
              (emit-ends w workers lines now ran has more later v old mid es frames first at steady laws going
              merged is_old set new count shown result emitted refl)
              (ap (λ (o : Course). beside workers w o) out.1
              ∙ all-emitted w workers lines now ran has more later v old mid es frames first at steady laws
              going merged is_old set new count shown result emitted),
          woven-before w workers lines now ran has more later v old mid es frames first at steady laws
              going merged is_old set new count shown result emitted (ap (λ (o : Course). world_of o) out.1),
        )
    by w later workers lines now has is_old (Err halt) goes ends =
        let more = emitted.did.chances in
        let all = Woven (claims_from es) ∷ (more ++ later) in
        let out = steered-err w has.begun has.beside.moved ran.steps.items ran.kept all
        has.beside.steps workers (control_act lines) halt
        (λ memory. (let bad : false ≡ true = sym goes ∙ ap (λ (h : Halt). is_stop h) memory in
        cc bad)) ends in
        let v = out.0 in
        let at = subst (λ (b : Bool). IsSteered w has.begun has.beside.moved ran.steps.items ran.kept all
        b v) goes out.2 in
        let steady = steady-at w workers lines now ran has all v (Stops v halt) out.1 refl in
        let u = after_race workers w v in (
          some-lines (mark_of w has.begun) w u later (times count (happen Emit)) new first
              shown refl
              (done-so w workers lines now ran has more later v old mid es frames first at steady laws going
              merged is_old set new count shown result emitted)
              (ended-so w workers lines now ran has more later v old mid es frames first at steady laws going
              merged is_old set new count shown result emitted)
              (perform (race_act workers (control_act lines)) w) halt result some
              (emit-ends w workers lines now ran has more later v old mid es frames first at steady laws going
              merged is_old set new count shown result emitted refl)
              (ap (λ (o : Course). beside workers w o) out.1
              ∙ ap (λ (b : Bool). ends_with halt (cond b (Goes u) (emitting_all v u))) goes
              ∙ ap (λ (o : Course). ends_with halt o)
              (all-emitted w workers lines now ran has more later v old mid es frames first at steady laws
              going merged is_old set new count shown result emitted)),
          woven-before w workers lines now ran has more later v old mid es frames first at steady laws
              going merged is_old set new count shown result emitted (ap (λ (o : Course). world_of o) out.1),
        )
