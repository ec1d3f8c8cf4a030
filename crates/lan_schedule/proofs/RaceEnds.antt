-- What is known once control and the workers stand in one run, by what calls and laws gave.
use Rattle.std.proofs.Common.{◌≡◌, ℕ, Bool, true, false, cond, List, [], ◌∷◌, ◌++◌, map, refl, sym}
use Rattle.std.proofs.Common.{ap, ◌∙◌, subst}
use Rattle.std.specs.Prelude.{Result, Ok, Err}
use Rattle.std.specs.declared.alloc.AllocError.{AllocError}
use Rattle.lan_base.specs.declared.frame.Protected.{Protected}
use Rattle.data_workers.specs.declared.entry.Entry.{Entry}
use Rattle.lan_core.specs.declared.event.Event.{Event}
use Rattle.lan_core.specs.declared.fact.Fact.{Fact}
use Rattle.lan_core.specs.Run.{Happening, facts_of}
use Rattle.lan_core.proofs.Public.{stands-more}
use Rattle.fact_tally.specs.Summary.{counts}
use Rattle.worker_races.specs.merge.Taking.{frames_of}
use Rattle.association_slots.specs.Views.{ControlAt}
use Rattle.worker_races.specs.Beside.{Race, WereBeside, part_in}
use Rattle.trace_acts.specs.declared.halt.Halt.{Halt}
use Rattle.trace_acts.specs.declared.halt.Halt.TheVariants as halts
use Rattle.trace_acts.specs.Names.{names_of}
use Rattle.lan_schedule.specs.declared.race.Ran.{Ran}
use Rattle.lan_schedule.specs.declared.stage.Stage.{Stage}
use Rattle.lan_schedule.specs.Races.{Chance, Numbered, Woven, Worker, behind_numbers}
use Rattle.lan_schedule.specs.Races.{behind_woven, woven_in}
use Rattle.lan_schedule.specs.World.{World, settings}
use Rattle.lan_schedule.specs.Acts.{Course, Goes, Stops, after_race, begun_race, beside}
use Rattle.lan_schedule.specs.Acts.{emitting_all, ends_with, is_stop, perform, race as race_act}
use Rattle.lan_schedule.specs.Acts.{world_of}
use Rattle.lan_schedule.specs.Lines.{control_act}
use Rattle.lan_schedule.specs.Reports.{reports}
use Rattle.lan_schedule.specs.Ends.{Ends, moment}
use Rattle.lan_schedule.specs.Woven.{WasWoven, controlled_in}
use Rattle.lan_schedule.specs.inside.Beside.{HasRun, IsLeft, Leaves, Weaves, has_stopped, is_memory}
use Rattle.lan_schedule.specs.inside.Beside.{mark_of}
use Rattle.lan_schedule.specs.inside.Comes.{IsSteady}
use Rattle.lan_schedule.specs.inside.Recording.{stages_since}
use Rattle.lan_schedule.specs.inside.Weaves.{KeepsNoMore, KeepsReport, facts_in, reports_with, shown_in}
use Rattle.lan_schedule.proofs.PartReports.{facts_by}
use Rattle.lan_schedule.proofs.RaceOf.{on-run, race, were-beside}
use Rattle.lan_schedule.proofs.RacePart.{AreMerged, IsPart, RaceLaws, behind-behind, claims_from}
use Rattle.lan_schedule.proofs.RacePart.{race-part, woven-behind}
use Rattle.lan_schedule.proofs.RaceWoven.{after-run, facts-after, names-on}
use Rattle.lan_schedule.proofs.RaceWoven.{reports-after, shown-after, tidy-after}
use Rattle.lan_schedule.proofs.Steered.{IsSteered, steered-err}

-- ---- want of memory

pub weaves-nothing : (ran : Ran) (old new : Stage) (e : AllocError) → Weaves ran old new (Err e)
weaves-nothing ran old new e = record {
  chances = [];
  leaves = λ w later workers lines now has left is_old. tt;
}

-- ---- control's outcome

-- what control and the workers did stands in one run
pub record IsMerged (ran : Ran) (old new : Stage) (es : List Event) (frames : List Protected)
    (shown : List (List Fact)) : Type 0 where
  pub merged : AreMerged ran.steps.items ran.logs.items es
  pub frames_are : frames ≡ frames_of es ran.logs.items
  pub shown_is : shown ≡ shown_in es ran.kept frames
  pub counted : (before : List Fact) → old.tally ≡ counts before
      → new.tally ≡ counts (facts_in before (shown_in es ran.kept frames))
  pub same : new ≡ record old { tally = new.tally }

module _ (w : World) (workers : List Worker) (lines : List Numbered) (now : Stage) (ran : Ran)
    (has : HasRun w workers lines now ran) (later : List Chance) where
  begun : World
  begun = begun_race workers w

  -- control's course, as it ended
  pub control-ends : w.kept.chances ≡ has.beside.did.chances ++ later
      → Ends (stages_since (mark_of w has.begun))
      KeepsReport KeepsNoMore (begun_race workers w) later
      (control_act lines) []
      (moment has.beside.moved ran.kept) ran.came
  control-ends left = has.beside.did.ends (mark_of w has.begun) (begun_race workers w) later left
      (record { stands = has.hired.stands; tidy = has.hired.tidy }) has.comes.1

  pub steady-at : (v : World) (out : Course)
      → perform (control_act lines) (begun_race workers w) ≡ out → world_of out ≡ v
      → IsSteady (begun_race workers w) v
  steady-at v out is at = subst (λ (x : World). IsSteady (begun_race workers w) x)
      (ap (λ (o : Course). world_of o) is ∙ at) has.comes.2

  -- ---- one run

  module _ (stopped : Bool) (v : World)
      (at : IsSteered w has.begun has.beside.moved ran.steps.items ran.kept later stopped v)
      (steady : IsSteady (begun_race workers w) v) (laws : RaceLaws) (old mid : Stage)
      (es : List Event) (frames : List Protected) (shown : List (List Fact))
      (merged : IsMerged ran old mid es frames shown)
      (is_old : old ≡ record now { line = w.kept.line; tally = counts (facts_of w.run) })
      (rest : List Chance) (left : later ≡ Woven (claims_from es) ∷ rest) where
    abbrev r : Race
    r = race w workers lines now ran has later stopped v at steady

    abbrev u : World
    u = after_race workers w v

    beside-is : WereBeside r
    beside-is = were-beside w workers lines now ran has later stopped v at steady

    pub given : IsPart r es (part_in r)
    given = race-part r beside-is es has.first.lan
        (stands-more (settings w) w.kept.users (map (λ (worker : Worker). worker.user) workers)
        has.first.lan w.run has.reached.stands.lan) laws
        (subst (λ (logs : List (List Entry)). AreMerged ran.steps.items logs es) has.beside.logs
        merged.merged)

    abbrev part : List Happening
    part = part_in r

    left-behind : behind_numbers v.kept.chances ≡ Woven (claims_from es) ∷ rest
    left-behind = at.left ∙ ap (λ (c : List Chance). behind_numbers c) left

    chances-are : woven_in v.kept.chances ≡ claims_from es
    chances-are = woven-behind v.kept.chances ∙ ap (λ (c : List Chance). woven_in c) left-behind

    pub left-after : u.kept.chances ≡ rest
    left-after = behind-behind v.kept.chances ∙ ap (λ (c : List Chance). behind_woven c) left-behind

    pub shown-is : shown ≡ facts_by part
    shown-is = merged.shown_is ∙ shown-after w workers lines now ran has later stopped v at steady es
        part given chances-are frames merged.frames_are

    pub tally-is : mid.tally ≡ counts (facts_of u.run)
    tally-is = merged.counted (facts_of w.run) (ap (λ (s : Stage). s.tally) is_old)
        ∙ ap (λ (facts : List Fact). counts facts)
        (facts-after w workers lines now ran has later stopped v at steady es part given chances-are
        (shown_in es ran.kept frames)
        (shown-after w workers lines now ran has later stopped v at steady es part given chances-are
        frames merged.frames_are))

    pub names-mid : mid.lan.names ≡ names_of w.run
    names-mid = ap (λ (s : Stage). s.lan.names) merged.same
        ∙ ap (λ (s : Stage). s.lan.names) is_old
        ∙ ap (λ (s : Stage). s.lan.names) has.beside.same ∙ at.names
        ∙ names-on w workers lines now ran has later stopped v at steady es part given chances-are

    pub reports-are : (names : List (List ℕ)) → names ≡ names_of w.run
        → reports u.run ≡ reports w.run ++ reports_with names shown
    reports-are names is =
        reports-after w workers lines now ran has later stopped v at steady es part given chances-are
        ∙ ap (λ (n : List (List ℕ)). reports w.run ++ reports_with n (facts_by part)) (sym is)
        ∙ ap (λ (s : List (List Fact)). reports w.run ++ reports_with names s) (sym shown-is)

    -- a race of threads is woven so
    module _ (came : controlled_in w workers lines ≡ v) where
      pub woven-so : (new : Stage) → new.words ≡ now.words
          → WasWoven w workers lines has.first.words new.words
      woven-so new words = subst (λ (cs : List ControlAt). WasWoven w workers lines has.first.words cs)
          (sym words) (record {
            race = r;
            race_of = record {
              settings = refl;
              run = refl;
              users = refl;
              base = refl;
              workers = has.hired.are;
              control = sym (on-run w workers lines now ran has later stopped v at steady)
                  ∙ ap (λ (x : World). x.run) (sym came);
              before = refl;
              after = refl;
            };
            beside = beside-is;
            woven = given.woven;
            run = ap (λ (x : World). (after_race workers w x).run) came
                ∙ after-run w workers lines now ran has later stopped v at steady es part given chances-are;
          })

    pub words-mid : mid.words ≡ now.words
    words-mid = ap (λ (s : Stage). s.words) merged.same ∙ ap (λ (s : Stage). s.words) is_old

    -- where the group stopped, this is all
    pub left-so : IsLeft w u mid shown
    left-so = record {
      tidy = tidy-after w workers lines now ran has later stopped v at steady es part given
          chances-are;
      raced = at.raced;
      apart = refl;
      counts = tally-is;
      shows = reports-are mid.lan.names names-mid;
    }

-- a stop of the group
pub weaves-stopped : (ran : Ran) (old new : Stage) (es : List Event) (frames : List Protected)
    (shown : List (List Fact)) → RaceLaws → (ran.came ≡ Err halts.Memory → ⊥)
    → has_stopped ran.came ≡ true → IsMerged ran old new es frames shown
    → Weaves ran old new (Ok (shown, ran.came))
weaves-stopped ran old new es frames shown laws some stopped merged = record {
  chances = Woven (claims_from es) ∷ [];
  leaves = λ w later workers lines now has left is_old.
      by w later workers lines now has is_old ran.came stopped some
      (control-ends w workers lines now ran has (Woven (claims_from es) ∷ later) left);
} where
  by : (w : World) (later : List Chance) (workers : List Worker) (lines : List Numbered)
      (now : Stage) (has : HasRun w workers lines now ran)
      → old ≡ record now { line = w.kept.line; tally = counts (facts_of w.run) }
      → (c : Result (Unit {0}) Halt) → has_stopped c ≡ true → (c ≡ Err halts.Memory → ⊥)
      → Ends (stages_since (mark_of w has.begun))
      KeepsReport KeepsNoMore (begun_race workers w) (Woven (claims_from es) ∷ later)
      (control_act lines) []
      (moment has.beside.moved ran.kept) c
      → Leaves w later (perform (race_act workers (control_act lines)) w) new shown c
      × WasWoven w workers lines has.first.words new.words
  by w later workers lines now has is_old (Ok done) stop some ends = absurd (cc stop)
  by w later workers lines now has is_old (Err halt) stop some ends =
      let all = Woven (claims_from es) ∷ later in
      let out = steered-err w has.begun has.beside.moved ran.steps.items ran.kept all
      has.beside.steps workers (control_act lines) halt
      (λ memory. some (ap (λ (h : Halt). Err h) memory)) ends in
      let v = out.0 in
      let steady = steady-at w workers lines now ran has all v (Stops v halt) out.1 refl in
      let u = after_race workers w v in (
        (
          u,
          ap (λ (o : Course). beside workers w o) out.1
              ∙ ap (λ (b : Bool). ends_with halt (cond b (Goes u) (emitting_all v u))) stop,
          left-so w workers lines now ran has all (is_stop halt) v out.2 steady laws old new es frames
              shown merged is_old later refl,
          ap (λ (c : List Chance). behind_numbers c)
              (left-after w workers lines now ran has all (is_stop halt) v out.2 steady laws old new es
              frames shown merged is_old later refl),
        ),
        woven-so w workers lines now ran has all (is_stop halt) v out.2 steady laws old new es frames
            shown merged is_old later refl (ap (λ (o : Course). world_of o) out.1) new
            (words-mid w workers lines now ran has all (is_stop halt) v out.2 steady laws old new es
            frames shown merged is_old later refl),
      )

-- what was no want of memory
pub some-memory : (c : Result (Unit {0}) Halt) → is_memory c ≡ false → c ≡ Err halts.Memory → ⊥
some-memory c some is = let bad : true ≡ false = sym (ap (λ (r : Result (Unit {0}) Halt). is_memory r) is)
    ∙ some in cc bad
