-- What control did beside workers, wherever it came to: but for want of memory it is known.
use Rattle.std.proofs.Common.{◌≡◌, Bool, true, false, List, [], ◌∷◌, ◌++◌, map, refl, sym, ap, ◌∙◌}
use Rattle.std.proofs.Common.{subst, inl, inr, append_assoc, append-nil}
use Rattle.std.specs.Prelude.{◌⊎◌, Option, Some, None, is_some, option_map, Ok, Err}
use Rattle.association_slots.specs.Views.{ControlAt}
use Rattle.lan_core.specs.declared.fact.Fact.{Fact}
use Rattle.worker_races.specs.declared.merge.step.Step.{Step}
use Rattle.station_words.specs.Ties.{HaveKeptUp, HaveLooked}
use Rattle.station_words.proofs.Public.{looked-none}
use Rattle.trace_acts.specs.declared.halt.Halt.{Halt}
use Rattle.trace_acts.specs.declared.halt.Halt.TheVariants as halts
use Rattle.trace_acts.specs.Names.{names_of}
use Rattle.trace_acts.specs.Halts.{halt_of_unwritten}
use Rattle.lan_schedule.specs.declared.stage.Stage.{Stage}
use Rattle.lan_schedule.specs.Races.{Chance, Worker, behind_numbers}
use Rattle.lan_schedule.specs.World.{World, is_racing, settings}
use Rattle.lan_schedule.specs.Acts.{Act, BeginsAt, Goes, Stops, begun_race, is_stop, perform}
use Rattle.lan_schedule.specs.Reports.{AreTold, Report, reports}
use Rattle.lan_schedule.specs.Ends.{Ends, WasBroken, WasTold, WasToldTo, moment}
use Rattle.lan_schedule.specs.Sound.{IsTidy}
use Rattle.lan_schedule.specs.Stages.{Says, StandsFor}
use Rattle.lan_schedule.specs.inside.Beside.{mark_of}
use Rattle.lan_schedule.specs.inside.Recording.{HasLooked, HasRecorded, HasStopped, IsRecorded, stages_since}
use Rattle.lan_schedule.specs.inside.Recording.{LeavesBy, StandsSince, steps_of}
use Rattle.lan_schedule.specs.inside.Weaves.{KeepsNoMore, KeepsReport}

-- ---- what was kept of reports

-- reports that were kept one after the other
pub kept-told : (old : List (List Fact)) (told : List Report) (new : List (List Fact))
    → AreTold KeepsReport old told new
    → new ≡ old ++ map (λ (report : Report). report.facts) told
kept-told old [] new are = sym are ∙ sym (append-nil old)
kept-told old (report ∷ told) new are =
    kept-told are.0 told new are.2
    ∙ ap (λ (l : List (List Fact)). l ++ map (λ (report : Report). report.facts) told) are.1
    ∙ append_assoc old (report.facts ∷ []) (map (λ (report : Report). report.facts) told)

-- keeping breaks for want of memory alone
pub broken-memory : (w v : World) (old new : List (List Fact)) (halt : Halt)
    → WasBroken KeepsReport KeepsNoMore w v old new halt → halt ≡ halts.Memory
broken-memory w v old new halt broken =
    broken.is ∙ ap (λ why. halt_of_unwritten why) broken.breaks

-- ---- where control came to

-- The world that control came to: what it performed is kept up to it, and the words kept up with that.
-- A stop may have looked at them once more; else the group at work stands for the world.
pub record IsSteered (w : World) (begun moved : Stage) (steps : List Step) (kept : List (List Fact))
    (later : List Chance) (stopped : Bool) (v : World) : Type 0 where
  pub tidy : IsTidy v
  pub raced : v.kept.raced ≡ true
  pub racing : is_racing v.kept.phase ≡ true
  pub words : List ControlAt
  pub recorded : IsRecorded (mark_of w begun) (settings v) v.kept.users v.run words steps
  pub kept_up : HaveKeptUp (settings v) v.run words
  pub looked : HaveLooked words moved.words
  pub still : stopped ≡ false → moved.words ≡ words
  pub stands : stopped ≡ false → StandsFor v moved
  pub names : moved.lan.names ≡ names_of v.run
  pub told : List Report
  pub since : reports v.run ≡ reports w.run ++ told
  pub shows : kept ≡ map (λ (report : Report). report.facts) told
  pub left : behind_numbers v.kept.chances ≡ behind_numbers later

same-some : {X Y : Type 0} (f : X → Y) (o : Option X) → is_some (option_map f o) ≡ is_some o
same-some f None = refl
same-some f (Some x) = refl

module _ (w : World) (begun moved : Stage) (steps : List Step) (kept : List (List Fact))
    (later : List Chance)
    (taken : (all : List Step) → steps_of moved ≡ Some all → steps ≡ all) where
  -- in the midst of a race steps are kept
  all-steps : (v : World) → is_some moved.steps ≡ is_racing v.kept.phase
      → is_racing v.kept.phase ≡ true → steps_of moved ≡ Some steps
  all-steps v is racing = by (steps_of moved)
      (same-some (λ steps. steps.items) moved.steps ∙ is ∙ racing) taken where
        by : (o : Option (List Step)) → is_some o ≡ true
            → ((all : List Step) → o ≡ Some all → steps ≡ all) → o ≡ Some steps
        by None some f = absurd (cc some)
        by (Some all) some f = ap (λ (l : List Step). Some l) (sym (f all refl))

  told-kept : (v : World) (told : WasTold KeepsReport w v [] kept)
      → kept ≡ map (λ (report : Report). report.facts) told.told
  told-kept v told = kept-told [] told.told kept told.by_one

  -- where the group goes on
  goes-on : (v : World) → IsTidy v → is_racing v.kept.phase ≡ true
      → StandsSince (mark_of w begun) v moved → WasTold KeepsReport w v [] kept
      → behind_numbers v.kept.chances ≡ behind_numbers later
      → IsSteered w begun moved steps kept later false v
  goes-on v tidy racing since told left =
      let stands = since.stands in
      let all = all-steps v stands.steps racing in
      let recorded : HasRecorded (mark_of w begun) v moved.words (Some steps) =
      subst (λ (o : Option (List Step)). HasRecorded (mark_of w begun) v moved.words o) all
      since.recorded in
      record {
        tidy = tidy;
        raced = recorded.0;
        racing = racing;
        words = moved.words;
        recorded = recorded.1;
        kept_up = subst (λ (b : Bool). Says b true (settings v) v.run moved.words) recorded.0
            (subst (λ (b : Bool). Says v.kept.raced b (settings v) v.run moved.words) racing
            stands.words);
        looked = looked-none moved.words;
        still = λ goes. refl;
        stands = λ goes. stands;
        names = stands.lan.names;
        told = told.told;
        since = told.since;
        shows = told-kept v told;
        left = left;
      }

  -- where it stopped
  has-stopped : (v : World) → IsTidy v → is_racing v.kept.phase ≡ true
      → HasStopped (mark_of w begun) v moved → WasTold KeepsReport w v [] kept
      → behind_numbers v.kept.chances ≡ behind_numbers later
      → IsSteered w begun moved steps kept later true v
  has-stopped v tidy racing has told left =
      let all = all-steps v has.steps racing in
      let looked : HasLooked (mark_of w begun) v moved.words (Some steps) =
      subst (λ (o : Option (List Step)). HasLooked (mark_of w begun) v moved.words o) all
      has.looked in
      record {
        tidy = tidy;
        raced = looked.0;
        racing = racing;
        words = looked.1;
        recorded = looked.2;
        kept_up = looked.3;
        looked = looked.4;
        still = λ goes. absurd (cc goes);
        stands = λ goes. absurd (cc goes);
        names = has.names;
        told = told.told;
        since = told.since;
        shows = told-kept v told;
        left = left;
      }

  leaves-so : (stop : Bool) (v : World) → IsTidy v → is_racing v.kept.phase ≡ true
      → LeavesBy stop (mark_of w begun) v moved → WasTold KeepsReport w v [] kept
      → behind_numbers v.kept.chances ≡ behind_numbers later
      → IsSteered w begun moved steps kept later stop v
  leaves-so true v tidy racing leaves told left = has-stopped v tidy racing leaves told left
  leaves-so false v tidy racing leaves told left = goes-on v tidy racing leaves told left

  module _ (workers : List Worker) (act : Act) where
    pub steered-ok : Ends (stages_since (mark_of w begun))
        KeepsReport KeepsNoMore (begun_race workers w) later act [] (moment moved kept) (Ok tt)
        → (v : World) × (perform act (begun_race workers w) ≡ Goes v) × IsSteered w begun moved steps kept later false v
    steered-ok h = (
      h.0,
      h.1,
      goes-on h.0 h.2.tidy h.5 h.2.stands (record {
        told = h.3.told;
        since = h.3.since;
        by_one = h.3.by_one;
      }) (ap (λ (c : List Chance). behind_numbers c) h.4),
    )

    pub steered-err : (halt : Halt) → (halt ≡ halts.Memory → ⊥)
        → Ends (stages_since (mark_of w begun))
        KeepsReport KeepsNoMore (begun_race workers w) later act [] (moment moved kept) (Err halt)
        → (v : World) × (perform act (begun_race workers w) ≡ Stops v halt)
        × IsSteered w begun moved steps kept later (is_stop halt) v
    steered-err halt some (inl h) = (
      h.world,
      h.stops,
      leaves-so (is_stop halt) h.world h.tidy h.same h.leaves (record {
        told = h.told.told;
        since = h.told.since;
        by_one = h.told.by_one;
      }) h.left,
    )
    steered-err halt some (inr h) = absurd (some (memory h.cause)) where
      memory : ((halt ≡ halts.Memory)
          × WasToldTo KeepsReport (begun_race workers w) h.world (BeginsAt act (begun_race workers w)) [] kept)
          ⊎ WasBroken KeepsReport KeepsNoMore (begun_race workers w) h.world [] kept halt
          → halt ≡ halts.Memory
      memory (inl both) = both.0
      memory (inr broken) = broken-memory (begun_race workers w) h.world [] kept halt broken
