-- A race can be run where its lines were kept: the lines of control can be performed beside workers.
use Rattle.std.proofs.Common.{◌≡◌, true, false, List, length, map, Some, None}
use Rattle.std.proofs.Common.{refl, sym, ◌∙◌}
use Rattle.std.specs.Prelude.{Option}
use Rattle.std.specs.List.{AllByRecursion}
use Rattle.lan_core.proofs.Public.{legal-more}
use Rattle.trace_acts.specs.Names.{names_of}
use Rattle.lan_schedule.specs.Races.{Burst, Excess, Numbered, Worker, workers_of}
use Rattle.lan_schedule.specs.World.{World, settings}
use Rattle.lan_schedule.specs.Acts.{begun_race, race}
use Rattle.lan_schedule.specs.Kinds.{wrong_frame}
use Rattle.lan_schedule.specs.Lines.{act, control_act, controlled, excess_of, run_race}
use Rattle.lan_schedule.specs.Lines.{at_line, unless_exceeded}
use Rattle.lan_schedule.specs.Sound.{IsTidy}
use Rattle.lan_schedule.specs.Standing.{IsControl}
use Rattle.lan_schedule.specs.inside.Comes.{Comes}
use Rattle.trace_acts.proofs.Public.{comes-each}
use Rattle.lan_schedule.proofs.Coming.{IsLater, lasts}
use Rattle.lan_schedule.proofs.LinesCome.{refused-comes, tidy-same}
use Rattle.lan_schedule.proofs.EachDeed.{act-comes, control-free, wrong-later}
use Rattle.lan_schedule.proofs.Steady.{control-steady}

-- ---- one deed of control

-- a deed of control in a world
abbrev IsReady : World → Numbered → Type 0
IsReady w kept = IsControl (names_of w.run) kept

ready-later : (w v : World) (kept : Numbered) → IsLater w v → IsReady w kept → IsReady v kept
ready-later w v kept later ready = record {
  ranges = ready.ranges;
  control = ready.control;
  stations = wrong-later kept.deed w v later ready.stations;
}

line-comes : (kept : Numbered) (v : World) → IsReady v kept → IsTidy v → Comes (controlled kept) v
line-comes kept v ready tidy = (
  tidy-same v _ tidy refl refl refl refl refl (λ e. e) (λ e. e),
  λ tidy_u. refused-comes (wrong_frame kept.deed (length v.kept.frames)) (act kept.deed)
      (at_line kept.number v)
      (λ none. act-comes kept.deed ready.ranges (at_line kept.number v) tidy_u
      (λ other. absurd (let bad : true ≡ false = sym ready.control ∙ other in cc bad)) none
      (control-free kept.deed _ _ ready.control) ready.stations),
)

-- ---- the race

pub tidy-begun : (workers : List Worker) (w : World) → IsTidy w → IsTidy (begun_race workers w)
tidy-begun workers w tidy = record {
  sound = record {
    legal = legal-more (settings w) w.kept.users (map (λ (worker : Worker). worker.user) workers)
        w.run tidy.sound.legal;
    fresh = tidy.sound.fresh;
    unforged = tidy.sound.unforged;
    thrifty = λ apart. absurd (cc apart);
  };
  within = tidy.within;
  frames = tidy.frames;
  numbered = tidy.numbered;
  in_turn = tidy.in_turn;
  few = λ calm. absurd (cc calm);
  unspent = tidy.unspent;
  waits = tidy.waits;
  draws = tidy.draws;
  dealt = tidy.dealt;
}

run-comes : (bursts : List Burst) (control : List Numbered) (w : World) → IsTidy w
    → AllByRecursion (IsControl (names_of w.run)) control → (o : Option Excess)
    → Comes (unless_exceeded o (race (workers_of bursts) (control_act control))) w
run-comes bursts control w tidy fit None =
    let begun = begun_race (workers_of bursts) w in (
      tidy-begun (workers_of bursts) w tidy,
      comes-each lasts (IsReady begun) controlled control begun (tidy-begun (workers_of bursts) w tidy)
          fit (λ kept v ready later tidy_v.
          line-comes kept v (ready-later begun v kept later ready) tidy_v),
      control-steady control begun (names_of w.run) fit,
    )
run-comes bursts control w tidy fit (Some excess) = tt

-- where its lines may be performed and name stations that there are
pub race-comes : (bursts : List Burst) (control : List Numbered) (w : World) → IsTidy w
    → AllByRecursion (IsControl (names_of w.run)) control → Comes (run_race bursts control w) w
race-comes bursts control w tidy fit = run-comes bursts control w tidy fit (excess_of bursts w)
