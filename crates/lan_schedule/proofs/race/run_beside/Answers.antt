use Rattle.std.proofs.Common.{◌≡◌, ◌++◌, List, None, Vec, Global, length, map, take, drop, arith, sym, ap, ◌∙◌}
use Rattle.std.proofs.Common.{subst}
use Rattle.std.specs.Prelude.{All}
use Rattle.association_slots.specs.Views.{ControlAt}
use Rattle.data_workers.specs.Workers.{AreDone, HasTable, WorkerAt}
use Rattle.lan_core.specs.declared.fact.Fact.{Fact}
use Rattle.worker_races.specs.declared.merge.step.Step.{Step}
use Rattle.station_words.specs.Ties.{tables_of}
use Rattle.worker_races.specs.Going.{HaveJoined}
use Rattle.lan_schedule.specs.declared.stage.Stage.{Stage}
use Rattle.lan_schedule.specs.inside.Beside.{Controlled}
use Rattle.lan_schedule.specs.inside.Recording.{steps_of}
use Rattle.std.proofs.lemmas.List.Elements.{recursion_from_All}
use Rattle.station_words.specs.Seats.{NoMoreOut}
use Rattle.worker_races.specs.Senders.{IsNew}
use Rattle.lan_schedule.specs.inside.Beside.{OutFor}
use Rattle.lan_schedule.proofs.SeatsBack.{all-back-in, done-out, out-still}
use Rattle.lan_schedule.proofs.RaceRuns.{all-back, done-tables, taken-all}
use Rattle.lan_schedule.proofs.race.run_beside.Goals as goal

pub dismiss-logs-requires : goal.dismiss-logs-requires
dismiss-logs-requires g c =
    let before = c.args.crew.workers.items in
    let ended = c.beside.new.workers in
    let moved = c.beside.new.control.stage in
    let done : AreDone before ended =
    subst (λ (ws : List WorkerAt). AreDone ws ended) c.as_mut_slice.ensures.value
    c.beside.ensures.workers in
    let many = done.count in
    let long = sym c.as_mut_slice.ensures.len ∙ ap length c.as_mut_slice.ensures.value in
    let back : take c.args.crew.workers.len (ended ++ drop (length ended) before) ≡ ended =
    all-back c.args.crew.workers.len ended before many long in
    record {
      tables = subst (λ (ws : List WorkerAt). All (HasTable (tables_of moved.words)) ws) (sym back)
          (done-tables c.args.crew.handles.items c.args.stage.words moved.words before ended
          c.requires.tables c.requires.handles done c.beside.ensures.control.seats);
      empty = c.requires.empty;
      room = (let same = ap length back in let room = c.requires.room in omega (arith, same, many, room));
    }

pub returns-clause-ran : goal.returns-clause-ran
returns-clause-ran g c =
    let before = c.args.crew.workers.items in
    let ended = c.beside.new.workers in
    let moved = c.beside.new.control.stage in
    let dismissed = c.dismiss-logs.new.self in
    let new = c.take_steps-steps.new.self in
    let done : AreDone before ended =
    subst (λ (ws : List WorkerAt). AreDone ws ended) c.as_mut_slice.ensures.value
    c.beside.ensures.workers in
    let long = sym c.as_mut_slice.ensures.len ∙ ap length c.as_mut_slice.ensures.value in
    let back : take c.args.crew.workers.len (ended ++ drop (length ended) before) ≡ ended =
    all-back c.args.crew.workers.len ended before done.count long in
    let words : new.words ≡ dismissed.words = ap (λ (s : Stage). s.words) c.take_steps-steps.ensures.same in
    let same = c.dismiss-logs.ensures.same in
    record {
      moved = moved;
      did = subst (λ (kept : List (List Fact)). Controlled c.args.control.items c.args.stage kept moved
          c.beside.new.control.kept c.beside.new.control.came) c.new-kept.ensures
          c.beside.ensures.control;
      ended = ended;
      done = done;
      logs = c.dismiss-logs.ensures.logs
          ∙ ap (λ (ws : List WorkerAt). map (λ (w : WorkerAt). w.log) ws) back;
      joined = λ settings r. subst (λ (cs : List ControlAt). HaveJoined settings r ended moved.words cs)
          (sym words)
          (subst (λ (ws : List WorkerAt). HaveJoined settings r ws moved.words dismissed.words) back
          (c.dismiss-logs.ensures.joined settings r));
      steps = λ all is. taken-all (λ (v : Vec Step Global). v.items) dismissed.steps
          c.take_steps-steps.result.items c.take_steps-steps.ensures.steps all
          (ap (λ (s : Stage). steps_of s) same ∙ is);
      same = c.take_steps-steps.ensures.same
          ∙ ap (λ (s : Stage). record s { steps = None }) same
          ∙ ap (λ (cs : List ControlAt). record moved { words = cs; steps = None }) (sym words);
    }

pub returns-clause-seats : goal.returns-clause-seats
returns-clause-seats g c = λ first before.
    let crew = c.args.crew.workers.items in
    let ended = c.beside.new.workers in
    let moved = c.beside.new.control.stage in
    let dismissed = c.dismiss-logs.new.self in
    let new = c.take_steps-steps.new.self in
    let done : AreDone crew ended =
    subst (λ (ws : List WorkerAt). AreDone ws ended) c.as_mut_slice.ensures.value
    c.beside.ensures.workers in
    let long = sym c.as_mut_slice.ensures.len ∙ ap length c.as_mut_slice.ensures.value in
    let back : take c.args.crew.workers.len (ended ++ drop (length ended) crew) ≡ ended =
    all-back c.args.crew.workers.len ended crew done.count long in
    let words : new.words ≡ dismissed.words = ap (λ (s : Stage). s.words) c.take_steps-steps.ensures.same in
    let out : OutFor ended first moved.words =
    done-out crew ended first moved.words done (recursion_from_All IsNew crew c.requires.fresh)
    (out-still crew first c.args.stage.words moved.words before c.beside.ensures.control.seats.out) in
    subst (λ (cs : List ControlAt). NoMoreOut first cs) (sym words)
    (all-back-in _ first moved.words dismissed.words
    (subst (λ (ws : List WorkerAt). OutFor ws first moved.words) (sym back) out)
    c.dismiss-logs.ensures.joined)
