use Rattle.std.proofs.Common.{Bool, true, false, List, inr, refl, sym, ap, ◌∙◌, subst}
use Rattle.association_slots.specs.Views.{ControlAt}
use Rattle.station_words.specs.Ties.{tables_of}
use Rattle.data_workers.specs.Workers.{WorkerAt}
use Rattle.lan_schedule.specs.Races.{workers_of}
use Rattle.lan_schedule.specs.inside.Beside.{BeginsRace, OutFor}
use Rattle.lan_schedule.proofs.Hiring.{begins-same}
use Rattle.lan_schedule.proofs.Numbering.{moved-over}
use Rattle.lan_schedule.proofs.stage.Stage.enlist.Goals as goal

pub returns-clause-enlisted : goal.returns-clause-enlisted
returns-clause-enlisted c = λ seats. record {
  mid = c.hire_all.new.self;
  hired = c.in_ok-hire_all.ensures.hired seats;
  moved = c.hire_all.ensures.moved;
  begins = subst (λ (ws : List WorkerAt). BeginsRace ws c.hire_all.new.self c.begin_race.new.self true)
      c.deref.ensures.value
      (subst (λ (b : Bool). BeginsRace c.deref.result.now c.hire_all.new.self c.begin_race.new.self b)
      c.if-not-begin_race.false c.begin_race.ensures);
}

pub returns-then-not-begin_race-clause-unlisted : goal.returns-then-not-begin_race-clause-unlisted
returns-then-not-begin_race-clause-unlisted c = λ seats.
    let begins = subst (λ (ws : List WorkerAt).
    BeginsRace ws c.hire_all.new.self c.begin_race.new.self false) c.deref.ensures.value
    (subst (λ (b : Bool). BeginsRace c.deref.result.now c.hire_all.new.self c.begin_race.new.self b)
    c.if-not-begin_race.true c.begin_race.ensures) in
    inr (
      refl,
      moved-over c.args.self.now c.hire_all.new.self _ (workers_of c.args.bursts.now)
          (c.in_ok-hire_all.ensures.hired seats).are c.hire_all.ensures.moved begins.1,
    )

pub returns-clause-seats : goal.returns-clause-seats
returns-clause-seats c =
    subst (λ (cs : List ControlAt). OutFor c.hire_all.new.workers.items c.args.self.now.words cs)
    (sym (begins-same c.deref.result.now c.hire_all.new.self c.begin_race.new.self c.begin_race.result
    c.begin_race.ensures).0) c.hire_all.ensures.seats

pub returns-then-not-begin_race-clause-seats : goal.returns-then-not-begin_race-clause-seats
returns-then-not-begin_race-clause-seats c =
    subst (λ (cs : List ControlAt). OutFor c.hire_all.new.workers.items c.args.self.now.words cs)
    (sym (begins-same c.deref.result.now c.hire_all.new.self c.begin_race.new.self c.begin_race.result
    c.begin_race.ensures).0) c.hire_all.ensures.seats

pub returns-clause-tables : goal.returns-clause-tables
returns-clause-tables c =
    ap tables_of (begins-same c.deref.result.now c.hire_all.new.self c.begin_race.new.self
    c.begin_race.result c.begin_race.ensures).0 ∙ c.hire_all.ensures.moved.tables
