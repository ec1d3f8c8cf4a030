use Rattle.std.proofs.Common.{List, sym, ◌∙◌, subst}
use Rattle.std.specs.Prelude.{All}
use Rattle.atomic_table.specs.Seated.{TableId}
use Rattle.data_workers.specs.Workers.{HasTable}
use Rattle.lan_schedule.specs.Lines.{air_excess}
use Rattle.lan_schedule.specs.Races.{workers_of}
use Rattle.lan_schedule.proofs.SeatsBack.{all-back-in}
use Rattle.lan_schedule.proofs.Hiring.{enlisted, exceeds-none}
use Rattle.lan_schedule.proofs.Numbering.{air-unhired, none-exceeds, ok-of, unlisted-unhired}
use Rattle.lan_schedule.proofs.stage.Stage.crew.Goals as goal

pub returns-clause-hired : goal.returns-clause-hired
returns-clause-hired c = λ w reached seats. (
  enlisted w (workers_of c.args.bursts.now) c.args.self.now c.enlist.new.self
      c.enlist.new.workers.items c.law_words_that_tell_keep_up.ensures.kept_up
      c.law_caught_up_words_keep_up.ensures reached (ok-of c.enlist.result c.in_default-enlist.not-Err (c.enlist.ensures.enlisted seats)),
  none-exceeds w c.args.bursts.now c.args.self.now c.enlist.new.self c.enlist.new.workers.items
      reached.stands (exceeds-none c.excess.result (air_excess c.args.bursts.now w)
      c.in_default.not-Some (c.excess.ensures w reached)) (ok-of c.enlist.result c.in_default-enlist.not-Err (c.enlist.ensures.enlisted seats)),
)

pub returns-clause-ready : goal.returns-clause-ready
returns-clause-ready c =
    let same = c.in_ok-handles.ensures ∙ sym c.enlist.ensures.tables in record {
      handles = same;
      tables = subst (λ (ts : List TableId). All (HasTable ts) c.enlist.new.workers.items) (sym same)
          c.enlist.ensures.room.tables;
      empty = c.enlist.ensures.room.empty;
      room = c.enlist.ensures.room.room;
      fresh = c.enlist.ensures.fresh;
    }

pub returns-in-Err-clause-seats : goal.returns-in-Err-clause-seats
returns-in-Err-clause-seats c =
    all-back-in _ c.args.self.now.words c.enlist.new.self.words c.dismiss.new.self.words
    c.enlist.ensures.seats c.dismiss.ensures.joined

pub returns-in-Some-clause-unhired : goal.returns-in-Some-clause-unhired
returns-in-Some-clause-unhired c = λ w control reached seats.
    air-unhired w c.args.bursts.now control c.in-Some.which
    (sym c.in-Some.is ∙ c.excess.ensures w reached)

pub returns-in-Err-clause-unhired : goal.returns-in-Err-clause-unhired
returns-in-Err-clause-unhired c = λ w control reached seats.
    unlisted-unhired w c.args.bursts.now control c.args.self.now c.in-Err.halt reached.stands
    (exceeds-none c.excess.result (air_excess c.args.bursts.now w) c.in_default.not-Some
    (c.excess.ensures w reached)) (c.in-Err.ensures.unlisted seats)
