use Rattle.std.proofs.Common.{◌++◌, ◌∷◌, [], sym, ap, ◌∙◌, subst}
use Rattle.std.proofs.lemmas.List.{map-append}
use Rattle.association_slots.specs.Views.{SeatAt}
use Rattle.data_workers.specs.Workers.{WorkerAt}
use Rattle.station_words.specs.Seats.{HasJoined}
use Rattle.lan_schedule.specs.declared.stage.Stage.{Stage}
use Rattle.lan_schedule.proofs.Hiring.{joined-more}
use Rattle.lan_schedule.proofs.stage.Stage.dismiss.Goals as goal

pub loop-worker-preserved : goal.loop-worker-preserved
loop-worker-preserved c =
    let w = c.in-Some.worker in
    let inv = c.loop-worker.invariant in (
      c.push_reserved.ensures.items
          ∙ (λ i. inv.0 i ++ c.finish-seat.ensures.1 i ∷ [])
          ∙ sym (map-append (λ (w : WorkerAt). w.log) c.loop-worker.yielded (w ∷ [])),
      λ settings r. joined-more settings r c.loop-worker.yielded w c.args.self.now.words
          c.loop-worker.self.words c.join.new.self (inv.1 settings r)
          (subst (λ s. HasJoined s w.seat c.loop-worker.self.words c.join.new.self)
          c.station-station.ensures
          (subst (λ (seat : SeatAt). HasJoined c.station-station.result seat c.loop-worker.self.words
          c.join.new.self) c.finish-seat.ensures.0 c.join.ensures.told))
          (c.join.ensures.keeps_up settings r),
      c.join.ensures.same ∙ inv.2,
      ap (λ (s : Stage). record s { words = c.join.new.self }) inv.3,
      c.push_reserved.ensures.capacity ∙ inv.4,
    )
