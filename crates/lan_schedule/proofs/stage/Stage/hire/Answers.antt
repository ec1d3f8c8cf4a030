use Rattle.std.proofs.Common.{◌≡◌, refl, sym, ap, ◌∙◌, subst, Some}
use Rattle.std.specs.Prelude.{slice_get}
use Rattle.data_workers.specs.Workers.{WorkerAt, Logged}
use Rattle.association_slots.specs.Views.{SeatAt}
use Rattle.association_slots.specs.declared.view.SeatView.{SeatView}
use Rattle.lan_core.specs.Standing.{scis_in}
use Rattle.lan_core.specs.Types.{IsUserFrame}
use Rattle.station_words.specs.Seats.{HasJoined, WasSeated}
use Rattle.station_words.specs.Ties.{tables_of}
use Rattle.lan_schedule.specs.Woven.{worker_of}
use Rattle.lan_schedule.proofs.Hiring.{has-table, seat-table}
use Rattle.lan_schedule.proofs.SeatsBack.{out-returned}
use Rattle.lan_schedule.proofs.stage.Stage.hire.Goals as goal

pub join-requires : goal.join-requires
join-requires c =
    let e : c.in-Err.seat ≡ c.in-Some-seat.seat = cc (c.in-Err.ensures.err) in
    ap (λ ts. slice_get ts c.station-station.result) c.seat.ensures.same
    ∙ seat-table c.station-station.result c.args.self.now.words c.seat.new.self c.in-Some-seat.seat
    c.in-Some-seat.ensures.some
    ∙ ap (λ (s : SeatAt). Some s.table) (sym e)

pub returns-in-Ok-clause-hired : goal.returns-in-Ok-clause-hired
returns-in-Ok-clause-hired c =
    let w = c.in-Ok.worker in
    let e = c.in-Ok.ensures.ok in
    let place : slice_get (scis_in c.args.self.now.lan) c.station-station.result ≡ Some c.in-Some.sci =
    sym c.in-Some.ensures.place in
    record {
      is = ap worker_of e ∙ (λ i. record {
        station = c.station-station.ensures i;
        jobs = c.share.ensures i;
        user = (c.in_ok-copied.ensures ∙ c.user.ensures.value) i;
      });
      seated = subst (λ (x : WorkerAt). WasSeated x.sender.station c.args.self.now.words c.seat.new.self x.seat)
          (sym e) c.in-Some-seat.ensures.some;
      fresh = record {
        empty = ap (λ (x : WorkerAt). x.log) e;
        logged = subst (λ (v : SeatView). Logged v w) (ap (λ (x : WorkerAt). x.seat.view) (sym e))
            c.in-Ok.ensures.logged;
      };
      sendable = subst (λ u. IsUserFrame u)
          (sym (ap (λ (x : WorkerAt). x.sender.user) e ∙ c.in_ok-copied.ensures))
          c.user.ensures.fits;
      sci = subst (λ (x : WorkerAt). slice_get (scis_in c.args.self.now.lan) x.sender.station
          ≡ Some x.sender.sci) (sym e) place;
    }

pub returns-in-Ok-clause-tables : goal.returns-in-Ok-clause-tables
returns-in-Ok-clause-tables c =
    let e = c.in-Ok.ensures.ok in
    has-table (tables_of c.seat.new.self) c.in-Ok.worker
    (subst (λ (x : WorkerAt). slice_get (tables_of c.seat.new.self) x.sender.station
    ≡ Some x.seat.table) (sym e)
    (ap (λ ts. slice_get ts c.station-station.result) c.seat.ensures.same
    ∙ seat-table c.station-station.result c.args.self.now.words c.seat.new.self c.in-Some-seat.seat
    c.in-Some-seat.ensures.some))

pub returns-in-Err-clause-moved : goal.returns-in-Err-clause-moved
returns-in-Err-clause-moved c = record {
  same = refl;
  tables = c.join.ensures.same ∙ c.seat.ensures.same;
  keeps_up = λ settings r up. c.join.ensures.keeps_up settings r (c.seat.ensures.keeps_up settings r up);
}

pub returns-in-Err-clause-back : goal.returns-in-Err-clause-back
returns-in-Err-clause-back c =
    let e : c.in-Err.seat ≡ c.in-Some-seat.seat = cc (c.in-Err.ensures.err) in
    out-returned c.station-station.result c.args.self.now.words c.seat.new.self c.join.new.self
    c.in-Some-seat.seat c.in-Some-seat.ensures.some
    (subst (λ (seat : SeatAt). HasJoined c.station-station.result seat c.seat.new.self c.join.new.self) e
    c.join.ensures.told)
