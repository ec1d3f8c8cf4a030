use Rattle.std.proofs.Common.{◌≡◌, ◌++◌, ◌+◌, ◌∷◌, [], ℕ, List, length, length-append, map, take, arith, sym, ap}
use Rattle.std.proofs.Common.{◌∙◌, subst}
use Rattle.std.specs.List.{range_with_len}
use Rattle.std.specs.Prelude.{All, IfSome, Option}
use Rattle.std.proofs.lemmas.List.Elements.{All-push}
use Rattle.atomic_table.specs.Seated.{TableId}
use Rattle.data_workers.specs.Workers.{HasTable, WorkerAt}
use Rattle.station_words.specs.Ties.{tables_of}
use Rattle.lan_schedule.specs.Races.{Burst, Worker, worker_at, workers_of}
use Rattle.lan_schedule.specs.inside.Beside.{HiredAll, OutFor, WasHired}
use Rattle.lan_schedule.specs.declared.stage.Stage.{Stage}
use Rattle.worker_races.specs.Senders.{IsNew}
use Rattle.lan_schedule.proofs.SeatsBack.{none-holds, out-more, out-still, still-out}
use Rattle.lan_schedule.proofs.SeatsLeft.{finds-seat}
use Rattle.lan_schedule.proofs.Hiring.{dealt-more, hired-one, moved-then, workers-more}
use Rattle.lan_schedule.proofs.stage.Stage.hire_all.Goals.{in-Some, in_default}
use Rattle.lan_schedule.proofs.stage.Stage.hire_all.Goals as goal

pub returns-in_err-worker-clause-moved : goal.returns-in_err-worker-clause-moved
returns-in_err-worker-clause-moved c =
    moved-then c.args.self.now c.loop-place.self c.hire.new.self c.loop-place.invariant.1
    c.hire.ensures.moved

pub loop-burst-preserved : goal.loop-burst-preserved
loop-burst-preserved c =
    let b : Burst = c.burst-item.result in
    let inv = c.loop-place.invariant in
    let dealt : c.loop-place.place ≡ b.workers = omega arith in
    let whole = workers-more c.args.bursts.now c.loop-burst.burst-index b (omega arith) in
    let before : List Worker = workers_of (take c.loop-burst.burst-index c.args.bursts.now) in (
      λ seats. subst (λ (workers : List Worker). HiredAll workers c.args.self.now c.loop-place.self
          c.loop-place.workers.items)
          (ap (λ (n : ℕ). before ++ map (worker_at b) (range_with_len 0 n)) dealt
          ∙ ap (λ (x : Burst). before ++ map (worker_at x) (range_with_len 0 x.workers)) c.burst-item.is
          ∙ sym whole) (inv.0 seats before (c.loop-burst.invariant.0 seats)),
      inv.1,
      inv.2,
      inv.3,
      inv.4,
    )

pub returns-in_err-reserve-clause-seats : goal.returns-in_err-reserve-clause-seats
returns-in_err-reserve-clause-seats c =
    subst (λ (ws : List WorkerAt). OutFor ws c.args.self.now.words c.loop-place.self.words)
    (sym c.reserve.ensures.items) c.loop-place.invariant.4

pub returns-in_err-reserve-2-clause-seats : goal.returns-in_err-reserve-2-clause-seats
returns-in_err-reserve-2-clause-seats c =
    subst (λ (ws : List WorkerAt). OutFor ws c.args.self.now.words c.loop-place.self.words)
    (sym c.reserve.ensures.items) c.loop-place.invariant.4

pub returns-in_err-worker-clause-seats : goal.returns-in_err-worker-clause-seats
returns-in_err-worker-clause-seats c =
    out-still _ c.args.self.now.words c.loop-place.self.words c.hire.new.self.words
    (subst (λ (ws : List WorkerAt). OutFor ws c.args.self.now.words c.loop-place.self.words)
    (sym c.reserve.ensures.items) c.loop-place.invariant.4) c.in_err-worker.ensures.back

pub loop-place-preserved : goal.loop-place-preserved
loop-place-preserved c =
    let b : Burst = c.burst-item.result in
    let i : ℕ = c.loop-burst.burst-index in
    let j : ℕ = c.loop-place.place in
    let crew : List WorkerAt = c.loop-place.workers.items in
    let inv = c.loop-place.invariant in
    let empty : c.reserve-in-loop-place.new.self.items ≡ [] =
    c.reserve-in-loop-place.ensures.items ∙ inv.2.empty in
    let moved = moved-then c.args.self.now c.loop-place.self c.hire.new.self inv.1 c.hire.ensures.moved in
    let tables : All (HasTable (tables_of c.hire.new.self.words)) crew =
    subst (λ (ts : List TableId). All (HasTable ts) crew) (sym c.hire.ensures.moved.tables) inv.2.tables in
    elim c.match-branch-4.branch [
      | in-Some w ↦ (
          let x : WorkerAt = w.in-Some.worker in
          let items : c.match-branch-4.workers.items ≡ crew ++ x ∷ [] =
          ap (λ v. v.items) w.workers-is
          ∙ (w.push_reserved.ensures.items ∙ ap (λ (ws : List WorkerAt). ws ++ x ∷ []) c.reserve.ensures.items) in
          let hired : WasHired (worker_at b j) c.loop-place.self c.hire.new.self x =
          subst (λ (o : Option WorkerAt). IfSome o (λ (y : WorkerAt). WasHired (worker_at b j) c.loop-place.self
          c.hire.new.self y)) w.in-Some.is c.in_ok-worker.ensures.hired in
          let has : HasTable (tables_of c.hire.new.self.words) x =
          subst (λ (o : Option WorkerAt). IfSome o (HasTable (tables_of c.hire.new.self.words))) w.in-Some.is
          c.in_ok-worker.ensures.tables in (
            λ seats before all. subst (λ (ws : List WorkerAt). HiredAll (before ++ map (worker_at b) (range_with_len 0 (j + 1)))
                c.args.self.now c.hire.new.self ws) (sym items)
                (subst (λ (workers : List Worker). HiredAll workers c.args.self.now c.hire.new.self
                (crew ++ x ∷ [])) (dealt-more b before j)
                (hired-one (before ++ map (worker_at b) (range_with_len 0 j)) (worker_at b j)
                c.args.self.now c.loop-place.self c.hire.new.self crew x (inv.0 seats before all) inv.1 hired)),
            moved,
            record {
              tables = subst (λ (ws : List WorkerAt). All (HasTable (tables_of c.hire.new.self.words)) ws)
                  (sym items) (All-push (HasTable (tables_of c.hire.new.self.words)) crew x tables has);
              empty = empty;
              room = (let many = ap length items in
                  let more = length-append crew (x ∷ []) in
                  let none = ap length empty in
                  omega (arith, many, more, none, c.in_ok-reserve-2.ensures.ok));
            },
            subst (λ (ws : List WorkerAt). All IsNew ws) (sym items) (All-push IsNew crew x inv.3 hired.fresh),
            subst (λ (ws : List WorkerAt). OutFor ws c.args.self.now.words c.hire.new.self.words) (sym items)
                (out-more crew x c.args.self.now.words c.loop-place.self.words c.hire.new.self.words inv.4
                hired.seated),
          ))
      | in_default w ↦ (
          let items : c.match-branch-4.workers.items ≡ crew =
          ap (λ v. v.items) w.workers-is ∙ c.reserve.ensures.items in
          let full = none-holds _ _ w.in_default.not-Some c.in_ok-worker.ensures.none in (
            λ seats before all. absurd (finds-seat c.args.bursts.now i j b b c.args.self.now c.loop-place.self
                crew seats (omega arith) (sym c.burst-item.is) (omega arith)
                (inv.0 seats (workers_of (take i c.args.bursts.now)) (c.loop-burst.invariant.0 seats)) inv.1
                full.0),
            moved,
            record {
              tables = subst (λ (ws : List WorkerAt). All (HasTable (tables_of c.hire.new.self.words)) ws)
                  (sym items) tables;
              empty = empty;
              room = (let many = ap length items in
                  let none = ap length empty in
                  omega (arith, many, none, c.in_ok-reserve-2.ensures.ok));
            },
            subst (λ (ws : List WorkerAt). All IsNew ws) (sym items) inv.3,
            subst (λ (ws : List WorkerAt). OutFor ws c.args.self.now.words c.hire.new.self.words) (sym items)
                (out-still crew c.args.self.now.words c.loop-place.self.words c.hire.new.self.words inv.4
                (still-out c.loop-place.self.words c.hire.new.self.words
                (ap (λ (s : Stage). s.words) full.1))),
          ))
    ]
