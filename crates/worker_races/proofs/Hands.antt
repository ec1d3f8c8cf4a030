-- The workers of a race when they are done: what their logs say, by what control knew when they
-- began, and what it knows in the end.
use Rattle.std.proofs.Common.{◌≡◌, ℕ, suc, ◌+◌, List, [], ◌∷◌, length}
use Rattle.std.proofs.Common.{refl, sym, ap, subst, arith}
use Rattle.std.specs.List.{AllByRecursion}
use Rattle.lan_base.specs.declared.frame.UserFrame.{UserFrame}
use Rattle.association_slots.specs.Views.{ControlAt}
use Rattle.data_workers.specs.Logs.{IsLog}
use Rattle.data_workers.specs.Workers.{AreDone, IsDone, WorkerAt}
use Rattle.lan_core.specs.Run.{Run}
use Rattle.worker_races.specs.Senders.{AreSenders, IsNew, IsSender, jobs_of}
use Rattle.worker_races.proofs.Seating.{Came, Took}

-- a worker that is done, and has the user frame of a number
pub record Hand (users : List UserFrame) (r : Run) (before after : List ControlAt) (number : ℕ)
    (d : WorkerAt) : Type 0 where
  pub began : WorkerAt
  pub same : d.sender ≡ began.sender
  pub took : Took before began
  pub log : IsLog began.seat.view d.seat.view d.sender d.log
  pub sender : IsSender users r number d.sender
  pub came : Came after d

abbrev pub AreHands : List UserFrame → Run → List ControlAt → List ControlAt → ℕ → List WorkerAt → Type 0
AreHands users r before after number [] = Unit {0}
AreHands users r before after number (d ∷ ds) =
    Hand users r before after number d × AreHands users r before after (suc number) ds

-- ---- workers that began, and are done

pub first-done : (w d : WorkerAt) (ws ds : List WorkerAt) → AreDone (w ∷ ws) (d ∷ ds) → IsDone w d
first-done w d ws ds done = done.each 0 w (omega arith)

pub others-done : (w d : WorkerAt) (ws ds : List WorkerAt) → AreDone (w ∷ ws) (d ∷ ds) → AreDone ws ds
others-done w d ws ds done = record {
  count = (let all = done.count in omega (arith, all));
  each = λ i x less. done.each (suc i) x (omega (arith, less));
}

pub are-hands : (users : List UserFrame) (r : Run) (before after : List ControlAt) (number : ℕ) (ws ds : List WorkerAt)
    → AreDone ws ds → AllByRecursion IsNew ws → AllByRecursion (Took before) ws → AreSenders users r number ws
    → AllByRecursion (Came after) ds → AreHands users r before after number ds
are-hands users r before after number [] [] done new took senders came = tt
are-hands users r before after number [] (d ∷ ds) done new took senders came = absurd (let all = done.count in omega (arith, all))
are-hands users r before after number (w ∷ ws) [] done new took senders came = absurd (let all = done.count in omega (arith, all))
are-hands users r before after number (w ∷ ws) (d ∷ ds) done new took senders came =
    let first = first-done w d ws ds done in (
      record {
        began = w;
        same = first.same.sender;
        took = took.0;
        log = first.logged w.seat.view new.0.logged;
        sender = subst (IsSender users r number) (sym first.same.sender) senders.0;
        came = came.0;
      },
      are-hands users r before after (suc number) ws ds (others-done w d ws ds done) new.1 took.1 senders.1 came.1,
    )

-- ---- as many entries as jobs

unfoldable pub entries_count : List WorkerAt → ℕ
entries_count [] = 0
entries_count (d ∷ ds) = length d.log + entries_count ds

pub entries-are : (ws ds : List WorkerAt) → AreDone ws ds → AllByRecursion IsNew ws → entries_count ds ≡ jobs_of ws
unfolding entries_count
entries-are [] [] done new = refl
entries-are [] (d ∷ ds) done new = absurd (let all = done.count in omega (arith, all))
entries-are (w ∷ ws) [] done new = absurd (let all = done.count in omega (arith, all))
entries-are (w ∷ ws) (d ∷ ds) done new =
    let here = (first-done w d ws ds done).each in
    let none = ap length new.0.empty in
    let rest = entries-are ws ds (others-done w d ws ds done) new.1 in
    omega (arith, here, none, rest)
