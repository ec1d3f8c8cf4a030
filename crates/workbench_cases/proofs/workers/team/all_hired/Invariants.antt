use Rattle.std.proofs.Common.{◌≡◌, [], ◌∷◌, All}
use Rattle.data_workers.specs.Workers.{HasTable}
use Rattle.workbench_cases.proofs.workers.team.all_hired.Given as goal

-- each worker so far works at the table, which stays control's
abbrev pub invariant-loop : goal.invariant-loop
invariant-loop l = (l.control.table ≡ l.table) × All (HasTable (l.table ∷ [])) l.workers.items
