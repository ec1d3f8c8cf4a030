use Rattle.std.proofs.Common.{◌++◌, ◌∷◌, [], List, sym, subst}
use Rattle.packet_claims.proofs.Public.{did_by}
use Rattle.data_workers.specs.declared.entry.Entry.{Entry}
use Rattle.data_workers.specs.Logs.{IsLog}
use Rattle.data_workers.specs.Workers.{Logged}
use Rattle.data_workers.proofs.NextEntry.{next_entry}
use Rattle.data_workers.proofs.worker.Worker.job.Goals as goal

-- the log of the old view, and the entry of what the claim did behind it
pub returns-clause-logged : goal.returns-clause-logged
returns-clause-logged g c v logged =
    let k = c.self.inside in let a = c.claim-answer.ensures in let r = c.claim-answer.result in let w = c.claim-answer.new.seat.view in
    let before = subst (Logged v) (sym c.self.view_is) logged in
    let more = next_entry k.sender v k.seat.view w k.log.items before r (did_by k.seat.view w r a.claim a.no_key a.exhausted) in
    subst (λ (log : List Entry). IsLog v w k.sender log) (sym c.push_reserved.ensures.items) (subst (λ (x : Entry). IsLog v w k.sender (k.log.items ++ x ∷ [])) (sym c.entry_for-entry.ensures) more)
