use Rattle.transcript.proofs.tables.reason_told.Goals as goal

pub returns-in-Unspelled : goal.returns-in-Unspelled
returns-in-Unspelled c names = rw c.in-Unspelled.is (c.refusal_told.ensures names)

pub returns-in-Refused : goal.returns-in-Refused
returns-in-Refused c names = rw c.in-Refused.is (c.peer_refusal_told.ensures names)
