use Rattle.transcript.proofs.ReadBack.{read, among, found, unread, memory, frames}
use Rattle.transcript.proofs.reading.read_fact.Goals as goal

pub returns-clause-read : goal.returns-clause-read
returns-clause-read c = read c.args.names.now c.args.line.now _ c.answer_fact.ensures.answers

pub returns-clause-place : goal.returns-clause-place
returns-clause-place c = among c.args.names.now c.args.line.now _ c.answer_fact.ensures.answers

pub returns-clause-found : goal.returns-clause-found
returns-clause-found c = found c.args.names.now c.args.line.now _ c.answer_fact.ensures.answers

pub returns-clause-unread : goal.returns-clause-unread
returns-clause-unread c = unread c.args.names.now c.args.line.now _ c.answer_fact.ensures.answers

pub returns-clause-memory : goal.returns-clause-memory
returns-clause-memory c = memory c.args.names.now c.args.line.now _ c.answer_fact.ensures.answers

pub returns-clause-frames : goal.returns-clause-frames
returns-clause-frames c = frames c.args.names.now c.args.line.now _ c.answer_fact.ensures.frames
