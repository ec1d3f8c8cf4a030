use Rattle.std.proofs.Common.{◌≤◌, ap, subst, length}
use Rattle.transcript.specs.inside.Naming.{grown_by}
use Rattle.transcript.specs.Naming.{most_named}
use Rattle.transcript.specs.Rendering.{AreNames}
use Rattle.transcript.proofs.NamesRead.{read, found, unread, memory, frames, answered-under, answered-unnamed}
use Rattle.transcript.proofs.reader.Reader.line.Goals as goal

pub returns-in-Some-clause-read : goal.returns-in-Some-clause-read
returns-in-Some-clause-read c =
    read c.args.self.now c.args.line.now c.life.new.self c.life.ensures.named c.life.ensures.few c.life.result
    (answered-under c.args.self.now c.args.line.now c.life.new.self c.life.result _ _
    (ap (grown_by c.args.self.now) c.in-Some.ensures.value) c.life.ensures.answered)

pub returns-in-Some-clause-found : goal.returns-in-Some-clause-found
returns-in-Some-clause-found c =
    found c.args.self.now c.args.line.now c.life.new.self c.life.ensures.named c.life.ensures.few c.life.result
    (answered-under c.args.self.now c.args.line.now c.life.new.self c.life.result _ _
    (ap (grown_by c.args.self.now) c.in-Some.ensures.value) c.life.ensures.answered)

pub returns-in-Some-clause-unread : goal.returns-in-Some-clause-unread
returns-in-Some-clause-unread c =
    unread c.args.self.now c.args.line.now c.life.new.self c.life.ensures.named c.life.ensures.few c.life.result
    (answered-under c.args.self.now c.args.line.now c.life.new.self c.life.result _ _
    (ap (grown_by c.args.self.now) c.in-Some.ensures.value) c.life.ensures.answered)

pub returns-in-Some-clause-memory : goal.returns-in-Some-clause-memory
returns-in-Some-clause-memory c =
    memory c.args.self.now c.args.line.now c.life.new.self c.life.ensures.named c.life.ensures.few c.life.result
    (answered-under c.args.self.now c.args.line.now c.life.new.self c.life.result _ _
    (ap (grown_by c.args.self.now) c.in-Some.ensures.value) c.life.ensures.answered)

pub returns-in-Some-clause-frames : goal.returns-in-Some-clause-frames
returns-in-Some-clause-frames c =
    frames c.args.self.now c.args.line.now c.life.new.self c.life.ensures.named c.life.ensures.few c.life.result
    (answered-under c.args.self.now c.args.line.now c.life.new.self c.life.result _ _
    (ap (grown_by c.args.self.now) c.in-Some.ensures.value) c.life.ensures.answered)

pub returns-in-None-clause-read : goal.returns-in-None-clause-read
returns-in-None-clause-read c =
    read c.args.self.now c.args.line.now c.args.self.now (subst AreNames c.self.view_is c.self.invariant.0)
    (subst (λ ns. length ns ≤ most_named) c.self.view_is c.self.invariant.1) c.answer_fact.result
    (answered-unnamed c.args.self.now c.self.inside.names.items c.as_slice.result.now c.args.line.now
    c.answer_fact.result c.self.view_is c.in-None.ensures.value c.as_slice.ensures.value
    c.answer_fact.ensures.answers c.answer_fact.ensures.frames)

pub returns-in-None-clause-found : goal.returns-in-None-clause-found
returns-in-None-clause-found c =
    found c.args.self.now c.args.line.now c.args.self.now (subst AreNames c.self.view_is c.self.invariant.0)
    (subst (λ ns. length ns ≤ most_named) c.self.view_is c.self.invariant.1) c.answer_fact.result
    (answered-unnamed c.args.self.now c.self.inside.names.items c.as_slice.result.now c.args.line.now
    c.answer_fact.result c.self.view_is c.in-None.ensures.value c.as_slice.ensures.value
    c.answer_fact.ensures.answers c.answer_fact.ensures.frames)

pub returns-in-None-clause-unread : goal.returns-in-None-clause-unread
returns-in-None-clause-unread c =
    unread c.args.self.now c.args.line.now c.args.self.now (subst AreNames c.self.view_is c.self.invariant.0)
    (subst (λ ns. length ns ≤ most_named) c.self.view_is c.self.invariant.1) c.answer_fact.result
    (answered-unnamed c.args.self.now c.self.inside.names.items c.as_slice.result.now c.args.line.now
    c.answer_fact.result c.self.view_is c.in-None.ensures.value c.as_slice.ensures.value
    c.answer_fact.ensures.answers c.answer_fact.ensures.frames)

pub returns-in-None-clause-memory : goal.returns-in-None-clause-memory
returns-in-None-clause-memory c =
    memory c.args.self.now c.args.line.now c.args.self.now (subst AreNames c.self.view_is c.self.invariant.0)
    (subst (λ ns. length ns ≤ most_named) c.self.view_is c.self.invariant.1) c.answer_fact.result
    (answered-unnamed c.args.self.now c.self.inside.names.items c.as_slice.result.now c.args.line.now
    c.answer_fact.result c.self.view_is c.in-None.ensures.value c.as_slice.ensures.value
    c.answer_fact.ensures.answers c.answer_fact.ensures.frames)

pub returns-in-None-clause-frames : goal.returns-in-None-clause-frames
returns-in-None-clause-frames c =
    frames c.args.self.now c.args.line.now c.args.self.now (subst AreNames c.self.view_is c.self.invariant.0)
    (subst (λ ns. length ns ≤ most_named) c.self.view_is c.self.invariant.1) c.answer_fact.result
    (answered-unnamed c.args.self.now c.self.inside.names.items c.as_slice.result.now c.args.line.now
    c.answer_fact.result c.self.view_is c.in-None.ensures.value c.as_slice.ensures.value
    c.answer_fact.ensures.answers c.answer_fact.ensures.frames)
