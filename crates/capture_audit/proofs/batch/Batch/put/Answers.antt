use Rattle.std.proofs.Common.{◌∙◌, ◌+◌, ◌++◌, ◌∷◌, [], ℕ, List, arith, refl, ap, drop, take, length, ◌-◌, subst, sym}
use Rattle.std.specs.Prelude.{All}
use Rattle.std.proofs.lemmas.List.Elements.{All-push}
use Rattle.capture_audit.specs.declared.batch.Waiting.{Waiting}
use Rattle.capture_audit.specs.Before.{entries}
use Rattle.capture_audit.specs.inside.Batches.{IsJudged}
use Rattle.capture_audit.specs.inside.Keeping.{IsOfGroup}
use Rattle.capture_audit.proofs.Putting.{fits-group, put-stands, rest-is}
use Rattle.capture_audit.proofs.batch.Batch.put.Goals as goal

pub returns-clause-puts : goal.returns-clause-puts
returns-clause-puts c = λ asks ring before waiting written one stands judged quiet.
    let trial = c.in_ok-trial.ensures in
    let w : Waiting = record { head = c.args.packet.head; kind = c.args.kind; line = c.in_ok-line.line; trial = c.in_ok-trial.trial } in
    put-stands asks ring before waiting written one c.args.auditor.now c.args.self.now _ c.args.packet.head c.args.kind
    (take (length c.deref.result.now - c.args.start) (drop c.args.start c.deref.result.now)) w (c.args.auditor.now.tally.all + c.len.result + 1)
    stands (subst (λ (f : List ℕ). IsJudged ring one c.args.packet.head c.args.kind f) (rest-is c.deref.result.now c.args.packet.octets.items c.args.start c.deref.ensures.value) judged)
    quiet trial.asks trial.text trial.more
    (c.in_ok-push.ensures.items ∙ ap (λ (ws : List Waiting). ws ++ w ∷ []) trial.waiting) refl refl c.in_ok-line.ensures (omega arith)
    (trial.tries (entries ring before) one stands.keeps.holds.known judged.frame_is)

pub returns-clause-ready : goal.returns-clause-ready
returns-clause-ready c = λ was.
    let trial = c.in_ok-trial.ensures in
    let groups = c.args.auditor.now.groups in
    let w : Waiting = record { head = c.args.packet.head; kind = c.args.kind; line = c.in_ok-line.line; trial = c.in_ok-trial.trial } in
    let more = c.in_ok-push.ensures.items ∙ ap (λ (ws : List Waiting). ws ++ w ∷ []) trial.waiting in
    record {
      trials = trial.ready was.trials;
      groups_are = subst (λ (ws : List Waiting). All (λ (x : Waiting). IsOfGroup groups x.kind) ws) (sym more)
          (All-push (λ (x : Waiting). IsOfGroup groups x.kind) c.args.self.now.waiting.items w was.groups_are
          (fits-group groups _ c.args.kind c.requires.fits));
    }
