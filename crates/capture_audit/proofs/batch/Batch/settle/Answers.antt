use Rattle.std.proofs.Common.{◌≡◌, ◌∙◌, ℕ, List, refl, ap}
use Rattle.std.specs.Prelude.{map}
use Rattle.std.proofs.lemmas.List.{with_items_is}
use Rattle.std.specs.Vec.{with_items}
use Rattle.std.proofs.lemmas.Result.{err_from_is_err_and}
use Rattle.packet_verdicts.specs.declared.batch.Trial.{Trial}
use Rattle.packet_verdicts.specs.Trials.{answer, newest}
use Rattle.capture_audit.specs.Before.{entries}
use Rattle.capture_audit.specs.inside.Batches.{answers}
use Rattle.capture_audit.proofs.Standing.{stops-before, waits-found, writes-all}
use Rattle.capture_audit.proofs.batch.Batch.settle.Goals as goal

pub returns-in_err-tell_all-clause-settles : goal.returns-in_err-tell_all-clause-settles
returns-in_err-tell_all-clause-settles c c' = λ asks ring before packets written stands.
    let p = err_from_is_err_and c'.from_residual.result c'.from_residual.ensures.1 in
    let prepared = c'.prepared.ensures (entries ring before) stands.keeps.holds.known in
    let trials = c'.deref_mut.ensures.value in
    let tried = c'.deref-2.ensures.value in
    let long = c'.run_trials.auto.trials ∙ c'.deref_mut.ensures.len in
    let waiting = c'.deref.ensures.value in
    let all : map newest c'.deref-2.result.now ≡ answers (entries ring before) c'.args.self.now.trials.items =
    ap (λ (ts : List Trial). map newest ts) (tried ∙ with_items_is c'.args.self.now.trials c'.run_trials.new.trials long)
    ∙ c'.run_trials.ensures.answers
    ∙ ap (λ (ks : List (List ℕ)). map (answer ks) c'.deref_mut.result.now) prepared
    ∙ ap (λ (ts : List Trial). answers (entries ring before) ts) trials in
    let waits = waits-found asks ring before packets written c'.args.auditor.now c'.args.self.now stands
    (map newest c'.deref-2.result.now) c'.deref.result.now all waiting in
    rw (p.1, p.2) (stops-before asks ring before packets written c'.args.auditor.now c'.args.self.now stands
    c'.in_err-tell_all.field-0.0 c'.args.self.now.asks c'.tell_all.new.auditor
    (record c'.args.self.now { trials = with_items c'.args.self.now.trials c'.run_trials.new.trials; text = c'.tell_all.new.text })
    c'.args.self.now.text.items c'.tell_all.new.text.items (c.K.Sink.held c'.args.sink.now) (c'.in_err-tell_all.ensures.tells ring before packets stands.keeps waits))

pub returns-clause-settles : goal.returns-clause-settles
returns-clause-settles c c' = λ asks ring before packets written stands.
    let prepared = c'.prepared.ensures (entries ring before) stands.keeps.holds.known in
    let trials = c'.deref_mut.ensures.value in
    let tried = c'.deref-2.ensures.value in
    let long = c'.run_trials.auto.trials ∙ c'.deref_mut.ensures.len in
    let waiting = c'.deref.ensures.value in
    let all : map newest c'.deref-2.result.now ≡ answers (entries ring before) c'.args.self.now.trials.items =
    ap (λ (ts : List Trial). map newest ts) (tried ∙ with_items_is c'.args.self.now.trials c'.run_trials.new.trials long)
    ∙ c'.run_trials.ensures.answers
    ∙ ap (λ (ks : List (List ℕ)). map (answer ks) c'.deref_mut.result.now) prepared
    ∙ ap (λ (ts : List Trial). answers (entries ring before) ts) trials in
    let waits = waits-found asks ring before packets written c'.args.auditor.now c'.args.self.now stands
    (map newest c'.deref-2.result.now) c'.deref.result.now all waiting in
    let told = c'.in_ok-tell_all.ensures.tells ring before packets stands.keeps waits in
    writes-all asks ring before packets written c'.args.auditor.now c'.args.self.now stands c'.tell_all.new.auditor c'.write.new.self
    c'.args.self.now.text.items c'.tell_all.new.text.items (c.K.Sink.held c'.args.sink.now) (c.K.Sink.held c'.write.new.sink) c'.write.result refl told c'.write.ensures.writes c'.write.ensures.asks
    (c'.write.ensures.waiting ∙ c'.clear.ensures.items) c'.write.ensures.empty
