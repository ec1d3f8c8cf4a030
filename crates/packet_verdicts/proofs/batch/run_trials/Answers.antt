use Rattle.std.proofs.Common.{◌≡◌, ◌∙◌, sym, ap, subst, length, arith}
use denote.Param.Send.{sendable}
use Rattle.std.proofs.Crossing.{crosses}
use Rattle.std.proofs.MapsCrossing.{crosses as maps}
use Rattle.packet_verdicts.specs.declared.batch.Trial.{Trial}
use Rattle.packet_verdicts.specs.Trials.{IsTrial, answer, newest, tag_in}
use Rattle.packet_verdicts.proofs.Each.{each-map}
use Rattle.packet_verdicts.proofs.batch.run_trials.Goals as goal

pub par_for_each_mut-requires : goal.par_for_each_mut-requires
par_for_each_mut-requires g c κs = (
  search (sendable, crosses, maps) depth 60 fits 50000,
  (
    search (sendable, crosses, maps) depth 60 fits 50000,
    (
      search (sendable, crosses, maps) depth 60 fits 50000,
      λ i p lt e. subst (λ (t : Trial). IsTrial t) (sym e) (c.requires i p.now lt),
    ),
  ),
)

pub returns-clause-answers : goal.returns-clause-answers
returns-clause-answers g c =
    let len : length c.par_for_each_mut.new.s ≡ length c.args.trials.now = omega arith in
    each-map newest (answer c.args.keys.now) c.args.trials.now c.par_for_each_mut.new.s len (λ k d lt.
    let at = (c.par_for_each_mut.ensures k d lt).1 in
    ap newest (sym at.left) ∙ at.call.0 ∙ ap (answer c.args.keys.now) at.argument_is)

pub returns-clause-tags : goal.returns-clause-tags
returns-clause-tags g c =
    let len : length c.par_for_each_mut.new.s ≡ length c.args.trials.now = omega arith in
    each-map tag_in tag_in c.args.trials.now c.par_for_each_mut.new.s len (λ k d lt.
    let at = (c.par_for_each_mut.ensures k d lt).1 in
    ap tag_in (sym at.left) ∙ at.call.1 ∙ ap tag_in at.argument_is)
