use Rattle.std.proofs.Common.{sym, ap, ◌∙◌}
use Rattle.std.specs.Prelude.{not}
use Rattle.cak_roll.specs.declared.event.TwinEvent.TheVariants.{Tick}
use Rattle.cak_roll.specs.Twin.{takes_part}
use Rattle.twin_schedule.specs.Acts.{happen}
use Rattle.twin_schedule.specs.World.{pair_of}
use Rattle.twin_schedule.proofs.Doing.{unless-does, unless-skips}
use Rattle.twin_schedule.proofs.Happening.{plainly}
use Rattle.twin_schedule.proofs.stage.Stage.tick_in.Goals as goal

pub returns-then-not-takes_part : goal.returns-then-not-takes_part
returns-then-not-takes_part g c =
    unless-skips (λ w. not (takes_part c.args.group c.args.station w.run))
    (λ w. happen (Tick c.args.station c.args.group)) _
    (λ w stands. ap not (sym (c.takes_part.ensures (pair_of w) w.kept.users w.run stands.twin)
    ∙ c.if-not-takes_part.true))

pub returns : goal.returns
returns g c =
    unless-does (λ w. not (takes_part c.args.group c.args.station w.run))
    (happen (Tick c.args.station c.args.group)) _ _ _
    (λ w stands. ap not (sym (c.takes_part.ensures (pair_of w) w.kept.users w.run stands.twin)
    ∙ c.if-not-takes_part.false))
    (plainly (Tick c.args.station c.args.group) _ _ _ (λ users. tt) c.happen.ensures)
