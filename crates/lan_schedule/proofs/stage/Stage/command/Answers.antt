use Rattle.std.proofs.Common.{sym}
use Rattle.lan_schedule.specs.declared.deed.Deed.TheVariants.{Feed}
use Rattle.lan_schedule.specs.Lines.{act}
use Rattle.lan_schedule.proofs.Commanding.{refused-does, resolved-does}
use Rattle.lan_schedule.proofs.Sending.{same-did}
use Rattle.lan_schedule.proofs.stage.Stage.command.Goals as goal

pub returns-in-Err : goal.returns-in-Err
returns-in-Err g c =
    rw c.refused.ensures (refused-does c.args.line c.in-Err.kind _ c.in-Err.ensures.resolves)

pub feed_in_batches-requires-clause-order : goal.feed_in_batches-requires-clause-order
feed_in_batches-requires-clause-order g c = λ lifetimes outlive.
    (rw c.in-Ok-Feed.field-0-is at c.in-Ok-Feed.ensures.ranges).0

pub feed_in_batches-requires-clause-few : goal.feed_in_batches-requires-clause-few
feed_in_batches-requires-clause-few g c = λ lifetimes outlive.
    (rw c.in-Ok-Feed.field-0-is at c.in-Ok-Feed.ensures.ranges).1

pub returns-in-Ok-Feed : goal.returns-in-Ok-Feed
returns-in-Ok-Feed g c =
    resolved-does c.args.line c.in-Ok-Feed.field-0 _ _ c.feed_in_batches.result
    c.in-Ok-Feed.ensures.resolves
    (same-did act (Feed c.in-Ok-Feed.first c.in-Ok-Feed.last c.in-Ok-Feed.station)
    c.in-Ok-Feed.field-0 _ _ _ (sym c.in-Ok-Feed.field-0-is) c.feed_in_batches.ensures)

pub perform-requires : goal.perform-requires
perform-requires g c = c.in-Ok.ensures.ranges

pub returns-in-Ok : goal.returns-in-Ok
returns-in-Ok g c =
    resolved-does c.args.line c.in-Ok.deed _ _ c.perform.result c.in-Ok.ensures.resolves
    c.perform.ensures
