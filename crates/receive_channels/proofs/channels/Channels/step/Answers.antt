use Rattle.std.proofs.Common.{◌≡◌, sym, subst}
use Rattle.receive_channels.specs.Channels.{ChannelSet, IsTold, after}
use Rattle.receive_channels.proofs.Remembered.{given, given-again, nothing-told, set_of}
use Rattle.receive_channels.proofs.channels.Channels.step.Goals as goal

pub returns-then-is_still-clause-told : goal.returns-then-is_still-clause-told
returns-then-is_still-clause-told c =
    let step = given c.args.scis.now c.args.keys.now in
    let here = set_of c.self.inside.channels.items c.self.inside.waiting.items in
    let still = given-again c.self.inside.still here step.scis step.keys c.self.invariant (c.is_still.ensures c.if-is_still.true) in
    subst (λ (s : ChannelSet). IsTold step s c.none.result) c.self.view_is
    (nothing-told step here c.none.result still c.none.ensures.opened c.none.ensures.receives c.none.ensures.removed)

pub returns-then-is_still-clause-after : goal.returns-then-is_still-clause-after
returns-then-is_still-clause-after c =
    let step = given c.args.scis.now c.args.keys.now in
    let here = set_of c.self.inside.channels.items c.self.inside.waiting.items in
    let still = given-again c.self.inside.still here step.scis step.keys c.self.invariant (c.is_still.ensures c.if-is_still.true) in
    subst (λ (s : ChannelSet). s ≡ after step s) c.self.view_is (sym still.changes)
