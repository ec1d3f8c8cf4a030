use Rattle.std.proofs.Common.{◌≡◌, ◌+◌, ◌++◌, ap, ◌∙◌, drop, get_or}
use Rattle.lan_core.specs.declared.event.Event.{Event}
use Rattle.worker_races.specs.merge.Taking.{frames_of, left_by, taken_by}
use Rattle.worker_races.proofs.weaving.FramesTaken.{frames-end, frames-more}
use Rattle.worker_races.proofs.merge.taking.taken_frames.Goals as goal

pub loop-event-preserved : goal.loop-event-preserved
loop-event-preserved c =
    let i = c.loop-event.event-index in
    let events = c.args.events.now in
    let e : Event = c.event-item.result in
    let is : e ≡ get_or events i e = c.event-item.is in
    let rests = c.loop-event.rests.items in
    let frames = c.loop-event.frames.items in
    let told = c.take-frame.ensures in
    let more = c.in_ok-put.ensures ∙ ap (λ fs. frames ++ fs) (told.0 ∙ ap (λ e. taken_by e rests) is) in
    ap (λ ls. c.put.new.frames.items ++ frames_of (drop (i + 1) events) ls) (told.1 ∙ ap (λ e. left_by e rests) is)
    ∙ frames-more events i e _ rests frames c.put.new.frames.items c.loop-event-test.true c.loop-event.invariant more

pub returns : goal.returns
returns c =
    frames-end c.args.events.now c.loop-event.event-index c.loop-event.rests.items c.in_ok-rests.rests.items c.args.logs.items
    c.loop-event.frames.items c.loop-event-test.false c.loop-event.invariant c.in_ok-rests.ensures
