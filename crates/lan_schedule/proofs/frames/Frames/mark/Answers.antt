use Rattle.std.proofs.Common.{◌≡◌, ◌-◌, set, sym, ap, ◌∙◌, List, arith}
use Rattle.lan_schedule.specs.declared.frames.Put.{Put}
use Rattle.lan_schedule.specs.World.{marked_at, with_mark, Flow}
use Rattle.lan_schedule.proofs.Flowing.{mark-set, mark-past, marked-marked, order-marked}
use Rattle.lan_schedule.proofs.frames.Frames.mark.Goals as goal

pub invariant_of-self : goal.invariant_of-self
invariant_of-self c =
    let place = c.saturating_sub-place.result in
    let frames = c.self.inside.frames.items in
    let e : set frames place (with_mark c.index_mut.result.now)
    ≡ marked_at place frames = mark-set place frames c.index_mut.result.now
    c.index_mut.ensures.value (omega arith) in
    rw e (
      marked-marked c.self.inside.first place frames c.self.invariant.0,
      order-marked c.self.inside.rounds place frames c.self.invariant.1,
    )

pub returns-then-place-len : goal.returns-then-place-len
returns-then-place-len c =
    let place = c.saturating_sub-place.result in
    let frames = c.self.inside.frames.items in
    let p : place ≡ c.args.number - 1 = omega arith in
    let e : set frames place (with_mark c.index_mut.result.now)
    ≡ marked_at (c.args.number - 1) frames =
    mark-set place frames c.index_mut.result.now c.index_mut.ensures.value (omega arith)
    ∙ ap (λ n. marked_at n frames) p in
    rw e (ap (λ (f : Flow). record {
      frames = marked_at (c.args.number - 1) f.frames;
      rounds =
          f.rounds;
    }) c.self.view_is)

pub returns-else-place-len : goal.returns-else-place-len
returns-else-place-len c =
    let frames = c.self.inside.frames.items in
    let e : marked_at (c.args.number - 1) frames
    ≡ frames = mark-past (c.args.number - 1) frames (omega arith) in
    sym c.self.view_is ∙ ap (λ (l : List Put). record { frames = l; rounds = c.self.inside.rounds })
    (sym e)
    ∙ ap (λ (f : Flow). record {
      frames = marked_at (c.args.number - 1) f.frames;
      rounds =
          f.rounds;
    }) c.self.view_is
