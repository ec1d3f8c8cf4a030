use Rattle.std.proofs.Common.{◌≡◌, ◌+◌, ◌++◌, [], ◌∷◌, List, ℕ, drop, append_assoc}
use Rattle.std.proofs.Common.{append-nil, sym, ap, ◌∙◌, subst, arith}
use Rattle.std.specs.Prelude.{cond}
use Rattle.lan_schedule.specs.Lines.{due_of}
use Rattle.lan_schedule.specs.World.{Flow}
use Rattle.lan_schedule.proofs.Flowing.{due-marked, due-late, due-next, due-past}
use Rattle.lan_schedule.proofs.frames.Frames.waiting.Goals as goal

pub loop-place-init : goal.loop-place-init
loop-place-init c =
    let e = due-marked c.args.lag c.self.inside.rounds c.self.inside.first
    c.self.inside.frames.items c.self.invariant.0 in
    subst (λ (f : Flow). due_of c.args.lag f.rounds f.frames ≡ c.new-numbers.result.items
    ++ due_of c.args.lag f.rounds (drop c.self.inside.first f.frames)) c.self.view_is
    (rw c.new-numbers.ensures.items (sym e))

pub loop-place-preserved : goal.loop-place-preserved
loop-place-preserved c =
    let nums = c.loop-place.numbers.items in
    let inv = subst (λ (f : Flow). due_of c.args.lag f.rounds f.frames ≡ nums
    ++ due_of c.args.lag f.rounds (drop c.loop-place.place f.frames)) (sym c.self.view_is)
    c.loop-place.invariant in
    let next = due-next c.args.lag c.self.inside.rounds c.loop-place.place
    c.self.inside.frames.items c.index-put.result.now c.index-put.ensures (omega arith)
    (omega arith) c.self.invariant.1 in
    let kept : nums ++ due_of c.args.lag c.self.inside.rounds
    (drop c.loop-place.place c.self.inside.frames.items)
    ≡ c.note.new.numbers.items ++ due_of c.args.lag c.self.inside.rounds
    (drop (c.loop-place.place + 1) c.self.inside.frames.items) =
    ap (λ (l : List ℕ). nums ++ l) next
    ∙ sym (append_assoc nums (cond c.index-put.result.now.marked []
    (c.index-put.result.now.number ∷ []))
    (due_of c.args.lag c.self.inside.rounds
    (drop (c.loop-place.place + 1) c.self.inside.frames.items)))
    ∙ ap (λ (l : List ℕ). l ++ due_of c.args.lag c.self.inside.rounds
    (drop (c.loop-place.place + 1) c.self.inside.frames.items)) (sym c.in_ok-note.ensures) in
    subst (λ (f : Flow). due_of c.args.lag f.rounds f.frames ≡ c.note.new.numbers.items
    ++ due_of c.args.lag f.rounds (drop (c.loop-place.place + 1) f.frames)) c.self.view_is
    (inv ∙ kept)

pub returns-then-saturating_sub-from : goal.returns-then-saturating_sub-from
returns-then-saturating_sub-from c =
    let nums = c.loop-place.numbers.items in
    let inv = subst (λ (f : Flow). due_of c.args.lag f.rounds f.frames ≡ nums
    ++ due_of c.args.lag f.rounds (drop c.loop-place.place f.frames)) (sym c.self.view_is)
    c.loop-place.invariant in
    let late = due-late c.args.lag c.self.inside.rounds c.loop-place.place
    c.self.inside.frames.items c.index-put.result.now c.index-put.ensures (omega arith)
    (omega arith) c.self.invariant.1 in
    subst (λ (f : Flow). nums ≡ due_of c.args.lag f.rounds f.frames) c.self.view_is
    (sym (inv ∙ ap (λ (l : List ℕ). nums ++ l) late ∙ append-nil nums))

pub returns : goal.returns
returns c =
    let nums = c.loop-place.numbers.items in
    let inv = subst (λ (f : Flow). due_of c.args.lag f.rounds f.frames ≡ nums
    ++ due_of c.args.lag f.rounds (drop c.loop-place.place f.frames)) (sym c.self.view_is)
    c.loop-place.invariant in
    let past = due-past c.args.lag c.self.inside.rounds c.loop-place.place
    c.self.inside.frames.items (omega arith) in
    subst (λ (f : Flow). nums ≡ due_of c.args.lag f.rounds f.frames) c.self.view_is
    (sym (inv ∙ ap (λ (l : List ℕ). nums ++ l) past ∙ append-nil nums))
