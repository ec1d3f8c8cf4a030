use Rattle.std.proofs.Common.{◌≡◌, ◌∙◌, ◌-◌, ℕ, Ok, Err, arith, ap, length, subst}
use Rattle.std.proofs.lemmas.Result.{err_from_is_err_and}
use Rattle.capture_packets.specs.Packets.{context}
use Rattle.capture_packets.specs.Captures.{closing, size}
use Rattle.capture_packets.specs.inside.Taking.{Closes, Finishes, TakesBlock}
use Rattle.capture_packets.specs.declared.state.State.{State}
use Rattle.capture_packets.proofs.Framed.{steps-frame}
use Rattle.capture_packets.proofs.Stepped.{IsWhole, closed, steps-close, steps-finish, steps-short, steps-take, taken-less, taken-whole}
use Rattle.capture_packets.proofs.reader.PacketReader.step.Goals as goal

pub returns-in_err-block-clause-steps : goal.returns-in_err-block-clause-steps
returns-in_err-block-clause-steps g c = λ limit text given behind s visible.
    let p = err_from_is_err_and c.from_residual.result c.from_residual.ensures.1 in
    let f = c.in_err-block.ensures.frames limit text given behind s visible in
    rw (p.1, p.2) (steps-frame limit text given behind (context c.args.self.now.state)
    (context c.frame.new.self.state) (length given - c.args.self.now.start) c.saturating_sub-at.result
    c.args.packet.now c.frame.new.self.supply c.frame.new.self.supply _ c.in_err-block.field-0.0
    (let a = c.given-given.ensures in let b = c.saturating_sub-at.ensures in let d = s.count in omega (arith, a, b, d))
    f)

pub returns-in_default-clause-steps : goal.returns-in_default-clause-steps
returns-in_default-clause-steps g c = λ limit text given behind s visible.
    let f = c.in_ok-block.ensures.frames limit text given behind s visible in rw c.in_default.is at f

pub returns-in_err-take_block-clause-steps : goal.returns-in_err-take_block-clause-steps
returns-in_err-take_block-clause-steps g c = λ limit text given behind s visible.
    let known = context c.args.self.now.state in
    let f = c.in_ok-block.ensures.frames limit text given behind s visible in
    let block = rw c.in-Some.is at f in
    let t = c.in_err-take_block.ensures.takes limit text given behind block.0 visible in
    let p = err_from_is_err_and c.from_residual-in_err-take_block.result c.from_residual-in_err-take_block.ensures.1 in
    let end = c.closing-closing.ensures.value ∙ ap (λ (s : State). closing s.layout) c.frame.ensures.state in
    rw (p.1, p.2) (steps-take limit text given behind known (context c.frame.new.self.state)
    (length given - c.args.self.now.start) c.closing-closing.result c.in-Some.block c.args.packet.now
    c.take_block.new.into.items c.take_block.new.supply c.take_block.new.supply
    (g.S.Source.left c.take_block.new.source) c.in_err-take_block.field-0.0 block.2 end t)

pub returns-then-from-size-clause-steps : goal.returns-then-from-size-clause-steps
returns-then-from-size-clause-steps g c = λ limit text given behind s visible.
    let known = context c.args.self.now.state in
    let start = c.args.self.now.start in
    let b = c.in-Some.block in
    let f = c.in_ok-block.ensures.frames limit text given behind s visible in
    let block = rw c.in-Some.is at f in
    let same = c.frame.ensures.state in
    let end = c.closing-closing.ensures.value ∙ ap (λ (s : State). closing s.layout) same in
    let all : c.size.result ≡ size known.layout b =
    c.size.ensures ∙ ap (λ (s : State). size s.layout b) same in
    let left = g.S.Source.left c.take_block.new.source in
    let new = c.take_block.new.supply in
    let into = c.take_block.new.into.items in
    let t = subst (λ (k : ℕ). TakesBlock limit text given behind k b into new left (Ok tt)) end
    (c.in_ok-take_block.ensures.takes limit text given behind block.0 visible) in
    let old = c.given-given.ensures ∙ s.count in
    let place : c.saturating_sub-at.result ≡ length given - start =
    c.saturating_sub-at.ensures ∙ ap (λ (k : ℕ). k - start) old in
    let taken : c.from.result ≡ new.given - c.given-given.result =
    c.from.ensures ∙ c.saturating_sub-taken.ensures ∙ ap (λ (k : ℕ). k - c.given-given.result) c.given.ensures in
    let less = taken-less limit text given behind (size known.layout b) c.given-given.result new left t.0 old
    (omega (arith, taken, all, c.if-from-size.true)) in
    steps-short limit text given behind known (context c.frame.new.self.state) (length given - start)
    c.saturating_sub-at.result b c.args.packet.now new left place block.1 block.2 less (t.2 less)

pub returns-in-Err-clause-steps : goal.returns-in-Err-clause-steps
returns-in-Err-clause-steps g c = λ limit text given behind s visible.
    let known = context c.args.self.now.state in
    let start = c.args.self.now.start in
    let b = c.in-Some.block in
    let f = c.in_ok-block.ensures.frames limit text given behind s visible in
    let block = rw c.in-Some.is at f in
    let same = c.frame.ensures.state in
    let end = c.closing-closing.ensures.value ∙ ap (λ (s : State). closing s.layout) same in
    let all : c.size.result ≡ size known.layout b =
    c.size.ensures ∙ ap (λ (s : State). size s.layout b) same in
    let left = g.S.Source.left c.take_block.new.source in
    let new = c.take_block.new.supply in
    let into = c.take_block.new.into.items in
    let t = subst (λ (k : ℕ). TakesBlock limit text given behind k b into new left (Ok tt)) end
    (c.in_ok-take_block.ensures.takes limit text given behind block.0 visible) in
    let old = c.given-given.ensures ∙ s.count in
    let place : c.saturating_sub-at.result ≡ length given - start =
    c.saturating_sub-at.ensures ∙ ap (λ (k : ℕ). k - start) old in
    let taken : c.from.result ≡ new.given - c.given-given.result =
    c.from.ensures ∙ c.saturating_sub-taken.ensures ∙ ap (λ (k : ℕ). k - c.given-given.result) c.given.ensures in
    let whole = taken-whole limit text given behind (size known.layout b) c.given-given.result new left t.0 old
    (omega (arith, taken, all, c.if-from-size.false)) in
    let w : IsWhole known behind b into = record { frame = block.2; all = whole; taken = t.1 } in
    let closes = subst (λ (s : State). Closes s.layout s.order b into c.close.new.octets.items (Err c.in-Err.why)) same
    c.in-Err.ensures in
    steps-close limit text given behind known (context c.frame.new.self.state) (length given - start)
    c.saturating_sub-at.result b c.args.packet.now into c.close.new.octets.items new left c.in-Err.why
    place block.1 w closes

pub returns-clause-steps : goal.returns-clause-steps
returns-clause-steps g c = λ limit text given behind s visible.
    let known = context c.args.self.now.state in
    let start = c.args.self.now.start in
    let b = c.in-Some.block in
    let f = c.in_ok-block.ensures.frames limit text given behind s visible in
    let block = rw c.in-Some.is at f in
    let same = c.frame.ensures.state in
    let end = c.closing-closing.ensures.value ∙ ap (λ (s : State). closing s.layout) same in
    let all : c.size.result ≡ size known.layout b =
    c.size.ensures ∙ ap (λ (s : State). size s.layout b) same in
    let left = g.S.Source.left c.take_block.new.source in
    let new = c.take_block.new.supply in
    let into = c.take_block.new.into.items in
    let t = subst (λ (k : ℕ). TakesBlock limit text given behind k b into new left (Ok tt)) end
    (c.in_ok-take_block.ensures.takes limit text given behind block.0 visible) in
    let old = c.given-given.ensures ∙ s.count in
    let place : c.saturating_sub-at.result ≡ length given - start =
    c.saturating_sub-at.ensures ∙ ap (λ (k : ℕ). k - start) old in
    let taken : c.from.result ≡ new.given - c.given-given.result =
    c.from.ensures ∙ c.saturating_sub-taken.ensures ∙ ap (λ (k : ℕ). k - c.given-given.result) c.given.ensures in
    let whole = taken-whole limit text given behind (size known.layout b) c.given-given.result new left t.0 old
    (omega (arith, taken, all, c.if-from-size.false)) in
    let w : IsWhole known behind b into = record { frame = block.2; all = whole; taken = t.1 } in
    let closes = subst (λ (s : State). Closes s.layout s.order b into c.close.new.octets.items (Ok tt)) same
    c.in_default-close.ensures in
    let some = c.in_ok-block.ensures.some in
    let k = closed known behind b into c.close.new.octets.items w closes in
    let finishes = subst (λ (s : State). Finishes (context s) b.what c.close.new.octets.items
    c.saturating_sub-at.result c.finish.new.packet (context c.finish.new.self) c.finish.result) same
    c.finish.ensures.finishes in
    steps-finish limit text given behind known (context c.finish.new.self) (length given - start)
    c.saturating_sub-at.result b c.finish.new.packet c.close.new.octets.items new left c.finish.result
    place block.1 (rw c.in-Some.is at some) whole t.0 k finishes
