use Rattle.std.proofs.Common.{◌∙◌, ℕ, List, Err, ap, length, ◌<◌, subst, sym, take}
use Rattle.std.proofs.lemmas.Result.{err_from_is_err_and}
use Rattle.capture_packets.specs.Packets.{context}
use Rattle.capture_packets.specs.Captures.{framed}
use Rattle.capture_packets.specs.inside.Taking.{Looks}
use Rattle.capture_packets.proofs.Framed.{empty-front, front-short, frames-by, frames-look, frames-none, looks-stands, sees, some-front, take-least}
use Rattle.capture_packets.proofs.reader.PacketReader.frame.Goals as goal

pub returns-in_err-is_past-clause-frames : goal.returns-in_err-is_past-clause-frames
returns-in_err-is_past-clause-frames g c = λ limit text given behind s visible.
    let p = err_from_is_err_and c.from_residual.result c.from_residual.ensures.1 in
    rw (p.1, p.2) (frames-look limit text given behind (context c.args.self.now.state) c.args.at
    c.look.new.supply c.look.new.supply _ c.in_err-is_past.field-0.0
    (subst (λ (k : ℕ). Looks limit text given k c.look.new.supply (g.S.Source.left c.look.new.source)
    (Err c.in_err-is_past.field-0.0)) c.most_fields-most.ensures.value
    (c.in_err-is_past.ensures.looks limit text given s)))

pub returns-then-is_empty-clause-frames : goal.returns-then-is_empty-clause-frames
returns-then-is_empty-clause-frames g c = λ limit text given behind s visible.
    let l = c.in_ok-is_past.ensures.looks limit text given s in
    let e = sees limit text given behind c.most_fields-most.result c.look.new.supply (g.S.Source.left c.look.new.source)
    c.in_ok-is_past.is_past c.most_fields-most.ensures.some visible l in
    let none = empty-front c.held-held.result.now c.min.result c.most_fields-most.result c.most_fields-most.ensures.some
    c.min.ensures
    (sym c.is_empty.ensures ∙ c.if-is_empty.true) in
    rw c.no_block.ensures (frames-none limit text given behind c.look.new.supply.octets
    (context c.args.self.now.state) c.args.at c.look.new.supply _ c.most_fields-most.result c.in_ok-is_past.is_past
    c.most_fields-most.ensures.some e
    (sym c.held-held.ensures ∙ none))

pub returns-clause-frames : goal.returns-clause-frames
returns-clause-frames g c = λ limit text given behind s visible.
    let l = c.in_ok-is_past.ensures.looks limit text given s in
    let e = sees limit text given behind c.most_fields-most.result c.look.new.supply (g.S.Source.left c.look.new.source)
    c.in_ok-is_past.is_past c.most_fields-most.ensures.some visible l in
    let known = context c.args.self.now.state in
    let held = c.held-held.result.now in
    let most = c.most_fields-most.result in
    let some = some-front held c.min.result most c.min.ensures (sym c.is_empty.ensures ∙ c.if-is_empty.false) in
    let front = ap (λ (k : ℕ). take k held) c.min.ensures ∙ take-least most held ∙ ap (take most) c.held-held.ensures in
    rw c.judged.ensures (frames-by limit text given behind c.look.new.supply.octets known c.args.at
    c.look.new.supply _ most c.in_ok-is_past.is_past c.frame.result
    (looks-stands limit text given most c.look.new.supply _ c.in_ok-is_past.is_past l) e
    (λ none. some (c.held-held.ensures ∙ none))
    (ap (λ (k : ℕ). framed known known.layout (take k behind)) (sym c.most_fields-most.ensures.value)
    ∙ ap (framed known known.layout) (e.same ∙ sym front) ∙ sym c.frame.ensures.value)
    (λ cut. subst (λ (l : List ℕ). length l < most) c.held-held.ensures
    (front-short held c.min.result most c.min.ensures
    (subst (λ (k : ℕ). length (take c.min.result held) < k) (sym c.most_fields-most.ensures.value)
    (c.frame.ensures.cut cut)))))
