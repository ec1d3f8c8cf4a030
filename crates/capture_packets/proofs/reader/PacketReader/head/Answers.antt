use Rattle.std.proofs.Common.{◌<◌, ◌∙◌, ℕ, List, ap, arith, length, subst, sym, take}
use Rattle.std.proofs.lemmas.Result.{err_from_is_err_and}
use Rattle.capture_packets.specs.Captures.{head_in}
use Rattle.capture_packets.proofs.Framed.{looks-stands, sees, take-least}
use Rattle.capture_packets.proofs.Opened.{front-within, heads-by, heads-look}
use Rattle.capture_packets.proofs.reader.PacketReader.head.Goals as goal

pub returns-in_err-is_past-clause-reads : goal.returns-in_err-is_past-clause-reads
returns-in_err-is_past-clause-reads g c = λ limit text given file s visible.
    let p = err_from_is_err_and c.from_residual.result c.from_residual.ensures.1 in
    rw (p.1, p.2) (heads-look limit text given file c.look.new.supply c.look.new.supply _
    c.in_err-is_past.field-0.0 (c.in_err-is_past.ensures.looks limit text given s))

pub returns-clause-reads : goal.returns-clause-reads
returns-clause-reads g c = λ limit text given file s visible.
    let l = c.in_ok-is_past.ensures.looks limit text given s in
    let e = sees limit text given file 24 c.look.new.supply (g.S.Source.left c.look.new.source)
    c.in_ok-is_past.is_past (omega arith) visible l in
    let held = c.held-held.result.now in
    let front = ap (λ (k : ℕ). take k held) c.min.ensures ∙ take-least 24 held ∙ ap (take 24) c.held-held.ensures in
    rw c.judged_head.ensures (heads-by limit text given file c.look.new.supply.octets c.look.new.supply _
    c.in_ok-is_past.is_past c.read_head.result
    (looks-stands limit text given 24 c.look.new.supply _ c.in_ok-is_past.is_past l) e
    (ap head_in (e.same ∙ sym front) ∙ sym c.read_head.ensures.value)
    (λ cut. subst (λ (l : List ℕ). length l < 24) c.held-held.ensures
    (front-within held c.min.result c.min.ensures (c.read_head.ensures.cut cut))))
