use Rattle.std.proofs.Common.{◌∙◌, sym, ap, arith}
use Rattle.std.specs.List.{find}
use Rattle.peer_lists.specs.Acceptance.{first_number}
use Rattle.peer_lists.specs.Histories.{recent}
use Rattle.mka_station.specs.declared.telling.Naming.{Naming}
use Rattle.mka_station.proofs.Tells.{first-named, recent-named, none-named}
use Rattle.mka_station.proofs.telling.named.Goals.{then-eq, else-eq}
use Rattle.mka_station.proofs.telling.named.Goals as goal

pub loop-pair-preserved : goal.loop-pair-preserved
loop-pair-preserved c =
    let b = c.args.before in
    let n = c.loop-pair.naming in
    let mi = c.args.mi.now in
    let pairs = c.args.pairs.now in
    let at = c.loop-pair.pair-index in
    let kept = c.loop-pair.invariant in
    elim c.if-eq.branch [
      | then-eq w ↦ record {
        first = first-named b.first n.first c.if-eq.naming.first mi pairs at _ (omega arith) (sym c.eq.ensures ∙ w.if-eq.true) kept.first (ap (λ (x : Naming). x.first) w.naming-is ∙ w.named_under-naming.ensures.first);
        recent = λ own h s. recent-named (recent h) b.recent n.recent c.if-eq.naming.recent mi pairs at _ (omega arith) (sym c.eq.ensures ∙ w.if-eq.true) (kept.recent own h s) (ap (λ (x : Naming). x.recent) w.naming-is ∙ w.named_under-naming.ensures.recent own h s);
      }
      | else-eq w ↦ record {
        first = ap (λ (x : Naming). x.first) w.naming-is ∙ none-named first_number b.first n.first mi pairs at _ (omega arith) (sym c.eq.ensures ∙ w.if-eq.false) kept.first;
        recent = λ own h s. ap (λ (x : Naming). x.recent) w.naming-is ∙ none-named (find (recent h)) b.recent n.recent mi pairs at _ (omega arith) (sym c.eq.ensures ∙ w.if-eq.false) (kept.recent own h s);
      }
    ]
