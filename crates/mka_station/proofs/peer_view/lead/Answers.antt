use Rattle.std.proofs.Common.{◌≡◌, cond, None, Option, ap, sym, subst, Bool}
use Rattle.std.specs.Result.{IfOk}
use Rattle.sak_exchange.specs.Beginning.{Beginning, leads}
use Rattle.sak_exchange.specs.Outcomes.{beginning}
use Rattle.mka_station.proofs.peer_view.lead.Goals as goal

pub returns-then-serves-clause-changes : goal.returns-then-serves-clause-changes
returns-then-serves-clause-changes c = λ base own h s.
    let l = leads h c.args.reports.now in
    let e : l ≡ cond c.args.serves l None = ap (λ (b : Bool). cond b l None) (sym c.if-serves.true) in
    subst (λ (o : Option Beginning). IfOk c.lead.result (λ v. v ≡ (beginning h o).changes)) e (c.lead.ensures.changes base own h s)
