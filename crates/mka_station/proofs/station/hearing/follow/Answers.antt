use Rattle.std.proofs.Common.{◌≡◌, ◌∙◌, sym, subst, Option}
use Rattle.std.specs.Prelude.{IfOk}
use Rattle.sak_exchange.specs.Beginning.{Beginning}
use Rattle.sak_exchange.specs.Outcomes.{beginning}
use Rattle.mka_station.proofs.Follows.{followed-is}
use Rattle.mka_station.proofs.station.hearing.follow.Goals as goal

pub returns-in-Vouched-Some-clause-changes : goal.returns-in-Vouched-Some-clause-changes
returns-in-Vouched-Some-clause-changes c = λ base own h s.
    let e = followed-is c.args.outcome c.args.server c.args.announcement.now h c.in-Vouched-Some.uses c.in-Vouched-Some.is-0 c.in-Vouched-Some.is-1 (sym c.is_server.ensures ∙ c.if-is_server.true) in
    subst (λ (o : Option Beginning). IfOk c.follow.result (λ v. v ≡ (beginning h o).changes)) (sym e) (c.follow.ensures.changes base own h s)
