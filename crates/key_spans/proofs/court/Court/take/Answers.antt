use Rattle.key_spans.proofs.Ruling.{court-taken}
use Rattle.key_spans.proofs.court.Court.take.Goals as goal

pub returns : goal.returns
returns c =
    court-taken c.args.fact.now c.args.at c.args.self.now c.self.inside.own c.member_after-self-inside.result
    c.self.inside.reigns c.rule.new.row c.crown.new.row c.is_over_by.result c.is_begun_by-begins.result c.crown.result
    c.self.view_is c.is_over_by.ensures c.is_begun_by-begins.ensures c.member_after-self-inside.ensures c.rule.ensures
    c.crown.ensures
