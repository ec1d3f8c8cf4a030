use Rattle.std.proofs.Common.{◌∙◌, length}
use Rattle.member_notes.specs.declared.facts.Member.{Member}
use Rattle.member_notes.proofs.Totals.{capped}
use Rattle.member_notes.proofs.sums.MemberSums.of.Goals as goal

pub returns : goal.returns
returns c = λ t. record {
  members = length c.args.members.now;
  scis = c.in_ok-scis.ensures t;
  fell = (c.fell.ensures ∙ capped (λ (m : Member). m.counts.fell.count) c.args.members.now) t;
  servers = (c.servers.ensures ∙ capped (λ (m : Member). m.counts.servers.count) c.args.members.now) t;
  returned = (c.returned.ensures ∙ capped (λ (m : Member). m.counts.returned.count) c.args.members.now) t;
  high = (c.high.ensures ∙ capped (λ (m : Member). m.counts.high.count) c.args.members.now) t;
}
