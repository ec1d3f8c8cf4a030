use Rattle.std.specs.Prelude.{codes}
use Rattle.std.proofs.lemmas.Result.{on_ok_weaker}
use Rattle.audit_report.specs.Members.{kind_words, member_words}
use Rattle.audit_report.proofs.Appending.{in_two}
use Rattle.audit_report.proofs.members.put_member.Goals as goal

pub returns : goal.returns
returns c =
    let m = c.args.member.now in
    on_ok_weaker c.end_member.result
    (λ last. in_two _ _ _ (codes "member") (member_words m) (kind_words m.counts) c.in_ok-begin_member.ensures last)
    c.end_member.ensures
