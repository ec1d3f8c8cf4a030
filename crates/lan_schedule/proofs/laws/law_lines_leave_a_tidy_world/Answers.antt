use Rattle.lan_schedule.proofs.Beginning.{tidy-beginning}
use Rattle.lan_schedule.proofs.EachLine.{lines-calm, lines-apart, trace-calm}
use Rattle.lan_schedule.proofs.laws.law_lines_leave_a_tidy_world.Goals as goal

pub returns-clause-start : goal.returns-clause-start
returns-clause-start c = tidy-beginning

pub returns-clause-lines : goal.returns-clause-lines
returns-clause-lines c = λ chances lines below none. (lines-calm chances lines below none).0

pub returns-clause-calm : goal.returns-clause-calm
returns-clause-calm c = λ chances lines below none. (lines-calm chances lines below none).1

pub returns-clause-apart : goal.returns-clause-apart
returns-clause-apart c = λ chances lines below. lines-apart chances lines

pub returns-clause-whole : goal.returns-clause-whole
returns-clause-whole c = λ chances lines below none.
    let calm = trace-calm chances lines below none in (calm.0, calm.2)
