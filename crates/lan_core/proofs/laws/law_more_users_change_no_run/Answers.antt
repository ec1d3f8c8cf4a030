use Rattle.lan_core.proofs.MoreUsers.{stepped-more, legal-more, stands-more}
use Rattle.lan_core.proofs.laws.law_more_users_change_no_run.Goals as goal

pub returns-clause-stepped : goal.returns-clause-stepped
returns-clause-stepped c = stepped-more

pub returns-clause-legal : goal.returns-clause-legal
returns-clause-legal c = legal-more

pub returns-clause-stands : goal.returns-clause-stands
returns-clause-stands c = stands-more
