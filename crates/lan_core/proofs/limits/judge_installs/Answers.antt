use Rattle.std.proofs.Common.{rules}
use Rattle.lan_core.proofs.limits.judge_installs.Goals as goal

pub returns-then-installs-gt-INSTALLS_MAX : goal.returns-then-installs-gt-INSTALLS_MAX
returns-then-installs-gt-INSTALLS_MAX c = search rules

pub returns-else-installs-gt-INSTALLS_MAX : goal.returns-else-installs-gt-INSTALLS_MAX
returns-else-installs-gt-INSTALLS_MAX c = search rules
