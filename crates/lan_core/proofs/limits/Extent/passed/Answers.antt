use Rattle.std.proofs.Common.{rules}
use Rattle.lan_core.proofs.limits.Extent.passed.Goals as goal

pub returns-then-self-gt-OCTETS_MAX : goal.returns-then-self-gt-OCTETS_MAX
returns-then-self-gt-OCTETS_MAX c = search rules

pub returns-then-self-gt-TICKS_MAX : goal.returns-then-self-gt-TICKS_MAX
returns-then-self-gt-TICKS_MAX c = search rules

pub returns-then-self-gt-INSTALLS_MAX : goal.returns-then-self-gt-INSTALLS_MAX
returns-then-self-gt-INSTALLS_MAX c = search rules

pub returns-then-self-gt-STATIONS_MAX : goal.returns-then-self-gt-STATIONS_MAX
returns-then-self-gt-STATIONS_MAX c = search rules

pub returns-else-self-gt-STATIONS_MAX : goal.returns-else-self-gt-STATIONS_MAX
returns-else-self-gt-STATIONS_MAX c = search rules
