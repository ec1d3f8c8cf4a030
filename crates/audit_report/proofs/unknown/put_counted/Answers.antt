use Rattle.std.proofs.Common.{sym}
use Rattle.audit_report.proofs.unknown.put_counted.Goals as goal

pub returns : goal.returns
returns c = rw (sym c.number.ensures, sym c.number-2.ensures) c.put_line.ensures
