use Rattle.std.proofs.Common.{◌≡◌, ℕ, ◌*◌, ◌%◌, ◌<◌, length, get_or}
use Rattle.workbench_cases.proofs.ciphers.work.stepped.Given as goal

abbrev pub invariant-loop-octet : goal.invariant-loop-octet
invariant-loop-octet g l = record {
  count : length l.octet-items ≡ g.row.N;
  next : l.next ≡ l.step * l.octet-index % 256;
  before : (k : ℕ) → k < l.octet-index → get_or l.octet-items k 0 ≡ l.step * k % 256;
}
