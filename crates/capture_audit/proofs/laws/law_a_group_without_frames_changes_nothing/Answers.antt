use Rattle.std.proofs.Common.{refl}
use Rattle.capture_audit.proofs.OtherGroup.{entries-same, lines-same, report-same, unwrapped-same, verdict-same}
use Rattle.capture_audit.proofs.laws.law_a_group_without_frames_changes_nothing.Goals as goal

pub returns : goal.returns
returns c = record {
  line = λ n cak ckn ring. refl;
  unwrapped = unwrapped-same;
  known = entries-same;
  verdict = λ ring keys packets v all. verdict-same ring keys packets v all;
  lines = λ asks ring keys packets all. lines-same ring keys asks packets all;
  report = λ asks ring keys packets v ending all. report-same ring keys asks packets v ending all;
}
