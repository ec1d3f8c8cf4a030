use Rattle.std.proofs.Common.{◌≡◌}
use Rattle.workbench_cases.specs.Work.{extra_after, iv_after, tag_after}
use Rattle.workbench_cases.proofs.ciphers.work.last_tag.Given as goal

abbrev pub invariant-loop-done : goal.invariant-loop-done
invariant-loop-done g l = record {
  iv : l.iv ≡ iv_after l._done;
  extra : l.extra ≡ extra_after l.key g.row.N l._done;
  tag : l.tag ≡ tag_after l.key g.row.N l._done;
}
