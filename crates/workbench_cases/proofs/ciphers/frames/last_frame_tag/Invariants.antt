use Rattle.std.proofs.Common.{◌≡◌, ◌≤◌, length}
use Rattle.std.specs.Prelude.{vec_capacity}
use Rattle.workbench_cases.specs.Frames.{destination_after, frame_tag_after}
use Rattle.workbench_cases.specs.Work.{stepped}
use Rattle.workbench_cases.proofs.ciphers.frames.last_frame_tag.Given as goal

abbrev pub invariant-loop-done : goal.invariant-loop-done
invariant-loop-done l = record {
  destination : l.user.destination.0 ≡ destination_after l.done;
  body : l.user.body ≡ stepped 7 1488;
  count : length l.user.body ≡ 1488;
  room : 1532 ≤ vec_capacity l.frame;
  tag : l.tag ≡ frame_tag_after l.done;
}
