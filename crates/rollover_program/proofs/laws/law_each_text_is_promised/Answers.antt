use Rattle.std.proofs.Common.{◌≡◌, ◌<◌, ◌^◌, ℕ, Bool, true, false, List, length, take, arith}
use Rattle.std.specs.Prelude.{nat_le, cond}
use Rattle.text_lines.specs.Texts.{whole_lines, lines_of}
use Rattle.text_lines.specs.Reading.{lines_within}
use Rattle.replay.specs.Runs.{most_input, within}
use Rattle.replay.specs.OneGroup.{one_group, whole}
use Rattle.lan_schedule.specs.Races.{Chance}
use Rattle.lan_schedule.specs.World.{World, is_racing}
use Rattle.lan_schedule.specs.Acts.{course, world_of}
use Rattle.lan_schedule.specs.Lines.{performed_all, performed_whole}
use Rattle.lan_schedule.specs.Sound.{HasRunNone, IsTidy}
use Rattle.rollover_program.proofs.laws.law_each_text_is_promised.Goals as goal

-- a tidy world, in which no race is performed
abbrev IsCalm : World → Type 0
IsCalm w = IsTidy w × (is_racing w.kept.phase ≡ false)

-- lines that run no race leave one, and so do all of a trace
record AreCalm (chances : List Chance) : Type 0 where
  lines : (texts : List (List ℕ)) → length texts < 2 ^ 32
      → HasRunNone (course (performed_all texts) chances)
      → IsCalm (world_of (course (performed_all texts) chances))
  whole : (texts : List (List ℕ)) → length texts < 2 ^ 32
      → HasRunNone (course (performed_whole texts) chances)
      → IsCalm (world_of (course (performed_whole texts) chances))

calm-within : (chances : List Chance) (text : List ℕ) → AreCalm chances
    → length (lines_within most_input text) < 2 ^ 32
    → HasRunNone (course (within one_group text) chances)
    → IsCalm (world_of (course (within one_group text) chances))
calm-within chances text are few none = by (nat_le (length text) most_input) few none where
  by : (b : Bool)
      → length (cond b (lines_of text) (whole_lines (take most_input text))) < 2 ^ 32
      → HasRunNone (course (cond b (whole text) (performed_all (whole_lines (take most_input text)))) chances)
      → IsCalm (world_of (course
      (cond b (whole text) (performed_all (whole_lines (take most_input text)))) chances))
  by true few none = are.whole (lines_of text) few none
  by false few none = are.lines (whole_lines (take most_input text)) few none

pub returns : goal.returns
returns c = λ text chances none.
    let few = c.law_lines_are_few.ensures most_input text in
    let below : length (lines_within most_input text) < 2 ^ 32 = omega (arith, few) in
    let leaves = c.law_lines_leave_a_tidy_world.ensures in
    let calm = calm-within chances text (record {
      lines = λ texts lt none. (leaves.lines chances texts lt none, leaves.apart chances texts lt);
      whole = leaves.whole chances;
    }) below none in
    c.law_tidy_runs_are_promised.ensures (world_of (course (within one_group text) chances)) calm.0
    calm.1
