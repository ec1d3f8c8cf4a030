-- How a trace of one group is performed, and what is shown of it.
use Rattle.std.specs.Prelude.{◌≡◌, ℕ, Bool, true, false, List, [], ◌∷◌}
use Rattle.text_lines.specs.Texts.{lines_of}
use Rattle.lan_schedule.specs.Races.{Chance}
use Rattle.lan_schedule.specs.World.{World, beginning, is_racing}
use Rattle.lan_schedule.specs.Acts.{Act, Goes, Stops, course, IsOnWay}
use Rattle.lan_schedule.specs.Lines.{performed_all, performed_whole}
use Rattle.lan_schedule.specs.Sound.{IsTidy}
use Rattle.replay.specs.Runs.{Performing, Shows}
use Rattle.replay.specs.Shown.{summary_of, texts_of}

-- what all of a text performs, which doesn't end inside a race
abbrev pub whole : List ℕ → Act
whole text = performed_whole (lines_of text)

-- Lines are performed as chance decides, and a text as they are. A world that an act comes by has the
-- settings, the user frames and the races of the lines so far.
abbrev pub one_group : Performing Act World
one_group = record {
  lines = performed_all;
  whole = whole;
  Reaches = λ act w. (chances : List Chance) × (course act chances ≡ Goes w);
  Stops = λ act w halt. (chances : List Chance) × (course act chances ≡ Stops w halt);
  Passes = λ act w. (chances : List Chance) × IsOnWay act (beginning chances) w;
}

-- the transcript; or the summary, and nothing before the end
abbrev pub shown_by : Bool → Shows World
shown_by false = record { at_end = λ w. texts_of w.run; before = λ w. texts_of w.run }
shown_by true = record { at_end = λ w. summary_of w.run ∷ []; before = λ w. [] }

-- a tidy world that is in no race
pub record IsSettled (w : World) : Type 0 where
  pub tidy : IsTidy w
  pub apart : is_racing w.kept.phase ≡ false
