-- How a trace of two groups is performed, and what is shown of it.
use Rattle.std.specs.Prelude.{◌≡◌}
use Rattle.text_lines.specs.Texts.{lines_of}
use Rattle.twin_schedule.specs.World.{World, beginning}
use Rattle.twin_schedule.specs.Acts.{Act, Goes, Stops, perform}
use Rattle.twin_schedule.specs.Lines.{performed_all}
use Rattle.twin_schedule.specs.Reports.{reports}
use Rattle.twin_schedule.specs.Ends.{Begins, reported}
use Rattle.replay.specs.Runs.{Performing, Shows}
use Rattle.replay.specs.twin.Written.{texts_of}

-- lines are performed from the beginning, and a text as its lines are
abbrev pub two_groups : Performing Act World
two_groups = record {
  lines = performed_all;
  whole = λ text. performed_all (lines_of text);
  Reaches = λ act w. perform act beginning ≡ Goes w;
  Stops = λ act w halt. perform act beginning ≡ Stops w halt;
  Passes = λ act w. Begins (reports w.run) (reported (perform act beginning));
}

-- the transcript of both groups, at the end and before it
abbrev pub transcript : Shows World
transcript = record { at_end = λ w. texts_of w.run; before = λ w. texts_of w.run }
