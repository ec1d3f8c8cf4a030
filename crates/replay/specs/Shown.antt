-- What is written of a run (this profile's own rule).
use Rattle.std.specs.Prelude.{ℕ, List, map}
use Rattle.lan_core.specs.Run.{Run, facts_of}
use Rattle.fact_tally.specs.Summary.{summary}
use Rattle.transcript.specs.Rendering.{transcript}
use Rattle.lan_schedule.specs.Reports.{Report, reports}
use Rattle.replay.specs.Sinks.{joined}

-- the lines of what an event showed, under the names that the stations have by then
abbrev pub text_of : Report → List ℕ
text_of report = transcript report.names report.facts

-- those of a run's events, the oldest first
abbrev pub texts_of : Run → List (List ℕ)
texts_of r = map text_of (reports r)

-- the transcript of a run
abbrev pub written : Run → List ℕ
written r = joined (texts_of r)

-- the summary line of all facts of a run
abbrev pub summary_of : Run → List ℕ
summary_of r = summary (facts_of r)
