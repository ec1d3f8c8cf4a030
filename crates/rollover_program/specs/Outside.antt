-- What a command has of the outside: a source and a sink, before it and behind it.
use Rattle.lan_base.specs.declared.sink.Sink.{Ghosts as SinkGhosts}
use Rattle.lan_base.specs.declared.source.Source.{Ghosts as SourceGhosts}
use Rattle.text_lines.specs.Reading.{Sourced, sourced}
use Rattle.replay.specs.Sinks.{Sunk, sunk}

-- what the source was and is, and what the sink was and is
pub record Outside : Type 0 where
  pub left : Sourced
  pub now : Sourced
  pub old : Sunk
  pub new : Sunk

-- by what is told of a source and of a sink
abbrev pub outside : {S K : Type 0} → SourceGhosts S → SinkGhosts K → S → S → K → K → Outside
outside S K source source_now sink sink_now = record {
  left = sourced (S.left source) (S.faults source);
  now = sourced (S.left source_now) (S.faults source_now);
  old = sunk (K.held sink) (K.faults sink);
  new = sunk (K.held sink_now) (K.faults sink_now);
}
