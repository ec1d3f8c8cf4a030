-- What is behind a source or a sink over std's reader or writer (this profile's own).
use Rattle.lan_base.specs.declared.stream.StdSource.{StdSource}
use Rattle.lan_base.specs.declared.stream.StdSink.{StdSink}

-- the reader of a source
abbrev pub reader_of : {R : Type 0} → StdSource R → R
reader_of source = source.reader

-- the writer of a sink
abbrev pub writer_of : {W : Type 0} → StdSink W → W
writer_of sink = sink.writer
