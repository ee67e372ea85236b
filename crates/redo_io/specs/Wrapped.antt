-- A source over a reader and a sink over a writer: what they hold, and what one call does to it. Where the reader tells
-- what it has left, or the writer what it holds, no byte is lost or made up on the way.
use Rattle.std.specs.Prelude.{ℕ, ◌≡◌, List, Option, Result, Ok, Err}
use Rattle.std.specs.Io.KnownBytes.{ReadConsumes, WriteAppends}
use Rattle.redo_io.specs.Ends.{saturating_next}
use Rattle.redo_io.specs.declared.fault.IoFault.{IoFault}
use Rattle.redo_io.specs.declared.reader_source.ReaderSource.{ReaderSource}
use Rattle.redo_io.specs.declared.writer_sink.WriterSink.{WriterSink}

-- the reader behind the source
abbrev pub reader_of : {R : Type 0} → ReaderSource R → R
reader_of source = source.reader

-- how often the source has failed
abbrev pub source_faults : {R : Type 0} → ReaderSource R → ℕ
source_faults source = source.faults

-- the writer behind the sink
abbrev pub writer_of : {W : Type 0} → WriterSink W → W
writer_of sink = sink.writer

-- how often the sink has failed
abbrev pub sink_faults : {W : Type 0} → WriterSink W → ℕ
sink_faults sink = sink.faults

-- the count of faults after a call: one more where it failed
abbrev pub CountsFault : {T : Type 0} → ℕ → Result T IoFault → ℕ → Type 0
CountsFault old (Ok value) new = new ≡ old
CountsFault old (Err fault) new = new ≡ saturating_next old

-- A read through the source: the bytes that it gives are gone from the reader, and none is where it failed. It finds the
-- end only where nothing is left.
pub record ReadsReader {R : Type 0} (remaining : R → Option (List ℕ)) (old : ReaderSource R) (room : ℕ)
    (result : Result ℕ IoFault) (out : List ℕ) (new : ReaderSource R) : Type 0 where
  pub taken : ReadConsumes (remaining old.reader) (remaining new.reader) result out
  pub faults : CountsFault old.faults result new.faults

-- A write through the sink: the writer holds the bytes that it took after the others, and nothing more where it failed.
pub record WritesWriter {W : Type 0} (contents : W → Option (List ℕ)) (old : WriterSink W) (bytes : List ℕ)
    (result : Result ℕ IoFault) (new : WriterSink W) : Type 0 where
  pub held : WriteAppends (contents old.writer) (contents new.writer) result bytes
  pub faults : CountsFault old.faults result new.faults
