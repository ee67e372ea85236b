-- What the fields of the flusher stand for.
use Rattle.model_core.specs.{FlusherState}
use Rattle.redo_logactors.specs.declared.flusher.Flusher.TheInside.{Inside}

abbrev pub flusher_view : Inside → FlusherState
flusher_view f = record { last = f.last; write = f.write; mark = f.mark; code = f.code; checks = f.checks; step = f.step }
