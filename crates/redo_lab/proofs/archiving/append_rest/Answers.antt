use Rattle.std.proofs.Common.{refl}
use Rattle.redo_lab.proofs.archiving.append_rest.Goals as goal

pub returns : goal.returns
returns g c = record {
  read = refl;
  finishes = c.finish_archive.ensures.finishes;
  done = λ ended. c.finish_archive.ensures.done;
}
