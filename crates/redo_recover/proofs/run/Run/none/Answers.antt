use Rattle.std.proofs.Common.{refl}
use Rattle.redo_recover.proofs.Joining.{front-none}
use Rattle.redo_recover.proofs.run.Run.none.Goals as goal

pub returns : goal.returns
returns c = λ shape bytes. front-none shape bytes c.args.start _ c.new.ensures.items refl refl refl refl
