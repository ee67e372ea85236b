use Rattle.std.proofs.Common.{refl}
use Rattle.redo_archive.proofs.Applied.{read-none}
use Rattle.redo_archive.proofs.groups.Groups.none.Goals as goal

pub returns-clause-read : goal.returns-clause-read
returns-clause-read c aim start_is pages_are =
    read-none aim c.args.start c.args.pages _ start_is pages_are refl c.new.ensures.items refl refl refl refl
