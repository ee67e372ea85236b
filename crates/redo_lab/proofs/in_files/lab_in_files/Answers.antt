use Rattle.redo_lab.proofs.AtRest.{uncalled-rests}
use Rattle.redo_lab.proofs.in_files.lab_in_files.Goals as goal

pub returns-clause-at_entry : goal.returns-clause-at_entry
returns-clause-at_entry g c = (
  uncalled-rests g.H.Contents.bytes c.args.log c.requires.log_uncalled,
  uncalled-rests g.K.Contents.bytes c.args.store c.requires.data_uncalled,
  uncalled-rests g.T.Contents.bytes c.args.arch c.requires.archive_uncalled,
)
