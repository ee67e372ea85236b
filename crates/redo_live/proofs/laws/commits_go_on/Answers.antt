use Rattle.redo_live.proofs.GoneOn.{goes_further, goes_nowhere, refused_goes, unread_goes}
use Rattle.redo_live.proofs.laws.commits_go_on.Goals as goal

pub returns-clause-same : goal.returns-clause-same
returns-clause-same g c = goes_nowhere

pub returns-clause-further : goal.returns-clause-further
returns-clause-further g c = goes_further

pub returns-clause-refused : goal.returns-clause-refused
returns-clause-refused g c = refused_goes

pub returns-clause-unread : goal.returns-clause-unread
returns-clause-unread g c = unread_goes
