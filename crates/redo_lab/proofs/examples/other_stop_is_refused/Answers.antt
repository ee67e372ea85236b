use Rattle.redo_lab.proofs.examples.other_stop_is_refused.Goals as goal

pub returns : goal.returns
returns c = λ limit pick device is other. other is.limit_is
