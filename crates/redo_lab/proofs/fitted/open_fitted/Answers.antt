-- A store is opened on armed fuses, for a script that fits it.
use Rattle.std.proofs.Common.{refl, ◌∙◌}
use Rattle.redo_lab.proofs.Entered.{both-entries, both-same, entries-then}
use Rattle.redo_lab.proofs.Opened.{is-opening, misfits, opens-keeps, opens-ready, opens-unmoved, stands-ready, unjudged, unopened-comes}
use Rattle.redo_lab.specs.Call.{call_on}
use Rattle.redo_lab.proofs.fitted.open_fitted.Goals as goal

pub returns-in-Err-clause-ready : goal.returns-in-Err-clause-ready
returns-in-Err-clause-ready g c = λ handed log_entry data_entry command asked stops running same room armed uncalled. rw c.unopened.ensures
    (unopened-comes (call_on g.L.Sectors.seen g.L.Sectors.gives g.D.Sectors.seen g.D.Sectors.gives handed log_entry data_entry c.in-Err.log c.in-Err.store)
    command asked stops c.args.script.now running c.laws.ensures _ _ (opens-keeps _ _ _ _ _ c.in-Err.ensures.safely) c.in-Err.fault _ _ refl refl
    (is-opening handed log_entry data_entry armed uncalled c.in-Err.ensures.called.log_calls c.in-Err.ensures.called.data_calls) armed.data_device.same.size (opens-unmoved _ _ _ _ (c.in-Err.fault, c.in-Err.log, c.in-Err.store) c.in-Err.ensures.safely) c.in-Err.ensures.cause)

pub returns-in-Ok-judge-clause-ready : goal.returns-in-Ok-judge-clause-ready
returns-in-Ok-judge-clause-ready g c = λ handed log_entry data_entry command asked stops running same room armed uncalled.
    let fits = c.fitting_script.ensures _ _ _ _ _ c.in-Ok.ensures.runnable.limits c.requires (rw c.room_from-room_end.ensures at c.in-Ok-judge.ensures.fits) in
    stands-ready g.L.Sectors.seen g.D.Sectors.seen _ command asked stops c.args.script.now running c.laws.ensures _ _ c.in-Ok.opened
    (is-opening handed log_entry data_entry armed uncalled c.in-Ok.ensures.called.log_calls c.in-Ok.ensures.called.data_calls)
    (opens-keeps _ _ _ _ _ c.in-Ok.ensures.safely) c.in-Ok.ensures.runnable c.in-Ok.ensures.read (opens-ready _ _ _ _ c.in-Ok.opened c.in-Ok.ensures.safely) (rw same at fits)
    (rw room at (c.fitting_archive.ensures _ _ _ _ _ c.in-Ok-judge.ensures.fits))

pub returns-in-Err-Misfit-clause-ready : goal.returns-in-Err-Misfit-clause-ready
returns-in-Err-Misfit-clause-ready g c = λ handed log_entry data_entry command asked stops running same room armed uncalled.
    rw (c.unplayed.ensures.course, c.unplayed.ensures.log, c.unplayed.ensures.store, c.into_dev.ensures, c.into_dev-in-Err-Misfit.ensures)
    (misfits g.L.Sectors.seen g.D.Sectors.seen _ command asked stops c.args.script.now running c.laws.ensures _ _ c.in-Ok.opened
    (is-opening handed log_entry data_entry armed uncalled c.in-Ok.ensures.called.log_calls c.in-Ok.ensures.called.data_calls)
    (opens-keeps _ _ _ _ _ c.in-Ok.ensures.safely) c.in-Ok.ensures.runnable c.in-Ok.ensures.read c.in-Err-Misfit.misfit
    (rw (same, room) at rw (c.room_from-room_end.ensures, c.in-Err-Misfit.field-0-is) at c.in-Err-Misfit.ensures.unfit))

pub returns-clause-ready : goal.returns-clause-ready
returns-clause-ready g c = λ handed log_entry data_entry command asked stops running same room armed uncalled.
    rw (c.unplayed-in-Err-NoMemory.ensures.course, c.unplayed-in-Err-NoMemory.ensures.log, c.unplayed-in-Err-NoMemory.ensures.store, c.into_dev-in-Err-NoMemory.ensures, c.into_dev-in-Err-NoMemory-2.ensures)
    (unjudged g.L.Sectors.seen g.D.Sectors.seen _ command asked stops c.args.script.now running c.laws.ensures _ _ c.in-Ok.opened
    (is-opening handed log_entry data_entry armed uncalled c.in-Ok.ensures.called.log_calls c.in-Ok.ensures.called.data_calls)
    (opens-keeps _ _ _ _ _ c.in-Ok.ensures.safely) c.in-Ok.ensures.runnable c.in-Ok.ensures.read)

pub returns-in-Err-clause-entered : goal.returns-in-Err-clause-entered
returns-in-Err-clause-entered g c = both-entries c.in-Err.ensures.called.log_calls c.in-Err.ensures.called.data_calls

pub returns-in-Ok-judge-clause-entered : goal.returns-in-Ok-judge-clause-entered
returns-in-Ok-judge-clause-entered g c = both-entries c.in-Ok.ensures.called.log_calls c.in-Ok.ensures.called.data_calls

pub returns-in-Err-Misfit-clause-entered : goal.returns-in-Err-Misfit-clause-entered
returns-in-Err-Misfit-clause-entered g c = entries-then (both-entries c.in-Ok.ensures.called.log_calls c.in-Ok.ensures.called.data_calls)
    (both-same (c.unplayed.ensures.log ∙ c.into_dev.ensures) (c.unplayed.ensures.store ∙ c.into_dev-in-Err-Misfit.ensures))

pub returns-clause-entered : goal.returns-clause-entered
returns-clause-entered g c = entries-then (both-entries c.in-Ok.ensures.called.log_calls c.in-Ok.ensures.called.data_calls)
    (both-same (c.unplayed-in-Err-NoMemory.ensures.log ∙ c.into_dev-in-Err-NoMemory.ensures) (c.unplayed-in-Err-NoMemory.ensures.store ∙ c.into_dev-in-Err-NoMemory-2.ensures))

pub returns-in-Ok-judge-clause-archive_fits : goal.returns-in-Ok-judge-clause-archive_fits
returns-in-Ok-judge-clause-archive_fits g c = c.fitting_archive.ensures _ _ _ _ _ c.in-Ok-judge.ensures.fits
