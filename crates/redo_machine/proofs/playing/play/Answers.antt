use Rattle.std.proofs.Common.{Option, ap, refl, rules, subst, sym, ◌∙◌}
use Rattle.model_core.specs.{lsn, OnWord}
use Rattle.model_core.specs.declared.ops.Op.{Op}
use Rattle.model_core.specs.declared.ops.Op.TheVariants as op
use Rattle.redo_disk.specs.declared.error.DevError.{DevError}
use Rattle.redo_drive.proofs.Played as played
use Rattle.redo_drive.specs.{call_answer, HasWholePages, LogReady}
use Rattle.redo_drive.specs.declared.device.Device.TheVariants.{Data, Log}
use Rattle.redo_machine.proofs.WriteAsks.{batch_asks, write_asks}
use Rattle.redo_machine.proofs.playing.play.Goals as goal

pub returns-in-Load-clause-played : goal.returns-in-Load-clause-played
returns-in-Load-clause-played g c = λ run l lends whole.
    let on : OnWord c.args.op = search rules in
    played.word_played g.L.Sectors.seen g.D.Sectors.seen run l c.args.parts.now c.args.op c.play.new.self c.play.result on c.play.ensures.layout c.play.ensures.words c.play.ensures.answer

pub returns-in-TakeDevice-clause-played : goal.returns-in-TakeDevice-clause-played
returns-in-TakeDevice-clause-played g c = λ run l lends whole. let e = c.take_device.ensures in
    played.took_device g.L.Sectors.seen g.D.Sectors.seen run l c.args.parts.now c.take_device.new.parts c.take_device.result e.devices e.pages.words c.args.op c.in-TakeDevice.is e.words e.lists e.answer

pub returns-in-GiveDevice-clause-played : goal.returns-in-GiveDevice-clause-played
returns-in-GiveDevice-clause-played g c = λ run l lends whole. let e = c.give_turn_word.ensures in
    played.gave_device g.L.Sectors.seen g.D.Sectors.seen run l c.args.parts.now c.args.op c.in-GiveDevice.is c.give_turn_word.new.words c.give_turn_word.result e.answer e.layout e.words

pub returns-in-TakeAdd-clause-played : goal.returns-in-TakeAdd-clause-played
returns-in-TakeAdd-clause-played g c = λ run l lends whole. let e = c.take_add.ensures in
    played.took_add g.L.Sectors.seen g.D.Sectors.seen run l c.args.parts.now c.take_add.new.parts c.take_add.result e.devices e.pages.words c.args.op c.in-TakeAdd.page c.in-TakeAdd.oldest c.in-TakeAdd.is e.words e.lists e.answer

pub returns-in-TakeRemove-clause-played : goal.returns-in-TakeRemove-clause-played
returns-in-TakeRemove-clause-played g c = λ run l lends whole. let e = c.take_remove.ensures in
    played.took_remove g.L.Sectors.seen g.D.Sectors.seen run l c.args.parts.now c.take_remove.new.parts c.take_remove.result e.devices e.pages.words c.args.op c.in-TakeRemove.page c.in-TakeRemove.is e.words e.lists e.answer

pub returns-in-Rest-clause-played : goal.returns-in-Rest-clause-played
returns-in-Rest-clause-played g c = λ run l lends whole. played.rested g.L.Sectors.seen g.D.Sectors.seen run l c.args.parts.now c.args.op c.in-Rest.is

pub returns-in-WriteTo-clause-played : goal.returns-in-WriteTo-clause-played
returns-in-WriteTo-clause-played g c = λ run l lends whole. let old = c.args.parts.now in
    played.log_played g.L.Sectors.seen g.D.Sectors.seen run l old c.args.op (record { words = old.words; log = c.call_write.new.log; store = old.store; lists = old.lists }) c.answer_of.result refl refl refl (op.WriteTo c.in-WriteTo.mark) c.in-WriteTo.is tt refl
    (c.call_write.ensures.served (g.L.Sectors.seen run.first_log.dev).faults (lsn run.setup.base) run.first_log l lends)
    (c.answer_of.ensures ∙ ap (λ (e : Option DevError). call_answer Log e 0) (sym c.call_write.ensures.ended))

pub returns-in-WriteTo-clause-asked : goal.returns-in-WriteTo-clause-asked
returns-in-WriteTo-clause-asked g c = λ l lends whole.
    write_asks g.L.Sectors.gives g.D.Sectors.gives l c.args.lent c.args.op c.in-WriteTo.mark c.args.parts.now.log c.call_write.new.log c.args.parts.now.store c.in-WriteTo.is
    (subst (λ (o : Op). LogReady c.args.parts.now.log c.args.lent o) c.in-WriteTo.is c.requires.playable.log) (c.call_write.ensures.asked l lends)

pub returns-in-Sync-clause-played : goal.returns-in-Sync-clause-played
returns-in-Sync-clause-played g c = λ run l lends whole. let old = c.args.parts.now in
    played.log_played g.L.Sectors.seen g.D.Sectors.seen run l old c.args.op (record { words = old.words; log = c.call_sync-ended.new.log; store = old.store; lists = old.lists }) c.answer_of-in-Sync.result refl refl refl op.Sync c.in-Sync.is tt refl
    c.call_sync-ended.ensures.synced
    (c.answer_of-in-Sync.ensures ∙ ap (λ (e : Option DevError). call_answer Log e c.stable.result) (sym c.call_sync-ended.ensures.ended) ∙ ap (call_answer Log c.call_sync-ended.new.log.failed) c.stable.ensures)

pub returns-in-Checkpoint-clause-played : goal.returns-in-Checkpoint-clause-played
returns-in-Checkpoint-clause-played g c = λ run l lends whole. let old = c.args.parts.now in
    played.log_played g.L.Sectors.seen g.D.Sectors.seen run l old c.args.op (record { words = old.words; log = c.call_checkpoint.new.log; store = old.store; lists = old.lists }) c.answer_of-in-Checkpoint.result refl refl refl (op.Checkpoint c.in-Checkpoint.lsn) c.in-Checkpoint.is tt refl
    c.call_checkpoint.ensures.checkpointed
    (c.answer_of-in-Checkpoint.ensures ∙ ap (λ (e : Option DevError). call_answer Log e 0) (sym c.call_checkpoint.ensures.ended))

pub returns-in-WriteBatch-clause-played : goal.returns-in-WriteBatch-clause-played
returns-in-WriteBatch-clause-played g c = λ run l lends whole. let old = c.args.parts.now in
    let batch : HasWholePages c.args.parts.now.store.shape op.WriteBatch l = subst (λ (o : Op). HasWholePages c.args.parts.now.store.shape o l) c.in-WriteBatch.is whole in
    played.batch_played g.L.Sectors.seen g.D.Sectors.seen run l old c.args.op (record { words = old.words; log = old.log; store = c.call_batch.new.store; lists = old.lists }) c.answer_of-in-WriteBatch.result refl refl refl c.in-WriteBatch.is refl
    (c.call_batch.ensures.served (g.D.Sectors.seen run.first_data.dev).faults run.shape run.setup.opened run.first_data l lends batch)
    (c.answer_of-in-WriteBatch.ensures ∙ ap (λ (e : Option DevError). call_answer Data e 0) (sym c.call_batch.ensures.ended))

pub returns-in-WriteBatch-clause-asked : goal.returns-in-WriteBatch-clause-asked
returns-in-WriteBatch-clause-asked g c = λ l lends whole. let old = c.args.parts.now in
    let batch : HasWholePages old.store.shape op.WriteBatch l = subst (λ (o : Op). HasWholePages old.store.shape o l) c.in-WriteBatch.is whole in
    batch_asks g.L.Sectors.gives g.D.Sectors.gives l c.args.lent c.args.op old.log old.store c.call_batch.new.store c.in-WriteBatch.is
    c.requires.playable.data_part (c.call_batch.ensures.asked l lends batch)

pub unreachable-requires : goal.unreachable-requires
unreachable-requires g c = c.requires.no_read c.in-ReadBlock.field-0 c.in-ReadBlock.is
