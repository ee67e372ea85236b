-- The write is noted as one that answered Ok, or as one that failed.
use Rattle.std.proofs.Common.{◌∙◌, ℕ, Ok, Err, refl, subst}
use Rattle.redo_disk.specs.{HasCause}
use Rattle.redo_memdisk.specs.File.{CountsFailure}
use Rattle.redo_memdisk.proofs.Filed.{miss-told, noted-on, write-told}
use Rattle.redo_memdisk.proofs.file.FileDiskSectors.write.Goals as goal

pub returns-in-Ok-clause-step : goal.returns-in-Ok-clause-step
returns-in-Ok-clause-step g c =
    let bytes = c.args.bytes.now in
    let faults = c.answer-answer.new.self.faults in
    let noted = noted-on c.note.ensures (c.answer-answer.ensures.notes ∙ c.lengthen.ensures.notes ∙ c.with_file-done.ensures.notes) in
    rw c.in-Ok.is (record {
      ok = write-told g.S.Contents.bytes c.args.at bytes _ _ c.requires noted;
      err = tt;
      size = refl;
      cause = subst (λ (n : ℕ). HasCause n faults (Ok c.in-Ok.field-0)) (c.lengthen.ensures.faults ∙ c.with_file-done.ensures.faults)
          c.in-Ok.ensures.cause;
    })

pub returns-in-Err-clause-step : goal.returns-in-Err-clause-step
returns-in-Err-clause-step g c =
    let bytes = c.args.bytes.now in
    let faults = c.answer-answer.new.self.faults in
    let noted = noted-on c.note-in-Err.ensures (c.answer-answer.ensures.notes ∙ c.lengthen.ensures.notes ∙ c.with_file-done.ensures.notes) in
    rw c.in-Err.is (record {
      ok = tt;
      err = miss-told g.S.Contents.bytes c.args.at bytes _ _ c.requires noted;
      size = refl;
      cause = subst (λ (n : ℕ). HasCause n faults (Err c.in-Err.field-0)) (c.lengthen.ensures.faults ∙ c.with_file-done.ensures.faults)
          c.in-Err.ensures.cause;
    })

pub returns-in-Err-clause-gives : goal.returns-in-Err-clause-gives
returns-in-Err-clause-gives g c =
    let faults = c.answer-answer.new.self.faults in
    rw c.in-Err.is (record {
      given = record {
        counts = subst (λ (n : ℕ). CountsFailure n (Err c.in-Err.field-0) faults) (c.lengthen.ensures.faults ∙ c.with_file-done.ensures.faults)
            c.in-Err.ensures.counts;
        same_access = c.answer-answer.ensures.access ∙ c.lengthen.ensures.access ∙ c.with_file-done.ensures.access;
        taken = _;
        noted = noted-on c.note-in-Err.ensures (c.answer-answer.ensures.notes ∙ c.lengthen.ensures.notes ∙ c.with_file-done.ensures.notes);
      };
    })
