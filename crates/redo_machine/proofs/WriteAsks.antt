-- What a write of the log, and that of a batch, ask of both devices.
use Rattle.std.proofs.Common.{None, Option, [], refl, subst, sym, ℕ, ◌≡◌}
use Rattle.model_core.specs.States as model
use Rattle.model_core.specs.declared.ops.Op.{Op}
use Rattle.model_core.specs.declared.ops.Op.TheVariants as op
use Rattle.redo_disk.proofs.Made.{no_calls}
use Rattle.redo_disk.specs.{Call, MakesCalls, Serve}
use Rattle.redo_disk.specs.declared.error.DevError.{DevError}
use Rattle.redo_drive.specs.{AskOf, AskOfParts, lent_pages, lent_writes, DataReady, MayBatchLent, MayWriteLent}
use Rattle.redo_logdev.specs.Part as log
use Rattle.redo_store.specs.Part as store
use Rattle.redo_words.specs.declared.lent.Lent.{Lent}
use Rattle.redo_words.specs.declared.lent.Lent.TheVariants as lending

write_live : {L : Type 0} (part : log.Part L) (mark : ℕ) (given : Lent) → MayWriteLent part mark given → part.failed ≡ None
write_live part mark (lending.Blocks bytes firsts) may = may.live
write_live part mark lending.Nothing may = absurd may
write_live part mark (lending.Batch pages frames) may = absurd may

-- a device that isn't called
pub not_asked : {D : Type 0} (gives : D → Call → D → Type 0) (device : D) (failed : Option DevError) → AskOf gives [] device failed device failed
not_asked gives device failed = record {
  live = λ none. subst (λ (e : Option DevError). MakesCalls gives device device (Serve [] e)) (sym none)
      (no_calls gives device (Serve [] None) (record { ends = refl; rest = []; asked = refl; all = λ none. refl }));
  over = λ some. (refl, refl);
}

pub write_asks : {L D : Type 0} (log_gives : L → Call → L → Type 0) (data_gives : D → Call → D → Type 0) (l : model.Lent) (given : Lent) (o : Op) (mark : ℕ) (old new : log.Part L) (part : store.Part D)
    → o ≡ op.WriteTo mark → MayWriteLent old mark given → MakesCalls log_gives old.dev new.dev (Serve (lent_writes old l) new.failed) → AskOfParts log_gives data_gives l o old new part part
write_asks log_gives data_gives l given o mark old new part is may asked = subst (λ (z : Op). AskOfParts log_gives data_gives l z old new part part) (sym is) (record {
  log = record { live = λ none. asked; over = λ some. absurd (some (write_live old mark given may)) };
  data_part = not_asked data_gives part.dev part.failed;
})

batch_live : {D : Type 0} (part : store.Part D) (given : Lent) → MayBatchLent part given → part.failed ≡ None
batch_live part (lending.Batch pages frames) may = may.0
batch_live part lending.Nothing may = absurd may
batch_live part (lending.Blocks bytes firsts) may = absurd may

pub batch_asks : {L D : Type 0} (log_gives : L → Call → L → Type 0) (data_gives : D → Call → D → Type 0) (l : model.Lent) (given : Lent) (o : Op) (part : log.Part L) (old new : store.Part D)
    → o ≡ op.WriteBatch → DataReady old given o → MakesCalls data_gives old.dev new.dev (Serve (lent_pages old l) new.failed)
    → AskOfParts log_gives data_gives l o part part old new
batch_asks log_gives data_gives l given o part old new is may asked =
    let ready : MayBatchLent old given = subst (λ (z : Op). DataReady old given z) is may in
    subst (λ (z : Op). AskOfParts log_gives data_gives l z part part old new) (sym is) (record {
      log = not_asked log_gives part.dev part.failed;
      data_part = record { live = λ none. asked; over = λ some. absurd (some (batch_live old given ready)) };
    })
