-- What a write of the log and the writing of a batch asked of their devices, as the definition of a turn has what is lent.
use Rattle.std.proofs.Common.{List, subst, sym, ℕ}
use Rattle.model_core.specs.States as model
use Rattle.model_core.specs.declared.ops.Op.TheVariants as op
use Rattle.model_parts.specs.{batch_of, Fresh}
use Rattle.redo_drive.proofs.Lent.{lent_batch}
use Rattle.redo_disk.specs.{Call, MakesCalls, Serve}
use Rattle.redo_drive.proofs.Served.{LendsBatch, LendsBlocks}
use Rattle.redo_drive.specs.Asking.{lent_pages, lent_writes, write_requests}
use Rattle.redo_drive.specs.Running.{HasWholePages}
use Rattle.redo_logdev.specs.Part as log
use Rattle.redo_store.specs.Part as store
use Rattle.redo_store.specs.Part.{batch_requests}

pub batch_asked : {D : Type 0} (gives : D → Call → D → Type 0) (pages : List (ℕ × ℕ)) (frames : List ℕ) (d e : store.Part D) (l : model.Lent) → LendsBatch pages frames l → HasWholePages d.shape op.WriteBatch l
    → MakesCalls gives d.dev e.dev (Serve (batch_requests d.shape (batch_of d.shape pages frames)) e.failed) → MakesCalls gives d.dev e.dev (Serve (lent_pages d l) e.failed)
batch_asked gives pages frames d e model.Nothing lends whole asked = absurd lends
batch_asked gives pages frames d e (model.Blocks kept offsets) lends whole asked = absurd lends
batch_asked gives pages frames d e (model.Room kept) lends whole asked = absurd lends
batch_asked gives pages frames d e (model.Batch batch) lends whole asked =
    subst (λ (fresh : List Fresh). MakesCalls gives d.dev e.dev (Serve (batch_requests d.shape fresh) e.failed)) (sym (lent_batch d.shape batch pages frames whole lends.0 lends.1).pages) asked

pub write_asked : {L : Type 0} (gives : L → Call → L → Type 0) (bytes firsts : List ℕ) (p q : log.Part L) (l : model.Lent) → LendsBlocks bytes firsts l
    → MakesCalls gives p.dev q.dev (Serve (write_requests p bytes firsts) q.failed) → MakesCalls gives p.dev q.dev (Serve (lent_writes p l) q.failed)
write_asked gives bytes firsts p q model.Nothing lends asked = absurd lends
write_asked gives bytes firsts p q (model.Batch batch) lends asked = absurd lends
write_asked gives bytes firsts p q (model.Room kept) lends asked = absurd lends
write_asked gives bytes firsts p q (model.Blocks kept offsets) lends asked =
    subst (λ (b : List ℕ). MakesCalls gives p.dev q.dev (Serve (write_requests p b offsets) q.failed)) lends.0
    (subst (λ (f : List ℕ). MakesCalls gives p.dev q.dev (Serve (write_requests p bytes f) q.failed)) lends.1 asked)
