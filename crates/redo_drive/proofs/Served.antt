-- What a call of a part leaves, as the definition of a turn tells it.
use Rattle.std.proofs.Common.{Bor, Err, List, Ok, Result, [], refl, subst, sym, ℕ, ◌≡◌}
use Rattle.std.specs.List.{flat_map}
use Rattle.std.specs.Prelude.{map, OnErr, OnOk}
use Rattle.model_base.specs.declared.shape.Shape.{Shape}
use Rattle.model_core.specs.States as model
use Rattle.model_core.specs.{BatchPage, DataServed, LogServed}
use Rattle.model_core.specs.declared.ops.Op.TheVariants as op
use Rattle.model_page.specs.{user_part}
use Rattle.model_page.specs.declared.content.Content.{Content}
use Rattle.model_parts.specs.{after_batch, batch_of, Fresh, IsLater}
use Rattle.model_parts.specs.declared.marks.LogMarks.{LogMarks}
use Rattle.model_parts.specs.declared.marks.TailMarks.{TailMarks}
use Rattle.redo_drive.proofs.Lent.{lent_batch}
use Rattle.redo_drive.specs.DataPartSide as data_part
use Rattle.redo_disk.specs.{Seen}
use Rattle.redo_disk.specs.declared.error.DevError.{DevError}
use Rattle.redo_drive.specs.Asking.{call_code, LogCalled}
use Rattle.redo_drive.specs.LogPartSide as log_part
use Rattle.redo_drive.specs.Running.{HasWholePages}
use Rattle.redo_drive.specs.declared.device.Device.TheVariants.{Data, Log}
use Rattle.redo_logdev.specs.PartConditions.{HasMarks}
use Rattle.redo_logdev.specs.Part as log
use Rattle.redo_store.specs.Part as store
use Rattle.redo_store.specs.Holding as holding
use Rattle.redo_words.specs.{Lends}
use Rattle.redo_words.specs.declared.lent.Lent.{Lent}
use Rattle.redo_words.specs.declared.lent.Lent.TheVariants as lent

-- what is lent is a batch of these pairs and user bytes
abbrev pub LendsBatch : List (ℕ × ℕ) → List ℕ → model.Lent → Type 0
LendsBatch pages frames (model.Batch batch) =
    (pages ≡ map (λ (b : BatchPage). (b.page, b.lsn)) batch) × (frames ≡ flat_map (λ (b : BatchPage). user_part b.bytes) batch)
LendsBatch pages frames _ = ⊥

-- what the calls of the log part ensure, as the running store tells it
on_marks : {L : Type 0} (result : Result (Unit {0}) DevError) (new : log.Part L) (marks : LogMarks) (tails : TailMarks)
    → OnOk result (HasMarks new marks tails) → OnOk result (◌≡◌ {A = LogMarks} new.marks marks)
on_marks (Ok done) new marks tails is = is.marks
on_marks (Err fault) new marks tails is = tt

off_marks : {L : Type 0} (result : Result (Unit {0}) DevError) (new : log.Part L) (marks : LogMarks) (tails : TailMarks)
    → OnErr result (HasMarks new marks tails) → OnErr result (◌≡◌ {A = LogMarks} new.marks marks)
off_marks (Ok done) new marks tails is = tt
off_marks (Err fault) new marks tails is = is.marks

on_tails : {L : Type 0} (result : Result (Unit {0}) DevError) (new : log.Part L) (marks : LogMarks) (tails : TailMarks)
    → OnOk result (HasMarks new marks tails) → OnOk result (◌≡◌ {A = TailMarks} new.tails tails)
on_tails (Ok done) new marks tails is = is.tails
on_tails (Err fault) new marks tails is = tt

off_tails : {L : Type 0} (result : Result (Unit {0}) DevError) (new : log.Part L) (marks : LogMarks) (tails : TailMarks)
    → OnErr result (HasMarks new marks tails) → OnErr result (◌≡◌ {A = TailMarks} new.tails tails)
off_tails (Ok done) new marks tails is = tt
off_tails (Err fault) new marks tails is = is.tails

pub log_called : {L : Type 0} (seen : L → Seen) (result : Result (Unit {0}) DevError) (old new : log.Part L) (ok err : LogMarks) (ok_tails err_tails : TailMarks)
    → OnOk result (HasMarks new ok ok_tails) → OnErr result (HasMarks new err err_tails) → log.Stays seen old result new
    → err_tails ≡ old.tails → LogCalled seen (call_code Log new.failed) ok err ok_tails old new
log_called seen result old new ok err ok_tails err_tails on_ok on_err stays same = record {
  result = result;
  code_is = refl;
  on_ok = on_marks result new ok ok_tails on_ok;
  on_err = off_marks result new err err_tails on_err;
  tails_ok = on_tails result new ok ok_tails on_ok;
  tails_err = subst (λ (t : TailMarks). OnErr result (◌≡◌ {A = TailMarks} new.tails t)) same (off_tails result new err err_tails on_err);
  stays = stays;
}

-- what holds whatever a call answers
pub on_any : (result : Result (Unit {0}) DevError) (P : Type 0) → P → OnOk result P
on_any (Ok done) P so = so
on_any (Err fault) P so = tt

pub off_any : (result : Result (Unit {0}) DevError) (P : Type 0) → P → OnErr result P
off_any (Ok done) P so = tt
off_any (Err fault) P so = so

-- what is lent is these bytes and first offsets
abbrev pub LendsBlocks : List ℕ → List ℕ → model.Lent → Type 0
LendsBlocks bytes firsts (model.Blocks kept offsets) = (bytes ≡ kept) × (firsts ≡ offsets)
LendsBlocks bytes firsts _ = ⊥

pub write_served : {L : Type 0} (seen : L → Seen) (faults number : ℕ) (Begun : Type 0) (mark : ℕ) (bytes firsts : List ℕ) (p q : log.Part L) (l : model.Lent) → LendsBlocks bytes firsts l
    → log_part.LogWrote seen mark bytes firsts (call_code Log q.failed) p q
    → LogServed (log_part.log_side seen faults number Begun) p l (op.WriteTo mark) (call_code Log q.failed) q
write_served seen faults number Begun mark bytes firsts p q model.Nothing lends wrote = absurd lends
write_served seen faults number Begun mark bytes firsts p q (model.Batch batch) lends wrote = absurd lends
write_served seen faults number Begun mark bytes firsts p q (model.Room kept) lends wrote = absurd lends
write_served seen faults number Begun mark bytes firsts p q (model.Blocks kept offsets) lends wrote =
    subst (λ (b : List ℕ). log_part.LogWrote seen mark b offsets (call_code Log q.failed) p q) lends.0
    (subst (λ (f : List ℕ). log_part.LogWrote seen mark bytes f (call_code Log q.failed) p q) lends.1 wrote)

pub batch_served : {D : Type 0} (seen : D → Seen) (faults : ℕ) (shape : Shape) (Begun : Type 0) (pages : List (ℕ × ℕ)) (frames : List ℕ) (result : Result (Unit {0}) DevError) (d e : store.Part D) (l : model.Lent)
    → LendsBatch pages frames l → HasWholePages d.shape op.WriteBatch l → store.PartStep seen d result e
    → ((top was : ℕ → Content) → holding.PartStores seen top was [] d → IsLater top (batch_of d.shape pages frames) → holding.PartKeeps seen top was (batch_of d.shape pages frames) e)
    → ((top was : ℕ → Content) → holding.PartStores seen top was [] d → IsLater top (batch_of d.shape pages frames)
    → OnOk result (holding.PartStores seen (after_batch (batch_of d.shape pages frames) top) (after_batch (batch_of d.shape pages frames) was) [] e))
    → DataServed (data_part.data_side seen faults shape Begun) d l op.WriteBatch (call_code Data e.failed) e
batch_served seen faults shape Begun pages frames result d e model.Nothing lends whole step keeps ok = absurd lends
batch_served seen faults shape Begun pages frames result d e (model.Blocks kept offsets) lends whole step keeps ok = absurd lends
batch_served seen faults shape Begun pages frames result d e (model.Room kept) lends whole step keeps ok = absurd lends
batch_served seen faults shape Begun pages frames result d e (model.Batch batch) lends whole step keeps ok =
    let same : batch_of d.shape pages frames ≡ data_part.fresh_batch batch = sym (lent_batch d.shape batch pages frames whole lends.0 lends.1).pages in record {
      result = result;
      code_is = refl;
      step = step;
      keeps = subst (λ (f : List Fresh). (top was : ℕ → Content) → holding.PartStores seen top was [] d → IsLater top f → holding.PartKeeps seen top was f e) same keeps;
      ok = subst (λ (f : List Fresh). (top was : ℕ → Content) → holding.PartStores seen top was [] d → IsLater top f
          → OnOk result (holding.PartStores seen (after_batch f top) (after_batch f was) [] e)) same ok;
    }

-- what is lent, by what it is
pub batch_lent : (given : Lent) (pages : Bor (List (ℕ × ℕ))) (frames : Bor (List ℕ)) → given ≡ lent.Batch pages frames → (l : model.Lent) → Lends given l → LendsBatch pages.now frames.now l
batch_lent given pages frames is model.Nothing lends = subst (λ (z : Lent). Lends z model.Nothing) is lends
batch_lent given pages frames is (model.Blocks kept offsets) lends = subst (λ (z : Lent). Lends z (model.Blocks kept offsets)) is lends
batch_lent given pages frames is (model.Batch batch) lends = subst (λ (z : Lent). Lends z (model.Batch batch)) is lends
batch_lent given pages frames is (model.Room kept) lends = subst (λ (z : Lent). Lends z (model.Room kept)) is lends

pub blocks_lent : (given : Lent) (bytes firsts : Bor (List ℕ)) → given ≡ lent.Blocks bytes firsts → (l : model.Lent) → Lends given l → LendsBlocks bytes.now firsts.now l
blocks_lent given bytes firsts is model.Nothing lends = subst (λ (z : Lent). Lends z model.Nothing) is lends
blocks_lent given bytes firsts is (model.Blocks kept offsets) lends = subst (λ (z : Lent). Lends z (model.Blocks kept offsets)) is lends
blocks_lent given bytes firsts is (model.Batch batch) lends = subst (λ (z : Lent). Lends z (model.Batch batch)) is lends
blocks_lent given bytes firsts is (model.Room kept) lends = subst (λ (z : Lent). Lends z (model.Room kept)) is lends
