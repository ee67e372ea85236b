-- What each call of the log part asks of its device, and in which order; what an Op asks of the two devices.
-- What a turn of a run by turns tells of the two parts: how a call ended, by the code that FAILED gets, the marks and the
-- failure that it left, and what a read gave. Of what a device holds of a run it tells nothing.
use Rattle.std.specs.Prelude.{List, [], ℕ, ◌%◌, ◌*◌, ◌^◌, ◌∷◌, None, Option, map, ◌≡◌, Some, IfSome, OnErr, OnOk, Result, is_some}
use Rattle.model_base.specs.declared.limits.TheConstants.{BLOCK_SIZE}
use Rattle.model_log.specs.{block_of, other_tail, run_layout}
use Rattle.model_parts.specs.{next_number, Fresh, after_asked, after_checkpoint, after_given, after_synced, after_written, tails_synced, tails_written}
use Rattle.redo_disk.specs.{put_requests, Request, ToRead, ToSync, Call, MakesCalls, Serve, Seen}
use Rattle.redo_logdev.specs.Part.{block_writes, checkpoint_write, framed_full_blocks, last_block, Part}
use Rattle.redo_logdev.specs.{block_place, Stays}
use Rattle.model_core.specs.{BatchPage, data_device_code, log_device_code, no_memory_code, DataSide, LogSide}
use Rattle.model_core.specs.States as model
use Rattle.model_core.specs.declared.ops.Op.{Op}
use Rattle.model_core.specs.declared.ops.Op.TheVariants as op
use Rattle.model_running.specs.{new_content}
use Rattle.redo_disk.specs.declared.error.DevError.{DevError}
use Rattle.redo_logdev.specs.Part as log
use Rattle.redo_store.specs.Part as store
use Rattle.redo_store.specs.Part.{batch_requests}
use Rattle.redo_disk.specs.declared.error.DevError.TheVariants.{Failed, NoMemory}
use Rattle.redo_drive.specs.declared.device.Device.{Device}
use Rattle.redo_drive.specs.declared.device.Device.TheVariants.{Data, Log}
use Rattle.model_parts.specs.declared.marks.LogMarks.{LogMarks}
use Rattle.model_parts.specs.declared.marks.TailMarks.{TailMarks}
use Rattle.redo_disk.specs.Sight as device
use Rattle.redo_store.specs.{PartStep}

-- the full blocks of these bytes, by one write, or by two where the log wraps, and then the incomplete one, if there is one, to
-- the tail block that is free
abbrev pub write_requests : {L : Type 0} → Part L → List ℕ → List ℕ → List Request
write_requests part bytes firsts =
    block_writes (run_layout part.shape) (block_of part.marks.written)
    (framed_full_blocks (block_of part.marks.written) bytes firsts (part.marks.number % 2 ^ 32))
    (BLOCK_SIZE * other_tail part.tails.tail) (last_block (block_of part.marks.written) bytes firsts)

abbrev pub sync_requests : List Request
sync_requests = ToSync ∷ []

-- the next checkpoint, by one write with a sync after it
abbrev pub checkpoint_requests : {L : Type 0} → Part L → ℕ → List Request
checkpoint_requests part lsn = put_requests (checkpoint_write (run_layout part.shape) (next_number part.marks.number) lsn)

-- the block at an lsn, by one read
abbrev pub read_requests : {L : Type 0} → Part L → ℕ → List Request
read_requests part lsn = ToRead (block_place part lsn) BLOCK_SIZE ∷ []

-- the pages of a batch as the device gets them
abbrev pub fresh_page : BatchPage → Fresh
fresh_page x = record { page = x.page; content = new_content x }

abbrev pub fresh_batch : List BatchPage → List Fresh
fresh_batch batch = map fresh_page batch

-- what a write of the log asks for, by what is lent, and the writing of a batch
abbrev pub lent_writes : {L : Type 0} → log.Part L → model.Lent → List Request
lent_writes part (model.Blocks bytes firsts) = write_requests part bytes firsts
lent_writes part _ = []

abbrev pub lent_pages : {D : Type 0} → store.Part D → model.Lent → List Request
lent_pages part (model.Batch batch) = batch_requests part.shape (fresh_batch batch)
lent_pages part _ = []

-- what an Op asks of the log device, and of the data device
abbrev pub log_asked : {L : Type 0} → log.Part L → model.Lent → Op → List Request
log_asked part l (op.WriteTo mark) = lent_writes part l
log_asked part l op.Sync = sync_requests
log_asked part l (op.Checkpoint lsn) = checkpoint_requests part lsn
log_asked part l (op.ReadBlock lsn) = read_requests part lsn
log_asked part l _ = []

abbrev pub data_asked : {D : Type 0} → store.Part D → model.Lent → Op → List Request
data_asked part l op.WriteBatch = lent_pages part l
data_asked part l _ = []

-- A device was asked for these things in this order, and for nothing else: for all of them, or up to the call that answered
-- an error, this one. Where an error stood before, no call was made: the device is the same, and so is the error.
pub record AskOf {D : Type 0} (gives : D → Call → D → Type 0) (requests : List Request) (old : D) (failed : Option DevError) (new : D) (failed_now : Option DevError) : Type 0 where
  pub live : failed ≡ None → MakesCalls gives old new (Serve requests failed_now)
  pub over : (failed ≡ None → ⊥) → (new ≡ old) × (failed_now ≡ failed)

-- The devices of the log part and of the data part were asked so for what the Op asks of each.
pub record AskOfParts {L D : Type 0} (log_gives : L → Call → L → Type 0) (data_gives : D → Call → D → Type 0) (l : model.Lent) (o : Op) (old_log new_log : log.Part L) (old_data new_data : store.Part D) : Type 0 where
  pub log : AskOf log_gives (log_asked old_log l o) old_log.dev old_log.failed new_log.dev new_log.failed
  pub data_part : AskOf data_gives (data_asked old_data l o) old_data.dev old_data.failed new_data.dev new_data.failed

abbrev pub device_code : Device → ℕ
device_code Log = log_device_code
device_code Data = data_device_code

-- what FAILED gets where a call of the device answered this error
abbrev pub code_of : Device → DevError → ℕ
code_of device Failed = device_code device
code_of device NoMemory = no_memory_code

-- the same by what the device's part tells of its last call; 0 where that was good
abbrev pub call_code : Device → Option DevError → ℕ
call_code device None = 0
call_code device (Some fault) = code_of device fault

module _ {L : Type 0} (seen : L → Seen) where
  -- what a call of the log part leaves, whatever it answers: its marks, and those of its tail blocks
  pub record LogCalled (code : ℕ) (ok err : LogMarks) (tails : TailMarks) (old new : log.Part L) : Type 0 where
    pub result : Result (Unit {0}) DevError
    pub code_is : code ≡ call_code Log new.failed
    pub on_ok : OnOk result (new.marks ≡ ok)
    pub on_err : OnErr result (new.marks ≡ err)
    pub tails_ok : OnOk result (new.tails ≡ tails)
    pub tails_err : OnErr result (new.tails ≡ old.tails)
    pub stays : Stays seen old result new

  -- A read of the block at an lsn, which gave these bytes: those that reads of the device give at its place, where it tells.
  pub record BlockRead (lsn : ℕ) (bytes : List ℕ) (code : ℕ) (old new : log.Part L) : Type 0 where
    pub called : LogCalled code old.marks old.marks old.tails old new
    pub given : OnOk called.result
        (IfSome (seen new.dev).tells (λ disk. bytes ≡ device.part disk.reads (block_place old lsn) BLOCK_SIZE))

  abbrev pub turn_log_side : LogSide
  turn_log_side = record {
    Part = log.Part L;
    written = λ part. part.marks.written;
    stable = λ part. part.marks.stable;
    given = λ part. part.marks.given;
    ckpt = λ part. part.marks.ckpt;
    asked = λ part. part.marks.asked;
    failed = λ part. is_some part.failed;
    Holds = λ blocks base log part. Unit {0};
    Cause = λ part code. Unit {0};
    Wrote = λ mark bytes firsts code old new.
        LogCalled code (after_written mark old.marks) (after_given mark old.marks) (tails_written mark old.tails) old new;
    Synced = λ code old new.
        LogCalled code (after_synced old.marks) old.marks (tails_synced old.marks.written old.tails) old new;
    Checkpointed = λ lsn code old new. LogCalled code (after_checkpoint (next_number old.marks.number) lsn old.marks)
        (after_asked lsn old.marks) (tails_synced old.marks.written old.tails) old new;
    Read = BlockRead;
    IsRunBlock = λ base log lsn bytes. Unit {0};
    Tells = λ part. Unit {0};
  }

module _ {D : Type 0} (seen : D → Seen) where
  -- what writing a batch leaves, whatever it answers
  pub record BatchCalled (code : ℕ) (old new : store.Part D) : Type 0 where
    pub result : Result (Unit {0}) DevError
    pub code_is : code ≡ call_code Data new.failed
    pub step : PartStep seen old result new

  abbrev pub turn_data_side : DataSide
  turn_data_side = record {
    Part = store.Part D;
    failed = λ part. is_some part.failed;
    Cause = λ part code. Unit {0};
    Holds = λ kept unfinished part. Unit {0};
    Batched = λ batch code old new. BatchCalled code old new;
  }
