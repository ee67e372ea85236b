-- What reading groups one after another off some bytes gives.
use Rattle.std.specs.Prelude.{ℕ, ◌≡◌, ◌≤◌, ◌<◌, ◌+◌, ◌-◌, List, [], length, take, drop, Option, Some, None, ⊤}
use Rattle.std.specs.List.{AllByRecursion}
use Rattle.model_base.specs.declared.shape.Shape.{Shape}
use Rattle.model_base.specs.declared.got.Got.{Got}
use Rattle.model_base.specs.declared.got.Got.TheVariants.{Value, Short, Bad}
use Rattle.model_device.specs.{Disk}
use Rattle.model_log.specs.{group_text, IsDataLsn, IsFront, last_span_end, lsn_at, round_of, sn_of, spans_of}
use Rattle.model_log.specs.declared.rec.Rec.{Rec}
use Rattle.model_log.specs.declared.group.Whole.{Whole}
use Rattle.model_log.specs.declared.layout.Layout.{Layout}
use Rattle.model_log.specs.declared.layout.TheConstants.{BLOCK_HEADER}
use Rattle.model_store.specs.{AreGroups, HasNoStorable, IsBadRecord, IsStorable}
use Rattle.redo_recover.specs.Devices.{OnSource}
use Rattle.redo_recover.specs.declared.fault.RecFault.{RecFault}
use Rattle.redo_recover.specs.declared.fault.RecFault.TheVariants.{BadRecord, LogDev, NoMemory}

-- Off the front of the bytes: a group that fits the store and the length of its text, or that less than a whole one
-- stands there, or that neither does.
abbrev pub GivesStorable : Shape → List ℕ → Got (List Rec) → Type 0
GivesStorable shape bytes (Value group len) = IsStorable shape group × (len ≤ length bytes) × (take len bytes ≡ group_text group)
GivesStorable shape bytes Short = IsFront bytes
GivesStorable shape bytes Bad = HasNoStorable shape bytes × (IsFront bytes → ⊥)

-- the bytes are these groups from the lsn `start` on, up to the lsn `end`, and then less than a whole group
pub record EndAt (shape : Shape) (bytes : List ℕ) (start : ℕ) (wholes : List Whole) (end : ℕ) : Type 0 where
  pub rest : List ℕ
  pub groups : AreGroups shape bytes start wholes rest
  pub front : IsFront rest
  pub at : end ≡ last_span_end start (spans_of wholes)

-- each of the groups ends past the lsn at which it starts
abbrev pub EndBehindStarts : List Whole → Type 0
EndBehindStarts wholes = AllByRecursion (λ (whole : Whole). whole.start < whole.end) wholes

-- after groups that fit comes at this lsn neither one more nor less than a whole one
pub record BreakAt (shape : Shape) (bytes : List ℕ) (start lsn : ℕ) : Type 0 where
  pub wholes : List Whole
  pub rest : List ℕ
  pub groups : AreGroups shape bytes start wholes rest
  pub no_storable : HasNoStorable shape rest
  pub no_rest : IsFront rest → ⊥
  pub at : lsn ≡ last_span_end start (spans_of wholes)

-- The log ends at a data byte past the checkpoint, at most at the first one of the block where the log has gone round,
-- and none of the groups ends past that.
pub record IsEndOf (layout : Layout) (ckpt : ℕ) (wholes : List Whole) (end : ℕ) : Type 0 where
  pub place : IsDataLsn end
  pub from : ckpt + BLOCK_HEADER ≤ end
  pub up_to : end ≤ ckpt + round_of layout + BLOCK_HEADER
  pub groups : AllByRecursion (λ (whole : Whole). whole.end ≤ end) wholes

-- why no groups are read off the bytes from the lsn `start` on
abbrev pub IsBreakFault : Shape → List ℕ → ℕ → RecFault → Type 0
IsBreakFault shape bytes start (BadRecord lsn) = BreakAt shape bytes start lsn
IsBreakFault shape bytes start NoMemory = ⊤
IsBreakFault shape bytes start _ = ⊥

-- The groups in the joined data of blocks from the checkpoint on, and the log's end: from the lsn on at which groups
-- start; where there is none, no group, and the first data byte after the blocks.
abbrev pub AreParsed : ℕ → ℕ → Shape → List ℕ → Option ℕ → List Whole → ℕ → Type 0
AreParsed ckpt count shape bytes None wholes end = (wholes ≡ []) × (end ≡ lsn_at ckpt count + BLOCK_HEADER)
AreParsed ckpt count shape bytes (Some start) wholes end = EndAt shape (drop (sn_of start - sn_of ckpt) bytes) start wholes end

-- why the data isn't parsed
abbrev pub IsParseFault : ℕ → Shape → List ℕ → Option ℕ → RecFault → Type 0
IsParseFault ckpt shape bytes None fault = ⊥
IsParseFault ckpt shape bytes (Some start) fault = IsBreakFault shape (drop (sn_of start - sn_of ckpt) bytes) start fault

-- why a log isn't scanned
abbrev pub IsScanFault : Shape → Layout → ℕ → Option Disk → RecFault → Type 0
IsScanFault shape layout ckpt told (BadRecord lsn) = OnSource layout told (λ source. IsBadRecord shape layout.blocks source ckpt lsn)
IsScanFault shape layout ckpt told LogDev = ⊤
IsScanFault shape layout ckpt told NoMemory = ⊤
IsScanFault shape layout ckpt told _ = ⊥
