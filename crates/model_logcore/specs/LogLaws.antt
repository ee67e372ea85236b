-- The laws of the log part: the conditions of its calls, and what they leave.
use Rattle.std.specs.Prelude.{List, [], cond, drop, false, length, take, true, ℕ, ◌%◌, ◌*◌, ◌++◌, ◌+◌, ◌-◌, ◌<◌, ◌==◌, ◌∷◌, ◌≡◌, ◌≤◌}
use Rattle.std.specs.List.{AllByRecursion}
use lib.ListN.{get_elem?}
use mathlib.Core.Option.{some}
use Rattle.model_core.specs.{ceiling, end_of, Entry, floor, IsBound, IsLent, IsLogCode, IsText, lsn, stream, Tiles, LogSide}
use Rattle.model_base.specs.declared.limits.TheConstants.{BLOCK_SIZE, LSN_LIMIT}
use Rattle.model_core.specs.declared.limits.TheConstants.{LOG_BUFFER}
use Rattle.model_log.specs.{block_view, data_of, is_block_at}
use Rattle.model_log.specs.declared.layout.TheConstants.{BLOCK_DATA, BLOCK_HEADER}

module _ (D : LogSide) (blocks base : ℕ) (log : List Entry) where
  -- the conditions of write_to
  pub record CanWrite (w n : ℕ) (bytes firsts : List ℕ) (p : D.Part) : Type 0 where
    pub sound : D.failed p ≡ false
    pub even : base % BLOCK_DATA ≡ 0
    pub end : ℕ
    pub tiles : Tiles base log end
    pub base_w : base ≤ w
    pub n_end : n ≤ end
    pub at : D.written p ≡ lsn w
    pub on : w < n
    pub low : IsBound base log w
    pub high : IsBound base log n
    pub lent : IsLent base log w n bytes firsts
    pub fits : ceiling (lsn n) ≤ D.ckpt p + BLOCK_SIZE * blocks
    pub small : lsn n < LSN_LIMIT
    -- less than the log buffer past the block of the written mark
    pub near : lsn n < floor (lsn w) + LOG_BUFFER

  pub record AfterWrite (t code : ℕ) (p q : D.Part) : Type 0 where
    pub holds : D.Holds blocks base log q
    pub written : D.written q ≡ cond (code == 0) t (D.written p)
    pub stable : D.stable q ≡ D.stable p
    pub given : D.given q ≡ t
    pub ckpt : D.ckpt q ≡ D.ckpt p
    pub asked : D.asked q ≡ D.asked p
    pub sound : code ≡ 0 → D.failed q ≡ false
    pub causes : (c : ℕ) → D.Cause p c → D.Cause q c
    pub cause : 0 < code → D.Cause q code
    pub told : D.Tells q → D.Tells p

  pub record AfterSync (code : ℕ) (p q : D.Part) : Type 0 where
    pub holds : D.Holds blocks base log q
    pub written : D.written q ≡ D.written p
    pub stable : D.stable q ≡ cond (code == 0) (D.written p) (D.stable p)
    pub given : D.given q ≡ D.given p
    pub ckpt : D.ckpt q ≡ D.ckpt p
    pub asked : D.asked q ≡ D.asked p
    pub sound : code ≡ 0 → D.failed q ≡ false
    pub causes : (c : ℕ) → D.Cause p c → D.Cause q c
    pub cause : 0 < code → D.Cause q code
    pub told : D.Tells q → D.Tells p

  -- every group that starts below the lsn x ends at or below the stable mark
  pub record CanCheckpoint (x : ℕ) (p : D.Part) : Type 0 where
    pub sound : D.failed p ≡ false
    pub even : x % BLOCK_SIZE ≡ 0
    pub more : D.ckpt p < x
    pub below : x ≤ D.stable p
    pub ends : (i : ℕ) (e : Entry) → get_elem? log i ≡ some e → lsn e.start < x → lsn (end_of e) ≤ D.stable p

  pub record AfterCheckpoint (x code : ℕ) (p q : D.Part) : Type 0 where
    pub holds : D.Holds blocks base log q
    pub written : D.written q ≡ D.written p
    pub stable : D.stable q ≡ D.stable p
    pub given : D.given q ≡ D.given p
    pub ckpt : D.ckpt q ≡ cond (code == 0) x (D.ckpt p)
    -- good or failed
    pub asked : D.asked q ≡ x
    pub sound : code ≡ 0 → D.failed q ≡ false
    pub causes : (c : ℕ) → D.Cause p c → D.Cause q c
    pub cause : 0 < code → D.Cause q code
    pub told : D.Tells q → D.Tells p

  -- the block at the lsn x may be read: it stands from the newest checkpoint's on and has a byte below the stable mark
  pub record CanRead (x : ℕ) (p : D.Part) : Type 0 where
    pub sound : D.failed p ≡ false
    pub even : x % BLOCK_SIZE ≡ 0
    pub base_even : base % BLOCK_DATA ≡ 0
    pub end : ℕ
    pub tiles : Tiles base log end
    -- each group is the text of one
    pub texts : AllByRecursion (λ (e : Entry). IsText e.bytes) log
    pub from : D.ckpt p < x + BLOCK_SIZE
    pub some : x + BLOCK_HEADER < D.stable p

  -- The 512 bytes are the block at the lsn x, as far as it holds bytes below the sn `top`: they are read as a block,
  -- and from any place of the stream in it on its data in use are the stream's.
  pub record HasBlock (top x : ℕ) (bytes : List ℕ) : Type 0 where
    pub long : length bytes ≡ BLOCK_SIZE
    pub fits : is_block_at x bytes ≡ true
    pub bytes_are : (y n : ℕ) → base ≤ y → y % BLOCK_DATA + n ≤ BLOCK_DATA → y + n ≤ top → floor (lsn y) ≡ x
        → take n (drop (y % BLOCK_DATA) (data_of (block_view bytes) bytes)) ≡ take n (drop (y - base) (stream log))

  -- a read changes nothing, but that the part has failed where it did
  pub record AfterRead (code : ℕ) (p q : D.Part) : Type 0 where
    pub holds : D.Holds blocks base log q
    pub written : D.written q ≡ D.written p
    pub stable : D.stable q ≡ D.stable p
    pub given : D.given q ≡ D.given p
    pub ckpt : D.ckpt q ≡ D.ckpt p
    pub asked : D.asked q ≡ D.asked p
    pub sound : code ≡ 0 → D.failed q ≡ false
    pub causes : (c : ℕ) → D.Cause p c → D.Cause q c
    pub cause : 0 < code → D.Cause q code
    pub told : D.Tells q → D.Tells p

-- what a drive shows of its part
pub record LogLaws (D : LogSide) : Type 0 where
  -- a cause is that of a call that failed, and with it the part has
  pub codes : (p : D.Part) (code : ℕ) → D.Cause p code → IsLogCode code
  pub broken : (p : D.Part) (code : ℕ) → D.Cause p code → D.failed p ≡ true
  pub more : (blocks base n : ℕ) (log : List Entry) (e : Entry) (p : D.Part) → base % BLOCK_DATA ≡ 0 → Tiles base log n → e.start ≡ n → 0 < length e.bytes → D.given p ≤ lsn n → D.Holds blocks base log p → D.Holds blocks base (log ++ e ∷ []) p
  pub writes : (blocks base : ℕ) (log : List Entry) (w n code : ℕ) (bytes firsts : List ℕ) (p q : D.Part)
      → D.Holds blocks base log p → CanWrite D blocks base log w n bytes firsts p → D.Wrote (lsn n) bytes firsts code p q → AfterWrite D blocks base log (lsn n) code p q
  pub syncs : (blocks base : ℕ) (log : List Entry) (code : ℕ) (p q : D.Part)
      → D.Holds blocks base log p → D.failed p ≡ false → D.Synced code p q → AfterSync D blocks base log code p q
  pub checkpoints : (blocks base : ℕ) (log : List Entry) (x code : ℕ) (p q : D.Part)
      → D.Holds blocks base log p → CanCheckpoint D blocks base log x p → D.Checkpointed x code p q → AfterCheckpoint D blocks base log x code p q
  pub reads : (blocks base : ℕ) (log : List Entry) (x code : ℕ) (bytes : List ℕ) (p q : D.Part)
      → D.Holds blocks base log p → D.failed p ≡ false → D.Read x bytes code p q → AfterRead D blocks base log code p q
  pub gets : (blocks base : ℕ) (log : List Entry) (x : ℕ) (bytes : List ℕ) (p q : D.Part)
      → D.Holds blocks base log p → CanRead D blocks base log x p → D.Read x bytes 0 p q → D.Tells q
      → (top : ℕ) → D.stable p ≡ lsn top → HasBlock D blocks base log top x bytes
  -- where the block ends at or below the stable mark it is the run's, full
  pub runs : (blocks base : ℕ) (log : List Entry) (x : ℕ) (bytes : List ℕ) (p q : D.Part)
      → D.Holds blocks base log p → CanRead D blocks base log x p → D.Read x bytes 0 p q → D.Tells q
      → x + BLOCK_SIZE + BLOCK_HEADER ≤ D.stable p → D.IsRunBlock base log x bytes
