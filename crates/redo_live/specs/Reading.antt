-- A user reads a page.
use Rattle.std.specs.Prelude.{List, [], false, length, slice_index, true, ℕ, ◌++◌, ◌+◌, ◌<◌, ◌∷◌, ◌≡◌, ◌≢◌, ◌≤◌}
use Rattle.model_base.specs.{user_length}
use Rattle.model_core.specs.{line_at, lsn, UserState}
use Rattle.model_reads.specs.declared.read.ReadEnd.{ReadEnd}
use Rattle.model_reads.specs.declared.read.ReadEnd.TheVariants as read_end
use Rattle.redo_live.specs.Holding.{reads_of, shape_of, state_of}
use Rattle.redo_live.specs.Later.{HasGoneOn}
use Rattle.redo_live.specs.declared.refused.Refused.{Refused}
use Rattle.redo_live.specs.declared.refused.Refused.TheVariants.{Device, LogOnly}
use Rattle.redo_live.specs.declared.store.Store.{Store}
use Rattle.redo_live.specs.declared.user.User.{User}

-- the lsn at which the k-th group that a user has reserved ends
abbrev pub end_of : UserState → (k : ℕ) → ℕ
end_of u k = lsn (slice_index u.starts k + length (line_at u.lines k).bytes)

module _ {L D : Type 0} where
  -- THE PAGE MAY BE READ into these bytes: the store has it, and they are as many as its user bytes.
  pub record MayReadPage (store : Store L D) (number : ℕ) (bytes : List ℕ) : Type 0 where
    pub there : number < (shape_of store).pages
    pub long : length bytes ≡ user_length (shape_of store)

  -- A READ OF THE USER CAME TO THIS. Else the user is as it was.
  pub record HasReadSo (old : User L D) (came : ReadEnd) (new : User L D) : Type 0 where
    pub same : state_of new ≡ state_of old
    pub reads : reads_of new ≡ reads_of old ++ came ∷ []
    pub goes_on : HasGoneOn old new

  -- THE PAGE WAS READ: the user has it with these user bytes as of this lsn, which is at or above the end of each of its
  -- groups.
  pub record HasReadPage (store : Store L D) (old : User L D) (number as_of : ℕ) (bytes : List ℕ) (new : User L D)
      : Type 0 where
    pub with_pages : store.log_only ≡ false
    pub read : HasReadSo old (read_end.Page (record { page = number; lsn = as_of; bytes = bytes })) new
    pub own : (k : ℕ) → k < length (state_of old).starts → end_of (state_of old) k ≤ as_of

  -- WHY NO PAGE IS READ: the log runs alone, or the run has failed, as the read has met.
  abbrev pub IsUnreadFor : Store L D → User L D → Refused → User L D → Type 0
  IsUnreadFor store old LogOnly new = (store.log_only ≡ true) × (new ≡ old)
  IsUnreadFor store old (Device code) new =
      (store.log_only ≡ false) × (code ≢ 0) × HasReadSo old (read_end.Failed code) new
  IsUnreadFor store old _ new = ⊥
