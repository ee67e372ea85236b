-- When a run can start on an opened store, whatever its devices tell.
use Rattle.std.specs.Prelude.{◌≡◌, ℕ, ◌≤◌, ◌<◌, ◌+◌, ◌^◌, None, Some, slice_get}
use Rattle.model_parts.specs.{first_marks, first_tails}
use Rattle.model_base.specs.{IsWithinLimits}
use Rattle.model_base.specs.declared.limits.TheConstants.{START_LSN}
use Rattle.model_log.specs.{IsAtDataStart}
use Rattle.model_log.specs.declared.layout.TheConstants.{BLOCK_HEADER}
use Rattle.model_page.specs.declared.content.Content.{Content}
use Rattle.redo_apply.specs.{ArePagesOf}
use Rattle.redo_store.specs.declared.opened.Opened.{Opened}

-- It starts at the first data byte of a block, the pages and both parts are of the store's shape, no page is ahead of the
-- start, no call has failed, and the marks of the log part are the start, with the newest checkpoint at its block, and so
-- are those of its tail blocks.
pub record IsRunnable {L D : Type 0} (opened : Opened L D) : Type 0 where
  pub limits : IsWithinLimits opened.shape
  pub place : IsAtDataStart opened.start
  pub first : START_LSN + BLOCK_HEADER ≤ opened.start
  pub small : opened.start < 2 ^ 61
  pub its_pages : ArePagesOf opened.shape opened.pages
  pub not_ahead : (p : ℕ) (page : Content) → slice_get opened.pages p ≡ Some page → page.lsn ≤ opened.start
  pub log_shape : opened.log.shape ≡ opened.shape
  pub log_marks : opened.log.marks ≡ first_marks opened.start opened.log.marks.number
  pub log_tails : opened.log.tails ≡ first_tails opened.start
  pub log_live : opened.log.failed ≡ None
  pub data_shape : opened.store.shape ≡ opened.shape
  pub data_live : opened.store.failed ≡ None
