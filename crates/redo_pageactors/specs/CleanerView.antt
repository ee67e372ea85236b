-- What the fields of the cleaner stand for.
use Rattle.std.specs.Prelude.{List, [], drop, length, take, vec_capacity, ℕ, ◌%◌, ◌*◌, ◌++◌, ◌-◌, ◌<◌, ◌∷◌, ◌≡◌, ◌≤◌}
use Rattle.model_base.specs.{frame_length, IsWholeSectors}
use Rattle.model_base.specs.declared.limits.TheConstants.{USER_START}
use Rattle.model_core.specs.{BatchPage, CleanerState}
use Rattle.model_core.specs.declared.limits.TheConstants.{WORD_LANES}
use Rattle.model_core.specs.declared.steps.CleanerStep.{CleanerStep}
use Rattle.model_core.specs.declared.steps.CleanerStep.TheVariants as cleaner_step
use Rattle.redo_pageactors.specs.declared.cleaner.Cleaner.TheInside.{Inside}

-- a page's bytes of its user bytes and the others: those stand before and after
abbrev pub page_bytes : List ℕ → List ℕ → List ℕ
page_bytes user rim = take USER_START rim ++ user ++ drop USER_START rim

-- the batch of these pairs of page and lsn, so many user bytes of each page being joined and the others too
abbrev pub batch_pages : ℕ → List (ℕ × ℕ) → List ℕ → List ℕ → List BatchPage
batch_pages n [] users rims = []
batch_pages n (pair ∷ pairs) users rims =
    (record { page = pair.0; lsn = pair.1; bytes = page_bytes (take n users) (take frame_length rims) })
    ∷ batch_pages n pairs (drop n users) (drop frame_length rims)

abbrev pub cleaner_view : Inside → CleanerState
cleaner_view v = record {
  pages = v.pages;
  page_size = v.page_size;
  slots = v.slots;
  flushed = v.flushed;
  page = v.page;
  left = v.left;
  newest = v.newest;
  kept = v.kept.items;
  batch = batch_pages (v.page_size - frame_length) v.batch.items v.users.items v.rims.items;
  code = v.code;
  checks = v.checks;
  step = v.step;
}

-- while it looks at pages the batch has room for one more, and while it writes them there is one
abbrev pub BatchFitsStep : ℕ → ℕ → ℕ → ℕ → CleanerStep → Type 0
BatchFitsStep page_size slots kept batch cleaner_step.LoadFlushed = Unit {0}
BatchFitsStep page_size slots kept batch cleaner_step.LoadOldest = batch < slots
BatchFitsStep page_size slots kept batch cleaner_step.TakeLatch = batch < slots
BatchFitsStep page_size slots kept batch cleaner_step.LoadNewest = batch < slots
BatchFitsStep page_size slots kept batch cleaner_step.ReleaseSkipped = batch < slots
BatchFitsStep page_size slots kept batch cleaner_step.LoadFrame = (batch < slots) × (kept < page_size) × (kept % WORD_LANES ≡ 0)
BatchFitsStep page_size slots kept batch cleaner_step.StoreFailed = Unit {0}
BatchFitsStep page_size slots kept batch cleaner_step.Failed = Unit {0}
BatchFitsStep page_size slots kept batch _ = 0 < batch

pub record IsSoundCleaner (v : Inside) : Type 0 where
  pub page : v.page < v.pages
  pub page_size : IsWholeSectors v.page_size
  pub some_slots : 0 < v.slots
  pub kept : length v.kept.items ≤ v.page_size
  pub batch : length v.batch.items ≤ v.slots
  pub users : length v.users.items ≡ length v.batch.items * (v.page_size - frame_length)
  pub rims : length v.rims.items ≡ length v.batch.items * frame_length
  pub kept_room : v.page_size ≤ vec_capacity v.kept
  pub batch_room : v.slots ≤ vec_capacity v.batch
  pub users_room : v.slots * (v.page_size - frame_length) ≤ vec_capacity v.users
  pub rims_room : v.slots * frame_length ≤ vec_capacity v.rims
  pub step : BatchFitsStep v.page_size v.slots (length v.kept.items) (length v.batch.items) v.step
