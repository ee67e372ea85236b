-- The laws of the data part: the conditions of writing a batch, and what it leaves.
use Rattle.std.specs.Prelude.{List, [], cond, false, length, true, ℕ, ◌<◌, ◌==◌, ◌∷◌, ◌≡◌, ◌≢◌, ◌≤◌}
use lib.ListN.{get_elem?}
use mathlib.Core.Option.{some}
use Rattle.model_base.specs.declared.limits.TheConstants.{LSN_LIMIT}
use Rattle.model_core.specs.{DataSide, BatchPage, IsDataCode, KeptPage, Setup}

-- the kept pages with a batch
abbrev pub kept_in : List BatchPage → ℕ → KeptPage → KeptPage
kept_in [] p k = k
kept_in (t ∷ ts) p k = cond (t.page == p) (record { lsn = t.lsn; bytes = t.bytes }) (kept_in ts p k)

abbrev pub renewed : (ℕ → KeptPage) → List BatchPage → ℕ → KeptPage
renewed kept_page batch p = kept_in batch p (kept_page p)

-- a page of a batch is one that the store has, with all its bytes, and its lsn is one of a store
pub record IsStorePage (c : Setup) (t : BatchPage) : Type 0 where
  pub there : t.page < c.pages
  pub whole : length t.bytes ≡ c.page_size
  pub small : t.lsn < LSN_LIMIT

-- it has each page once
abbrev pub AreApart : List BatchPage → Type 0
AreApart batch = (i j : ℕ) (t u : BatchPage) → get_elem? batch i ≡ some t → get_elem? batch j ≡ some u → i < j → t.page ≢ u.page

module _ (E : DataSide) where
  pub record CanBatch (c : Setup) (kept_page : ℕ → KeptPage) (batch : List BatchPage) (d : E.Part) : Type 0 where
    pub sound : E.failed d ≡ false
    pub some_pages : 0 < length batch
    pub few : length batch ≤ c.slots
    pub each : (i : ℕ) (t : BatchPage) → get_elem? batch i ≡ some t → IsStorePage c t
    -- no page goes back, and none has two contents for one lsn
    pub newer : (i : ℕ) (t : BatchPage) → get_elem? batch i ≡ some t → ((kept_page t.page).lsn ≤ t.lsn) × ((kept_page t.page).lsn ≡ t.lsn → (kept_page t.page).bytes ≡ t.bytes)
    pub apart : AreApart batch

  -- Where it failed each page is kept as it was or as the batch has it, and the part has failed.
  pub record AfterBatch (kept_page : ℕ → KeptPage) (batch : List BatchPage) (code : ℕ) (d e : E.Part) : Type 0 where
    pub holds : E.Holds (cond (code == 0) (renewed kept_page batch) kept_page) (cond (code == 0) [] batch) e
    pub sound : code ≡ 0 → E.failed e ≡ false
    pub broken : 0 < code → E.failed e ≡ true
    pub causes : (x : ℕ) → E.Cause d x → E.Cause e x
    pub cause : 0 < code → E.Cause e code

pub record DataLaws (E : DataSide) : Type 0 where
  pub codes : (d : E.Part) (code : ℕ) → E.Cause d code → IsDataCode code
  pub broken : (d : E.Part) (code : ℕ) → E.Cause d code → E.failed d ≡ true
  pub batches : (c : Setup) (kept_page : ℕ → KeptPage) (batch : List BatchPage) (code : ℕ) (d e : E.Part) → E.Holds kept_page [] d → CanBatch E c kept_page batch d → E.Batched batch code d e → AfterBatch E kept_page batch code d e
