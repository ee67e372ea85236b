-- The conditions of the calls of a flush list, and of the cleaner's call.
use Rattle.std.specs.Prelude.{List, ℕ, ◌%◌, ◌+◌, ◌<◌, ◌≡◌, []}
use Rattle.model_core.specs.{Each, Listed, oldest_of, Batch, KeptPage, Lent, DataSide, Setup}
use Rattle.model_core.specs.declared.limits.TheConstants.{CLOSED_LINKS, FLUSH_LISTS}
use Rattle.model_core.specs.declared.ops.Op.{Op}
use Rattle.model_core.specs.declared.ops.Op.TheVariants as op
use Rattle.model_pagecore.specs.{CanBatch}

-- a page that is added is one of the store's, isn't listed, and is at most so much below each that entered earlier; one that
-- is removed is listed
abbrev pub ListReady : ℕ → (ℕ → List Listed) → Op → Type 0
ListReady pages ls (op.TakeAdd p x) = (p < pages) × (oldest_of p (ls (p % FLUSH_LISTS)) ≡ 0) × Each (λ y. y.oldest < x + CLOSED_LINKS) (ls (p % FLUSH_LISTS))
ListReady pages ls (op.TakeRemove p) = 0 < oldest_of p (ls (p % FLUSH_LISTS))
ListReady pages ls _ = Unit {0}

-- nothing is unfinished in the data part, and the batch that is lent may be written
abbrev pub CanLendBatch : (E : DataSide) → Setup → (ℕ → KeptPage) → Lent → E.Part → Type 0
CanLendBatch E c kept_page (Batch b) d = E.Holds kept_page [] d × CanBatch E c kept_page b d
CanLendBatch E c kept_page _ d = ⊥

abbrev pub BatchReady : (E : DataSide) → Setup → (ℕ → KeptPage) → Lent → E.Part → Op → Type 0
BatchReady E c kept_page l d op.WriteBatch = CanLendBatch E c kept_page l d
BatchReady E c kept_page l d _ = Unit {0}
