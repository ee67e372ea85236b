-- How far the groups of a live run may come.
use Rattle.std.proofs.Common.{arith, subst, sym, ℕ, ◌<◌, ◌≤◌}
use Rattle.model_base.specs.declared.limits.TheConstants.{LSN_LIMIT}
use Rattle.model_core.specs.{lsn}
use Rattle.model_log.specs.{lsn_of}
use Rattle.model_running.proofs.Places.{lsn_is}
use Rattle.redo_live.specs.declared.quota.TheConstants.{LAST_SN}

-- an sn that is low enough has an lsn below the limit
pub lsn_low : (n : ℕ) → n ≤ LAST_SN → lsn n < LSN_LIMIT
lsn_low n low = subst (λ (m : ℕ). m < LSN_LIMIT) (sym (lsn_is n))
    (let l : lsn_of n < LSN_LIMIT = omega arith in l)
