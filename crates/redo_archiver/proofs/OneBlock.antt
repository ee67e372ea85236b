-- A block of a run, up to a mark.
use Rattle.std.proofs.Common.{arith, List, subst, ℕ, ◌++◌, ◌+◌, ◌≡◌, ◌≤◌}
use Rattle.model_archive.specs.{IsArchivedBlock}
use Rattle.model_log.proofs.BoundaryRound.{block-longer}
use Rattle.model_log.proofs.Runs.{boundary-before_end, boundary-longer, data-start}
use Rattle.model_log.specs.{block_of, IsAtDataStart, IsRunOf, last_span_end, spans_of}
use Rattle.model_log.specs.declared.group.Whole.{Whole}
use Rattle.redo_archiver.specs.Appending.{IsFullBlock}

-- the run goes up to there
pub mark-reached : (s : ℕ) (wholes : List Whole) (from mark : ℕ) (bytes : List ℕ) → IsAtDataStart s → IsRunOf s wholes
    → IsAtDataStart from → mark ≤ from + 512
    → IsArchivedBlock s wholes mark (block_of from) bytes → mark ≤ last_span_end s (spans_of wholes)
mark-reached s wholes from mark bytes start run at_start near is =
    let last = boundary-before_end s wholes is.m (data-start s start) run is.boundary in
    omega (arith, last, is.enough)

-- a block that was full in a shorter run, as an archive of the run holds it
pub full-archived : (s : ℕ) (early late : List Whole) (from mark x : ℕ) (bytes : List ℕ) → IsAtDataStart s
    → IsRunOf s (early ++ late) → x ≡ block_of from → IsFullBlock s early x bytes → mark ≤ x + 524
    → IsArchivedBlock s (early ++ late) mark (block_of from) bytes
full-archived s early late from mark x bytes start run place is near =
    subst (λ (b : ℕ). IsArchivedBlock s (early ++ late) mark b bytes) place (record {
      m = is.m;
      boundary = boundary-longer s early late is.m is.boundary;
      enough = (let enough = is.enough in omega (arith, enough));
      block = block-longer s early late is.m x bytes start run is.boundary is.block;
    })
