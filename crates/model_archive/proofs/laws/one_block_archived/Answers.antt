use Rattle.std.proofs.Common.{◌≡◌, ℕ, sym, subst, arith}
use Rattle.std.proofs.lemmas.Bool.Decides.{nat_tests}
use Rattle.std.proofs.lemmas.List.{take_all}
use Rattle.model_device.specs.{sector}
use Rattle.model_log.specs.{block_of, lsn_at}
use Rattle.model_archive.specs.{IsArchivedBlock}
use Rattle.model_archive.proofs.laws.one_block_archived.Goals as goal

pub returns-clause-one : goal.returns-clause-one
returns-clause-one c from mark start later near = grind (arith, nat_tests)

pub returns-clause-are : goal.returns-clause-are
returns-clause-are c s wholes from mark bytes one long is i below =
    let first : 0 ≡ i = omega (arith, one) in
    let place : lsn_at (block_of from) 0 ≡ block_of from = omega arith in
    let whole : sector 0 bytes ≡ bytes = take_all 512 bytes (omega (arith, long)) in
    let at : (lsn : ℕ) → lsn ≡ block_of from → IsArchivedBlock s wholes mark lsn (sector 0 bytes) = λ lsn same.
    subst (λ (b : ℕ). IsArchivedBlock s wholes mark b (sector 0 bytes)) (sym same)
    (subst (IsArchivedBlock s wholes mark (block_of from)) (sym whole) is) in
    subst (λ (n : ℕ). IsArchivedBlock s wholes mark (lsn_at (block_of from) n) (sector n bytes)) first
    (at (lsn_at (block_of from) 0) place)
