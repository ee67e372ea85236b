use Rattle.std.proofs.Common.{◌≡◌, ℕ, zero, suc, ◌+◌, ◌<◌, ◌≤◌, ◌^◌, List, [], ◌∷◌, length, length-append, get_or, take, arith}
use Rattle.std.specs.List.{flat_map}
use Rattle.model_log.specs.{record_text}
use Rattle.model_log.specs.declared.rec.Rec.{Rec}
use Rattle.redo_record.proofs.measuring.records_length.Goals as goal

-- a front of the records and the next one have no more bytes than all of them
part : (recs : List Rec) (i : ℕ) (rec : Rec) → i < length recs → rec ≡ get_or recs i rec → length (flat_map record_text (take i recs)) + length (record_text rec) ≤ length (flat_map record_text recs)
part [] i rec below is = absurd (omega arith)
part (first ∷ recs) zero rec below is = rw is (omega (arith, length-append (record_text first) (flat_map record_text recs)))
part (first ∷ recs) (suc i) rec below is =
    let others = part recs i rec (omega arith) is in
    omega (arith, others, length-append (record_text first) (flat_map record_text recs), length-append (record_text first) (flat_map record_text (take i recs)))

too_long : (recs : List Rec) (i total : ℕ) (rec : Rec) → i < length recs → rec ≡ get_or recs i rec → total ≡ length (flat_map record_text (take i recs)) → (total + length (record_text rec) < 2 ^ 64 → ⊥) → length (flat_map record_text recs) < 2 ^ 64 → ⊥
too_long recs i total rec below is counted large small = large (omega (arith, part recs i rec below is))

pub returns-in_default : goal.returns-in_default
returns-in_default c =
    too_long c.args.recs.now c.loop-rec.rec-index c.loop-rec.total c.rec-item.result c.loop-rec-test.true c.rec-item.is c.loop-rec.invariant.0 c.in_default.ensures
