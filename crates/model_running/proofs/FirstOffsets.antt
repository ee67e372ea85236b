-- The first offsets of the invariant are those of the log's definitions.
use Rattle.std.proofs.Common.{◌≡◌, ℕ, Bool, true, false, cond, eqb, ltb, ◌+◌, ◌-◌, ◌*◌, ◌/◌, ◌%◌, ◌&&◌, List, [], ◌∷◌, Option, Some, None, sym, refl, ap, ◌∙◌, arith, eq-eqb, ne_eqb, lt-ltb, le-ltb}
use native.Mathlib.Decide.{dec_le, ℕ_discrete}
use Rattle.model_log.specs.{crossing_end, ends_in, first_at}
use Rattle.model_log.specs.declared.layout.TheConstants.{BLOCK_DATA}
use Rattle.model_core.specs.{crosses, crossing, end_of, first_of, lsn}
use Rattle.model_core.specs.States as core
use Rattle.model_core.proofs.Lsns.{lsn_block, lsn_offset}
use Rattle.model_core.proofs.Groups.{crosses_is}
use Rattle.model_running.specs.Histories.{log_span, log_spans}

same_eq : (a b : ℕ) → eqb (a * 512) (512 * b) ≡ eqb a b
same_eq a b = elim (ℕ_discrete a b) [
  | yes e ↦ eq-eqb (a * 512) (512 * b) (omega arith) ∙ sym (eq-eqb a b e)
  | no n ↦ ne_eqb (a * 512) (512 * b) (λ e. n (omega arith)) ∙ sym (ne_eqb a b n)
]

same_lt : (a b : ℕ) → ltb (a * 512) (512 * b) ≡ ltb a b
same_lt a b = elim (dec_le b a) [
  | yes d ↦ le-ltb (a * 512) (512 * b) (omega arith) ∙ sym (le-ltb a b d)
  | no n ↦ lt-ltb (a * 512) (512 * b) (omega arith) ∙ sym (lt-ltb a b (omega arith))
]

and_cond : (a b : Bool) → (a && b) ≡ cond a b false
and_cond true b = refl
and_cond false b = refl

ends_same : (q : ℕ) (e : core.Entry) → ends_in (512 * q) (log_span e) ≡ crosses q e
ends_same q e =
    let a : lsn (end_of e) / 512 * 512 ≡ end_of e / BLOCK_DATA * 512 = ap (λ (k : ℕ). k * 512) (lsn_block (end_of e)) in
    let b : lsn e.start / 512 * 512 ≡ e.start / BLOCK_DATA * 512 = ap (λ (k : ℕ). k * 512) (lsn_block e.start) in
    ap (λ (k : ℕ). eqb k (512 * q) && ltb (lsn e.start / 512 * 512) (512 * q)) a
    ∙ ap (λ (k : ℕ). eqb (end_of e / BLOCK_DATA * 512) (512 * q) && ltb k (512 * q)) b
    ∙ ap (λ (z : Bool). z && ltb (e.start / BLOCK_DATA * 512) (512 * q)) (same_eq (end_of e / BLOCK_DATA) q) ∙ ap (λ (z : Bool). eqb (end_of e / BLOCK_DATA) q && z) (same_lt (e.start / BLOCK_DATA) q)
    ∙ and_cond (eqb (end_of e / BLOCK_DATA) q) (ltb (e.start / BLOCK_DATA) q)

abbrev offset : ℕ → Option ℕ → ℕ
offset b None = 0
offset b (Some end) = end - b

crossing_same : (q : ℕ) (log : List core.Entry) → offset (512 * q) (crossing_end (512 * q) (log_spans log)) ≡ crossing q log
crossing_same q [] = refl
crossing_same q (x ∷ xs) = ap (λ (z : Bool). offset (512 * q) (cond z (Some (lsn (end_of x))) (crossing_end (512 * q) (log_spans xs)))) (ends_same q x) ∙ by (crosses q x) refl (crossing_same q xs)
  where
    by : (b : Bool) → crosses q x ≡ b → offset (512 * q) (crossing_end (512 * q) (log_spans xs)) ≡ crossing q xs
        → offset (512 * q) (cond b (Some (lsn (end_of x))) (crossing_end (512 * q) (log_spans xs))) ≡ cond b (end_of x % BLOCK_DATA + 12) (crossing q xs)
    by true c r = let k = (crosses_is q x c).0 in let a = lsn_block (end_of x) in let o = lsn_offset (end_of x) in omega arith
    by false c r = r

-- the first offsets that the invariant speaks of are those of the log's blocks
pub first_same : (base q b : ℕ) (log : List core.Entry) → b ≡ 512 * q → first_at (lsn base) (log_spans log) b ≡ first_of base log q
unfolding first_at
first_same base q b log is =
    let a : lsn base / 512 * 512 ≡ base / BLOCK_DATA * 512 = ap (λ (k : ℕ). k * 512) (lsn_block base) in
    let t : eqb (512 * q) (lsn base / 512 * 512) ≡ eqb q (base / BLOCK_DATA) = ap (eqb (512 * q)) a ∙ turned in
    ap (first_at (lsn base) (log_spans log)) is
    ∙ ap (λ (z : Bool). cond z 12 (offset (512 * q) (crossing_end (512 * q) (log_spans log)))) t
    ∙ ap (cond (eqb q (base / BLOCK_DATA)) 12) (crossing_same q log)
  where
    turned : eqb (512 * q) (base / BLOCK_DATA * 512) ≡ eqb q (base / BLOCK_DATA)
    turned = elim (ℕ_discrete q (base / BLOCK_DATA)) [
      | yes e ↦ eq-eqb (512 * q) (base / BLOCK_DATA * 512) (omega arith) ∙ sym (eq-eqb q (base / BLOCK_DATA) e)
      | no n ↦ ne_eqb (512 * q) (base / BLOCK_DATA * 512) (λ e. n (omega arith)) ∙ sym (ne_eqb q (base / BLOCK_DATA) n)
    ]
