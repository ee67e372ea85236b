-- Where the groups of a log and the entries of its history stand.
use Rattle.std.proofs.Common.{Bool, List, [], ap, arith, cond, false, inl, inr, length, ltb, refl, subst, sym, ℕ, ⊎_elim, ◌%◌, ◌*◌, ◌+◌, ◌-◌, ◌/◌, ◌∙◌, ◌∷◌, ◌≡◌}
use Rattle.std.proofs.lemmas.Bool.{le-ltb}
use Rattle.model_core.specs.{answered, IsBound, lsn, Tiles}
use Rattle.model_running.specs.Histories.{log_span, history_of, log_spans}
use Rattle.model_report.specs.{entry_spans}
use Rattle.model_report.specs.declared.entry.Marks.{Marks}
use Rattle.model_log.specs.{IsBoundary, IsTiled, lsn_of, sn_of, Span}
use Rattle.model_log.specs.declared.layout.TheConstants.{BLOCK_DATA}
use Rattle.model_core.specs.States as core

-- an sn comes back from its lsn
pub sn_back : (x : ℕ) → sn_of (lsn x) ≡ x
unfolding lsn
sn_back x =
    let l : ℕ = x / BLOCK_DATA * 512 + x % BLOCK_DATA + 12 in
    let o : l % 512 ≡ x % BLOCK_DATA + 12 = omega arith in
    let b : l / 512 ≡ x / BLOCK_DATA = omega arith in
    let first : ltb (l % 512) 12 ≡ false = le-ltb (l % 512) 12 (omega arith) in
    let last : ltb 508 (l % 512) ≡ false = le-ltb 508 (l % 512) (omega arith) in
    let d : cond (ltb (l % 512) 12) 0 (cond (ltb 508 (l % 512)) BLOCK_DATA (l % 512 - 12)) ≡ l % 512 - 12 = ap (λ (z : Bool). cond z 0 (cond (ltb 508 (l % 512)) BLOCK_DATA (l % 512 - 12))) first ∙ ap (λ (z : Bool). cond z BLOCK_DATA (l % 512 - 12)) last in
    ap (λ (n : ℕ). l / 512 * BLOCK_DATA + n) d ∙ (omega arith)

-- the two spellings of an lsn are one
pub lsn_is : (x : ℕ) → lsn x ≡ lsn_of x
unfolding lsn
lsn_is x = refl

pub tiled_spans : (log : List core.Entry) (s n : ℕ) → Tiles s log n → IsTiled (lsn s) (log_spans log)
tiled_spans [] s n t = tt
tiled_spans (x ∷ xs) s n t = (ap lsn t.0, subst (λ (k : ℕ). IsTiled (lsn (k + length x.bytes)) (log_spans xs)) (sym t.0) (tiled_spans xs (s + length x.bytes) n t.3))

-- a place between groups is one between their places
pub bound_spans : (log : List core.Entry) (s n x : ℕ) → Tiles s log n → IsBound s log x → IsBoundary (lsn s) (log_spans log) (lsn x)
bound_spans [] s n x t b = ap lsn b
bound_spans (e ∷ es) s n x t b = ⊎_elim (λ z. inl (ap lsn z)) (λ z. inr (subst (λ (k : ℕ). IsBoundary (lsn (k + length e.bytes)) (log_spans es) (lsn x)) (sym t.0) (bound_spans es (s + length e.bytes) n x t.3 z))) b

-- the entries of the history stand where the groups do
pub history_spans : (answered : ℕ → ℕ) (marks : Marks) (log : List core.Entry) → entry_spans (history_of answered marks log) ≡ log_spans log
history_spans answered marks [] = refl
history_spans answered marks (e ∷ es) = ap (λ (z : List Span). log_span e ∷ z) (history_spans answered marks es)
