-- What the readers have at the start of a run.
use Rattle.std.proofs.Common.{Bool, List, [], ap, arith, cond, drop, eqb, false, length, refl, subst, sym, take, true, zero, suc, ℕ, ◌%◌, ◌-◌, ◌<◌, ◌∙◌, ◌≡◌, ◌≤◌}
use Rattle.std.specs.Prelude.{slice_index}
use Rattle.model_base.specs.declared.limits.TheConstants.{BLOCK_SIZE}
use Rattle.model_core.proofs.Lsns.{lsn_block, lsn_offset}
use Rattle.model_core.specs.{archives, CheckpointerState, floor, IsText, LostAt, lsn, new_checkpointer, new_reader, ReaderState, SharedWords, Setup, start_checkpoint}
use Rattle.model_core.specs.declared.limits.TheConstants.{READERS}
use Rattle.model_core.specs.declared.steps.ReaderStep.TheVariants as reader_step
use Rattle.model_log.specs.declared.layout.TheConstants.{BLOCK_DATA}
use Rattle.model_running.proofs.Following.{text_some}
use Rattle.model_running.specs.ReadHalf.{ArchiverAt, ArchiverHas, CandidateAt, CandidateFits, FollowerAt, HasByKind, ReaderHas, ReadsInRun}

module _ (c : Setup) (m : SharedWords) (even : c.base % BLOCK_DATA ≡ 0) (flushed : m.flushed ≡ lsn c.base)
    (places : (i : ℕ) → i < READERS → slice_index m.places i ≡ cond (eqb i 0) (start_checkpoint c) (lsn c.base)) where
  at_data : lsn c.base % BLOCK_SIZE ≡ 12
  at_data = let o = lsn_offset c.base in omega arith

  pub starts_under : (i : ℕ) → i < READERS → start_checkpoint c ≤ slice_index m.places i
  starts_under i few = by (eqb i 0) (places i few)
    where
      by : (b : Bool) → slice_index m.places i ≡ cond b (start_checkpoint c) (lsn c.base) → start_checkpoint c ≤ slice_index m.places i
      by true is = omega arith
      by false is = omega arith

  no_text : (n : ℕ) → IsText (take n []) → ⊥
  no_text zero is = absurd (let some = text_some [] is in omega arith)
  no_text (suc n) is = absurd (let some = text_some [] is in omega arith)

  pub reader_starts : (seat : ℕ) (r : ReaderState) → seat ≡ c.reader_at r.number → c.first_reader ≤ r.number → r.number < c.last_reader → r.number < READERS
      → ◌≡◌ {A = ReaderState} r (new_reader r.number (lsn c.base)) → ReaderHas c m [] seat r
  reader_starts seat r alone first last few is = record {
    alone = alone;
    first = first;
    last = last;
    word = ap (λ (x : ReaderState). x.own) is ∙ sym (places r.number few);
    up = (let a = ap (λ (x : ReaderState). x.own) is in let b = ap (λ (x : ReaderState). x.place) is in omega arith);
    has = by (archives r) (ap (λ (x : ReaderState). x.place) is) (ap (λ (x : ReaderState). x.own) is);
  }
    where
      step_is : r.step ≡ reader_step.LoadFlushed
      step_is = ap (λ (x : ReaderState). x.step) is

      at_is : r.at ≡ c.base
      at_is = let z = ap (λ (x : ReaderState). x.at) is in let b = lsn_block c.base in omega arith

      kept_is : r.kept ≡ []
      kept_is = ap (λ (x : ReaderState). x.kept) is

      by : (b : Bool) → r.place ≡ cond b (lsn c.base - 12) (lsn c.base) → r.own ≡ cond b (lsn c.base - 12) (lsn c.base) → HasByKind c m [] b r
      by true place own = let at = at_data in record {
        aligned = omega arith;
        below = omega arith;
        own_aligned = omega arith;
        step = subst (ArchiverAt c m [] r) (sym step_is) tt;
      }
      by false place own = record {
        place = place ∙ ap lsn (sym at_is);
        bound = at_is;
        kept = kept_is ∙ sym (take_none (drop (r.at - c.base) []) (length r.kept) (ap length kept_is));
        no_more = λ n low few text. no_text n (subst (λ (l : List ℕ). IsText (take n l)) kept_is text);
        to = c.base;
        read = record { bound = refl; flushed = omega arith };
        below = (let z = ap length kept_is in let a = at_is in omega arith);
        stored = c.base;
        own = own;
        own_bound = refl;
        step = subst (FollowerAt c m [] r) (sym step_is) tt;
      }
        where
          take_none : (l : List ℕ) (n : ℕ) → n ≡ 0 → take n l ≡ []
          take_none l n is = ap (λ k. take k l) is

  pub candidate_starts : (t : CheckpointerState) → ◌≡◌ {A = CheckpointerState} t (new_checkpointer (lsn c.base) c.first_reader c.last_reader) → CandidateFits c m [] t
  candidate_starts t is = record {
    first = ap (λ (x : CheckpointerState). x.first) is;
    last = ap (λ (x : CheckpointerState). x.last) is;
    step = subst (CandidateAt c m [] t) (sym (ap (λ (x : CheckpointerState). x.step) is)) tt;
  }

-- whatever the log device tells
pub archiver_starts : (c : Setup) (m : SharedWords) → c.base % BLOCK_DATA ≡ 0 → m.flushed ≡ lsn c.base → (r : ReaderState)
    → ◌≡◌ {A = ReaderState} r (new_reader r.number (lsn c.base)) → archives r ≡ true → ArchiverHas c m [] r
archiver_starts c m even flushed r is kind = by (archives r) kind (ap (λ (x : ReaderState). x.place) is) (ap (λ (x : ReaderState). x.own) is)
  where
    by : (b : Bool) → b ≡ true → r.place ≡ cond b (lsn c.base - 12) (lsn c.base) → r.own ≡ cond b (lsn c.base - 12) (lsn c.base) → ArchiverHas c m [] r
    by true k place own = let o = lsn_offset c.base in record {
      aligned = omega arith;
      below = omega arith;
      own_aligned = omega arith;
      step = subst (ArchiverAt c m [] r) (sym (ap (λ (x : ReaderState). x.step) is)) tt;
    }
    by false k place own = absurd (cc)

pub starts_in_run : (c : Setup) → c.base % BLOCK_DATA ≡ 0 → (r : ReaderState) → c.first_reader ≤ r.number → r.number < c.last_reader
    → ◌≡◌ {A = ReaderState} r (new_reader r.number (lsn c.base)) → ReadsInRun c r
starts_in_run c even r first few is = record {
  first = first;
  few = few;
  from = (let z = ap (λ (x : ReaderState). x.at) is in let b = lsn_block c.base in omega arith);
  block = λ kind. by (archives r) kind (ap (λ (x : ReaderState). x.place) is);
  lost = subst (LostAt r) (sym (ap (λ (x : ReaderState). x.step) is)) (ap (λ (x : ReaderState). x.lost) is);
}
  where
    by : (b : Bool) → b ≡ true → r.place ≡ cond b (lsn c.base - 12) (lsn c.base)
        → (r.place % BLOCK_SIZE ≡ 0) × (floor (lsn c.base) ≤ r.place)
    by true kind place = let o = lsn_offset c.base in (omega arith, omega arith)
    by false kind place = absurd (cc)
