-- What an Op leaves of the list of words, of the flush lists and as its answer is what it leaves of the words by name.
use Rattle.std.proofs.Common.{List, ap, arith, cond, eqb, refl, ℕ, ◌%◌, ◌+◌, ◌<◌, ◌∙◌, ◌≡◌}
use Rattle.std.specs.Prelude.{slice_index}
use Rattle.model_core.specs.{Actor, answer_of, appended, flat, layout_of, list_word, Listed, lists_left, OpWords, shared_left, without, words_left, DataSide, LogSide, Setup}
use Rattle.model_core.specs.declared.ops.Answer.{Answer}
use Rattle.model_core.specs.declared.ops.Op.{Op}
use Rattle.model_core.specs.declared.ops.Op.TheVariants as op
use Rattle.model_core.specs.declared.words.Layout.{Layout}
use Rattle.model_core.specs.declared.words.Word.TheVariants as word
use Rattle.model_ownrun.proofs.Moves.{answer_to, lists_after}
use Rattle.model_running.proofs.FlatWords.{flat_answer, flat_left, flat_read}
use Rattle.model_running.specs.Watermarks.{RunningStore}

-- the flush lists after an Op depend on the turn words of the lists alone
lists_same : (ls : ℕ → List Listed) (first second : ℕ → ℕ) → ((i : ℕ) → i < 4 → first i ≡ second i) → (o : Op)
    → ◌≡◌ {A = ℕ → List Listed} (lists_left ls first o) (lists_left ls second o)
lists_same ls first second same (op.TakeAdd p x) = ap {B = ℕ → List Listed}
    (λ (z : ℕ) (i : ℕ). cond (eqb i (p % 4)) (cond (eqb z 0) (appended (ls i) p x) (ls i)) (ls i))
    (same (p % 4) (omega arith))
lists_same ls first second same (op.TakeRemove p) = ap {B = ℕ → List Listed}
    (λ (z : ℕ) (i : ℕ). cond (eqb i (p % 4)) (cond (eqb z 0) (without p (ls i)) (ls i)) (ls i))
    (same (p % 4) (omega arith))
lists_same ls first second same _ = refl

module _ (D : LogSide) (E : DataSide) (c : Setup) (layout : Layout) (ws : List ℕ) (ls : ℕ → List Listed)
    (p : D.Part) (d : E.Part) (actors : List Actor) (before : RunningStore D E c layout ws ls p d actors) (o : Op)
    (names : OpWords (layout_of c) o) where
  pub words_by_name : words_left layout ws o ≡ flat (shared_left before.shared o)
  words_by_name = ap (λ (z : List ℕ). words_left layout z o) before.flat_is
      ∙ ap (λ (k : Layout). words_left k (flat before.shared) o) before.layout_is
      ∙ flat_left (layout_of c) before.shared before.both.logged.sized o names

  pub answer_by_name : (code : ℕ) (q : D.Part)
      → ◌≡◌ {A = Answer} (answer_of layout ls (D.failed p) code (D.stable q) ws o)
      (answer_to D p code q before.shared ls o)
  answer_by_name code q = ap (λ (z : List ℕ). answer_of layout ls (D.failed p) code (D.stable q) z o) before.flat_is
      ∙ ap (λ (k : Layout). answer_of k ls (D.failed p) code (D.stable q) (flat before.shared) o) before.layout_is
      ∙ flat_answer (layout_of c) before.shared before.both.logged.sized ls (D.failed p) code (D.stable q) o names

  pub lists_by_name : ◌≡◌ {A = ℕ → List Listed} (lists_left ls (list_word ws) o) (lists_after before.shared ls o)
  lists_by_name = lists_same ls (list_word ws) (λ i. slice_index before.shared.lists i) words_same o
    where
      words_same : (i : ℕ) → i < 4 → list_word ws i ≡ slice_index before.shared.lists i
      words_same i l = ap (λ (z : List ℕ). slice_index z (8 + i)) before.flat_is
          ∙ flat_read (layout_of c) before.shared before.both.logged.sized (word.List i) l
