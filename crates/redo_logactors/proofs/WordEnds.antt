-- Where the writer stands once it has kept a whole word.
use Rattle.std.proofs.Common.{List, ap, arith, cond, eqb, length, length-append, ℕ, ◌*◌, ◌++◌, ◌+◌, ◌∙◌, ◌≡◌}
use Rattle.model_log.specs.declared.layout.TheConstants.{BLOCK_DATA}
use Rattle.model_core.proofs.Lanes.{lanes_long}
unfoldable use Rattle.model_core.specs.{lanes}
use Rattle.model_core.specs.{lane_of, left_in_word, lsn, read_place, writer_took, WriterState}
use Rattle.model_core.specs.declared.ops.Answer.{Answer}
use Rattle.model_core.specs.declared.steps.WriterStep.TheVariants as writer_step
use Rattle.redo_logactors.specs.WriterView.{after_word}

pub cleared_word : (s : WriterState) (a : Answer) → (let kept : List ℕ = s.kept ++ lanes (lane_of (read_place s)) (left_in_word (read_place s)) s.word in
    ◌≡◌ {A = WriterState} (record s { kept = kept; word = 0; step = after_word (record s { kept = kept; word = 0 }) }) (writer_took s a writer_step.ClearCell))
cleared_word s a =
    let l : List ℕ = lanes (lane_of (read_place s)) (left_in_word (read_place s)) s.word in
    let long : length (s.kept ++ l) ≡ length s.kept + left_in_word (read_place s) = length-append s.kept l ∙ ap (λ (n : ℕ). length s.kept + n) (lanes_long (lane_of (read_place s)) (left_in_word (read_place s)) s.word) in
    ap (λ (n : ℕ). let w : WriterState = record s { kept = s.kept ++ l; word = 0; step = cond (eqb (lsn (s.from + n)) s.tail) writer_step.TakeDevice (cond (eqb n (BLOCK_DATA * length s.firsts)) writer_step.LoadFirst writer_step.LoadCell) } in w) long
    ∙ ap (λ (n : ℕ). let w : WriterState = record s { kept = s.kept ++ l; word = 0; step = cond (eqb (lsn n) s.tail) writer_step.TakeDevice (cond (eqb (length s.kept + left_in_word (read_place s)) (BLOCK_DATA * length s.firsts)) writer_step.LoadFirst writer_step.LoadCell) } in w) (sum_of s.from (length s.kept) (left_in_word (read_place s)))
  where
    sum_of : (a b c : ℕ) → a + (b + c) ≡ a + b + c
    sum_of a b c = omega arith

-- it has kept so many lanes of a word, and its word goes
abbrev pub kept_with : WriterState → ℕ → ℕ → ℕ → WriterState
kept_with s j n word = record s { kept = s.kept ++ lanes j n word }

abbrev pub let_go : WriterState → WriterState
let_go s = record s { word = 0; step = after_word (record s { word = 0 }) }

pub clears : (s v w x : WriterState) (j n word : ℕ) (a : Answer) → j ≡ lane_of (read_place s) → n ≡ left_in_word (read_place s) → word ≡ s.word → ◌≡◌ {A = WriterState} v (kept_with s j n word) → ◌≡◌ {A = WriterState} w v → ◌≡◌ {A = WriterState} x (let_go w)
    → ◌≡◌ {A = WriterState} x (writer_took s a writer_step.ClearCell)
clears s v w x j n word a j_is n_is word_is v_is w_is x_is =
    x_is ∙ ap let_go (w_is ∙ v_is ∙ ap (λ (k : ℕ). kept_with s k n word) j_is ∙ ap (λ (k : ℕ). kept_with s (lane_of (read_place s)) k word) n_is ∙ ap (λ (k : ℕ). kept_with s (lane_of (read_place s)) (left_in_word (read_place s)) k) word_is) ∙ cleared_word s a
