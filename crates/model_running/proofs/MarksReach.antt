-- The marks in the words reach what each actor has loaded and stored.
use Rattle.std.proofs.Common.{arith, ℕ, ◌≡◌, ◌≤◌}
use lib.ListN.{get_elem?}
use mathlib.Core.Option as maybe
use Rattle.model_core.proofs.Lsns.{lsn_le}
use Rattle.model_core.specs.{Core, SharedWords, DataSide, LogSide, Setup}
use Rattle.model_core.specs.States as model
use Rattle.model_running.specs.Histories.{word_marks}
use Rattle.model_running.specs.Watermarks.{HasMarksWithin, HasWatermarks}

module _ (D : LogSide) (E : DataSide) (c : Setup) (s : Core D E) (has_marks : HasWatermarks D E c s) where
  abbrev m : SharedWords
  m = has_marks.0

  pub within_words : (i : ℕ) (a : model.Actor) → get_elem? s.actors i ≡ maybe.some a → HasMarksWithin (word_marks m) a
  within_words i (model.User u) at = let l = has_marks.2.of_log.marks_are_ordered.loaded i (model.User u) at in (l.wtail_below, l.write_below, l.flushed_below, l.ckpt_below)
  within_words i (model.Writer s) at =
      let O = has_marks.2.of_log.marks_are_ordered in
      let l = O.loaded i (model.Writer s) at in
      let goes_on : s.tail ≤ m.wtail = let below = lsn_le has_marks.2.of_log.target has_marks.2.of_log.wtail O.target_wtail in let is = (O.writer i s at).0 in let word_is = O.wtail_is in omega arith in
      (goes_on, l.0, l.1)
  within_words i (model.Flusher f) at = has_marks.2.of_log.marks_are_ordered.loaded i (model.Flusher f) at
  within_words i (model.Reader f) at = has_marks.2.of_log.marks_are_ordered.loaded i (model.Reader f) at
  within_words i (model.Closer t) at = tt
  within_words i (model.Cleaner v) at = has_marks.2.kept_pages_are_prefixes.cleaner_loaded i v at
  within_words i (model.Checkpointer t) at = ((has_marks.2.kept_pages_are_prefixes.loaded i t at).1, (let own = has_marks.2.of_log.marks_are_ordered.own i (model.Checkpointer t) at in omega arith))
