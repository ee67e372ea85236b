-- With the log alone no Op changes CKPT: there is no checkpointer.
use Rattle.std.proofs.Common.{Bool, List, cond, eqb, false, refl, true, ℕ, ◌%◌, ◌∙◌, ◌≡◌}
use Rattle.std.specs.Prelude.{slice_index, slice_set}
use lib.ListN.{get_elem?}
use mathlib.Core.Option.{some}
use Rattle.model_core.specs.{Actor, cleaner_op, CleanerState, closer_op, CloserState, first_of_batch, flusher_op, FlusherState, Listed, next, current_page, page_words_at, shared_left, SharedWords, user_op, UserState, with_page_words, writer_op, WriterState, Advance, advance_op, read, tail_word, wrote, reader_op, ReaderState, DataSide, LogSide, Setup, start_checkpoint}
use Rattle.model_core.specs.declared.ops.Op.{Op}
use Rattle.model_core.specs.declared.steps.CleanerStep.{CleanerStep}
use Rattle.model_core.specs.declared.steps.CloserStep.{CloserStep}
use Rattle.model_core.specs.declared.steps.FlusherStep.{FlusherStep}
use Rattle.model_core.specs.declared.steps.ReaderStep.{ReaderStep}
use Rattle.model_core.specs.declared.steps.UserStep.{UserStep}
use Rattle.model_core.specs.declared.steps.WriterStep.{WriterStep}
use Rattle.model_logcore.specs.{LogGhost}
use Rattle.model_pagecore.specs.{CheckpointerPageFits, PageGhost}
use Rattle.model_running.specs.Watermarks.{BothHalves}
use Rattle.model_core.specs.declared.steps.AdvanceStep.TheVariants as advance_step
use Rattle.model_core.specs.declared.words.LinkBuffer.TheVariants as link_buffer
use Rattle.model_core.specs.declared.words.LinkBuffer.{LinkBuffer}
use Rattle.model_core.specs.States as actor
use Rattle.model_core.specs.declared.ops.Op.TheVariants as op
use Rattle.model_core.specs.declared.steps.CleanerStep.TheVariants as cleaner_step
use Rattle.model_core.specs.declared.steps.CloserStep.TheVariants as closer_step
use Rattle.model_core.specs.declared.steps.FlusherStep.TheVariants as flusher_step
use Rattle.model_core.specs.declared.steps.ReaderStep.TheVariants as reader_step
use Rattle.model_core.specs.declared.steps.UserStep.TheVariants as user_step
use Rattle.model_core.specs.declared.steps.WriterStep.TheVariants as writer_step
use Rattle.model_core.specs.declared.words.Word.TheVariants as word

module _ (m : SharedWords) where
  abbrev Stays : SharedWords → Type 0
  Stays after = after.ckpt ≡ m.ckpt

  either : (b : Bool) (x : SharedWords) → Stays x → Stays (cond b x m)
  either true x same = same
  either false x same = refl

  taken : (b : LinkBuffer) (v : Advance) → Stays (shared_left m (advance_op b v advance_step.TakeTail))
  taken link_buffer.Written v = either (eqb (read m word.Wtail) (tail_word v.tail false)) (wrote m word.Wtail (tail_word v.tail true)) refl
  taken link_buffer.Closed v = either (eqb (read m word.Ctail) (tail_word v.tail false)) (wrote m word.Ctail (tail_word v.tail true)) refl

  user_stays : (u : UserState) (f : UserStep) → Stays (shared_left m (user_op u f))
  user_stays u (user_step.AdvanceWritten advance_step.TakeTail) = taken link_buffer.Written u.advance
  user_stays u (user_step.AdvanceClosed advance_step.TakeTail) = taken link_buffer.Closed u.advance
  user_stays u user_step.TakeLatch = let w = page_words_at m.page_words (current_page u) in either (eqb w.latch 0) (with_page_words m (current_page u) (record w { latch = 1 })) refl
  user_stays u user_step.AddToList = let i : ℕ = current_page u % 4 in either (eqb (slice_index m.lists i) 0) (record m { lists = slice_set m.lists i 1 }) refl
  user_stays u _ = refl

  writer_stays : (s : WriterState) (f : WriterStep) → Stays (shared_left m (writer_op s f))
  writer_stays s (writer_step.Advance advance_step.TakeTail) = taken link_buffer.Written s.advance
  writer_stays s writer_step.TakeDevice = either (eqb m.device 0) (record m { device = 1 }) refl
  writer_stays s _ = refl

  flusher_stays : (t : FlusherState) (f : FlusherStep) → Stays (shared_left m (flusher_op t f))
  flusher_stays t flusher_step.TakeDevice = either (eqb m.device 0) (record m { device = 1 }) refl
  flusher_stays t _ = refl

  reader_stays : (t : ReaderState) (f : ReaderStep) → Stays (shared_left m (reader_op t f))
  reader_stays t reader_step.TakeDevice = either (eqb m.device 0) (record m { device = 1 }) refl
  reader_stays t _ = refl

  closer_stays : (t : CloserState) (f : CloserStep) → Stays (shared_left m (closer_op t f))
  closer_stays t (closer_step.Advance advance_step.TakeTail) = taken link_buffer.Closed t.advance
  closer_stays t _ = refl

  cleaner_stays : (v : CleanerState) (f : CleanerStep) → Stays (shared_left m (cleaner_op v f))
  cleaner_stays v cleaner_step.TakeLatch = let w = page_words_at m.page_words v.page in either (eqb w.latch 0) (with_page_words m v.page (record w { latch = 1 })) refl
  cleaner_stays v cleaner_step.RemoveFromList = let i : ℕ = first_of_batch v % 4 in either (eqb (slice_index m.lists i) 0) (record m { lists = slice_set m.lists i 1 }) refl
  cleaner_stays v _ = refl

  checking : (b : Bool) (o : Op) → Stays (shared_left m o) → Stays (shared_left m (cond b (op.Load word.Failed) o))
  checking true o same = refl
  checking false o same = same

module _ (D : LogSide) (E : DataSide) (c : Setup) (m : SharedWords) (g : LogGhost) (h : PageGhost) (ls : ℕ → List Listed) (p : D.Part) (d : E.Part) (actors : List Actor) (seat : ℕ) (both : BothHalves D E c m g h ls p d actors) (alone : c.log_only ≡ true) where
  same_after : (a : Actor) → get_elem? actors seat ≡ some a → Stays m (shared_left m (next a))
  same_after (actor.User u) at = checking m u.checks (user_op u u.step) (user_stays m u u.step)
  same_after (actor.Writer s) at = checking m s.checks (writer_op s s.step) (writer_stays m s s.step)
  same_after (actor.Flusher t) at = checking m t.checks (flusher_op t t.step) (flusher_stays m t t.step)
  same_after (actor.Reader t) at = checking m t.checks (reader_op t t.step) (reader_stays m t t.step)
  same_after (actor.Closer t) at = checking m t.checks (closer_op t t.step) (closer_stays m t t.step)
  same_after (actor.Cleaner v) at = checking m v.checks (cleaner_op v v.step) (cleaner_stays m v v.step)
  same_after (actor.Checkpointer t) at = let F : CheckpointerPageFits E c m g.log h ls d seat t = both.paged.each seat (actor.Checkpointer t) at in let with_pages = F.with_pages in absurd (cc)

  pub checkpoint_stays : (a : Actor) → get_elem? actors seat ≡ some a → (shared_left m (next a)).ckpt ≡ start_checkpoint c
  checkpoint_stays a at = same_after a at ∙ both.stays alone
