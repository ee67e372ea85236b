-- No turn of another actor than a user makes more of what is left to do of the words.
use lib.ListN.{get_elem?}
use mathlib.Core.Option.{some}
use Rattle.std.proofs.Common.{Bool, List, arith, cond, eqb, false, refl, true, ℕ, ◌%◌, ◌≡◌, ◌≤◌}
use Rattle.std.specs.Prelude.{slice_index, slice_set}
use Rattle.model_core.specs.{Actor, checkpointer_op, CheckpointerState, cleaner_op, CleanerState, closer_op, CloserState, first_of_batch, flusher_op, FlusherState, Listed, lists_left, next, page_words_at, PageWords, reader_op, ReaderState, shared_left, SharedWords, with_page_words, without, writer_op, WriterState, DataSide, LogSide, Setup}
use Rattle.model_core.specs.declared.limits.TheConstants.{FLUSH_LISTS}
use Rattle.model_core.specs.declared.ops.Op.{Op}
use Rattle.model_core.specs.declared.steps.CheckpointerStep.{CheckpointerStep}
use Rattle.model_core.specs.declared.steps.CleanerStep.{CleanerStep}
use Rattle.model_core.specs.declared.steps.CloserStep.{CloserStep}
use Rattle.model_core.specs.declared.steps.FlusherStep.{FlusherStep}
use Rattle.model_core.specs.declared.steps.ReaderStep.{ReaderStep}
use Rattle.model_core.specs.declared.steps.WriterStep.{WriterStep}
use Rattle.model_logcore.specs.{CheckpointerAt, CheckpointerFits, LogGhost, WriterAt, WriterFits}
use Rattle.model_pagecore.specs.{CloserFits, PageGhost}
use Rattle.model_pagecore.specs.PageHalf.{CloserAt}
use Rattle.model_running.specs.Watermarks.{BothHalves}
use Rattle.model_ends.proofs.Margin.{is_user}
use Rattle.model_ends.proofs.PageCost.{listed_by, marked_clear, marked_same, removed_fewer, words_steps}
use Rattle.model_ends.proofs.TailsLess as tails
use Rattle.model_core.specs.States as actor
use Rattle.model_core.specs.declared.ops.Op.TheVariants as op
use Rattle.model_core.specs.declared.steps.AdvanceStep.TheVariants as advance_step
use Rattle.model_core.specs.declared.steps.CheckpointerStep.TheVariants as checkpointer_step
use Rattle.model_core.specs.declared.steps.CleanerStep.TheVariants as cleaner_step
use Rattle.model_core.specs.declared.steps.CloserStep.TheVariants as closer_step
use Rattle.model_core.specs.declared.steps.FlusherStep.TheVariants as flusher_step
use Rattle.model_core.specs.declared.steps.ReaderStep.TheVariants as reader_step
use Rattle.model_core.specs.declared.steps.WriterStep.TheVariants as writer_step
use Rattle.model_core.specs.declared.words.Word.TheVariants as word

module _ (D : LogSide) (E : DataSide) (c : Setup) (m : SharedWords) (g : LogGhost) (h : PageGhost) (ls : ℕ → List Listed) (p : D.Part) (d : E.Part) (actors : List Actor) (both : BothHalves D E c m g h ls p d actors) (last : ℕ) where
  abbrev lists_then : Op → ℕ → List Listed
  lists_then o = lists_left ls (λ i. slice_index m.lists i) o

  abbrev NoMore : Op → Type 0
  NoMore o = words_steps last (shared_left m o) (lists_then o) ≤ words_steps last m ls

  checking : (b : Bool) (o : Op) → NoMore o → NoMore (cond b (op.Load word.Failed) o)
  checking true o le = omega arith
  checking false o le = le

  device : (b : Bool) → words_steps last (cond b (record m { device = 1 }) m) ls ≤ words_steps last m ls
  device true = omega arith
  device false = omega arith

  page_same : (q : ℕ) (w : PageWords) → w.oldest ≡ (page_words_at m.page_words q).oldest → words_steps last (with_page_words m q w) ls ≤ words_steps last m ls
  page_same q w same = let z = marked_same m.page_words q w same in omega arith

  writer_less : (seat : ℕ) (s : WriterState) (f : WriterStep) → WriterAt D c m g p seat s f → NoMore (writer_op s f)
  writer_less seat s (writer_step.Advance advance_step.LoadTail) k = omega arith
  writer_less seat s (writer_step.Advance advance_step.TakeTail) k = let z = tails.written_less last m ls D c g p actors both.logged seat s.advance advance_step.TakeTail k.1 in omega arith
  writer_less seat s (writer_step.Advance advance_step.LoadLink) k = omega arith
  writer_less seat s (writer_step.Advance advance_step.ClearLink) k = let z = tails.written_less last m ls D c g p actors both.logged seat s.advance advance_step.ClearLink k.1 in omega arith
  writer_less seat s (writer_step.Advance advance_step.FreeTail) k = let z = tails.written_less last m ls D c g p actors both.logged seat s.advance advance_step.FreeTail k.1 in omega arith
  writer_less seat s writer_step.TakeDevice k = device (eqb m.device 0)
  writer_less seat s _ k = omega arith

  flusher_less : (t : FlusherState) (f : FlusherStep) → NoMore (flusher_op t f)
  flusher_less t flusher_step.TakeDevice = device (eqb m.device 0)
  flusher_less t _ = omega arith

  reader_less : (t : ReaderState) (f : ReaderStep) → NoMore (reader_op t f)
  reader_less t reader_step.TakeDevice = device (eqb m.device 0)
  reader_less t _ = omega arith

  closer_less : (seat : ℕ) (t : CloserState) (f : CloserStep) → CloserAt E c m g.log h ls d seat t.advance f → NoMore (closer_op t f)
  closer_less seat t (closer_step.Advance advance_step.LoadTail) k = omega arith
  closer_less seat t (closer_step.Advance advance_step.TakeTail) k = let z = tails.closing_less last m ls E c g h d both.paged.paged.closed_links seat t.advance advance_step.TakeTail k in omega arith
  closer_less seat t (closer_step.Advance advance_step.LoadLink) k = omega arith
  closer_less seat t (closer_step.Advance advance_step.ClearLink) k = let z = tails.closing_less last m ls E c g h d both.paged.paged.closed_links seat t.advance advance_step.ClearLink k in omega arith
  closer_less seat t (closer_step.Advance advance_step.FreeTail) k = let z = tails.closing_less last m ls E c g h d both.paged.paged.closed_links seat t.advance advance_step.FreeTail k in omega arith
  closer_less seat t closer_step.Failed k = omega arith

  cleaner_less : (v : CleanerState) (f : CleanerStep) → NoMore (cleaner_op v f)
  cleaner_less v cleaner_step.TakeLatch = by (eqb (page_words_at m.page_words v.page).latch 0)
    where
      by : (b : Bool) → words_steps last (cond b (with_page_words m v.page (record (page_words_at m.page_words v.page) { latch = 1 })) m) ls ≤ words_steps last m ls
      by true = page_same v.page (record (page_words_at m.page_words v.page) { latch = 1 }) refl
      by false = omega arith
  cleaner_less v cleaner_step.ReleaseSkipped = page_same v.page (record (page_words_at m.page_words v.page) { latch = 0 }) refl
  cleaner_less v cleaner_step.ReleaseLatch = page_same (first_of_batch v) (record (page_words_at m.page_words (first_of_batch v)) { latch = 0 }) refl
  cleaner_less v cleaner_step.ClearOldest = let z = marked_clear m.page_words (first_of_batch v) (record (page_words_at m.page_words (first_of_batch v)) { oldest = 0 }) refl in omega arith
  cleaner_less v cleaner_step.RemoveFromList = by (eqb (slice_index m.lists (first_of_batch v % FLUSH_LISTS)) 0)
    where
      by : (b : Bool) → words_steps last (cond b (record m { lists = slice_set m.lists (first_of_batch v % FLUSH_LISTS) 1 }) m) (λ i. cond (eqb i (first_of_batch v % FLUSH_LISTS)) (cond b (without (first_of_batch v) (ls i)) (ls i)) (ls i)) ≤ words_steps last m ls
      by true = let few = listed_by ls (λ l. without (first_of_batch v) l) 0 (first_of_batch v % FLUSH_LISTS) (omega arith) (λ l. removed_fewer true (first_of_batch v) l) in omega arith
      by false = let few = listed_by ls (λ l. l) 0 (first_of_batch v % FLUSH_LISTS) (omega arith) (λ l. omega arith) in omega arith
  cleaner_less v _ = omega arith

  checkpointer_less : (t : CheckpointerState) (f : CheckpointerStep) → CheckpointerAt D c m g p t f → NoMore (checkpointer_op t f)
  checkpointer_less t checkpointer_step.StoreCheckpoint k = let up = both.logged.global.part.ckpt_part in let is = k in omega arith
  checkpointer_less t checkpointer_step.ReadList k = by (eqb (slice_index m.lists t.list) 0)
    where
      by : (b : Bool) → words_steps last (cond b (record m { lists = slice_set m.lists t.list 1 }) m) ls ≤ words_steps last m ls
      by true = omega arith
      by false = omega arith
  checkpointer_less t checkpointer_step.TakeDevice k = device (eqb m.device 0)
  checkpointer_less t _ k = omega arith

  -- NO TURN OF ANOTHER ACTOR MAKES MORE
  pub others_no_more : (seat : ℕ) (a : Actor) → get_elem? actors seat ≡ some a → is_user a ≡ 0 → words_steps last (shared_left m (next a)) (lists_then (next a)) ≤ words_steps last m ls
  others_no_more seat (actor.User u) at none = absurd (omega arith)
  others_no_more seat (actor.Writer s) at none = let f : WriterFits D c m g p seat s = both.logged.each seat (actor.Writer s) at in checking s.checks (writer_op s s.step) (writer_less seat s s.step f.step)
  others_no_more seat (actor.Flusher t) at none = checking t.checks (flusher_op t t.step) (flusher_less t t.step)
  others_no_more seat (actor.Reader t) at none = checking t.checks (reader_op t t.step) (reader_less t t.step)
  others_no_more seat (actor.Closer t) at none = let f : CloserFits E c m g.log h ls d seat t = both.paged.each seat (actor.Closer t) at in checking t.checks (closer_op t t.step) (closer_less seat t t.step f.step)
  others_no_more seat (actor.Cleaner v) at none = checking v.checks (cleaner_op v v.step) (cleaner_less v v.step)
  others_no_more seat (actor.Checkpointer t) at none = let f : CheckpointerFits D c m g p seat t = both.logged.each seat (actor.Checkpointer t) at in checking t.checks (checkpointer_op t t.step) (checkpointer_less t t.step f.step)
