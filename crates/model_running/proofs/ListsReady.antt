-- The conditions of a flush list's call hold where an actor asks for it.
use Rattle.std.proofs.Common.{Bool, List, [], arith, cond, false, get_or, length, refl, subst, sym, true, ℕ, ◌%◌, ◌+◌, ◌<◌, ◌∷◌, ◌≡◌, ◌≤◌}
use lib.ListN.{get_elem?}
use mathlib.Core.Option.{some}
use native.Mathlib.Decide.{dec_le}
use Rattle.model_core.specs.{Actor, BatchPage, checkpointer_op, CheckpointerState, cleaner_op, CleanerState, closer_op, CloserState, current_page, flusher_op, FlusherState, Listed, lsn, next, no_page, oldest_of, SharedWords, user_op, UserState, writer_op, WriterState, reader_op, ReaderState, DataSide, LogSide, Setup}
use Rattle.model_core.specs.declared.ops.Op.{Op}
use Rattle.model_core.specs.declared.steps.CheckpointerStep.{CheckpointerStep}
use Rattle.model_core.specs.declared.steps.CleanerStep.{CleanerStep}
use Rattle.model_core.specs.declared.steps.CloserStep.{CloserStep}
use Rattle.model_core.specs.declared.steps.FlusherStep.{FlusherStep}
use Rattle.model_core.specs.declared.steps.ReaderStep.{ReaderStep}
use Rattle.model_core.specs.declared.steps.UserStep.{UserStep}
use Rattle.model_core.specs.declared.steps.WriterStep.{WriterStep}
use Rattle.model_core.specs.declared.limits.TheConstants.{CLOSED_LINKS}
use Rattle.model_logcore.proofs.Ready.{ready}
use Rattle.model_logcore.specs.{LogGhost}
use Rattle.model_pagecore.proofs.PageHistory.{each_more}
use Rattle.model_pagecore.specs.{CleanerAt, CleanerFits, PageGhost, UserPageFits, UserPagesAt}
use Rattle.model_running.specs.Ready.{ListReady}
use Rattle.model_running.specs.Watermarks.{BothHalves}
use Rattle.model_core.specs.declared.words.Word.TheVariants as word
use Rattle.model_core.specs.declared.ops.Op.TheVariants as op
use Rattle.model_core.specs.declared.steps.UserStep.TheVariants as user_step
use Rattle.model_core.specs.declared.steps.WriterStep.TheVariants as writer_step
use Rattle.model_core.specs.declared.steps.FlusherStep.TheVariants as flusher_step
use Rattle.model_core.specs.declared.steps.ReaderStep.TheVariants as reader_step
use Rattle.model_core.specs.declared.steps.CloserStep.TheVariants as closer_step
use Rattle.model_core.specs.declared.steps.CleanerStep.TheVariants as cleaner_step
use Rattle.model_core.specs.declared.steps.CheckpointerStep.TheVariants as checkpointer_step
use Rattle.model_core.specs.declared.steps.AdvanceStep.TheVariants as advance_step
use Rattle.model_core.specs.States as actor

module _ (D : LogSide) (E : DataSide) (c : Setup) (m : SharedWords) (g : LogGhost) (h : PageGhost) (ls : ℕ → List Listed) (p : D.Part) (d : E.Part) (actors : List Actor) (seat : ℕ) (both : BothHalves D E c m g h ls p d actors) where
  user_lists : (u : UserState) → get_elem? actors seat ≡ some (actor.User u) → (f : UserStep) → UserPagesAt E c m g.log h ls d seat u f → ListReady c.pages ls (user_op u f)
  user_lists u at (user_step.AdvanceWritten advance_step.LoadTail) o = tt
  user_lists u at (user_step.AdvanceClosed advance_step.LoadTail) o = tt
  user_lists u at user_step.AddToList o =
      let work = o.0 in let near = o.1 in
      let here = work.here near.1 in
      let off = here.page.listing in
      let P = both.paged.paged in
      let C = P.closed_links in
      let ord = C.order in
      let tail_low : h.tail ≤ lsn u.start = elim (dec_le h.tail (lsn u.start)) [ yes z ↦ z | no z ↦ (let y = C.below work.at _ work.is (omega arith) in let un = work.not_closed in absurd (cc)) ] in
      (here.there, off.1, each_more (λ y. y.oldest < m.ctail + CLOSED_LINKS) (λ y. y.oldest < lsn u.start + CLOSED_LINKS) (ls (current_page u % 4)) (λ y z. omega arith) (P.lists.near (current_page u % 4)))
  user_lists u at _ o = tt

  writer_lists : (s : WriterState) (f : WriterStep) → ListReady c.pages ls (writer_op s f)
  writer_lists s (writer_step.Advance advance_step.LoadTail) = tt
  writer_lists s _ = tt

  flusher_lists : (t : FlusherState) (f : FlusherStep) → ListReady c.pages ls (flusher_op t f)
  flusher_lists t flusher_step.LoadWrite = tt
  flusher_lists t _ = tt

  reader_lists : (t : ReaderState) (f : ReaderStep) → ListReady c.pages ls (reader_op t f)
  reader_lists t reader_step.LoadFlushed = tt
  reader_lists t _ = tt

  closer_lists : (t : CloserState) (f : CloserStep) → ListReady c.pages ls (closer_op t f)
  closer_lists t (closer_step.Advance advance_step.LoadTail) = tt
  closer_lists t _ = tt

  checkpointer_lists : (t : CheckpointerState) (f : CheckpointerStep) → ListReady c.pages ls (checkpointer_op t f)
  checkpointer_lists t checkpointer_step.LoadCtail = tt
  checkpointer_lists t _ = tt

  first_there : (batch : List BatchPage) → 0 < length batch → (x : BatchPage) × (get_elem? batch 0 ≡ some x) × (get_or batch 0 no_page ≡ x)
  first_there [] more = absurd (omega arith)
  first_there (x ∷ xs) more = (x, refl, refl)

  cleaner_lists : (v : CleanerState) (f : CleanerStep) → CleanerAt E c m g.log h ls d seat v f → ListReady c.pages ls (cleaner_op v f)
  cleaner_lists v cleaner_step.RemoveFromList o =
      let f = first_there v.batch o.0.3 in
      let x : BatchPage = f.0 in
      let held = (o.0.2 x f.1).held in
      let listing = held.page.listing in
      let old = o.1 x f.1 in
      let there : 0 < oldest_of x.page (ls (x.page % 4)) = omega arith in
      subst (λ (z : BatchPage). 0 < oldest_of z.page (ls (z.page % 4))) (sym f.2) there
  cleaner_lists v _ o = tt

  checking : (b : Bool) (o : Op) → ListReady c.pages ls o → ListReady c.pages ls (cond b (op.Load word.Failed) o)
  checking true o ready = tt
  checking false o ready = ready

  pub list_ready : (a : Actor) → get_elem? actors seat ≡ some a → ListReady c.pages ls (next a)
  list_ready (actor.User u) at = let f : UserPageFits E c m g.log h ls d seat u = both.paged.each seat (actor.User u) at in checking u.checks (user_op u u.step) (user_lists u at u.step f.step)
  list_ready (actor.Writer s) at = checking s.checks (writer_op s s.step) (writer_lists s s.step)
  list_ready (actor.Flusher t) at = checking t.checks (flusher_op t t.step) (flusher_lists t t.step)
  list_ready (actor.Reader t) at = checking t.checks (reader_op t t.step) (reader_lists t t.step)
  list_ready (actor.Closer t) at = checking t.checks (closer_op t t.step) (closer_lists t t.step)
  list_ready (actor.Cleaner v) at = let f : CleanerFits E c m g.log h ls d seat v = both.paged.each seat (actor.Cleaner v) at in checking v.checks (cleaner_op v v.step) (cleaner_lists v v.step f.step)
  list_ready (actor.Checkpointer t) at = checking t.checks (checkpointer_op t t.step) (checkpointer_lists t t.step)
