-- The one step lemma, over the list of words.
use Rattle.model_running.proofs.ReadStays.{IsFilled}
use Rattle.model_core.specs.declared.limits.TheConstants.{READERS}
use Rattle.model_running.specs.ReadHalf.{NumberAt, ReadsInRun}
use Rattle.std.proofs.Common.{Bool, List, [], ap, arith, cond, eqb, false, get_or, length, refl, set, subst, sym, true, ℕ, ◌*◌, ◌<◌, ◌∙◌, ◌∷◌, ◌≡◌}
use Rattle.std.specs.Prelude.{slice_index}
use lib.ListN.{get_elem?}
use mathlib.Core.Option.{some}
use Rattle.model_core.specs.{Actor, answer_of, BatchPage, checkpointer_op, CheckpointerState, cleaner_op, CleanerState, closer_op, CloserState, DataServed, Entry, first_of_batch, flat, frame_words, flusher_op, FlusherState, IsWord, layout_of, lent, Listed, lists_left, log_left, LogServed, mode, next, no_page, OpWords, OwnServed, shared_answer, shared_left, SharedWords, took, user_op, UserState, words_left, writer_op, WriterState, Advance, advance_op, reader_op, ReaderState, DataSide, LogSide, Setup}
use Rattle.model_core.proofs.PageSizes.{frame_fills}
use Rattle.model_core.specs.declared.ops.Answer.{Answer}
use Rattle.model_core.specs.declared.ops.Op.{Op}
use Rattle.model_core.specs.declared.steps.CleanerStep.{CleanerStep}
use Rattle.model_core.specs.declared.steps.CloserStep.{CloserStep}
use Rattle.model_core.specs.declared.steps.UserStep.{UserStep}
use Rattle.model_core.specs.declared.steps.CheckpointerStep.{CheckpointerStep}
use Rattle.model_core.specs.declared.steps.WriterStep.{WriterStep}
use Rattle.model_core.specs.declared.steps.FlusherStep.{FlusherStep}
use Rattle.model_core.specs.declared.steps.ReaderStep.{ReaderStep}
use Rattle.model_logcore.specs.{LogGhost}
use Rattle.model_logcore.specs.LogLaws.{LogLaws}
use Rattle.model_pagecore.specs.DataLaws.{DataLaws}
use Rattle.model_pagecore.specs.{CheckpointerPageFits, CheckpointerPagesAt, CleanerAt, CleanerFits, InWordOnly, ListingStage, PageGhost, Unlisted, Unlisting, UserPageFits, UserPagesAt}
use Rattle.model_running.proofs.FlatWords.{flat_answer, flat_left}
use Rattle.model_running.proofs.BothKeep.{keeps_both}
use Rattle.model_running.specs.Watermarks.{BothHalves, RunningStore}
use Rattle.model_core.specs.declared.steps.UserStep.TheVariants as user_step
use Rattle.model_core.specs.declared.steps.CloserStep.TheVariants as closer_step
use Rattle.model_core.specs.declared.steps.CleanerStep.TheVariants as cleaner_step
use Rattle.model_core.specs.declared.steps.CheckpointerStep.TheVariants as checkpointer_step
use Rattle.model_core.specs.declared.steps.AdvanceStep.TheVariants as advance_step
use Rattle.model_core.specs.declared.words.Layout.{Layout}
use Rattle.model_core.specs.declared.words.LinkBuffer.TheVariants as link_buffer
use Rattle.model_core.specs.declared.words.LinkBuffer.{LinkBuffer}
use Rattle.model_core.specs.declared.steps.AdvanceStep.{AdvanceStep}
use Rattle.model_core.specs.States as actor
use Rattle.model_core.specs.declared.words.Word.TheVariants as word
use Rattle.model_core.specs.declared.ops.Op.TheVariants as op
use Rattle.model_core.specs.declared.steps.WriterStep.TheVariants as writer_step
use Rattle.model_core.specs.declared.steps.FlusherStep.TheVariants as flusher_step
use Rattle.model_core.specs.declared.steps.ReaderStep.TheVariants as reader_step

module _ (D : LogSide) (E : DataSide) (c : Setup) (m : SharedWords) (g : LogGhost) (h : PageGhost) (ls : ℕ → List Listed) (p : D.Part) (d : E.Part) (actors : List Actor) (seat : ℕ) (both : BothHalves D E c m g h ls p d actors) where
  page_room : 8 * frame_words c.page_size ≡ c.page_size
  page_room = frame_fills c.page_size both.script.page_size

  advance_words : (b : LinkBuffer) (v : Advance) (s : AdvanceStep) → OpWords (layout_of c) (advance_op b v s)
  advance_words link_buffer.Written v advance_step.LoadLink = omega arith
  advance_words link_buffer.Written v advance_step.ClearLink = omega arith
  advance_words link_buffer.Closed v advance_step.LoadLink = omega arith
  advance_words link_buffer.Closed v advance_step.ClearLink = omega arith
  advance_words _ v _ = tt

  user_words : (u : UserState) → UserPageFits E c m g.log h ls d seat u → (f : UserStep) → UserPagesAt E c m g.log h ls d seat u f → OpWords (layout_of c) (user_op u f)
  user_words u F user_step.AddCell o = omega arith
  user_words u F user_step.StoreFirst o = omega arith
  user_words u F user_step.StoreLink o = omega arith
  user_words u F user_step.AwaitMark o = by (eqb (mode u) 1)
    where
      by : (b : Bool) → IsWord (layout_of c) (cond b word.Flushed word.Write)
      by true = tt
      by false = tt
  user_words u F user_step.TakeLatch o = F.there u.k u.page o.1
  user_words u F user_step.LoadFrame o = (F.there u.k u.page o.1.1, (let w = F.within u.k u.page u.cell o.1.1 in let room = page_room in omega arith))
  user_words u F user_step.StoreFrame o = (F.there u.k u.page o.1.1, (let w = F.within u.k u.page u.cell o.1.1 in let room = page_room in omega arith))
  user_words u F user_step.StoreNewest o = F.there u.k u.page o.1.1
  user_words u F user_step.LoadOldest o = F.there u.k u.page o.1.1
  user_words u F user_step.StoreOldest o = F.there u.k u.page o.1.1
  user_words u F user_step.ReleaseLatch o = F.there u.k u.page o.1
  user_words u F user_step.GiveList o = omega arith
  user_words u F user_step.StoreClosedLink o = omega arith
  user_words u F user_step.AddToList o = tt
  user_words u F user_step.LoadCheckpoint o = tt
  user_words u F user_step.LoadSn o = tt
  user_words u F user_step.Reserve o = tt
  user_words u F user_step.LoadWrite o = tt
  user_words u F user_step.LoadWtail o = tt
  user_words u F (user_step.AdvanceWritten s) o = advance_words link_buffer.Written u.advance s
  user_words u F user_step.ReloadWtail o = tt
  user_words u F user_step.LoadCtail o = tt
  user_words u F (user_step.AdvanceClosed s) o = advance_words link_buffer.Closed u.advance s
  user_words u F user_step.ReloadCtail o = tt
  user_words u F user_step.Done o = tt
  user_words u F user_step.Failed o = tt

  writer_words : (s : WriterState) (f : WriterStep) → OpWords (layout_of c) (writer_op s f)
  writer_words s (writer_step.Advance v) = advance_words link_buffer.Written s.advance v
  writer_words s writer_step.LoadFirst = omega arith
  writer_words s writer_step.ClearFirst = omega arith
  writer_words s writer_step.LoadCell = omega arith
  writer_words s writer_step.ClearCell = omega arith
  writer_words s _ = tt

  flusher_words : (f : FlusherState) (w : FlusherStep) → OpWords (layout_of c) (flusher_op f w)
  flusher_words f flusher_step.LoadWrite = tt
  flusher_words f _ = tt

  reader_words : (f : ReaderState) → f.number < READERS → (w : ReaderStep) → OpWords (layout_of c) (reader_op f w)
  reader_words f few reader_step.LoadFlushed = tt
  reader_words f few reader_step.StorePlace = few
  reader_words f few _ = tt

  closer_words : (t : CloserState) (f : CloserStep) → OpWords (layout_of c) (closer_op t f)
  closer_words t (closer_step.Advance v) = advance_words link_buffer.Closed t.advance v
  closer_words t closer_step.Failed = tt

  fore : (x : CleanerState) (t : ListingStage) → Unlisting E c m g.log h ls d seat x t → first_of_batch x < c.pages
  fore x t o = let r = front x.batch o.3 in let z = (o.2 r.0 r.1).held.there in subst (λ (k : ℕ). k < c.pages) (sym r.2) z
    where
      front : (l : List BatchPage) → 0 < length l → (x : BatchPage) × (get_elem? l 0 ≡ some x) × ((get_or l 0 no_page).page ≡ x.page)
      front [] z = absurd (omega arith)
      front (x ∷ xs) z = (x, refl, refl)

  cleaner_words : (x : CleanerState) → x.page < c.pages → (f : CleanerStep) → CleanerAt E c m g.log h ls d seat x f → OpWords (layout_of c) (cleaner_op x f)
  cleaner_words x l cleaner_step.LoadFlushed o = tt
  cleaner_words x l cleaner_step.LoadOldest o = l
  cleaner_words x l cleaner_step.TakeLatch o = l
  cleaner_words x l cleaner_step.LoadNewest o = l
  cleaner_words x l cleaner_step.ReleaseSkipped o = l
  cleaner_words x l cleaner_step.LoadFrame o = (l, (let k = o.5 in let room = page_room in omega arith))
  cleaner_words x l cleaner_step.WriteBatch o = tt
  cleaner_words x l cleaner_step.RemoveFromList o = tt
  cleaner_words x l cleaner_step.ClearOldest o = fore x InWordOnly o.0
  cleaner_words x l cleaner_step.GiveList o = omega arith
  cleaner_words x l cleaner_step.ReleaseLatch o = fore x Unlisted o
  cleaner_words x l cleaner_step.StoreFailed o = tt
  cleaner_words x l cleaner_step.Failed o = tt

  checkpointer_words : (t : CheckpointerState) (f : CheckpointerStep) → CheckpointerPagesAt E c m g.log h ls d seat t f → NumberAt t f → t.last ≡ c.last_reader → OpWords (layout_of c) (checkpointer_op t f)
  checkpointer_words t checkpointer_step.ReadList o r l = o.2
  checkpointer_words t checkpointer_step.GiveList o r l = o.2
  checkpointer_words t checkpointer_step.LoadCtail o r l = tt
  checkpointer_words t checkpointer_step.LoadPlace o r l = (let all = both.script.few_readers in omega arith)
  checkpointer_words t checkpointer_step.LoadFlushed o r l = tt
  checkpointer_words t checkpointer_step.TakeDevice o r l = tt
  checkpointer_words t checkpointer_step.GiveBroken o r l = tt
  checkpointer_words t checkpointer_step.Checkpoint o r l = tt
  checkpointer_words t checkpointer_step.StoreCheckpoint o r l = tt
  checkpointer_words t checkpointer_step.GiveDevice o r l = tt
  checkpointer_words t checkpointer_step.StoreFailed o r l = tt
  checkpointer_words t checkpointer_step.GiveFailed o r l = tt
  checkpointer_words t checkpointer_step.Failed o r l = tt

  asked_words : (b : Bool) (o : Op) → OpWords (layout_of c) o → OpWords (layout_of c) (cond b (op.Load word.Failed) o)
  asked_words true o z = tt
  asked_words false o z = z

  -- each Op names words that there are
  pub next_words : (a : Actor) → get_elem? actors seat ≡ some a → OpWords (layout_of c) (next a)
  next_words (actor.User u) at = let F : UserPageFits E c m g.log h ls d seat u = both.paged.each seat (actor.User u) at in asked_words u.checks (user_op u u.step) (user_words u F u.step F.step)
  next_words (actor.Writer s) at = asked_words s.checks (writer_op s s.step) (writer_words s s.step)
  next_words (actor.Flusher f) at = asked_words f.checks (flusher_op f f.step) (flusher_words f f.step)
  next_words (actor.Reader f) at = asked_words f.checks (reader_op f f.step) (reader_words f few f.step)
    where
      few : f.number < READERS
      few =
          let F : ReadsInRun c f = both.in_run seat (actor.Reader f) at in
          let z = F.few in
          let all = both.script.few_readers in
          omega arith
  next_words (actor.Closer t) at = asked_words t.checks (closer_op t t.step) (closer_words t t.step)
  next_words (actor.Cleaner x) at = let F : CleanerFits E c m g.log h ls d seat x = both.paged.each seat (actor.Cleaner x) at in asked_words x.checks (cleaner_op x x.step) (cleaner_words x F.page x.step F.step)
  next_words (actor.Checkpointer t) at =
      let N : (t.first ≡ c.first_reader) × (t.last ≡ c.last_reader) × NumberAt t t.step =
      both.in_run seat (actor.Checkpointer t) at in
      let F : CheckpointerPageFits E c m g.log h ls d seat t = both.paged.each seat (actor.Checkpointer t) at in
      asked_words t.checks (checkpointer_op t t.step) (checkpointer_words t t.step F.step N.2 N.1)

-- a running store, over a log
pub record RunsOver (D : LogSide) (E : DataSide) (c : Setup) (layout : Layout) (ws : List ℕ) (ls : ℕ → List Listed)
    (p : D.Part) (d : E.Part) (actors : List Actor) (log : List Entry) : Type 0 where
  pub store : RunningStore D E c layout ws ls p d actors
  pub log_is : store.log_ghost.log ≡ log

module _ (D : LogSide) (L : LogLaws D) (E : DataSide) (EL : DataLaws E) (c : Setup) (layout : Layout) (ws : List ℕ) (ls : ℕ → List Listed) (p : D.Part) (d : E.Part) (actors : List Actor) (seat : ℕ) (a : Actor) (before : RunningStore D E c layout ws ls p d actors)
    (at : get_elem? actors seat ≡ some a) (full : IsFilled a) (code : ℕ) (q : D.Part) (e : E.Part) (served : LogServed D p (lent a) (next a) code q) (stored : DataServed E d (lent a) (next a) code e) (own : OwnServed (next a) code) where
  -- THE step lemma over the list of words
  pub keeps_turn : RunsOver D E c layout (words_left layout ws (next a))
      (lists_left ls (λ i. slice_index before.shared.lists i) (next a)) q e
      (set actors seat (took a (answer_of layout ls (D.failed p) code (D.stable q) ws (next a))))
      (log_left before.log_ghost.log before.shared.sn a)
  keeps_turn =
      let m = before.shared in
      let k = before.both in
      let r = keeps_both D L E EL c m before.log_ghost before.page_ghost ls p d actors seat k code q e a at full
      served stored own in
      let w = next_words D E c m before.log_ghost before.page_ghost ls p d actors seat k a at in
      let left : words_left layout ws (next a) ≡ flat (shared_left m (next a)) =
      ap (λ (z : List ℕ). words_left layout z (next a)) before.flat_is
      ∙ ap (λ (l : Layout). words_left l (flat m) (next a)) before.layout_is ∙ flat_left (layout_of c) m k.logged.sized (next a) w in
      let said : ◌≡◌ {A = Answer} (answer_of layout ls (D.failed p) code (D.stable q) ws (next a))
      (shared_answer ls (D.failed p) code (D.stable q) m (next a)) =
      ap (λ (z : List ℕ). answer_of layout ls (D.failed p) code (D.stable q) z (next a)) before.flat_is
      ∙ ap (λ (l : Layout). answer_of l ls (D.failed p) code (D.stable q) (flat m) (next a)) before.layout_is
      ∙ flat_answer (layout_of c) m k.logged.sized ls (D.failed p) code (D.stable q) (next a) w in
      let lists : ℕ → List Listed = lists_left ls (λ i. slice_index m.lists i) (next a) in
      subst (λ (z : Answer). RunsOver D E c layout (words_left layout ws (next a)) lists q e (set actors seat (took a z))
      (log_left before.log_ghost.log m.sn a)) (sym said) (record {
        store = record {
          shared = shared_left m (next a);
          log_ghost = r.log_ghost;
          page_ghost = r.page_ghost;
          layout_is = before.layout_is;
          flat_is = left;
          both = r.both;
        };
        log_is = r.log_is;
      })
