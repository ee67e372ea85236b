-- Whoever holds a slot: its turn word is 1, and nobody else holds it.
use Rattle.std.proofs.Common.{List, None, Option, Some, ap, arith, refl, subst, suc, sym, true, zero, ℕ, ◌%◌, ◌+◌, ◌<◌, ◌∙◌, ◌≡◌}
use Rattle.std.specs.Prelude.{slice_index}
use lib.ListN.{get_elem?}
use mathlib.Core.Option.{some}
use Rattle.model_core.specs.{checkpointer_holds, CheckpointerState, CleanerState, Core, current_page, first_of_batch, flat, flusher_holds, layout_of, SharedWords, UserState, writer_holds, reader_holds, DataSide, LogSide, checkpointer_hand, cleaner_hand, flusher_hand, hand, user_hand, writer_hand, reader_hand, Setup}
use Rattle.model_core.specs.States as model
use Rattle.model_core.specs.declared.steps.CheckpointerStep.{CheckpointerStep}
use Rattle.model_core.specs.declared.steps.CheckpointerStep.TheVariants as checkpointer_step
use Rattle.model_core.specs.declared.steps.CleanerStep.{CleanerStep}
use Rattle.model_core.specs.declared.steps.CleanerStep.TheVariants as cleaner_step
use Rattle.model_core.specs.declared.steps.FlusherStep.{FlusherStep}
use Rattle.model_core.specs.declared.steps.ReaderStep.{ReaderStep}
use Rattle.model_core.specs.declared.steps.FlusherStep.TheVariants as flusher_step
use Rattle.model_core.specs.declared.steps.ReaderStep.TheVariants as reader_step
use Rattle.model_core.specs.declared.steps.UserStep.{UserStep}
use Rattle.model_core.specs.declared.steps.UserStep.TheVariants as user_step
use Rattle.model_core.specs.declared.steps.WriterStep.{WriterStep}
use Rattle.model_core.specs.declared.steps.WriterStep.TheVariants as writer_step
use Rattle.model_core.specs.declared.words.Word.TheVariants as word
use Rattle.model_logcore.specs.{LogGhost}
use Rattle.model_pagecore.specs.{CheckpointerPageFits, CheckpointerPagesAt, CleanerAt, CleanerFits, PageGhost, UserPageFits, UserPagesAt}
use Rattle.model_pagecore.specs.PageHalf.{HasList}
use Rattle.model_running.proofs.FlatWords.{flat_read}
use Rattle.model_running.specs.Watermarks.{IsRunning}

abbrev number_in : Option ℕ → ℕ
number_in None = 0
number_in (Some n) = n

pub same_number : (a b : ℕ) → Some a ≡ Some b → a ≡ b
same_number a b e = ap number_in e

writer_holding : (f : WriterStep) (k : ℕ) → writer_hand f ≡ Some k → (0 ≡ k) × (writer_holds f ≡ true)
writer_holding writer_step.GiveBroken k e = (same_number 0 k e, refl)
writer_holding writer_step.WriteTo k e = (same_number 0 k e, refl)
writer_holding writer_step.StoreWrite k e = (same_number 0 k e, refl)
writer_holding writer_step.GiveDevice k e = (same_number 0 k e, refl)
writer_holding writer_step.StoreFailed k e = (same_number 0 k e, refl)
writer_holding writer_step.GiveFailed k e = (same_number 0 k e, refl)
writer_holding _ k e = absurd (cc)

flusher_holding : (f : FlusherStep) (k : ℕ) → flusher_hand f ≡ Some k → (0 ≡ k) × (flusher_holds f ≡ true)
flusher_holding flusher_step.GiveBroken k e = (same_number 0 k e, refl)
flusher_holding flusher_step.Sync k e = (same_number 0 k e, refl)
flusher_holding flusher_step.StoreFlushed k e = (same_number 0 k e, refl)
flusher_holding flusher_step.GiveDevice k e = (same_number 0 k e, refl)
flusher_holding flusher_step.StoreFailed k e = (same_number 0 k e, refl)
flusher_holding flusher_step.GiveFailed k e = (same_number 0 k e, refl)
flusher_holding _ k e = absurd (cc)

reader_holding : (f : ReaderStep) (k : ℕ) → reader_hand f ≡ Some k → (0 ≡ k) × (reader_holds f ≡ true)
reader_holding reader_step.GiveBroken k e = (same_number 0 k e, refl)
reader_holding reader_step.ReadBlock k e = (same_number 0 k e, refl)
reader_holding reader_step.GiveDevice k e = (same_number 0 k e, refl)
reader_holding reader_step.StoreFailed k e = (same_number 0 k e, refl)
reader_holding reader_step.GiveFailed k e = (same_number 0 k e, refl)
reader_holding _ k e = absurd (cc)

module _ (D : LogSide) (E : DataSide) (c : Setup) (s : Core D E) (running : IsRunning D E c s) where
  abbrev m : SharedWords
  m = running.shared

  abbrev g : LogGhost
  g = running.log_ghost

  abbrev h : PageGhost
  h = running.page_ghost

  abbrev pub holder_of : ℕ → ℕ
  holder_of zero = g.holder
  holder_of (suc i) = h.list_holder i

  pub record Holds (n k : ℕ) : Type 0 where
    pub below : k < 5
    pub word_is : slice_index s.words (7 + k) ≡ 1
    pub alone : holder_of k ≡ n

  with_device : (n k : ℕ) → 0 ≡ k → (m.device ≡ 1) × (n ≡ g.holder) → Holds n k
  with_device n k e held = subst (Holds n) e (record { below = omega arith; word_is = ap (λ (ws : List ℕ). slice_index ws 7) running.flat_is ∙ held.0; alone = sym held.1 })

  with_list : (n i k : ℕ) → suc i ≡ k → i < 4 → HasList E c m g.log h s.lists s.data_part n i → Holds n k
  with_list n i k e below held = subst (Holds n) e (record {
    below = omega arith;
    word_is = ap (λ (ws : List ℕ). slice_index ws (7 + suc i)) running.flat_is ∙ ap (slice_index (flat m)) (let q : 7 + suc i ≡ 8 + i = omega arith in q) ∙ flat_read (layout_of c) m running.both.logged.sized (word.List i) below ∙ held.0;
    alone = held.1;
  })

  user_holding : (n : ℕ) (u : UserState) (f : UserStep) (k : ℕ) → UserPagesAt E c m g.log h s.lists s.data_part n u f → user_hand u f ≡ Some k → Holds n k
  user_holding n u user_step.StoreOldest k o e = with_list n (current_page u % 4) k (same_number (suc (current_page u % 4)) k e) (omega arith) o.2
  user_holding n u user_step.GiveList k o e = with_list n (current_page u % 4) k (same_number (suc (current_page u % 4)) k e) (omega arith) o.2
  user_holding n u _ k o e = absurd (cc)

  cleaner_holding : (n : ℕ) (v : CleanerState) (f : CleanerStep) (k : ℕ) → CleanerAt E c m g.log h s.lists s.data_part n v f → cleaner_hand v f ≡ Some k → Holds n k
  cleaner_holding n v cleaner_step.ClearOldest k o e = with_list n (first_of_batch v % 4) k (same_number (suc (first_of_batch v % 4)) k e) (omega arith) o.1
  cleaner_holding n v cleaner_step.GiveList k o e = with_list n (first_of_batch v % 4) k (same_number (suc (first_of_batch v % 4)) k e) (omega arith) o.1
  cleaner_holding n v _ k o e = absurd (cc)

  checkpointer_holding : (n : ℕ) (t : CheckpointerState) (f : CheckpointerStep) (k : ℕ) → CheckpointerPagesAt E c m g.log h s.lists s.data_part n t f → (checkpointer_holds f ≡ true → (m.device ≡ 1) × (n ≡ g.holder)) → checkpointer_hand t f ≡ Some k → Holds n k
  checkpointer_holding n t checkpointer_step.GiveList k o held e = with_list n t.list k (same_number (suc t.list) k e) o.2 o.3
  checkpointer_holding n t checkpointer_step.GiveBroken k o held e = with_device n k (same_number 0 k e) (held refl)
  checkpointer_holding n t checkpointer_step.Checkpoint k o held e = with_device n k (same_number 0 k e) (held refl)
  checkpointer_holding n t checkpointer_step.StoreCheckpoint k o held e = with_device n k (same_number 0 k e) (held refl)
  checkpointer_holding n t checkpointer_step.GiveDevice k o held e = with_device n k (same_number 0 k e) (held refl)
  checkpointer_holding n t checkpointer_step.StoreFailed k o held e = with_device n k (same_number 0 k e) (held refl)
  checkpointer_holding n t checkpointer_step.GiveFailed k o held e = with_device n k (same_number 0 k e) (held refl)
  checkpointer_holding n t _ k o held e = absurd (cc)

  pub holding : (n : ℕ) (a : model.Actor) → get_elem? s.actors n ≡ some a → (k : ℕ) → hand a ≡ Some k → Holds n k
  holding n (model.User u) at k e = let f : UserPageFits E c m g.log h s.lists s.data_part n u = running.both.paged.each n (model.User u) at in user_holding n u u.step k f.step e
  holding n (model.Writer s) at k e = let w = writer_holding s.step k e in with_device n k w.0 (running.both.logged.turns n (model.Writer s) at w.1)
  holding n (model.Flusher t) at k e = let w = flusher_holding t.step k e in with_device n k w.0 (running.both.logged.turns n (model.Flusher t) at w.1)
  holding n (model.Reader t) at k e = let w = reader_holding t.step k e in with_device n k w.0 (running.both.logged.turns n (model.Reader t) at w.1)
  holding n (model.Closer t) at k e = absurd (cc)
  holding n (model.Cleaner v) at k e = let f : CleanerFits E c m g.log h s.lists s.data_part n v = running.both.paged.each n (model.Cleaner v) at in cleaner_holding n v v.step k f.step e
  holding n (model.Checkpointer t) at k e = let f : CheckpointerPageFits E c m g.log h s.lists s.data_part n t = running.both.paged.each n (model.Checkpointer t) at in
      checkpointer_holding n t t.step k f.step (λ z. running.both.logged.turns n (model.Checkpointer t) at z) e

  -- two that hold one slot are one
  pub one_holder : (n j : ℕ) (a b : model.Actor) (k : ℕ) → get_elem? s.actors n ≡ some a → get_elem? s.actors j ≡ some b → hand a ≡ Some k → hand b ≡ Some k → n ≡ j
  one_holder n j a b k at bt e f = sym (holding n a at k e).alone ∙ (holding j b bt k f).alone
