-- NEWEST of a page never falls.
use Rattle.std.proofs.Common.{Bool, List, ap, arith, cond, eqb, false, get_or-set_other, get_or-set_same, length, refl, true, ℕ, ◌+◌, ◌∙◌, ◌≡◌, ◌≤◌}
use Rattle.std.proofs.lemmas.List.{get_or_past}
use Rattle.std.specs.Prelude.{slice_index, slice_set, ◌%◌}
use lib.ListN.{get_elem?}
use mathlib.Core.Option.{some}
use native.Mathlib.Decide.{dec_le, ℕ_discrete}
use Rattle.model_core.specs.{Actor, Advance, advance_op, blank_words, checkpointer_op, CheckpointerState, cleaner_op, CleanerState, closer_op, CloserState, current_page, entry, Entry, flusher_op, FlusherState, line, Listed, next, page_words_at, PageWords, read, reader_op, ReaderState, shared_left, SharedWords, user_op, UserState, with_page_words, writer_op, WriterState, wrote, DataSide, LogSide, Setup}
use Rattle.model_core.specs.States as actor
use Rattle.model_core.specs.declared.ops.Op.{Op}
use Rattle.model_core.specs.declared.ops.Op.TheVariants as op
use Rattle.model_core.specs.declared.steps.AdvanceStep.{AdvanceStep}
use Rattle.model_core.specs.declared.steps.AdvanceStep.TheVariants as advance_step
use Rattle.model_core.specs.declared.steps.CheckpointerStep.{CheckpointerStep}
use Rattle.model_core.specs.declared.steps.CheckpointerStep.TheVariants as checkpointer_step
use Rattle.model_core.specs.declared.steps.CleanerStep.{CleanerStep}
use Rattle.model_core.specs.declared.steps.CleanerStep.TheVariants as cleaner_step
use Rattle.model_core.specs.declared.steps.CloserStep.{CloserStep}
use Rattle.model_core.specs.declared.steps.CloserStep.TheVariants as closer_step
use Rattle.model_core.specs.declared.steps.FlusherStep.{FlusherStep}
use Rattle.model_core.specs.declared.steps.FlusherStep.TheVariants as flusher_step
use Rattle.model_core.specs.declared.steps.ReaderStep.{ReaderStep}
use Rattle.model_core.specs.declared.steps.ReaderStep.TheVariants as reader_step
use Rattle.model_core.specs.declared.steps.UserStep.{UserStep}
use Rattle.model_core.specs.declared.steps.UserStep.TheVariants as user_step
use Rattle.model_core.specs.declared.steps.WriterStep.{WriterStep}
use Rattle.model_core.specs.declared.steps.WriterStep.TheVariants as writer_step
use Rattle.model_core.specs.declared.words.LinkBuffer.{LinkBuffer}
use Rattle.model_core.specs.declared.words.LinkBuffer.TheVariants as link_buffer
use Rattle.model_core.specs.declared.words.Word.{Word}
use Rattle.model_core.specs.declared.words.Word.TheVariants as word
use Rattle.model_logcore.specs.{LogGhost}
use Rattle.model_pagecore.proofs.PageHistory.{last_after}
use Rattle.model_pagecore.proofs.PageStep.{cells_mine}
use Rattle.model_pagecore.specs.{PageGhost, UserPageFits, UserPagesAt}
use Rattle.model_reads.proofs.Stands.{stands}
use Rattle.model_running.specs.Watermarks.{BothHalves}

module _ (m : SharedWords) where
  abbrev pub newest_of : ℕ → ℕ
  newest_of q = (page_words_at m.page_words q).newest

  -- what is written into NEWEST is no less than stood there
  abbrev Rises : Word → ℕ → Type 0
  Rises (word.Newest p) x = newest_of p ≤ x
  Rises _ x = Unit {0}

  abbrev OpRises : Op → Type 0
  OpRises (op.Store w x) = Rises w x
  OpRises (op.Swap w a b) = Rises w b
  OpRises _ = Unit {0}

  abbrev NoLess : SharedWords → Type 0
  NoLess after = (q : ℕ) → newest_of q ≤ (page_words_at after.page_words q).newest

  same : (after : SharedWords) → after.page_words ≡ m.page_words → NoLess after
  same after e q = let s = ap (λ (ws : List PageWords). (page_words_at ws q).newest) e in omega arith

  -- a page that there is gets these words, or there is none
  one_page : (p : ℕ) (w : PageWords) → newest_of p ≤ w.newest → NoLess (with_page_words m p w)
  one_page p w up q = elim (ℕ_discrete q p) [
    | yes here ↦ elim (dec_le (length m.page_words) q) [
      | yes past ↦ (let zero_now = ap (λ (x : PageWords). x.newest) (beyond m.page_words q past) in omega arith)
      | no there ↦ (let s = ap (λ (k : ℕ). (page_words_at (slice_set m.page_words p w) k).newest) here
          ∙ ap (λ (x : PageWords). x.newest) (get_or-set_same m.page_words p w blank_words (omega arith)) in
          let e = ap newest_of here in omega arith)
    ]
    | no other ↦ (let s = ap (λ (x : PageWords). x.newest) (get_or-set_other m.page_words p q w blank_words other) in
        omega arith)
  ]
    where
      beyond : (ws : List PageWords) (k : ℕ) → length ws ≤ k → ◌≡◌ {A = PageWords} (page_words_at ws k) blank_words
      beyond ws k le = get_or_past ws k blank_words le

  wrote_no_less : (w : Word) (x : ℕ) → Rises w x → NoLess (wrote m w x)
  wrote_no_less word.Sn x up = same (wrote m word.Sn x) refl
  wrote_no_less word.Write x up = same (wrote m word.Write x) refl
  wrote_no_less word.Wtail x up = same (wrote m word.Wtail x) refl
  wrote_no_less word.Flushed x up = same (wrote m word.Flushed x) refl
  wrote_no_less word.Ckpt x up = same (wrote m word.Ckpt x) refl
  wrote_no_less word.Ctail x up = same (wrote m word.Ctail x) refl
  wrote_no_less word.Failed x up = same (wrote m word.Failed x) refl
  wrote_no_less word.Device x up = same (wrote m word.Device x) refl
  wrote_no_less (word.List i) x up = same (wrote m (word.List i) x) refl
  wrote_no_less (word.Wlink i) x up = same (wrote m (word.Wlink i) x) refl
  wrote_no_less (word.Clink i) x up = same (wrote m (word.Clink i) x) refl
  wrote_no_less (word.Cell i) x up = same (wrote m (word.Cell i) x) refl
  wrote_no_less (word.First i) x up = same (wrote m (word.First i) x) refl
  wrote_no_less (word.Place i) x up = same (wrote m (word.Place i) x) refl
  wrote_no_less (word.Latch p) x up = one_page p (record (page_words_at m.page_words p) { latch = x }) (omega arith)
  wrote_no_less (word.Newest p) x up = one_page p (record (page_words_at m.page_words p) { newest = x }) up
  wrote_no_less (word.Oldest p) x up = one_page p (record (page_words_at m.page_words p) { oldest = x }) (omega arith)
  wrote_no_less (word.Frame p i) x up = one_page p
      (record (page_words_at m.page_words p) { frame = slice_set (page_words_at m.page_words p).frame i x })
      (omega arith)

  added_rises : (w : Word) (k : ℕ) → Rises w (read m w + k)
  added_rises (word.Newest p) k = omega arith
  added_rises _ k = tt

  either : (b : Bool) (x : SharedWords) → NoLess x → NoLess (cond b x m)
  either true x up = up
  either false x up = same m refl

  taken : (i : ℕ) → NoLess (cond (eqb (slice_index m.lists i) 0) (record m { lists = slice_set m.lists i 1 }) m)
  taken i = either (eqb (slice_index m.lists i) 0) (record m { lists = slice_set m.lists i 1 })
      (same (record m { lists = slice_set m.lists i 1 }) refl)

  -- AN OP THAT WRITES NO LESS INTO NEWEST leaves no less there
  op_no_less : (o : Op) → OpRises o → NoLess (shared_left m o)
  op_no_less (op.Load w) up = same m refl
  op_no_less (op.Store w x) up = wrote_no_less w x up
  op_no_less (op.Add w k) up = wrote_no_less w (read m w + k) (added_rises w k)
  op_no_less (op.Swap w a b) up = either (eqb (read m w) a) (wrote m w b) (wrote_no_less w b up)
  op_no_less op.TakeDevice up = either (eqb m.device 0) (record m { device = 1 }) (same (record m { device = 1 }) refl)
  op_no_less op.GiveDevice up = same (record m { device = 0 }) refl
  op_no_less (op.TakeAdd p x) up = taken (p % 4)
  op_no_less (op.TakeRemove p) up = taken (p % 4)
  op_no_less (op.TakeOldest i) up = taken i
  op_no_less (op.GiveList i) up = same (record m { lists = slice_set m.lists i 0 }) refl
  op_no_less (op.WriteTo t) up = same m refl
  op_no_less op.Sync up = same m refl
  op_no_less (op.Checkpoint x) up = same m refl
  op_no_less (op.ReadBlock b) up = same m refl
  op_no_less op.WriteBatch up = same m refl
  op_no_less (op.Append x) up = same m refl
  op_no_less op.Rest up = same m refl

  -- the Ops of the actors
  of_advance : (b : LinkBuffer) (v : Advance) (s : AdvanceStep) → OpRises (advance_op b v s)
  of_advance link_buffer.Written v advance_step.LoadTail = tt
  of_advance link_buffer.Written v advance_step.TakeTail = tt
  of_advance link_buffer.Written v advance_step.LoadLink = tt
  of_advance link_buffer.Written v advance_step.ClearLink = tt
  of_advance link_buffer.Written v advance_step.FreeTail = tt
  of_advance link_buffer.Closed v advance_step.LoadTail = tt
  of_advance link_buffer.Closed v advance_step.TakeTail = tt
  of_advance link_buffer.Closed v advance_step.LoadLink = tt
  of_advance link_buffer.Closed v advance_step.ClearLink = tt
  of_advance link_buffer.Closed v advance_step.FreeTail = tt

  of_writer : (s : WriterState) (f : WriterStep) → OpRises (writer_op s f)
  of_writer s (writer_step.Advance v) = of_advance link_buffer.Written s.advance v
  of_writer s _ = tt

  of_flusher : (t : FlusherState) (f : FlusherStep) → OpRises (flusher_op t f)
  of_flusher t flusher_step.LoadWrite = tt
  of_flusher t _ = tt

  of_reader : (r : ReaderState) (f : ReaderStep) → OpRises (reader_op r f)
  of_reader r reader_step.LoadFlushed = tt
  of_reader r _ = tt

  of_closer : (t : CloserState) (f : CloserStep) → OpRises (closer_op t f)
  of_closer t (closer_step.Advance v) = of_advance link_buffer.Closed t.advance v
  of_closer t closer_step.Failed = tt

  of_checkpointer : (t : CheckpointerState) (f : CheckpointerStep) → OpRises (checkpointer_op t f)
  of_checkpointer t checkpointer_step.LoadCtail = tt
  of_checkpointer t _ = tt

  of_cleaner : (v : CleanerState) (f : CleanerStep) → OpRises (cleaner_op v f)
  of_cleaner v cleaner_step.LoadFlushed = tt
  of_cleaner v _ = tt

  checking : (b : Bool) (o : Op) → OpRises o → OpRises (cond b (op.Load word.Failed) o)
  checking true o up = tt
  checking false o up = up

module _ (D : LogSide) (E : DataSide) (c : Setup) (m : SharedWords) (g : LogGhost) (h : PageGhost)
    (ls : ℕ → List Listed) (p : D.Part) (d : E.Part) (actors : List Actor) (seat : ℕ)
    (both : BothHalves D E c m g h ls p d actors) where
  -- a user stores the end of its group, which is the last one on the page
  of_user : (u : UserState) → UserPageFits E c m g.log h ls d seat u → (f : UserStep)
      → UserPagesAt E c m g.log h ls d seat u f → OpRises m (user_op u f)
  of_user u F user_step.StoreNewest o =
      let x : Entry = entry u.user u.k u.start (line u) in
      let on = (cells_mine x.changes u.page o.1.1 (λ i less. F.apart u.k i u.page less o.1.1)).1 in
      let last = last_after (current_page u) g.log o.0.at x 0 o.0.is on
      (λ i e is late. o.0.last i e is late u.page o.1.1) in
      let low = (stands D E c m g h ls p d actors both (current_page u) (F.there u.k u.page o.1.1)).low in
      omega arith
  of_user u F (user_step.AdvanceWritten s) o = of_advance m link_buffer.Written u.advance s
  of_user u F (user_step.AdvanceClosed s) o = of_advance m link_buffer.Closed u.advance s
  of_user u F _ o = tt

  of_actor : (a : Actor) → get_elem? actors seat ≡ some a → OpRises m (next a)
  of_actor (actor.User u) at =
      let F : UserPageFits E c m g.log h ls d seat u = both.paged.each seat (actor.User u) at in
      checking m u.checks (user_op u u.step) (of_user u F u.step F.step)
  of_actor (actor.Writer s) at = checking m s.checks (writer_op s s.step) (of_writer m s s.step)
  of_actor (actor.Flusher t) at = checking m t.checks (flusher_op t t.step) (of_flusher m t t.step)
  of_actor (actor.Closer t) at = checking m t.checks (closer_op t t.step) (of_closer m t t.step)
  of_actor (actor.Cleaner v) at = checking m v.checks (cleaner_op v v.step) (of_cleaner m v v.step)
  of_actor (actor.Checkpointer t) at = checking m t.checks (checkpointer_op t t.step) (of_checkpointer m t t.step)
  of_actor (actor.Reader r) at = checking m r.checks (reader_op r r.step) (of_reader m r r.step)

  -- NO TURN lets NEWEST fall
  pub newest_rises : (a : Actor) → get_elem? actors seat ≡ some a → (q : ℕ)
      → newest_of m q ≤ newest_of (shared_left m (next a)) q
  newest_rises a at = op_no_less m (next a) (of_actor a at)
