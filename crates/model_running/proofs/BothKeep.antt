-- Whatever an actor's next Op is, its turn keeps the page half.
use Rattle.model_running.proofs.ReadStays.{given_to, IsFilled, read_kept}
use Rattle.model_running.specs.ReadHalf.{ArchiverHas, HaveRunBlocks, ReadHalf, StaysInRun}
use Rattle.model_core.specs.{Room, Actor, archives, Blocks, checked, DataServed, Entry, flusher_op, lent, Listed, lists_left, log_left, LogServed, next, Nothing, old_of, OwnServed, own_took, ReaderState, shared_answer, shared_left, SharedWords, took, writer_op, reader_op, DataSide, LogSide, Setup}
use Rattle.std.proofs.Common.{Bool, List, arith, cond, false, refl, set, subst, sym, true, ℕ, ◌≡◌, ⊎_elim}
use Rattle.std.specs.Prelude.{slice_index}
use lib.ListN.{get_elem?}
use mathlib.Core.Option.{some}
use Rattle.model_core.specs.declared.ops.Answer.{Answer}
use Rattle.model_core.proofs.TailHolders.{holder_stays}
use Rattle.model_logcore.proofs.LogKeeps.{keeps}
use Rattle.model_logcore.specs.{LogGhost, LogHalf}
use Rattle.model_logcore.specs.LogLaws.{LogLaws}
use Rattle.model_pagecore.specs.{PageGhost}
use Rattle.model_pagecore.specs.DataLaws.{DataLaws}
use Rattle.model_pagecore.specs.PageHalf.{PageHalf}
use Rattle.model_running.specs.Watermarks.{BothHalves, UsersClosed}
use Rattle.model_core.specs.declared.words.LinkBuffer.TheVariants as link_buffer
use Rattle.model_core.specs.States as actor
use Rattle.model_core.specs.declared.words.Word.TheVariants as word
use Rattle.model_core.specs.declared.ops.Op.TheVariants as op
use Rattle.model_running.proofs.ArchiverStays.{archiver_kept}
use Rattle.model_running.proofs.Archiving.{lost_stays}
use Rattle.model_running.proofs.LogCalls.{asked_bound, told_before}
use Rattle.model_running.proofs.RunBlocks.{blocks_kept}
use Rattle.model_running.proofs.CallConditions.{can_checkpoint}
use Rattle.model_running.proofs.Causes.{caused}
use Rattle.model_running.proofs.CheckpointStays.{checkpoint_stays}
use Rattle.model_running.proofs.CheckpointerTurns.{checkpointer_turn}
use Rattle.model_running.proofs.CleanerTurns.{cleaner_turn}
use Rattle.model_running.proofs.ClosedKeep.{users_closed}
use Rattle.model_running.proofs.LatchesKeep.{latches_kept}
use Rattle.model_running.proofs.LogTurns.{closer_turn, flusher_turn, writer_turn, reader_turn}
use Rattle.model_running.proofs.PageTurn.{PageDone}
use Rattle.model_core.proofs.Lists.{at_set}
use Rattle.model_running.proofs.InRun.{append_fits, stays_in_run}
use Rattle.model_running.proofs.UserTurns.{user_turn}

-- both halves, over a log
pub record BothLeft (D : LogSide) (E : DataSide) (c : Setup) (m : SharedWords) (ls : ℕ → List Listed)
    (p : D.Part) (d : E.Part) (actors : List Actor) (log : List Entry) : Type 0 where
  pub log_ghost : LogGhost
  pub page_ghost : PageGhost
  pub both : BothHalves D E c m log_ghost page_ghost ls p d actors
  pub log_is : log_ghost.log ≡ log

module _ (D : LogSide) (L : LogLaws D) (E : DataSide) (EL : DataLaws E) (c : Setup) (m : SharedWords) (g : LogGhost) (h : PageGhost) (ls : ℕ → List Listed) (p : D.Part) (d : E.Part) (actors : List Actor) (seat : ℕ) (both : BothHalves D E c m g h ls p d actors) (code : ℕ) (q : D.Part) (e : E.Part) where
  -- the page half of a turn, given the log half's
  page_turn : (a : Actor) → get_elem? actors seat ≡ some a → LogServed D p (lent a) (next a) code q → DataServed E d (lent a) (next a) code e
      → (k : LogGhost) → LogHalf D c (shared_left m (next a)) k q (set actors seat (took a (shared_answer ls (D.failed p) code (D.stable q) m (next a))))
      → PageDone D E c m h actors seat q e (shared_left m (next a)) (log_left g.log m.sn a) (lists_left ls (λ i. slice_index m.lists i) (next a)) (took a (shared_answer ls (D.failed p) code (D.stable q) m (next a)))
  page_turn (actor.User u) at w v k after = user_turn D E c m g h ls p d actors seat both code q e u at u.checks refl w v
  page_turn (actor.Writer s) at w v k after = writer_by s.checks k after w v
    where
      writer_by : (b : Bool) (k : LogGhost) → LogHalf D c (shared_left m (cond b (op.Load word.Failed) (writer_op s s.step))) k q (set actors seat (cond b (checked (actor.Writer s) (old_of (shared_answer ls (D.failed p) code (D.stable q) m (cond b (op.Load word.Failed) (writer_op s s.step))))) (own_took (actor.Writer s) (shared_answer ls (D.failed p) code (D.stable q) m (cond b (op.Load word.Failed) (writer_op s s.step))))))
          → LogServed D p (Blocks s.kept s.firsts) (cond b (op.Load word.Failed) (writer_op s s.step)) code q → DataServed E d (Blocks s.kept s.firsts) (cond b (op.Load word.Failed) (writer_op s s.step)) code e
          → PageDone D E c m h actors seat q e (shared_left m (cond b (op.Load word.Failed) (writer_op s s.step))) g.log (lists_left ls (λ i. slice_index m.lists i) (cond b (op.Load word.Failed) (writer_op s s.step))) (cond b (checked (actor.Writer s) (old_of (shared_answer ls (D.failed p) code (D.stable q) m (cond b (op.Load word.Failed) (writer_op s s.step))))) (own_took (actor.Writer s) (shared_answer ls (D.failed p) code (D.stable q) m (cond b (op.Load word.Failed) (writer_op s s.step)))))
      writer_by true k after w v = writer_turn D L E c m g h ls p d actors seat both code q e s at true _ k after w v
      writer_by false k after w v = writer_turn D L E c m g h ls p d actors seat both code q e s at false _ k after w v
  page_turn (actor.Flusher t) at w v k after = flusher_by t.checks k after w v
    where
      flusher_by : (b : Bool) (k : LogGhost) → LogHalf D c (shared_left m (cond b (op.Load word.Failed) (flusher_op t t.step))) k q (set actors seat (cond b (checked (actor.Flusher t) (old_of (shared_answer ls (D.failed p) code (D.stable q) m (cond b (op.Load word.Failed) (flusher_op t t.step))))) (own_took (actor.Flusher t) (shared_answer ls (D.failed p) code (D.stable q) m (cond b (op.Load word.Failed) (flusher_op t t.step))))))
          → LogServed D p Nothing (cond b (op.Load word.Failed) (flusher_op t t.step)) code q → DataServed E d Nothing (cond b (op.Load word.Failed) (flusher_op t t.step)) code e
          → PageDone D E c m h actors seat q e (shared_left m (cond b (op.Load word.Failed) (flusher_op t t.step))) g.log (lists_left ls (λ i. slice_index m.lists i) (cond b (op.Load word.Failed) (flusher_op t t.step))) (cond b (checked (actor.Flusher t) (old_of (shared_answer ls (D.failed p) code (D.stable q) m (cond b (op.Load word.Failed) (flusher_op t t.step))))) (own_took (actor.Flusher t) (shared_answer ls (D.failed p) code (D.stable q) m (cond b (op.Load word.Failed) (flusher_op t t.step)))))
      flusher_by true k after w v = flusher_turn D L E c m g h ls p d actors seat both code q e t at true _ k after w v
      flusher_by false k after w v = flusher_turn D L E c m g h ls p d actors seat both code q e t at false _ k after w v
  page_turn (actor.Reader t) at w v k after = reader_by t.checks k after w v
    where
      reader_by : (b : Bool) (k : LogGhost) → LogHalf D c (shared_left m (cond b (op.Load word.Failed) (reader_op t t.step))) k q (set actors seat (cond b (checked (actor.Reader t) (old_of (shared_answer ls (D.failed p) code (D.stable q) m (cond b (op.Load word.Failed) (reader_op t t.step))))) (own_took (actor.Reader t) (shared_answer ls (D.failed p) code (D.stable q) m (cond b (op.Load word.Failed) (reader_op t t.step))))))
          → LogServed D p (Room t.block) (cond b (op.Load word.Failed) (reader_op t t.step)) code q → DataServed E d (Room t.block) (cond b (op.Load word.Failed) (reader_op t t.step)) code e
          → PageDone D E c m h actors seat q e (shared_left m (cond b (op.Load word.Failed) (reader_op t t.step))) g.log (lists_left ls (λ i. slice_index m.lists i) (cond b (op.Load word.Failed) (reader_op t t.step))) (cond b (checked (actor.Reader t) (old_of (shared_answer ls (D.failed p) code (D.stable q) m (cond b (op.Load word.Failed) (reader_op t t.step))))) (own_took (actor.Reader t) (shared_answer ls (D.failed p) code (D.stable q) m (cond b (op.Load word.Failed) (reader_op t t.step)))))
      reader_by true k after w v = reader_turn D L E c m g h ls p d actors seat both code q e t at true _ k after w v
      reader_by false k after w v = reader_turn D L E c m g h ls p d actors seat both code q e t at false _ k after w v
  page_turn (actor.Closer t) at w v k after = closer_turn D L E c m g h ls p d actors seat both code q e t at t.checks w v
  page_turn (actor.Cleaner x) at w v k after = cleaner_turn D L E EL c m g h ls p d actors seat both code q e x at x.checks w v
  page_turn (actor.Checkpointer t) at w v k after = checkpointer_turn D L E EL c m g h ls p d actors seat both code q e t at t.checks w v k after

  -- THE step lemma over the words by name: whatever the actor's next Op is, its turn keeps both halves, over the log
  -- that the Op leaves
  pub keeps_both : (a : Actor) → get_elem? actors seat ≡ some a → IsFilled a → LogServed D p (lent a) (next a) code q
      → DataServed E d (lent a) (next a) code e → OwnServed (next a) code
      → BothLeft D E c (shared_left m (next a)) (lists_left ls (λ i. slice_index m.lists i) (next a)) q e
      (set actors seat (took a (shared_answer ls (D.failed p) code (D.stable q) m (next a)))) (log_left g.log m.sn a)
  keeps_both a at full w v own =
      let words : SharedWords = shared_left m (next a) in
      let lists : ℕ → List Listed = lists_left ls (λ i. slice_index m.lists i) (next a) in
      let said : Answer = shared_answer ls (D.failed p) code (D.stable q) m (next a) in
      let now : List Actor = set actors seat (took a said) in
      let checks = can_checkpoint D L E EL c m g h ls p d actors seat both in
      let asks = given_to D E c m g h ls p d actors seat both in
      let r = keeps D L c m g p actors seat both.logged code q ls checks a at w in
      let b = page_turn a at w v r.0 r.1 in
      let page = b.0 in
      let same : ◌≡◌ {A = List Entry} (log_left g.log m.sn a) r.0.log = sym r.2 in
      let up = b.2.given in
      let within = asked_bound D L E EL c m g h ls p d actors seat both code q h.given both.asked asks a at w in
      record {
        log_ghost = r.0;
        page_ghost = page;
        log_is = r.2;
        both = record {
          script = both.script;
          closed = subst (λ (l : List Entry). UsersClosed l page.closed now) same
              (users_closed D E c m g h ls p d actors seat both page b.2 a at said b.1.paged.closed_links);
          asked = omega arith;
          advanced = holder_stays m ls (D.failed p) code (D.stable q) link_buffer.Closed actors seat a at
              (both.logged.without_tail seat a at) both.advanced;
          latches = latches_kept D E c m g h ls p d actors seat both (D.failed p) code (D.stable q)
              (log_left g.log m.sn a) (D.stable q) page lists e b.2 a at b.1;
          stays = λ alone. checkpoint_stays D E c m g h ls p d actors seat both alone a at;
          cause = caused D L E EL c m g h ls p d actors seat both code q e now
              (lost_stays c actors both.in_run seat a at said) a at w v;
          logged = r.1;
          in_run = λ j x there. ⊎_elim
              (λ t. subst (StaysInRun c) t.1 (stays_in_run c both.script.readers a said
              (append_fits ls (D.failed p) code (D.stable q) m (next a) own) (both.in_run seat a at)))
              (λ t. both.in_run j x t.1) (at_set actors seat j (took a said) x there);
          reading = λ told.
              let before = told_before D L E EL c m g h ls p d actors seat both code q told a at w in
              subst (λ (l : List Entry). ReadHalf D c words l q now) same
              (read_kept D L E EL c m g h ls p d actors seat both code q told before a at full w);
          archiver = subst (λ (l : List Entry). (j : ℕ) (r : ReaderState) → get_elem? now j ≡ some (actor.Reader r)
              → archives r ≡ true → ArchiverHas c words l r) same
              (archiver_kept D E c m g h ls p d actors seat both code q a at);
          blocks = λ told.
              let before = told_before D L E EL c m g h ls p d actors seat both code q told a at w in
              subst (λ (l : List Entry). HaveRunBlocks D c l now) same
              (blocks_kept D L E EL c m g h ls p d actors seat both code q told before a at w);
          paged = subst (λ (l : List Entry). PageHalf E c words l (D.stable q) page lists e now) same b.1;
        };
      }
