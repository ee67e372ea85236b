-- Whoever calls a device may: the conditions of a checkpoint and of a batch follow from both halves.
use Rattle.std.proofs.Common.{List, [], arith, false, length, subst, sym, ℕ, ◌<◌, ◌≡◌, ap, true}
use lib.ListN.{get_elem?}
use mathlib.Core.Option.{some}
use Rattle.model_base.specs.declared.limits.TheConstants.{LSN_LIMIT}
use Rattle.model_core.specs.{Actor, BatchPage, change_at, CheckpointerState, CleanerState, Entry, IsSized, layout_of, Listed, lsn, PageChange, SharedWords, UserState, DataSide, LogSide, Setup}
use Rattle.model_logcore.proofs.AnswersFit.{small_sn}
use Rattle.model_logcore.specs.{LogGhost, UserFits, LogHalf}
use Rattle.model_logcore.specs.LogLaws.{LogLaws}
use Rattle.model_pagecore.proofs.BatchSteps.{can_batch}
use Rattle.model_pagecore.proofs.PageHistory.{laid}
use Rattle.model_pagecore.proofs.CheckpointSteps.{all_passed}
use Rattle.model_pagecore.proofs.PageStep.{cells_mine}
use Rattle.model_pagecore.specs.{AfterBatch, CanBatch, CheckpointerPageFits, CheckpointerPagesAt, CleanerFits, Laid, PageGhost, is_changed_page, runs}
use Rattle.model_pagecore.specs.DataLaws.{DataLaws}
use Rattle.model_pagecore.specs.PageHalf.{PageHalf}
use Rattle.model_running.specs.Watermarks.{BothHalves}
use Rattle.model_core.specs.declared.steps.CleanerStep.TheVariants as cleaner_step
use Rattle.model_core.specs.declared.steps.CheckpointerStep.TheVariants as checkpointer_step
use Rattle.model_core.specs.States as actor
use Rattle.model_logcore.specs.LogFits as marks
use Rattle.model_logcore.specs.LogLaws as sights

module _ (D : LogSide) (L : LogLaws D) (E : DataSide) (EL : DataLaws E) (c : Setup) (m : SharedWords) (g : LogGhost) (h : PageGhost) (ls : ℕ → List Listed) (p : D.Part) (d : E.Part) (actors : List Actor) (seat : ℕ) (both : BothHalves D E c m g h ls p d actors) where
  M : LogHalf D c m g p actors
  M = both.logged

  B : PageHalf E c m g.log (D.stable p) h ls d actors
  B = both.paged

  Z : IsSized (layout_of c) m
  Z = M.sized

  W : Laid (lsn c.base) (lsn m.sn) g.log
  W = laid c.base m.sn g.log M.global.tiled.tiles

  mates : (j : ℕ) (u : UserState) → get_elem? actors j ≡ some (actor.User u) → g.seat_of u.user ≡ j
  mates j u at = let f : UserFits D c m g p j u = M.each j (actor.User u) at in f.own_seat

  page_fits : (t : CheckpointerState) → get_elem? actors seat ≡ some (actor.Checkpointer t) → CheckpointerPageFits E c m g.log h ls d seat t
  page_fits t at = B.each seat (actor.Checkpointer t) at

  -- where pages are in use each group touches one of the store's
  pub every : c.log_only ≡ false → (i : ℕ) (y : Entry) → get_elem? g.log i ≡ some y → (k : ℕ) × (k < c.pages) × (is_changed_page k y.changes ≡ true)
  every w i y is =
      let T = M.global.tiled.lines i y is in
      let some_change : 0 < length y.changes = subst (λ (cs : List PageChange). 0 < length cs) (sym T.2) (both.script.some_page w y.user y.k T.0) in
      let there : (change_at y.changes 0).page < c.pages = subst (λ (cs : List PageChange). 0 < length cs → (change_at cs 0).page < c.pages) (sym T.2) (both.script.there y.user y.k 0) some_change in
      ((change_at y.changes 0).page, there, (cells_mine y.changes 0 some_change (λ i l. absurd (omega arith))).1)

  pub can_checkpoint : (t : CheckpointerState) → get_elem? actors seat ≡ some (actor.Checkpointer t) → t.step ≡ checkpointer_step.Checkpoint → sights.CanCheckpoint D c.blocks c.base g.log t.to p
  can_checkpoint t at is =
      let N : marks.CheckpointerFits D c m g p seat t = M.each seat (actor.Checkpointer t) at in
      let n : marks.CheckpointerAt D c m g p t checkpointer_step.Checkpoint = subst (marks.CheckpointerAt D c m g p t) is N.step in
      let o : CheckpointerPagesAt E c m g.log h ls d seat t checkpointer_step.Checkpoint = subst (CheckpointerPagesAt E c m g.log h ls d seat t) is (page_fits t at).step in
      let r = all_passed E c g.seat_of m g.log (D.stable p) h ls d actors seat B mates W t at o.0 (every (page_fits t at).with_pages) in
      let n0 = n.0 in let o4 = o.0.4 in
      record { sound = n.1; even = o.0.3; more = omega arith; below = r.0; ends = r.1 }

  small_flushed : m.flushed < LSN_LIMIT
  small_flushed = let top = small_sn D c m g p actors seat M in let low = B.paged.flushed in let high = B.paged.stable_top in omega arith

  -- nothing is unfinished where the cleaner writes its batch, and that may be written
  pub all_written : (x : CleanerState) → get_elem? actors seat ≡ some (actor.Cleaner x) → x.step ≡ cleaner_step.WriteBatch → E.Holds h.kept_page [] d
  all_written x at is =
      let XF : CleanerFits E c m g.log h ls d seat x = B.each seat (actor.Cleaner x) at in
      subst (λ (l : List BatchPage). E.Holds h.kept_page l d) (XF.sound (ap runs is)).1 B.paged.stored

  pub can_write_batch : (x : CleanerState) → get_elem? actors seat ≡ some (actor.Cleaner x) → x.step ≡ cleaner_step.WriteBatch → CanBatch E c h.kept_page x.batch d
  can_write_batch x at is = can_batch E c g.seat_of m g.log (D.stable p) h ls d actors seat B mates W x at is both.script.page_size Z.frames small_flushed

  -- what writing the cleaner's batch leaves
  pub after_batch : (x : CleanerState) → get_elem? actors seat ≡ some (actor.Cleaner x) → x.step ≡ cleaner_step.WriteBatch → (code : ℕ) (e : E.Part) → E.Batched x.batch code d e → AfterBatch E h.kept_page x.batch code d e
  after_batch x at is code e v =
      EL.batches c h.kept_page x.batch code d e (all_written x at is) (can_write_batch x at is) v
