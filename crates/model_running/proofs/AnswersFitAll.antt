-- The answer to any actor's Op is one that it can take.
use Rattle.std.proofs.Common.{Bool, List, arith, cond, false, true, ℕ, ⊎_elim, ◌%◌, ◌<◌, ◌^◌, ◌≡◌}
use Rattle.std.specs.Prelude.{slice_index}
use lib.ListN.{get_elem?}
use mathlib.Core.Option.{some}
use native.Mathlib.Decide.{dec_le}
use Rattle.model_base.specs.declared.limits.TheConstants.{LSN_LIMIT}
use Rattle.model_core.proofs.Groups.{tiles_at}
use Rattle.model_core.proofs.Lsns.{lsn_le}
use Rattle.model_core.specs.{Actor, checkpointer_op, cleaner_fits, cleaner_op, CleanerState, closer_fits, closer_op, CloserState, end_of, flusher_op, is_checking, Listed, lsn, next, old_of, own_op, PageFitting, shared_answer, SharedWords, user_op, writer_op, Advance, advance_op, user_page_fits, UserState, reader_op, AnswerFits, advance_fits, DataSide, LogSide, Setup}
use Rattle.model_core.specs.declared.ops.Op.{Op}
use Rattle.model_core.specs.declared.steps.CleanerStep.{CleanerStep}
use Rattle.model_core.specs.declared.steps.CloserStep.{CloserStep}
use Rattle.model_logcore.proofs.AnswersFit.{can_take, small_sn}
use Rattle.model_logcore.specs.{LogGhost}
use Rattle.model_pagecore.specs.{CleanerAt, CleanerFits, CloserFits, PageGhost, CloserAt, ClosingAt, UserClosingAt, UserPageFits}
use Rattle.model_running.proofs.Archiving.{lost_small}
use Rattle.model_running.specs.Bounds.{HasBytes, HaveSmallCodes}
use Rattle.model_running.specs.Watermarks.{BothHalves}
use Rattle.model_core.specs.declared.words.Word.TheVariants as word
use Rattle.model_core.specs.declared.ops.Op.TheVariants as op
use Rattle.model_core.specs.declared.steps.CloserStep.TheVariants as closer_step
use Rattle.model_core.specs.declared.steps.CleanerStep.TheVariants as cleaner_step
use Rattle.model_core.specs.declared.steps.AdvanceStep.TheVariants as advance_step
use Rattle.model_core.specs.declared.words.LinkBuffer.TheVariants as link_buffer
use Rattle.model_core.proofs.Tails.{tail_in}
use Rattle.model_core.specs.declared.steps.UserStep.TheVariants as user_step
use Rattle.model_core.specs.declared.steps.UserStep.{UserStep}
use Rattle.model_core.specs.declared.steps.AdvanceStep.{AdvanceStep}
use Rattle.model_core.specs.declared.limits.TheConstants.{CLOSED_LINKS}
use Rattle.model_core.specs.States as actor

module _ (D : LogSide) (E : DataSide) (c : Setup) (m : SharedWords) (g : LogGhost) (h : PageGhost) (ls : ℕ → List Listed) (p : D.Part) (d : E.Part) (actors : List Actor) (seat : ℕ) (both : BothHalves D E c m g h ls p d actors) (bytes : HasBytes c) (codes : HaveSmallCodes D E) (broken : Bool) (code mark : ℕ) where
  small_top : lsn m.sn < LSN_LIMIT
  small_top = small_sn D c m g p actors seat both.logged

  advance_can : (v : Advance) (s : AdvanceStep) → ClosingAt E c m g.log h ls d seat v s → advance_fits v (old_of (shared_answer ls broken code mark m (advance_op link_buffer.Closed v s))) s
  advance_can v advance_step.LoadTail o = let C = both.paged.paged.closed_links in let order = C.order in let bound = C.bound in let top = small_top in let is = tail_in m.ctail m.cheld in omega arith
  advance_can v advance_step.LoadLink o =
      let C = both.paged.paged.closed_links in
      let place = o.place in let bound = C.bound in let top = small_top in
      elim (dec_le 1 (slice_index m.clinks (v.place % CLOSED_LINKS))) [
        | yes some_link ↦ (let l = C.links_are (v.place % CLOSED_LINKS) (omega arith) some_link in let size = l.size in let since = l.since in
            let w = (tiles_at g.log c.base m.sn l.at l.group both.logged.global.tiled.tiles l.is).1 in
            let e = lsn_le (end_of l.group) m.sn w in omega arith)
        | no none ↦ omega arith
      ]
  advance_can v _ o = tt

  user_can : (u : UserState) (f : UserStep) → UserClosingAt E c m g.log h ls d seat u.advance f → user_page_fits u (old_of (shared_answer ls broken code mark m (user_op u f))) f
  user_can u (user_step.AdvanceClosed s) o = advance_can u.advance s o
  user_can u _ o = tt

  closer_can : (t : CloserState) (f : CloserStep) → CloserAt E c m g.log h ls d seat t.advance f → closer_fits t (old_of (shared_answer ls broken code mark m (closer_op t f))) f
  closer_can t (closer_step.Advance s) o = advance_can t.advance s o
  closer_can t closer_step.Failed o = tt

  cleaner_can : (v : CleanerState) → (f : CleanerStep) → CleanerAt E c m g.log h ls d seat v f → cleaner_fits (old_of (shared_answer ls broken code mark m (cleaner_op v f))) f
  cleaner_can v cleaner_step.LoadFlushed at = tt
  cleaner_can v _ at = tt

  checking_fits : (b : Bool) (o : Op) (P : ℕ → Type 0) → P (old_of (shared_answer ls broken code mark m o)) → cond b (Unit {0}) (P (old_of (shared_answer ls broken code mark m (cond b (op.Load word.Failed) o))))
  checking_fits true o P can = tt
  checking_fits false o P can = can

  pages_can : (a : Actor) → get_elem? actors seat ≡ some a → PageFitting a (shared_answer ls broken code mark m (next a))
  pages_can (actor.User u) at = let f : UserPageFits E c m g.log h ls d seat u = both.paged.each seat (actor.User u) at in checking_fits u.checks (user_op u u.step) (λ n. user_page_fits u n u.step) (user_can u u.step f.closing)
  pages_can (actor.Writer s) at = checking_fits s.checks (writer_op s s.step) (λ n. Unit {0}) tt
  pages_can (actor.Flusher t) at = checking_fits t.checks (flusher_op t t.step) (λ n. Unit {0}) tt
  pages_can (actor.Reader t) at = checking_fits t.checks (reader_op t t.step) (λ n. Unit {0}) tt
  pages_can (actor.Closer t) at = let f : CloserFits E c m g.log h ls d seat t = both.paged.each seat (actor.Closer t) at in checking_fits t.checks (closer_op t t.step) (λ n. closer_fits t n t.step) (closer_can t t.step f.step)
  pages_can (actor.Cleaner v) at = let f : CleanerFits E c m g.log h ls d seat v = both.paged.each seat (actor.Cleaner v) at in checking_fits v.checks (cleaner_op v v.step) (λ n. cleaner_fits n v.step) (cleaner_can v v.step f.step)
  pages_can (actor.Checkpointer t) at = checking_fits t.checks (checkpointer_op t t.step) (λ n. Unit {0}) tt

  small_code : m.failed < 2 ^ 32
  small_code = elim (dec_le 1 m.failed) [
    | yes nonzero ↦ ⊎_elim (λ cause. codes.log p m.failed cause) (⊎_elim (λ cause. codes.data_part d m.failed cause) (λ cause. lost_small c actors both.in_run m.failed cause)) (both.cause nonzero)
    | no none ↦ omega arith
  ]

  code_by : (b : Bool) (o : Op) → b ≡ true → old_of (shared_answer ls broken code mark m (cond b (op.Load word.Failed) o)) < 2 ^ 32
  code_by true o is = small_code
  code_by false o is = absurd (cc)

  pub answer_fits : (a : Actor) → get_elem? actors seat ≡ some a → AnswerFits a (shared_answer ls broken code mark m (next a))
  answer_fits a at = record {
    log = can_take D c m g p actors seat both.logged a at ls broken code mark;
    pages = pages_can a at;
    code = code_by (is_checking a) (own_op a);
  }
