-- Where no actor holds anything and FAILED is 0, the words WRITE and CKPT are the marks of the log part.
use Rattle.std.proofs.Common.{Bool, List, None, [], ap, arith, false, length, map, refl, subst, suc, sym, true, ℕ, ◌%◌, ◌++◌, ◌+◌, ◌-◌, ◌∙◌, ◌∷◌, ◌≡◌, ◌≤◌}
use lib.ListN.{get_elem?}
use mathlib.Core.Option as maybe
use Rattle.model_core.specs.{CheckpointerState, lsn, SharedWords, UserState, WriterState, checkpointer_hand, HoldsNothing, writer_hand, LogSide, Setup}
use Rattle.model_core.specs.States as model
use Rattle.model_core.specs.declared.steps.CheckpointerStep.{CheckpointerStep}
use Rattle.model_core.specs.declared.steps.CheckpointerStep.TheVariants as checkpointer_step
use Rattle.model_core.specs.declared.steps.WriterStep.{WriterStep}
use Rattle.model_core.specs.declared.steps.WriterStep.TheVariants as writer_step
use Rattle.model_logcore.specs.{CheckpointerAt, CheckpointerFits, LogGhost, WriterAt, WriterFits}
use Rattle.model_running.specs.{ArePageActors}
use Rattle.redo_disk.specs.{Seen}
use Rattle.redo_drive.specs.Running.{RunOf, run_log_side, RunsWith}
use Rattle.redo_drive.specs.declared.parts.Parts.{Parts}

module _ (D : LogSide) (c : Setup) (m : SharedWords) (g : LogGhost) (p : D.Part) (sound : m.failed ≡ 0) where
  -- a writer that holds nothing has written up to WRITE, unless it has failed
  resting_writer : (seat : ℕ) (s : WriterState) (step : WriterStep) → writer_hand step ≡ None
      → WriterAt D c m g p seat s step → D.written p ≡ m.write
  resting_writer seat s (writer_step.Advance v) free at = at.0.1
  resting_writer seat s writer_step.LoadCheckpoint free at = at.0.1
  resting_writer seat s writer_step.LoadFirst free at = at.0.1
  resting_writer seat s writer_step.ClearFirst free at = at.0.1
  resting_writer seat s writer_step.LoadCell free at = at.0.1
  resting_writer seat s writer_step.ClearCell free at = at.0.1
  resting_writer seat s writer_step.TakeDevice free at = at.0.1
  resting_writer seat s writer_step.GiveBroken free at = at.0.1
  resting_writer seat s writer_step.WriteTo free at = at.0.1
  resting_writer seat s writer_step.StoreWrite free at = absurd (cc)
  resting_writer seat s writer_step.GiveDevice free at = at.0.1
  resting_writer seat s writer_step.StoreFailed free at = absurd (cc)
  resting_writer seat s writer_step.GiveFailed free at = absurd (cc)
  resting_writer seat s writer_step.Failed free at = absurd (omega arith)

  -- and a checkpointer's last checkpoint is the part's
  resting_checkpointer : (t : CheckpointerState) (step : CheckpointerStep) → checkpointer_hand t step ≡ None
      → CheckpointerAt D c m g p t step → D.ckpt p ≡ t.own
  resting_checkpointer t checkpointer_step.LoadCtail free at = at
  resting_checkpointer t checkpointer_step.LoadPlace free at = at
  resting_checkpointer t checkpointer_step.ReadList free at = at
  resting_checkpointer t checkpointer_step.GiveList free at = at
  resting_checkpointer t checkpointer_step.LoadFlushed free at = at
  resting_checkpointer t checkpointer_step.TakeDevice free at = at
  resting_checkpointer t checkpointer_step.GiveBroken free at = at
  resting_checkpointer t checkpointer_step.Checkpoint free at = at.0
  resting_checkpointer t checkpointer_step.StoreCheckpoint free at = absurd (cc)
  resting_checkpointer t checkpointer_step.GiveDevice free at = at
  resting_checkpointer t checkpointer_step.StoreFailed free at = absurd (cc)
  resting_checkpointer t checkpointer_step.GiveFailed free at = absurd (cc)
  resting_checkpointer t checkpointer_step.Failed free at = absurd (omega arith)

-- the actors after the users
after_users : (users : List UserState) (others : List model.Actor) (i : ℕ)
    → get_elem? (map model.User users ++ others) (length users + i) ≡ get_elem? others i
after_users [] others i = ap (get_elem? others) (let z : 0 + i ≡ i = omega arith in z)
after_users (u ∷ users) others i = ap (get_elem? (model.User u ∷ (map model.User users ++ others)))
    (let z : suc (length users) + i ≡ suc (length users + i) = omega arith in z) ∙ after_users users others i

-- a checkpoint from the block at which a run starts up to its start stands at that block
start_block_alone : (base ckpt : ℕ) → base % 496 ≡ 0 → ckpt % 512 ≡ 0 → lsn base - 12 ≤ ckpt → ckpt ≤ lsn base
    → ckpt ≡ lsn base - 12
unfolding lsn
start_block_alone base ckpt even aligned from up_to = omega arith

module _ {L D : Type 0} {archive : Bool} (log_seen : L → Seen) (data_seen : D → Seen) (run : RunOf L D)
    (parts : Parts L D) (actors : List model.Actor) (runs : RunsWith log_seen data_seen run archive parts actors)
    (rests : (i : ℕ) (a : model.Actor) → get_elem? actors i ≡ maybe.some a → HoldsNothing a)
    (sound : runs.running.shared.failed ≡ 0) where
  abbrev logs : LogSide
  logs = run_log_side log_seen data_seen run

  abbrev after : List model.Actor
  after = model.Writer runs.seated.writer ∷ model.Flusher runs.seated.flusher ∷ runs.seated.others

  there : (i : ℕ) (who : model.Actor) → get_elem? after i ≡ maybe.some who
      → get_elem? actors (length runs.seated.users + i) ≡ maybe.some who
  there i who at = ap (λ (l : List model.Actor). get_elem? l (length runs.seated.users + i)) runs.seated.are
      ∙ after_users runs.seated.users after i ∙ at

  pub write_is_written : parts.log.marks.written ≡ runs.running.shared.write
  write_is_written =
      let s : WriterState = runs.seated.writer in
      let at = there 0 (model.Writer s) refl in
      let R = runs.running in
      let fits : WriterFits logs run.setup R.shared R.log_ghost parts.log (length runs.seated.users + 0) s =
      R.both.logged.each (length runs.seated.users + 0) (model.Writer s) at in
      resting_writer logs run.setup R.shared R.log_ghost parts.log sound (length runs.seated.users + 0) s s.step
      (rests (length runs.seated.users + 0) (model.Writer s) at).no_slot fits.step

  -- with the log alone there is no checkpoint but that of the start
  alone : run.setup.log_only ≡ true → parts.log.marks.ckpt ≡ runs.running.shared.ckpt
  alone only =
      let R = runs.running in
      let part = R.both.logged.global.part in
      let from = part.ckpt_part in
      let asked = part.ckpt_asked in
      let given = R.both.asked in
      let start = R.both.paged.paged.alone only in
      let stays = R.both.stays only in
      start_block_alone run.setup.base parts.log.marks.ckpt R.both.logged.global.order.base_even part.holds.aligned
      (omega arith) (omega arith) ∙ sym stays

  with_pages : run.setup.log_only ≡ false → parts.log.marks.ckpt ≡ runs.running.shared.ckpt
  with_pages pages =
      let p : ArePageActors false runs.seated.others =
      subst (λ (b : Bool). ArePageActors b runs.seated.others) pages runs.seated.page_actors in
      let t : CheckpointerState = p.0.checkpointer in
      let at = there 4 (model.Checkpointer t) (ap (λ (l : List model.Actor). get_elem? l 2) p.2) in
      let R = runs.running in
      let fits : CheckpointerFits logs run.setup R.shared R.log_ghost parts.log (length runs.seated.users + 4) t =
      R.both.logged.each (length runs.seated.users + 4) (model.Checkpointer t) at in
      resting_checkpointer logs run.setup R.shared R.log_ghost parts.log sound t t.step
      (rests (length runs.seated.users + 4) (model.Checkpointer t) at).no_slot fits.step ∙ fits.own

  pub ckpt_is_newest : parts.log.marks.ckpt ≡ runs.running.shared.ckpt
  ckpt_is_newest = by run.setup.log_only refl
    where
      by : (b : Bool) → run.setup.log_only ≡ b → parts.log.marks.ckpt ≡ runs.running.shared.ckpt
      by true only = alone only
      by false pages = with_pages pages
