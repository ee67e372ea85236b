-- What a run leaves, however its Ops were interleaved, is a run of its script, and, where its devices tell and the store was ready, both hold it; where
-- all users have ended it is a closed one.
use Rattle.std.proofs.Common.{Bool, List, None, Option, Some, [], ap, arith, cond, false, inl, inr, length, refl, slice_get, subst, sym, true, ⊎_elim, ℕ, ◌+◌, ◌<◌, ◌∙◌, ◌≡◌, ◌≢◌, ◌≤◌}
use Rattle.std.proofs.lemmas.Bool.{ne_eqb}
use Rattle.std.specs.List.{AllZip}
use Rattle.std.specs.Prelude.{IfSome}
use lib.ListN.{get_elem?}
use mathlib.Core.Option.{some}
use Rattle.model_base.specs.{run_shape}
use Rattle.model_base.specs.declared.shape.Shape.{Shape}
use Rattle.model_core.specs.{DataSide, LogSide, archives, Given, HasLost, lsn, ReaderState, SharedWords}
use Rattle.model_core.proofs.Lsns.{lsn_le}
use Rattle.model_core.specs.States as model
use Rattle.model_device.specs.{synced, Disk}
use Rattle.model_running.proofs.Archiving.{none_loses}
use Rattle.model_running.proofs.ClosedStore.{held_run}
use Rattle.model_running.proofs.Finished.{finished_groups, finished_losses, finished_run, marks_same}
use Rattle.model_running.proofs.Places.{bound_spans, history_spans}
use Rattle.model_running.specs.Histories.{AreWholesOf, log_spans}
use Rattle.model_running.specs.ReadHalf.{FollowerHas, groups_upto, HasByKind, ReaderHas, ReadHalf}
use Rattle.model_logcore.specs.{LogGhost}
use Rattle.model_running.proofs.FinishedPages.{finished_pages}
use Rattle.model_running.proofs.FinishedStore.{stands_for_run}
use Rattle.model_running.proofs.Seated.{seated_seats}
use Rattle.model_running.specs.{CausesAreFailures, DataTells, HasFailedPart, HasItsPages, HaveEnded, IsOfScript, LeavesOpen, LogTells, run_of, word_marks}
use Rattle.model_report.specs.{entry_spans, IsLeft, wholes_of}
use Rattle.model_report.specs.declared.entry.Entry.{Entry}
use Rattle.model_report.specs.declared.entry.Marks.{Marks}
use Rattle.model_log.specs.{IsBoundary, Span, start_after}
use Rattle.model_log.specs.declared.group.Whole.{Whole}
use Rattle.model_page.specs.declared.content.Content.{Content}
use Rattle.model_theorem.proofs.Start.{start-given}
use Rattle.model_theorem.specs.{IsHeld, IsRun, IsStart, LosesOnlyByFailure, opened_as}
use Rattle.model_script.specs.declared.script.ScriptLine.{ScriptLine}
use Rattle.model_parts.specs.{numbers_taken}
use Rattle.model_store.specs.{Reading}
use Rattle.model_theorem.specs.Run as theorem
use Rattle.redo_drive.proofs.DataPartEnds.{data_tells}
use Rattle.redo_drive.specs.DataPartSide as data_part
use Rattle.redo_archiver.specs.{append_code}
use Rattle.redo_disk.specs.{Call, failures, Seen}
use Rattle.redo_disk.specs.declared.error.DevError.{DevError}
use Rattle.redo_disk.specs.declared.error.DevError.TheVariants.{Failed, NoMemory}
use Rattle.redo_logdev.specs.Part as log
use Rattle.redo_drive.proofs.LogPartEnds.{log_tells}
use Rattle.redo_drive.specs.LogPartSide as log_part
use Rattle.redo_drive.proofs.SyncedParts.{data_is_synced, log_tells_synced}
use Rattle.redo_drive.specs.Beginning.{HaveBegun}
use Rattle.redo_drive.specs.Startable.{AreNewFollowers, HasReading}
use Rattle.redo_drive.specs.Calls.{CallsOn}
use Rattle.redo_drive.specs.Drive.{ComesToRun, HasMemory, HasMetError, HoldsRun, IsOwedSynced, Owes, closed_run, failed_in}
use Rattle.redo_drive.specs.Followed.{given_upto, HasFollowed, HasSameNumber, HaveFollowed}
use Rattle.redo_drive.specs.Leaving.{LeavesAs}
use Rattle.redo_drive.specs.Begins.{EndsWithReaders}
use Rattle.redo_drive.specs.Running.{RunOf, run_data_side, run_log_side, groups_of, core_of}
use Rattle.redo_drive.specs.Receiving.{follower_of, IsSameFollower}
use Rattle.redo_drive.specs.Setups.{first_reader, seated_actors}
use Rattle.redo_follow.specs.{StandsFor}
use Rattle.redo_follow.specs.Following.{Following}
use Rattle.redo_drive.proofs.Viewed.{views_at}
use Rattle.redo_drive.specs.History.{followers_in, views_of}
use Rattle.redo_drive.specs.declared.actor.Actor.{Actor}
use Rattle.redo_drive.specs.declared.actor.Actor.TheVariants as own
use Rattle.redo_drive.specs.declared.drive.Driven.{Driven}
use Rattle.redo_drive.specs.declared.drive.RunEnd.TheVariants as ended
use Rattle.redo_drive.specs.declared.seating.TheConstants.{FIRST_FOLLOWER}
use Rattle.redo_drive.specs.declared.plan.Plan.{Plan}
use Rattle.redo_store.specs.{IsRunnable}
use Rattle.redo_store.specs.declared.opened.Opened.{Opened}
use Rattle.redo_store.specs.Part as store
use Rattle.redo_drive.proofs.FollowersLeft.{all_pairs, among, groups_are, Pair, starts_with}

-- where a device tells
pub if_told : (tells : Option Disk) (Is : Disk → Type 0) → ((disk : Disk) → tells ≡ Some disk → Is disk) → IfSome tells Is
if_told None Is each = tt
if_told (Some disk) Is each = each disk refl

as_told : (tells : Option Disk) (Is : Disk → Type 0) (disk : Disk) → tells ≡ Some disk → IfSome tells Is → Is disk
as_told tells Is disk told is = subst (λ (o : Option Disk). IfSome o Is) told is

-- an error of a part is a failure of its device, which counts, or the device had no memory
failure_counts : (fault : DevError) (failed : Option DevError) (all : ℕ) → failed ≡ Some fault → failures failed ≤ all
    → (failed ≡ Some NoMemory → 0 < all) → 0 < all
failure_counts Failed failed all is counts memory = let n : failures failed ≡ 1 = ap failures is in omega arith
failure_counts NoMemory failed all is counts memory = memory is

module _ {L D R : Type 0} {live : Bool} (log_seen : L → Seen) (log_gives : L → Call → L → Type 0)
    (data_seen : D → Seen)
    (data_gives : D → Call → D → Type 0) (stands : R → List Given → Type 0) (opened : Opened L D)
    (script : List ScriptLine) (plan : Plan) (starts actors : List (Actor R)) (driven : Driven L D)
    (by : LeavesAs log_seen log_gives data_seen data_gives stands opened script live plan starts actors
    driven.closed) where
  abbrev run : RunOf L D
  run = by.run

  abbrev logs : LogSide
  logs = run_log_side log_seen data_seen run

  abbrev datas : DataSide
  datas = run_data_side log_seen data_seen run

  -- the run that the store stood for is the one that it leaves
  abbrev ran : theorem.Ran
  ran = closed_run opened.start driven.closed

  ran_is : ◌≡◌ {A = theorem.Ran} (run_of run.setup by.from.runs.running.log_ghost by.from.runs.running.shared) ran
  ran_is =
      let start : lsn run.setup.base ≡ opened.start = by.is_run.start in
      let marks : ◌≡◌ {A = Marks} (word_marks by.from.runs.running.shared) driven.closed.marks = sym (by.marks ∙ marks_same by.last.words.words by.from.runs.running.shared by.from.runs.running.flat_is) in
      let history = by.history in
      cc

  left_of_run : (left : List (ℕ × ℕ)) → IsLeft script driven.closed.history left → IsLeft script (run_of run.setup by.from.runs.running.log_ghost by.from.runs.running.shared).entries left
  left_of_run left is = subst (λ (z : List Entry). IsLeft script z left) by.history is

  -- at any moment it is a run of the script
  pub is_run : (end : ℕ) → opened.start ≡ start_after end
      → IsRun script (record { shape = opened.shape; pages = opened.pages; end = end }) ran
  is_run end start =
      let was : theorem.Opened = record { shape = opened.shape; pages = opened.pages; end = end } in
      subst (IsRun script was) ran_is
      (finished_run logs run.setup by.from.runs.running.shared by.from.runs.running.log_ghost by.last.log (views_of actors) by.from.runs.running.both.logged script was by.is_run.of_script (by.is_run.start ∙ start))

  -- without an archiver no append has failed
  none_lost : plan.archive ≡ false → (code : ℕ) → HasLost (views_of actors) code → ⊥
  none_lost alone = none_loses run.setup (views_of actors) by.from.runs.running.both.in_run
      (let first = by.is_run.first_is in let one = ap first_reader alone in omega arith)

  -- an append that has failed did so by an error
  lost_by : (code : ℕ) → HasLost (views_of actors) code → (fault : DevError) × (driven.closed.lost ≡ Some fault)
  lost_by code lost = some_fault driven.closed.lost (same plan.archive refl)
    where
      same : (b : Bool) → plan.archive ≡ b → code ≡ append_code driven.closed.lost
      same true is = subst (λ (b : Bool). cond {A = Type 0} b
          ((n : ℕ) → HasLost (views_of actors) n → n ≡ append_code driven.closed.lost) (Unit {0})) is by.lost code lost
      same false is = absurd (none_lost is code lost)

      some_fault : (met : Option DevError) → code ≡ append_code met → (fault : DevError) × (met ≡ Some fault)
      some_fault None is = let some = lost.some_code in absurd (omega arith)
      some_fault (Some fault) is = (fault, refl)

  causes : HasMemory driven.closed → CausesAreFailures logs datas (failed_in driven.closed) by.last.log by.last.store (views_of actors)
  causes memory = record {
    log = λ code cause. failure_counts cause.fault driven.closed.log.failed (failed_in driven.closed)
        (ap (λ (z : log.Part L). z.failed) by.log ∙ cause.failed) (omega arith) (λ none. memory (inl none));
    data_part = λ code cause. failure_counts cause.fault driven.closed.store.failed (failed_in driven.closed)
        (ap (λ (z : store.Part D). z.failed) by.data_part ∙ cause.failed) (omega arith) (λ none. memory (inr (inl none)));
    archive = λ code lost. let met = lost_by code lost in
        failure_counts met.0 driven.closed.lost (failed_in driven.closed) met.1 (omega arith) (λ none. memory (inr (inr none)));
  }

  loses : (left : List (ℕ × ℕ)) → HaveEnded (views_of actors) → HasMemory driven.closed → IsLeft script driven.closed.history left → LosesOnlyByFailure (failed_in driven.closed) (Some ran) left
  loses left ended memory left_is =
      let cause = causes memory in
      subst (λ (z : theorem.Ran). LosesOnlyByFailure (failed_in driven.closed) (Some z) left) ran_is
      (finished_losses logs run.setup by.from.runs.running.shared by.from.runs.running.log_ghost by.last.log (views_of actors) by.from.runs.running.both.logged script opened.shape (failed_in driven.closed) left
      ended by.is_run.of_script (seated_seats run.setup (views_of actors) by.from.runs.seated script opened.shape by.is_run.of_script)
      (λ failed. ⊎_elim (λ c. cause.log by.from.runs.running.shared.failed c) (⊎_elim (λ c. cause.data_part by.from.runs.running.shared.failed c) (λ c. cause.archive by.from.runs.running.shared.failed c)) (by.from.runs.running.both.cause failed)) (left_of_run left left_is))

  -- the devices came here by calls, the log's and the data's
  log_calls : IsRunnable opened → CallsOn log_gives opened.log.dev None driven.closed.log.dev driven.closed.log.failed
  log_calls may = subst (λ (z : log.Part L). CallsOn log_gives opened.log.dev None z.dev z.failed) (sym by.log)
      (subst (λ (o : Option DevError). CallsOn log_gives opened.log.dev o by.last.log.dev by.last.log.failed)
      may.log_live by.log_calls)

  data_calls : IsRunnable opened
      → CallsOn data_gives opened.store.dev None driven.closed.store.dev driven.closed.store.failed
  data_calls may = subst (λ (z : store.Part D). CallsOn data_gives opened.store.dev None z.dev z.failed) (sym by.data_part)
      (subst (λ (o : Option DevError). CallsOn data_gives opened.store.dev o by.last.store.dev by.last.store.failed)
      may.data_live by.data_calls)

  pub comes_to_run : IsRunnable opened → (driven.ended ≡ ended.Done → HaveEnded (views_of actors))
      → ((turns user : ℕ) → driven.ended ≡ ended.Spent turns user → LeavesOpen script driven.closed.history (HasMetError driven.closed) user) → ComesToRun log_gives data_gives opened script driven
  comes_to_run may ended spent = record {
    is_run = is_run;
    loses = λ left done memory left_is. loses left (ended done) memory left_is;
    spent = spent;
    log_calls = log_calls may;
    data_calls = data_calls may;
  }

  -- FAILED's code comes of an error that a device's call answered
  pub met_error : HasFailedPart logs datas by.last.log by.last.store (views_of actors) → HasMetError driven.closed
  met_error (code, cause) = ⊎_elim
      (λ c. inl (λ none. let is : driven.closed.log.failed ≡ Some c.fault = ap (λ (z : log.Part L). z.failed) by.log ∙ c.failed in absurd (cc)))
      (⊎_elim
      (λ c. inr (inl (λ none. let is : driven.closed.store.failed ≡ Some c.fault = ap (λ (z : store.Part D). z.failed) by.data_part ∙ c.failed in absurd (cc))))
      (λ lost. inr (inr (λ none. let met = lost_by code lost in
      let bad : None ≡ Some met.0 = sym none ∙ met.1 in absurd (cc))))) cause

  module _ (may : IsRunnable opened) (reading : Reading) (as_read : HasReading reading opened) where
    its_pages : HasItsPages run.setup (opened_as reading)
    its_pages = let its = by.is_run.its_pages in record {
      count = its.count ∙ ap (λ (z : Shape). z.pages) as_read.shape;
      page_size = its.page_size ∙ ap (λ (z : Shape). z.page_size) as_read.shape;
      each = λ p page at. its.each p page (subst (λ (z : List Content). slice_get z p ≡ Some page) (sym as_read.pages) at);
    }

    log_shape : ◌≡◌ {A = Shape} by.last.log.shape (run_shape reading.shape)
    log_shape = by.log_shape ∙ may.log_shape ∙ as_read.shape

    -- what the log device holds of the run, and the data device
    log_device : HaveBegun log_seen data_seen run → (disk : Disk) → (log_seen driven.closed.log.dev).tells ≡ Some disk → LogTells logs run.setup (run_shape reading.shape) (reading.number + numbers_taken reading.format) by.last.log disk
    log_device begun disk told =
        subst (λ (n : ℕ). LogTells logs run.setup (run_shape reading.shape) n by.last.log disk) (ap (λ (z : log.Part L). z.marks.number) by.is_run.first_log ∙ as_read.number)
        (log_tells log_seen (log_seen run.first_log.dev).faults run.first_log.marks.number (log_part.HasBegun log_seen (lsn run.setup.base) run.first_log) run.setup (run_shape reading.shape) by.last.log disk begun.log log_shape
        (ap (λ (z : log.Part L). (log_seen z.dev).tells) (sym by.log) ∙ told))

    data_device : HaveBegun log_seen data_seen run → (disk : Disk) → (data_seen driven.closed.store.dev).tells ≡ Some disk → DataTells datas (opened_as reading) by.last.store disk
    data_device begun disk told =
        data_tells data_seen (data_seen run.first_data.dev).faults run.shape (data_part.HasBegun data_seen run.setup.opened run.first_data) run.setup (opened_as reading) by.last.store disk its_pages
        (sym as_read.shape ∙ sym by.is_run.shape) begun.data_part (ap (λ (z : store.Part D). (data_seen z.dev).tells) (sym by.data_part) ∙ told)

    -- and what a sync would leave of them, where no call failed
    log_synced : HaveBegun log_seen data_seen run → driven.closed.log.failed ≡ None → (disk : Disk) → (log_seen driven.closed.log.dev).tells ≡ Some disk
        → LogTells logs run.setup (run_shape reading.shape) (reading.number + numbers_taken reading.format) by.last.log (synced disk)
    log_synced begun live disk told =
        subst (λ (n : ℕ). LogTells logs run.setup (run_shape reading.shape) n by.last.log (synced disk)) (ap (λ (z : log.Part L). z.marks.number) by.is_run.first_log ∙ as_read.number)
        (log_tells_synced log_seen (log_seen run.first_log.dev).faults run.first_log.marks.number (log_part.HasBegun log_seen (lsn run.setup.base) run.first_log) run.setup (run_shape reading.shape) by.last.log disk begun.log log_shape
        (ap (λ (z : log.Part L). (log_seen z.dev).tells) (sym by.log) ∙ told) (ap (λ (z : log.Part L). z.failed) (sym by.log) ∙ live))

    data_synced : HaveBegun log_seen data_seen run → driven.closed.store.failed ≡ None → (disk : Disk) → (data_seen driven.closed.store.dev).tells ≡ Some disk → DataTells datas (opened_as reading) by.last.store (synced disk)
    data_synced begun live disk told =
        subst (DataTells datas (opened_as reading) by.last.store)
        (data_is_synced data_seen (data_seen run.first_data.dev).faults run.shape (data_part.HasBegun data_seen run.setup.opened run.first_data) by.from.runs.running.page_ghost.kept_page by.from.runs.running.page_ghost.unfinished by.last.store disk
        by.from.runs.running.both.paged.paged.stored begun.data_part (ap (λ (z : store.Part D). (data_seen z.dev).tells) (sym by.data_part) ∙ told) (ap (λ (z : store.Part D). z.failed) (sym by.data_part) ∙ live))
        (data_device begun disk told)

    -- so both devices hold the run, as the parts tell of them
    held : (log_disk data_disk log_now data_now : Disk) → IsStart reading script log_disk data_disk
        → LogTells logs run.setup (run_shape reading.shape) (reading.number + numbers_taken reading.format) by.last.log log_now → DataTells datas (opened_as reading) by.last.store data_now
        → IsHeld (record { script = script; opened = opened_as reading; number = reading.number + numbers_taken reading.format; run = ran; log_disk = log_now; data_disk = data_now })
    unfolding stands_for_run
    held log_disk data_disk log_now data_now start log_tells_now data_tells_now =
        let core = core_of log_seen data_seen run by.last (views_of actors) in
        let running = by.from.runs.running in
        let of_script = subst (IsOfScript run.setup script) as_read.shape by.is_run.of_script in
        let behind : lsn run.setup.base ≡ start_after reading.end = by.is_run.start ∙ as_read.start in
        let given = start-given reading script log_disk data_disk start in
        subst (λ (z : theorem.Ran). IsHeld (record { script = script; opened = opened_as reading; number = reading.number + numbers_taken reading.format; run = z; log_disk = log_now; data_disk = data_now })) ran_is
        (held_run logs datas run.setup script (opened_as reading) (reading.number + numbers_taken reading.format) log_now data_now core behind given log_tells_now data_tells_now
        (stands_for_run logs datas run.setup script (opened_as reading) core running of_script behind)
        (finished_pages logs datas run.setup script (opened_as reading) core running given its_pages of_script))

  -- both devices held what was opened, where they told
  has_begun : (reading : Reading) → HasReading reading opened → (log_disk data_disk : Disk) → (log_seen opened.log.dev).tells ≡ Some log_disk → (data_seen opened.store.dev).tells ≡ Some data_disk
      → IsStart reading script log_disk data_disk → HaveBegun log_seen data_seen run
  has_begun reading as_read log_disk data_disk log_told data_told =
      as_told (data_seen opened.store.dev).tells (λ disk. IsStart reading script log_disk disk → HaveBegun log_seen data_seen run) data_disk data_told
      (as_told (log_seen opened.log.dev).tells (λ disk. IfSome (data_seen opened.store.dev).tells (λ other. IsStart reading script disk other → HaveBegun log_seen data_seen run)) log_disk log_told (by.begun reading as_read))

  -- where both devices told, and the store was ready
  pub where_started : (reading : Reading) → HasReading reading opened → (Is : Type 0)
      → ((log_disk data_disk : Disk) → IsStart reading script log_disk data_disk → HaveBegun log_seen data_seen run → Is)
      → IfSome (log_seen opened.log.dev).tells (λ log_disk. IfSome (data_seen opened.store.dev).tells (λ data_disk.
      IsStart reading script log_disk data_disk → Is))
  where_started reading as_read Is each =
      if_told (log_seen opened.log.dev).tells _ (λ log_disk log_told. if_told (data_seen opened.store.dev).tells _ (λ data_disk data_told start.
      each log_disk data_disk start (has_begun reading as_read log_disk data_disk log_told data_told start)))

  -- and where both tell now
  where_told : (reading : Reading) → HasReading reading opened → (Is : Disk → Disk → Type 0)
      → ((log_disk data_disk log_now data_now : Disk) → IsStart reading script log_disk data_disk → HaveBegun log_seen data_seen run
      → (log_seen driven.closed.log.dev).tells ≡ Some log_now → (data_seen driven.closed.store.dev).tells ≡ Some data_now → Is log_now data_now)
      → IfSome (log_seen opened.log.dev).tells (λ log_disk. IfSome (data_seen opened.store.dev).tells (λ data_disk.
      IsStart reading script log_disk data_disk
      → IfSome (log_seen driven.closed.log.dev).tells (λ log_now. IfSome (data_seen driven.closed.store.dev).tells (λ data_now. Is log_now data_now))))
  where_told reading as_read Is each = where_started reading as_read _ (λ log_disk data_disk start begun.
      if_told (log_seen driven.closed.log.dev).tells _ (λ log_now log_now_told. if_told (data_seen driven.closed.store.dev).tells _ (λ data_now data_now_told.
      each log_disk data_disk log_now data_now start begun log_now_told data_now_told)))

  pub holds_run : IsRunnable opened → HoldsRun log_seen data_seen opened script driven
  holds_run may reading as_read =
      where_told reading as_read _ (λ log_disk data_disk log_now data_now start begun log_told data_told.
      held may reading as_read log_disk data_disk log_now data_now start (log_device may reading as_read begun log_now log_told) (data_device may reading as_read begun data_now data_told))

  pub is_owed_synced : IsRunnable opened → (driven.ended ≡ ended.Done → HaveEnded (views_of actors))
      → IsOwedSynced log_seen data_seen opened script driven
  is_owed_synced may ended log_live data_live reading left done memory as_read left_is =
      where_told reading as_read _ (λ log_disk data_disk log_now data_now start begun log_told data_told. record {
        holds = held may reading as_read log_disk data_disk (synced log_now) (synced data_now) start
            (log_synced may reading as_read begun log_live log_now log_told) (data_synced may reading as_read begun data_live data_now data_told);
        left_is = left_is;
        loses = loses left (ended done) memory left_is;
      })

  -- so a drive owes nothing more
  pub owes : IsRunnable opened → (driven.ended ≡ ended.Done → HaveEnded (views_of actors))
      → ((turns user : ℕ) → driven.ended ≡ ended.Spent turns user → LeavesOpen script driven.closed.history (HasMetError driven.closed) user) → Owes log_seen log_gives data_seen data_gives opened script driven
  owes may ended spent = record {
    comes_to = comes_to_run may ended spent;
    holds = holds_run may;
    owed_synced = is_owed_synced may ended;
  }

  -- WHAT IT LEAVES OF FOLLOWERS.
  module _ (fs : List (Following R)) (new : AreNewFollowers opened.start fs) (many : plan.followers ≡ length fs)
      (are : views_of starts ≡ seated_actors opened.shape script opened.start plan)
      (ends : EndsWithReaders opened.start plan.archive starts fs) where
    these : ◌≡◌ {A = List (Following R)} (followers_in starts) fs
    these = starts_with opened.shape script opened.start plan fs starts many are ends

    -- each has a number of its own
    is_numbered : (seat : ℕ) (f : Following R) → get_elem? starts seat ≡ some (own.Follower f) → 0 < f.state.number
    is_numbered = among (λ (f : Following R). 0 < f.state.number) starts (λ i f at.
        let is = new.each i f (subst (λ (l : List (Following R)). get_elem? l i ≡ some f) these at) in
        let number : f.state.number ≡ FIRST_FOLLOWER + i = ap (λ (r : ReaderState). r.number) is in omega arith)

    each_pair : (P : Following R → Following R → Type 0)
        → ((seat : ℕ) (f g : Following R) → get_elem? starts seat ≡ some (own.Follower f)
        → get_elem? actors seat ≡ some (own.Follower g) → P f g)
        → AllZip P fs (followers_in actors)
    each_pair P each = subst (λ (l : List (Following R)). AllZip P l (followers_in actors)) these
        (all_pairs P starts actors by.from.count (λ i a b at there. pair i a b at there (by.from.same i a b at there)))
      where
        pair : (i : ℕ) (a b : Actor R) → get_elem? starts i ≡ some a → get_elem? actors i ≡ some b
            → IsSameFollower (follower_of a) (follower_of b) → Pair P (follower_of a) (follower_of b)
        pair i (own.Follower f) (own.Follower g) at there same = each i f g at there
        pair i (own.Follower f) (own.User u) at there same = absurd same
        pair i (own.Follower f) (own.Writer s) at there same = absurd same
        pair i (own.Follower f) (own.Flusher t) at there same = absurd same
        pair i (own.Follower f) (own.Closer t) at there same = absurd same
        pair i (own.Follower f) (own.Cleaner v) at there same = absurd same
        pair i (own.Follower f) (own.Checkpointer t) at there same = absurd same
        pair i (own.Follower f) (own.Archiver r) at there same = absurd same
        pair i (own.User u) (own.Follower g) at there same = absurd same
        pair i (own.Writer s) (own.Follower g) at there same = absurd same
        pair i (own.Flusher t) (own.Follower g) at there same = absurd same
        pair i (own.Closer t) (own.Follower g) at there same = absurd same
        pair i (own.Cleaner v) (own.Follower g) at there same = absurd same
        pair i (own.Checkpointer t) (own.Follower g) at there same = absurd same
        pair i (own.Archiver r) (own.Follower g) at there same = absurd same
        pair i _ _ at there same = tt

    module _ (told : logs.Tells by.last.log) where
      abbrev m : SharedWords
      m = by.from.runs.running.shared

      abbrev g : LogGhost
      g = by.from.runs.running.log_ghost

      half : ReadHalf logs run.setup m g.log by.last.log (views_of actors)
      half = by.from.runs.running.both.reading told

      marks_are : ◌≡◌ {A = Marks} (word_marks m) driven.closed.marks
      marks_are = sym (by.marks ∙ marks_same by.last.words.words m by.from.runs.running.flat_is)

      has_followed : (seat : ℕ) (before after : Following R) → get_elem? starts seat ≡ some (own.Follower before)
          → get_elem? actors seat ≡ some (own.Follower after)
          → HasFollowed stands opened script driven.closed before after
      has_followed seat before after at there =
          let r : ReaderState = after.state in
          let R : ReaderHas run.setup m g.log seat r =
          half.each seat (model.Reader r) (views_at actors seat (own.Follower after) there) in
          let from_one = is_numbered seat before at in
          let same : r.number ≡ before.state.number =
          by.from.same seat (own.Follower before) (own.Follower after) at there in
          let kind : archives r ≡ false = ne_eqb r.number 0 (λ none. omega arith) in
          let F : FollowerHas run.setup m g.log r =
          subst (λ (b : Bool). HasByKind run.setup m g.log b r) kind R.has in
          let tiles = by.from.runs.running.both.logged.global.tiled.tiles in
          let wholes : List Whole = wholes_of script opened.shape.space driven.closed.history in
          let spans : ◌≡◌ {A = List Span} (log_spans g.log) (entry_spans driven.closed.history) =
          sym (ap entry_spans by.history ∙ history_spans g.answered (word_marks m) g.log) in
          let between : IsBoundary (lsn run.setup.base) (log_spans g.log) (lsn r.at) =
          bound_spans g.log run.setup.base m.sn r.at tiles F.bound in
          let are_wholes : AreWholesOf g.log wholes =
          subst (λ (z : List Entry). AreWholesOf g.log (wholes_of script opened.shape.space z)) (sym by.history)
          (finished_groups logs run.setup m g by.last.log (views_of actors) by.from.runs.running.both.logged script
          opened.shape by.is_run.of_script) in
          let groups : ◌≡◌ {A = List Given} (groups_of (model.Reader r) g.log) (given_upto r.place wholes) =
          ap (λ (b : Bool). let l : List Given = cond b [] (groups_upto r.at g.log) in l) kind
          ∙ groups_are r.at g.log wholes are_wholes ∙ ap (λ (n : ℕ). given_upto n wholes) (sym F.place) in
          record {
            place = subst (λ (n : ℕ). IsBoundary n (entry_spans driven.closed.history) r.place) by.is_run.start
                (subst (λ (z : List Span). IsBoundary (lsn run.setup.base) z r.place) spans
                (subst (IsBoundary (lsn run.setup.base) (log_spans g.log)) (sym F.place) between));
            flushed = subst (λ (z : Marks). r.place ≤ z.flushed) marks_are
                (let below = F.below in let up = lsn_le r.at F.to (omega arith) in
                let flushed = F.read.flushed in let place = F.place in omega arith);
            stored = R.up;
            made = subst (λ (z : Marks). z.ckpt ≤ r.own) marks_are
                (let part = by.from.runs.running.both.logged.global.part in
                let ckpt = part.ckpt_part in let asked = part.ckpt_asked in
                let under = half.asked r.number R.first R.last in let word = R.word in omega arith);
            asked = subst (λ (z : log.Part L). z.marks.asked ≤ r.own) (sym by.log)
                (let under = half.asked r.number R.first R.last in let word = R.word in omega arith);
            got = subst (λ (l : List Given). StandsFor stands before.receiver l after.receiver) groups
                (by.from.got told seat (own.Follower before) (own.Follower after) at there);
          }

    pub have_followed : HaveFollowed log_seen data_seen stands opened script fs actors driven.closed
    have_followed = record {
      same = each_pair HasSameNumber
          (λ seat f g at there. by.from.same seat (own.Follower f) (own.Follower g) at there);
      each = λ reading as_read. where_started reading as_read _ (λ log_disk data_disk start begun.
          if_told (log_seen driven.closed.log.dev).tells _ (λ log_now log_told.
          each_pair (HasFollowed stands opened script driven.closed)
          (has_followed (begun.log, tells log_now log_told))));
    }
      where
        tells : (disk : Disk) → (log_seen driven.closed.log.dev).tells ≡ Some disk
            → (log_seen by.last.log.dev).tells ≢ None
        tells disk told none =
            let z : (log_seen by.last.log.dev).tells ≡ Some disk =
            ap (λ (z : log.Part L). (log_seen z.dev).tells) (sym by.log) ∙ told in
            let bad : None ≡ Some disk = sym none ∙ z in absurd (cc)
