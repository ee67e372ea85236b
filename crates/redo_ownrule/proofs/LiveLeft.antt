-- What a live run leaves: a script of what its users were handed in, and the run of it.
use Rattle.std.proofs.Common.{Bool, List, None, Option, Some, [], ap, arith, false, is_some, length, map, refl}
use Rattle.std.proofs.Common.{slice_get, slice_index, subst, suc, sym, true, ℕ, ◌+◌, ◌<◌, ◌∙◌, ◌∷◌, ◌≡◌, ◌≤◌}
use Rattle.std.specs.List.{AllByRecursion}
use Rattle.std.specs.Prelude.{IfSome}
use lib.ListN.{get_elem?}
use mathlib.Core.Option as maybe
use Rattle.model_base.specs.{IsWithinLimits, run_shape}
use Rattle.model_base.specs.declared.shape.Shape.{Shape}
use Rattle.model_core.specs.{entry, Line, line_at, line_of, UserState}
use Rattle.model_core.specs.States as model
use Rattle.model_logcore.specs.{UserFits}
use Rattle.model_reads.proofs.Folds.{read_as_of}
use Rattle.model_reads.specs.{AreRead, ReadEndFits, IsReadEndOf}
use Rattle.model_reads.specs.declared.read.ReadEnd.{ReadEnd}
use Rattle.model_reads.specs.declared.read.ReadEnd.TheVariants.{Failed, Page}
use Rattle.model_report.specs.{entries_of_user, lines_of_user, wholes_of}
use Rattle.model_report.specs.declared.entry.Entry.{Entry}
use Rattle.model_report.specs.declared.entry.Marks.{Marks}
use Rattle.model_running.proofs.Finished.{marks_same}
use Rattle.model_running.proofs.Legality.{lost_unanswered}
use Rattle.model_running.proofs.Seated.{seated_seats}
use Rattle.model_running.specs.{history_of, word_marks}
use Rattle.model_script.specs.{group_of, LineFits}
use Rattle.model_script.specs.declared.script.ScriptLine.{ScriptLine}
use Rattle.model_store.specs.Scan.{Reading}
use Rattle.model_theorem.specs.{IsStart, Opened}
use Rattle.redo_disk.specs.{Call}
use Rattle.redo_disk.specs.Sight.{Seen}
use Rattle.redo_drive.proofs.LeftRun as left_run
use Rattle.redo_drive.proofs.UserEntries.{listed_at, user_entries}
use Rattle.redo_drive.specs.Beginning.{HaveBegun, IsRunWith}
use Rattle.redo_drive.specs.History.{listed, views_of}
use Rattle.redo_drive.specs.Leaving.{LeavesAs}
use Rattle.redo_drive.specs.Lists.{lists_of}
use Rattle.redo_drive.specs.Running.{run_data_side, run_log_side}
use Rattle.redo_drive.specs.Reserved.{listed_group}
use Rattle.redo_drive.specs.Setups.{programs_of}
use Rattle.redo_drive.specs.Startable.{HasReading}
use Rattle.redo_drive.specs.declared.actor.Actor.{Actor}
use Rattle.redo_ownrule.specs.LiveLeaving.{closed_with, IsKept, LeavesLive}
use Rattle.redo_rule.proofs.Finishing.{leaves_as, owes_as}
use Rattle.redo_rule.proofs.Reached.{code_has_cause, reaches_all}
use Rattle.redo_rule.specs.Closing.{done_with, LeavesParts, TellsLoss}
use Rattle.redo_rule.specs.Lively.{HasRoom}
use Rattle.redo_rule.specs.Ruled.{starts_about}
use Rattle.redo_rule.specs.declared.closing.Left.{Left}
use Rattle.redo_rule.specs.declared.law.About.{About}
use Rattle.redo_rule.specs.declared.law.Heard.{Heard}
use Rattle.redo_rule.specs.declared.law.Live.{Live}
use Rattle.redo_store.specs.{IsRunnable}
use Rattle.redo_useractor.specs.{program_lines}

-- as many lines as there are of the script, each of which is that of its place, are those of the script
own_lines : (log_only : Bool) (shape : Shape) (lines : List Line) (script : List ScriptLine)
    → length lines ≡ length script → ((k : ℕ) (one : ScriptLine) → slice_get script k ≡ Some one
    → ◌≡◌ {A = Line} (line_at lines k) (line_of log_only shape one.mode (group_of shape.space one)))
    → ◌≡◌ {A = List Line} lines (program_lines log_only shape
    (map (λ (line : ScriptLine). (line.mode, group_of shape.space line)) script))
own_lines log_only shape [] [] long each = refl
own_lines log_only shape [] (o ∷ os) long each = absurd (omega arith)
own_lines log_only shape (l ∷ ls) [] long each = absurd (omega arith)
own_lines log_only shape (l ∷ ls) (o ∷ os) long each =
    ap (λ (x : Line). x ∷ ls) (each 0 o refl)
    ∙ ap (λ (xs : List Line). line_of log_only shape o.mode (group_of shape.space o) ∷ xs)
    (own_lines log_only shape ls os (omega arith) (λ k one at. each (suc k) one at))

-- what holds of what is there
as_told : {A : Type 0} (tells : Option A) (Is : A → Type 0) (x : A) → tells ≡ Some x → IfSome tells Is → Is x
as_told {A} tells Is x told is = subst (λ (o : Option A). IfSome o Is) told is

-- of a user's groups one whose commit was answered is kept
kept_group : (marks : Marks) (u : UserState) (history : List Entry)
    → ◌≡◌ {A = List Entry} (entries_of_user u.user history) (listed marks (model.User u)) → (k : ℕ) → k < length u.starts → k < u.k → IsKept history u k
kept_group marks u history are k below answered = record {
  entry = listed_group marks u k (slice_index u.starts k);
  is = ap (λ (l : List Entry). slice_get l k) are ∙ listed_at marks u 0 u.starts k below
      ∙ ap (λ (n : ℕ). Some (listed_group marks u n (slice_index u.starts k))) (let e : 0 + k ≡ k = omega arith in e);
  start = refl;
  kept = λ lost.
      let e : model.Entry = entry u.user k (slice_index u.starts k) (line_at u.lines k) in
      let late : u.k ≤ k = lost_unanswered u.k marks e lost in absurd (omega arith);
}

module _ {L D R : Type 0} (log_seen : L → Seen) (log_gives : L → Call → L → Type 0) (data_seen : D → Seen)
    (data_gives : D → Call → D → Type 0) (about : About L D) (live : Live) (is_live : about.live ≡ Some live)
    (no_script : about.script.value ≡ []) (apart : about.plan.archive ≡ false)
    (runnable : IsRunnable about.opened.value)
    (heard : ℕ → Heard) (actors : List (Actor R)) (left : Left L D)
    (P : LeavesParts log_seen log_gives data_seen data_gives about heard (views_of actors) left) where
  abbrev script : List ScriptLine
  script = P.is_about.script

  abbrev history : List Entry
  history = history_of P.runs.running.log_ghost.answered (word_marks P.runs.running.shared) P.runs.running.log_ghost.log

  is_run : IsRunWith about.opened.value script true about.plan P.run
  is_run = subst
      (λ (b : Bool). IsRunWith about.opened.value script b about.plan P.run)
      (ap (λ (o : Option Live). is_some o) is_live) P.is_about.is_run

  room : HasRoom live about.opened.value.shape script (length (starts_about about)) P.run.setup
  room = P.is_about.room live is_live

  -- both devices held just what was opened, where they told, since no line was told then
  begun : (reading : Reading) → HasReading reading about.opened.value
      → IfSome (log_seen about.opened.value.log.dev).tells (λ log_disk.
      IfSome (data_seen about.opened.value.store.dev).tells (λ data_disk.
      IsStart reading script log_disk data_disk → HaveBegun log_seen data_seen P.run))
  begun reading as_read =
      left_run.if_told (log_seen about.opened.value.log.dev).tells _ (λ log_disk log_told.
      left_run.if_told (data_seen about.opened.value.store.dev).tells _ (λ data_disk data_told start.
      as_told (data_seen about.opened.value.store.dev).tells
      (λ disk. IsStart reading about.script.value log_disk disk → HaveBegun log_seen data_seen P.run) data_disk
      data_told (as_told (log_seen about.opened.value.log.dev).tells
      (λ disk. IfSome (data_seen about.opened.value.store.dev).tells (λ other.
      IsStart reading about.script.value disk other → HaveBegun log_seen data_seen P.run)) log_disk log_told
      (P.is_about.begun reading as_read))
      (record {
        log_bytes = start.log_bytes;
        data_bytes = start.data_bytes;
        orderly = start.orderly;
        ready = start.ready;
        fits = subst (AllByRecursion (LineFits (run_shape reading.shape))) (sym no_script) tt;
      })))

  loss : TellsLoss about.plan.archive (views_of actors) None
  loss = subst (λ (b : Bool). TellsLoss b (views_of actors) None) (sym apart) refl

  pub leaves_closed : LeavesAs log_seen log_gives data_seen data_gives (λ r l. Unit {0}) about.opened.value script true
      about.plan actors actors (closed_with left history)
  leaves_closed = leaves_as log_seen log_gives data_seen data_gives about heard actors left P (closed_with left history)
      refl refl refl refl refl loss true script is_run begun

  its_marks : ◌≡◌ {A = Marks} left.marks (word_marks P.runs.running.shared)
  its_marks = P.marks ∙ marks_same P.last.words.words P.runs.running.shared P.runs.running.flat_is

  groups : (seat : ℕ) (u : UserState) → get_elem? (views_of actors) seat ≡ maybe.some (model.User u)
      → ◌≡◌ {A = List Entry} (entries_of_user u.user history) (listed left.marks (model.User u))
  groups seat u at =
      user_entries log_seen data_seen P.run P.last (views_of actors) P.runs seat u at
      ∙ ap (λ (z : Marks). listed z (model.User u)) (sym its_marks)

  lines_of : (seat : ℕ) (u : UserState) → get_elem? (views_of actors) seat ≡ maybe.some (model.User u)
      → ◌≡◌ {A = List Line} u.lines (programs_of about.opened.value.shape about.plan.log_only script u.user)
  lines_of seat u at =
      let fits : UserFits (run_log_side log_seen data_seen P.run) P.run.setup P.runs.running.shared
      P.runs.running.log_ghost P.last.log seat u = P.runs.running.both.logged.each seat (model.User u) at in
      let S = is_run.of_script in
      own_lines about.plan.log_only about.opened.value.shape u.lines (lines_of_user u.user script)
      (ap length fits.lines ∙ S.count u.user)
      (λ k one there. ap (λ (ls : List Line). line_at ls k) fits.lines ∙ S.each u.user k one there
      ∙ ap (λ (b : Bool). let l : Line = line_of b about.opened.value.shape one.mode
      (group_of about.opened.value.shape.space one) in l) is_run.log_only_is)

  -- the store as it was opened
  abbrev opened : Opened
  opened = record { shape = about.opened.value.shape; pages = about.opened.value.pages; end = 0 }

  abbrev IsOf : ReadEnd → Type 0
  IsOf = IsReadEndOf about.opened.value.pages (wholes_of script about.opened.value.shape.space history) left.code

  -- A PAGE THAT WAS READ is the page as of its lsn, and where a read has met a failure the run leaves a code
  is_of : about.plan.log_only ≡ false → (r : ReadEnd)
      → ReadEndFits P.run.setup P.last.words.words P.runs.running.log_ghost.log r → IsOf r
  is_of with_pages (Page r) o = let W = P.runs.running in
      read_as_of (run_log_side log_seen data_seen P.run) (run_data_side log_seen data_seen P.run) P.run.setup
      W.shared W.log_ghost W.page_ghost (lists_of P.last.lists) P.last.log P.last.store (views_of actors) W.both script
      opened (subst IsWithinLimits is_run.shape P.runs.limits) room.fits is_run.its_pages is_run.of_script
      (is_run.log_only_is ∙ with_pages) P.last.words.words r o
  is_of with_pages (Failed code) o = (o.0, subst (λ (n : ℕ). 0 < n) (sym P.code) o.1)

  all_of : about.plan.log_only ≡ false → (rs : List ReadEnd)
      → AreRead P.run.setup P.last.words.words P.runs.running.log_ghost.log rs → AllByRecursion IsOf rs
  all_of with_pages [] all = tt
  all_of with_pages (r ∷ rs) all = (is_of with_pages r all.0, all_of with_pages rs all.1)

  -- WHAT IT LEAVES
  pub leaves_live : LeavesLive log_seen log_gives data_seen data_gives about.opened.value about.plan.log_only
      (views_of actors) (λ n. (heard n).reads) left
  leaves_live = record {
    script = script;
    lines = room.lines;
    fits = room.fits;
    of_user = lines_of;
    no_other = seated_seats P.run.setup (views_of actors) P.runs.seated script about.opened.value.shape
        is_run.of_script;
    history = history;
    of_groups = groups;
    is_kept = λ seat u at k below answered. kept_group left.marks u history (groups seat u at) k below answered;
    are_read = λ with_pages n. all_of with_pages (heard n).reads (P.reads n).done;
    is_run = left_run.is_run log_seen log_gives data_seen data_gives (λ r l. Unit {0}) about.opened.value script
        about.plan actors actors (done_with (closed_with left history)) leaves_closed;
    owed = owes_as log_seen log_gives data_seen data_gives about heard actors left P (closed_with left history)
        refl refl refl refl refl loss true script is_run begun runnable;
    reaches = reaches_all log_seen log_gives data_seen data_gives (λ r l. Unit {0}) about.opened.value script
        about.plan actors actors (closed_with left history) leaves_closed;
    cause = code_has_cause log_seen log_gives data_seen data_gives (λ r l. Unit {0}) about.opened.value script
        about.plan actors actors (closed_with left history) leaves_closed;
  }
