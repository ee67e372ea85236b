-- What a table leaves is what a run leaves, and so what every drive owes.
use Rattle.std.proofs.Common.{Bool, cond, List, None, Option, Some, get_or, ap, arith, drop, false, get_or-set_other, is_some, length, refl, subst, suc, sym, true, zero, ℕ, ◌<◌, ◌^◌, ◌∙◌, ◌∷◌, ◌≡◌, ◌≢◌, ◌≤◌, []}
use Rattle.std.specs.Prelude.{IfSome, slice_index, slice_set}
use lib.ListN.{get_elem?}
use mathlib.Core.Option as maybe
use Rattle.model_core.specs.States as model
use Rattle.model_core.specs.{ckpt_at, flushed_at, Given, HasLost, ReaderState, tail_of, write_at, wtail_at, failed_at, Setup}
use Rattle.model_running.proofs.Archiving.{losing_at}
use Rattle.model_running.proofs.Finished.{marks_same}
use Rattle.model_running.specs.{history_of, marks_in, word_marks}
use Rattle.model_running.specs.ReadHalf.{ReadsInRun, StaysInRun}
use Rattle.model_report.specs.declared.entry.Entry.{Entry}
use Rattle.model_report.specs.declared.entry.Marks.{Marks}
use Rattle.model_script.specs.declared.script.ScriptLine.{ScriptLine}
use Rattle.model_store.specs.{Reading}
use Rattle.model_theorem.specs.{IsStart}
use Rattle.redo_archiver.specs.{append_code}
use Rattle.redo_disk.specs.{Call, Seen}
use Rattle.redo_disk.specs.declared.error.DevError.{DevError}
use Rattle.redo_drive.proofs.FailureCode.{small_code}
use Rattle.redo_drive.proofs.LeftRun as left_run
use Rattle.redo_drive.proofs.LogCount.{log_within_script}
use Rattle.redo_drive.proofs.Told.{as_many, have_groups, have_kept, history_is}
use Rattle.redo_follow.specs.Following.{Following}
use Rattle.redo_drive.specs.Beginning.{HaveBegun, IsRunWith}
use Rattle.redo_drive.specs.{HasReading, MayBegin, ListsInOrder, all_listed, view_of, views_of, listing_at, run_log_side, groups_of, follower_of, HasGot, IsSameFollower}
use Rattle.redo_drive.specs.Reserved.{HasGroups, KeepsAll}
use Rattle.redo_drive.specs.Leaving.{LeavesAs, LeavesWith}
use Rattle.redo_drive.specs.declared.actor.Actor.{Actor}
use Rattle.redo_drive.specs.declared.closed.Closed.{Closed}
use Rattle.redo_rule.proofs.Kept as kept
use Rattle.redo_rule.specs.Closing.{done_with, IsOwedRun, LeavesParts, TellsLoss}
use Rattle.redo_rule.specs.Ending.{HaveLists, RunReaches}
use Rattle.redo_rule.specs.Slots.{IsData, IsLog, IsPages}
use Rattle.redo_rule.specs.declared.closing.Left.{Left}
use Rattle.redo_rule.proofs.Told.{fixed_run}
use Rattle.redo_store.specs.{IsRunnable}
use Rattle.redo_rule.specs.declared.law.About.{About}
use Rattle.model_own.specs.{LogWork}
use Rattle.redo_rule.specs.OwnSide.{desk_with, work_of}
use Rattle.redo_rule.specs.declared.law.Desk.{Desk}
use Rattle.redo_rule.specs.declared.law.Heard.{Heard}
use Rattle.redo_rule.specs.declared.law.Live.{Live}
use Rattle.redo_rule.specs.declared.law.Slot.{Slot}
use Rattle.redo_rule.specs.declared.law.Slot.TheVariants as slot

-- a flush list lies in its slot
pub list_there : {L D : Type 0} (xs : List (Slot L D)) → HaveLists xs → (i : ℕ) (x : Slot L D) → i < 4
    → get_elem? xs (suc i) ≡ maybe.some x → IsPages x (λ l. Unit {0})
list_there xs have i x below at =
    let l = have i below in (l.0, maybe.some-injective x (slot.Pages l.0) (sym at ∙ l.1), tt)

-- these four lie in the slots behind the first one
pub four_at : {A : Type 0} (xs : List A) (a b c d : A) → get_elem? xs 1 ≡ maybe.some a → get_elem? xs 2 ≡ maybe.some b
    → get_elem? xs 3 ≡ maybe.some c → get_elem? xs 4 ≡ maybe.some d
    → (i : ℕ) (x : A) → get_elem? (a ∷ b ∷ c ∷ d ∷ []) i ≡ maybe.some x → get_elem? xs (suc i) ≡ maybe.some x
four_at xs a b c d p q r s zero x at = p ∙ at
four_at xs a b c d p q r s (suc zero) x at = q ∙ at
four_at xs a b c d p q r s (suc (suc zero)) x at = r ∙ at
four_at xs a b c d p q r s (suc (suc (suc zero))) x at = s ∙ at
four_at xs a b c d p q r s (suc (suc (suc (suc i)))) x at = absurd (maybe.some-ne-none x (sym at))

-- what stands in a place of a list
pub read_at : (l : List ℕ) (i x : ℕ) → get_elem? l i ≡ maybe.some x → x ≡ slice_index l i
read_at [] i x e = absurd (maybe.some-ne-none x (sym e))
read_at (y ∷ ys) zero x e = sym (maybe.some-injective y x e)
read_at (y ∷ ys) (suc i) x e = read_at ys i x e

-- what a run tells of the append that failed
pub its_loss : (c : Setup) (archive : Bool) (actors : List model.Actor)
    → ((seat : ℕ) (a : model.Actor) → get_elem? actors seat ≡ maybe.some a → StaysInRun c a)
    → (lost : Option DevError) → TellsLoss archive actors lost
    → cond archive ((code : ℕ) → HasLost actors code → code ≡ append_code lost) (Unit {0})
its_loss c true actors in_run lost loss = λ code met.
    let r : ReaderState = met.archiver in
    let I : ReadsInRun c r = in_run met.seat (model.Reader r) met.at in
    let is = met.lost in
    let some_code = met.some_code in
    let losing = losing_at r r.step I.lost (omega arith) in
    sym is ∙ loss met.seat r met.at losing.archiver
its_loss c false actors in_run lost loss = tt

-- a slot that was taken is empty, and the others are as they were
still_full : (l : List Bool) (i k : ℕ) → k ≢ i → get_or l k false ≡ true → get_or (slice_set l i false) k false ≡ true
still_full l i k ne e = get_or-set_other l i k false false ne ∙ e

pub still_there : (a b : List Bool) (i k : ℕ) → b ≡ slice_set a i false → k ≢ i → get_or a k false ≡ true → get_or b k false ≡ true
still_there a b i k is ne e = ap (λ (z : List Bool). get_or z k false) is ∙ still_full a i k ne e

emptied : (l : List Bool) (i : ℕ) → get_or (slice_set l i false) i false ≡ false
emptied [] i = refl
emptied (x ∷ xs) zero = refl
emptied (x ∷ xs) (suc i) = emptied xs i

still_empty : (l : List Bool) (i k : ℕ) → get_or l k false ≡ false → get_or (slice_set l i false) k false ≡ false
still_empty [] i k e = e
still_empty (x ∷ xs) zero zero e = refl
still_empty (x ∷ xs) zero (suc k) e = e
still_empty (x ∷ xs) (suc i) zero e = e
still_empty (x ∷ xs) (suc i) (suc k) e = still_empty xs i k e

-- all six were taken
pub all_empty : (a b c d e f g : List Bool) → b ≡ slice_set a 0 false → c ≡ slice_set b 1 false → d ≡ slice_set c 2 false → e ≡ slice_set d 3 false → f ≡ slice_set e 4 false → g ≡ slice_set f 5 false
    → (k : ℕ) → k < 6 → get_or g k false ≡ false
all_empty a b c d e f g p q r s t u k l = ap (λ (z : List Bool). get_or z k false) u ∙ by k l
  where
    at_b : (i : ℕ) → get_or b 0 false ≡ false
    at_b i = ap (λ (z : List Bool). get_or z 0 false) p ∙ emptied a 0

    at_c : (i : ℕ) → get_or c i false ≡ false → get_or d i false ≡ false
    at_c i e' = ap (λ (z : List Bool). get_or z i false) r ∙ still_empty c 2 i e'

    at_d : (i : ℕ) → get_or d i false ≡ false → get_or e i false ≡ false
    at_d i e' = ap (λ (z : List Bool). get_or z i false) s ∙ still_empty d 3 i e'

    at_e : (i : ℕ) → get_or e i false ≡ false → get_or f i false ≡ false
    at_e i e' = ap (λ (z : List Bool). get_or z i false) t ∙ still_empty e 4 i e'

    first : get_or c 0 false ≡ false
    first = ap (λ (z : List Bool). get_or z 0 false) q ∙ still_empty b 1 0 (at_b 0)

    second : get_or c 1 false ≡ false
    second = ap (λ (z : List Bool). get_or z 1 false) q ∙ emptied b 1

    by : (k : ℕ) → k < 6 → get_or (slice_set f 5 false) k false ≡ false
    by zero l = still_empty f 5 0 (at_e 0 (at_d 0 (at_c 0 first)))
    by (suc zero) l = still_empty f 5 1 (at_e 1 (at_d 1 (at_c 1 second)))
    by (suc (suc zero)) l = still_empty f 5 2 (at_e 2 (at_d 2 (ap (λ (z : List Bool). get_or z 2 false) r ∙ emptied c 2)))
    by (suc (suc (suc zero))) l = still_empty f 5 3 (at_e 3 (ap (λ (z : List Bool). get_or z 3 false) s ∙ emptied d 3))
    by (suc (suc (suc (suc zero)))) l = still_empty f 5 4 (ap (λ (z : List Bool). get_or z 4 false) t ∙ emptied e 4)
    by (suc (suc (suc (suc (suc zero))))) l = emptied f 5
    by (suc (suc (suc (suc (suc (suc k)))))) l = absurd (omega arith)

pub nothing_left : {A : Type 0} (l : List A) → drop (length l) l ≡ []
nothing_left [] = refl
nothing_left (x ∷ xs) = nothing_left xs

module _ {L D : Type 0} (log_seen : L → Seen) (log_gives : L → Call → L → Type 0) (data_seen : D → Seen) (data_gives : D → Call → D → Type 0) (about : About L D) where
  module _ (heard : ℕ → Heard) (actors : List model.Actor) (ws : List ℕ) (xs : List (Slot L D)) (E : RunReaches
      log_seen log_gives data_seen data_gives about heard actors ws xs) where
    abbrev desk : Desk L
    desk = desk_with E.parts.log E.beside

    pub small : slice_index ws failed_at < 2 ^ 32
    small = subst (λ (z : List ℕ). slice_index z failed_at < 2 ^ 32) E.words_are (small_code log_seen data_seen E.run E.parts actors E.runs)

    marks_are : (a b c d : ℕ) → a ≡ tail_of (slice_index ws wtail_at) → b ≡ slice_index ws write_at → c ≡ slice_index ws flushed_at → d ≡ slice_index ws ckpt_at
        → ◌≡◌ {A = Marks} (record { wtail = a; write = b; flushed = c; ckpt = d }) (marks_in E.parts.words.words)
    marks_are a b c d p q r t =
        ap (λ (z : ℕ). record { wtail = z; write = b; flushed = c; ckpt = d }) p ∙ ap (λ (z : ℕ). record { wtail = tail_of (slice_index ws wtail_at); write = z; flushed = c; ckpt = d }) q
        ∙ ap (λ (z : ℕ). record { wtail = tail_of (slice_index ws wtail_at); write = slice_index ws write_at; flushed = z; ckpt = d }) r
        ∙ ap (λ (z : ℕ). record { wtail = tail_of (slice_index ws wtail_at); write = slice_index ws write_at; flushed = slice_index ws flushed_at; ckpt = z }) t
        ∙ ap marks_in (sym E.words_are)

    in_slot : (k : ℕ) (x y : Slot L D) → get_elem? xs k ≡ maybe.some x → get_elem? xs k ≡ maybe.some y → ◌≡◌ {A = Slot L D} x y
    in_slot k x y e f = maybe.some-injective x y (sym e ∙ f)

    -- what lies in each slot
    pub log_there : (x : Slot L D) → get_elem? xs 0 ≡ maybe.some x → IsLog x (λ p. Unit {0})
    log_there x e = (desk, in_slot 0 x (slot.Log desk) e E.log, tt)

    pub data_there : (x : Slot L D) → get_elem? xs 5 ≡ maybe.some x → IsData x (λ d. Unit {0})
    data_there x e = (E.parts.store, in_slot 5 x (slot.Data E.parts.store) e E.data_part, tt)

    pub work_left : (x : Slot L D) (found : Desk L) → get_elem? xs 0 ≡ maybe.some x → x ≡ slot.Log found
        → ◌≡◌ {A = Option LogWork} found.work (work_of E.beside.own)
    work_left x found at is =
        ap (λ (z : Desk L). z.work) (kept.same_desk found desk (sym is ∙ in_slot 0 x (slot.Log desk) at E.log))

    pub parts_left : (left : Left L D) (x y : Slot L D) (found : Desk L) → get_elem? xs 0 ≡ maybe.some x → x ≡ slot.Log found
        → left.log ≡ found.part → get_elem? xs 5 ≡ maybe.some y → y ≡ slot.Data left.store
        → left.marks.wtail ≡ tail_of (slice_index ws wtail_at) → left.marks.write ≡ slice_index ws write_at → left.marks.flushed ≡ slice_index ws flushed_at → left.marks.ckpt ≡ slice_index ws ckpt_at
        → left.code ≡ slice_index ws failed_at → LeavesParts log_seen log_gives data_seen data_gives about
        heard actors left
    parts_left left x y found at_log is log_is at_data store_is wtail write flushed ckpt code = record {
      run = E.run;
      is_about = E.is_about;
      last = E.parts;
      runs = E.runs;
      hears = E.hears;
      reads = E.reads;
      loaded = E.loaded;
      log_calls = E.log_calls;
      data_calls = E.data_calls;
      log_shape = E.log_shape;
      log = log_is ∙ kept.same_log found desk (sym is ∙ in_slot 0 x (slot.Log desk) at_log E.log);
      data_part = kept.same_data left.store E.parts.store (sym store_is ∙ in_slot 5 y (slot.Data E.parts.store) at_data E.data_part);
      marks = marks_are left.marks.wtail left.marks.write left.marks.flushed left.marks.ckpt wtail write flushed ckpt;
      code = code ∙ ap (λ (z : List ℕ). slice_index z failed_at) (sym E.words_are);
    }

  module _ (heard : ℕ → Heard) (actors : List model.Actor) (left : Left L D) (P : LeavesParts log_seen log_gives
      data_seen data_gives about heard actors left) where
    its_marks : ◌≡◌ {A = Marks} left.marks (word_marks P.runs.running.shared)
    its_marks = P.marks ∙ marks_same P.last.words.words P.runs.running.shared P.runs.running.flat_is

    -- there is room for the history
    pub has_room : about.live ≡ None → (room : ℕ) → length about.script.value ≤ room
        → length (all_listed left.marks actors) ≤ room
    has_room fixed room enough =
        let R = P.runs in
        let many = as_many log_seen data_seen P.run P.last actors R in
        let same : length (all_listed left.marks actors) ≡ length (all_listed (word_marks R.running.shared) actors) = ap (λ (z : Marks). length (all_listed z actors)) its_marks in
        let within = log_within_script P.run.setup about.script.value about.opened.value.shape R.running.shared.sn R.running.log_ghost.log R.running.log_ghost.place R.running.both.logged.global.tiled (fixed_run log_seen data_seen about P.run fixed P.is_about).of_script in
        omega arith

    pub its_history : (history : List Entry) → ListsInOrder left.marks actors history → ◌≡◌ {A = List Entry} history (history_of P.runs.running.log_ghost.answered (word_marks P.runs.running.shared) P.runs.running.log_ghost.log)
    its_history history l = history_is log_seen data_seen P.run P.last actors P.runs history (subst (λ (z : Marks). ListsInOrder z actors history) its_marks l)

  -- the same of the actors themselves
  module _ {R : Type 0} (heard : ℕ → Heard) (actors : List (Actor R)) (left : Left L D)
      (P : LeavesParts log_seen log_gives data_seen data_gives about heard (views_of actors) left) where
    pub groups : (seat : ℕ) (actor : Actor R) → seat < length actors → HasGroups (view_of (get_or actors seat actor))
    groups = have_groups log_seen data_seen P.run P.last actors P.runs

    -- in a run that isn't a live one each user can tell all its groups
    pub keep_all : about.live ≡ None → (seat : ℕ) (actor : Actor R) → seat < length actors
        → KeepsAll (view_of (get_or actors seat actor))
    keep_all fixed = have_kept log_seen data_seen P.run P.last actors P.runs
        (P.is_about.is_run.live_is ∙ ap (λ (o : Option Live). is_some o) fixed)

    -- The run is that of this script, a live one or not, and the closed store is what the table leaves, with the run's
    -- history.
    module _ (closed : Closed L D) (log_is : closed.log ≡ left.log) (store_is : closed.store ≡ left.store)
        (marks_is : ◌≡◌ {A = Marks} closed.marks left.marks) (code_is : closed.code ≡ left.code)
        (history_is : ◌≡◌ {A = List Entry} closed.history (history_of P.runs.running.log_ghost.answered
        (word_marks P.runs.running.shared) P.runs.running.log_ghost.log))
        (loss : TellsLoss about.plan.archive (views_of actors) closed.lost) (live : Bool) (script : List ScriptLine)
        (is_run : IsRunWith about.opened.value script live about.plan P.run)
        (begun : (reading : Reading) → HasReading reading about.opened.value
        → IfSome (log_seen about.opened.value.log.dev).tells (λ log_disk.
        IfSome (data_seen about.opened.value.store.dev).tells (λ data_disk.
        IsStart reading script log_disk data_disk → HaveBegun log_seen data_seen P.run))) where
      leaves_from : (stands : R → List Given → Type 0) (starts : List (Actor R)) → length actors ≡ length starts
          → ((n : ℕ) (a b : Actor R) → get_elem? starts n ≡ maybe.some a → get_elem? actors n ≡ maybe.some b →
          IsSameFollower (follower_of a) (follower_of b))
          → ((run_log_side log_seen data_seen P.run).Tells P.last.log → (n : ℕ) (a b : Actor R) → get_elem? starts n ≡
          maybe.some a → get_elem? actors n ≡ maybe.some b
          → HasGot stands (follower_of a) (groups_of (view_of b) P.runs.running.log_ghost.log) (follower_of b))
          → LeavesAs log_seen log_gives data_seen data_gives stands about.opened.value script live about.plan starts
          actors closed
      leaves_from stands starts count same got = record {
        run = P.run;
        is_run = is_run;
        begun = begun;
        last = P.last;
        from = record { runs = P.runs; count = count; same = same; got = got };
        log_calls = P.log_calls;
        data_calls = P.data_calls;
        log_shape = P.log_shape;
        log = log_is ∙ P.log;
        data_part = store_is ∙ P.data_part;
        marks = marks_is ∙ P.marks;
        code = code_is ∙ P.code;
        history = history_is;
        lost = its_loss P.run.setup about.plan.archive (views_of actors) P.runs.running.both.in_run closed.lost loss;
      }

      -- of actors that began with whatever they are, and of receivers of which nothing is told
      pub leaves_as : LeavesAs log_seen log_gives data_seen data_gives (λ (r : R) (l : List Given). Unit {0})
          about.opened.value script live about.plan actors actors closed
      leaves_as = leaves_from (λ r l. Unit {0}) actors refl
          (λ n a b e f. subst (λ (z : Actor R). IsSameFollower (follower_of a) (follower_of z)) (maybe.some-injective
          a b (sym e ∙ f)) (own_follower (follower_of a)))
          (λ told n a b e f. got_any (follower_of a) (groups_of (view_of b) P.runs.running.log_ghost.log) (follower_of
          b))
        where
          own_follower : (f : Option (Following R)) → IsSameFollower f f
          own_follower None = tt
          own_follower (Some f) = refl

          got_any : (f : Option (Following R)) (groups : List Given) (g : Option (Following R)) → HasGot (λ (r : R) (l
              : List Given). Unit {0}) f groups g
          got_any (Some f) groups (Some g) = λ l is. tt
          got_any (Some f) groups None = tt
          got_any None groups g = tt

      pub owes_as : IsRunnable about.opened.value → IsOwedRun log_seen log_gives data_seen data_gives
          about.opened.value script (views_of actors) closed
      owes_as runnable = record {
        holds = left_run.holds_run log_seen log_gives data_seen data_gives (λ (r : R) (l : List Given). Unit {0})
            about.opened.value script about.plan actors actors (done_with closed)
            leaves_as runnable;
        comes_to = λ ended. left_run.comes_to_run log_seen log_gives data_seen data_gives (λ (r : R) (l : List Given).
            Unit {0}) about.opened.value script about.plan actors actors (done_with
            closed) leaves_as runnable (λ e. ended) (λ turns user e. absurd (cc));
        owed_synced = λ ended. left_run.is_owed_synced log_seen log_gives data_seen data_gives (λ (r : R) (l : List
            Given). Unit {0}) about.opened.value script about.plan actors actors
            (done_with closed) leaves_as runnable (λ e. ended);
      }

    -- the script is the one that the table was told, and the history is listed
    module _ (closed : Closed L D) (log_is : closed.log ≡ left.log) (store_is : closed.store ≡ left.store)
        (marks_is : ◌≡◌ {A = Marks} closed.marks left.marks) (code_is : closed.code ≡ left.code)
        (listed : ListsInOrder left.marks (views_of actors) closed.history)
        (loss : TellsLoss about.plan.archive (views_of actors) closed.lost) (fixed : about.live ≡ None) where
      pub leaves_own : LeavesWith log_seen log_gives data_seen data_gives (λ (r : R) (l : List Given). Unit {0})
          about.opened.value about.script.value about.plan actors actors closed
      leaves_own = leaves_as closed log_is store_is marks_is code_is
          (its_history heard (views_of actors) left P closed.history listed) loss false about.script.value
          (fixed_run log_seen data_seen about P.run fixed P.is_about) P.is_about.begun

      pub is_owed : MayBegin about.opened.value about.script.value about.plan.log_only → IsOwedRun log_seen log_gives
          data_seen data_gives about.opened.value about.script.value (views_of actors) closed
      is_owed may = owes_as closed log_is store_is marks_is code_is
          (its_history heard (views_of actors) left P closed.history listed) loss false about.script.value
          (fixed_run log_seen data_seen about P.run fixed P.is_about) P.is_about.begun may.runnable
