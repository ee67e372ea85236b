-- A commit that was answered is in the history that its store leaves, and in what is read after it.
use Rattle.std.proofs.Common.{Bool, List, Option, Some, [], ap, append-nil, arith, cond, eq-eqb, length, length-append, map, refl, slice_get, slice_index, subst, suc, sym, take, zero, ℕ, ◌%◌, ◌+◌, ◌-◌, ◌<◌, ◌==◌, ◌∙◌, ◌∷◌, ◌≡◌, ◌≢◌, ◌≤◌}
use Rattle.std.proofs.Math.ListN.{get_or-append}
use Rattle.std.proofs.Math.Seq.{get_or-append_seam}
use Rattle.std.proofs.lemmas.Option.{same_Some}
use lib.ListN.{get_elem?}
use mathlib.Core.Option.{some}
use Rattle.model_base.specs.declared.limits.TheConstants.{BLOCK_SIZE}
use Rattle.model_base.specs.declared.shape.Shape.{Shape}
use Rattle.model_core.specs.{Line, line_at, line_of, lsn, UserState}
use Rattle.model_core.specs.States as model
use Rattle.model_log.proofs.Several.{one_group}
use Rattle.model_log.specs.{block_of, group_text, IsAtDataStart, start_after}
use Rattle.model_log.specs.declared.layout.TheConstants.{BLOCK_HEADER}
use Rattle.model_log.specs.declared.rec.Rec.{Rec}
use Rattle.model_report.proofs.Filters.{filter-place}
use Rattle.model_report.proofs.Groups.{all-at, get-whole}
use Rattle.model_report.specs.{FitsMarks, FitsMode, group_of_line, IsLegalEntry, lines_of_user, whole_of, wholes_of}
use Rattle.model_report.specs.declared.entry.Entry.{Entry}
use Rattle.model_report.specs.declared.entry.State.{State}
use Rattle.model_report.specs.declared.entry.State.TheVariants.{Copied, Flushed, Lost, Written}
use Rattle.model_script.specs.{group_of, LineFits, record_of}
use Rattle.model_script.specs.declared.item.Item.{Item}
use Rattle.model_script.specs.declared.item.Item.TheVariants.{Init, Num, Text}
use Rattle.model_script.specs.declared.script.ScriptLine.{ScriptLine}
use Rattle.model_store.specs.{Reading}
use Rattle.model_theorem.specs.{Opened, Ran}
use Rattle.model_theorem.specs.Run.{first_count, IsPrefixRead}
use Rattle.redo_disk.specs.{Call, Seen}
use Rattle.redo_drive.proofs.UserEntries.{listed_at}
use Rattle.redo_drive.specs.Drive.{closed_run}
use Rattle.redo_drive.specs.Reserved.{listed_group}
use Rattle.redo_live.specs.Closing.{LeavesStore}
use Rattle.redo_live.specs.Committing.{HasCommitted, program_line}
use Rattle.redo_live.specs.Holding.{IsOpen, line_by, shape_of, state_of}
use Rattle.redo_live.specs.Kept.{IsKeptCommit, IsReadCommit}
use Rattle.redo_live.specs.Later.{HasGoneOn}
use Rattle.redo_live.specs.Reading.{HasReadPage}
use Rattle.redo_live.specs.Telling.{last_end}
use Rattle.redo_live.specs.declared.store.Store.{Store}
use Rattle.redo_live.specs.declared.user.User.{User}
use Rattle.redo_ownrule.specs.LiveLeaving.{closed_with, IsKept}
use Rattle.redo_ownrule.specs.Sharing.{opened_of}
use Rattle.redo_rule.specs.Mine.{number_of}
use Rattle.redo_rule.specs.declared.closing.Left.{Left}
use Rattle.redo_useractor.specs.{program_lines}

abbrev no_line : Line
no_line = record { mode = 0; bytes = []; changes = [] }

-- what a user had it has later
module _ {L D : Type 0} (old new : User L D) (on : HasGoneOn old new) where
  abbrev before : UserState
  before = state_of old

  abbrev after : UserState
  after = state_of new

  line_stays : (k : ℕ) → k < length before.lines → ◌≡◌ {A = Line} (line_at after.lines k) (line_at before.lines k)
  line_stays k below = ap (λ (l : List Line). line_at l k) on.lines.1
      ∙ get_or-append before.lines on.lines.0 no_line k below

  start_stays : (k : ℕ) → k < length before.starts → slice_index after.starts k ≡ slice_index before.starts k
  start_stays k below = ap (λ (l : List ℕ). slice_index l k) on.starts.1
      ∙ get_or-append before.starts on.starts.0 0 k below

  more_starts : length before.starts ≤ length after.starts
  more_starts =
      let a = ap (λ (l : List ℕ). length l) on.starts.1 in
      let b = length-append before.starts on.starts.0 in omega arith

  -- its last group ends where it ends later
  last_ends : (k : ℕ) → length before.starts ≡ k + 1 → length before.lines ≡ k + 1
      → last_end before ≡ lsn (slice_index after.starts k + length (line_at after.lines k).bytes)
  last_ends k starts lines =
      let e : length before.starts - 1 ≡ k = omega arith in
      let low : k < length before.starts = omega arith in
      let below : k < length before.lines = omega arith in
      ap (λ (n : ℕ). lsn (slice_index before.starts n + length (line_at before.lines n).bytes)) e
      ∙ ap (λ (s : ℕ). lsn (s + length (line_at before.lines k).bytes)) (sym (start_stays k low))
      ∙ ap (λ (l : Line). lsn (slice_index after.starts k + length l.bytes)) (sym (line_stays k below))

-- a commit that its user was answered ends at or below the lsn as of which that reads a page later
pub own_commit_below : {L D : Type 0} (store : Store L D) (old new reader last : User L D) (mode end number as_of : ℕ)
    (items : List Item) (bytes : List ℕ) → HasCommitted store old mode items new end → HasGoneOn new reader
    → HasReadPage store reader number as_of bytes last → end ≤ as_of
own_commit_below {L} {D} store old new reader last mode end number as_of items bytes committed on read =
    let k : ℕ = length (state_of old).lines in
    let line : Line = program_line store (line_by old mode items) in
    let a = ap (λ (l : List Line). length l) committed.lines in
    let b = length-append (state_of old).lines (line ∷ []) in
    let lines : length (state_of new).lines ≡ k + 1 = omega arith in
    let starts : length (state_of new).starts ≡ k + 1 = committed.reserved ∙ lines in
    let more = more_starts new reader on in
    let e = committed.end_is ∙ last_ends new reader on k starts lines in
    let low = read.own k (omega arith) in
    omega arith

-- a commit that waits for the flush is flushed if it isn't lost
is_flushed : (s : State) → FitsMode 1 s → s ≢ Lost → s ≡ Flushed
is_flushed Lost fits kept = absurd (kept refl)
is_flushed Flushed fits kept = refl
is_flushed Written fits kept = absurd (fits refl)
is_flushed Copied fits kept = absurd (fits.0 refl)

-- a commit that waits for the write isn't only copied
is_written : (s : State) → FitsMode 2 s → s ≢ Copied
is_written Lost fits = λ copied. cc
is_written Flushed fits = λ copied. cc
is_written Written fits = λ copied. cc
is_written Copied fits = λ copied. fits.1 refl

-- a line of the script is run by its user so
run_so : (log_only : Bool) (shape : Shape) (script : List ScriptLine) (k : ℕ) (one : ScriptLine)
    → slice_get script k ≡ Some one
    → ◌≡◌ {A = Line} (line_at (program_lines log_only shape
    (map (λ (line : ScriptLine). (line.mode, group_of shape.space line)) script)) k)
    (line_of log_only shape one.mode (group_of shape.space one))
run_so log_only shape [] k one at = absurd (cc)
run_so log_only shape (x ∷ xs) zero one at =
    ap (λ (l : ScriptLine). line_of log_only shape l.mode (group_of shape.space l)) (same_Some x one at)
run_so log_only shape (x ∷ xs) (suc k) one at = run_so log_only shape xs k one at

-- a record is that of one operation
same_item : (space : ℕ) (x y : Item) → record_of space x ≡ record_of space y → x ≡ y
same_item space (Num w p o v) (Num w' p' o' v') same = cc
same_item space (Num w p o v) (Text p' o' bytes') same = absurd (cc)
same_item space (Num w p o v) (Init p') same = absurd (cc)
same_item space (Text p o bytes) (Num w' p' o' v') same = absurd (cc)
same_item space (Text p o bytes) (Text p' o' bytes') same = cc
same_item space (Text p o bytes) (Init p') same = absurd (cc)
same_item space (Init p) (Num w' p' o' v') same = absurd (cc)
same_item space (Init p) (Text p' o' bytes') same = absurd (cc)
same_item space (Init p) (Init p') same = cc

-- and a group that of one line's operations
same_items : (space : ℕ) (xs ys : List Item)
    → ◌≡◌ {A = List Rec} (map (record_of space) xs) (map (record_of space) ys) → ◌≡◌ {A = List Item} xs ys
same_items space [] [] same = refl
same_items space [] (y ∷ ys) same = absurd (cc)
same_items space (x ∷ xs) [] same = absurd (cc)
same_items space (x ∷ xs) (y ∷ ys) same =
    let first : record_of space x ≡ record_of space y = cc in
    let others : ◌≡◌ {A = List Rec} (map (record_of space) xs) (map (record_of space) ys) = cc in
    ap (λ (z : Item). z ∷ xs) (same_item space x y first)
    ∙ ap (λ (zs : List Item). y ∷ zs) (same_items space xs ys others)

-- what stands among the first ones
among_first : {X : Type 0} (xs : List X) (n i : ℕ) → i < n → slice_get (take n xs) i ≡ slice_get xs i
among_first xs zero i below = absurd (omega arith)
among_first [] (suc n) i below = refl
among_first (x ∷ xs) (suc n) zero below = refl
among_first (x ∷ xs) (suc n) (suc i) below = among_first xs n i (omega arith)

-- a run that starts at the first data byte of a block starts after the log that ends there
starts_there : (s : ℕ) → IsAtDataStart s → s ≡ start_after s
starts_there s place =
    sym (ap (λ (t : Bool). cond t s (block_of s + BLOCK_SIZE + BLOCK_HEADER))
    (eq-eqb (s % BLOCK_SIZE) BLOCK_HEADER place))

module _ {L D : Type 0} (log_seen : L → Seen) (log_gives : L → Call → L → Type 0) (data_seen : D → Seen)
    (data_gives : D → Call → D → Type 0) (store : Store L D) (users : List (User L D)) (left : Left L D)
    (old new last : User L D) (i mode end : ℕ) (items : List Item) (is_open : IsOpen store)
    (committed : HasCommitted store old mode items new end) (on : HasGoneOn new last)
    (at : get_elem? users i ≡ some last)
    (leaves : LeavesStore log_seen log_gives data_seen data_gives store users left) where
  abbrev u : UserState
  u = state_of last

  -- the line's number
  abbrev k : ℕ
  k = length (state_of old).lines

  abbrev line : Line
  line = program_line store (line_by old mode items)

  abbrev history : List Entry
  history = leaves.leaves.history

  abbrev script : List ScriptLine
  script = leaves.leaves.script

  lines_count : length (state_of new).lines ≡ k + 1
  lines_count =
      let a = ap (λ (l : List Line). length l) committed.lines in
      let b = length-append (state_of old).lines (line ∷ []) in omega arith

  starts_count : length (state_of new).starts ≡ k + 1
  starts_count = committed.reserved ∙ lines_count

  reserved : k < length u.starts
  reserved = let a = starts_count in let b = more_starts new last on in omega arith

  answered : k < u.k
  answered = let a = committed.answered in let b = lines_count in let c = on.answered in omega arith

  -- its number
  abbrev seat : ℕ
  seat = number_of last.seat.me.0

  here : get_elem? leaves.actors seat ≡ some (model.User u)
  here = leaves.of_users i last at

  kept : IsKept history u k
  kept = leaves.leaves.is_kept seat u here k reserved answered

  abbrev group : Entry
  group = listed_group left.marks u k (slice_index u.starts k)

  entry_is : ◌≡◌ {A = Entry} kept.entry group
  entry_is = same_Some kept.entry group
      (sym kept.is ∙ ap (λ (l : List Entry). slice_get l k) (leaves.leaves.of_groups seat u here)
      ∙ listed_at left.marks u 0 u.starts k reserved
      ∙ ap (λ (n : ℕ). Some (listed_group left.marks u n (slice_index u.starts k)))
      (let e : 0 + k ≡ k = omega arith in e))

  end_is : kept.entry.end ≡ end
  end_is = ap (λ (e : Entry). e.end) entry_is
      ∙ sym (committed.end_is ∙ last_ends new last on k starts_count lines_count)

  line_same : ◌≡◌ {A = Line} (line_at u.lines k) line
  line_same =
      let below : k < length (state_of new).lines = (let n = lines_count in omega arith) in
      line_stays new last on k below
      ∙ ap (λ (l : List Line). line_at l k) committed.lines
      ∙ get_or-append_seam (state_of old).lines line [] no_line

  place : (j : ℕ) × (slice_get history j ≡ Some kept.entry)
  place = filter-place (λ (e : Entry). e.user == u.user) history k kept.entry kept.is

  legal : IsLegalEntry script (shape_of store).space left.marks kept.entry
  legal = (leaves.leaves.is_run (opened_of store.shared).start
      (starts_there (opened_of store.shared).start is_open.seated.ready.runnable.place)).legal.each place.0 kept.entry
      place.1

  line_is : slice_get (lines_of_user u.user script) k ≡ Some legal.line
  line_is = sym (ap (λ (e : Entry). slice_get (lines_of_user e.user script) e.k) entry_is) ∙ legal.of_line.line_is

  -- the line of the script is run as the one that was committed
  runs_same : ◌≡◌ {A = Line}
      (line_of store.log_only (shape_of store) legal.line.mode (group_of (shape_of store).space legal.line)) line
  runs_same =
      sym (run_so store.log_only (shape_of store) (lines_of_user u.user script) k legal.line line_is)
      ∙ ap (λ (ls : List Line). line_at ls k) (sym (leaves.leaves.of_user seat u here)) ∙ line_same

  script_mode : legal.line.mode ≡ mode
  script_mode = ap (λ (l : Line). l.mode) runs_same

  line_fits : LineFits (shape_of store) legal.line
  line_fits =
      let found = filter-place (λ (l : ScriptLine). l.user == u.user) script k legal.line line_is in
      all-at (LineFits (shape_of store)) script found.0 legal.line leaves.leaves.fits found.1

  -- so its operations are those that were committed
  items_same : ◌≡◌ {A = List Item} legal.line.items items
  items_same =
      let g : List Rec = group_of (shape_of store).space legal.line in
      let h : List Rec = group_of (shape_of store).space (line_by old mode items) in
      let texts : ◌≡◌ {A = List ℕ} (group_text g) (group_text h) = ap (λ (l : Line). l.bytes) runs_same in
      same_items (shape_of store).space legal.line.items items
      (one_group g h [] [] line_fits.has_text committed.fits.has_text
      (append-nil (group_text g) ∙ texts ∙ sym (append-nil (group_text h)))).0

  group_in : (space : ℕ) → ◌≡◌ {A = List Rec} (whole_of script space kept.entry).group (map (record_of space) items)
  group_in space =
      ap (λ (o : Option ScriptLine). group_of_line space o) legal.of_line.line_is
      ∙ ap (λ (l : List Item). map (record_of space) l) items_same

  flushed_then : mode ≡ 1 → kept.entry.state ≡ Flushed
  flushed_then one = is_flushed kept.entry.state
      (subst (λ (m : ℕ). FitsMode m kept.entry.state) (script_mode ∙ one) legal.mode_allows) kept.kept

  pub commit_is_kept : IsKeptCommit script (shape_of store).space history u.user k mode items end
  commit_is_kept = record {
    entry = kept.entry;
    is = kept.is;
    group_is = group_in (shape_of store).space;
    end_is = end_is;
    kept = kept.kept;
    flushed = flushed_then;
    written = λ two. is_written kept.entry.state
        (subst (λ (m : ℕ). FitsMode m kept.entry.state) (script_mode ∙ two) legal.mode_allows);
  }

  abbrev run : Ran
  run = closed_run (opened_of store.shared).start (closed_with left history)

  -- where a prefix of the history is read, it is among the first groups, if it waits for the flush
  pub is_read : mode ≡ 1 → (opened : Opened) (reading : Reading) → IsPrefixRead script opened (Some run) reading
      → IsReadCommit script opened.shape.space run reading items end
  is_read one opened reading read =
      let flushed = flushed_then one in
      let first = read.reaching_flushed place.0 kept.entry place.1 flushed in
      let low : kept.entry.end ≤ left.marks.flushed =
      subst (λ (s : State). FitsMarks left.marks kept.entry.end s) flushed legal.marks_say in
      let reached : left.marks.flushed ≤ reading.end = read.marks.flushed in
      let e = end_is in
      record {
        place = place.0;
        whole = whole_of script opened.shape.space kept.entry;
        is = among_first (wholes_of script opened.shape.space history) (first_count (Some run) reading.end) place.0
            first ∙ get-whole script opened.shape.space history place.0 kept.entry place.1;
        group_is = group_in opened.shape.space;
        end_is = end_is;
        reached = omega arith;
      }
