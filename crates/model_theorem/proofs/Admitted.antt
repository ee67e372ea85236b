-- What the parts of the promise admit together.
use Rattle.std.proofs.Common.{◌≡◌, ℕ, zero, suc, ◌+◌, ◌==◌, Bool, true, false, cond, length, slice_get, ◌≤◌, ◌<◌, List, [], ◌∷◌, Some, None, Ok, sym, ap, ◌∙◌, refl, subst, arith, inl, inr, ⊎_elim, ◌≢◌, ◌⊎◌}
use Rattle.std.specs.Prelude.{take}
use Rattle.model_base.specs.declared.shape.Shape.{Shape}
use Rattle.model_store.specs.{folded, Reading}
use Rattle.std.proofs.lemmas.Bool.{eqb-true}
use Rattle.model_base.specs.Lines as lines
use Rattle.model_device.specs.{Crashes, IsCovered, IsImage, sector, settled, Disk}
use Rattle.model_device.specs.declared.write.Write.{Write}
use Rattle.model_report.specs.{count_up_to, entries_of_user, HasLeft, IsLeft, IsLegal, IsLegalEntry, lines_of_user, wholes_of}
use Rattle.model_report.specs.declared.entry.Entry.{Entry}
use Rattle.model_report.specs.declared.entry.State.TheVariants.{Lost, Flushed}
use Rattle.model_log.specs.{group_length, head_among, head_of, layout_of, lsn_of, newer, newest_checkpoint, read_checkpoint, sn_of, start_after, run_format, run_layout, header_block}
use Rattle.model_log.specs.declared.head.Format.{Format}
use Rattle.model_log.specs.declared.head.Format.TheVariants.{One, Two, Three}
use Rattle.model_log.specs.declared.layout.Layout.{Layout}
use Rattle.model_script.specs.declared.script.ScriptLine.{ScriptLine}
use Rattle.model_base.specs.Spelling as spelling
use Rattle.model_log.specs.Group as group
use Rattle.model_script.specs.{group_of, LineFits, script_end, script_of}
use Rattle.model_script.specs.Grammar as grammar
use Rattle.model_script.proofs.Unfit.{fitting-none}
use Rattle.model_base.specs.{default_shape, run_shape}
use Rattle.model_store.proofs.Heads.{head-sizes}
use Rattle.model_base.specs.declared.limits.TheConstants.{LSN_LIMIT, START_LSN}
use Rattle.model_theorem.specs.Run.{Opened, HasCheckpoint, IsOpenedBefore, Ran}
use Rattle.model_parts.specs.{IsUnopened}
use Rattle.model_theorem.proofs.Refused.{base-image}
use Rattle.model_theorem.specs.Examples.{AreOfBlocks, IsAdmitted, MovedCheckpoint, new_store, ReadsAsOpened, lost_run, line_of_value, two_lines, text_of_two, text_of_one, empty_crash, lost_crash, stopped_crash}
use Rattle.model_log.specs.declared.layout.TheConstants.{HEADER_BLOCKS, HEADER_BYTES}
use Rattle.model_log.proofs.Formats.{format-of_run}
use Rattle.model_theorem.proofs.Sizes.{run-alike, run-slots}

-- WHAT STANDS IN THE HEADER while only log blocks are written
unwritten : (writes : List Write) (k : ℕ) → k < HEADER_BLOCKS → AreOfBlocks writes → IsCovered writes k → ⊥
unwritten [] k low are is = is
unwritten (write ∷ writes) k low are is =
    ⊎_elim (λ here. absurd (omega (arith, here.from, are.0))) (λ there. unwritten writes k low are.1 there) is

same-sector : (disk : Disk) (image : List ℕ) (k : ℕ) → k < HEADER_BLOCKS → HEADER_BYTES ≤ length disk.base → AreOfBlocks disk.writes → IsImage disk image → sector k image ≡ sector k disk.base
same-sector disk image k low long are is =
    ⊎_elim (λ same. same) (λ covered. absurd (unwritten disk.writes k low are covered)) (is.each k (omega arith))

same-head : (disk : Disk) (image : List ℕ) → HEADER_BYTES ≤ length disk.base → AreOfBlocks disk.writes → IsImage disk image → head_of image ≡ head_of disk.base
same-head disk image long are is =
    let first = same-sector disk image 0 (omega arith) long are is in
    let second = same-sector disk image 2 (omega arith) long are is in
    (λ i. head_among (first i) (second i))

same-newest : (layout : Layout) (disk : Disk) (image : List ℕ) → HEADER_BYTES ≤ length disk.base → AreOfBlocks disk.writes → IsImage disk image
    → newest_checkpoint layout image ≡ newest_checkpoint layout disk.base
same-newest layout disk image long are is =
    let even = same-sector disk image 1 (omega arith) long are is in
    let odd = same-sector disk image 3 (omega arith) long are is in
    (λ i. newer (read_checkpoint 1 layout (even i)) (read_checkpoint 3 layout (odd i)))

-- what is read of a log device
found-checkpoint : (log data_bytes : List ℕ) (opened : Opened) (reading : Reading) → ReadsAsOpened log data_bytes opened reading
    → HasCheckpoint reading.format opened.shape reading.number reading.ckpt log
found-checkpoint log data_bytes opened reading as_opened =
    subst (λ (shape : Shape). HasCheckpoint reading.format shape reading.number reading.ckpt log) as_opened.shape
    (record { head = as_opened.is_read.scan.devices.head.head; newest = as_opened.is_read.scan.checkpoint })

-- and in formats 2 and 3 that is of the format of runs
run-checkpoint : (format : Format) (shape : Shape) (number ckpt : ℕ) (log : List ℕ) → format ≢ One → HasCheckpoint format shape number ckpt log
    → HasCheckpoint (run_format shape) shape number ckpt log
run-checkpoint format shape number ckpt log other is =
    subst (λ (one : Format). HasCheckpoint one shape number ckpt log)
    (format-of_run format shape (head-sizes (header_block 0 log) (header_block 2 log) format shape is.head) other) is

-- so the checkpoint that is read is newer than the one that was found, in each image
opening-done : {run : Ran} (found log data_bytes : List ℕ) (writes : List Write) (reads : List ℕ) (opened : Opened) (reading : Reading) → ReadsAsOpened log data_bytes opened reading
    → MovedCheckpoint found opened reading → AreOfBlocks writes → IsOpenedBefore opened.shape (settled found) (record { base = log; writes = writes; reads = reads }) (Some run)
opening-done found log data_bytes writes reads opened reading as_opened held are =
    let disk : Disk = record { base = log; writes = writes; reads = reads } in
    let long : HEADER_BYTES ≤ length log = as_opened.is_read.scan.devices.head.long in
    let here : HasCheckpoint (run_format opened.shape) opened.shape reading.number reading.ckpt log =
    run-checkpoint reading.format opened.shape reading.number reading.ckpt log held.format (found-checkpoint log data_bytes opened reading as_opened) in
    record {
      was = held.older.was;
      number = held.older.found;
      ckpt = held.older.ckpt;
      found = held.older.newest;
      ends = λ image fair. record {
        number = reading.number;
        ckpt = reading.ckpt;
        newest = record {
          head = same-head disk image long are fair.possible ∙ here.head;
          newest = same-newest (layout_of (run_format opened.shape) opened.shape) disk image long are fair.possible ∙ here.newest;
        };
        from = omega (arith, held.older.older);
      };
    }

-- a checkpoint that was found is still the newest, or of an earlier format
still-found : (format : Format) (shape : Shape) (number ckpt : ℕ) (log : List ℕ)
    → newest_checkpoint (layout_of format shape) log ≡ Some (number, ckpt)
    → (format ≢ Three) ⊎ (newest_checkpoint (run_layout shape) log ≡ Some (number, ckpt))
still-found One shape number ckpt log is = inl (λ three. absurd (cc))
still-found Two shape number ckpt log is = inl (λ three. absurd (cc))
still-found Three shape number ckpt log is = inr is

-- and where opening was stopped it is the one that was found
opening-stopped : (log data_bytes : List ℕ) (opened : Opened) (reading : Reading) (disk : Disk)
    → ReadsAsOpened log data_bytes opened reading → run_shape opened.shape ≡ opened.shape → disk.base ≡ log
    → IsOpenedBefore opened.shape (settled log) disk None
opening-stopped log data_bytes opened reading disk as_opened runs base =
    let here : HasCheckpoint reading.format opened.shape reading.number reading.ckpt log = found-checkpoint log data_bytes opened reading as_opened in
    record {
      was = opened.shape;
      number = reading.number;
      ckpt = reading.ckpt;
      found = record { runs_by = runs; format = reading.format; newest = here };
      ends = subst (IsUnopened opened.shape reading.number reading.ckpt) (sym base) (record {
        format = reading.format;
        head = here.head;
        still = still-found reading.format opened.shape reading.number reading.ckpt log here.newest;
      });
    }

empty-text : script_of [] ≡ Ok []
unfolding script_of lines.lines_of
empty-text = refl

-- the texts of the examples are their scripts
two-text : script_of text_of_two ≡ Ok two_lines
unfolding script_of lines.lines_of grammar.script_line_of grammar.item_of grammar.number_below
two-text = refl

one-text : script_of text_of_one ≡ Ok (line_of_value 7 ∷ [])
unfolding script_of lines.lines_of grammar.script_line_of grammar.item_of grammar.number_below
one-text = refl

-- the lines fit a new store
seven-short : group_length (group_of 1 (line_of_value 7)) ≡ 6
unfolding group.group_text group.single_text spelling.spelling32
seven-short = refl

eight-short : group_length (group_of 1 (line_of_value 8)) ≡ 6
unfolding group.group_text group.single_text spelling.spelling32
eight-short = refl

-- and both end far below the limit
two-long : length (group.stream_of (group_of 1 (line_of_value 7) ∷ group_of 1 (line_of_value 8) ∷ [])) ≡ 12
unfolding group.stream_of group.group_text group.single_text spelling.spelling32
two-long = refl

two-end : script_end default_shape 8204 two_lines < LSN_LIMIT
two-end = subst (λ n. lsn_of (sn_of 8204 + n) < LSN_LIMIT) (sym two-long) (omega arith)

line-fits : (value : ℕ) → value < 256 → group_length (group_of 1 (line_of_value value)) ≡ 6 → LineFits default_shape (line_of_value value)
line-fits value small short = record {
  user_from = omega arith;
  user_to = omega arith;
  has_text = record { some = λ none. absurd (cc); each = ((inl refl, omega arith, omega arith, omega arith, omega arith), tt) };
  short = omega (arith, short);
  fits = ((record { own_space = refl; below = omega arith }, small, record { after_header = omega arith; before_trailer = omega arith }), tt);
}

-- a list of one pair has no other
pair-only : (first pair : ℕ × ℕ) (i : ℕ) → slice_get (first ∷ []) i ≡ Some pair → first ≡ pair
pair-only first pair zero at = cc
pair-only first pair (suc i) at = absurd (cc)

none-second : (first pair : ℕ × ℕ) (i : ℕ) → slice_get (first ∷ []) (suc i) ≡ Some pair → ⊥
none-second first pair i at = cc

-- the pair is the one of what is left
abbrev IsFirst : ℕ × ℕ → Type 0
IsFirst pair = let left : List (ℕ × ℕ) = (1, 1) ∷ [] in slice_get left 0 ≡ Some pair

-- A user with lines left is user 1, who has one.
is-one : (script : List ScriptLine) (entries : List Entry) (user count : ℕ) (b : Bool) → (1 == user) ≡ b → HasLeft script entries 1 1
    → ((user : ℕ) → (1 == user) ≡ false → length (lines_of_user user script) ≡ 0) → 0 < count → HasLeft script entries user count
    → IsFirst (user, count)
is-one script entries user count true own one others more has =
    let same : 1 ≡ user = eqb-true 1 user own in
    let left : HasLeft script entries 1 count = subst (λ n. HasLeft script entries n count) (sym same) has in
    let count_is : 1 ≡ count = omega (arith, one, left) in
    cc
is-one script entries user count false other one others more has = absurd (omega (arith, others user other, has))

-- what is left is one line of user 1
left-one : (script : List ScriptLine) (entries : List Entry) → HasLeft script entries 1 1
    → ((user : ℕ) → (1 == user) ≡ false → length (lines_of_user user script) ≡ 0) → IsLeft script entries ((1, 1) ∷ [])
left-one script entries one others = record {
  ascending = λ i first second is next. absurd (none-second (1, 1) second i next);
  some = λ i pair is. subst (λ (pair : ℕ × ℕ). 0 < pair.1) (pair-only (1, 1) pair i is) (omega arith);
  counts = λ i pair is. subst (λ (pair : ℕ × ℕ). HasLeft script entries pair.0 pair.1) (pair-only (1, 1) pair i is) one;
  no_other = λ user count more has. (0, (is-one script entries user count (1 == user) refl one others more has));
}

-- no other user has a line
others-of-two : (user : ℕ) → (1 == user) ≡ false → length (lines_of_user user two_lines) ≡ 0
others-of-two user other =
    ap (λ b. length (cond b (line_of_value 7 ∷ cond b (line_of_value 8 ∷ []) []) (cond b (line_of_value 8 ∷ []) []))) other

others-of-one : (user : ℕ) → (1 == user) ≡ false → length (lines_of_user user (line_of_value 7 ∷ [])) ≡ 0
others-of-one user other = ap (λ b. length (cond b (line_of_value 7 ∷ []) [])) other

left-none : IsLeft [] [] []
left-none = record {
  ascending = λ i first second is next. cc;
  some = λ i pair is. cc;
  counts = λ i pair is. cc;
  no_other = λ user count more has. absurd (omega arith);
}

-- what was synced is kept
kept-settled : (bytes : List ℕ) → Crashes (settled bytes) (settled bytes)
kept-settled bytes = record { image = bytes; possible = base-image (settled bytes); left = refl }

pub admits-empty : (found log data_bytes : List ℕ) (opened : Opened) (reading : Reading) → ReadsAsOpened log data_bytes opened reading → MovedCheckpoint found opened reading
    → IsAdmitted (empty_crash found log data_bytes opened reading)
admits-empty found log data_bytes opened reading reads held = record {
  is_script = empty-text;
  fits = fitting-none opened.shape (start_after opened.end) None None [] (record { lines = tt; end = reads.room; room = tt }) tt;
  left_is = left-none;
  in_lsn_order = record {
    start = refl;
    legal = record { tiled = tt; each = λ i entry is. cc; in_order = λ user i entry is. cc; lost_last = λ user i entry is lost. cc };
    wtail = refl;
    write = refl;
    flushed = refl;
    write_within = omega arith;
  };
  opened_first = opening-done found log data_bytes [] log opened reading reads held tt;
  kept = (kept-settled log, kept-settled data_bytes);
  read_from_devices = reads.is_read;
  old_copies = reads.old_copies;
  first_groups_whole = record {
    shape = ap run_shape reads.shape
        ∙ run-alike opened.shape (run-slots held.older.was opened.shape held.older.newest.runs_by);
    shape_of_run = reads.shape;
    first_groups_whole = reads.pages;
    reaching_flushed = λ i entry is flushed. cc;
    marks = record { flushed = omega (arith, reads.end); checkpoint = omega arith };
  };
  lost_only_by_failure = record { lost = λ i entry is lost. cc; left = λ some. absurd (some refl); stopped = λ none. cc };
}

-- the one entry of a user
entry-only : (first entry : Entry) (i : ℕ) → slice_get (first ∷ []) i ≡ Some entry → (i ≡ 0) × (first ≡ entry)
entry-only first entry zero at = (refl, cc)
entry-only first entry (suc i) at = absurd (cc)

-- the user's entries among one entry are that one, or none
own-only : (first entry : Entry) (user i : ℕ) (b : Bool) → (first.user == user) ≡ b → slice_get (entries_of_user user (first ∷ [])) i ≡ Some entry
    → (i ≡ 0) × (first ≡ entry) × (entries_of_user user (first ∷ []) ≡ first ∷ [])
own-only first entry user i true own at =
    let only : entries_of_user user (first ∷ []) ≡ first ∷ [] = ap (λ b. cond b (first ∷ []) []) own in
    let one = entry-only first entry i (ap (λ (es : List Entry). slice_get es i) (sym only) ∙ at) in
    (one.0, one.1, only)
own-only first entry user i false other at =
    let none : entries_of_user user (first ∷ []) ≡ [] = ap (λ b. cond b (first ∷ []) []) other in
    let found : slice_get [] i ≡ Some entry = ap (λ (es : List Entry). slice_get es i) (sym none) ∙ at in
    absurd (cc)

abbrev first-entry : Entry
first-entry = record { user = 1; k = 0; start = 8204; end = 8210; state = Lost }

-- the entry is one of a legal history
first-legal : IsLegalEntry two_lines 1 lost_run.marks first-entry
first-legal = record {
  line = line_of_value 7;
  of_line = record { line_is = refl; end_is = ap (λ n. lsn_of (sn_of 8204 + n)) (sym seven-short) };
  marks_say = tt;
  mode_allows = tt;
}

legal-lost : IsLegal two_lines 1 8204 lost_run.marks lost_run.entries
legal-lost = record {
  tiled = (refl, tt);
  each = λ i entry at. subst (IsLegalEntry two_lines 1 lost_run.marks) (entry-only first-entry entry i at).1 first-legal;
  in_order = λ user i entry at.
      let own = own-only first-entry entry user i (1 == user) refl at in
      ap (λ (entry : Entry). entry.k) (sym own.1) ∙ sym own.0;
  lost_last = λ user i entry at lost.
      let own = own-only first-entry entry user i (1 == user) refl at in
      ap suc own.0 ∙ ap length (sym own.2);
}

-- the one entry ends above the end that is read
none-first : (end : ℕ) → end ≡ 8204 → count_up_to end lost_run.entries ≡ 0
none-first end is = ap (λ end. count_up_to end lost_run.entries) is

pub admits-lost : (found log : List ℕ) (writes : List Write) (reads data_bytes : List ℕ) (reading : Reading) → ReadsAsOpened log data_bytes new_store reading
    → MovedCheckpoint found new_store reading → AreOfBlocks writes → START_LSN ≤ reading.ckpt → IsAdmitted (lost_crash found log writes reads data_bytes reading)
admits-lost found log writes reads data_bytes reading as_opened held are ckpt = record {
  is_script = two-text;
  fits = fitting-none default_shape 8204 None None two_lines (record {
    lines = (line-fits 7 (omega arith) seven-short, (line-fits 8 (omega arith) eight-short, tt));
    end = two-end;
    room = tt;
  }) tt;
  left_is = left-one two_lines lost_run.entries refl others-of-two;
  in_lsn_order = record {
    start = refl;
    legal = legal-lost;
    wtail = inr refl;
    write = inr refl;
    flushed = inl refl;
    write_within = omega arith;
  };
  opened_first = opening-done found log data_bytes writes reads new_store reading as_opened held are;
  kept = (
    record { image = log; possible = record { same_length = refl; each = λ k below. inl refl }; left = refl },
    kept-settled data_bytes,
  );
  read_from_devices = as_opened.is_read;
  old_copies = as_opened.old_copies;
  first_groups_whole = record {
    shape = ap run_shape as_opened.shape;
    shape_of_run = as_opened.shape;
    first_groups_whole = as_opened.pages ∙ sym (ap (λ n. folded new_store.pages (take n (wholes_of two_lines 1 lost_run.entries))) (none-first reading.end as_opened.end));
    reaching_flushed = λ i entry at flushed.
        let same = entry-only first-entry entry i at in
        absurd (let states : Lost ≡ Flushed = ap (λ (entry : Entry). entry.state) same.1 ∙ flushed in cc);
    marks = record { flushed = omega (arith, as_opened.end); checkpoint = omega arith };
  };
  lost_only_by_failure = record { lost = λ i entry at lost. omega arith; left = λ some. omega arith; stopped = λ none. omega arith };
}

pub admits-stopped : (log data_bytes : List ℕ) (reading : Reading) → ReadsAsOpened log data_bytes new_store reading
    → IsAdmitted (stopped_crash log data_bytes reading)
admits-stopped log data_bytes reading as_opened = record {
  is_script = one-text;
  fits = tt;
  left_is = left-one (line_of_value 7 ∷ []) [] refl others-of-one;
  in_lsn_order = tt;
  opened_first = opening-stopped log data_bytes new_store reading (settled log) as_opened refl refl;
  kept = (kept-settled log, kept-settled data_bytes);
  read_from_devices = as_opened.is_read;
  old_copies = as_opened.old_copies;
  first_groups_whole = record {
    shape = ap run_shape as_opened.shape;
    shape_of_run = tt;
    first_groups_whole = as_opened.pages;
    reaching_flushed = λ i entry at flushed. absurd (cc);
    marks = tt;
  };
  lost_only_by_failure = record { lost = λ i entry at lost. absurd (cc); left = λ some. omega arith; stopped = λ none. omega arith };
}
