-- Legal histories. A history lists the groups that the users of a script reserved, in lsn order. It is legal where
-- they follow one another in the log without a gap, each user's groups are those of its lines, in order and once, and
-- each state is what the marks say.
use Rattle.std.specs.Prelude.{ℕ, suc, ◌≡◌, ◌≢◌, ◌≤◌, ◌<◌, ◌+◌, ◌==◌, nat_le, List, [], ◌∷◌, length, filter, map, slice_get, Option, Some, None, if◌then◌else◌}
use Rattle.std.specs.List.{count_by}
use Rattle.model_log.specs.{group_length, IsTiled, lsn_of, sn_of, Span}
use Rattle.model_log.specs.declared.group.Whole.{Whole}
use Rattle.model_log.specs.declared.rec.Rec.{Rec}
use Rattle.model_script.specs.{group_of}
use Rattle.model_script.specs.declared.script.ScriptLine.{ScriptLine}
use Rattle.model_report.specs.declared.entry.Entry.{Entry}
use Rattle.model_report.specs.declared.entry.Marks.{Marks}
use Rattle.model_report.specs.declared.entry.State.{State}
use Rattle.model_report.specs.declared.entry.State.TheVariants.{Lost, Flushed, Written, Copied}

-- the state of an answered commit whose group ends there, by the marks at the end of the run
abbrev pub state_by : Marks → ℕ → State
state_by marks end = if nat_le end marks.flushed then Flushed else (if nat_le end marks.write then Written else Copied)

abbrev pub lines_of_user : ℕ → List ScriptLine → List ScriptLine
lines_of_user user script = filter (λ line. line.user == user) script

abbrev pub entries_of_user : ℕ → List Entry → List Entry
entries_of_user user entries = filter (λ entry. entry.user == user) entries

-- where an entry stands in the log, and each of some
abbrev pub entry_span : Entry → Span
entry_span entry = record { start = entry.start; end = entry.end }

abbrev pub entry_spans : List Entry → List Span
entry_spans entries = map entry_span entries

-- the entry stands for its user's k-th line: it ends as many bytes of groups after its start as the line's group has
pub record IsOfLine (script : List ScriptLine) (space : ℕ) (entry : Entry) (line : ScriptLine) : Type 0 where
  pub line_is : slice_get (lines_of_user entry.user script) entry.k ≡ Some line
  pub end_is : entry.end ≡ lsn_of (sn_of entry.start + group_length (group_of space line))

-- what the marks say of an entry's commit
abbrev pub FitsMarks : Marks → ℕ → State → Type 0
FitsMarks marks end Lost = Unit {0}
FitsMarks marks end Flushed = end ≤ marks.flushed
FitsMarks marks end Written = (marks.flushed < end) × (end ≤ marks.write)
FitsMarks marks end Copied = (marks.flushed < end) × (marks.write < end)

-- Which states a commit of the mode may end in: one that waits for the flush (1) is flushed or lost, one that waits
-- for the write (2) isn't only copied.
abbrev pub FitsMode : ℕ → State → Type 0
FitsMode mode Written = mode ≢ 1
FitsMode mode Copied = (mode ≢ 1) × (mode ≢ 2)
FitsMode mode state = Unit {0}

-- an entry of a legal history, for the line that it stands for
pub record IsLegalEntry (script : List ScriptLine) (space : ℕ) (marks : Marks) (entry : Entry) : Type 0 where
  pub line : ScriptLine
  pub of_line : IsOfLine script space entry line
  pub marks_say : FitsMarks marks entry.end entry.state
  pub mode_allows : FitsMode line.mode entry.state

-- A legal history of a script whose run starts at s and ends with these marks.
pub record IsLegal (script : List ScriptLine) (space s : ℕ) (marks : Marks) (entries : List Entry) : Type 0 where
  -- each entry starts where the one before ends, and the first at s
  pub tiled : IsTiled s (entry_spans entries)
  pub each : (i : ℕ) (entry : Entry) → slice_get entries i ≡ Some entry → IsLegalEntry script space marks entry
  -- a user's entries are of its lines 0, 1, 2, .. in order
  pub in_order : (user i : ℕ) (entry : Entry) → slice_get (entries_of_user user entries) i ≡ Some entry → entry.k ≡ i
  -- a user ends with a lost commit
  pub lost_last : (user i : ℕ) (entry : Entry) → slice_get (entries_of_user user entries) i ≡ Some entry
      → entry.state ≡ Lost → suc i ≡ length (entries_of_user user entries)

-- the group of an entry with its place; the entry stands for a line of the script
abbrev pub group_of_line : ℕ → Option ScriptLine → List Rec
group_of_line space None = []
group_of_line space (Some line) = group_of space line

abbrev pub whole_of : List ScriptLine → ℕ → Entry → Whole
whole_of script space entry = record {
  group = group_of_line space (slice_get (lines_of_user entry.user script) entry.k);
  start = entry.start;
  end = entry.end;
}

-- the groups of the entries, in lsn order
abbrev pub wholes_of : List ScriptLine → ℕ → List Entry → List Whole
wholes_of script space [] = []
wholes_of script space (entry ∷ entries) = whole_of script space entry ∷ wholes_of script space entries

-- how many of the entries end at or below the lsn
abbrev pub count_up_to : ℕ → List Entry → ℕ
count_up_to lsn entries = count_by (λ entry. nat_le entry.end lsn) entries

-- how many lines of the user have no entry
abbrev pub HasLeft : List ScriptLine → List Entry → ℕ → ℕ → Type 0
HasLeft script entries user count =
    length (lines_of_user user script) ≡ length (entries_of_user user entries) + count

-- What is left of a script: for each user in ascending order that has lines without an entry, how many.
pub record IsLeft (script : List ScriptLine) (entries : List Entry) (left : List (ℕ × ℕ)) : Type 0 where
  pub ascending : (i : ℕ) (first second : ℕ × ℕ) → slice_get left i ≡ Some first → slice_get left (suc i) ≡ Some second → first.0 < second.0
  pub some : (i : ℕ) (pair : ℕ × ℕ) → slice_get left i ≡ Some pair → 0 < pair.1
  pub counts : (i : ℕ) (pair : ℕ × ℕ) → slice_get left i ≡ Some pair → HasLeft script entries pair.0 pair.1
  pub no_other : (user count : ℕ) → 0 < count → HasLeft script entries user count → (i : ℕ) × (slice_get left i ≡ Some (user, count))
