-- The text of one redo record: a type byte, the space id and the page number, both compressed, and a body. The
-- types are those of InnoDB's mtr0log: MLOG_1BYTE, MLOG_2BYTES, MLOG_4BYTES, MLOG_8BYTES, MLOG_WRITE_STRING and
-- MLOG_INIT_FILE_PAGE2.
-- The text of a group, which is what one mini-transaction logs, and of a stream of them; and runs of groups, one after the
-- other without a gap. A boundary of a run is its start or the end of one of its pieces.
use Rattle.std.specs.Prelude.{ℕ, ◌≡◌, ◌≤◌, ◌<◌, ◌+◌, ◌^◌, ◌==◌, ◌⊎◌, if◌then◌else◌, List, [], ◌∷◌, ◌++◌, length, All, ◌≢◌, map}
use Rattle.std.specs.Int.{bytes_high_first}
use Rattle.model_base.specs.{spelling32, spelling64}
use Rattle.model_log.specs.declared.rec.Rec.{Rec}
use Rattle.model_log.specs.declared.rec.Rec.TheVariants.{Num, Text, Init}
use Rattle.std.specs.List.{flat_map, AllByRecursion}
use Rattle.model_base.specs.declared.limits.TheConstants.{MAX_GROUP}
use Rattle.model_log.specs.declared.group.Whole.{Whole}
use Rattle.model_log.specs.Block.{lsn_of, sn_of}

-- a number's type is its width
abbrev pub type_of : Rec → ℕ
type_of (Num width space page offset value) = width
type_of (Text space page offset bytes) = 30
type_of (Init space page) = 59

abbrev pub space_of : Rec → ℕ
space_of (Num width space page offset value) = space
space_of (Text space page offset bytes) = space
space_of (Init space page) = space

abbrev pub page_of : Rec → ℕ
page_of (Num width space page offset value) = page
page_of (Text space page offset bytes) = page
page_of (Init space page) = page

-- a value of 8 bytes is spelled as a number of 64 bits, a lesser one as a number of 32
abbrev pub value_text : ℕ → ℕ → List ℕ
value_text width value = if width == 8 then spelling64 value else spelling32 value

-- what follows the page number
abbrev pub body_of : Rec → List ℕ
body_of (Num width space page offset value) = bytes_high_first 2 offset ++ value_text width value
body_of (Text space page offset bytes) = bytes_high_first 2 offset ++ bytes_high_first 2 (length bytes) ++ bytes
body_of (Init space page) = []

-- what follows the type byte
abbrev pub after_type : Rec → List ℕ
after_type rec = spelling32 (space_of rec) ++ spelling32 (page_of rec) ++ body_of rec

-- the text of a record among several
unfoldable pub record_text : Rec → List ℕ
record_text rec = type_of rec ∷ after_type rec

-- the text of a record that is a group alone: MLOG_SINGLE_REC_FLAG is added to its type
unfoldable pub single_text : Rec → List ℕ
single_text rec = (0x80 + type_of rec) ∷ after_type rec

abbrev pub IsWidth : ℕ → Type 0
IsWidth width = (width ≡ 1) ⊎ (width ≡ 2) ⊎ (width ≡ 4) ⊎ (width ≡ 8)

-- a value that can be spelled in a record of this width; whether it fits the bytes that are written is another
-- matter (see Fits)
abbrev pub HasSpelling : ℕ → ℕ → Type 0
HasSpelling width value = value < (if width == 8 then 2 ^ 64 else 2 ^ 32)

abbrev pub IsByte : ℕ → Type 0
IsByte byte = byte < 256

-- A record has a text: its width is known, and each of its numbers has room in the format. A string has a byte.
abbrev pub HasText : Rec → Type 0
HasText (Num width space page offset value) =
    IsWidth width × (space < 2 ^ 32) × (page < 2 ^ 32) × (offset < 2 ^ 16) × HasSpelling width value
HasText (Text space page offset bytes) =
    (space < 2 ^ 32) × (page < 2 ^ 32) × (offset < 2 ^ 16) × (1 ≤ length bytes) × (length bytes < 2 ^ 16) × All IsByte bytes
HasText (Init space page) = (space < 2 ^ 32) × (page < 2 ^ 32)

-- what ends a group of several records: MLOG_MULTI_REC_END
abbrev pub end_mark : ℕ
end_mark = 31

-- One record with the flag in its type, or several without it and then the end mark. There is no empty group.
unfoldable pub group_text : List Rec → List ℕ
group_text [] = []
group_text (rec ∷ []) = single_text rec
group_text (rec ∷ second ∷ others) = flat_map record_text (rec ∷ second ∷ others) ++ end_mark ∷ []

-- the records are a group whose text is defined
pub record IsGroup (group : List Rec) : Type 0 where
  pub some : group ≢ []
  pub each : AllByRecursion HasText group

-- the bytes are the text of the group, which is one; nothing bounds its length
pub record IsGroupText (bytes : List ℕ) (group : List Rec) : Type 0 where
  pub is_group : IsGroup group
  pub spelled : bytes ≡ group_text group

-- less than a whole group text: something can follow with which the bytes are one
abbrev pub IsUnfinished : List ℕ → Type 0
IsUnfinished bytes = (rest : List ℕ) × (group : List Rec) × (rest ≢ []) × IsGroupText (bytes ++ rest) group

-- the number of bytes of a group's text
abbrev pub group_length : List Rec → ℕ
group_length group = length (group_text group)

-- the texts of some groups, joined
unfoldable pub stream_of : List (List Rec) → List ℕ
stream_of groups = flat_map group_text groups

-- the groups of a list of groups with places
abbrev pub groups_of : List Whole → List (List Rec)
groups_of [] = []
groups_of (whole ∷ wholes) = whole.group ∷ groups_of wholes

-- fewer than 8,192 bytes, which are less than a whole group text of any length
abbrev pub IsFront : List ℕ → Type 0
IsFront bytes = (length bytes < MAX_GROUP) × IsUnfinished bytes

-- the lsns between which a piece stands
pub record Span : Type 0 where
  pub start : ℕ
  pub end : ℕ

-- each starts where the one before ends, and the first at s
abbrev pub IsTiled : ℕ → List Span → Type 0
IsTiled s [] = Unit {0}
IsTiled s (span ∷ spans) = (span.start ≡ s) × IsTiled span.end spans

-- where the last ends, or s where there is none
abbrev pub last_span_end : ℕ → List Span → ℕ
last_span_end s [] = s
last_span_end s (span ∷ spans) = last_span_end span.end spans

-- s, or the end of one of them
abbrev pub IsBoundary : ℕ → List Span → ℕ → Type 0
IsBoundary s [] m = m ≡ s
IsBoundary s (span ∷ spans) m = (m ≡ s) ⊎ IsBoundary span.end spans m

-- where a group stands, and each of some
abbrev pub span_of : Whole → Span
span_of whole = record { start = whole.start; end = whole.end }

abbrev pub spans_of : List Whole → List Span
spans_of wholes = map span_of wholes

-- the group ends as many bytes of the stream after its start as its text has
abbrev pub HasItsLength : Whole → Type 0
HasItsLength whole = whole.end ≡ lsn_of (sn_of whole.start + group_length whole.group)

-- a run of groups from s on
pub record IsRunOf (s : ℕ) (wholes : List Whole) : Type 0 where
  pub tiled : IsTiled s (spans_of wholes)
  pub lengths : AllByRecursion HasItsLength wholes
