-- What is printed: the lines of pages; of a store that was read, by `dump` its shape, the newest checkpoint, each scanned block,
-- where it is asked why no further one was read, each group with its records, and where the log ends; the lines of the other
-- commands; and the report of a run. One item a line, single spaces between its words, numbers in decimal without leading zeros.
use Rattle.std.specs.Prelude.{ℕ, List, [], ◌∷◌, ◌++◌, ◌+◌, ◌==◌, nat_lt, if◌then◌else◌, codes, length, Option, None, Some}
use Rattle.model_script.specs.{spaced, item_text}
use Rattle.std.specs.Fmt.{decimal}
use Rattle.hex.specs.Hex.{encode_lower}
use Rattle.model_page.specs.declared.content.Content.{Content}
use Rattle.std.specs.Int.{bytes_high_first}
use Rattle.std.specs.List.{flat_map}
use Rattle.model_base.specs.declared.shape.Shape.{Shape}
use Rattle.model_base.specs.declared.limits.TheConstants.{BLOCK_SIZE, START_LSN}
use Rattle.model_base.specs.{crc_of}
use Rattle.model_log.specs.declared.group.Whole.{Whole}
use Rattle.model_log.specs.declared.rec.Rec.{Rec}
use Rattle.model_log.specs.declared.rec.Rec.TheVariants as rec
use Rattle.model_log.specs.{block_number}
use Rattle.model_log.specs.declared.block.BlockView.{BlockView}
use Rattle.model_log.specs.declared.cause.Cause.{Cause}
use Rattle.model_log.specs.declared.cause.Cause.TheVariants.{Partial, Round, End, Misfit}
use Rattle.model_log.specs.declared.fit.Fit.{Fit}
use Rattle.model_log.specs.declared.fit.Fit.TheVariants as fit
use Rattle.model_store.specs.{Reading}
use Rattle.model_script.specs.declared.item.Item.{Item}
use Rattle.model_script.specs.declared.item.Item.TheVariants.{Num, Text, Init}
use Rattle.model_report.specs.Legal.{count_up_to}
use Rattle.model_report.specs.declared.entry.Entry.{Entry}
use Rattle.model_report.specs.declared.entry.Followed.{Followed}
use Rattle.model_report.specs.declared.entry.Marks.{Marks}
use Rattle.model_report.specs.declared.entry.State.{State}
use Rattle.model_report.specs.declared.entry.State.TheVariants.{Lost, Flushed, Written, Copied}

-- words with single spaces between them, and a line feed
abbrev pub line_text : List (List ℕ) → List ℕ
line_text words = spaced words ++ 10 ∷ []

-- the bytes without the zeros at their end
abbrev pub onto_trimmed : ℕ → List ℕ → List ℕ
onto_trimmed byte [] = if byte == 0 then [] else byte ∷ []
onto_trimmed byte (second ∷ bytes) = byte ∷ second ∷ bytes

abbrev pub trimmed : List ℕ → List ℕ
trimmed [] = []
trimmed (byte ∷ bytes) = onto_trimmed byte (trimmed bytes)

-- bytes as lower-case hex digits, or a dash if there are none
abbrev pub hex_word : List ℕ → List ℕ
hex_word [] = codes "-"
hex_word (byte ∷ bytes) = encode_lower (byte ∷ bytes)

-- a page that a group has changed: its number, its lsn and its user bytes without the zeros at their end
unfoldable pub page_line : ℕ → Content → List ℕ
page_line p page = line_text (codes "p" ∷ decimal p ∷ decimal page.lsn ∷ hex_word (trimmed page.user) ∷ [])

-- the lines of pages, of which the first has the number p; a page of lsn 0 has none
abbrev pub page_lines_from : ℕ → List Content → List ℕ
page_lines_from p [] = []
page_lines_from p (page ∷ pages) =
    (if nat_lt 0 page.lsn then page_line p page else []) ++ page_lines_from (p + 1) pages

unfoldable pub page_lines : List Content → List ℕ
page_lines pages = page_lines_from 0 pages

abbrev pub store_line : Shape → List ℕ
store_line shape =
    line_text (codes "store" ∷ decimal shape.page_size ∷ decimal shape.pages ∷ decimal shape.space ∷ decimal shape.log_blocks ∷ decimal shape.slots ∷ [])

abbrev pub checkpoint_line : ℕ → ℕ → List ℕ
checkpoint_line number lsn = line_text (codes "checkpoint" ∷ decimal number ∷ decimal lsn ∷ [])

-- a block with the lsn at which it begins
abbrev pub block_line : ℕ → BlockView → List ℕ
block_line lsn view =
    line_text (codes "block" ∷ decimal lsn ∷ decimal (block_number lsn) ∷ decimal view.length ∷ decimal view.first ∷ decimal view.ckpt ∷ [])

-- blocks that stand one after another, the first at this lsn
abbrev pub block_lines : ℕ → List BlockView → List ℕ
block_lines lsn [] = []
block_lines lsn (view ∷ views) = block_line lsn view ++ block_lines (lsn + BLOCK_SIZE) views

-- what of a block that wasn't read doesn't fit; of one that fits in all no line is printed
abbrev pub fit_word : Fit → List ℕ
fit_word fit.Number = codes "number"
fit_word fit.Length = codes "length"
fit_word fit.First = codes "first"
fit_word fit.Checksum = codes "checksum"
fit_word fit.Whole = codes "whole"

-- why no further block was read: the last one isn't full, they are as many as the ring has, the next one's lsn is the limit or
-- above, or what stands in its place doesn't fit
abbrev pub cause_word : Cause → List ℕ
cause_word Partial = codes "partial"
cause_word Round = codes "round"
cause_word End = codes "end"
cause_word (Misfit misfit) = fit_word misfit

-- the lsn at which no further block was read, and why
abbrev pub stop_line : ℕ × Cause → List ℕ
stop_line (lsn, cause) = line_text (codes "stop" ∷ decimal lsn ∷ cause_word cause ∷ [])

-- this line, where it is asked for
abbrev pub stop_lines : Option (ℕ × Cause) → List ℕ
stop_lines None = []
stop_lines (Some stop) = stop_line stop

-- the operation of a script that logs the record
abbrev pub item_of_record : Rec → Item
item_of_record (rec.Num width space page offset value) = Num width page offset value
item_of_record (rec.Text space page offset bytes) = Text page offset bytes
item_of_record (rec.Init space page) = Init page

abbrev pub record_line : Rec → List ℕ
record_line logged = line_text (codes "rec" ∷ item_text (item_of_record logged) ∷ [])

-- a group, and under it its records
abbrev pub whole_lines : Whole → List ℕ
whole_lines whole =
    line_text (codes "group" ∷ decimal whole.start ∷ decimal whole.end ∷ decimal (length whole.group) ∷ [])
    ++ flat_map record_line whole.group

abbrev pub end_line : ℕ → List ℕ
end_line lsn = line_text (codes "end" ∷ decimal lsn ∷ [])

-- The listing of a store: its shape, the number and the lsn of the newest checkpoint, the blocks from there on, where it is
-- asked why they end, the groups, and the log's end.
unfoldable pub listing_text : (shape : Shape) (number ckpt : ℕ) → List BlockView → Option (ℕ × Cause) → List Whole → (end : ℕ) → List ℕ
listing_text shape number ckpt views stop wholes end =
    store_line shape ++ checkpoint_line number ckpt ++ block_lines ckpt views ++ stop_lines stop ++ flat_map whole_lines wholes ++ end_line end

-- how many groups were scanned, and where the log ends
abbrev pub read_line : ℕ → ℕ → List ℕ
read_line count end = line_text (codes "read" ∷ decimal count ∷ decimal end ∷ [])

-- The text of `dump`, with the stop of the blocks where that is asked for.
abbrev pub dump_text : Option (ℕ × Cause) → Reading → List ℕ
dump_text stop reading =
    listing_text reading.shape reading.number reading.ckpt reading.views stop reading.wholes reading.end

-- The text of `recover`: the scanned groups, the log's end, and the pages.
abbrev pub recover_text : Reading → List ℕ
recover_text reading = read_line (length reading.wholes) reading.end ++ page_lines reading.pages

-- The text of `restore`: how many groups are applied, where the last of them ends, and the pages.
abbrev pub restored_text : (n end : ℕ) → List Content → List ℕ
restored_text n end pages = line_text (codes "restored" ∷ decimal n ∷ decimal end ∷ []) ++ page_lines pages

-- The text of `format`: the lsn at which the log starts.
unfoldable pub format_text : List ℕ
format_text = line_text (codes "formatted" ∷ decimal START_LSN ∷ [])

-- The text of `gen --run`: how many groups were reserved, the flushed mark and the checkpoint at the end of the run,
-- and the CRC-32C of the lines of the pages as they are read afterwards.
unfoldable pub summary_text : (groups flushed ckpt : ℕ) → List Content → List ℕ
summary_text groups flushed ckpt pages =
    line_text (codes "summary" ∷ decimal groups ∷ decimal flushed ∷ decimal ckpt
    ∷ encode_lower (bytes_high_first 4 (crc_of (page_lines pages))) ∷ [])

-- where the run starts, or that opening was stopped
abbrev pub open_line : Option ℕ → List ℕ
open_line None = line_text (codes "open" ∷ codes "none" ∷ [])
open_line (Some start) = line_text (codes "open" ∷ decimal start ∷ [])

abbrev pub state_word : State → List ℕ
state_word Lost = codes "lost"
state_word Flushed = codes "flushed"
state_word Written = codes "written"
state_word Copied = codes "copied"

-- a reserved group
abbrev pub group_line : Entry → List ℕ
group_line entry =
    line_text (codes "g" ∷ decimal entry.start ∷ decimal entry.end ∷ decimal entry.user ∷ decimal entry.k ∷ state_word entry.state ∷ [])

-- how many of a user's lines have no group
abbrev pub left_line : ℕ × ℕ → List ℕ
left_line left = line_text (codes "left" ∷ decimal left.0 ∷ decimal left.1 ∷ [])

-- the marks at the end of the run; there are none where opening was stopped
abbrev pub marks_line : Option Marks → List ℕ
marks_line None = []
marks_line (Some marks) =
    line_text (codes "marks" ∷ decimal marks.wtail ∷ decimal marks.write ∷ decimal marks.flushed ∷ decimal marks.ckpt ∷ [])

-- what a follower came to, its checksum in hex digits
abbrev pub follow_line : Followed → List ℕ
follow_line followed =
    line_text (codes "follow" ∷ decimal followed.number ∷ decimal followed.count ∷ decimal followed.lsn
    ∷ encode_lower (bytes_high_first 4 followed.crc) ∷ [])

-- where the recovered log ends, and how many of the groups end at or below that
abbrev pub recovered_line : List Entry → ℕ → List ℕ
recovered_line entries end = line_text (codes "recovered" ∷ decimal (count_up_to end entries) ∷ decimal end ∷ [])

-- what was read after a crash: the log's end and the pages; a run that isn't crashed reads nothing
abbrev pub read_lines : List Entry → Option (ℕ × List Content) → List ℕ
read_lines entries None = []
read_lines entries (Some read) = recovered_line entries read.0 ++ page_lines read.1

-- The report: where the run starts, each group in lsn order, what is left of each user in ascending order, the marks,
-- what each follower came to, and what was read after the crash.
unfoldable pub report_text : Option ℕ → List Entry → List (ℕ × ℕ) → Option Marks → List Followed
    → Option (ℕ × List Content) → List ℕ
report_text start entries left marks follows read =
    open_line start ++ flat_map group_line entries ++ flat_map left_line left ++ marks_line marks
    ++ flat_map follow_line follows ++ read_lines entries read
