-- What of a script doesn't fit a store: the first quantity in the order of its lines, and within a line its user, then
-- of each operation the page and the offset, then the length of the group, which is the one that the line logs on the store; after
-- the lines the lsn at which the log would end, and the room for what would be archived.
use Rattle.std.specs.Prelude.{ℕ, List, map, ◌+◌, ◌-◌, ◌*◌, ◌||◌, nat_lt, nat_le, if◌then◌else◌, Bool, [], ◌∷◌, ◌++◌, length, Option, Some, None}
use Rattle.model_log.specs.declared.rec.Rec.{Rec}
use Rattle.model_log.specs.declared.rec.Rec.TheVariants as rec
use Rattle.model_script.specs.declared.item.Item.{Item}
use Rattle.model_script.specs.declared.item.Item.TheVariants.{Num, Text, Init}
use Rattle.model_script.specs.declared.script.ScriptLine.{ScriptLine}
use Rattle.model_base.specs.declared.shape.Shape.{Shape}
use Rattle.model_base.specs.declared.limits.TheConstants.{BLOCK_SIZE, LSN_LIMIT, MAX_GROUP, USER_START}
use Rattle.model_log.specs.{block_of, group_length, lsn_of, round_of, run_layout, sn_of, stream_of, user_end}
use Rattle.model_script.specs.declared.misfit.Misfit.{Misfit}
use Rattle.model_script.specs.declared.misfit.Quantity.{Quantity}
use Rattle.model_script.specs.declared.misfit.Quantity.TheVariants.{User, Page, Offset, Group, Lsn, Total, Archive}
use Rattle.model_script.specs.declared.misfit.TheConstants.{MARGIN, MAX_USERS}

-- the record of an operation, with the store's space id
abbrev pub record_of : ℕ → Item → Rec
record_of space (Num width page offset value) = rec.Num width space page offset value
record_of space (Text page offset bytes) = rec.Text space page offset bytes
record_of space (Init page) = rec.Init space page

-- one record for each operation, in order
abbrev pub group_of : ℕ → ScriptLine → List Rec
group_of space line = map (record_of space) line.items

-- the quantity with its number, where that lies outside its limits
abbrev pub misfit_if : Bool → Quantity → ℕ → Option Misfit
misfit_if outside what n = if outside then Some (record { quantity = what; number = n }) else None

-- the first that doesn't fit, of those that are judged one after another
abbrev pub first_misfit_of : List (Option Misfit) → Option Misfit
first_misfit_of [] = None
first_misfit_of (None ∷ others) = first_misfit_of others
first_misfit_of (Some misfit ∷ others) = Some misfit

-- users are numbered from 1
abbrev pub user_misfit : ℕ → Option Misfit
user_misfit user = misfit_if (nat_lt user 1 || nat_lt MAX_USERS user) User user

-- pages are numbered from 0
abbrev pub page_misfit : Shape → ℕ → Option Misfit
page_misfit shape page = misfit_if (nat_le shape.pages page) Page page

-- a write of so many bytes lies within the user bytes of a page
abbrev pub write_misfit : Shape → ℕ → ℕ → Option Misfit
write_misfit shape offset count =
    misfit_if (nat_lt offset USER_START || nat_lt (user_end shape) (offset + count)) Offset offset

-- the page and then the offset of an operation; one that sets a page's user bytes to 0 has no offset
abbrev pub item_misfit : Shape → Item → Option Misfit
item_misfit shape (Num width page offset value) =
    first_misfit_of (page_misfit shape page ∷ write_misfit shape offset width ∷ [])
item_misfit shape (Text page offset bytes) =
    first_misfit_of (page_misfit shape page ∷ write_misfit shape offset (length bytes) ∷ [])
item_misfit shape (Init page) = page_misfit shape page

-- a group's text has at most 8,192 bytes
abbrev pub group_misfit : Shape → ScriptLine → Option Misfit
group_misfit shape line =
    misfit_if (nat_lt MAX_GROUP (group_length (group_of shape.space line))) Group (group_length (group_of shape.space line))

-- the user, then the operations in their order, then the group
unfoldable pub line_misfit : Shape → ScriptLine → Option Misfit
line_misfit shape line =
    first_misfit_of (user_misfit line.user ∷ map (item_misfit shape) line.items ++ group_misfit shape line ∷ [])

-- the lsn at which the groups of a script would end that starts there
abbrev pub script_end : Shape → ℕ → List ScriptLine → ℕ
script_end shape start script = lsn_of (sn_of start + length (stream_of (map (group_of shape.space) script)))

-- no lsn of a store is above its limit
abbrev pub lsn_misfit : ℕ → Option Misfit
lsn_misfit end = misfit_if (nat_le LSN_LIMIT end) Lsn end

-- one round of the ring from the checkpoint on
abbrev pub round_end : Shape → ℕ → ℕ
round_end shape ckpt = ckpt + round_of (run_layout shape)

-- A log that no checkpoint frees has room up to here. Where checkpoints free it there is no such place, and this isn't
-- judged.
abbrev pub total_misfit : Option ℕ → ℕ → Option Misfit
total_misfit None end = None
total_misfit (Some room_end) end = misfit_if (nat_lt room_end (end + MARGIN)) Total end

-- how many bytes the archive of such a run takes: those of its head and its two marks, of the pages, and of the blocks
-- from that of its start up to that of its end
abbrev pub archive_need : Shape → (start end : ℕ) → ℕ
archive_need shape start end =
    3 * BLOCK_SIZE + shape.pages * shape.page_size + (block_of end + BLOCK_SIZE - block_of start)

-- A device of so many bytes has room for the archive. Where nothing is archived this isn't judged.
abbrev pub archive_misfit : Option ℕ → ℕ → Option Misfit
archive_misfit None need = None
archive_misfit (Some size) need = misfit_if (nat_lt size need) Archive need

-- The first quantity of a script that doesn't fit a store of this shape, on which the script would start at this lsn.
unfoldable pub first_misfit : Shape → (start : ℕ) → (room_end archive : Option ℕ) → List ScriptLine → Option Misfit
first_misfit shape start room_end archive script =
    let end = script_end shape start script in
    first_misfit_of (map (line_misfit shape) script ++ lsn_misfit end ∷ total_misfit room_end end
    ∷ archive_misfit archive (archive_need shape start end) ∷ [])
