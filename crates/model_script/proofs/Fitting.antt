-- Lines of which nothing is a misfit fit the store.
use Rattle.std.proofs.Common.{ℕ, ◌≡◌, ◌≢◌, ◌≤◌, ◌<◌, ◌+◌, ◌^◌, ◌||◌, Bool, true, false, nat_lt, nat_le, List, [], ◌∷◌, ◌++◌, length, map, Option, Some, None, IfSome, ◌⊎◌, inl, inr, refl, arith}
use Rattle.std.specs.List.{AllByRecursion}
use Rattle.std.proofs.lemmas.Bool.Decides.{nat_tests}
use Rattle.model_base.proofs.ShapeLimits.{whole_sectors}
use Rattle.model_base.specs.{IsWithinLimits}
use Rattle.model_base.specs.declared.shape.Shape.{Shape}
use Rattle.model_base.specs.declared.limits.TheConstants.{LSN_LIMIT, MAX_GROUP, USER_START}
use Rattle.model_log.specs.{group_length, HasSpelling, HasText, RecordFits, user_end}
use Rattle.model_script.specs.Fits.{ArchiveFits, LineFits, ScriptFits, IsInRange, IsScriptLine}
use Rattle.model_script.specs.Fit.{archive_misfit, archive_need, first_misfit, first_misfit_of, group_misfit, item_misfit, line_misfit, lsn_misfit, misfit_if, page_misfit, script_end, total_misfit, user_misfit, write_misfit, group_of, record_of}
use Rattle.model_script.specs.declared.item.Item.{Item}
use Rattle.model_script.specs.declared.item.Item.TheVariants.{Num, Text, Init}
use Rattle.model_script.specs.declared.misfit.Misfit.{Misfit}
use Rattle.model_script.specs.declared.misfit.Quantity.{Quantity}
use Rattle.model_script.specs.declared.misfit.TheConstants.{MARGIN, MAX_USERS}
use Rattle.model_script.specs.declared.script.ScriptLine.{ScriptLine}

pub none-head : (first : Option Misfit) (others : List (Option Misfit)) → first_misfit_of (first ∷ others) ≡ None → (first ≡ None) × (first_misfit_of others ≡ None)
none-head None others none = (refl, none)
none-head (Some misfit) others none = cc

pub none-misfit_if : (outside : Bool) (what : Quantity) (n : ℕ) → misfit_if outside what n ≡ None → outside ≡ false
none-misfit_if true what n none = cc
none-misfit_if false what n none = refl

or-false : (a b : Bool) → (a || b) ≡ false → (a ≡ false) × (b ≡ false)
or-false true b e = absurd (cc)
or-false false b e = (refl, e)

not_below : (a b : ℕ) → nat_lt a b ≡ false → b ≤ a
not_below a b e = grind (arith, nat_tests)

pub not_up_to : (a b : ℕ) → nat_le a b ≡ false → b < a
not_up_to a b e = grind (arith, nat_tests)

user_is : (user : ℕ) → user_misfit user ≡ None → (1 ≤ user) × (user ≤ MAX_USERS)
user_is user none =
    let tests = or-false (nat_lt user 1) (nat_lt MAX_USERS user) (none-misfit_if _ _ _ none) in
    (not_below user 1 tests.0, not_below MAX_USERS user tests.1)

page_is : (shape : Shape) (page : ℕ) → page_misfit shape page ≡ None → page < shape.pages
page_is shape page none = not_up_to shape.pages page (none-misfit_if _ _ _ none)

write_is : (shape : Shape) (offset count : ℕ) → write_misfit shape offset count ≡ None → (USER_START ≤ offset) × (offset + count ≤ user_end shape)
write_is shape offset count none =
    let tests = or-false (nat_lt offset USER_START) (nat_lt (user_end shape) (offset + count)) (none-misfit_if _ _ _ none) in
    (not_below offset USER_START tests.0, not_below (user_end shape) (offset + count) tests.1)

-- the record of an operation that is no misfit
record RecordIs (shape : Shape) (item : Item) : Type 0 where
  text : HasText (record_of shape.space item)
  fits : RecordFits shape (record_of shape.space item)

spelled : (width value : ℕ) → (width ≡ 1) ⊎ (width ≡ 2) ⊎ (width ≡ 4) ⊎ (width ≡ 8) → value < 256 ^ width → HasSpelling width value
spelled width value (inl one) small = rw one (let below : value < 256 ^ 1 = rw one at small in omega (arith, below))
spelled width value (inr (inl two)) small = rw two (let below : value < 256 ^ 2 = rw two at small in omega (arith, below))
spelled width value (inr (inr (inl four))) small = rw four (let below : value < 256 ^ 4 = rw four at small in omega (arith, below))
spelled width value (inr (inr (inr eight))) small = rw eight (let below : value < 256 ^ 8 = rw eight at small in omega (arith, below))

short_text : (shape : Shape) (offset count : ℕ) → IsWithinLimits shape → offset + count ≤ user_end shape → count < 2 ^ 16
short_text shape offset count limits below =
    omega (arith, (whole_sectors shape limits).most, below)

num_is : (shape : Shape) (width page offset value : ℕ) → IsWithinLimits shape → IsInRange (Num width page offset value) → item_misfit shape (Num width page offset value) ≡ None → RecordIs shape (Num width page offset value)
num_is shape width page offset value limits range none =
    let parts = none-head (page_misfit shape page) (write_misfit shape offset width ∷ []) none in
    let write = write_is shape offset width (none-head (write_misfit shape offset width) [] parts.1).0 in
    record {
      text = (range.0, limits.space, range.1, range.2, spelled width value range.0 range.3);
      fits = (record { own_space = refl; below = page_is shape page parts.0 }, range.3, record { after_header = write.0; before_trailer = write.1 });
    }

text_is : (shape : Shape) (page offset : ℕ) (bytes : List ℕ) → IsWithinLimits shape → IsInRange (Text page offset bytes) → item_misfit shape (Text page offset bytes) ≡ None → RecordIs shape (Text page offset bytes)
text_is shape page offset bytes limits range none =
    let parts = none-head (page_misfit shape page) (write_misfit shape offset (length bytes) ∷ []) none in
    let write = write_is shape offset (length bytes) (none-head (write_misfit shape offset (length bytes)) [] parts.1).0 in
    record {
      text = (limits.space, range.0, range.1, range.2, short_text shape offset (length bytes) limits write.1, range.3);
      fits = (record { own_space = refl; below = page_is shape page parts.0 }, record { after_header = write.0; before_trailer = write.1 });
    }

record_is : (shape : Shape) (item : Item) → IsWithinLimits shape → IsInRange item → item_misfit shape item ≡ None → RecordIs shape item
record_is shape (Num width page offset value) limits range none = num_is shape width page offset value limits range none
record_is shape (Text page offset bytes) limits range none = text_is shape page offset bytes limits range none
record_is shape (Init page) limits range none = record {
  text = (limits.space, range);
  fits = record { own_space = refl; below = page_is shape page none };
}

-- the records of operations, and what is judged after them
record RecordsAre (shape : Shape) (items : List Item) (behind : List (Option Misfit)) : Type 0 where
  texts : AllByRecursion HasText (map (record_of shape.space) items)
  fit : AllByRecursion (RecordFits shape) (map (record_of shape.space) items)
  none : first_misfit_of behind ≡ None

records_are : (shape : Shape) (items : List Item) (behind : List (Option Misfit)) → IsWithinLimits shape → AllByRecursion IsInRange items
    → first_misfit_of (map (item_misfit shape) items ++ behind) ≡ None → RecordsAre shape items behind
records_are shape [] behind limits range none = record { texts = tt; fit = tt; none = none }
records_are shape (item ∷ items) behind limits range none =
    let parts = none-head (item_misfit shape item) (map (item_misfit shape) items ++ behind) none in
    let here = record_is shape item limits range.0 parts.0 in
    let others = records_are shape items behind limits range.1 parts.1 in
    record { texts = (here.text, others.texts); fit = (here.fits, others.fit); none = others.none }

some_records : (space : ℕ) (items : List Item) → items ≢ [] → map (record_of space) items ≢ []
some_records space [] some = λ none. some refl
some_records space (item ∷ items) some = λ none. cc

line_fits : (shape : Shape) (line : ScriptLine) → IsWithinLimits shape → IsScriptLine line → line_misfit shape line ≡ None → LineFits shape line
unfolding line_misfit
line_fits shape line limits range none =
    let parts = none-head (user_misfit line.user) (map (item_misfit shape) line.items ++ group_misfit shape line ∷ []) none in
    let user = user_is line.user parts.0 in
    let records = records_are shape line.items (group_misfit shape line ∷ []) limits range.each parts.1 in
    let group = none-head (group_misfit shape line) [] records.none in
    record {
      user_from = user.0;
      user_to = user.1;
      has_text = record { some = some_records shape.space line.items range.some; each = records.texts };
      short = not_below MAX_GROUP (group_length (group_of shape.space line)) (none-misfit_if _ _ _ group.0);
      fits = records.fit;
    }

-- lines, and what is judged after them
record LinesAre (shape : Shape) (script : List ScriptLine) (behind : List (Option Misfit)) : Type 0 where
  fit : AllByRecursion (LineFits shape) script
  none : first_misfit_of behind ≡ None

lines_are : (shape : Shape) (script : List ScriptLine) (behind : List (Option Misfit)) → IsWithinLimits shape → AllByRecursion IsScriptLine script
    → first_misfit_of (map (line_misfit shape) script ++ behind) ≡ None → LinesAre shape script behind
lines_are shape [] behind limits range none = record { fit = tt; none = none }
lines_are shape (line ∷ script) behind limits range none =
    let parts = none-head (line_misfit shape line) (map (line_misfit shape) script ++ behind) none in
    let others = lines_are shape script behind limits range.1 parts.1 in
    record { fit = (line_fits shape line limits range.0 parts.0, others.fit); none = others.none }

pub room_is : (room_end : Option ℕ) (end : ℕ) → total_misfit room_end end ≡ None → IfSome room_end (λ room_end. end + MARGIN ≤ room_end)
room_is None end none = tt
room_is (Some room_end) end none = not_below room_end (end + MARGIN) (none-misfit_if _ _ _ none)

-- what is judged after the lines
abbrev pub end_misfits : Shape → ℕ → Option ℕ → Option ℕ → List ScriptLine → List (Option Misfit)
end_misfits shape start room_end archive script =
    let end = script_end shape start script in
    lsn_misfit end ∷ total_misfit room_end end ∷ archive_misfit archive (archive_need shape start end) ∷ []

-- none of it is a misfit
pub record EndFits (shape : Shape) (start : ℕ) (room_end archive : Option ℕ) (script : List ScriptLine) : Type 0 where
  pub end : script_end shape start script < LSN_LIMIT
  pub room : IfSome room_end (λ room_end. script_end shape start script + MARGIN ≤ room_end)
  pub archived : ArchiveFits shape start archive script

archive_is : (archive : Option ℕ) (need : ℕ) → archive_misfit archive need ≡ None → IfSome archive (λ size. need ≤ size)
archive_is None need none = tt
archive_is (Some size) need none = not_below size need (none-misfit_if _ _ _ none)

pub ends_fit : (shape : Shape) (start : ℕ) (room_end archive : Option ℕ) (script : List ScriptLine)
    → first_misfit_of (end_misfits shape start room_end archive script) ≡ None → EndFits shape start room_end archive script
ends_fit shape start room_end archive script none =
    let end = script_end shape start script in
    let need = archive_need shape start end in
    let ends = none-head (lsn_misfit end) (total_misfit room_end end ∷ archive_misfit archive need ∷ []) none in
    let rooms = none-head (total_misfit room_end end) (archive_misfit archive need ∷ []) ends.1 in
    record {
      end = not_up_to LSN_LIMIT end (none-misfit_if _ _ _ ends.0);
      room = room_is room_end end rooms.0;
      archived = archive_is archive need (none-head (archive_misfit archive need) [] rooms.1).0;
    }

pub script_fits : (shape : Shape) (start : ℕ) (room_end archive : Option ℕ) (script : List ScriptLine) → IsWithinLimits shape → AllByRecursion IsScriptLine script
    → first_misfit shape start room_end archive script ≡ None → ScriptFits shape start room_end script
unfolding first_misfit
script_fits shape start room_end archive script limits range none =
    let lines = lines_are shape script (end_misfits shape start room_end archive script) limits range none in
    let ends = ends_fit shape start room_end archive script lines.none in
    record { lines = lines.fit; end = ends.end; room = ends.room }
