-- Each line of a user has bytes, and its records write within a page's user bytes.
use Rattle.std.proofs.Common.{Bool, List, [], arith, length, refl, suc, zero, ℕ, ◌++◌, ◌<◌, ◌∷◌}
use Rattle.std.specs.List.{AllByRecursion}
use Rattle.model_base.specs.{user_length}
use Rattle.model_base.specs.declared.shape.Shape.{Shape}
use Rattle.model_core.proofs.Collected.{group_has_text}
use Rattle.model_core.specs.{Line, line_at}
use Rattle.model_log.specs.{GroupFits, RecordFits}
use Rattle.model_log.specs.declared.rec.Rec.{Rec}
use Rattle.model_log.specs.declared.rec.Rec.TheVariants.{Init, Num, Text}
use Rattle.redo_apply.specs.{WritesWithin}
use Rattle.redo_useractor.specs.Lines.{AreUserLines}
use Rattle.redo_useractor.specs.Program.{program_lines}

pub some_texts : (shape : Shape) (log_only : Bool) (lines : List (ℕ × List Rec)) → AreUserLines shape lines → (j : ℕ) → j < length (program_lines log_only shape lines)
    → 0 < length (line_at (program_lines log_only shape lines) j).bytes
some_texts shape log_only [] are j h = absurd (omega arith)
some_texts shape log_only (x ∷ xs) are zero h = group_has_text x.1 (are 0 x refl).is_group
some_texts shape log_only (x ∷ xs) are (suc j) h = some_texts shape log_only xs (λ i line e. are (suc i) line e) j (omega arith)

-- with one line more, that has bytes
pub some_with : (lines : List Line) (line : Line) → ((j : ℕ) → j < length lines → 0 < length (line_at lines j).bytes)
    → 0 < length line.bytes → (j : ℕ) → j < length (lines ++ line ∷ [])
    → 0 < length (line_at (lines ++ line ∷ []) j).bytes
some_with [] line all some zero h = some
some_with [] line all some (suc j) h = absurd (omega arith)
some_with (x ∷ xs) line all some zero h = all zero (omega arith)
some_with (x ∷ xs) line all some (suc j) h =
    some_with xs line (λ i lt. all (suc i) (omega arith)) some j (omega arith)

record_writes : (shape : Shape) (rec : Rec) → RecordFits shape rec → WritesWithin (user_length shape) rec
record_writes shape (Num width space page offset value) fits = let a = fits.2.after_header in let b = fits.2.before_trailer in (a, omega arith)
record_writes shape (Text space page offset bytes) fits = let a = fits.1.after_header in let b = fits.1.before_trailer in (a, omega arith)
record_writes shape (Init space page) fits = tt

pub group_writes : (shape : Shape) (group : List Rec) → GroupFits shape group → AllByRecursion (WritesWithin (user_length shape)) group
group_writes shape [] fits = tt
group_writes shape (rec ∷ recs) fits = (record_writes shape rec fits.0, group_writes shape recs fits.1)
