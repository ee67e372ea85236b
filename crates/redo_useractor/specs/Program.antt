-- The lines of a user as its program has them.
use Rattle.std.specs.Prelude.{Bool, List, map, ℕ}
use Rattle.model_base.specs.declared.shape.Shape.{Shape}
use Rattle.model_core.specs.{Line, line_of}
use Rattle.model_log.specs.declared.rec.Rec.{Rec}

-- the lines as the user's program has them
abbrev pub program_lines : Bool → Shape → List (ℕ × List Rec) → List Line
program_lines log_only shape lines = map (λ (line : ℕ × List Rec). line_of log_only shape line.0 line.1) lines
