-- The lines of a user, where the groups of those that it has begun start, and how many of them it has done.
use Rattle.std.specs.Prelude.{Bool, List, [], cond, false, length, true, ℕ, ◌==◌}
use Rattle.model_core.specs.{Line}

pub record BookState : Type 0 where
  -- each of the lines can be told, and not the last ones alone
  pub keeps : Bool
  pub lines : List Line
  pub starts : List ℕ
  pub k : ℕ

-- as a run begins
abbrev pub new_book : List Line → BookState
new_book lines = record { keeps = cond (length lines == 0) false true; lines = lines; starts = []; k = 0 }
