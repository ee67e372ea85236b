-- A line that a book keeps, among all its lines.
use Rattle.std.proofs.Common.{List, [], ap, arith, get_or, length, suc, ℕ, ◌++◌, ◌+◌, ◌<◌, ◌∙◌, ◌∷◌, ◌≡◌}
use Rattle.std.proofs.lemmas.List.{get_or_default}
use Rattle.model_core.specs.{Line, line_at}

behind_past : (past kept : List Line) (k : ℕ) → line_at kept k ≡ line_at (past ++ kept) (length past + k)
behind_past [] kept k = ap (line_at kept) (let e : k ≡ 0 + k = omega arith in e)
behind_past (x ∷ xs) kept k = behind_past xs kept k
    ∙ ap (line_at (x ∷ (xs ++ kept))) (let e : suc (length xs + k) ≡ suc (length xs) + k = omega arith in e)

pub kept_line : (past kept : List Line) (k : ℕ) (line : Line) → k < length kept → line ≡ get_or kept k line
    → line ≡ line_at (past ++ kept) (length past + k)
kept_line past kept k line there is =
    is ∙ get_or_default kept k line (record { mode = 0; bytes = []; changes = [] }) there ∙ behind_past past kept k
