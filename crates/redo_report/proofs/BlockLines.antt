-- The lines of blocks, one on.
use Rattle.std.proofs.Common.{ℕ, ◌≡◌, ◌+◌, ◌<◌, ◌≤◌, List, ◌∷◌, ◌++◌, length, drop, get_or, ap, sym, ◌∙◌, append-nil, append_assoc}
use Rattle.std.proofs.lemmas.List.{at_drop_more, at_drop_all}
use Rattle.model_base.specs.declared.limits.TheConstants.{BLOCK_SIZE}
use Rattle.model_log.specs.declared.block.BlockView.{BlockView}
use Rattle.model_report.specs.{block_line, block_lines}

pub block_lines_more : (text : List ℕ) (views : List BlockView) (i lsn : ℕ) (view : BlockView) → i < length views → view ≡ get_or views i view
    → text ++ block_lines lsn (drop i views) ≡ (text ++ block_line lsn view) ++ block_lines (lsn + BLOCK_SIZE) (drop (i + 1) views)
block_lines_more text views i lsn view below is =
    let next = at_drop_more (λ views. block_lines lsn views) views i view below in
    let here = ap (λ (first : BlockView). block_lines lsn (first ∷ drop (i + 1) views)) (sym is) in
    ap (λ lines. text ++ lines) (next ∙ here)
    ∙ sym (append_assoc text (block_line lsn view) (block_lines (lsn + BLOCK_SIZE) (drop (i + 1) views)))

pub block_lines_end : (text : List ℕ) (views : List BlockView) (i lsn : ℕ) → length views ≤ i → text ++ block_lines lsn (drop i views) ≡ text
block_lines_end text views i lsn over =
    ap (λ lines. text ++ lines) (at_drop_all (λ views. block_lines lsn views) views i over) ∙ append-nil text

pub ruleset steps = (block_lines_more, block_lines_end)
