-- Each line has bytes, and a user that has a line begins with the first.
use Rattle.std.proofs.Common.{List, ap, arith, length, subst, sym, ℕ, ◌<◌, ◌∙◌, ◌≡◌}
use Rattle.std.proofs.lemmas.Grind.{common_steps}
use Rattle.model_core.specs.{Line, line_at}
use Rattle.redo_useractor.proofs.Texts.{some_texts}
use Rattle.redo_useractor.specs.Books.{BookState}
use Rattle.redo_useractor.specs.Program.{program_lines}
use Rattle.redo_useractor.proofs.actor.UserActor.new.Goals as goal
use Rattle.redo_useractor.proofs.actor.UserActor.new.Goals.{then-has_lines, else-has_lines}

pub invariant_of-result : goal.invariant_of-result
invariant_of-result c =
    let texts = some_texts c.args.shape.now c.args.log_only c.args.lines.items c.requires.lines in
    let lines : c.in_ok-book.book.lines ≡ program_lines c.args.log_only c.args.shape.now c.args.lines.items =
    ap (λ (b : BookState). b.lines) c.in_ok-book.ensures ∙ c.in_ok-made.ensures in
    let long : length c.in_ok-book.book.lines ≡ length c.in_ok-made.made.items =
    ap (λ (b : BookState). length b.lines) c.in_ok-book.ensures in
    let k : c.in_ok-book.book.k ≡ 0 = ap (λ (b : BookState). b.k) c.in_ok-book.ensures in
    let none : length c.in_ok-book.book.starts ≡ 0 = ap (λ (b : BookState). length b.starts) c.in_ok-book.ensures in
    record {
      ckpt = omega arith;
      some_bytes = subst (λ (l : List Line). (j : ℕ) → j < length l → 0 < length (line_at l j).bytes) (sym lines) texts;
      step = elim c.if-has_lines.branch [
        | then-has_lines w ↦
            rw w.step-is (record { line = grind (arith, common_steps); none = none ∙ sym k })
        | else-has_lines w ↦
            rw w.step-is (record { all = grind (arith, common_steps); none = none ∙ sym k })
      ];
    }
