-- Each line has bytes, the new one too, and where it had done all it has a line left now.
use Rattle.std.proofs.Common.{[], List, ap, arith, length, length-append, subst, sym, ℕ, ◌++◌, ◌+◌, ◌<◌, ◌∙◌, ◌∷◌, ◌≡◌}
use Rattle.model_core.proofs.Collected.{group_has_text}
use Rattle.model_core.specs.{Line, line_at, line_of, UserState}
use Rattle.redo_useractor.proofs.Texts.{some_with}
use Rattle.redo_useractor.specs.Books.{BookState}
use Rattle.redo_useractor.specs.UserView.{AfterAll, IsAt}
use Rattle.redo_useractor.proofs.actor.UserActor.take_line.Goals as goal

pub invariant_of-self-2 : goal.invariant_of-self-2
invariant_of-self-2 c =
    let u = c.self.inside in
    let lines : List Line = u.book.lines in
    let line = line_of c.args.log_only c.args.shape.now c.args.mode c.args.group in
    let done : AfterAll u =
    subst (IsAt u) (ap (λ (s : UserState). s.step) c.self.view_is ∙ c.requires.done) c.self.invariant.step in
    let taken = c.in_ok-take_line.ensures.ok in
    let are : c.take_line.new.self.lines ≡ lines ++ line ∷ [] = ap (λ (b : BookState). b.lines) taken in
    let k : c.take_line.new.self.k ≡ u.book.k = ap (λ (b : BookState). b.k) taken in
    let starts : length c.take_line.new.self.starts ≡ length u.book.starts =
    ap (λ (b : BookState). length b.starts) taken in
    let count : length c.take_line.new.self.lines ≡ length lines + 1 =
    ap length are ∙ length-append lines (line ∷ []) in
    record {
      ckpt = c.self.invariant.ckpt;
      some_bytes = subst (λ (l : List Line). (j : ℕ) → j < length l → 0 < length (line_at l j).bytes) (sym are)
          (some_with lines line c.self.invariant.some_bytes (group_has_text c.args.group c.requires.line.is_group));
      step = record { line = omega (arith, count, k, done.all); none = starts ∙ done.none ∙ sym k };
    }
