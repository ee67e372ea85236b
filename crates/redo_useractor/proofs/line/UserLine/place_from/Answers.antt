use Rattle.std.proofs.Common.{List, ap, get_or, refl, subst, sym, ℕ, ◌∙◌}
use Rattle.std.specs.List.{AllByRecursion}
use Rattle.model_base.specs.{IsWholeSectors, user_length}
use Rattle.model_core.specs.{Line}
use Rattle.model_log.specs.declared.rec.Rec.{Rec}
use Rattle.redo_apply.specs.{WritesWithin}
use Rattle.redo_useractor.proofs.LinePlaces.{in_run, line_next}
use Rattle.redo_useractor.proofs.WholeWords.{all_counted, next_here}
use Rattle.redo_useractor.specs.Runs.{IsRun}
use Rattle.redo_useractor.specs.declared.line.UserLine.TheInside.{Inside}
use Rattle.redo_useractor.proofs.line.UserLine.place_from.Goals as goal

pub returns-then-has-clause-place : goal.returns-then-has-clause-place
returns-then-has-clause-place c =
    let line = c.self.inside in
    let n = user_length line.shape in
    let number = c.index-number.result.now in
    let among = c.has.ensures.word c.if-has.true in
    let whole = in_run line _ c.self-inside.view_is number c.args.word line.group refl c.self.invariant.2 (c.has.ensures.page c.if-has.true) among.0 among.1 in
    line_next line.shape line.group line.group line.pages.items c.args.self.now.changes c.args.page number
    (ap (λ (l : Line). l.changes) c.self.view_is) refl c.requires.page
    (c.index-number.ensures ∙ ap (λ (l : Inside). get_or l.pages.items c.args.page number) c.self-inside.view_is) (c.self.invariant.0, c.self.invariant.1)
    c.args.word c.args.word 8 (next_here n number line.group c.self.invariant.1 line.run.rec c.args.word whole c.requires.word)
    (λ less. all_counted n number line.group c.self.invariant.1 line.run.rec c.args.word whole)

pub run_from-self-inside-inside-requires-clause-within :
    goal.run_from-self-inside-inside-requires-clause-within
run_from-self-inside-inside-requires-clause-within c =
    subst (λ (n : ℕ). AllByRecursion (WritesWithin n) c.as_slice.result.now)
    (sym (c.user_bytes-user_bytes.ensures ∙ ap (λ (l : Inside). user_length l.shape) c.self-inside.view_is))
    (subst (AllByRecursion (WritesWithin (user_length c.self.inside.shape)))
    (sym (c.as_slice.ensures.value ∙ ap (λ (l : Inside). l.group) c.self-inside.view_is)) c.self.invariant.1)

pub invariant_of-self : goal.invariant_of-self
invariant_of-self c =
    let line = c.self.inside in
    let run = c.run_from-self-inside-inside.result in (
      subst (λ (l : Inside). IsWholeSectors l.shape.page_size) (sym c.self-inside.view_is) c.self.invariant.0,
      subst (λ (l : Inside). AllByRecursion (WritesWithin (user_length l.shape)) l.group) (sym c.self-inside.view_is) c.self.invariant.1,
      subst (λ (l : Inside). IsRun (user_length l.shape) run.page l.group run.rec run.first run.end) (sym c.self-inside.view_is)
          (subst (λ (recs : List Rec). IsRun (user_length line.shape) run.page recs run.rec run.first run.end)
          (c.as_slice.ensures.value ∙ ap (λ (l : Inside). l.group) c.self-inside.view_is)
          (subst (λ (n : ℕ). IsRun n run.page c.as_slice.result.now run.rec run.first run.end)
          (c.user_bytes-user_bytes.ensures ∙ ap (λ (l : Inside). user_length l.shape) c.self-inside.view_is)
          (subst (λ (p : ℕ). IsRun c.user_bytes-user_bytes.result p c.as_slice.result.now run.rec run.first run.end) (sym c.run_from-self-inside-inside.ensures.page)
          c.run_from-self-inside-inside.ensures.run))),
    )
