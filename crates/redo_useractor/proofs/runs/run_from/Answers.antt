use Rattle.std.proofs.Common.{ap, arith, length, subst, sym, ℕ, ◌+◌, ◌/◌, ◌<◌, ◌∙◌, ◌≡◌}
use Rattle.std.proofs.lemmas.Bool.{eq-eqb}
use Rattle.std.proofs.lemmas.List.{get_or_default}
use Rattle.model_log.specs.{page_of}
use Rattle.model_log.specs.declared.rec.Rec.TheVariants.{Init}
use Rattle.redo_useractor.proofs.WholeWords.{run_found, run_kept, run_new, RunOf}
use Rattle.redo_useractor.specs.Runs.{rec_at}
use Rattle.redo_useractor.proofs.runs.run_from.Goals as goal
use Rattle.redo_useractor.proofs.runs.run_from.Goals.{else-page_of-page, then-page_of-page+then-covers}

pub loop-k-preserved : goal.loop-k-preserved
loop-k-preserved c =
    let recs = c.args.recs.now in
    let there : c.loop-k.k < length c.args.recs.now = (let t = c.loop-k-test.true in omega arith) in
    let its : c.index-recs-k.result ≡ rec_at c.args.recs.now c.loop-k.k = c.index-recs-k.is ∙ get_or_default recs c.loop-k.k c.index-recs-k.result (Init 0 0) there in
    elim c.if-page_of-page.branch [
      | then-page_of-page+then-covers w ↦
          subst (λ (m : ℕ). RunOf c.args.user_bytes c.args.page recs (c.loop-k.k + 1) m c.args.word c.if-page_of-page.end) (sym w.number-is)
          (run_new c.args.user_bytes c.args.page recs c.requires.within c.loop-k.k c.args.word c.if-page_of-page.end c.index-recs-k.result its
          (eq-eqb (page_of c.index-recs-k.result) c.args.page (sym c.page_of.ensures ∙ w.if-page_of-page.true)) (w.covers.ensures w.if-covers.true)
          (w.end-is ∙ ap (λ (m : ℕ). m / 8) w.cells_end.ensures))
      | else-page_of-page w ↦
          let a = w.end-is in
          let b = w.min-end.ensures in
          let f = w.first_word.ensures in
          subst (λ (m : ℕ). RunOf c.args.user_bytes c.args.page recs (c.loop-k.k + 1) m c.args.word c.if-page_of-page.end) (sym w.number-is)
          (run_kept c.args.user_bytes c.args.page recs c.requires.within c.loop-k.k c.loop-k.number c.args.word c.loop-k.end c.if-page_of-page.end c.index-recs-k.result
          there its (omega arith) (omega arith) c.loop-k.invariant)
    ]

pub returns-clause-run : goal.returns-clause-run
returns-clause-run c =
    let t = c.loop-k-test.false in
    let e = c.loop-k.auto.k-end in
    run_found c.args.user_bytes c.args.page c.args.recs.now c.requires.within c.loop-k.number c.args.word c.loop-k.end
    (subst (λ (k : ℕ). RunOf c.args.user_bytes c.args.page c.args.recs.now k c.loop-k.number c.args.word c.loop-k.end)
    (let z : c.loop-k.k ≡ length c.args.recs.now = omega arith in z) c.loop-k.invariant)
