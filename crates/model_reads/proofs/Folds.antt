-- A page that was read is the page as of its lsn, in the run that a store stands for.
use Rattle.std.proofs.Common.{Bool, List, [], ap, arith, cond, false, length, refl, subst, suc, sym, true, ℕ, ◌<◌, ◌∙◌, ◌∷◌, ◌≡◌}
use Rattle.std.proofs.lemmas.List.{take_all}
use Rattle.std.specs.List.{AllByRecursion, slice_get}
use Rattle.std.specs.Prelude.{nat_le}
use lib.ListN.{get_elem?}
use mathlib.Core.Option.{some}
use Rattle.model_base.specs.{IsWithinLimits}
use Rattle.model_base.specs.declared.shape.Shape.{Shape}
use Rattle.model_core.specs.{Actor, changes_of, Line, line_at, Listed, PageChange, SharedWords, DataSide, LogSide, Setup}
use Rattle.model_core.specs.States as core
use Rattle.model_log.specs.{GroupFits}
use Rattle.model_log.specs.declared.group.Whole.{Whole}
use Rattle.model_log.specs.declared.rec.Rec.{Rec}
use Rattle.model_logcore.specs.{LogGhost}
use Rattle.model_page.specs.{user_part}
use Rattle.model_page.specs.declared.content.Content.{Content}
use Rattle.model_pagecore.specs.{applied_upto, cells_on, end_lsn, PageGhost, write_cells}
use Rattle.model_reads.specs.Folded.{IsPageAsOf}
use Rattle.model_reads.specs.Reading.{IsRead}
use Rattle.model_reads.specs.declared.read.PageRead.{PageRead}
use Rattle.model_report.specs.{group_of_line, lines_of_user, wholes_of}
use Rattle.model_report.specs.declared.entry.Marks.{Marks}
use Rattle.model_running.proofs.CellsApply.{writes_long}
use Rattle.model_running.proofs.Finished.{finished_groups}
use Rattle.model_running.proofs.Groups.{line_below}
use Rattle.model_running.proofs.PagePrefixes.{ArePageGroups, user_upto}
use Rattle.model_running.specs.Histories.{history_of, word_marks, run_of}
use Rattle.model_running.specs.OpenedPages.{HasItsPages}
use Rattle.model_running.specs.Watermarks.{BothHalves}
use Rattle.model_running.specs.Script.{IsOfScript}
use Rattle.model_script.specs.{group_of, LineFits}
use Rattle.model_script.specs.declared.script.ScriptLine.{ScriptLine}
use Rattle.model_theorem.proofs.Fitting.{line-fits}
use Rattle.model_theorem.specs.{Opened}

applied_long : (p q : ℕ) (log : List core.Entry) (b : List ℕ) → length (applied_upto p q log b) ≡ length b
applied_long p q [] b = refl
applied_long p q (e ∷ es) b = applied_long p q es _ ∙ one (nat_le (end_lsn e) q)
  where
    one : (d : Bool) → length (cond d (write_cells (cells_on p e.changes) b) b) ≡ length b
    one true = writes_long (cells_on p e.changes) b
    one false = refl

-- each group of the history changes of the pages what its records say
page_groups : (c : Setup) (script : List ScriptLine) (shape : Shape) (answered : ℕ → ℕ) (marks : Marks)
    (log : List core.Entry) → AllByRecursion (LineFits shape) script → IsOfScript c script shape → c.log_only ≡ false
    → ((i : ℕ) (e : core.Entry) → get_elem? log i ≡ some e
    → (e.k < length (c.script e.user)) × ◌≡◌ {A = List PageChange} e.changes (line_at (c.script e.user) e.k).changes)
    → ArePageGroups shape log (wholes_of script shape.space (history_of answered marks log))
page_groups c script shape answered marks [] fit S with_pages lines = tt
page_groups c script shape answered marks (e ∷ es) fit S with_pages lines =
    let line = lines 0 e refl in
    let l = line_below (lines_of_user e.user script) e.k (let a = line.0 in let b = S.count e.user in omega arith) in
    let one : ScriptLine = l.0 in
    let space : ℕ = shape.space in
    let group : ◌≡◌ {A = List Rec} (group_of_line space (slice_get (lines_of_user e.user script) e.k))
    (group_of space one) =
    ap (group_of_line space) l.1 in
    let fits : GroupFits shape (group_of space one) = (line-fits shape script e.user e.k one fit l.1).fits in (
      record {
        changes = line.1 ∙ ap (λ (z : Line). z.changes) (S.each e.user e.k one l.1)
            ∙ ap (λ (b : Bool). let z : List PageChange = cond b [] (changes_of shape (group_of space one)) in z)
            with_pages
            ∙ ap (changes_of shape) (sym group);
        fits = subst (GroupFits shape) (sym group) fits;
      },
      page_groups c script shape answered marks es fit S with_pages (λ i x is. lines (suc i) x is),
    )

module _ (D : LogSide) (E : DataSide) (c : Setup) (m : SharedWords) (g : LogGhost) (h : PageGhost)
    (ls : ℕ → List Listed) (p : D.Part) (d : E.Part) (actors : List Actor)
    (both : BothHalves D E c m g h ls p d actors) (script : List ScriptLine) (opened : Opened)
    (limits : IsWithinLimits opened.shape) (fit : AllByRecursion (LineFits opened.shape) script)
    (P : HasItsPages c opened) (S : IsOfScript c script opened.shape) (with_pages : c.log_only ≡ false) where
  abbrev wholes : List Whole
  wholes = wholes_of script opened.shape.space (run_of c g m).entries

  -- of the run that the store stands for
  pub read_as_of : (ws : List ℕ) (r : PageRead) → IsRead c ws g.log r → IsPageAsOf opened.pages wholes r
  read_as_of ws r o page there =
      let lines = both.logged.global.tiled.lines in
      let O = P.each r.page page there in
      let b : List ℕ = (c.opened r.page).bytes in
      let all : List ℕ = applied_upto r.page r.lsn g.log b in
      let long : c.page_size ≡ length all = sym (applied_long r.page r.lsn g.log b ∙ O.whole) in
      o.bytes ∙ ap user_part (take_all c.page_size all (omega arith))
      ∙ user_upto opened.shape limits r.page (let t = O.there in let n = P.count in omega arith) r.lsn g.log
      wholes b page
      (page_groups c script opened.shape g.answered (word_marks m) g.log fit S with_pages
      (λ i e is. let l = lines i e is in (l.0, l.2)))
      (finished_groups D c m g p actors both.logged script opened.shape S)
      (O.whole ∙ P.page_size) (ap (λ (z : Content). z.user) O.content)
