-- At any moment, so at the end, a running store keeps its pages as prefixes of its run.
use Rattle.std.proofs.Common.{Bool, List, Some, [], ap, arith, cond, eqb, eqb-true, false, inr, length, refl, subst, suc, sym, true, ⊎_elim, ℕ, ◌<◌, ◌∙◌, ◌∷◌, ◌≡◌, ◌≤◌, ◌⊎◌}
use Rattle.std.specs.List.{slice_get}
use lib.ListN.{get_elem?}
use mathlib.Core.Option.{some}
use Rattle.model_base.specs.{IsWithinLimits}
use Rattle.model_base.specs.declared.shape.Shape.{Shape}
use Rattle.model_core.specs.{Actor, BatchPage, changes_of, Core, Line, line_at, Listed, lsn, PageChange, SharedWords, Tiles, DataSide, LogSide, Setup}
use Rattle.model_running.proofs.Finished.{finished_groups}
use Rattle.model_running.proofs.Groups.{line_below}
use Rattle.model_running.proofs.PagePrefixes.{ArePageGroups, applied_none, ends_above, lsn_upto, passed_by, passed_start, user_upto}
use Rattle.model_running.specs.Finished.{ArePrefixes, FinishedPages}
use Rattle.model_running.specs.OpenedPages.{HasItsPages, IsOpenedPage, content_in, contents_of}
use Rattle.model_running.specs.Histories.{AreWholesOf, history_of, word_marks, run_of}
use Rattle.model_running.specs.History.{new_content}
use Rattle.model_running.specs.Script.{IsOfScript}
use Rattle.model_report.specs.{group_of_line, lines_of_user, wholes_of}
use Rattle.model_report.specs.declared.entry.Marks.{Marks}
use Rattle.model_logcore.specs.{LogGhost}
use Rattle.model_page.specs.{user_part}
use Rattle.model_page.specs.declared.content.Content.{Content}
use Rattle.model_pagecore.specs.{applied_upto, EndsAt, is_changed_page, PageGhost, UnfinishedPage}
use Rattle.model_pagecore.specs.PageHalf.{PageHalf}
use Rattle.model_log.specs.{GroupFits}
use Rattle.model_log.specs.declared.group.Whole.{Whole}
use Rattle.model_log.specs.declared.rec.Rec.{Rec}
use Rattle.model_theorem.proofs.Fitting.{line-fits}
use Rattle.model_theorem.proofs.Pages.{upto-none}
use Rattle.model_theorem.specs.{AreGiven, HasPassed, IsBatchPrefix, IsKeptPrefix, Opened}
use Rattle.model_running.specs.Watermarks.{BothHalves, IsRunning}
use Rattle.model_script.specs.{group_of}
use Rattle.model_script.specs.declared.script.ScriptLine.{ScriptLine}
use Rattle.model_store.specs.{upto}
use Rattle.model_core.specs.States as core

-- each group of the history changes of the pages what its records say
page_groups : (c : Setup) (script : List ScriptLine) (opened : Opened) (answered : ℕ → ℕ) (marks : Marks) (log : List core.Entry) → AreGiven script opened → IsOfScript c script opened.shape → c.log_only ≡ false
    → ((i : ℕ) (e : core.Entry) → get_elem? log i ≡ some e → (e.k < length (c.script e.user)) × ◌≡◌ {A = List PageChange} e.changes (line_at (c.script e.user) e.k).changes)
    → ArePageGroups opened.shape log (wholes_of script opened.shape.space (history_of answered marks log))
page_groups c script opened answered marks [] G S with_pages lines = tt
page_groups c script opened answered marks (e ∷ es) G S with_pages lines =
    let line = lines 0 e refl in
    let l = line_below (lines_of_user e.user script) e.k (let a = line.0 in let b = S.count e.user in omega arith) in
    let one : ScriptLine = l.0 in
    let space : ℕ = opened.shape.space in
    let group : ◌≡◌ {A = List Rec} (group_of_line space (slice_get (lines_of_user e.user script) e.k)) (group_of space one) = ap (group_of_line space) l.1 in
    let fits : GroupFits opened.shape (group_of space one) = (line-fits opened.shape script e.user e.k one G.fits l.1).fits in (
      record {
        changes = line.1 ∙ ap (λ (z : Line). z.changes) (S.each e.user e.k one l.1) ∙ ap (λ (b : Bool). let z : List PageChange = cond b [] (changes_of opened.shape (group_of space one)) in z) with_pages
            ∙ ap (changes_of opened.shape) (sym group);
        fits = subst (GroupFits opened.shape) (sym group) fits;
      },
      page_groups c script opened answered marks es G S with_pages (λ i x is. lines (suc i) x is),
    )

same_content : (q : ℕ) (bytes other : List ℕ) (n : ℕ) → q ≡ n → bytes ≡ other → ◌≡◌ {A = Content} (record { lsn = q; user = user_part bytes }) (record { lsn = n; user = user_part other })
same_content q bytes other n lsn same =
    ap (λ (k : ℕ). let z : Content = record { lsn = k; user = user_part bytes } in z) lsn ∙ ap (λ (b : List ℕ). let z : Content = record { lsn = n; user = user_part b } in z) same

content_by : (content : Content) (q : ℕ) (user : List ℕ) → content.lsn ≡ q → user ≡ content.user → ◌≡◌ {A = Content} (record { lsn = q; user = user }) content
content_by content q user lsn same =
    ap (λ (k : ℕ). let z : Content = record { lsn = k; user = user } in z) (sym lsn) ∙ ap (λ (u : List ℕ). let z : Content = record { lsn = content.lsn; user = u } in z) same

module _ (E : DataSide) (c : Setup) (m : SharedWords) (log : List core.Entry) (stable : ℕ) (h : PageGhost) (ls : ℕ → List Listed) (d : E.Part) (actors : List Actor) (half : PageHalf E c m log stable h ls d actors)
    (shape : Shape) (limits : IsWithinLimits shape) (count : c.pages ≡ shape.pages) (size : c.page_size ≡ shape.page_size) (wholes : List Whole) (tiles : Tiles c.base log m.sn) (places : AreWholesOf log wholes)
    (groups : c.log_only ≡ false → ArePageGroups shape log wholes) (alone : c.log_only ≡ true → (i : ℕ) (e : core.Entry) → get_elem? log i ≡ some e → ◌≡◌ {A = List PageChange} e.changes []) where
  prefix : (p : ℕ) (page : Content) → IsOpenedPage c p page → (q : ℕ) (bytes : List ℕ) → bytes ≡ applied_upto p q log (c.opened p).bytes → (q ≡ (c.opened p).lsn) ⊎ EndsAt p log q → (c.opened p).lsn ≤ lsn c.base
      → ◌≡◌ {A = Content} (record { lsn = q; user = user_part bytes }) (upto p q wholes page)
  prefix p page O q bytes fold ends early = ⊎_elim unchanged (λ end. by c.log_only refl end) ends
    where
      origin : List ℕ
      origin = (c.opened p).bytes

      unchanged : q ≡ (c.opened p).lsn → ◌≡◌ {A = Content} (record { lsn = q; user = user_part bytes }) (upto p q wholes page)
      unchanged same = let low : q ≤ lsn c.base = omega arith in
          same_content q bytes origin (c.opened p).lsn same (fold ∙ applied_none p q log c.base m.sn origin tiles low) ∙ O.content
          ∙ sym (upto-none p q wholes page (ends_above log c.base m.sn q wholes tiles places low))

      by : (b : Bool) → c.log_only ≡ b → EndsAt p log q → ◌≡◌ {A = Content} (record { lsn = q; user = user_part bytes }) (upto p q wholes page)
      by true log_only end = let none : is_changed_page p end.1.changes ≡ false = ap (is_changed_page p) (alone log_only end.0 end.1 end.2) in let some = end.3 in absurd (cc)
      by false with_pages end =
          let there : p < shape.pages = (let t = O.there in omega arith) in
          let user : user_part bytes ≡ (upto p q wholes page).user = ap user_part fold ∙ user_upto shape limits p there q log wholes origin page (groups with_pages) places (O.whole ∙ size) (ap (λ (z : Content). z.user) O.content) in
          let last : (upto p q wholes page).lsn ≡ q = lsn_upto shape limits p there q log c.base m.sn wholes page tiles (groups with_pages) places end.0 end.1 end.2 end.3 end.4 in
          content_by (upto p q wholes page) q (user_part bytes) last user

  last_written : (p : ℕ) (page : Content) (asked : ℕ) → IsOpenedPage c p page → asked ≤ h.given → IsKeptPrefix page wholes stable asked p (contents_of h.kept_page p)
  last_written p page asked O within = let S = half.paged.each_page p O.there in record {
    is_prefix = record { prefix = prefix p page O (h.kept_page p).lsn (h.kept_page p).bytes S.fold S.ends S.early; behind = S.behind };
    passed = by c.log_only refl;
  }
    where
      by : (b : Bool) → c.log_only ≡ b → HasPassed p wholes asked (h.kept_page p).lsn
      by true log_only = passed_start p (h.kept_page p).lsn asked log c.base m.sn wholes tiles places (let a = half.paged.alone log_only in omega arith)
      by false with_pages =
          let there : p < shape.pages = (let t = O.there in omega arith) in
          passed_by shape limits p there (h.kept_page p).lsn h.given asked log wholes (groups with_pages) places within (half.paged.each_page p O.there).passed

  from_batch : (p : ℕ) (page : Content) → IsOpenedPage c p page → (batch : List BatchPage) → ((i : ℕ) (x : BatchPage) → get_elem? batch i ≡ some x → UnfinishedPage c.pages c.opened h.kept_page log stable x)
      → IsBatchPrefix page wholes stable p (contents_of h.kept_page p) (content_in batch p)
  from_batch p page O [] each = tt
  from_batch p page O (x ∷ xs) each = by (eqb x.page p) refl (each 0 x refl) (from_batch p page O xs (λ i y is. each (suc i) y is))
    where
      by : (b : Bool) → eqb x.page p ≡ b → UnfinishedPage c.pages c.opened h.kept_page log stable x → IsBatchPrefix page wholes stable p (contents_of h.kept_page p) (content_in xs p)
          → IsBatchPrefix page wholes stable p (contents_of h.kept_page p) (cond b (Some (new_content x)) (content_in xs p))
      by true e U rest =
          let same : x.page ≡ p = eqb-true x.page p e in
          let early = (half.paged.each_page p O.there).early in (
            record {
              prefix = prefix p page O x.lsn x.bytes (subst (λ (y : ℕ). x.bytes ≡ applied_upto y x.lsn log (c.opened y).bytes) same U.fold) (inr (subst (λ (y : ℕ). EndsAt y log x.lsn) same U.ends)) early;
              behind = U.behind;
            },
            subst (λ (y : ℕ). (h.kept_page y).lsn ≤ x.lsn) same U.no_older,
          )
      by false e U rest = rest

  pub are_prefixes : (opened : List Content) (asked : ℕ) → ((p : ℕ) (page : Content) → slice_get opened p ≡ Some page → IsOpenedPage c p page) → asked ≤ h.given
      → ArePrefixes opened wholes stable asked (contents_of h.kept_page) (content_in h.unfinished)
  are_prefixes opened asked pages within = record {
    last = λ p page at. last_written p page asked (pages p page at) within;
    next = λ p page at. from_batch p page (pages p page at) h.unfinished half.paged.unfinished.each;
  }

module _ (D : LogSide) (E : DataSide) (c : Setup) (m : SharedWords) (g : LogGhost) (h : PageGhost) (ls : ℕ → List Listed) (p : D.Part) (d : E.Part) (actors : List Actor) (both : BothHalves D E c m g h ls p d actors) where
  -- of the groups of the history, up to the stable mark of the log part, and past each checkpoint that was asked for
  pub page_prefixes : (script : List ScriptLine) (opened : Opened) → AreGiven script opened → HasItsPages c opened → IsOfScript c script opened.shape
      → ArePrefixes opened.pages (wholes_of script opened.shape.space (run_of c g m).entries) (D.stable p) (D.asked p) (contents_of h.kept_page) (content_in h.unfinished)
  page_prefixes script opened G P S =
      let lines = both.logged.global.tiled.lines in
      let space : ℕ = opened.shape.space in
      let wholes : List Whole = wholes_of script space (run_of c g m).entries in
      are_prefixes E c m g.log (D.stable p) h ls d actors both.paged opened.shape G.shape P.count P.page_size wholes both.logged.global.tiled.tiles
      (finished_groups D c m g p actors both.logged script opened.shape S)
      (λ with_pages. page_groups c script opened g.answered (word_marks m) g.log G S with_pages (λ i e is. let l = lines i e is in (l.0, l.2)))
      (λ log_only i e is. let l = lines i e is in l.2 ∙ both.script.alone log_only e.user e.k)
      opened.pages (D.asked p) P.each both.asked

-- the pages of a running store, for the run that it stands for
pub finished_pages : (D : LogSide) (E : DataSide) (c : Setup) (script : List ScriptLine) (opened : Opened) (s : Core D E) (running : IsRunning D E c s) → AreGiven script opened → HasItsPages c opened → IsOfScript c script opened.shape
    → FinishedPages D E script opened (run_of c running.log_ghost running.shared) s
finished_pages D E c script opened s running G P S =
    let h = running.page_ghost in
    let facts = running.both.paged.paged in
    record {
      kept_page = h.kept_page;
      unfinished = h.unfinished;
      holds = facts.stored;
      apart = facts.unfinished.apart;
      prefixes = page_prefixes D E c running.shared running.log_ghost h s.lists s.log_part s.data_part s.actors running.both script opened G P S;
    }
