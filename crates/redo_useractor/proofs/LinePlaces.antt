-- What a line changes of its pages, by their places in the line.
use Rattle.std.proofs.Common.{List, [], ap, arith, get_or, length, refl, subst, suc, sym, zero, ℕ, ◌+◌, ◌<◌, ◌∙◌, ◌∷◌, ◌≡◌, ◌≤◌}
use Rattle.std.proofs.lemmas.List.{get_or_default}
use Rattle.std.specs.List.{AllByRecursion}
use Rattle.model_base.specs.{IsWholeSectors, user_length}
use Rattle.model_base.specs.declared.limits.TheConstants.{MAX_PAGE_SIZE, USER_START}
use Rattle.model_base.specs.declared.shape.Shape.{Shape}
use Rattle.model_core.specs.{CellWrite, change_at, changed_cells, PageChange}
use Rattle.model_log.specs.declared.rec.Rec.{Rec}
use Rattle.model_log.specs.declared.rec.Rec.TheVariants.{Init}
use Rattle.redo_apply.specs.{WritesWithin}
use Rattle.redo_useractor.proofs.Places.{cells_in_is, IsNext, place_is}
use Rattle.redo_useractor.proofs.Skipped.{is_next}
use Rattle.redo_useractor.specs.Places.{cells_before, cells_in, changes_on, IsNextCell, word_at}
use Rattle.redo_useractor.specs.Runs.{IsRun, IsWhole, rec_at}
use Rattle.redo_useractor.specs.Words.{word_cells}
use Rattle.redo_useractor.specs.Written.{next_word, words_end}
use Rattle.redo_useractor.specs.declared.line.UserLine.TheInside.{Inside}

change_is : (shape : Shape) (group : List Rec) (pages : List ℕ) (page d : ℕ) → page < length (changes_on shape group pages)
    → (change_at (changes_on shape group pages) page).cells ≡ changed_cells shape (get_or pages page d) group
change_is shape group [] page d lt = absurd (omega arith)
change_is shape group (x ∷ xs) zero d lt = refl
change_is shape group (x ∷ xs) (suc page) d lt = change_is shape group xs page d (omega arith)

module _ (shape : Shape) (group recs : List Rec) (pages : List ℕ) (changes : List PageChange) (page number : ℕ) (same : changes_on shape group pages ≡ changes) (its : recs ≡ group)
    (lt : page < length changes) (is : number ≡ get_or pages page number)
    (valid : IsWholeSectors shape.page_size × AllByRecursion (WritesWithin (user_length shape)) group) where
  abbrev users : ℕ
  users = user_length shape

  cells_here : changed_cells shape number recs ≡ (change_at changes page).cells
  cells_here =
      ap (changed_cells shape number) its ∙ ap (λ (p : ℕ). changed_cells shape p group) is
      ∙ sym (change_is shape group pages page number (subst (λ (cs : List PageChange). page < length cs) (sym same) lt))
      ∙ ap (λ (cs : List PageChange). (change_at cs page).cells) same

  short : USER_START + users ≤ MAX_PAGE_SIZE
  short = let size = valid.0 in omega arith

  w_recs : AllByRecursion (WritesWithin users) recs
  w_recs = subst (AllByRecursion (WritesWithin users)) (sym its) valid.1

  -- the next word that is changed
  pub line_next : (q next count : ℕ) → IsNext users number recs q next
      → (next < words_end → count ≡ length (word_cells users number recs next)) → IsNextCell (change_at changes page).cells next count (cells_before q (change_at changes page).cells)
  line_next q next count is counted = subst (λ (cells : List CellWrite). IsNextCell cells next count (cells_before q cells)) cells_here
      (place_is shape number recs q next count w_recs short is counted)

  pub line_place : (q next count : ℕ) → q ≤ words_end → next ≡ next_word users number q recs words_end
      → (next < words_end → count ≡ length (word_cells users number recs next)) → IsNextCell (change_at changes page).cells next count (cells_before q (change_at changes page).cells)
  line_place q next count le next_is counted = line_next q next count
      (subst (λ (n : ℕ). IsNext users number recs q n) (sym next_is) (is_next users number q recs w_recs le)) counted

  pub line_cells : (word count place : ℕ) → word < words_end → IsNextCell (change_at changes page).cells word count place
      → cells_in (word_at (change_at changes page).cells place) place (change_at changes page).cells ≡ word_cells users number recs word
  line_cells word count place less at =
      subst (λ (cells : List CellWrite). cells_in (word_at cells place) place cells ≡ word_cells users number recs word) cells_here
      (cells_in_is shape number recs word count place w_recs short less (subst (λ (cells : List CellWrite). IsNextCell cells word count place) (sym cells_here) at))

-- a word among those of the run that a line has in hand
pub in_run : (line old : Inside) → old ≡ line → (page word : ℕ) (recs : List Rec) → recs ≡ line.group
    → IsRun (user_length line.shape) line.run.page line.group line.run.rec line.run.first line.run.end
    → old.run.page ≡ page → old.run.first ≤ word → word < old.run.end → IsWhole (user_length line.shape) page recs line.run.rec word
in_run line old same page word recs its run there lo hi =
    subst (λ (p : ℕ). IsWhole (user_length line.shape) p recs line.run.rec word) (sym (ap (λ (l : Inside). l.run.page) same) ∙ there)
    (subst (λ (rs : List Rec). IsWhole (user_length line.shape) line.run.page rs line.run.rec word) (sym its)
    (run word (subst (λ (l : Inside). l.run.first ≤ word) same lo) (subst (λ (l : Inside). word < l.run.end) same hi)))

-- and the record of the run
pub its_record : (line old : Inside) → old ≡ line → (recs : List Rec) (rec : Rec) → rec ≡ get_or recs old.run.rec rec → line.run.rec < length recs
    → rec ≡ rec_at recs line.run.rec
its_record line old same recs rec is there =
    is ∙ ap (λ (l : Inside). get_or recs l.run.rec rec) same ∙ get_or_default recs line.run.rec rec (Init 0 0) there
