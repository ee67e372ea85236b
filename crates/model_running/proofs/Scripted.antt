-- The lines of a script that fits the store change pages of the store, each once, and bytes of them.
use Rattle.model_core.specs.{IsText, after_from, cell_where_same, changed_cells, change_on, changes_of, collected, CellWrite, change_at, IsScripted, Line, line_at, PageChange, Setup}
use Rattle.std.proofs.Common.{Bool, List, Some, [], ap, append-nil, arith, cond, eq-eqb, eqb, false, get_or, inl, inr, length, length-append, refl, slice_get, subst, suc, sym, true, zero, ℕ, ⊎_elim, ◌++◌, ◌+◌, ◌-◌, ◌<◌, ◌∙◌, ◌∷◌, ◌≡◌, ◌≤◌, ◌⊎◌, ◌||◌}
use Rattle.std.proofs.Math.ListN.{get_or-append}
use Rattle.std.proofs.Math.Seq.{get_or-append_right}
use Rattle.std.proofs.lemmas.List.{get_or_past}
use Rattle.std.specs.List.{AllByRecursion}
use Rattle.std.specs.Prelude.{slice_index}
use native.Mathlib.Decide.{dec_le, ℕ_discrete}
use Rattle.model_base.proofs.ShapeLimits.{slots_within, whole_sectors}
use Rattle.model_base.specs.{IsPageSize, IsWithinLimits, user_length}
use Rattle.model_base.specs.declared.shape.Shape.{Shape}
use Rattle.model_running.proofs.Groups.{line_below}
use Rattle.model_running.proofs.LineBytes.{changes_get_bytes, collected_each, GetsBytes, if_one}
use Rattle.model_running.specs.Script.{IsOfScript}
use Rattle.model_report.specs.{lines_of_user}
use Rattle.model_log.specs.{GroupFits, HasText, page_of, RecordFits}
use Rattle.model_log.specs.declared.rec.Rec.{Rec}
use Rattle.model_log.specs.declared.rec.Rec.TheVariants.{Init, Num, Text}
use Rattle.model_script.specs.{group_of, LineFits}
use Rattle.model_script.specs.declared.script.ScriptLine.{ScriptLine}
use Rattle.model_store.specs.{touches}

abbrev no_cell : CellWrite
no_cell = record { at = 0; value = 0 }

abbrev no_change : PageChange
no_change = record { page = 0; cells = [] }

-- the cells of so many user bytes lie below their end
cells_within : (low high : List ℕ) (n i : ℕ) → (get_or (collected (cell_where_same low high) n) i no_cell).at < 38 + n
unfolding collected
cells_within low high zero i = omega arith
cells_within low high (suc n) i = by (eqb (slice_index low n) (slice_index high n)) (cells_within low high n)
  where
    front : List CellWrite
    front = collected (cell_where_same low high) n

    last : Bool → List CellWrite
    last b = cond b (record { at = 38 + n; value = slice_index low n } ∷ []) []

    small : (b : Bool) (j : ℕ) → (get_or (last b) j no_cell).at < 38 + suc n
    small true zero = omega arith
    small true (suc j) = omega arith
    small false j = omega arith

    by : (b : Bool) → ((j : ℕ) → (get_or front j no_cell).at < 38 + n) → (get_or (front ++ last b) i no_cell).at < 38 + suc n
    by b before = elim (dec_le (length front) i) [
      | yes behind ↦ subst (λ (z : CellWrite). z.at < 38 + suc n) (sym (get_or-append_right front (last b) i no_cell behind)) (small b (i - length front))
      | no there ↦ subst (λ (z : CellWrite). z.at < 38 + suc n) (sym (get_or-append front (last b) no_cell i (omega arith))) (let z = before i in omega arith)
    ]

-- they ascend
abbrev Ascends : List CellWrite → Type 0
Ascends cells = (a b : ℕ) → a < b → b < length cells → (get_or cells a no_cell).at < (get_or cells b no_cell).at

cells_ascend : (low high : List ℕ) (n : ℕ) → Ascends (collected (cell_where_same low high) n)
unfolding collected
cells_ascend low high zero = λ a b lt l. absurd (omega arith)
cells_ascend low high (suc n) = by (eqb (slice_index low n) (slice_index high n)) (cells_ascend low high n)
  where
    front : List CellWrite
    front = collected (cell_where_same low high) n

    one : CellWrite
    one = record { at = 38 + n; value = slice_index low n }

    by : (b : Bool) → Ascends front → Ascends (front ++ cond b (one ∷ []) [])
    by false before = subst Ascends (sym (append-nil front)) before
    by true before = λ a b lt l.
        let long : length (front ++ one ∷ []) ≡ length front + 1 = length-append front (one ∷ []) in
        let here : (get_or (front ++ one ∷ []) a no_cell).at ≡ (get_or front a no_cell).at = ap (λ (z : CellWrite). z.at) (get_or-append front (one ∷ []) no_cell a (omega arith)) in
        let w = cells_within low high n a in
        elim (dec_le (length front) b) [
          | yes behind ↦ (let i : b - length front ≡ 0 = omega arith in
              let e : (get_or (front ++ one ∷ []) b no_cell).at ≡ 38 + n = ap (λ (z : CellWrite). z.at) (get_or-append_right front (one ∷ []) b no_cell behind) ∙ ap (λ (j : ℕ). (get_or (one ∷ []) j no_cell).at) i in omega arith)
          | no there ↦ (let e : (get_or (front ++ one ∷ []) b no_cell).at ≡ (get_or front b no_cell).at = ap (λ (z : CellWrite). z.at) (get_or-append front (one ∷ []) no_cell b (omega arith)) in let z = before a b lt (omega arith) in omega arith)
        ]

-- and so do those of each page that a group changes
abbrev ChangeAscends : PageChange → Type 0
ChangeAscends change = Ascends change.cells

none_ascends : ChangeAscends no_change
none_ascends a b lt l = absurd (omega arith)

changes_ascend : (shape : Shape) (group : List Rec) (k : ℕ) → ChangeAscends (change_at (changes_of shape group) k)
changes_ascend shape group k = collected_each ChangeAscends (change_on shape group) no_change none_ascends
    (λ p j. if_one ChangeAscends (record { page = p; cells = changed_cells shape p group }) no_change
    (cells_ascend (after_from shape 0 p group) (after_from shape 255 p group) (user_length shape)) none_ascends (touches p group) j) shape.pages k

-- pages below a number, ascending, and bytes of so many
record PagesBelow (size n : ℕ) (cs : List PageChange) : Type 0 where
  pub there : (k : ℕ) → k < length cs → (change_at cs k).page < n
  pub ascending : (i k : ℕ) → i < k → k < length cs → (change_at cs i).page < (change_at cs k).page
  pub within : (k i : ℕ) → k < length cs → (get_or (change_at cs k).cells i no_cell).at < size

longer : (size n : ℕ) (front : List PageChange) (c : PageChange) → c.page ≡ n → ((i : ℕ) → (get_or c.cells i no_cell).at < size)
    → PagesBelow size n front → PagesBelow size (suc n) (front ++ c ∷ [])
longer size n front c page cells before =
    let long : length (front ++ c ∷ []) ≡ length front + 1 = length-append front (c ∷ []) in
    let old : (k : ℕ) → k < length front → ◌≡◌ {A = PageChange} (change_at (front ++ c ∷ []) k) (change_at front k) = λ k l. get_or-append front (c ∷ []) no_change k l in
    let new : (k : ℕ) → k ≡ length front → ◌≡◌ {A = PageChange} (change_at (front ++ c ∷ []) k) c = λ k e. get_or-append_right front (c ∷ []) k no_change (omega arith) ∙ ap (λ (j : ℕ). get_or (c ∷ []) j no_change) (let z : k - length front ≡ 0 = omega arith in z) in
    record {
      there = λ k l. elim (dec_le (length front) k) [
        | yes d ↦ (let z = ap (λ (x : PageChange). x.page) (new k (omega arith)) in omega arith)
        | no d ↦ (let z = ap (λ (x : PageChange). x.page) (old k (omega arith)) in let y = before.there k (omega arith) in omega arith)
      ];
      ascending = λ i k lt l. elim (dec_le (length front) k) [
        | yes d ↦ (let z = ap (λ (x : PageChange). x.page) (new k (omega arith)) in let w = ap (λ (x : PageChange). x.page) (old i (omega arith)) in let y = before.there i (omega arith) in omega arith)
        | no d ↦ (let z = ap (λ (x : PageChange). x.page) (old k (omega arith)) in let w = ap (λ (x : PageChange). x.page) (old i (omega arith)) in let y = before.ascending i k lt (omega arith) in omega arith)
      ];
      within = λ k i l. elim (dec_le (length front) k) [
        | yes d ↦ subst (λ (x : PageChange). (get_or x.cells i no_cell).at < size) (sym (new k (omega arith))) (cells i)
        | no d ↦ subst (λ (x : PageChange). (get_or x.cells i no_cell).at < size) (sym (old k (omega arith))) (before.within k i (omega arith))
      ];
    }

module _ (shape : Shape) (limits : IsWithinLimits shape) (group : List Rec) where
  abbrev Below : ℕ → List PageChange → Type 0
  Below n cs = PagesBelow shape.page_size n cs

  on_page : (p i : ℕ) → (get_or (changed_cells shape p group) i no_cell).at < shape.page_size
  on_page p i =
      let low = cells_within (after_from shape 0 p group) (after_from shape 255 p group) (user_length shape) i in
      let room = (whole_sectors shape limits).least in omega arith

  pages_below : (n : ℕ) → Below n (collected (change_on shape group) n)
  unfolding collected
  pages_below zero = record { there = λ k l. absurd (omega arith); ascending = λ i k lt l. absurd (omega arith); within = λ k i l. absurd (omega arith) }
  pages_below (suc n) = by (touches n group) (pages_below n)
    where
      front : List PageChange
      front = collected (change_on shape group) n

      by : (b : Bool) → Below n front → Below (suc n) (front ++ cond b (record { page = n; cells = changed_cells shape n group } ∷ []) [])
      by true before = longer shape.page_size n front (record { page = n; cells = changed_cells shape n group }) refl (on_page n) before
      by false before = subst (Below (suc n)) (sym (append-nil front)) (record { there = λ k l. let z = before.there k l in omega arith; ascending = before.ascending; within = before.within })

-- a page that the group names is among them
named : (shape : Shape) (group : List Rec) (p n : ℕ) → p < n → touches p group ≡ true → 0 < length (collected (change_on shape group) n)
unfolding collected
named shape group p zero low is = absurd (omega arith)
named shape group p (suc n) low is = elim (ℕ_discrete n p) [
  | yes e ↦ here (touches n group) (ap (λ (k : ℕ). touches k group) e ∙ is)
  | no other ↦ (let r = named shape group p n (omega arith) is in omega (arith, length-append (collected (change_on shape group) n) (change_on shape group n)))
]
  where
    here : (b : Bool) → b ≡ true → 0 < length (collected (change_on shape group) n ++ cond b (record { page = n; cells = changed_cells shape n group } ∷ []) [])
    here true e = omega (arith, length-append (collected (change_on shape group) n) (record { page = n; cells = changed_cells shape n group } ∷ []))
    here false e = absurd (cc)

record_page : (shape : Shape) (rec : Rec) → RecordFits shape rec → page_of rec < shape.pages
record_page shape (Num width space page offset value) fits = fits.0.below
record_page shape (Text space page offset bytes) fits = fits.0.below
record_page shape (Init space page) fits = fits.below

some_change : (shape : Shape) (group : List Rec) → (group ≡ [] → ⊥) → GroupFits shape group → 0 < length (changes_of shape group)
some_change shape [] some fits = absurd (some refl)
some_change shape (rec ∷ recs) some fits = named shape (rec ∷ recs) (page_of rec) shape.pages (record_page shape rec fits.0) (ap (λ (z : Bool). z || touches (page_of rec) recs) (eq-eqb (page_of rec) (page_of rec) refl))

-- what a user's line changes: nothing, where there is no such line or the log runs alone, or what its group does
record LineChanges (c : Setup) (shape : Shape) (script : List ScriptLine) (user j : ℕ) : Type 0 where
  pub one : ScriptLine
  pub at : slice_get (lines_of_user user script) j ≡ Some one
  pub are : ◌≡◌ {A = List PageChange} (line_at (c.script user) j).changes (cond c.log_only [] (changes_of shape (group_of shape.space one)))

line_changes : (c : Setup) (shape : Shape) (script : List ScriptLine) → IsOfScript c script shape → (user j : ℕ) → LineChanges c shape script user j ⊎ ((length (c.script user) ≤ j) × ◌≡◌ {A = List PageChange} (line_at (c.script user) j).changes [])
line_changes c shape script S user j = elim (dec_le (length (c.script user)) j) [
  | yes past ↦ inr (past, ap (λ (z : Line). z.changes) (get_or_past (c.script user) j (record { mode = 0; bytes = []; changes = [] }) past))
  | no there ↦ (let l = line_below (lines_of_user user script) j (let n = S.count user in omega arith) in inl (record { one = l.0; at = l.1; are = ap (λ (z : Line). z.changes) (S.each user j l.0 l.1) }))
]

module _ (c : Setup) (script : List ScriptLine) (shape : Shape) (limits : IsWithinLimits shape) (pages : c.pages ≡ shape.pages)
    (size : c.page_size ≡ shape.page_size) (slots : c.slots ≡ shape.slots) (S : IsOfScript c script shape)
    (fits : (user k : ℕ) (one : ScriptLine) → slice_get (lines_of_user user script) k ≡ Some one → LineFits shape one) where
  below_by : (b : Bool) (group : List Rec) → PagesBelow shape.page_size shape.pages (cond b [] (changes_of shape group))
  below_by true group = record { there = λ k l. absurd (omega arith); ascending = λ i k lt l. absurd (omega arith); within = λ k i l. absurd (omega arith) }
  below_by false group = pages_below shape limits group shape.pages

  below : (user j : ℕ) → PagesBelow shape.page_size shape.pages (line_at (c.script user) j).changes
  below user j = ⊎_elim (λ z. subst (PagesBelow shape.page_size shape.pages) (sym z.are) (below_by c.log_only (group_of shape.space z.one))) (λ z. subst (PagesBelow shape.page_size shape.pages) (sym z.1) (below_by true [])) (line_changes c shape script S user j)

  none : c.log_only ≡ true → (user j : ℕ) → ◌≡◌ {A = List PageChange} (line_at (c.script user) j).changes []
  none alone user j = ⊎_elim (λ z. z.are ∙ ap (λ (b : Bool). let l : List PageChange = cond b [] (changes_of shape (group_of shape.space z.one)) in l) alone) (λ z. z.1) (line_changes c shape script S user j)

  some : c.log_only ≡ false → (user j : ℕ) → j < length (c.script user) → 0 < length (line_at (c.script user) j).changes
  some with_pages user j there = ⊎_elim
      (λ z. let f = fits user j z.one z.at in
      let are : ◌≡◌ {A = List PageChange} (line_at (c.script user) j).changes (changes_of shape (group_of shape.space z.one)) =
      z.are ∙ ap (λ (b : Bool). let l : List PageChange = cond b [] (changes_of shape (group_of shape.space z.one)) in l) with_pages in
      subst (λ (cs : List PageChange). 0 < length cs) (sym are) (some_change shape (group_of shape.space z.one) f.has_text.some f.fits))
      (λ z. let past = z.0 in absurd (omega arith)) (line_changes c shape script S user j)

  -- the cells of a page ascend and get bytes
  ascend_by : (b : Bool) (group : List Rec) (k : ℕ) → ChangeAscends (change_at (cond b [] (changes_of shape group)) k)
  ascend_by true group k = none_ascends
  ascend_by false group k = changes_ascend shape group k

  ascend : (user j k : ℕ) → ChangeAscends (change_at (line_at (c.script user) j).changes k)
  ascend user j k = ⊎_elim (λ z. subst (λ (cs : List PageChange). ChangeAscends (change_at cs k)) (sym z.are) (ascend_by c.log_only (group_of shape.space z.one) k)) (λ z. subst (λ (cs : List PageChange). ChangeAscends (change_at cs k)) (sym z.1) none_ascends) (line_changes c shape script S user j)

  bytes_by : (b : Bool) (group : List Rec) (k : ℕ) → AllByRecursion HasText group → GetsBytes (change_at (cond b [] (changes_of shape group)) k)
  bytes_by true group k has = λ i. omega arith
  bytes_by false group k has = changes_get_bytes shape group has k

  get_bytes : (user j k : ℕ) → GetsBytes (change_at (line_at (c.script user) j).changes k)
  get_bytes user j k = ⊎_elim (λ z. let f = fits user j z.one z.at in subst (λ (cs : List PageChange). GetsBytes (change_at cs k)) (sym z.are) (bytes_by c.log_only (group_of shape.space z.one) k f.has_text.each)) (λ z. subst (λ (cs : List PageChange). GetsBytes (change_at cs k)) (sym z.1) (λ i. omega arith)) (line_changes c shape script S user j)

  -- each is the text of a group
  texts : (user j : ℕ) → j < length (c.script user) → IsText (line_at (c.script user) j).bytes
  texts user j there =
      let l = line_below (lines_of_user user script) j (let n = S.count user in omega arith) in
      let f = fits user j l.0 l.1 in
      (group_of shape.space l.0, record { is_group = f.has_text; spelled = ap (λ (z : Line). z.bytes) (S.each user j l.0 l.1) })

  -- so they name pages as the running store asks
  pub scripted : IsScripted c
  scripted = record {
    alone = none;
    some_page = some;
    there = λ user j k l. let z = (below user j).there k l in omega arith;
    page_size = subst IsPageSize (sym size) limits.page_size;
    slots = subst (λ (n : ℕ). 1 ≤ n) (sym slots) (slots_within shape limits).some;
    apart = λ user j i k lt l e. let z = (below user j).ascending i k lt l in absurd (omega arith);
    within = λ user j k i l. let z = (below user j).within k i l in omega arith;
    ascending = ascend;
    few_readers = S.few_readers;
    readers = S.readers;
    texts = texts;
    are_bytes = get_bytes;
  }
