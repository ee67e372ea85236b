-- The next word of a frame that records change: between it and where the search began they write nothing.
use Rattle.std.proofs.Common.{Bool, List, None, Option, Some, [], ap, arith, cond, eqb, false, inl, inr, leb, length, ltb, max, min, refl, slice_index, true, ⊎_elim, ℕ, ◌&&◌, ◌*◌, ◌+◌, ◌-◌, ◌/◌, ◌<◌, ◌∙◌, ◌∷◌, ◌≡◌, ◌≤◌, ◌⊎◌}
use Rattle.std.specs.List.{AllByRecursion}
use Rattle.std.specs.Int.{byte_at}
use Rattle.std.specs.Option.{is_some}
use Rattle.std.proofs.lemmas.Bool.{and_cases, and_from, and_parts, cases_lt, le-leb, le-ltb, lt-ltb, ltb-false, ltb-true}
use native.Mathlib.Decide.{dec_le}
use Rattle.model_log.specs.{page_of}
use Rattle.model_log.specs.declared.rec.Rec.{Rec}
use Rattle.model_log.specs.declared.rec.Rec.TheVariants.{Init, Num, Text}
use Rattle.redo_apply.specs.{WritesWithin}
use Rattle.redo_useractor.proofs.Places.{IsNext, header_none}
use Rattle.redo_useractor.proofs.RecordBytes.{row_none}
use Rattle.redo_useractor.specs.Written.{as_cell, cell_byte, cell_list, cells_end, first_cell, first_word, later, next_word, own_byte, recorded_byte, words_end}

-- A RECORD writes from its first cell up to its end
pub low_cell : (n : ℕ) (rec : Rec) → WritesWithin n rec → 38 ≤ first_cell rec
low_cell n (Num width space page offset value) w = w.0
low_cell n (Text space page offset bytes) w = w.0
low_cell n (Init space page) w = omega arith

row_some : (at long j x : ℕ) → at ≤ j → j < at + long → is_some (cond (leb at j && ltb (j - at) long) (Some x) None) ≡ true
row_some at long j x le lt = ap (λ (b : Bool). is_some (let o : Option ℕ = cond b (Some x) None in o)) (and_from (leb at j) (ltb (j - at) long) (le-leb at j le) (lt-ltb (j - at) long (omega arith)))

shifted : (first end c : ℕ) → 38 ≤ first → 38 ≤ c → (c < first) ⊎ (end ≤ c) → (long : ℕ) → end ≡ first + long → (c - 38 < first - 38) ⊎ (first - 38 + long ≤ c - 38)
shifted first end c low lower (inl less) long is = inl (omega arith)
shifted first end c low lower (inr more) long is = inr (omega arith)

own_none : (n : ℕ) (rec : Rec) (c : ℕ) → WritesWithin n rec → 38 ≤ c → (c < first_cell rec) ⊎ (cells_end n rec ≤ c) → own_byte n rec (c - 38) ≡ None
own_none n (Num width space page offset value) c w low out = row_none (offset - 38) width (c - 38) (byte_at (width - 1 - (c - 38 - (offset - 38))) value) (shifted offset (offset + width) c w.0 low out width refl)
own_none n (Text space page offset bytes) c w low out = row_none (offset - 38) (length bytes) (c - 38) (slice_index bytes (c - 38 - (offset - 38))) (shifted offset (offset + length bytes) c w.0 low out (length bytes) refl)
own_none n (Init space page) c w low out = ap (λ (b : Bool). let o : Option ℕ = cond b (Some 0) None in o) (le-ltb (c - 38) n (⊎_elim (λ (l : c < 38). absurd (omega arith)) (λ (m : 38 + n ≤ c). omega arith) out))

pub own_some : (n : ℕ) (rec : Rec) (c : ℕ) → WritesWithin n rec → first_cell rec ≤ c → c < cells_end n rec → is_some (own_byte n rec (c - 38)) ≡ true
own_some n (Num width space page offset value) c w le lt = let a = w.0 in row_some (offset - 38) width (c - 38) (byte_at (width - 1 - (c - 38 - (offset - 38))) value) (omega arith) (omega arith)
own_some n (Text space page offset bytes) c w le lt = let a = w.0 in row_some (offset - 38) (length bytes) (c - 38) (slice_index bytes (c - 38 - (offset - 38))) (omega arith) (omega arith)
own_some n (Init space page) c w le lt = ap (λ (b : Bool). is_some (let o : Option ℕ = cond b (Some 0) None in o)) (lt-ltb (c - 38) n (omega arith))

-- THE FIRST WORD that it changes
abbrev changes_from : ℕ → ℕ → Rec → Bool
changes_from n q rec = ltb (first_cell rec) (cells_end n rec) && ltb (8 * q) (cells_end n rec)

first_own : (n p q : ℕ) (rec : Rec) → eqb (page_of rec) p ≡ true → first_word n p q rec ≡ cond (changes_from n q rec) (max q (first_cell rec / 8)) words_end
first_own n p q rec on = ap (λ (b : Bool). let n : ℕ = cond (b && changes_from n q rec) (max q (first_cell rec / 8)) words_end in n) on

-- up to it nothing is written
pub first_skip : (n p q : ℕ) (rec : Rec) (c : ℕ) → WritesWithin n rec → eqb (page_of rec) p ≡ true → 8 * q ≤ c → c < 8 * first_word n p q rec → 38 ≤ c → own_byte n rec (c - 38) ≡ None
first_skip n p q rec c w on from less low = own_none n rec c w low (by (changes_from n q rec) refl)
  where
    word_is : first_word n p q rec ≡ cond (changes_from n q rec) (max q (first_cell rec / 8)) words_end
    word_is = first_own n p q rec on

    by : (b : Bool) → changes_from n q rec ≡ b → (c < first_cell rec) ⊎ (cells_end n rec ≤ c)
    by true e = inl (let i : first_word n p q rec ≡ max q (first_cell rec / 8) = word_is ∙ ap (λ (b : Bool). let n : ℕ = cond b (max q (first_cell rec / 8)) words_end in n) e in omega arith)
    by false e = ⊎_elim
        (λ (f : ltb (first_cell rec) (cells_end n rec) ≡ false). let g = ltb-false (first_cell rec) (cells_end n rec) f in ⊎_elim (λ (l : c < first_cell rec). inl l) (λ (l : first_cell rec ≤ c). inr (omega arith)) (cases_lt c (first_cell rec)))
        (λ (f : ltb (8 * q) (cells_end n rec) ≡ false). let g = ltb-false (8 * q) (cells_end n rec) f in inr (omega arith))
        (and_cases (ltb (first_cell rec) (cells_end n rec)) (ltb (8 * q) (cells_end n rec)) e)

-- and it holds a cell that is
first_found : (n p q : ℕ) (rec : Rec) → WritesWithin n rec → first_word n p q rec < words_end
    → (eqb (page_of rec) p ≡ true) × ((c : ℕ) × (8 * first_word n p q rec ≤ c) × (c < 8 * first_word n p q rec + 8) × (38 ≤ c) × (is_some (own_byte n rec (c - 38)) ≡ true))
first_found n p q rec w less = by (eqb (page_of rec) p && changes_from n q rec) refl
  where
    by : (b : Bool) → (eqb (page_of rec) p && changes_from n q rec) ≡ b
        → (eqb (page_of rec) p ≡ true) × ((c : ℕ) × (8 * first_word n p q rec ≤ c) × (c < 8 * first_word n p q rec + 8) × (38 ≤ c) × (is_some (own_byte n rec (c - 38)) ≡ true))
    by false e = absurd (let i : first_word n p q rec ≡ words_end = ap (λ (b : Bool). let n : ℕ = cond b (max q (first_cell rec / 8)) words_end in n) e in omega arith)
    by true e =
        let parts = and_parts (eqb (page_of rec) p) (changes_from n q rec) e in
        let both = and_parts (ltb (first_cell rec) (cells_end n rec)) (ltb (8 * q) (cells_end n rec)) parts.1 in
        let some = ltb-true (first_cell rec) (cells_end n rec) both.0 in
        let from = ltb-true (8 * q) (cells_end n rec) both.1 in
        let low = low_cell n rec w in
        let i : first_word n p q rec ≡ max q (first_cell rec / 8) = ap (λ (b : Bool). let n : ℕ = cond b (max q (first_cell rec / 8)) words_end in n) e in
        let c : ℕ = max (8 * q) (first_cell rec) in
        (parts.0, (c, omega arith, omega arith, omega arith, own_some n rec c w (omega arith) (omega arith)))

first_from : (n p q : ℕ) (rec : Rec) → q ≤ words_end → q ≤ first_word n p q rec
first_from n p q rec le = by (eqb (page_of rec) p && changes_from n q rec)
  where
    by : (b : Bool) → q ≤ cond b (max q (first_cell rec / 8)) words_end
    by true = omega arith
    by false = le

-- THE NEXT WORD
least : (n p q : ℕ) (recs : List Rec) (best : ℕ) → next_word n p q recs best ≤ best
least n p q [] best = omega arith
least n p q (rec ∷ recs) best = let l = least n p q recs (min best (first_word n p q rec)) in omega arith

not_below : (n p q : ℕ) (recs : List Rec) (best : ℕ) → q ≤ words_end → q ≤ best → q ≤ next_word n p q recs best
not_below n p q [] best le from = from
not_below n p q (rec ∷ recs) best le from = not_below n p q recs (min best (first_word n p q rec)) le (let f = first_from n p q rec le in omega arith)

skips : (n p q : ℕ) (recs : List Rec) (best c : ℕ) (acc : Option ℕ) → AllByRecursion (WritesWithin n) recs → 8 * q ≤ c → 38 ≤ c → c < 8 * next_word n p q recs best → recorded_byte n p recs (c - 38) acc ≡ acc
skips n p q [] best c acc w from low less = refl
skips n p q (rec ∷ recs) best c acc w from low less =
    skips n p q recs (min best (first_word n p q rec)) c (cond (eqb (page_of rec) p) (later (own_byte n rec (c - 38)) acc) acc) w.1 from low less
    ∙ by (eqb (page_of rec) p) refl
  where
    by : (b : Bool) → eqb (page_of rec) p ≡ b → cond b (later (own_byte n rec (c - 38)) acc) acc ≡ acc
    by false e = refl
    by true e = let l = least n p q recs (min best (first_word n p q rec)) in ap (λ (o : Option ℕ). later o acc) (first_skip n p q rec c w.0 e from (omega arith) low)

keeps : (n p : ℕ) (recs : List Rec) (j : ℕ) (acc : Option ℕ) → is_some acc ≡ true → is_some (recorded_byte n p recs j acc) ≡ true
keeps n p [] j acc some = some
keeps n p (rec ∷ recs) j acc some = keeps n p recs j (cond (eqb (page_of rec) p) (later (own_byte n rec j) acc) acc) (by (eqb (page_of rec) p) (own_byte n rec j))
  where
    by : (b : Bool) (own : Option ℕ) → is_some (cond b (later own acc) acc) ≡ true
    by false own = some
    by true None = some
    by true (Some v) = refl

abbrev Found : ℕ → ℕ → List Rec → ℕ → (ℕ → Option ℕ) → Type 0
Found n p recs next acc = (c : ℕ) × (8 * next ≤ c) × (c < 8 * next + 8) × (38 ≤ c) × (is_some (recorded_byte n p recs (c - 38) (acc (c - 38))) ≡ true)

finds : (n p q : ℕ) (recs : List Rec) (best : ℕ) (acc : ℕ → Option ℕ) → AllByRecursion (WritesWithin n) recs → best ≤ words_end → next_word n p q recs best < best → Found n p recs (next_word n p q recs best) acc
finds n p q [] best acc w few less = absurd (omega arith)
finds n p q (rec ∷ recs) best acc w few less =
    by (dec_le (min best (first_word n p q rec)) (next_word n p q recs (min best (first_word n p q rec))))
    (λ further. finds n p q recs (min best (first_word n p q rec)) (λ (j : ℕ). cond (eqb (page_of rec) p) (later (own_byte n rec j) (acc j)) (acc j)) w.1 (omega arith) further)
  where
    its : (next : ℕ) → next ≡ first_word n p q rec → first_word n p q rec < words_end → Found n p (rec ∷ recs) next acc
    its next is small = let f = first_found n p q rec w.0 small in let t = f.1 in (
      t.0,
      (let le = t.1 in omega arith),
      (let lt = t.2 in omega arith),
      t.3,
      keeps n p recs (t.0 - 38) (cond (eqb (page_of rec) p) (later (own_byte n rec (t.0 - 38)) (acc (t.0 - 38))) (acc (t.0 - 38)))
          (ap (λ (b : Bool). is_some (let o : Option ℕ = cond b (later (own_byte n rec (t.0 - 38)) (acc (t.0 - 38))) (acc (t.0 - 38)) in o)) f.0 ∙ own (own_byte n rec (t.0 - 38)) (acc (t.0 - 38)) t.4),
    )
      where
        own : (o old : Option ℕ) → is_some o ≡ true → is_some (later o old) ≡ true
        own None old e = absurd (cc)
        own (Some v) old e = refl

    by : Dec (min best (first_word n p q rec) ≤ next_word n p q recs (min best (first_word n p q rec)))
        → (next_word n p q recs (min best (first_word n p q rec)) < min best (first_word n p q rec) → Found n p (rec ∷ recs) (next_word n p q recs (min best (first_word n p q rec))) acc)
        → Found n p (rec ∷ recs) (next_word n p q recs (min best (first_word n p q rec))) acc
    by (no d) later_one = later_one (omega arith)
    by (yes d) later_one = let l = least n p q recs (min best (first_word n p q rec)) in its (next_word n p q recs (min best (first_word n p q rec))) (omega arith) (omega arith)

pub is_next : (n p q : ℕ) (recs : List Rec) → AllByRecursion (WritesWithin n) recs → q ≤ words_end → IsNext n p recs q (next_word n p q recs words_end)
is_next n p q recs w le = record {
  above = not_below n p q recs words_end le le;
  within = least n p q recs words_end;
  none = λ c from less. none c from less (dec_le 38 c);
  some = λ less. (let f = finds n p q recs words_end (λ j. None) w (omega arith) less in (f.0, f.1, f.2, cell_some f.0 f.3 f.4));
}
  where
    none : (c : ℕ) → 8 * q ≤ c → c < 8 * next_word n p q recs words_end → Dec (38 ≤ c) → cell_list n p recs c ≡ []
    none c from less (no d) = header_none n p recs c (omega arith)
    none c from less (yes d) =
        ap (λ (b : Bool). as_cell c (let o : Option ℕ = cond b None (recorded_byte n p recs (c - 38) None) in o)) (le-ltb c 38 d)
        ∙ ap (as_cell c) (skips n p q recs words_end c None w from d less)

    one : (c : ℕ) (o : Option ℕ) → is_some o ≡ true → 0 < length (as_cell c o)
    one c None e = absurd (cc)
    one c (Some v) e = omega arith

    cell_some : (c : ℕ) → 38 ≤ c → is_some (recorded_byte n p recs (c - 38) None) ≡ true → 0 < length (cell_list n p recs c)
    cell_some c low some = one c (cell_byte n p recs c) (ap (λ (b : Bool). is_some (let o : Option ℕ = cond b None (recorded_byte n p recs (c - 38) None) in o)) (le-ltb c 38 low) ∙ some)
