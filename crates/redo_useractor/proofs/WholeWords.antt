-- Words that one record covers, and none behind it changes.
use Rattle.std.proofs.Common.{Bool, List, None, Option, Some, [], ap, arith, cond, drop, eqb, false, length, refl, subst, suc, sym, take, true, zero, ℕ, ◌*◌, ◌++◌, ◌+◌, ◌-◌, ◌/◌, ◌<◌, ◌∙◌, ◌∷◌, ◌≡◌, ◌≤◌}
use Rattle.std.proofs.lemmas.Bool.{le-ltb}
use Rattle.std.proofs.lemmas.List.{append-nil, drop_all, take_all}
use Rattle.std.specs.List.{AllByRecursion}
use native.Mathlib.Decide.{dec_le}
use Rattle.std.specs.Option.{is_some}
use Rattle.std.specs.Prelude.{slice_index, slice_set}
use Rattle.model_core.specs.{CellWrite, collected, put_lanes}
use Rattle.model_log.specs.{page_of}
use Rattle.model_log.specs.declared.rec.Rec.{Rec}
use Rattle.redo_apply.specs.{WritesWithin}
use Rattle.redo_useractor.proofs.Places.{IsNext}
use Rattle.redo_useractor.proofs.Skipped.{first_skip, low_cell, own_some}
use Rattle.redo_useractor.proofs.WordCells.{counted_some, no_lane, put_some}
use Rattle.redo_useractor.specs.Runs.{Covers, IsRun, IsWhole, rec_at}
use Rattle.redo_useractor.specs.Words.{word_cells}
use Rattle.redo_useractor.specs.Written.{as_cell, cell_byte, cell_list, cells_end, first_word, later, own_byte, recorded_byte, words_end}

-- each record writes within its page
within_at : (n : ℕ) (recs : List Rec) (k : ℕ) → AllByRecursion (WritesWithin n) recs → k < length recs → WritesWithin n (rec_at recs k)
within_at n [] k w lt = absurd (omega arith)
within_at n (rec ∷ recs) zero w lt = w.0
within_at n (rec ∷ recs) (suc k) w lt = within_at n recs k w.1 (omega arith)

-- WHAT THE RECORDS LEAVE at a byte
module _ (n p j : ℕ) where
  -- none of these writes there
  abbrev NoneWrite : List Rec → Type 0
  NoneWrite recs = (i : ℕ) → i < length recs → eqb (page_of (rec_at recs i)) p ≡ true → own_byte n (rec_at recs i) j ≡ None

  one_left : (own acc : Option ℕ) (b : Bool) → (b ≡ true → own ≡ None) → cond b (later own acc) acc ≡ acc
  one_left own acc true none = ap (λ (o : Option ℕ). later o acc) (none refl)
  one_left own acc false none = refl

  all_left : (recs : List Rec) (acc : Option ℕ) → NoneWrite recs → recorded_byte n p recs j acc ≡ acc
  all_left [] acc none = refl
  all_left (rec ∷ recs) acc none =
      all_left recs (cond (eqb (page_of rec) p) (later (own_byte n rec j) acc) acc) (λ i lt on. none (suc i) (omega arith) on)
      ∙ one_left (own_byte n rec j) acc (eqb (page_of rec) p) (λ on. none 0 (omega arith) on)

  taken : (own acc : Option ℕ) → is_some own ≡ true → later own acc ≡ own
  taken None acc some = absurd (cc)
  taken (Some v) acc some = refl

  -- a record writes there, and none of those behind it
  pub last_left : (recs : List Rec) (k : ℕ) (acc : Option ℕ) → k < length recs → eqb (page_of (rec_at recs k)) p ≡ true
      → is_some (own_byte n (rec_at recs k) j) ≡ true
      → ((i : ℕ) → k < i → i < length recs → eqb (page_of (rec_at recs i)) p ≡ true → own_byte n (rec_at recs i) j ≡ None)
      → recorded_byte n p recs j acc ≡ own_byte n (rec_at recs k) j
  last_left [] k acc lt on some none = absurd (omega arith)
  last_left (rec ∷ recs) zero acc lt on some none =
      all_left recs (cond (eqb (page_of rec) p) (later (own_byte n rec j) acc) acc) (λ i less its. none (suc i) (omega arith) (omega arith) its)
      ∙ ap (λ (b : Bool). cond b (later (own_byte n rec j) acc) acc) on ∙ taken (own_byte n rec j) acc some
  last_left (rec ∷ recs) (suc k) acc lt on some none =
      last_left recs k (cond (eqb (page_of rec) p) (later (own_byte n rec j) acc) acc) (omega arith) on some
      (λ i more less its. none (suc i) (omega arith) (omega arith) its)

-- THE SEARCH for a run: of so many records the one with this number covers the words from the first up to the end, and none behind it
-- changes them
pub record CoversAlone (n p : ℕ) (recs : List Rec) (count number q : ℕ) : Type 0 where
  pub there : number < count
  pub on : eqb (page_of (rec_at recs number)) p ≡ true
  pub covers : Covers n q (rec_at recs number)
  pub alone : (i : ℕ) → number < i → i < count → eqb (page_of (rec_at recs i)) p ≡ true
      → (c : ℕ) → 8 * q ≤ c → c < 8 * q + 8 → own_byte n (rec_at recs i) (c - 38) ≡ None

abbrev pub RunOf : ℕ → ℕ → List Rec → ℕ → ℕ → ℕ → ℕ → Type 0
RunOf n p recs count number first end = (q : ℕ) → first ≤ q → q < end → CoversAlone n p recs count number q

module _ (n p : ℕ) (recs : List Rec) (w : AllByRecursion (WritesWithin n) recs) where
  -- a further one covers them
  pub run_new : (k first end : ℕ) (rec : Rec) → rec ≡ rec_at recs k → eqb (page_of rec) p ≡ true → Covers n first rec → end ≡ cells_end n rec / 8
      → RunOf n p recs (k + 1) k first end
  run_new k first end rec is on covers ends q le lt = record {
    there = omega arith;
    on = subst (λ (r : Rec). eqb (page_of r) p ≡ true) is on;
    covers = subst (Covers n q) is (let from = covers.from in record { from = omega arith; to = omega arith });
    alone = λ i more less. absurd (omega arith);
  }

  -- a further one changes none below the word that it changes first
  pub run_kept : (k number first end more : ℕ) (rec : Rec) → k < length recs → rec ≡ rec_at recs k → more ≤ end → more ≤ first_word n p first rec
      → RunOf n p recs k number first end → RunOf n p recs (k + 1) number first more
  run_kept k number first end more rec here is shorter before run q le lt =
      let old = run q le (omega arith) in
      let there = old.there in
      let low = low_cell n (rec_at recs number) (within_at n recs number w (omega arith)) in
      let from = old.covers.from in record {
        there = omega arith;
        on = old.on;
        covers = old.covers;
        alone = λ i above less on c lo hi. by i above less on c lo hi (dec_le k i);
      }
    where
      by : (i : ℕ) → number < i → i < k + 1 → eqb (page_of (rec_at recs i)) p ≡ true → (c : ℕ) → 8 * q ≤ c → c < 8 * q + 8 → Dec (k ≤ i)
          → own_byte n (rec_at recs i) (c - 38) ≡ None
      by i above less on c lo hi (no d) = (run q le (omega arith)).alone i above (omega arith) on c lo hi
      by i above less on c lo hi (yes d) =
          let e : k ≡ i = omega arith in
          let its : rec ≡ rec_at recs i = is ∙ ap (rec_at recs) e in
          let old = run q le (omega arith) in
          let there = old.there in
          let low = low_cell n (rec_at recs number) (within_at n recs number w (omega arith)) in
          let from = old.covers.from in
          subst (λ (r : Rec). own_byte n r (c - 38) ≡ None) its
          (first_skip n p first rec c (subst (WritesWithin n) (sym is) (within_at n recs k w here))
          (subst (λ (r : Rec). eqb (page_of r) p ≡ true) (sym its) on) (omega arith) (omega arith) (omega arith))

  -- all have been looked at
  pub run_found : (number first end : ℕ) → RunOf n p recs (length recs) number first end → IsRun n p recs number first end
  run_found number first end run q le lt =
      let one = run q le lt in
      let within = within_at n recs number w one.there in
      let low = low_cell n (rec_at recs number) within in
      let from = one.covers.from in
      let to = one.covers.to in record {
        there = one.there;
        covers = one.covers;
        cells = λ c lo hi.
            ap (λ (b : Bool). let o : Option ℕ = cond b None (recorded_byte n p recs (c - 38) None) in o) (le-ltb c 38 (omega arith))
            ∙ last_left n p (c - 38) recs number None one.there one.on (own_some n (rec_at recs number) c within (omega arith) (omega arith))
            (λ i above less on. one.alone i above less on c lo hi);
      }

  -- A WORD that one record covers
  module _ (number q : ℕ) (whole : IsWhole n p recs number q) where
    pub cell_there : (lane : ℕ) → lane < 8 → is_some (cell_byte n p recs (8 * q + lane)) ≡ true
    cell_there lane lt =
        let from = whole.covers.from in
        let to = whole.covers.to in
        ap is_some (whole.cells (8 * q + lane) (omega arith) (omega arith))
        ∙ own_some n (rec_at recs number) (8 * q + lane) (within_at n recs number w whole.there) (omega arith) (omega arith)

    counted_to : (lanes : ℕ) → lanes ≤ 8 → lanes ≡ length (collected (λ (i : ℕ). cell_list n p recs (8 * q + i)) lanes)
    counted_to zero le = ap length (sym (no_lane n p recs q))
    counted_to (suc lanes) le =
        let e : suc lanes ≡ lanes + 1 = omega arith in
        e ∙ counted_some n p recs q lanes lanes (cell_byte n p recs (8 * q + lanes)) refl (cell_there lanes (omega arith)) (counted_to lanes (omega arith))
        ∙ ap (λ (k : ℕ). length (collected (λ (i : ℕ). cell_list n p recs (8 * q + i)) k)) (sym e)

    pub all_counted : 8 ≡ length (word_cells n p recs q)
    all_counted = counted_to 8 (omega arith)

    -- it is the next one that they change
    pub next_here : q ≤ words_end → IsNext n p recs q q
    next_here le = record {
      above = omega arith;
      within = le;
      none = λ c lo hi. absurd (omega arith);
      some = λ lt. (8 * q, omega arith, omega arith, one (8 * q) (cell_byte n p recs (8 * q)) first);
    }
      where
        first : is_some (cell_byte n p recs (8 * q)) ≡ true
        first = subst (λ (c : ℕ). is_some (cell_byte n p recs c) ≡ true) (let e : 8 * q + 0 ≡ 8 * q = omega arith in e) (cell_there 0 (omega arith))

        one : (c : ℕ) (o : Option ℕ) → is_some o ≡ true → 0 < length (as_cell c o)
        one c None some = absurd (cc)
        one c (Some v) some = omega arith

    -- its eight bytes are what stands in its cells
    pub eight_are : (rec : Rec) (bytes : List ℕ) → rec ≡ rec_at recs number
        → ((lane : ℕ) → lane < 8 → own_byte n rec (8 * q + lane - 38) ≡ Some (slice_index bytes lane))
        → (lane : ℕ) → lane < 8 → Some (slice_index bytes lane) ≡ cell_byte n p recs (8 * q + lane)
    eight_are rec bytes is are lane lt =
        sym (whole.cells (8 * q + lane) (omega arith) (omega arith) ∙ ap (λ (r : Rec). own_byte n r (8 * q + lane - 38)) (sym is) ∙ are lane lt)

  -- STORED LANE BY LANE, the eight bytes are what stands there
  set_next : (xs old : List ℕ) (k : ℕ) → k < length xs → k < length old
      → slice_set (take k xs ++ drop k old) k (slice_index xs k) ≡ take (suc k) xs ++ drop (suc k) old
  set_next [] old k lt less = absurd (omega arith)
  set_next (x ∷ xs) [] k lt less = absurd (omega arith)
  set_next (x ∷ xs) (y ∷ old) zero lt less = refl
  set_next (x ∷ xs) (y ∷ old) (suc k) lt less = ap (λ (l : List ℕ). x ∷ l) (set_next xs old k (omega arith) (omega arith))

  module _ (q : ℕ) (bytes old : List ℕ) (eight : length bytes ≡ 8) (wide : length old ≡ 8)
      (are : (lane : ℕ) → lane < 8 → Some (slice_index bytes lane) ≡ cell_byte n p recs (8 * q + lane)) where
    put_to : (lanes : ℕ) → lanes ≤ 8 → take lanes bytes ++ drop lanes old ≡ put_lanes (collected (λ (i : ℕ). cell_list n p recs (8 * q + i)) lanes) old
    put_to zero le = sym (ap (λ (xs : List CellWrite). put_lanes xs old) (no_lane n p recs q))
    put_to (suc lanes) le =
        let e : suc lanes ≡ lanes + 1 = omega arith in
        sym (set_next bytes old lanes (omega arith) (omega arith))
        ∙ put_some n p recs q lanes (slice_index bytes lanes) (take lanes bytes ++ drop lanes old) old (omega arith) (are lanes (omega arith)) (put_to lanes (omega arith))
        ∙ ap (λ (k : ℕ). put_lanes (collected (λ (i : ℕ). cell_list n p recs (8 * q + i)) k) old) (sym e)

    pub all_put : bytes ≡ put_lanes (word_cells n p recs q) old
    all_put = whole_of bytes old eight wide ∙ put_to 8 (omega arith)
      where
        whole_of : (xs ys : List ℕ) → length xs ≡ 8 → length ys ≡ 8 → xs ≡ take 8 xs ++ drop 8 ys
        whole_of xs ys a b = sym (ap (λ (l : List ℕ). l ++ drop 8 ys) (take_all 8 xs (omega arith)) ∙ ap (λ (l : List ℕ). xs ++ l) (drop_all 8 ys (omega arith)) ∙ append-nil xs)
