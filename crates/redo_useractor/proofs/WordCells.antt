-- The cells of a word that are written, one lane more.
use Rattle.std.proofs.Common.{List, None, Option, Some, [], add-one, ap, arith, false, length, length-append, refl, sym, true, ℕ, ◌%◌, ◌*◌, ◌++◌, ◌+◌, ◌<◌, ◌∙◌, ◌∷◌, ◌≡◌}
use Rattle.std.proofs.lemmas.List.{append-nil}
use Rattle.std.specs.Option.{is_some}
use Rattle.std.specs.Prelude.{slice_set}
unfoldable use Rattle.model_core.specs.Changes.{collected}
use Rattle.model_core.specs.{CellWrite, put_lanes}
use Rattle.model_log.specs.declared.rec.Rec.{Rec}
use Rattle.redo_useractor.proofs.Parts.{collected_none, collected_suc}
use Rattle.redo_useractor.specs.Written.{as_cell, cell_byte, cell_list}

put_append : (xs ys : List CellWrite) (l : List ℕ) → put_lanes (xs ++ ys) l ≡ put_lanes ys (put_lanes xs l)
put_append [] ys l = refl
put_append (x ∷ xs) ys l = put_append xs ys (slice_set l (x.at % 8) x.value)

module _ (n p : ℕ) (recs : List Rec) (q : ℕ) where
  -- the written cells of so many lanes
  abbrev pub lane_cells : ℕ → List CellWrite
  lane_cells count = collected (λ (lane : ℕ). cell_list n p recs (8 * q + lane)) count

  pub no_lane : lane_cells 0 ≡ []
  no_lane = collected_none (λ (lane : ℕ). cell_list n p recs (8 * q + lane))

  more : (lane : ℕ) (o : Option ℕ) → o ≡ cell_byte n p recs (8 * q + lane) → collected (λ (i : ℕ). cell_list n p recs (8 * q + i)) (lane + 1) ≡ collected (λ (i : ℕ). cell_list n p recs (8 * q + i)) lane ++ as_cell (8 * q + lane) o
  more lane o is = ap (collected (λ (i : ℕ). cell_list n p recs (8 * q + i))) (add-one lane) ∙ collected_suc (λ (i : ℕ). cell_list n p recs (8 * q + i)) lane
      ∙ ap (λ (x : Option ℕ). collected (λ (i : ℕ). cell_list n p recs (8 * q + i)) lane ++ as_cell (8 * q + lane) x) (sym is)

  none_more : (lane : ℕ) → None ≡ cell_byte n p recs (8 * q + lane) → collected (λ (i : ℕ). cell_list n p recs (8 * q + i)) (lane + 1) ≡ collected (λ (i : ℕ). cell_list n p recs (8 * q + i)) lane
  none_more lane is = more lane None is ∙ append-nil (collected (λ (i : ℕ). cell_list n p recs (8 * q + i)) lane)

  -- counted
  pub counted_some : (lane count : ℕ) (o : Option ℕ) → o ≡ cell_byte n p recs (8 * q + lane) → is_some o ≡ true
      → count ≡ length (collected (λ (i : ℕ). cell_list n p recs (8 * q + i)) lane) → count + 1 ≡ length (collected (λ (i : ℕ). cell_list n p recs (8 * q + i)) (lane + 1))
  counted_some lane count None is some counted = absurd (cc)
  counted_some lane count (Some v) is some counted = omega (arith, ap length (more lane (Some v) is) ∙ length-append (collected (λ (i : ℕ). cell_list n p recs (8 * q + i)) lane) (as_cell (8 * q + lane) (Some v)))

  pub counted_none : (lane count : ℕ) (o : Option ℕ) → o ≡ cell_byte n p recs (8 * q + lane) → is_some o ≡ false
      → count ≡ length (collected (λ (i : ℕ). cell_list n p recs (8 * q + i)) lane) → count ≡ length (collected (λ (i : ℕ). cell_list n p recs (8 * q + i)) (lane + 1))
  counted_none lane count None is none counted = counted ∙ ap length (sym (none_more lane is))
  counted_none lane count (Some v) is none counted = absurd (cc)

  -- stored in their lanes
  pub put_some : (lane v : ℕ) (l old : List ℕ) → lane < 8 → Some v ≡ cell_byte n p recs (8 * q + lane)
      → l ≡ put_lanes (collected (λ (i : ℕ). cell_list n p recs (8 * q + i)) lane) old → slice_set l lane v ≡ put_lanes (collected (λ (i : ℕ). cell_list n p recs (8 * q + i)) (lane + 1)) old
  put_some lane v l old lt is stored =
      ap (λ (i : ℕ). slice_set l i v) (let e : lane ≡ (8 * q + lane) % 8 = omega arith in e)
      ∙ ap (λ (xs : List ℕ). slice_set xs ((8 * q + lane) % 8) v) stored
      ∙ sym (ap (λ (xs : List CellWrite). put_lanes xs old) (more lane (Some v) is) ∙ put_append (collected (λ (i : ℕ). cell_list n p recs (8 * q + i)) lane) (as_cell (8 * q + lane) (Some v)) old)

  pub put_none : (lane : ℕ) (l old : List ℕ) → None ≡ cell_byte n p recs (8 * q + lane)
      → l ≡ put_lanes (collected (λ (i : ℕ). cell_list n p recs (8 * q + i)) lane) old → l ≡ put_lanes (collected (λ (i : ℕ). cell_list n p recs (8 * q + i)) (lane + 1)) old
  put_none lane l old is stored = stored ∙ ap (λ (xs : List CellWrite). put_lanes xs old) (sym (none_more lane is))
