-- The groups of a legal history that end at or below an lsn stand in front.
use Rattle.std.proofs.Common.{Bool, List, [], ap, arith, cond, false, length, refl, suc, sym, take, true, ℕ, ◌+◌, ◌++◌, ◌<◌, ◌∙◌, ◌∷◌, ◌≡◌}
use Rattle.std.proofs.lemmas.Bool.{leb-false, leb-true}
use Rattle.std.proofs.lemmas.List.Sums.{sum_by-cons}
use Rattle.std.specs.Prelude.{nat_le}
use Rattle.model_core.specs.{Given}
use Rattle.model_log.proofs.Runs.{First, first-of, run-first, stream-first, stream-none}
use Rattle.model_log.specs.{group_text, groups_of, IsDataLsn, IsRunOf, stream_of}
use Rattle.model_log.specs.declared.group.Whole.{Whole}
use Rattle.model_report.specs.{count_up_to, whole_of, wholes_of}
use Rattle.model_report.specs.declared.entry.Entry.{Entry}
use Rattle.model_script.specs.declared.script.ScriptLine.{ScriptLine}
use Rattle.redo_drive.specs.Followed.{given_of, given_upto}
use Rattle.redo_follow.specs.{joined_given}

module _ (script : List ScriptLine) (space lsn : ℕ) where
  abbrev wholes : List Entry → List Whole
  wholes entries = wholes_of script space entries

  -- those that end at or below the lsn are as many as its entries that do, and are the first so many
  pub record AreInFront (entries : List Entry) : Type 0 where
    pub count : length (given_upto lsn (wholes entries)) ≡ count_up_to lsn entries
    pub texts : joined_given (given_upto lsn (wholes entries))
        ≡ stream_of (groups_of (take (count_up_to lsn entries) (wholes entries)))

  count-cons : (entry : Entry) (entries : List Entry)
      → count_up_to lsn (entry ∷ entries) ≡ cond (nat_le entry.end lsn) 1 0 + count_up_to lsn entries
  count-cons entry entries = sum_by-cons (λ (one : Entry). cond (nat_le one.end lsn) 1 0) entry entries

  -- one that ends at or below it, and one that doesn't
  abbrev first_given : Bool → Whole → List Given → List Given
  first_given b whole others = cond b (given_of whole ∷ others) others

  count-by : (b : Bool) (entry : Entry) (entries : List Entry) → nat_le entry.end lsn ≡ b
      → count_up_to lsn (entry ∷ entries) ≡ cond b 1 0 + count_up_to lsn entries
  count-by b entry entries is =
      count-cons entry entries ∙ ap (λ (b : Bool). cond b 1 0 + count_up_to lsn entries) is

  given-by : (b : Bool) (entry : Entry) (entries : List Entry) → nat_le entry.end lsn ≡ b
      → ◌≡◌ {A = List Given} (given_upto lsn (wholes (entry ∷ entries)))
      (first_given b (whole_of script space entry) (given_upto lsn (wholes entries)))
  given-by b entry entries is =
      ap (λ (b : Bool). first_given b (whole_of script space entry) (given_upto lsn (wholes entries))) is

  -- of those behind it none ends at or below it
  record AreAbove (entries : List Entry) : Type 0 where
    count : count_up_to lsn entries ≡ 0
    given : ◌≡◌ {A = List Given} (given_upto lsn (wholes entries)) []

  above-by : (b : Bool) (s : ℕ) (entry : Entry) (entries : List Entry) → nat_le entry.end lsn ≡ b → lsn < entry.end
      → AreAbove entries → AreAbove (entry ∷ entries)
  above-by true s entry entries is above others = absurd (omega (arith, leb-true entry.end lsn is, above))
  above-by false s entry entries is above others = record {
    count = omega (arith, count-by false entry entries is, others.count);
    given = given-by false entry entries is ∙ others.given;
  }

  above-from : (s : ℕ) (entries : List Entry) → IsDataLsn s → IsRunOf s (wholes entries) → lsn < s → AreAbove entries
  above-from s [] place run above = record { count = refl; given = refl }
  above-from s (entry ∷ entries) place run above =
      let whole : Whole = whole_of script space entry in
      let first : First s whole = first-of s whole (wholes entries) place run in
      let later : lsn < entry.end = omega (arith, first.rises, above) in
      above-by (nat_le entry.end lsn) s entry entries refl later
      (above-from entry.end entries first.place (run-first run).2 later)

  none-in-front : (entries : List Entry) → AreAbove entries → AreInFront entries
  none-in-front entries above =
      let none : stream_of (groups_of (take (count_up_to lsn entries) (wholes entries))) ≡ [] =
      ap (λ (n : ℕ). stream_of (groups_of (take n (wholes entries)))) above.count ∙ stream-none in
      record {
        count = ap length above.given ∙ sym above.count;
        texts = ap joined_given above.given ∙ sym none;
      }

  front-by : (b : Bool) (entry : Entry) (entries : List Entry) → nat_le entry.end lsn ≡ b → IsDataLsn entry.end
      → IsRunOf entry.end (wholes entries) → AreInFront entries → AreInFront (entry ∷ entries)
  front-by true entry entries is place run others =
      let whole : Whole = whole_of script space entry in
      let n : ℕ = count_up_to lsn entries in
      let given = given-by true entry entries is in
      let count : count_up_to lsn (entry ∷ entries) ≡ suc n = omega (arith, count-by true entry entries is) in
      let streams : stream_of (groups_of (take (count_up_to lsn (entry ∷ entries)) (wholes (entry ∷ entries))))
      ≡ group_text whole.group ++ stream_of (groups_of (take n (wholes entries))) =
      ap (λ (k : ℕ). stream_of (groups_of (take k (wholes (entry ∷ entries))))) count
      ∙ stream-first whole (take n (wholes entries)) in
      record {
        count = ap length given ∙ ap suc others.count ∙ sym count;
        texts = ap joined_given given ∙ ap (λ (bytes : List ℕ). group_text whole.group ++ bytes) others.texts
            ∙ sym streams;
      }
  front-by false entry entries is place run others =
      let later : lsn < entry.end = leb-false entry.end lsn is in
      none-in-front (entry ∷ entries)
      (above-by false entry.end entry entries is later (above-from entry.end entries place run later))

  pub in-front : (s : ℕ) (entries : List Entry) → IsDataLsn s → IsRunOf s (wholes entries) → AreInFront entries
  in-front s [] place run = none-in-front [] (record { count = refl; given = refl })
  in-front s (entry ∷ entries) place run =
      let whole : Whole = whole_of script space entry in
      let first : First s whole = first-of s whole (wholes entries) place run in
      front-by (nat_le entry.end lsn) entry entries refl first.place (run-first run).2
      (in-front entry.end entries first.place (run-first run).2)
