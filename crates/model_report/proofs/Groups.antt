-- The groups of a history, and how many of them end at or below a mark.
use Rattle.std.proofs.Common.{◌≡◌, ℕ, zero, suc, ◌+◌, ◌<◌, ◌≤◌, true, false, cond, List, [], ◌∷◌, ◌++◌, length, take, filter, Some, slice_get, arith, refl, sym, ap, ◌∙◌, subst}
use Rattle.std.specs.Prelude.{nat_le}
use Rattle.std.specs.List.{AllByRecursion}
use Rattle.std.proofs.lemmas.Bool.{le-leb, lt-leb}
use Rattle.std.proofs.lemmas.List.{take-append-le, take_all}
use Rattle.std.proofs.lemmas.List.Sums.{length-filter}
use Rattle.model_log.specs.declared.rec.Rec.{Rec}
use Rattle.model_log.specs.declared.group.Whole.{Whole}
use Rattle.model_log.specs.{group_length, HasItsLength, IsBoundary, IsRunOf, IsTiled, lsn_of, sn_of, Span, spans_of}
use Rattle.model_script.specs.{group_of}
use Rattle.model_script.specs.declared.script.ScriptLine.{ScriptLine}
use Rattle.model_report.specs.Legal.{IsLegal, IsLegalEntry, IsOfLine, entry_span, entry_spans, group_of_line, whole_of, wholes_of, count_up_to}
use Rattle.model_report.specs.declared.entry.Entry.{Entry}
use Rattle.model_report.specs.declared.entry.Marks.{Marks}

-- what holds of the element at each index holds of all
pub all-from : {X : Type 0} (P : X → Type 0) (xs : List X) → ((i : ℕ) (x : X) → slice_get xs i ≡ Some x → P x) → AllByRecursion P xs
all-from P [] each = tt
all-from P (x ∷ xs) each = (each 0 x refl, all-from P xs (λ i y at. each (suc i) y at))

-- and the other way
pub all-at : {X : Type 0} (P : X → Type 0) (xs : List X) (i : ℕ) (x : X) → AllByRecursion P xs → slice_get xs i ≡ Some x → P x
all-at P [] i x all at = absurd (cc)
all-at P (y ∷ ys) zero x all at = let same : y ≡ x = cc in subst P same all.0
all-at P (y ∷ ys) (suc i) x all at = all-at P ys i x all.1 at

-- an entry stands for some line of its user
pub record HasLine (script : List ScriptLine) (space : ℕ) (entry : Entry) : Type 0 where
  pub line : ScriptLine
  pub of_line : IsOfLine script space entry line

pub have-lines : (script : List ScriptLine) (space s : ℕ) (marks : Marks) (entries : List Entry) → IsLegal script space s marks entries
    → AllByRecursion (HasLine script space) entries
have-lines script space s marks entries legal =
    all-from (HasLine script space) entries (λ i entry at.
    let here : IsLegalEntry script space marks entry = legal.each i entry at in
    record { line = here.line; of_line = here.of_line })

-- the group of an entry is that of its line
pub group-is : (script : List ScriptLine) (space : ℕ) (entry : Entry) (line : ScriptLine) → IsOfLine script space entry line
    → (whole_of script space entry).group ≡ group_of space line
group-is script space entry line is = ap (group_of_line space) is.line_is

-- an entry's group stands where the entry does
pub spans-wholes : (script : List ScriptLine) (space : ℕ) (entries : List Entry) → spans_of (wholes_of script space entries) ≡ entry_spans entries
spans-wholes script space [] = refl
spans-wholes script space (entry ∷ entries) = ap (λ (spans : List Span). entry_span entry ∷ spans) (spans-wholes script space entries)

lengths-from : (script : List ScriptLine) (space : ℕ) (entries : List Entry) → AllByRecursion (HasLine script space) entries
    → AllByRecursion HasItsLength (wholes_of script space entries)
lengths-from script space [] lines = tt
lengths-from script space (entry ∷ entries) lines = (
  lines.0.of_line.end_is ∙ ap (λ (group : List Rec). lsn_of (sn_of entry.start + group_length group))
      (sym (group-is script space entry lines.0.line lines.0.of_line)),
  lengths-from script space entries lines.1,
)

-- the groups are a run of the log
pub run-from : (script : List ScriptLine) (space s : ℕ) (marks : Marks) (entries : List Entry) → IsLegal script space s marks entries
    → IsRunOf s (wholes_of script space entries)
run-from script space s marks entries legal = record {
  tiled = subst (IsTiled s) (sym (spans-wholes script space entries)) legal.tiled;
  lengths = lengths-from script space entries (have-lines script space s marks entries legal);
}

-- and their boundaries are those of the entries
pub boundary-from : (script : List ScriptLine) (space s mark : ℕ) (entries : List Entry) → IsBoundary s (entry_spans entries) mark
    → IsBoundary s (spans_of (wholes_of script space entries)) mark
boundary-from script space s mark entries is = subst (λ (spans : List Span). IsBoundary s spans mark) (sym (spans-wholes script space entries)) is

none-below : (script : List ScriptLine) (space mark : ℕ) (entries : List Entry)
    → AllByRecursion (λ (whole : Whole). mark < whole.end) (wholes_of script space entries)
    → length (filter (λ (entry : Entry). nat_le entry.end mark) entries) ≡ 0
none-below script space mark [] above = refl
none-below script space mark (entry ∷ entries) above =
    let others = none-below script space mark entries above.1 in
    let no : nat_le entry.end mark ≡ false = lt-leb entry.end mark above.0 in
    ap (λ b. length (cond b (entry ∷ filter (λ (entry : Entry). nat_le entry.end mark) entries) (filter (λ (entry : Entry). nat_le entry.end mark) entries))) no ∙ others

below-filtered : (script : List ScriptLine) (space mark : ℕ) (entries : List Entry) (front behind : List Whole)
    → wholes_of script space entries ≡ front ++ behind → AllByRecursion (λ (whole : Whole). whole.end ≤ mark) front
    → AllByRecursion (λ (whole : Whole). mark < whole.end) behind
    → length (filter (λ (entry : Entry). nat_le entry.end mark) entries) ≡ length front
below-filtered script space mark entries [] behind parts below above =
    none-below script space mark entries (subst (AllByRecursion (λ (whole : Whole). mark < whole.end)) (sym parts) above)
below-filtered script space mark [] (first ∷ front) behind parts below above = absurd (cc)
below-filtered script space mark (entry ∷ entries) (first ∷ front) behind parts below above =
    let same : whole_of script space entry ≡ first = cc in
    let rest : wholes_of script space entries ≡ front ++ behind = cc in
    let others = below-filtered script space mark entries front behind rest below.1 above in
    let low : entry.end ≤ mark = subst (λ (whole : Whole). whole.end ≤ mark) (sym same) below.0 in
    let yes : nat_le entry.end mark ≡ true = le-leb entry.end mark low in
    ap (λ b. length (cond b (entry ∷ filter (λ (entry : Entry). nat_le entry.end mark) entries) (filter (λ (entry : Entry). nat_le entry.end mark) entries))) yes ∙ ap suc others

-- those that end at or below the mark stand in front, so they are the first as many
pub count-front : (script : List ScriptLine) (space mark : ℕ) (entries : List Entry) (front behind : List Whole)
    → wholes_of script space entries ≡ front ++ behind → AllByRecursion (λ (whole : Whole). whole.end ≤ mark) front
    → AllByRecursion (λ (whole : Whole). mark < whole.end) behind → count_up_to mark entries ≡ length front
count-front script space mark entries front behind parts below above =
    sym (length-filter (λ (entry : Entry). nat_le entry.end mark) entries) ∙ below-filtered script space mark entries front behind parts below above

take-front : (front behind : List Whole) → take (length front) (front ++ behind) ≡ front
take-front front behind = take-append-le (length front) front behind (omega arith) ∙ take_all (length front) front (omega arith)

pub first-front : (script : List ScriptLine) (space mark : ℕ) (entries : List Entry) (front behind : List Whole)
    → wholes_of script space entries ≡ front ++ behind → AllByRecursion (λ (whole : Whole). whole.end ≤ mark) front
    → AllByRecursion (λ (whole : Whole). mark < whole.end) behind
    → take (count_up_to mark entries) (wholes_of script space entries) ≡ front
first-front script space mark entries front behind parts below above =
    ap (λ n. take n (wholes_of script space entries)) (count-front script space mark entries front behind parts below above)
    ∙ ap (take (length front)) parts ∙ take-front front behind

pub get-whole : (script : List ScriptLine) (space : ℕ) (entries : List Entry) (i : ℕ) (entry : Entry) → slice_get entries i ≡ Some entry
    → slice_get (wholes_of script space entries) i ≡ Some (whole_of script space entry)
get-whole script space [] i entry at = absurd (cc)
get-whole script space (first ∷ entries) zero entry at =
    let same : first ≡ entry = cc in ap (λ (e : Entry). Some (whole_of script space e)) same
get-whole script space (first ∷ entries) (suc i) entry at = get-whole script space entries i entry at

-- a group that ends at or below the mark stands in front
in-front : (mark i : ℕ) (front behind : List Whole) (whole : Whole) → slice_get (front ++ behind) i ≡ Some whole → whole.end ≤ mark
    → AllByRecursion (λ (one : Whole). mark < one.end) behind → i < length front
in-front mark i [] behind whole at low above =
    let high : mark < whole.end = all-at (λ (one : Whole). mark < one.end) behind i whole above at in absurd (omega arith)
in-front mark zero (first ∷ front) behind whole at low above = omega arith
in-front mark (suc i) (first ∷ front) behind whole at low above =
    let others : i < length front = in-front mark i front behind whole at low above in omega arith

pub reached : (script : List ScriptLine) (space mark i : ℕ) (entries : List Entry) (entry : Entry) (front behind : List Whole)
    → wholes_of script space entries ≡ front ++ behind → AllByRecursion (λ (whole : Whole). whole.end ≤ mark) front
    → AllByRecursion (λ (whole : Whole). mark < whole.end) behind
    → slice_get entries i ≡ Some entry → entry.end ≤ mark → i < count_up_to mark entries
reached script space mark i entries entry front behind parts below above at low =
    let whole : Whole = whole_of script space entry in
    let there : slice_get (front ++ behind) i ≡ Some whole = ap (λ (ws : List Whole). slice_get ws i) (sym parts) ∙ get-whole script space entries i entry at in
    let first : i < length front = in-front mark i front behind whole there low above in
    omega (arith, count-front script space mark entries front behind parts below above)
