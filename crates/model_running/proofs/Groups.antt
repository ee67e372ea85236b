-- The groups of a log with their places: where they stand, their stream, and that those of a history are of its log.
use Rattle.std.proofs.Common.{List, Some, [], ap, arith, length, refl, slice_get, subst, suc, sym, zero, ℕ, ◌++◌, ◌+◌, ◌<◌, ◌∙◌, ◌∷◌, ◌≡◌}
use Rattle.std.specs.List.{AllByRecursion}
use lib.ListN.{get_elem?}
use Rattle.model_base.specs.declared.shape.Shape.{Shape}
use Rattle.model_core.specs.{answered, end_of, Line, line_at, lsn, stream, Tiles, Setup}
use Rattle.model_running.proofs.Places.{lsn_is, sn_back, tiled_spans}
use Rattle.model_running.specs.Histories.{AreWholesOf, IsWholeOf, log_span, history_of, log_spans}
use Rattle.model_running.specs.Script.{IsLineOf, IsOfScript}
use Rattle.model_report.specs.{group_of_line, lines_of_user, wholes_of}
use Rattle.model_report.specs.declared.entry.Marks.{Marks}
use Rattle.model_log.specs.{group_length, group_text, groups_of, HasItsLength, IsRunOf, IsTiled, lsn_of, sn_of, Span, span_of, spans_of, stream_of}
use Rattle.model_log.specs.declared.group.Whole.{Whole}
use Rattle.model_script.specs.declared.script.ScriptLine.{ScriptLine}
use mathlib.Core.Option as maybe
use Rattle.model_core.specs.States as core
use Rattle.model_log.specs.Group as run

-- they stand where the log says
pub places : (log : List core.Entry) (wholes : List Whole) → AreWholesOf log wholes → spans_of wholes ≡ log_spans log
places [] [] are = refl
places [] (w ∷ ws) are = absurd are
places (e ∷ es) [] are = absurd are
places (e ∷ es) (w ∷ ws) are = let first : span_of w ≡ log_span e = are.0.place in let r = places es ws are.1 in cc

-- their texts are its stream
pub streams : (log : List core.Entry) (wholes : List Whole) → AreWholesOf log wholes → stream_of (groups_of wholes) ≡ stream log
unfolding stream_of
streams [] [] are = refl
streams [] (w ∷ ws) are = absurd are
streams (e ∷ es) [] are = absurd are
streams (e ∷ es) (w ∷ ws) are = ap (λ (z : List ℕ). z ++ stream_of (groups_of ws)) are.0.text ∙ ap (λ (z : List ℕ). e.bytes ++ z) (streams es ws are.1)

-- of one more group
pub groups_snoc : (log : List core.Entry) (e : core.Entry) (wholes : List Whole) → AreWholesOf (log ++ e ∷ []) wholes → (front : List Whole) × (last : Whole) × (wholes ≡ front ++ last ∷ []) × AreWholesOf log front × IsWholeOf e last
groups_snoc [] e [] are = absurd are
groups_snoc [] e (w ∷ []) are = ([], w, refl, tt, are.0)
groups_snoc [] e (w ∷ v ∷ ws) are = absurd are.1
groups_snoc (x ∷ xs) e [] are = absurd are
groups_snoc (x ∷ xs) e (w ∷ ws) are = let r = groups_snoc xs e ws are.1 in (w ∷ r.0, r.1, ap (λ (z : List Whole). w ∷ z) r.2, (are.0, r.3), r.4)

-- a line below the end of a list is there
pub line_below : (xs : List ScriptLine) (k : ℕ) → k < length xs → (one : ScriptLine) × (slice_get xs k ≡ Some one)
line_below [] k h = absurd (omega arith)
line_below (x ∷ xs) zero h = (x, refl)
line_below (x ∷ xs) (suc k) h = line_below xs k (omega arith)

-- the groups that the history names are those of the log
pub history_wholes : (c : Setup) (script : List ScriptLine) (shape : Shape) (answered : ℕ → ℕ) (marks : Marks) (log : List core.Entry) → IsOfScript c script shape
    → ((i : ℕ) (e : core.Entry) → get_elem? log i ≡ maybe.some e → (e.k < length (c.script e.user)) × (e.bytes ≡ (line_at (c.script e.user) e.k).bytes))
    → AreWholesOf log (wholes_of script shape.space (history_of answered marks log))
history_wholes c script shape answered marks [] S lines = tt
history_wholes c script shape answered marks (e ∷ es) S lines =
    let line = lines 0 e refl in
    let l = line_below (lines_of_user e.user script) e.k (let a = line.0 in let b = S.count e.user in omega arith) in
    let one : ScriptLine = l.0 in
    let of : IsLineOf c shape one (line_at (c.script e.user) e.k) = S.each e.user e.k one l.1 in (
      record { place = refl; text = ap (λ o. group_text (group_of_line shape.space o)) l.1 ∙ sym (ap (λ (z : Line). z.bytes) of) ∙ sym line.1 },
      history_wholes c script shape answered marks es S (λ i x is. lines (suc i) x is),
    )

-- the log's last group ends at n
pub spans_end : (log : List core.Entry) (s n : ℕ) → Tiles s log n → run.last_span_end (lsn s) (log_spans log) ≡ lsn n
spans_end [] s n t = ap lsn t
spans_end (e ∷ es) s n t = ap (λ (k : ℕ). run.last_span_end (lsn (k + length e.bytes)) (log_spans es)) t.0 ∙ spans_end es (s + length e.bytes) n t.3

-- a group ends as many bytes after its start as its text has
pub has_length : (e : core.Entry) (whole : Whole) → IsWholeOf e whole → HasItsLength whole
has_length e whole of =
    let a : whole.start ≡ lsn e.start = ap (λ (z : Span). z.start) of.place in
    let b : whole.end ≡ lsn (end_of e) = ap (λ (z : Span). z.end) of.place in
    let n : sn_of whole.start ≡ e.start = ap sn_of a ∙ sn_back e.start in
    let k : group_length whole.group ≡ length e.bytes = ap length of.text in
    b ∙ lsn_is (end_of e) ∙ ap lsn_of (let z : end_of e ≡ sn_of whole.start + group_length whole.group = omega arith in z)

lengths_of : (log : List core.Entry) (wholes : List Whole) → AreWholesOf log wholes → AllByRecursion HasItsLength wholes
lengths_of [] [] are = tt
lengths_of [] (w ∷ ws) are = absurd are
lengths_of (e ∷ es) [] are = absurd are
lengths_of (e ∷ es) (w ∷ ws) are = (has_length e w are.0, lengths_of es ws are.1)

-- the groups of a log are a run
pub run_of_log : (log : List core.Entry) (base n : ℕ) (wholes : List Whole) → Tiles base log n → AreWholesOf log wholes → IsRunOf (lsn base) wholes
run_of_log log base n wholes tiles are = record {
  tiled = subst (IsTiled (lsn base)) (sym (places log wholes are)) (tiled_spans log base n tiles);
  lengths = lengths_of log wholes are;
}
