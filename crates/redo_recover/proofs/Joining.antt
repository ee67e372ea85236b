-- Runs of groups that are joined.
use Rattle.std.proofs.Common.{◌≡◌, ℕ, suc, List, [], ◌∷◌, ◌++◌, drop, map, refl, sym, ap, subst, ◌∙◌, append_assoc, arith}
use Rattle.std.specs.Prelude.{IfOk, MatchResult}
use Rattle.std.specs.List.{All, AllByRecursion, AllZip, Contains}
use Rattle.std.specs.declared.alloc.Global.{Global}
use Rattle.std.specs.declared.result.Result.{Result}
use Rattle.std.specs.declared.result.Result.TheVariants.{Ok, Err}
use Rattle.std.specs.declared.vec.Vec.{Vec}
use Rattle.std.proofs.lemmas.List.Elements.{All-cons, All-nil}
use Rattle.model_base.specs.declared.shape.Shape.{Shape}
use Rattle.model_log.specs.declared.rec.Rec.{Rec}
use Rattle.model_log.specs.declared.group.Whole.{Whole}
use Rattle.model_log.specs.{groups_of, last_span_end, spans_of, stream_of}
use Rattle.model_log.proofs.Runs.{end_of-append, run-append, spans_of-append, stream-append}
use Rattle.model_store.specs.{AreGroups, IsStorable}
use Rattle.redo_recover.proofs.Grouping.{AreGroupsSoFar-none}
use Rattle.redo_recover.specs.Runs.{AreGroupsSoFar, HasRunGroups, IsFrontRun}
use Rattle.redo_recover.specs.declared.run.Run.{Run}

groups_of-append : (ws vs : List Whole) → groups_of (ws ++ vs) ≡ groups_of ws ++ groups_of vs
groups_of-append [] vs = refl
groups_of-append (w ∷ ws) vs = ap (λ gs. w.group ∷ gs) (groups_of-append ws vs)

each-append : (P : List Rec → Type 0) (gs hs : List (List Rec)) → AllByRecursion P gs → AllByRecursion P hs → AllByRecursion P (gs ++ hs)
each-append P [] hs a b = b
each-append P (g ∷ gs) hs a b = (a.0, each-append P gs hs a.1 b)

-- groups after which others stand
groups-append : (shape : Shape) (bytes middle rest : List ℕ) (start : ℕ) (ws vs : List Whole) → AreGroups shape bytes start ws middle
    → AreGroups shape middle (last_span_end start (spans_of ws)) vs rest → AreGroups shape bytes start (ws ++ vs) rest
groups-append shape bytes middle rest start ws vs a b = record {
  bytes_are = a.bytes_are ∙ ap (λ t. stream_of (groups_of ws) ++ t) b.bytes_are
      ∙ sym (append_assoc (stream_of (groups_of ws)) (stream_of (groups_of vs)) rest)
      ∙ ap (λ t. t ++ rest) (sym (stream-append ws vs));
  run = run-append start ws vs a.run b.run;
  each = subst (λ gs. AllByRecursion (IsStorable shape) gs) (sym (groups_of-append ws vs))
      (each-append (IsStorable shape) (groups_of ws) (groups_of vs) a.each b.each);
}

-- a run that begins where another ends
pub so_far-append : (shape : Shape) (bytes middle rest : List ℕ) (start lsn end : ℕ) (ws vs : List Whole) → AreGroupsSoFar shape bytes start ws lsn middle
    → AreGroupsSoFar shape middle lsn vs end rest → AreGroupsSoFar shape bytes start (ws ++ vs) end rest
so_far-append shape bytes middle rest start lsn end ws vs a b = record {
  groups = groups-append shape bytes middle rest start ws vs a.groups
      (subst (λ (m : ℕ). AreGroups shape middle m vs rest) a.at b.groups);
  at = b.at ∙ ap (λ m. last_span_end m (spans_of vs)) a.at
      ∙ sym (ap (last_span_end start) (spans_of-append ws vs) ∙ end_of-append start (spans_of ws) (spans_of vs));
  room = omega (arith, a.room, b.room);
}

-- no group is read yet
pub front-none : (shape : Shape) (bytes : List ℕ) (start : ℕ) (run : Run) → run.wholes.items ≡ [] → run.from ≡ 0 → run.to ≡ 0 → run.start ≡ start → run.end ≡ start
    → IsFrontRun shape bytes start run
front-none shape bytes start run none first last at end = record {
  is_run = record {
    within = omega (arith, last);
    groups = rw (none, first, last, at, end) (AreGroupsSoFar-none shape bytes start);
  };
  first = first;
  at = at;
}

-- the groups of a run in front, and what is left after them
pub front-so_far : (shape : Shape) (bytes : List ℕ) (start : ℕ) (run : Run) → IsFrontRun shape bytes start run
    → AreGroupsSoFar shape bytes start run.wholes.items run.end (drop run.to bytes)
front-so_far shape bytes start run front =
    subst (λ (s : ℕ). AreGroupsSoFar shape bytes s run.wholes.items run.end (drop run.to bytes)) front.at
    (subst (λ (k : ℕ). AreGroupsSoFar shape (drop k bytes) run.start run.wholes.items run.end (drop run.to bytes)) front.first front.is_run.groups)

-- a run that takes over the groups of the next one
pub run-join : (shape : Shape) (bytes : List ℕ) (front back run : Run) → back.from ≡ front.to → back.start ≡ front.end
    → run.wholes.items ≡ front.wholes.items ++ back.wholes.items → run.from ≡ front.from → run.start ≡ front.start → run.to ≡ back.to → run.end ≡ back.end
    → HasRunGroups shape bytes front → HasRunGroups shape bytes back → HasRunGroups shape bytes run
run-join shape bytes front back run meets at wholes first start last end a b = record {
  within = omega (arith, last, b.within);
  groups = rw (wholes, first, start, last, end)
      (so_far-append shape (drop front.from bytes) (drop front.to bytes) (drop back.to bytes) front.start front.end back.end front.wholes.items back.wholes.items
      a.groups (rw (meets, at) at b.groups));
}

-- a run in front, and the next one
pub front-join : (shape : Shape) (bytes : List ℕ) (start : ℕ) (old run new : Run)
    → ((s : Shape) (bs : List ℕ) → HasRunGroups s bs old → HasRunGroups s bs run → HasRunGroups s bs new) → new.from ≡ old.from → new.start ≡ old.start
    → IsFrontRun shape bytes start old → HasRunGroups shape bytes run → IsFrontRun shape bytes start new
front-join shape bytes start old run new joins first at front one = record {
  is_run = joins shape bytes front.is_run one;
  first = first ∙ front.first;
  at = at ∙ front.at;
}

-- what each worker made has this property, if all went well
all-well : {X R : Type 0} (E : Type 0) (P : R → Type 0) (lent : List X) (made : List R)
    → AllZip (λ x (one : Result R E). IfOk one P) lent (map Ok made) → All P made
all-well E P [] [] all = All-nil P
all-well E P [] (one ∷ made) all = absurd all
all-well E P (x ∷ lent) [] all = absurd all
all-well E P (x ∷ lent) (one ∷ made) all = All-cons P one made all.0 (all-well E P lent made all.1)

pub made-well : {X R : Type 0} (E : Type 0) (P : R → Type 0) (lent : List X) (results : List (Result R E)) (r : Result (Vec R Global) E)
    → AllZip (λ x (one : Result R E). IfOk one P) lent results
    → MatchResult r (λ made. (ys : List R) × (results ≡ map Ok ys) × (made.items ≡ ys)) (λ e. Contains results (Err e))
    → IfOk r (λ made. All P made.items)
made-well E P lent results (Err e) all is = tt
made-well {X} {R} E P lent results (Ok made) all is =
    subst (λ (ys : List R). All P ys) (sym is.2)
    (all-well E P lent is.0 (subst (λ (rs : List (Result R E)). AllZip (λ x (one : Result R E). IfOk one P) lent rs) is.1 all))

pub all-front : {X : Type 0} (P : X → Type 0) (xs : List X) (y : X) → All P (xs ++ y ∷ []) → All P xs × P y
all-front P [] y all = (All-nil P, all 0 y (omega arith))
all-front P (x ∷ xs) y all =
    let rest = all-front P xs y (λ k d lt. all (suc k) d (omega (arith, lt))) in (All-cons P x xs (all 0 x (omega arith)) rest.0, rest.1)
