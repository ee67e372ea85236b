-- The steps that gather pages and write them, as calls of the data part.
use Rattle.std.proofs.Common.{◌≡◌, ◌≤◌, ◌<◌, ◌+◌, ◌∙◌, length, ℕ, [], List, false, Bool, None, refl, sym, ap, subst, arith}
use Rattle.std.specs.Prelude.{IfSome, Err, Ok, OnOk, Result, is_some}
use Rattle.model_base.specs.declared.shape.Shape.{Shape}
use Rattle.model_parts.specs.{after_batch, batch_of, Fresh, IsLater, IsUpTo, Keeps}
use Rattle.model_parts.specs.Stored.{Stored}
use Rattle.model_page.specs.declared.content.Content.{Content}
use Rattle.redo_disk.specs.{Seen}
use Rattle.redo_disk.specs.declared.error.DevError.{DevError}
use Rattle.redo_open.proofs.Gathers.{AreTopPages, added, fresh, gathered-added, gathered-done, gathered-keeps, gathered-steady, gathered-top, gathered-with, gathered-written, top-later}
use Rattle.redo_open.proofs.Told.{cause-since}
use Rattle.redo_open.proofs.Writings.{PageRead, live-ok, on-ok-both}
use Rattle.redo_open.specs.Rewrite.{AreGathered, Gathered, GatherStep, IsGatheredTo, AreTop, IsWrittenTo, RewriteStep}
use Rattle.redo_recover.specs.declared.places.Found.{Found}
use Rattle.redo_store.specs.{PartKeeps, PartStep, PartStores}
use Rattle.redo_store.specs.Part.{Part}

-- the batch was given to `write_batch`
pub wrote-step : {D : Type 0} (seen : D → Seen) (pages : List Content) (found : List Found) (count : ℕ) (old new : Part D) (batch after : Gathered) (pairs : List (ℕ × ℕ)) (users : List ℕ)
    (result : Result (Unit {0}) DevError) → pairs ≡ batch.pairs → users ≡ batch.users
    → old.failed ≡ None → AreGathered old.shape pages count batch → OnOk result (AreGathered old.shape pages count after)
    → ((top was : ℕ → Content) → PartStores seen top was [] old → IsLater top (batch_of old.shape pairs users) → PartKeeps seen top was (batch_of old.shape pairs users) new)
    → ((top was : ℕ → Content) → PartStores seen top was [] old → IsLater top (batch_of old.shape pairs users)
    → OnOk result (PartStores seen (after_batch (batch_of old.shape pairs users) top) (after_batch (batch_of old.shape pairs users) was) [] new))
    → PartStep seen old result new → GatherStep seen old.shape pages found count count old batch result new after
wrote-step seen pages found count old new batch after pairs users result pairs_is users_is live gathered then keeps_given ok_given step =
    let same : batch_of old.shape pairs users ≡ fresh old.shape batch = ap (λ (ps : List (ℕ × ℕ)). batch_of old.shape ps users) pairs_is ∙ ap (batch_of old.shape batch.pairs) users_is in
    let keeps = subst (λ (new_pages : List Fresh). (top was : ℕ → Content) → PartStores seen top was [] old → IsLater top new_pages → PartKeeps seen top was new_pages new) same keeps_given in
    let ok = subst (λ (new_pages : List Fresh). (top was : ℕ → Content) → PartStores seen top was [] old → IsLater top new_pages
    → OnOk result (PartStores seen (after_batch new_pages top) (after_batch new_pages was) [] new)) same ok_given in
    let shape : Shape = old.shape in
    let told = (seen old.dev).tells in
    let now = (seen new.dev).tells in
    let is_top : (top start : ℕ → Content) → AreTop pages found top start → AreTopPages top (fresh shape batch) = λ top start tops. gathered-top shape pages found top start count batch tops gathered in
    let stores : (top was : ℕ → Content) → IfSome told (Stored shape (IsUpTo top) was [] false) → PartStores seen top was [] old = λ top was known.
    subst (λ (b : Bool). IfSome told (Stored shape (IsUpTo top) was [] b)) (sym (ap is_some live)) known in
    record {
      keeps = λ top start tops w. gathered-keeps shape top start count batch told now (is_top top start tops) w
          (subst (λ (s : Shape). IfSome now (Keeps s (IsUpTo top) w.was (fresh shape batch))) step.shape
          (keeps top w.was (stores top w.was w.stored) (top-later top (fresh shape batch) (is_top top start tops))));
      ok = λ top start tops w. on-ok-both result
          (λ live_now known. gathered-done shape top start count batch after told now (is_top top start tops) w
          (subst (λ (b : Bool). IfSome now (Stored shape (IsUpTo (after_batch (fresh shape batch) top)) (after_batch (fresh shape batch) w.was) [] b)) (ap is_some live_now)
          (subst (λ (s : Shape). IfSome now (Stored s (IsUpTo (after_batch (fresh shape batch) top)) (after_batch (fresh shape batch) w.was) [] (is_some new.failed))) step.shape known)))
          (live-ok result new.failed step.failed)
          (ok top w.was (stores top w.was w.stored) (top-later top (fresh shape batch) (is_top top start tops)));
      gathered = then;
      live = live-ok result new.failed step.failed;
      shape_stays = step.shape;
      size = step.size;
      cause = step.cause;
    }

-- nothing was written, and the pages up to this number are gathered
pub kept-step : {D : Type 0} (seen : D → Seen) (shape : Shape) (pages : List Content) (found : List Found) (from to : ℕ) (part : Part D) (batch : Gathered)
    → part.failed ≡ None → AreGathered shape pages to batch
    → ((top start : ℕ → Content) → AreTop pages found top start → IsGatheredTo shape top start from batch (seen part.dev).tells → IsGatheredTo shape top start to batch (seen part.dev).tells)
    → GatherStep seen shape pages found from to part batch (Ok tt) part batch
kept-step seen shape pages found from to part batch live gathered step = record {
  keeps = λ top start tops w. gathered-steady shape top start from batch (seen part.dev).tells w;
  ok = step;
  gathered = gathered;
  live = live;
  shape_stays = refl;
  size = refl;
  cause = record { later = omega arith; failed = λ is. absurd cc };
}

-- a step that failed has gathered nothing
pub failed-step : {D : Type 0} (seen : D → Seen) (shape : Shape) (pages : List Content) (found : List Found) (from to : ℕ) (old new : Part D) (batch after : Gathered) (error : DevError)
    → GatherStep seen shape pages found from from old batch (Err error) new after → GatherStep seen shape pages found from to old batch (Err error) new after
failed-step seen shape pages found from to old new batch after error step = record {
  keeps = step.keeps;
  ok = λ top start tops w. tt;
  gathered = tt;
  live = tt;
  shape_stays = step.shape_stays;
  size = step.size;
  cause = step.cause;
}

-- one more page is gathered
pub added-step : {D : Type 0} (seen : D → Seen) (shape : Shape) (pages : List Content) (found : List Found) (page lsn : ℕ) (user : List ℕ) (old new : Part D) (batch after : Gathered)
    → length after.pairs < shape.slots → PageRead shape pages page lsn user
    → GatherStep seen shape pages found page page old batch (Ok tt) new after → GatherStep seen shape pages found page (page + 1) old batch (Ok tt) new (added after page lsn user)
added-step seen shape pages found page lsn user old new batch after room read step = record {
  keeps = step.keeps;
  ok = λ top start tops w. gathered-added shape top start page lsn user after (seen new.dev).tells (step.ok top start tops w);
  gathered = gathered-with shape pages page lsn user read.content after step.gathered room read.at read.same_lsn read.same_user read.long;
  live = step.live;
  shape_stays = step.shape_stays;
  size = step.size;
  cause = step.cause;
}

-- from a number on up to another, after steps that went well: all that is gathered in the end is written
pub written-step : {D : Type 0} (seen : D → Seen) (shape : Shape) (pages : List Content) (found : List Found) (count : ℕ) (old mid new : Part D) (batch after : Gathered) (result : Result (Unit {0}) DevError)
    → shape ≡ mid.shape → mid.shape ≡ old.shape → (seen mid.dev).size ≡ (seen old.dev).size → (seen old.dev).faults ≤ (seen mid.dev).faults
    → ((top start : ℕ → Content) → AreTop pages found top start → IsWrittenTo shape top start 0 (seen old.dev).tells → IsGatheredTo shape top start count batch (seen mid.dev).tells)
    → GatherStep seen mid.shape pages found count count mid batch result new after → OnOk result (length after.pairs ≡ 0)
    → RewriteStep seen shape pages found 0 count old result new
written-step seen shape pages found count old mid new batch after result is stays size later told given emptied =
    let step : GatherStep seen shape pages found count count mid batch result new after = subst (λ (s : Shape). GatherStep seen s pages found count count mid batch result new after) (sym is) given in
    record {
      keeps = λ top start tops w. step.keeps top start tops (told top start tops w);
      ok = λ top start tops w. on-ok-both result (λ none gathered. gathered-written shape top start count after (seen new.dev).tells none gathered) emptied (step.ok top start tops (told top start tops w));
      live = step.live;
      shape_stays = step.shape_stays ∙ stays;
      size = step.size ∙ size;
      cause = cause-since (seen old.dev).faults (seen mid.dev).faults (seen new.dev).faults result later step.cause;
    }
