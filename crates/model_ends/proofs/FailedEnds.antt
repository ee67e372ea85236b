-- From its start on: in each state that any turns reach and in which FAILED has a code, turns one after another end the run
-- within a number of turns that the script alone gives.
use Rattle.std.proofs.Common.{List, [], ap, arith, drop, length, length-set, refl, subst, suc, sym, ℕ, ⊎_elim, ◌*◌, ◌+◌, ◌/◌, ◌<◌, ◌∙◌, ◌∷◌, ◌≡◌, ◌≤◌}
use Rattle.std.proofs.Math.Nat.{mul-le-mul_right}
use Rattle.std.specs.Prelude.{slice_index}
use Rattle.model_base.specs.declared.limits.TheConstants.{LSN_LIMIT}
use Rattle.model_core.specs.{Actor, Core, filled, flat, layout_of, Line, Listed, lsn, next, PageWords, page_words_at, SharedWords, shared_answer, took, DataSide, LogSide, Setup}
use Rattle.model_logcore.proofs.Frame.{total_set}
use Rattle.model_logcore.proofs.NewUsers.{new_user_is}
use Rattle.model_logcore.proofs.StartHolds.{start}
use Rattle.model_logcore.specs.{StartActor, sum_over_actors, left_to_reserve}
use Rattle.model_logcore.specs.LogLaws.{LogLaws}
use Rattle.model_pagecore.specs.DataLaws.{DataLaws}
use Rattle.model_running.proofs.StartRunning.{both_start, start_pages}
use Rattle.model_running.specs.Watermarks.{BothHalves}
use Rattle.model_running.specs.PlainStore.{plain_store}
use Rattle.model_running.specs.Schedule.{TakesTurns}
use Rattle.model_running.specs.StartStore.{StartStore}
use Rattle.model_ends.proofs.Along.{Along, EachTurnKeeps, reach_along}
use Rattle.model_ends.proofs.FailedRuns.{failed_run_ends, Failing}
use Rattle.model_ends.proofs.FailedTurns.{filled_left, total, turn_no_more}
use Rattle.model_ends.proofs.Links.{links, one_if}
use Rattle.model_ends.proofs.PageCost.{line_steps, marked, user_steps}
use Rattle.model_ends.proofs.Sizes.{sum_less}
use Rattle.model_ends.proofs.UserLess.{lines_from}
use Rattle.model_ends.proofs.UserNoMore.{left_of}
use Rattle.model_ends.specs.Alone.{CanReach}
use Rattle.model_core.specs.States as actor

-- the steps of a user's lines
abbrev pub script_steps : Actor → ℕ
script_steps (actor.User u) = line_steps u.lines
script_steps _ = 0

no_links : (l : List ℕ) → ((i : ℕ) → slice_index l i ≡ 0) → links l ≡ 0
unfolding links
no_links [] none = refl
no_links (x ∷ xs) none = let here = ap one_if (none 0) in let more = no_links xs (λ i. none (suc i)) in omega arith

none_marked : (l : List PageWords) → ((p : ℕ) → p < length l → (page_words_at l p).oldest ≡ 0) → marked l ≡ 0
unfolding marked
none_marked [] none = refl
none_marked (x ∷ xs) none = let here = ap one_if (none 0 (omega arith)) in let more = none_marked xs (λ p less. none (suc p) (omega arith)) in omega arith

all_lines : (lines : List Line) (k : ℕ) → k ≡ 0 → line_steps (drop k lines) ≡ line_steps lines
all_lines lines k is = ap (λ (n : ℕ). line_steps (drop n lines)) is ∙ by lines
  where
    by : (lines : List Line) → line_steps (drop 0 lines) ≡ line_steps lines
    by [] = refl
    by (x ∷ xs) = refl

module _ (D : LogSide) (E : DataSide) (c : Setup) (L : LogLaws D) (EL : DataLaws E) (most n : ℕ) where
  -- no more is left than that, of so many actors
  abbrev pub Within : SharedWords → (ℕ → List Listed) → D.Part → E.Part → List Actor → Type 0
  Within m ls p d actors = (total 0 m ls actors ≤ most) × (length actors ≡ n)

  pub within_kept : EachTurnKeeps D E c Within
  within_kept = record {
    filled = λ m ls p d actors seat a at f W. (
      (let z = total_set left_of actors seat a (filled a f) at in let y = filled_left a f in let x = W.0 in omega arith),
      length-set actors seat (filled a f) ∙ W.1,
    );
    turned = λ m g h ls p d actors both W seat a at code q e served stored. (
      (let z = turn_no_more D E c m g h ls p d actors both 0 seat code (D.stable q) a at in let x = W.0 in omega arith),
      length-set actors seat (took a (shared_answer ls (D.failed p) code (D.stable q) m (next a))) ∙ W.1,
    );
  }

module _ (D : LogSide) (E : DataSide) (c : Setup) (L : LogLaws D) (EL : DataLaws E) (words : SharedWords) (seat_of : ℕ → ℕ) (writer : ℕ) (first : Core D E) (S : StartStore D E c words first.log_part first.data_part seat_of writer first.actors) (layout_is : first.layout ≡ layout_of c) (flat_is : first.words ≡ flat words) (lists : ◌≡◌ {A = ℕ → List Listed} first.lists (λ _. []))
    (short : lsn (c.base + sum_over_actors left_to_reserve first.actors) < LSN_LIMIT) where
  abbrev pub most : ℕ
  most = sum_over_actors script_steps first.actors

  left_first : (seat : ℕ) (a : Actor) → StartActor c seat_of writer seat a → left_of a ≤ script_steps a
  left_first seat (actor.User u) h =
      let new = new_user_is c u h.1 in
      let k = new.k in
      let all = all_lines u.lines u.k k in ⊎_elim
      (λ z. let step = ap (user_steps u) z.step in let some = z.some_lines in
      let front = lines_from u.lines u.k (omega arith) in omega arith)
      (λ z. let step = ap (user_steps u) z.step in omega arith)
      new.step
  left_first seat (actor.Writer s) h = omega arith
  left_first seat (actor.Flusher s) h = omega arith
  left_first seat (actor.Reader s) h = omega arith
  left_first seat (actor.Closer s) h = omega arith
  left_first seat (actor.Cleaner s) h = omega arith
  left_first seat (actor.Checkpointer s) h = omega arith

  total_first : total 0 words (λ _. []) first.actors ≤ most
  total_first =
      let users = sum_less left_of script_steps first.actors (λ i a at. left_first i a (S.each i a at)) in
      let written = no_links words.wlinks S.words.wlinks in
      let closed = no_links words.clinks S.page_words.clinks in
      let pages = none_marked words.page_words (λ p less. ap (λ (w : PageWords). w.oldest) (S.page_words.page_words p (let z = S.words.sized.page_words in omega arith))) in
      omega arith

  first_along : Along D E c (Within D E c L EL most (length first.actors)) first
  first_along = record {
    words = words;
    log_ghost = start D c words first.log_part seat_of writer S.words S.log_part;
    page_ghost = start_pages c;
    layout_is = layout_is;
    flat_is = flat_is;
    both = subst (λ (ls : ℕ → List Listed). BothHalves D E c words (start D c words first.log_part seat_of writer S.words S.log_part) (start_pages c) ls first.log_part first.data_part first.actors) (sym lists)
        (both_start D E c words first.log_part first.data_part seat_of writer first.actors S short);
    holds = (subst (λ (ls : ℕ → List Listed). total 0 words ls first.actors ≤ most) (sym lists) total_first, refl);
  }

  -- ONCE FAILED HAS A CODE turns one after another end the run
  pub ends_once_failed : (any k seed max : ℕ) (reached last : Core D E) → CanReach D E any first reached → 0 < slice_index reached.words 6 → TakesTurns (plain_store D E) seed max k reached last → k ≤ max / 2 + (most + 1) * (21 * length first.actors)
  ends_once_failed any k seed max reached last reach failed turns =
      let A = reach_along D E c (Within D E c L EL most (length first.actors)) L EL (within_kept D E c L EL most (length first.actors)) any first reached first_along reach in
      let is : slice_index reached.words 6 ≡ A.words.failed = ap (λ (ws : List ℕ). slice_index ws 6) A.flat_is in
      let F : Failing D E c L EL (length first.actors) reached = record {
        along = record { words = A.words; log_ghost = A.log_ghost; page_ghost = A.page_ghost; layout_is = A.layout_is; flat_is = A.flat_is; both = A.both; holds = tt };
        failed = omega arith;
        seats = A.holds.1;
      } in
      let few = failed_run_ends D E c L EL (length first.actors) seed max reached F k last turns in
      let low : total 0 A.words reached.lists reached.actors + 1 ≤ most + 1 = (let z = A.holds.0 in omega arith) in
      let more : (total 0 A.words reached.lists reached.actors + 1) * (21 * length first.actors) ≤ (most + 1) * (21 * length first.actors) = mul-le-mul_right (21 * length first.actors) low in
      omega arith
