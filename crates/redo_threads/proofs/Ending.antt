-- Players that have come to their ends, and the actors that they leave.
use Rattle.std.proofs.Common.{List, None, Option, Some, [], ap, arith, length, map, refl, set, slice_index, subst, suc, sym, zero, ℕ, ⊎_elim, ◌++◌, ◌+◌, ◌<◌, ◌∙◌, ◌∷◌, ◌≡◌, ◌≤◌}
use lib.ListN.{get_elem?}
use mathlib.Core.Option as maybe
use Rattle.atomic_table.proofs.Lists.{at_set}
use Rattle.model_core.specs.{Given, failed_at}
use Rattle.model_core.specs.States as model
use Rattle.model_core.specs.declared.steps.UserStep.{UserStep}
use Rattle.model_core.specs.declared.steps.UserStep.TheVariants as user_step
use Rattle.model_logcore.specs.{UserAt}
use Rattle.model_own.specs.{LogWork}
use Rattle.model_running.specs.Schedule.{HaveEnded}
use Rattle.redo_disk.specs.{Call, Seen}
use Rattle.redo_drive.specs.Leaving.{LeavesWith}
use Rattle.redo_drive.specs.{run_log_side, view_of, views_of}
use Rattle.redo_drive.specs.declared.actor.Actor.{Actor}
use Rattle.redo_drive.specs.declared.closed.Closed.{Closed}
use Rattle.redo_drive.specs.declared.plan.Plan.{Plan}
use Rattle.redo_ownrule.specs.Players.{actor_of, crew, workers_of}
use Rattle.redo_ownrule.specs.Sharing.{AllAtRest}
use Rattle.redo_ownrule.specs.declared.player.Player.{Player}
use Rattle.redo_ownrule.specs.declared.player.Player.TheVariants as player
use Rattle.redo_store.specs.declared.opened.Opened.{Opened}
use Rattle.model_script.specs.declared.script.ScriptLine.{ScriptLine}
use Rattle.redo_threads.specs.InThreads.{HaveAnswered}
use Rattle.redo_threads.specs.Working.{AreAtEnd, AtEnd, IsUserOver}

module _ {F : Type 0} where
  -- below this number each has come to its end
  abbrev pub EndBelow : ℕ → List (Player F) → Type 0
  EndBelow n players = (i : ℕ) (p : Player F) → i < n → get_elem? players i ≡ maybe.some p → AtEnd p

  pub none_below : (players : List (Player F)) → EndBelow 0 players
  none_below players i p l at = absurd (omega arith)

  pub one_more : (players : List (Player F)) (n : ℕ) (q : Player F) → EndBelow n players → AtEnd q
      → EndBelow (n + 1) (set players n q)
  one_more players n q below ends i p l at = ⊎_elim
      (λ t. subst (λ (z : Player F). AtEnd z) t.1 ends)
      (λ t. let far = t.0 in below i p (omega arith) t.1)
      (at_set players n i q p at)

pub past : {A : Type 0} (l : List A) (i : ℕ) (a : A) → get_elem? l i ≡ maybe.some a → i < length l
past [] i a at = absurd (maybe.some-ne-none a (sym at))
past (x ∷ xs) zero a at = omega arith
past (x ∷ xs) (suc i) a at = let l = past xs i a at in omega arith

module _ {F : Type 0} where
  pub all_end : (players : List (Player F)) (n : ℕ) → length players ≤ n → EndBelow n players → AreAtEnd players
  all_end players n all below i p at = below i p (let l = past players i p at in omega arith) at

  pub all_rest : (players : List (Player F)) → AreAtEnd players → AllAtRest players
  all_rest players ends i p at = (ends i p at).rests

  -- each user of these has ended
  abbrev AreOver : List (Actor F) → Type 0
  AreOver [] = Unit {0}
  AreOver (a ∷ actors) = IsUserOver (view_of a) × AreOver actors

  over_joined : (xs ys : List (Actor F)) → AreOver xs → AreOver ys → AreOver (xs ++ ys)
  over_joined [] ys h k = k
  over_joined (x ∷ xs) ys h k = (h.0, over_joined xs ys h.1 k)

  over_mapped : (players : List (Player F)) → AreAtEnd players → AreOver (map actor_of players)
  over_mapped [] ends = tt
  over_mapped (p ∷ ps) ends = ((ends zero p refl).over, over_mapped ps (λ i q at. ends (suc i) q at))

over_workers : (F : Type 0) (work : Option LogWork) → AreOver (workers_of {R = F} work)
over_workers F None = tt
over_workers F (Some k) = (tt, (tt, tt))

module _ {F : Type 0} where
  over_crew : (work : Option LogWork) (players : List (Player F)) → AreAtEnd players → AreOver (crew work players)
  over_crew work [] ends = over_workers F work
  over_crew work (player.Own o ∷ ps) ends =
      ((ends zero (player.Own o) refl).over, over_crew work ps (λ i q at. ends (suc i) q at))
  over_crew work (player.Plain a ∷ ps) ends =
      over_joined (workers_of work) (a ∷ map actor_of ps) (over_workers F work)
      ((ends zero (player.Plain a) refl).over, over_mapped ps (λ i q at. ends (suc i) q at))

  all_over : (actors : List (Actor F)) → AreOver actors → HaveEnded (views_of actors)
  all_over [] over seat u at = absurd (maybe.some-ne-none (model.User u) (sym at))
  all_over (a ∷ actors) over zero u at = subst IsUserOver (maybe.some-injective (view_of a) (model.User u) at) over.0
  all_over (a ∷ actors) over (suc seat) u at = all_over actors over.1 seat u at

  -- the actors that they leave have ended
  pub have_ended : (work : Option LogWork) (players : List (Player F)) (actors : List (Actor F))
      → ◌≡◌ {A = List (Actor F)} actors (crew work players) → AreAtEnd players → HaveEnded (views_of actors)
  have_ended work players actors are ends =
      subst (λ (l : List (Actor F)). HaveEnded (views_of l)) (sym are)
      (all_over (crew work players) (over_crew work players ends))

module _ {L D F : Type 0} (log_seen : L → Seen) (log_gives : L → Call → L → Type 0) (data_seen : D → Seen)
    (data_gives : D → Call → D → Type 0) (stands : F → List Given → Type 0) (opened : Opened L D)
    (script : List ScriptLine) (plan : Plan) (starts actors : List (Actor F)) (closed : Closed L D)
    (left : LeavesWith log_seen log_gives data_seen data_gives stands opened script plan starts actors
    closed) where
  -- a user that has ended by a failure has met it in FAILED
  pub have_answered : HaveEnded (views_of actors) → closed.code ≡ 0 → HaveAnswered (views_of actors)
  have_answered ended none seat u at =
      let R = left.from.runs.running in
      let fits = R.both.logged.each seat (model.User u) at in
      let code : slice_index left.last.words.words failed_at ≡ R.shared.failed = ap (λ (ws : List ℕ). slice_index ws failed_at) R.flat_is in
      let zero_is : R.shared.failed ≡ 0 = sym code ∙ sym left.code ∙ none in
      ⊎_elim
      (λ done. let at_done : UserAt (run_log_side log_seen data_seen left.run) left.run.setup R.shared R.log_ghost left.last.log seat u user_step.Done = subst (λ (s : UserStep). UserAt (run_log_side log_seen data_seen left.run) left.run.setup R.shared R.log_ghost left.last.log seat u s) done fits.step in at_done.1)
      (λ failed. let at_failed : UserAt (run_log_side log_seen data_seen left.run) left.run.setup R.shared R.log_ghost left.last.log seat u user_step.Failed = subst (λ (s : UserStep). UserAt (run_log_side log_seen data_seen left.run) left.run.setup R.shared R.log_ghost left.last.log seat u s) failed fits.step in let met = at_failed.1 in absurd (omega arith))
      (ended seat u at)
