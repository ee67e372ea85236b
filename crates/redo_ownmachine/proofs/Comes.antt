-- After a turn of a user the run that has come to a machine comes to it again: with what followers' receivers have got, and
-- with its archive.
use Rattle.std.proofs.Common.{Bool, List, None, Option, Some, ap, length, set, subst, sym, ℕ, ⊎_elim, ◌+◌, ◌∙◌, ◌≡◌, ◌≤◌}
use Rattle.std.proofs.lemmas.List.{length-set}
use lib.ListN.{get_elem?}
use mathlib.Core.Option.{some}
use Rattle.model_core.specs.States as model
use Rattle.model_core.specs.{Given, ReaderState}
use Rattle.model_core.specs.declared.ops.Step.{Step}
use Rattle.model_own.specs.{LogWork, OwnUser}
use Rattle.model_ownrun.specs.OwnRunning.{Errands}
use Rattle.redo_archive.specs.Part.{Part}
use Rattle.redo_archiver.specs.{KeepsPace}
use Rattle.redo_disk.specs.{Call, Seen}
use Rattle.redo_drive.proofs.Viewed.{views_at}
use Rattle.redo_drive.specs.{HasComeTo, RunOf, run_log_side, groups_of, RunsFromWith, RunsWith, follower_of, HasGot, IsSameFollower, view_of, views_of}
use Rattle.redo_drive.specs.declared.actor.Actor.{Actor}
use Rattle.redo_drive.specs.declared.actor.Actor.TheVariants as own
use Rattle.redo_drive.specs.declared.parts.Parts.{Parts}
use Rattle.redo_follow.specs.Following.{Following}
use Rattle.redo_machine.specs.Reading.{AreNumbered}
use Rattle.redo_ownmachine.proofs.From.{groups_same, told_earlier}
use Rattle.redo_ownmachine.proofs.Places.{crew_length, crew_views, Stays, StaysAt, stays_at}
use Rattle.redo_ownmachine.proofs.UserBeside.{come_user}
use Rattle.redo_ownmachine.specs.OwnCrew.{crew, seats_of}
use Rattle.redo_ownmachine.specs.OwnSeats.{OwnSeats, actors_of}
use Rattle.redo_ownmachine.specs.OwnStore.{OwnComesFrom, OwnRunsWith}
use Rattle.redo_ownmachine.specs.Serving.{IsUserServed}
use Rattle.redo_ownmachine.specs.declared.machine.OwnMachine.{OwnMachine}

-- an actor that is no follower, or the same one
same_later : {R : Type 0} (o : Option (Following R)) (a b : Actor R) → Stays a b → IsSameFollower o (follower_of a)
    → IsSameFollower o (follower_of b)
same_later {R} o a b stays same = ⊎_elim
    (λ none. subst (IsSameFollower o) (none.0 ∙ sym none.1) same)
    (λ is. subst (λ (z : Actor R). IsSameFollower o (follower_of z)) (sym is) same) stays

got_by_none : {R : Type 0} (stands : R → List Given → Type 0) (o : Option (Following R)) (groups : List Given)
    → HasGot stands o groups None
got_by_none stands None groups = tt
got_by_none stands (Some f) groups = tt

module _ {L D X R : Type 0} (log_seen : L → Seen) (data_seen : D → Seen) (seen : X → Seen)
    (gives : X → Call → X → Type 0) (stands : R → List Given → Type 0) (run : RunOf L D) (archive : Bool)
    (starts : List (Actor R))
    (first : Option (Part X)) (parts : Parts L D) (actors : List (Actor R)) (part : Option (Part X)) where
  -- the run that began with the first of these actors and with this archive has come to these
  abbrev pub HasComeWith : Type 0
  HasComeWith = (F : RunsFromWith log_seen data_seen stands run archive starts parts actors)
      × HasComeTo log_seen data_seen seen gives run parts (views_of actors) F.runs first part

  -- the same, by a list of the actors as the definitions see them
  record ComesOver (views : List model.Actor) : Type 0 where
    runs : RunsWith log_seen data_seen run archive parts views
    count : length actors ≡ length starts
    same : (seat : ℕ) (a b : Actor R) → get_elem? starts seat ≡ some a → get_elem? actors seat ≡ some b
        → IsSameFollower (follower_of a) (follower_of b)
    got : (run_log_side log_seen data_seen run).Tells parts.log
        → (seat : ℕ) (a b : Actor R) → get_elem? starts seat ≡ some a → get_elem? actors seat ≡ some b
        → HasGot stands (follower_of a) (groups_of (view_of b) runs.running.log_ghost.log) (follower_of b)
    come : HasComeTo log_seen data_seen seen gives run parts views runs first part

  over : HasComeWith → ComesOver (views_of actors)
  over C = let F = C.0 in record { runs = F.runs; count = F.count; same = F.same; got = F.got; come = C.1 }

  come_with : ComesOver (views_of actors) → HasComeWith
  come_with C = (record { runs = C.runs; count = C.count; same = C.same; got = C.got }, C.come)

module _ {L D R : Type 0} (log_seen : L → Seen) (data_seen : D → Seen) (run : RunOf L D) (old new : Parts L D)
    (users : List OwnUser) (work left : LogWork) (others : List (Actor R)) (seat : ℕ) (who then : OwnUser) (step : Step)
    (at : get_elem? users seat ≡ some who)
    (served : IsUserServed log_seen data_seen run old who work step new then left) where
  abbrev held : OwnSeats
  held = record { users = users; work = work; others = views_of others }

  abbrev left_held : OwnSeats
  left_held = record { users = set users seat then; work = left; others = views_of others }

  abbrev now : List (Actor R)
  now = crew (set users seat then) left others

  many : length (set users seat then) ≡ length users
  many = length-set users seat then

  stays : (j : ℕ) (b : Actor R) → get_elem? now j ≡ some b → StaysAt (crew users work others) j b
  stays j b here = stays_at users (set users seat then) work left others many j b here

  -- each follower has its number
  pub numbered : AreNumbered (crew users work others) → AreNumbered now
  numbered are j f here = let s = stays j (own.Follower f) here in ⊎_elim
      (λ none. let z : ◌≡◌ {A = Option (Following R)} (Some f) None = none.1 in absurd (cc))
      (λ is. are j f (s.1 ∙ ap some (sym is))) s.2

  module _ {X : Type 0} {archive : Bool} (seen : X → Seen) (gives : X → Call → X → Type 0)
      (stands : R → List Given → Type 0)
      (law : (limit flushed more : ℕ) (r : ReaderState) (part : Part X) → flushed ≤ more → more ≤ limit
      → KeepsPace seen limit flushed r part → KeepsPace seen limit more r part)
      (errands : Errands (run_log_side log_seen data_seen run) old.log users work)
      (later : OwnRunsWith log_seen data_seen run archive old held
      → OwnRunsWith log_seen data_seen run archive new left_held)
      (starts : List (Actor R)) (first part : Option (Part X)) where
    abbrev Over : Parts L D → List (Actor R) → List model.Actor → Type 0
    Over parts actors views =
        ComesOver log_seen data_seen seen gives stands run archive starts first parts actors part views

    goes_to : Over old (crew users work others) (actors_of held) → Over new now (actors_of left_held)
    goes_to F = record {
      runs = ran.runs;
      count = crew_length left (set users seat then) others ∙ ap (λ (n : ℕ). n + 2 + length others) many
          ∙ sym (crew_length work users others) ∙ F.count;
      same = λ j a b began here. let s = stays j b here in
          same_later (follower_of a) s.0 b s.2 (F.same j a s.0 began s.1);
      got = λ told j a b began here. let s = stays j b here in
          ⊎_elim
          (λ none. subst (λ (o : Option (Following R)).
          HasGot stands (follower_of a) (groups_of (view_of b) ran.runs.running.log_ghost.log) o) (sym none.1)
          (got_by_none stands (follower_of a) (groups_of (view_of b) ran.runs.running.log_ghost.log)))
          (λ is. subst (λ (z : Actor R).
          HasGot stands (follower_of a) (groups_of (view_of z) ran.runs.running.log_ghost.log) (follower_of z)) (sym is)
          (subst (λ (l : List Given). HasGot stands (follower_of a) l (follower_of s.0))
          (sym (kept told j s.0 s.1))
          (F.got (earlier told) j a s.0 began s.1)))
          s.2;
      come = come_user log_seen data_seen run old new users work left others seat who then step at served before ran seen law
          gives first part F.come;
    }
      where
        before : OwnRunsWith log_seen data_seen run archive old held
        before = record { runs = F.runs; errands = errands }

        ran : OwnRunsWith log_seen data_seen run archive new left_held
        ran = later before

        earlier : (run_log_side log_seen data_seen run).Tells new.log
            → (run_log_side log_seen data_seen run).Tells old.log
        earlier = told_earlier log_seen data_seen run old new users work left (views_of others) seat who then step at
            served before ran

        kept : (run_log_side log_seen data_seen run).Tells new.log → (j : ℕ) (a : Actor R)
            → get_elem? (crew users work others) j ≡ some a
            → ◌≡◌ {A = List Given} (groups_of (view_of a) ran.runs.running.log_ghost.log)
            (groups_of (view_of a) F.runs.running.log_ghost.log)
        kept told j a there = groups_same log_seen data_seen run old new users work left (views_of others) seat who then
            step at served before ran told j (view_of a)
            (ap (λ (l : List model.Actor). get_elem? l j) (sym (crew_views work users others))
            ∙ views_at (crew users work others) j a there)

    -- THE RUN COMES TO IT AGAIN.
    pub user_comes :
        HasComeWith log_seen data_seen seen gives stands run archive starts first old (crew users work others) part
        → HasComeWith log_seen data_seen seen gives stands run archive starts first new now part
    user_comes C = come_with log_seen data_seen seen gives stands run archive starts first new now part
        (subst (Over new now) (sym (crew_views left (set users seat then) others))
        (goes_to (subst (Over old (crew users work others)) (crew_views work users others)
        (over log_seen data_seen seen gives stands run archive starts first old (crew users work others) part C))))

-- where it has come the invariant holds
pub runs_there : {L D X R : Type 0} {gives : X → Call → X → Type 0} (log_seen : L → Seen) (data_seen : D → Seen)
    (seen : X → Seen) (stands : R → List Given → Type 0) (run : RunOf L D) (archive : Bool) (starts : List (Actor R))
    (first : Option (Part X)) (m : OwnMachine L D X R)
    → OwnComesFrom log_seen data_seen seen gives stands run archive starts first m
    → OwnRunsWith log_seen data_seen run archive m.parts (seats_of m)
runs_there log_seen data_seen seen stands run archive starts first m C = record {
  runs = subst (λ (l : List model.Actor). RunsWith log_seen data_seen run archive m.parts l)
      (crew_views m.work m.users.items m.others.items) C.from.runs;
  errands = C.errands;
}
