-- The actors of a run, as players who have seats know them.
use Rattle.std.proofs.Common.{List, None, Some, [], ap, arith, false, length, length-append, map, refl, subst, suc, sym, zero, ℕ, ⊎_elim, ◌+◌, ◌∙◌, ◌∷◌, ◌≡◌, ◌≤◌}
use lib.ListN.{get_elem?}
use mathlib.Core.Option as maybe
use Rattle.model_core.specs.{FlusherState, UserState, WriterState, flusher_hand, HoldsNothing, writer_hand, writer_holds_tail, LogSide}
use Rattle.model_core.specs.States as model
use Rattle.model_core.specs.declared.steps.AdvanceStep.TheVariants as advance_step
use Rattle.model_core.specs.declared.steps.FlusherStep.{FlusherStep}
use Rattle.model_core.specs.declared.steps.FlusherStep.TheVariants as flusher_step
use Rattle.model_core.specs.declared.steps.WriterStep.{WriterStep}
use Rattle.model_core.specs.declared.steps.WriterStep.TheVariants as writer_step
use Rattle.model_core.specs.declared.words.LinkBuffer.{LinkBuffer}
use Rattle.model_core.specs.declared.words.LinkBuffer.TheVariants as link_buffer
use Rattle.model_own.specs.{all_actors, LogWork, OwnUser, has_work}
use Rattle.model_own.specs.declared.errand.ErrandStep.TheVariants as errand_step
use Rattle.model_ownrun.specs.OwnRunning.{Errands, IsFlusherAtRest, IsWriterAtRest, WorkFits}
use Rattle.redo_drive.specs.{view_of, views_of}
use Rattle.redo_ownrule.specs.Players.{actor_of, crew, IsAtRest, numbered_as, place_behind, seated}
use Rattle.redo_ownrule.specs.Sharing.{AllAtRest}
use Rattle.redo_ownrule.specs.declared.player.Player.{Player}
use Rattle.redo_ownrule.specs.declared.player.Player.TheVariants as player
use Rattle.redo_rule.specs.Cutting.{HoldNothing}
use Rattle.redo_rule.specs.declared.law.Heard.{Heard}

-- how a user of a store whose users write for themselves, and who plays beside them, sit as the actor of a number
abbrev pub SitsHere : {R : Type 0} → List OwnUser → ℕ → Player R → Type 0
SitsHere users n (player.Plain a) = length users + 2 ≤ n
SitsHere users n (player.Own o) =
    (u : UserState) × (get_elem? users n ≡ maybe.some (record { user = u; errand = o.errand; helped = o.helped }))

-- each player is the actor of its number, and there are no others but the writer and the flusher
pub record AreMatched {R : Type 0} (users : List OwnUser) (k : LogWork) (others : List model.Actor)
    (ps : List (Player R)) : Type 0 where
  pub count : length (all_actors users k others) ≡ length ps + 2
  pub there : (i : ℕ) (p : Player R) → get_elem? ps i ≡ maybe.some p
      → get_elem? (all_actors users k others) (place_behind ps i) ≡ maybe.some (view_of (actor_of p))
  pub sits : (i : ℕ) (p : Player R) → get_elem? ps i ≡ maybe.some p → SitsHere users (place_behind ps i) p

module _ {R : Type 0} where
  pub seated_there : (number : ℕ → ℕ) (heard : ℕ → Heard) (k : ℕ) (ps : List (Player R)) (i : ℕ) (p : Player R)
      → get_elem? ps i ≡ maybe.some p
      → get_elem? (seated number heard k ps) i ≡ maybe.some (numbered_as (number (k + i)) (heard (k + i)) p)
  seated_there number heard k [] i p at = absurd (maybe.some-ne-none p (sym at))
  seated_there number heard k (q ∷ ps) zero p at =
      ap (λ (x : Player R). maybe.some (numbered_as (number k) (heard k) x)) (maybe.some-injective q p at)
      ∙ ap (λ (n : ℕ). maybe.some (numbered_as (number n) (heard n) p)) (let z : k ≡ k + 0 = omega arith in z)
  seated_there number heard k (q ∷ ps) (suc i) p at = seated_there number heard (k + 1) ps i p at
      ∙ ap (λ (n : ℕ). maybe.some (numbered_as (number n) (heard n) p))
      (let z : k + 1 + i ≡ k + suc i = omega arith in z)

  pub all_views : (actors : List model.Actor) (ps : List (Player R)) → length actors ≡ length ps
      → ((i : ℕ) (p : Player R) → get_elem? ps i ≡ maybe.some p
      → get_elem? actors i ≡ maybe.some (view_of (actor_of p)))
      → ◌≡◌ {A = List model.Actor} actors (views_of (map actor_of ps))
  all_views [] [] count there = refl
  all_views [] (p ∷ ps) count there = absurd (omega arith)
  all_views (a ∷ actors) [] count there = absurd (omega arith)
  all_views (a ∷ actors) (p ∷ ps) count there =
      ap (λ (x : model.Actor). x ∷ actors) (maybe.some-injective a (view_of (actor_of p)) (there 0 p refl))
      ∙ ap (λ (l : List model.Actor). view_of (actor_of p) ∷ l)
      (all_views actors ps (omega arith) (λ i q at. there (suc i) q at))

  -- behind the first user
  sits_behind : (u : OwnUser) (us : List OwnUser) (n : ℕ) (p : Player R) → SitsHere (u ∷ us) (suc n) p → SitsHere us n p
  sits_behind u us n (player.Plain a) far = omega arith
  sits_behind u us n (player.Own o) sits = sits

  matched_behind : (u : OwnUser) (us : List OwnUser) (k : LogWork) (others : List model.Actor) (o : OwnUser)
      (ps : List (Player R)) → AreMatched (u ∷ us) k others (player.Own o ∷ ps) → AreMatched us k others ps
  matched_behind u us k others o ps M = record {
    count = (let n = M.count in omega arith);
    there = λ i p at. M.there (suc i) p at;
    sits = λ i p at. sits_behind u us (place_behind ps i) p (M.sits (suc i) p at);
  }

  too_many : (u : OwnUser) (us : List OwnUser) (k : LogWork) (others : List model.Actor)
      → AreMatched {R = R} (u ∷ us) k others [] → ⊥
  too_many u us k others M =
      let n = M.count in
      let m = length-append (map (λ (o : OwnUser). model.User o.user) us)
      (model.Writer k.writer ∷ model.Flusher k.flusher ∷ others) in omega arith

  -- SO THEY ARE THE ACTORS that the players leave
  pub own_match : (users : List OwnUser) (k : LogWork) (others : List model.Actor) (ps : List (Player R))
      → AreMatched users k others ps
      → ◌≡◌ {A = List model.Actor} (all_actors users k others) (views_of (crew (Some k) ps))
  own_match [] k [] [] M = refl
  own_match [] k (x ∷ others) [] M = absurd (let n = M.count in omega arith)
  own_match (u ∷ us) k others [] M = absurd (too_many u us k others M)
  own_match [] k others (player.Plain a ∷ ps) M =
      ap (λ (l : List model.Actor). model.Writer k.writer ∷ model.Flusher k.flusher ∷ l)
      (all_views others (player.Plain a ∷ ps) (let n = M.count in omega arith) (λ i p at. M.there i p at))
  own_match (u ∷ us) k others (player.Plain a ∷ ps) M =
      absurd (let far = M.sits 0 (player.Plain a) refl in omega arith)
  own_match [] k others (player.Own o ∷ ps) M =
      absurd (let s = M.sits 0 (player.Own o) refl in
      maybe.some-ne-none (record { user = s.0; errand = o.errand; helped = o.helped }) (sym s.1))
  own_match (u ∷ us) k others (player.Own o ∷ ps) M =
      ap (λ (x : model.Actor). x ∷ all_actors us k others)
      (maybe.some-injective (model.User u.user) (model.User o.user) (M.there 0 (player.Own o) refl))
      ∙ ap (λ (l : List model.Actor). model.User o.user ∷ l)
      (own_match us k others ps (matched_behind u us k others o ps M))

  -- AT REST nobody has the log's work, and nobody holds anything
  pub none_at_work : (users : List OwnUser) (k : LogWork) (others : List model.Actor) (ps : List (Player R))
      → AreMatched users k others ps → AllAtRest ps
      → (n : ℕ) (o : OwnUser) → get_elem? users n ≡ maybe.some o → has_work o.errand ≡ false
  none_at_work [] k others ps M rest n x at = absurd (maybe.some-ne-none x (sym at))
  none_at_work (u ∷ us) k others [] M rest n x at = absurd (too_many u us k others M)
  none_at_work (u ∷ us) k others (player.Plain a ∷ ps) M rest n x at =
      absurd (let far = M.sits 0 (player.Plain a) refl in omega arith)
  none_at_work (u ∷ us) k others (player.Own o ∷ ps) M rest zero x at =
      let s = M.sits 0 (player.Own o) refl in
      let its : OwnUser = record { user = s.0; errand = o.errand; helped = o.helped } in
      subst (λ (z : OwnUser). has_work z.errand ≡ false)
      (sym (maybe.some-injective u its s.1) ∙ maybe.some-injective u x at) (rest 0 (player.Own o) refl).1
  none_at_work (u ∷ us) k others (player.Own o ∷ ps) M rest (suc n) x at =
      none_at_work us k others ps (matched_behind u us k others o ps M) (λ i p here. rest (suc i) p here) n x at

  pub hold_nothing : (ps : List (Player R)) → AllAtRest ps → HoldNothing (views_of (map actor_of ps))
  hold_nothing [] rest i a at = absurd (maybe.some-ne-none a (sym at))
  hold_nothing (p ∷ ps) rest zero a at =
      subst HoldsNothing (maybe.some-injective (view_of (actor_of p)) a at) (holds p (rest 0 p refl))
    where
      holds : (q : Player R) → IsAtRest q → HoldsNothing (view_of (actor_of q))
      holds (player.Plain b) it = it
      holds (player.Own o) it = it.0
  hold_nothing (p ∷ ps) rest (suc i) a at = hold_nothing ps (λ j q here. rest (suc j) q here) i a at

  pub crew_at_rest : (k : LogWork) → HoldsNothing (model.Writer k.writer) → HoldsNothing (model.Flusher k.flusher)
      → (ps : List (Player R)) → AllAtRest ps → HoldNothing (views_of (crew (Some k) ps))
  crew_at_rest k w f [] rest zero a at = subst HoldsNothing (maybe.some-injective (model.Writer k.writer) a at) w
  crew_at_rest k w f [] rest (suc zero) a at =
      subst HoldsNothing (maybe.some-injective (model.Flusher k.flusher) a at) f
  crew_at_rest k w f [] rest (suc (suc i)) a at = absurd (maybe.some-ne-none a (sym at))
  crew_at_rest k w f (player.Plain b ∷ ps) rest zero a at =
      subst HoldsNothing (maybe.some-injective (model.Writer k.writer) a at) w
  crew_at_rest k w f (player.Plain b ∷ ps) rest (suc zero) a at =
      subst HoldsNothing (maybe.some-injective (model.Flusher k.flusher) a at) f
  crew_at_rest k w f (player.Plain b ∷ ps) rest (suc (suc i)) a at = hold_nothing (player.Plain b ∷ ps) rest i a at
  crew_at_rest k w f (player.Own o ∷ ps) rest zero a at =
      subst HoldsNothing (maybe.some-injective (model.User o.user) a at) (rest 0 (player.Own o) refl).0
  crew_at_rest k w f (player.Own o ∷ ps) rest (suc i) a at =
      crew_at_rest k w f ps (λ j q here. rest (suc j) q here) i a at

-- the writer and the flusher hold nothing while nobody has the log's work
module _ (D : LogSide) (p : D.Part) where
  writer_free : (w : WriterState) → IsWriterAtRest D p w.step → HoldsNothing (model.Writer w)
  writer_free w rests = record { no_slot = (both w.step rests).0; no_tail = (both w.step rests).1 }
    where
      both : (s : WriterStep) → IsWriterAtRest D p s
          → (writer_hand s ≡ None) × ((b : LinkBuffer) → writer_holds_tail b s ≡ false)
      both (writer_step.Advance advance_step.LoadTail) z = (
        refl,
        λ b. elim b as (λ k. writer_holds_tail k (writer_step.Advance advance_step.LoadTail) ≡ false) [
          | link_buffer.Written ↦ refl
          | link_buffer.Closed ↦ refl
        ],
      )
      both writer_step.Failed z = (
        refl,
        λ b. elim b as (λ k. writer_holds_tail k writer_step.Failed ≡ false) [
          | link_buffer.Written ↦ refl
          | link_buffer.Closed ↦ refl
        ],
      )
      both (writer_step.Advance advance_step.TakeTail) z = absurd z
      both (writer_step.Advance advance_step.LoadLink) z = absurd z
      both (writer_step.Advance advance_step.ClearLink) z = absurd z
      both (writer_step.Advance advance_step.FreeTail) z = absurd z
      both _ z = absurd z

  flusher_free : (f : FlusherState) → IsFlusherAtRest D p f.step → HoldsNothing (model.Flusher f)
  flusher_free f rests = record { no_slot = slot f.step rests; no_tail = λ b. refl }
    where
      slot : (s : FlusherStep) → IsFlusherAtRest D p s → flusher_hand s ≡ None
      slot flusher_step.LoadWrite z = refl
      slot flusher_step.Failed z = refl
      slot _ z = absurd z

  pub at_rest : {R : Type 0} (users : List OwnUser) (k : LogWork) (others : List model.Actor) (ps : List (Player R))
      → AreMatched users k others ps → Errands D p users k → AllAtRest ps → HoldNothing (views_of (crew (Some k) ps))
  at_rest users k others ps M E rest =
      let fits : WorkFits D p errand_step.Done k = ⊎_elim (λ nobody. nobody.1)
      (λ some. absurd (let none = none_at_work users k others ps M rest some.0 some.1 some.2 in let has = some.3 in cc))
      E.work in
      crew_at_rest k (writer_free k.writer fits.step.0) (flusher_free k.flusher fits.step.1) ps rest
