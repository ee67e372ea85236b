-- The actors that a run leaves, put into their places one by one.
use Rattle.std.proofs.Common.{List, None, Option, [], ap, append_assoc, arith, length, length-append, map, refl, sym, ℕ, ◌+◌, ◌++◌, ◌∙◌, ◌∷◌, ◌≡◌, ◌≤◌}
use Rattle.std.proofs.lemmas.List.{length-map}
use Rattle.model_own.specs.{LogWork}
use Rattle.redo_drive.specs.declared.actor.Actor.{Actor}
use Rattle.redo_drive.specs.declared.actor.Actor.TheVariants as actor
use Rattle.redo_ownrule.specs.Players.{actor_of, crew, workers_of}
use Rattle.redo_ownrule.specs.declared.player.Player.{Player}
use Rattle.redo_ownrule.specs.declared.player.Player.TheVariants as player

-- those that are in their places, and the log's work, if its actors aren't there yet
pub record Placed (R : Type 0) : Type 0 where
  pub actors : List (Actor R)
  pub work : Option LogWork

abbrev pub place_one : {R : Type 0} → Placed R → Player R → Placed R
place_one s (player.Own o) = record s { actors = s.actors ++ actor.User o.user ∷ [] }
place_one s (player.Plain a) = record { actors = (s.actors ++ workers_of s.work) ++ a ∷ []; work = None }

abbrev pub placed : {R : Type 0} → Placed R → List (Player R) → Placed R
placed s [] = s
placed s (p ∷ ps) = placed (place_one s p) ps

placed_more : {R : Type 0} (s : Placed R) (ps : List (Player R)) (p : Player R)
    → ◌≡◌ {A = Placed R} (placed s (ps ++ p ∷ [])) (place_one (placed s ps) p)
placed_more s [] p = refl
placed_more s (x ∷ xs) p = placed_more (place_one s x) xs p

-- one more, by what it is
pub place_more : {R : Type 0} (s first : Placed R) (ps : List (Player R)) (p q : Player R)
    → ◌≡◌ {A = Placed R} s (placed first ps) → ◌≡◌ {A = Player R} p q
    → ◌≡◌ {A = Placed R} (place_one s q) (placed first (ps ++ p ∷ []))
place_more {R} s first ps p q so is = ap (λ (z : Player R). place_one s z) (sym is)
    ∙ ap (λ (z : Placed R). place_one z p) so ∙ sym (placed_more first ps p)

module _ {R : Type 0} where
  -- with no work left to place there are only their own actors
  pub alone : (ps : List (Player R)) → ◌≡◌ {A = List (Actor R)} (map actor_of ps) (crew None ps)
  alone [] = refl
  alone (player.Own o ∷ ps) = ap (λ (l : List (Actor R)). actor.User o.user ∷ l) (alone ps)
  alone (player.Plain a ∷ ps) = refl

  pub all_placed : (s : Placed R) (ps : List (Player R)) → ◌≡◌ {A = List (Actor R)}
      ((placed s ps).actors ++ workers_of (placed s ps).work) (s.actors ++ crew s.work ps)
  all_placed s [] = refl
  all_placed s (player.Own o ∷ ps) = all_placed (place_one s (player.Own o)) ps
      ∙ append_assoc s.actors (actor.User o.user ∷ []) (crew s.work ps)
  all_placed s (player.Plain a ∷ ps) = all_placed (place_one s (player.Plain a)) ps
      ∙ append_assoc (s.actors ++ workers_of s.work) (a ∷ []) (crew None ps)
      ∙ append_assoc s.actors (workers_of s.work) (a ∷ crew None ps)
      ∙ ap (λ (l : List (Actor R)). s.actors ++ (workers_of s.work ++ a ∷ l)) (sym (alone ps))

  pub length_crew : (work : Option LogWork) (ps : List (Player R))
      → length (crew work ps) ≡ length (workers_of {R = R} work) + length ps
  length_crew work [] = omega arith
  length_crew work (player.Own o ∷ ps) = let n = length_crew work ps in omega arith
  length_crew work (player.Plain a ∷ ps) =
      let n = length-append (workers_of {R = R} work) (a ∷ map actor_of ps) in
      let k = length-map ps actor_of in omega arith

  -- there is room for all that are still to come
  pub room_left : (s first : Placed R) (ps all : List (Player R)) (capacity : ℕ)
      → ◌≡◌ {A = Placed R} s (placed first ps)
      → first.actors ≡ [] → length (crew first.work all) ≤ capacity
      → length s.actors + length (workers_of {R = R} s.work) + length all ≤ capacity + length ps
  room_left s first ps all capacity so empty enough =
      let now = sym (length-append s.actors (workers_of s.work))
      ∙ ap (λ (z : Placed R). length (z.actors ++ workers_of z.work)) so
      ∙ ap (λ (l : List (Actor R)). length l) (all_placed first ps)
      ∙ ap (λ (l : List (Actor R)). length (l ++ crew first.work ps)) empty in
      let n = length_crew first.work ps in
      let m = length_crew first.work all in omega arith

  -- and in the end all are there
  pub whole_crew : (s first : Placed R) (all : List (Player R)) → ◌≡◌ {A = Placed R} s (placed first all)
      → first.actors ≡ [] → ◌≡◌ {A = List (Actor R)} (s.actors ++ workers_of s.work) (crew first.work all)
  whole_crew s first all so empty = ap (λ (z : Placed R). z.actors ++ workers_of z.work) so ∙ all_placed first all
      ∙ ap (λ (l : List (Actor R)). l ++ crew first.work all) empty
