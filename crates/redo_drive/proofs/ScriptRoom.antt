-- The bytes that the users of a run may reserve are those of the script's groups.
use Rattle.std.proofs.Common.{Bool, List, [], ap, append-nil, arith, cond, eqb, false, length, length-append, map, refl, subst, suc, sym, true, zero, ℕ, ◌++◌, ◌+◌, ◌<◌, ◌∙◌, ◌∷◌, ◌≡◌, ◌≤◌}
use Rattle.std.proofs.lemmas.Bool.{eq-eqb, eqb-true, ne_eqb}
use Rattle.std.proofs.lemmas.List.{map-append}
use Rattle.std.specs.List.{AllByRecursion, flat_map}
use native.Mathlib.Decide.{ℕ_discrete}
use Rattle.model_base.specs.declared.limits.TheConstants.{LSN_LIMIT}
use Rattle.model_base.specs.declared.shape.Shape.{Shape}
use Rattle.model_core.specs.{Actor, collected, Line, lsn, new_user, UserState}
use Rattle.model_core.specs.States as actor
use Rattle.model_running.proofs.Places.{lsn_is}
use Rattle.model_report.specs.{lines_of_user}
use Rattle.model_log.specs.{group_length, group_text, run_layout, sn_of, stream_of}
use Rattle.model_logcore.specs.{left_to_reserve, lengths, sum_over_actors}
use Rattle.model_script.specs.{group_of, LineFits, script_end}
use Rattle.model_script.specs.declared.misfit.TheConstants.{MAX_USERS}
use Rattle.model_script.specs.declared.script.ScriptLine.{ScriptLine}
use Rattle.redo_useractor.specs.{program_lines}
use Rattle.redo_drive.specs.declared.seating.TheConstants.{FIRST_FOLLOWER}
use Rattle.redo_drive.specs.declared.plan.Plan.{Plan}
use Rattle.redo_drive.specs.Setups.{followers_from, other_actors, page_actors, programs_of, readers_of, seated_actors, users_below, users_of, with_others}
use Rattle.redo_drive.specs.LiveActors.{idle_users, live_actors}

-- the sum for each number below n
sum_below : (ℕ → ℕ) → ℕ → ℕ
sum_below f zero = 0
sum_below f (suc n) = sum_below f n + f n

none_below : (n : ℕ) → sum_below (λ _. 0) n ≡ 0
unfolding sum_below
none_below zero = refl
none_below (suc n) = let z = none_below n in omega arith

-- one of the numbers below n has v more, of which the others have as many as before
one_below : (f g : ℕ → ℕ) (user v : ℕ) → ((k : ℕ) → f k ≡ cond (eqb user k) v 0 + g k) → (n : ℕ) → (n ≤ user → sum_below f n ≡ sum_below g n) × (user < n → sum_below f n ≡ v + sum_below g n)
unfolding sum_below
one_below f g user v each zero = ((λ _. refl), λ low. absurd (omega arith))
one_below f g user v each (suc n) = let z = one_below f g user v each n in let e = each n in elim (ℕ_discrete user n) [
  | yes same ↦ (
      let own = ap (λ (b : Bool). cond b v 0) (eq-eqb user n same) in
      let before = z.0 (omega arith) in
      ((λ high. absurd (omega arith)), λ _. omega arith))
  | no other ↦ (
      let own = ap (λ (b : Bool). cond b v 0) (ne_eqb user n other) in
      ((λ high. let before = z.0 (omega arith) in omega arith), λ low. let before = z.1 (omega arith) in omega arith))
]

-- a line is one of its own user's
line_counts : (shape : Shape) (log_only : Bool) (line : ScriptLine) (script : List ScriptLine) (user : ℕ)
    → lengths (programs_of shape log_only (line ∷ script) user) ≡ cond (eqb line.user user) (group_length (group_of shape.space line)) 0 + lengths (programs_of shape log_only script user)
line_counts shape log_only line script user = by (eqb line.user user)
  where
    in_program : List ScriptLine → List Line
    in_program lines = program_lines log_only shape (map (λ (one : ScriptLine). (one.mode, group_of shape.space one)) lines)

    by : (b : Bool) → lengths (in_program (cond b (line ∷ lines_of_user user script) (lines_of_user user script)))
        ≡ cond b (group_length (group_of shape.space line)) 0 + lengths (in_program (lines_of_user user script))
    by true = refl
    by false = omega arith

-- the texts of the lines by users are those of the script
all_count : (shape : Shape) (log_only : Bool) (script : List ScriptLine) → AllByRecursion (LineFits shape) script
    → sum_below (λ user. lengths (programs_of shape log_only script user)) (MAX_USERS + 1) ≡ length (stream_of (map (group_of shape.space) script))
unfolding stream_of
all_count shape log_only [] fits = none_below (MAX_USERS + 1)
all_count shape log_only (line ∷ script) fits =
    let text : List ℕ = group_text (group_of shape.space line) in
    let others : List ℕ = flat_map group_text (map (group_of shape.space) script) in
    let to = fits.0.user_to in
    let more = (one_below (λ user. lengths (programs_of shape log_only (line ∷ script) user)) (λ user. lengths (programs_of shape log_only script user)) line.user (length text) (line_counts shape log_only line script) (MAX_USERS + 1)).1 (omega arith) in
    more ∙ ap (λ (n : ℕ). length text + n) (all_count shape log_only script fits.1) ∙ sym (length-append text others)

none_long : (lines : List Line) → length lines ≡ 0 → lengths lines ≡ 0
none_long [] none = refl
none_long (line ∷ lines) none = absurd (omega arith)

sum_append : (f : Actor → ℕ) (xs ys : List Actor) → sum_over_actors f (xs ++ ys) ≡ sum_over_actors f xs + sum_over_actors f ys
sum_append f [] ys = omega arith
sum_append f (x ∷ xs) ys = let z = sum_append f xs ys in omega arith

-- what the users below a number may reserve
users_reserve : (blocks : ℕ) (programs : ℕ → List Line) (n : ℕ) → sum_over_actors left_to_reserve (map actor.User (users_below blocks programs n)) ≡ sum_below (λ user. lengths (programs user)) n
unfolding collected sum_below
users_reserve blocks programs zero = refl
users_reserve blocks programs (suc n) = by (eqb (length (programs n)) 0) (λ is. eqb-true (length (programs n)) 0 is) (users_reserve blocks programs n)
  where
    before : List UserState
    before = users_below blocks programs n

    user : UserState
    user = new_user n blocks (programs n)

    by : (b : Bool) → (b ≡ true → length (programs n) ≡ 0) → sum_over_actors left_to_reserve (map actor.User before) ≡ sum_below (λ k. lengths (programs k)) n
        → sum_over_actors left_to_reserve (map actor.User (before ++ cond b [] (user ∷ []))) ≡ sum_below (λ k. lengths (programs k)) n + lengths (programs n)
    by true none count =
        let nothing = none_long (programs n) (none refl) in
        let same = ap (λ (l : List UserState). sum_over_actors left_to_reserve (map actor.User l)) (append-nil before) in omega arith
    by false none count =
        let parts = ap (sum_over_actors left_to_reserve) (map-append actor.User before (user ∷ [])) ∙ sum_append left_to_reserve (map actor.User before) (actor.User user ∷ []) in
        let last : sum_over_actors left_to_reserve (actor.User user ∷ []) ≡ lengths (programs n) = omega arith in omega arith

-- the actors of the pages reserve nothing
pages_reserve : (shape : Shape) (start : ℕ) (plan : Plan)
    → sum_over_actors left_to_reserve (page_actors shape start plan) ≡ 0
pages_reserve shape start plan = by plan.log_only
  where
    by : (b : Bool) → sum_over_actors left_to_reserve (page_actors shape start (record plan { log_only = b })) ≡ 0
    by true = refl
    by false = refl

followers_reserve : (start number followers : ℕ)
    → sum_over_actors left_to_reserve (followers_from start number followers) ≡ 0
followers_reserve start number zero = refl
followers_reserve start number (suc n) = let rest = followers_reserve start (number + 1) n in omega arith

readers_reserve : (start : ℕ) (plan : Plan) → sum_over_actors left_to_reserve (readers_of start plan) ≡ 0
readers_reserve start plan = by plan.archive
  where
    by : (b : Bool) → sum_over_actors left_to_reserve (readers_of start (record plan { archive = b })) ≡ 0
    by true = let rest = followers_reserve start FIRST_FOLLOWER plan.followers in omega arith
    by false = followers_reserve start FIRST_FOLLOWER plan.followers

-- behind the users no actor reserves anything
others_reserve : (users : List Actor) (shape : Shape) (start : ℕ) (plan : Plan)
    → sum_over_actors left_to_reserve (with_others users shape start plan)
    ≡ sum_over_actors left_to_reserve users
others_reserve users shape start plan =
    let others : List Actor = other_actors shape start plan in
    let readers : List Actor = readers_of start plan in
    let parts = sum_append left_to_reserve (users ++ others) readers in
    let more = sum_append left_to_reserve users others in
    let none = pages_reserve shape start plan in
    let nothing = readers_reserve start plan in omega arith

-- what all actors may reserve
pub actors_reserve : (shape : Shape) (script : List ScriptLine) (start : ℕ) (plan : Plan)
    → AllByRecursion (LineFits shape) script
    → sum_over_actors left_to_reserve (seated_actors shape script start plan)
    ≡ length (stream_of (map (group_of shape.space) script))
actors_reserve shape script start plan fits =
    others_reserve (map actor.User (users_of shape plan.log_only script)) shape start plan
    ∙ users_reserve (run_layout shape).blocks (programs_of shape plan.log_only script) (MAX_USERS + 1)
    ∙ all_count shape plan.log_only script fits

-- and the log has room for that
pub room_for_all : (shape : Shape) (script : List ScriptLine) (start : ℕ) (plan : Plan)
    → AllByRecursion (LineFits shape) script → script_end shape start script < LSN_LIMIT
    → lsn (sn_of start + sum_over_actors left_to_reserve (seated_actors shape script start plan)) < LSN_LIMIT
room_for_all shape script start plan fits room =
    let sum = actors_reserve shape script start plan fits in
    let end : sn_of start + sum_over_actors left_to_reserve (seated_actors shape script start plan)
    ≡ sn_of start + length (stream_of (map (group_of shape.space) script)) = omega arith in
    subst (λ (n : ℕ). lsn n < LSN_LIMIT) (sym end) (subst (λ (n : ℕ). n < LSN_LIMIT) (sym (lsn_is (sn_of start + length (stream_of (map (group_of shape.space) script))))) room)

-- users that have no lines reserve nothing
idle_reserve : (blocks n : ℕ) → sum_over_actors left_to_reserve (map actor.User (idle_users blocks n)) ≡ 0
idle_reserve blocks zero = refl
idle_reserve blocks (suc n) =
    let last : List UserState = new_user (suc n) blocks [] ∷ [] in
    let both = ap (sum_over_actors left_to_reserve) (map-append actor.User (idle_users blocks n) last) in
    let parts = sum_append left_to_reserve (map actor.User (idle_users blocks n)) (map actor.User last) in
    let before = idle_reserve blocks n in omega arith

-- so a live run has room as it begins
pub live_reserve : (shape : Shape) (users start : ℕ) (plan : Plan)
    → sum_over_actors left_to_reserve (live_actors shape users start plan) ≡ 0
live_reserve shape users start plan =
    others_reserve (map actor.User (idle_users (run_layout shape).blocks users)) shape start plan
    ∙ idle_reserve (run_layout shape).blocks users
