-- What the users tell of their groups is the log of the run.
use Rattle.std.proofs.Common.{Bool, List, [], ap, arith, false, get_or, length, map, refl, slice_index, suc, sym, zero, ℕ, ◌++◌, ◌+◌, ◌-◌, ◌<◌, ◌∙◌, ◌∷◌, ◌≡◌, ◌≤◌}
use Rattle.std.proofs.lemmas.List.{length-map}
use Rattle.std.proofs.lemmas.List.Concat.{flat_map-cons}
use lib.ListN.{get_elem?}
use mathlib.Core.Option.{some, some-injective, some-ne-none}
use Rattle.model_base.specs.declared.limits.TheConstants.{LSN_LIMIT}
use Rattle.model_core.proofs.Groups.{tiles_at}
use Rattle.model_core.proofs.Lsns.{lsn_less, sn_below}
use Rattle.model_core.specs.States as model
use Rattle.model_core.specs.{end_of, entries, entries_from, entry, Line, line_at, lsn, sum_of, Tiles, UserState, Setup}
use Rattle.model_running.proofs.Seated.{user_seat}
use Rattle.model_running.specs.{AreSeated, history_entry, history_of, word_marks}
use Rattle.model_report.specs.declared.entry.Entry.{Entry}
use Rattle.model_report.specs.declared.entry.Marks.{Marks}
use Rattle.model_logcore.proofs.AnswersFit.{small_sn}
use Rattle.model_logcore.specs.{LogGhost, sum_over_actors, UserFits, LogHalf}
use Rattle.redo_disk.specs.{Seen}
use Rattle.redo_drive.proofs.InOrder.{Rises, same_in_order, total, total_moved}
use Rattle.redo_drive.proofs.Viewed.{view_at}
use Rattle.redo_drive.specs.History.{ListsInOrder, all_listed, listed, view_of, views_of}
use Rattle.redo_drive.specs.Reserved.{HasGroups, HasReserved, KeepsAll}
use Rattle.redo_drive.specs.Running.{RunOf, run_log_side, RunsWith}
use Rattle.redo_drive.specs.declared.actor.Actor.{Actor}
use Rattle.redo_drive.specs.declared.parts.Parts.{Parts}

-- the history of a log ascends by its starts
rises_later : (n m : ℕ) (xs : List Entry) → n ≤ m → Rises m xs → Rises n xs
rises_later n m [] l up = tt
rises_later n m (x ∷ xs) l up = let low = up.0 in (omega arith, up.1)

history_rises : (answered : ℕ → ℕ) (marks : Marks) (log : List model.Entry) (s n : ℕ) → Tiles s log n → Rises (lsn s) (history_of answered marks log)
history_rises answered marks [] s n tiles = tt
history_rises answered marks (e ∷ es) s n tiles =
    let start : lsn s ≡ lsn e.start = ap lsn (sym tiles.0) in
    let some_bytes = tiles.1 in
    let next = lsn_less s (s + length e.bytes) (omega arith) in
    (omega arith, rises_later (lsn e.start + 1) (lsn (s + length e.bytes)) (history_of answered marks es) (omega arith) (history_rises answered marks es (s + length e.bytes) n tiles.3))

-- a number of the history's entries is one of the log's groups
log_total : (answered : ℕ → ℕ) (marks : Marks) (f : Entry → ℕ) (log : List model.Entry) → total f (history_of answered marks log) ≡ sum_of (λ e. f (history_entry answered marks e)) log
log_total answered marks f [] = refl
log_total answered marks f (e ∷ es) = ap (λ (n : ℕ). f (history_entry answered marks e) + n) (log_total answered marks f es)

user_total : (answered : ℕ → ℕ) (marks : Marks) (f : Entry → ℕ) (user done : ℕ) (lines : List Line) (k : ℕ) (starts : List ℕ) → answered user ≡ done
    → total f (map (history_entry (λ v. done) marks) (entries_from user lines k starts)) ≡ sum_of (λ e. f (history_entry answered marks e)) (entries_from user lines k starts)
user_total answered marks f user done lines k [] is = refl
user_total answered marks f user done lines k (s ∷ ss) is =
    let first : f (history_entry (λ v. done) marks (entry user k s (line_at lines k))) ≡ f (history_entry answered marks (entry user k s (line_at lines k))) =
    ap (λ (n : ℕ). f (history_entry (λ v. n) marks (entry user k s (line_at lines k)))) (sym is) in
    let rest = user_total answered marks f user done lines (k + 1) ss is in
    omega arith

-- the number of the j-th of a user's groups is at most that of all
group_at : (h : model.Entry → ℕ) (user : ℕ) (lines : List Line) (k : ℕ) (starts : List ℕ) (j : ℕ) → j < length starts → h (entry user (k + j) (slice_index starts j) (line_at lines (k + j))) ≤ sum_of h (entries_from user lines k starts)
group_at h user lines k [] j l = absurd (omega arith)
group_at h user lines k (s ∷ ss) zero l = let same : h (entry user (k + 0) s (line_at lines (k + 0))) ≡ h (entry user k s (line_at lines k)) = ap (λ (i : ℕ). h (entry user i s (line_at lines i))) (omega arith) in omega arith
group_at h user lines k (s ∷ ss) (suc j) l =
    let r = group_at h user lines (k + 1) ss j (omega arith) in
    let same : h (entry user (k + suc j) (slice_index ss j) (line_at lines (k + suc j))) ≡ h (entry user (k + 1 + j) (slice_index ss j) (line_at lines (k + 1 + j))) =
    ap (λ (i : ℕ). h (entry user i (slice_index ss j) (line_at lines i))) (omega arith) in
    omega arith

actor_at : (h : model.Actor → ℕ) (actors : List model.Actor) (seat : ℕ) (a : model.Actor) → get_elem? actors seat ≡ some a → h a ≤ sum_over_actors h actors
actor_at h [] seat a at = absurd (some-ne-none a (sym at))
actor_at h (x ∷ xs) zero a at = let same : h x ≡ h a = ap h (some-injective x a at) in omega arith
actor_at h (x ∷ xs) (suc seat) a at = let r = actor_at h xs seat a at in omega arith

none_of_log : (h : model.Entry → ℕ) (log : List model.Entry) → ((i : ℕ) (e : model.Entry) → get_elem? log i ≡ some e → h e ≡ 0) → sum_of h log ≡ 0
none_of_log h [] each = refl
none_of_log h (e ∷ es) each = let a = each 0 e refl in let r = none_of_log h es (λ i x is. each (suc i) x is) in omega arith

total_append : (f : Entry → ℕ) (xs ys : List Entry) → total f (xs ++ ys) ≡ total f xs + total f ys
total_append f [] ys = omega arith
total_append f (x ∷ xs) ys = let r = total_append f xs ys in omega arith

ones : (xs : List Entry) → total (λ e. 1) xs ≡ length xs
ones [] = refl
ones (x ∷ xs) = let r = ones xs in omega arith

-- what is told of a user's answered commits
abbrev AreAnswered : (ℕ → ℕ) → List model.Actor → Type 0
AreAnswered answered actors = (seat : ℕ) (u : UserState) → get_elem? actors seat ≡ some (model.User u) → answered u.user ≡ u.k

actor_total : (answered : ℕ → ℕ) (marks : Marks) (f : Entry → ℕ) (a : model.Actor)
    → ((u : UserState) → a ≡ model.User u → answered u.user ≡ u.k)
    → total f (listed marks a) ≡ sum_of (λ e. f (history_entry answered marks e)) (entries a)
actor_total answered marks f (model.User u) is =
    user_total answered marks f u.user u.k u.lines 0 u.starts (is u refl)
actor_total answered marks f _ is = refl

all_total : (answered : ℕ → ℕ) (marks : Marks) (f : Entry → ℕ) (actors : List model.Actor)
    → AreAnswered answered actors
    → total f (all_listed marks actors)
    ≡ sum_over_actors (λ a. sum_of (λ e. f (history_entry answered marks e)) (entries a)) actors
all_total answered marks f [] are = refl
all_total answered marks f (x ∷ xs) are =
    let parts : total f (all_listed marks (x ∷ xs)) ≡ total f (listed marks x) + total f (all_listed marks xs) =
    ap (total f) (flat_map-cons (listed marks) x xs) ∙ total_append f (listed marks x) (all_listed marks xs) in
    let first = actor_total answered marks f x (λ u is. are 0 u (ap some is)) in
    let rest = all_total answered marks f xs (λ seat u at. are (suc seat) u at) in
    omega arith

keeps_all : {live : Bool} (c : Setup) (actors : List model.Actor) → AreSeated live c actors → live ≡ false
    → (seat : ℕ) (a : model.Actor) → get_elem? actors seat ≡ some a → KeepsAll a
keeps_all c actors seated fixed seat (model.User u) at = seated.keep fixed seat u (user_seat c actors seated seat u at)
keeps_all c actors seated fixed seat _ at = tt

module _ {L D : Type 0} {archive : Bool} (log_seen : L → Seen) (data_seen : D → Seen) (run : RunOf L D) (parts : Parts L D)
    (actors : List model.Actor) (runs : RunsWith log_seen data_seen run archive parts actors) where
  abbrev ghosts : LogGhost
  ghosts = runs.running.log_ghost

  abbrev marks : Marks
  marks = word_marks runs.running.shared

  abbrev half : LogHalf (run_log_side log_seen data_seen run) run.setup runs.running.shared ghosts parts.log actors
  half = runs.running.both.logged

  -- what no group of the log has, no group of a user has
  pub none_of_user : (h : model.Entry → ℕ) → ((i : ℕ) (e : model.Entry) → get_elem? ghosts.log i ≡ some e → h e ≡ 0)
      → (seat : ℕ) (u : UserState) → get_elem? actors seat ≡ some (model.User u) → (k : ℕ) → k < length u.starts
      → h (entry u.user k (slice_index u.starts k) (line_at u.lines k)) ≡ 0
  none_of_user h none seat u at k l =
      let here : h (entry u.user (0 + k) (slice_index u.starts k) (line_at u.lines (0 + k))) ≤ sum_of h (entries (model.User u)) = group_at h u.user u.lines 0 u.starts k l in
      let same : h (entry u.user (0 + k) (slice_index u.starts k) (line_at u.lines (0 + k))) ≡ h (entry u.user k (slice_index u.starts k) (line_at u.lines k)) = ap (λ (i : ℕ). h (entry u.user i (slice_index u.starts k) (line_at u.lines i))) (omega arith) in
      let seats = actor_at (λ a. sum_of h (entries a)) actors seat (model.User u) at in
      let all = half.counted h in
      let nothing = none_of_log h ghosts.log none in
      omega arith

  reserved : (seat : ℕ) (u : UserState) → get_elem? actors seat ≡ some (model.User u) → (k : ℕ) → k < length u.starts → HasReserved u k
  reserved seat u at k l =
      let f : UserFits (run_log_side log_seen data_seen run) run.setup runs.running.shared ghosts parts.log seat u = half.each seat (model.User u) at in
      let tiled = half.global.tiled in
      let line : suc k - length (run.setup.script u.user) ≡ 0 = none_of_user (λ e. suc e.k - length (run.setup.script e.user)) (λ i e is. let n = (tiled.lines i e is).0 in omega arith) seat u at k l in
      let end : slice_index u.starts k + length (line_at u.lines k).bytes - runs.running.shared.sn ≡ 0 =
      none_of_user (λ e. end_of e - runs.running.shared.sn) (λ i e is. let n = (tiles_at ghosts.log run.setup.base runs.running.shared.sn i e tiled.tiles is).1 in omega arith) seat u at k l in
      let lines : length u.lines ≡ length (run.setup.script u.user) = ap length f.lines in
      let small = sn_below runs.running.shared.sn runs.running.shared.sn LSN_LIMIT (omega arith) (small_sn (run_log_side log_seen data_seen run) run.setup runs.running.shared ghosts parts.log actors 0 half) in
      record { start = l; line = omega arith; small = omega arith }

  pub has_groups : (seat : ℕ) (a : model.Actor) → get_elem? actors seat ≡ some a → HasGroups a
  has_groups seat (model.User u) at = reserved seat u at
  has_groups seat _ at = tt

  sums : (f : Entry → ℕ) → total f (all_listed marks actors) ≡ total f (history_of ghosts.answered marks ghosts.log)
  sums f =
      all_total ghosts.answered marks f actors (λ seat u at. let fits : UserFits (run_log_side log_seen data_seen run) run.setup runs.running.shared ghosts parts.log seat u = half.each seat (model.User u) at in fits.answers)
      ∙ half.counted (λ e. f (history_entry ghosts.answered marks e)) ∙ sym (log_total ghosts.answered marks f ghosts.log)

  -- they are as many as the log has
  pub as_many : length (all_listed marks actors) ≡ length ghosts.log
  as_many = sym (ones (all_listed marks actors)) ∙ sums (λ e. 1) ∙ ones (history_of ghosts.answered marks ghosts.log) ∙ length-map ghosts.log (history_entry ghosts.answered marks)

  -- in lsn order they are the history that the log has
  pub history_is : (history : List Entry) → ListsInOrder marks actors history → ◌≡◌ {A = List Entry} history (history_of ghosts.answered marks ghosts.log)
  history_is history l =
      same_in_order (lsn run.setup.base) history (history_of ghosts.answered marks ghosts.log) l.in_order
      (history_rises ghosts.answered marks ghosts.log run.setup.base runs.running.shared.sn half.global.tiled.tiles) (λ f. total_moved f (all_listed marks actors) history l.all ∙ sums f)

-- and in a run that isn't a live one each can tell them all
pub have_kept : {L D R : Type 0} {archive : Bool} (log_seen : L → Seen) (data_seen : D → Seen) (run : RunOf L D) (parts : Parts L D)
    (actors : List (Actor R)) → RunsWith log_seen data_seen run archive parts (views_of actors) → run.live ≡ false
    → (seat : ℕ) (actor : Actor R) → seat < length actors → KeepsAll (view_of (get_or actors seat actor))
have_kept log_seen data_seen run parts actors runs fixed seat actor l =
    keeps_all run.setup (views_of actors) runs.seated fixed seat (view_of (get_or actors seat actor))
    (view_at actors seat actor l)

pub have_groups : {L D R : Type 0} {archive : Bool} (log_seen : L → Seen) (data_seen : D → Seen) (run : RunOf L D) (parts : Parts L D)
    (actors : List (Actor R)) → RunsWith log_seen data_seen run archive parts (views_of actors)
    → (seat : ℕ) (actor : Actor R) → seat < length actors → HasGroups (view_of (get_or actors seat actor))
have_groups log_seen data_seen run parts actors runs seat actor l =
    has_groups log_seen data_seen run parts (views_of actors) runs seat (view_of (get_or actors seat actor))
    (view_at actors seat actor l)
