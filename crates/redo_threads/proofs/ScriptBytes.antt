-- FLUSHED stays within the script: what the actors of a run have in their lines is the script's text.
use Rattle.std.proofs.Common.{Bool, List, Some, [], ap, arith, cond, eqb, false, length, length-append, map, ne_eqb, refl, slice_index, suc, sym, true, ℕ, ◌++◌, ◌+◌, ◌<◌, ◌∙◌, ◌∷◌, ◌≡◌, ◌≤◌}
use Rattle.std.specs.Prelude.{slice_get}
use Rattle.std.specs.List.{flat_map}
use native.Mathlib.Decide.{ℕ_discrete}
use lib.ListN.{get_elem?}
use mathlib.Core.Option as maybe
use Rattle.atomic_table.proofs.Lists.{at_longer}
use Rattle.model_base.specs.declared.shape.Shape.{Shape}
use Rattle.model_core.proofs.Lsns.{lsn_le}
use Rattle.model_core.specs.{flushed_at, Line, line_at, ReaderState, UserState, Setup}
use Rattle.model_core.specs.States as model
use Rattle.model_ends.proofs.Sizes.{sn_within}
use Rattle.model_ends.specs.Bound.{bytes_of, last_lsn}
use Rattle.model_log.specs.{group_length, group_text, lsn_of, sn_of, stream_of}
use Rattle.model_logcore.specs.{sum_over_actors, lengths}
use Rattle.model_report.specs.{lines_of_user}
use Rattle.model_running.proofs.Places.{lsn_is, sn_back}
use Rattle.model_running.specs.{ArePageActors, AreSeated, IsOfScript}
use Rattle.model_script.specs.{group_of, script_end}
use Rattle.model_script.specs.declared.script.ScriptLine.{ScriptLine}
use Rattle.redo_disk.specs.{Seen}
use Rattle.redo_drive.proofs.ArchiveTurns.{flushed_reserved}
use Rattle.redo_drive.specs.Beginning.{IsRunWith}
use Rattle.redo_drive.specs.{RunOf, run_log_side, RunsWith}
use Rattle.redo_drive.specs.declared.parts.Parts.{Parts}
use Rattle.redo_drive.specs.declared.plan.Plan.{Plan}
use Rattle.redo_store.specs.declared.opened.Opened.{Opened}
use Rattle.redo_rule.proofs.Retook.{at_map}

module _ (shape : Shape) where
  abbrev text_of : ScriptLine → ℕ
  text_of line = group_length (group_of shape.space line)

  -- the bytes of lines
  abbrev texts : List ScriptLine → ℕ
  texts [] = 0
  texts (x ∷ xs) = text_of x + texts xs

  texts_are : (script : List ScriptLine) → texts script ≡ length (stream_of (map (group_of shape.space) script))
  unfolding stream_of
  texts_are [] = refl
  texts_are (x ∷ xs) =
      ap (λ (n : ℕ). text_of x + n) (texts_are xs)
      ∙ sym (length-append (group_text (group_of shape.space x)) (flat_map group_text (map (group_of shape.space) xs)))

  -- a user's lines have the bytes of the script's
  lines_text : (lines : List Line) (ones : List ScriptLine) → length lines ≡ length ones
      → ((k : ℕ) (one : ScriptLine) → slice_get ones k ≡ Some one → length (line_at lines k).bytes ≡ text_of one)
      → lengths lines ≡ texts ones
  lines_text [] [] same each = refl
  lines_text [] (y ∷ ys) same each = absurd (omega arith)
  lines_text (x ∷ xs) [] same each = absurd (omega arith)
  lines_text (x ∷ xs) (y ∷ ys) same each =
      let first : length x.bytes ≡ text_of y = each 0 y refl in
      let rest = lines_text xs ys (omega arith) (λ k one is. each (suc k) one is) in omega arith

  abbrev user_text : List ScriptLine → ℕ → ℕ
  user_text script user = texts (lines_of_user user script)

  line_counts : (line : ScriptLine) (script : List ScriptLine) (user : ℕ)
      → user_text (line ∷ script) user ≡ cond (eqb line.user user) (text_of line) 0 + user_text script user
  line_counts line script user = by (eqb line.user user)
    where
      by : (b : Bool) → texts (cond b (line ∷ lines_of_user user script) (lines_of_user user script))
          ≡ cond b (text_of line) 0 + user_text script user
      by true = refl
      by false = omega arith

  abbrev over : (ℕ → ℕ) → List UserState → ℕ
  over f [] = 0
  over f (u ∷ us) = f u.user + over f us

  abbrev Ascend : List UserState → Type 0
  Ascend users = (i : ℕ) (u v : UserState) → get_elem? users i ≡ maybe.some u → get_elem? users (suc i) ≡ maybe.some v
      → u.user < v.user

  over_none : (user v : ℕ) (users : List UserState) → Ascend users
      → ((u : UserState) → get_elem? users 0 ≡ maybe.some u → user < u.user) → over (λ k. cond (eqb user k) v 0) users ≡ 0
  over_none user v [] up low = refl
  over_none user v (u ∷ us) up low =
      let less = low u refl in
      let here : ◌≡◌ {A = ℕ} (cond (eqb user u.user) v 0) 0 =
      ap (λ (b : Bool). cond b v 0) (ne_eqb user u.user (λ e. omega arith)) in
      let rest = over_none user v us (λ i x y at bt. up (suc i) x y at bt)
      (λ x at. let above = up 0 u x refl at in omega arith) in
      omega arith

  -- a user has one seat
  over_one : (user v : ℕ) (users : List UserState) → Ascend users → over (λ k. cond (eqb user k) v 0) users ≤ v
  over_one user v [] up = omega arith
  over_one user v (u ∷ us) up = elim (ℕ_discrete user u.user) [
    | yes same ↦ (
        let rest = over_none user v us (λ i x y at bt. up (suc i) x y at bt)
        (λ x at. let above = up 0 u x refl at in omega arith) in
        let here : ◌≤◌ (cond (eqb user u.user) v 0) v = at_most (eqb user u.user) in omega arith)
    | no other ↦ (
        let here : ◌≡◌ {A = ℕ} (cond (eqb user u.user) v 0) 0 =
        ap (λ (b : Bool). cond b v 0) (ne_eqb user u.user other) in
        let rest = over_one user v us (λ i x y at bt. up (suc i) x y at bt) in omega arith)
  ]
    where
      at_most : (b : Bool) → cond b v 0 ≤ v
      at_most true = omega arith
      at_most false = omega arith

  over_sum : (f g h : ℕ → ℕ) → ((k : ℕ) → f k ≡ g k + h k) → (users : List UserState)
      → over f users ≡ over g users + over h users
  over_sum f g h each [] = refl
  over_sum f g h each (u ∷ us) = let one = each u.user in let rest = over_sum f g h each us in omega arith

  over_zero : (users : List UserState) → over (user_text []) users ≡ 0
  over_zero [] = refl
  over_zero (u ∷ us) = let rest = over_zero us in omega arith

  -- the texts of all users are the script's
  all_texts : (script : List ScriptLine) (users : List UserState) → Ascend users → over (user_text script) users ≤ texts script
  all_texts [] users up = let none = over_zero users in omega arith
  all_texts (x ∷ xs) users up =
      let parts = over_sum (user_text (x ∷ xs)) (λ k. cond (eqb x.user k) (text_of x) 0) (user_text xs)
      (line_counts x xs) users in
      let one = over_one x.user (text_of x) users up in
      let rest = all_texts xs users up in omega arith

-- who reads the log or keeps its pages has no lines
sum_append : (xs ys : List model.Actor) → sum_over_actors bytes_of (xs ++ ys) ≡ sum_over_actors bytes_of xs + sum_over_actors bytes_of ys
sum_append [] ys = omega arith
sum_append (x ∷ xs) ys = let rest = sum_append xs ys in omega arith

readers_none : (readers : List ReaderState) → sum_over_actors bytes_of (map model.Reader readers) ≡ 0
readers_none [] = refl
readers_none (r ∷ rs) = let rest = readers_none rs in omega arith

others_none : (b : Bool) (others : List model.Actor) → ArePageActors b others → sum_over_actors bytes_of others ≡ 0
others_none true others P = ap (sum_over_actors bytes_of) P.1 ∙ readers_none P.0
others_none false others P =
    let are = ap (sum_over_actors bytes_of) P.2 in let rest = readers_none P.1 in omega arith

module _ {L D : Type 0} {archive : Bool} (log_seen : L → Seen) (data_seen : D → Seen) (run : RunOf L D) (parts : Parts L D)
    (actors : List model.Actor) (R : RunsWith log_seen data_seen run archive parts actors) (opened : Opened L D)
    (script : List ScriptLine) (plan : Plan) (is_run : IsRunWith opened script false plan run) where
  abbrev c : Setup
  c = run.setup

  abbrev S : AreSeated run.live c actors
  S = R.seated

  user_lines : (i : ℕ) (u : UserState) → get_elem? S.users i ≡ maybe.some u
      → lengths u.lines ≡ user_text opened.shape script u.user
  user_lines i u at =
      let there : get_elem? actors i ≡ maybe.some (model.User u) =
      ap (λ (l : List model.Actor). get_elem? l i) S.are
      ∙ at_longer (map model.User S.users) (model.Writer S.writer ∷ model.Flusher S.flusher ∷ S.others) i (model.User u)
      (at_map model.User S.users i u at) in
      let own = (R.running.both.logged.each i (model.User u) there).lines in
      let O : IsOfScript c script opened.shape = is_run.of_script in
      ap lengths own
      ∙ lines_text opened.shape (c.script u.user) (lines_of_user u.user script) (O.count u.user)
      (λ k one is. ap (λ (l : Line). length l.bytes) (O.each u.user k one is))

  users_sum : (users : List UserState) → ((i : ℕ) (u : UserState) → get_elem? users i ≡ maybe.some u
      → lengths u.lines ≡ user_text opened.shape script u.user)
      → sum_over_actors bytes_of (map model.User users) ≡ over opened.shape (user_text opened.shape script) users
  users_sum [] each = refl
  users_sum (u ∷ us) each =
      let here = each 0 u refl in
      let rest = users_sum us (λ i v at. each (suc i) v at) in omega arith

  -- WHAT THE LINES COME TO ends where the script does.
  pub last_within : last_lsn c actors ≤ script_end opened.shape opened.start script
  last_within =
      let all = ap (sum_over_actors bytes_of) S.are
      ∙ sum_append (map model.User S.users) (model.Writer S.writer ∷ model.Flusher S.flusher ∷ S.others) in
      let users = users_sum S.users user_lines in
      let none = others_none c.log_only S.others S.page_actors in
      let most = all_texts opened.shape script S.users S.ascending in
      let text = texts_are opened.shape script in
      let n : ℕ = length (stream_of (map (group_of opened.shape.space) script)) in
      let base : c.base ≡ sn_of opened.start = sym (sn_back c.base) ∙ ap sn_of is_run.start in
      let low = lsn_le (c.base + sum_over_actors bytes_of actors) (c.base + n) (omega arith) in
      let same = lsn_is (c.base + n) ∙ ap (λ (k : ℕ). lsn_of (k + n)) base in omega arith

  -- AND SO DOES FLUSHED.
  pub flushed_within : slice_index parts.words.words flushed_at ≤ script_end opened.shape opened.start script
  flushed_within =
      let last = last_within in
      let reserved = flushed_reserved log_seen data_seen run parts actors R in
      let sn = sn_within (run_log_side log_seen data_seen run) c R.running.shared R.running.log_ghost parts.log actors
      R.running.both.logged in
      omega arith
