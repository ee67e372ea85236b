use Rattle.std.proofs.Common.{Global, List, Vec, [], ap, arith, length, subst, sym, vec_len, ℕ, ◌++◌, ◌<◌, ◌∙◌, ◌∷◌, ◌≡◌}
use Rattle.std.proofs.lemmas.Bool.{eqb-false, eqb-true}
use Rattle.std.proofs.lemmas.List.{map-append}
use native.Mathlib.Decide.{dec_le}
use Rattle.model_core.specs.States as actor
use Rattle.model_core.specs.{Line, new_user, UserState}
use Rattle.model_log.specs.declared.rec.Rec.{Rec}
use Rattle.redo_drive.proofs.Seats.{none_first, none_seated, one_seated}
use Rattle.redo_drive.proofs.UserLines.{are_user_lines, no_program, program_length}
use Rattle.redo_drive.specs.Setups.{programs_of, user_lines}
use Rattle.redo_drive.specs.History.{view_of, views_of}
use Rattle.redo_drive.specs.declared.actor.Actor.{Actor}
use Rattle.redo_drive.specs.declared.actor.Actor.TheVariants as own
use Rattle.redo_useractor.specs.{AreUserLines, program_lines}
use Rattle.redo_drive.proofs.users.seat_users.Goals.{then-not-is_empty+in_ok-actor+in_ok-push, else-not-is_empty}
use Rattle.redo_drive.proofs.users.seat_users.Goals as goal
use Rattle.model_log.specs.{run_layout}

pub loop-user-init : goal.loop-user-init
loop-user-init g c =
    let shape = c.args.shape.now in
    let script = c.args.script.now in
    let programs : ℕ → List Line = programs_of shape c.args.plan.log_only script in
    ap views_of c.in_ok-actors.ensures.items
    ∙ sym (none_first (run_layout shape).blocks programs (no_program shape script c.requires.lines c.requires.fits
    c.args.plan.log_only 0 (λ in_range. let from = in_range.0 in omega arith)))

pub new-requires-clause-lines : goal.new-requires-clause-lines
new-requires-clause-lines g c =
    let shape = c.args.shape.now in
    let script = c.args.script.now in
    subst (AreUserLines shape) (sym c.in_ok-lines.ensures) (are_user_lines shape script c.requires.lines c.requires.fits c.loop-user.user)

pub loop-user-preserved : goal.loop-user-preserved
loop-user-preserved g c =
    let shape = c.args.shape.now in
    let script = c.args.script.now in
    let user = c.loop-user.user in
    let programs : ℕ → List Line = programs_of shape c.args.plan.log_only script in
    let lines = c.in_ok-lines.lines.items in
    let own_lines : lines ≡ user_lines shape.space script user = c.in_ok-lines.ensures in
    let long : length (programs user) ≡ length lines = program_length shape c.args.plan.log_only script user
    ∙ ap length (sym own_lines) in
    elim c.if-not-is_empty.branch [
      | then-not-is_empty+in_ok-actor+in_ok-push w ↦
          let state : w.in_ok-actor.actor ≡ new_user user (run_layout shape).blocks (programs user) =
          w.in_ok-actor.ensures ∙ ap (λ (l : List (ℕ × List Rec)). new_user user (run_layout shape).blocks
          (program_lines c.args.plan.log_only shape l)) own_lines in
          let full = eqb-false (vec_len c.in_ok-lines.lines) 0 (sym w.if-not-is_empty.ensures) in
          let some_lines : 0 < length (programs user) = elim (dec_le 1 (length (programs user))) [
            | yes some ↦ some
            | no none ↦ absurd (full (omega arith))
          ] in
          ap (λ (v : Vec (Actor g.row.R.Denot) Global). views_of v.items) w.actors-is
          ∙ ap views_of w.in_ok-push.ensures.items
          ∙ map-append view_of c.loop-user.actors.items (own.User w.in_ok-actor.actor ∷ [])
          ∙ ap (λ (u : UserState). views_of c.loop-user.actors.items ++ actor.User u ∷ []) state
          ∙ one_seated (run_layout shape).blocks programs user (views_of c.loop-user.actors.items) some_lines c.loop-user.invariant
      | else-not-is_empty w ↦
          let empty = eqb-true (vec_len c.in_ok-lines.lines) 0 (sym w.if-not-is_empty.ensures) in
          let none : length (programs user) ≡ 0 = omega arith in
          ap (λ (v : Vec (Actor g.row.R.Denot) Global). views_of v.items) w.actors-is ∙ none_seated (run_layout shape).blocks programs user (views_of c.loop-user.actors.items) none c.loop-user.invariant
    ]
