use Rattle.std.proofs.Common.{List, [], ap, arith, map, suc, ℕ, ◌++◌, ◌+◌, ◌∙◌, ◌∷◌, ◌≡◌, sym}
use Rattle.std.proofs.lemmas.List.{map-append}
use Rattle.model_core.specs.States as actor
use Rattle.model_core.specs.{Actor, new_user, UserState}
use Rattle.model_log.specs.{run_layout}
use Rattle.model_log.specs.declared.rec.Rec.{Rec}
use Rattle.redo_useractor.specs.{program_lines}
use Rattle.redo_drive.specs.LiveActors.{idle_users}
use Rattle.redo_drive.specs.History.{view_of, views_of}
use Rattle.redo_drive.specs.declared.actor.Actor.TheVariants as own
use Rattle.redo_drive.proofs.users.seat_idle.Goals as goal

pub loop-before-preserved : goal.loop-before-preserved
loop-before-preserved g c =
    let blocks : ℕ = (run_layout c.args.shape.now).blocks in
    let n : ℕ = c.loop-before.before in
    let next : suc n ≡ n + 1 = omega arith in
    let none : ◌≡◌ {A = List (ℕ × List Rec)} c.new-lines.result.items [] = c.new-lines.ensures.items in
    ap views_of c.in_ok-push.ensures.items
    ∙ map-append view_of c.loop-before.actors.items (own.User c.in_ok-actor.actor ∷ [])
    ∙ ap (λ (u : UserState). let l : List Actor = views_of c.loop-before.actors.items ++ actor.User u ∷ [] in l)
    (c.in_ok-actor.ensures
    ∙ ap (λ (l : List (ℕ × List Rec)). new_user (n + 1) blocks (program_lines c.args.log_only c.args.shape.now l)) none
    ∙ ap (λ (k : ℕ). new_user k blocks []) (sym next))
    ∙ ap (λ (l : List Actor). l ++ actor.User (new_user (suc n) blocks []) ∷ []) c.loop-before.invariant
    ∙ sym (map-append actor.User (idle_users blocks n) (new_user (suc n) blocks [] ∷ []))
    ∙ ap (λ (k : ℕ). map actor.User (idle_users blocks k)) next
