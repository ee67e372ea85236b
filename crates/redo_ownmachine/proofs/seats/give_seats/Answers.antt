use Rattle.std.proofs.Common.{List, [], ap, reverse, ◌++◌, ◌∙◌, ◌∷◌}
use Rattle.model_core.specs.{FlusherState, WriterState}
use Rattle.redo_drive.specs.declared.actor.Actor.{Actor}
use Rattle.redo_drive.specs.declared.actor.Actor.TheVariants as own
use Rattle.redo_ownmachine.proofs.Putting.{turned_round}
use Rattle.redo_ownmachine.proofs.seats.give_seats.Goals as goal
use Rattle.redo_ownmachine.specs.OwnCrew.{users_alone}

pub returns : goal.returns
returns g c =
    let pair = c.into_actors-writer in
    let others = c.args.others.items in
    let users = c.args.users.items in
    turned_round c.put_users.new.room.items c.reverse.new.self c.put_users.new.room.len users c.args.work others
    pair.result.0 pair.result.1
    (c.reverse.ensures.after ∙ ap (λ (l : List (Actor g.row.R.Denot)). reverse l) c.as_mut_slice.ensures.value)
    c.put_users.new.room.ok.0
    (c.put_users.ensures.items
    ∙ ap (λ (l : List (Actor g.row.R.Denot)). l ++ reverse (users_alone users)) (c.push_reserved-2.ensures.items
    ∙ ap (λ (l : List (Actor g.row.R.Denot)). l ++ own.Writer pair.result.0 ∷ []) (c.push_reserved.ensures.items
    ∙ ap (λ (l : List (Actor g.row.R.Denot)). l ++ own.Flusher pair.result.1 ∷ []) (c.put_others.ensures.items
    ∙ ap (λ (l : List (Actor g.row.R.Denot)). l ++ reverse others) c.requires.empty))))
    (ap (λ (p : WriterState × FlusherState). p.0) pair.ensures)
    (ap (λ (p : WriterState × FlusherState). p.1) pair.ensures)
