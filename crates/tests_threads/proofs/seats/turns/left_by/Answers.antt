use Rattle.std.proofs.Common.{Bool, List, None, ap, map, refl, subst, sym, ◌+◌, ◌∙◌}
use Rattle.redo_drive.specs.{views_of}
use Rattle.redo_follow.specs.{Kept}
use Rattle.redo_ownrule.specs.Players.{actor_of, AreInOrder, workers}
use Rattle.redo_ownrule.specs.Sharing.{AllAtRest, AreSeatsOf, own_of, table_of}
use Rattle.redo_ownrule.specs.declared.player.Player.{Player}
use Rattle.redo_rule.specs.Closing.{TellsLoss}
use Rattle.tests_threads.proofs.Turned.{seated_rest}
use Rattle.tests_threads.specs.Playing.{AllMayRest}
use Rattle.tests_threads.proofs.seats.turns.left_by.Goals as goal

pub see_rest-requires : goal.see_rest-requires
see_rest-requires g c = subst (λ (l : List (Player Kept)). AllMayRest l) (sym c.as_slice.ensures.value)
    (seated_rest c.ring.result.now.table_id c.layout-layout.result c.play_all.new.seats.items c.play_all.new.players.items
    c.play_all.ensures.plays)

pub finish-closed-requires-clause-seats : goal.finish-closed-requires-clause-seats
finish-closed-requires-clause-seats g c =
    let S = c.in_ok-shared.field-0.shared in
    let seats = c.play_all.new.seats.items in
    let players : List (Player Kept) = c.play_all.new.players.items in
    subst (λ (o : Bool). AreSeatsOf (table_of S) o seats players) (sym c.in_ok-shared.ensures.own)
    (subst (λ s. AreSeatsOf s.table_id _ seats players) c.ring.ensures c.play_all.ensures.plays.seats)

pub finish-closed-requires-clause-order : goal.finish-closed-requires-clause-order
finish-closed-requires-clause-order g c = subst (λ (o : Bool). AreInOrder o c.play_all.new.players.items)
    (sym c.in_ok-shared.ensures.own) c.play_all.ensures.plays.plain

pub finish-closed-requires-clause-all : goal.finish-closed-requires-clause-all
finish-closed-requires-clause-all g c = ap (λ n. n + workers (own_of c.in_ok-shared.field-0.shared)) c.play_all.ensures.count
    ∙ c.in_ok-shared.ensures.all

pub finish-closed-requires-clause-rest : goal.finish-closed-requires-clause-rest
finish-closed-requires-clause-rest g c = subst (λ (l : List (Player Kept)). AllAtRest l) c.as_slice.ensures.value
    c.see_rest.ensures

pub finish-closed-requires-clause-lost : goal.finish-closed-requires-clause-lost
finish-closed-requires-clause-lost g c = subst (λ (b : Bool). TellsLoss b (views_of
    (map actor_of c.play_all.new.players.items)) None)
    (sym c.in_ok-shared.ensures.apart) refl
