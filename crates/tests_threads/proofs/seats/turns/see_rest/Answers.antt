use Rattle.std.proofs.Common.{ap, arith, rules, sym, ◌∙◌}
use mathlib.Core.Option.{some}
use Rattle.redo_follow.specs.{Kept}
use Rattle.redo_ownrule.specs.declared.player.Player.{Player}
use Rattle.redo_rule.proofs.Gathered.{at_or}
use Rattle.tests_threads.proofs.Turned.{all_below, none_below, one_more}
use Rattle.tests_threads.proofs.seats.turns.see_rest.Goals as goal

pub loop-seat-init : goal.loop-seat-init
loop-seat-init g c = none_below c.args.players.now

pub is_at_rest-requires : goal.is_at_rest-requires
is_at_rest-requires g c = c.requires c.loop-seat.seat c.index-players-seat.result
    (at_or c.args.players.now c.loop-seat.seat c.index-players-seat.result (omega arith)
    ∙ ap (λ (p : Player Kept). some p) (sym c.index-players-seat.is))

pub loop-seat-preserved : goal.loop-seat-preserved
loop-seat-preserved g c = one_more c.args.players.now c.loop-seat.seat c.index-players-seat.result
    c.index-players-seat.is (omega arith) c.loop-seat.invariant (c.is_at_rest.ensures (search rules))

pub returns : goal.returns
returns g c = all_below c.args.players.now c.loop-seat.seat (omega arith) c.loop-seat.invariant
