use Rattle.std.proofs.Common.{ap, ℕ, ◌%◌, ◌∙◌}
use Rattle.redo_machine.proofs.Runs.{drawn_seat, next_drawn}
use Rattle.redo_machine.proofs.running.seat_of.Goals as goal

pub returns-then-turn-max-clause-seat : goal.returns-then-turn-max-clause-seat
returns-then-turn-max-clause-seat c = λ seed drawn.
    ap (λ (n : ℕ). n % c.args.seats) (c.from.ensures ∙ c.take.ensures.value) ∙ drawn_seat seed c.args.max c.args.seats c.args.turn c.args.draws.now c.if-turn-max.true drawn

pub returns-then-turn-max-clause-drawn : goal.returns-then-turn-max-clause-drawn
returns-then-turn-max-clause-drawn c = λ seed drawn more.
    c.take.ensures.state ∙ next_drawn seed c.args.max c.args.turn c.args.draws.now c.if-turn-max.true drawn more
