use Rattle.std.proofs.Common.{arith}
use Rattle.std.proofs.lemmas.Grind.{common_steps}
use Rattle.redo_logdev.proofs.SomeWrites.{round_served}
use Rattle.redo_logdev.proofs.calls.write_round.Goals as goal

pub returns-clause-calls : goal.returns-clause-calls
returns-clause-calls g c =
    round_served c.args.layout.now c.args.from _ _ c.args.bytes.now _ _ c.offset_of-at.ensures (omega arith) (grind (arith, common_steps)) (grind (arith, common_steps))
    c.in_ok-write_some.ensures.calls c.write_some-2.ensures.calls
