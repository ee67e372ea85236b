use Rattle.std.proofs.Common.{arith}
use Rattle.std.proofs.lemmas.Grind.{common_steps}
use Rattle.redo_logdev.proofs.SomeWrites.{some_served}
use Rattle.redo_logdev.proofs.calls.write_some.Goals as goal

pub returns-clause-calls : goal.returns-clause-calls
returns-clause-calls g c = some_served c.args.at c.args.bytes.now (grind (arith, common_steps)) c.write.ensures.gives
