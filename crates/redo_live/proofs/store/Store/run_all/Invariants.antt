-- Those so far have come to their ends, and each is still a worker of the store.
use Rattle.std.proofs.Common.{length, ℕ, ◌<◌, ◌≡◌}
use lib.ListN.{get_elem?}
use mathlib.Core.Option.{some}
use Rattle.redo_live.proofs.store.Store.run_all.Given as goal
use Rattle.redo_live.specs.Holding.{AreWorkersOf}
use Rattle.redo_live.specs.declared.worker.Worker.{Worker}
use Rattle.redo_threads.specs.Working.{AtEnd}

abbrev pub invariant-loop-worker : goal.invariant-loop-worker
invariant-loop-worker g l = record {
  count : length l.workers ≡ length l.initial.workers;
  still : (first : ℕ) → AreWorkersOf l.self first l.initial.workers → AreWorkersOf l.self first l.workers;
  ended : (i : ℕ) (worker : Worker g.row.L.Denot g.row.D.Denot) → i < l.worker-index
      → get_elem? l.workers i ≡ some worker → AtEnd worker.player;
}
