-- What a source and a sink in memory are, and what one call does to them.
use Rattle.std.specs.Prelude.{ℕ, ◌≡◌, ◌↔◌, min, List, ◌++◌, length, take, drop, Some, Result, IfOk, OnErr, IsErr, IsTrue}
use Rattle.redo_io.specs.Plan.{Planned, after_failure, after_ok, fails_now}
use Rattle.redo_io.specs.Ends.{SinkSeen, SourceSeen}
use Rattle.redo_io.specs.declared.fault.IoFault.{IoFault}

-- the state of a source in memory
pub record Supply : Type 0 where
  -- the bytes left to read
  pub left : List ℕ
  -- how many bytes a read gives at the most
  pub piece : ℕ
  -- which reads fail
  pub plan : Planned

-- the source, as its readers see it
abbrev pub supply_seen : Supply → SourceSeen
supply_seen supply = record { left = Some supply.left; faults = supply.plan.faults }

-- A read into so much room. It fails exactly where the plan says so, and then takes no byte.
pub record ReadsSupply (old : Supply) (room : ℕ) (result : Result ℕ IoFault) (out : List ℕ) (new : Supply) : Type 0 where
  pub fails : IsErr result ↔ IsTrue (fails_now old.plan)
  pub count : IfOk result (λ n. n ≡ min old.piece (min (length old.left) room))
  pub bytes : IfOk result (λ n. take n out ≡ take n old.left)
  pub ok : IfOk result (λ n. new ≡ record old { left = drop n old.left; plan = after_ok old.plan })
  pub err : OnErr result (new ≡ record old { plan = after_failure old.plan })

-- the state of a sink in memory
pub record Store : Type 0 where
  -- the bytes taken
  pub taken : List ℕ
  -- how many bytes a write takes at the most
  pub piece : ℕ
  -- which writes fail
  pub plan : Planned

-- the sink, as its writers see it
abbrev pub store_seen : Store → SinkSeen
store_seen store = record { taken = Some store.taken; faults = store.plan.faults }

-- A write of these bytes. It takes as many of them as fit a piece, or it fails and takes none: where the plan says so, and
-- where there is no memory.
pub record WritesStore (old : Store) (bytes : List ℕ) (result : Result ℕ IoFault) (new : Store) : Type 0 where
  pub fails : IsTrue (fails_now old.plan) → IsErr result
  pub count : IfOk result (λ n. n ≡ min old.piece (length bytes))
  pub ok : IfOk result (λ n. new ≡ record old { taken = old.taken ++ take n bytes; plan = after_ok old.plan })
  pub err : OnErr result (new ≡ record old { plan = after_failure old.plan })
