-- The conditions under which an actor asks for an Op.
use Rattle.std.specs.Prelude.{false, true, ℕ, ◌≡◌}
use Rattle.model_core.specs.{Actor, Blocks, holds, Lent, lent, lsn, LogSide, Setup}
use Rattle.model_core.specs.declared.ops.Op.{Op}
use Rattle.model_logcore.specs.LogFacts.{LogGhost}
use Rattle.model_logcore.specs.LogLaws.{CanCheckpoint, CanWrite}
use Rattle.model_core.specs.declared.ops.Op.TheVariants as op

-- what holds where an actor asks for an Op: who gives the part or calls it holds it, and a call's conditions hold
module _ (D : LogSide) (c : Setup) (g : LogGhost) (p : D.Part) (a : Actor) where
  abbrev pub CanLend : Lent → ℕ → Type 0
  CanLend (Blocks bytes firsts) t = (t ≡ lsn g.target) × CanWrite D c.blocks c.base g.log g.write g.target bytes firsts p
  CanLend _ t = ⊥

  abbrev pub Ready : Op → Type 0
  Ready (op.WriteTo t) = (holds a ≡ true) × CanLend (lent a) t
  Ready op.Sync = (holds a ≡ true) × (D.failed p ≡ false)
  Ready (op.Checkpoint x) = (holds a ≡ true) × CanCheckpoint D c.blocks c.base g.log x p
  Ready (op.ReadBlock x) = (holds a ≡ true) × (D.failed p ≡ false)
  Ready op.GiveDevice = holds a ≡ true
  Ready op.TakeDevice = holds a ≡ false
  Ready _ = Unit {0}
