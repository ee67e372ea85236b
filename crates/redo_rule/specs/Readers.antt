-- What a reader of the log makes of what it reads, and of giving the log part back.
use Rattle.std.specs.Prelude.{List, None, ℕ, ◌≡◌}
use Rattle.model_core.specs.{Given, next}
use Rattle.model_core.specs.States as model
use Rattle.model_core.specs.declared.ops.Answer.TheVariants as answer
use Rattle.model_core.specs.declared.ops.Op.TheVariants as op
use Rattle.model_core.specs.declared.ops.Step.{Step}
use Rattle.redo_archiver.specs.Lending as archiving
use Rattle.redo_drive.specs.{filling_of, HasTaken, view_of}
use Rattle.redo_drive.specs.declared.actor.Actor.{Actor}
use Rattle.redo_drive.specs.declared.actor.Actor.TheVariants as own
use Rattle.redo_follow.specs.Lending.{with_block}
use Rattle.redo_rule.specs.Plays.{KeepsTexts}

-- it asks for a block
abbrev pub ReadsBlock : model.Actor → Type 0
ReadsBlock a = (lsn : ℕ) × (next a ≡ op.ReadBlock lsn)

-- it has the block in its room
abbrev pub HasBlock : {R : Type 0} → Actor R → List ℕ → Actor R → Type 0
HasBlock {R} (own.Archiver s) bytes new = ◌≡◌ {A = Actor R} new (own.Archiver (archiving.with_block s bytes))
HasBlock {R} (own.Follower f) bytes new = ◌≡◌ {A = Actor R} new (own.Follower (with_block f bytes))
HasBlock _ bytes new = ⊥

-- it has taken the answer to that, with no new texts if it is the archiver
pub record HasGivenBack {R : Type 0} (stands : R → List Given → Type 0) (old : Actor R) (step : Step) (new : Actor R) : Type 0 where
  pub taken : HasTaken stands old (answer.Taken None) step new
  pub texts : KeepsTexts (view_of old) (filling_of (view_of old) taken.texts)
