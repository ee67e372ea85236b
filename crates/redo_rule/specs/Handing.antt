-- What the actors of a run have handed on: followers groups, to their receivers, and the archiver blocks, to its archive; and
-- what reads in their seats came to.
use Rattle.std.specs.Prelude.{IfSome, List, None, [], cond, slice_index, ℕ, ◌++◌, ◌∷◌, ◌≡◌, ◌≤◌}
use Rattle.std.specs.List.{AllByRecursion}
use lib.ListN.{get_elem?}
use mathlib.Core.Option.{some}
use Rattle.model_core.specs.{Entry, flushed_at, Given, ReaderState, LogSide, Setup}
use Rattle.model_core.specs.States as model
use Rattle.model_core.specs.declared.steps.ReaderStep.{ReaderStep}
use Rattle.model_core.specs.declared.steps.ReaderStep.TheVariants as reader_step
use Rattle.model_reads.specs.{AreRead, GlanceFits}
use Rattle.redo_drive.specs.{groups_of}
use Rattle.redo_rule.specs.declared.law.Block.{Block}
use Rattle.redo_rule.specs.declared.law.Heard.{Heard}

abbrev pub nothing : Heard
nothing = record { groups = []; blocks = []; reads = []; glance = None }

abbrev pub with_more : Heard → List Given → List Block → Heard
with_more heard groups blocks = record {
  groups = heard.groups ++ groups;
  blocks = heard.blocks ++ blocks;
  reads = heard.reads;
  glance = heard.glance;
}

-- the block that an actor appends to the archive as its next Op is answered
abbrev pub appended_at : ReaderState → ReaderStep → List Block
appended_at r reader_step.Append = (record { place = r.place; bytes = r.block }) ∷ []
appended_at r _ = []

abbrev pub appended_by : model.Actor → List Block
appended_by (model.Reader r) = cond r.checks [] (appended_at r r.step)
appended_by _ = []

-- THE BLOCK IS THE RUN'S, by the groups that there were at some time.
pub record IsOfRun (D : LogSide) (base : ℕ) (log : List Entry) (b : Block) : Type 0 where
  pub early : List Entry
  pub late : List Entry
  pub grown : log ≡ early ++ late
  pub block : D.IsRunBlock base early b.place b.bytes

-- an actor has handed on this: the groups of the log up to its place, if it is a follower, and blocks of the run
pub record HasHandedOn (D : LogSide) (base : ℕ) (log : List Entry) (a : model.Actor) (heard : Heard) : Type 0 where
  pub groups : heard.groups ≡ groups_of a log
  pub blocks : AllByRecursion (IsOfRun D base log) heard.blocks

-- where the log device tells, each actor has handed on that
abbrev pub HaveHandedOn : (D : LogSide) → (base : ℕ) → D.Part → (heard : ℕ → Heard) → List model.Actor → List Entry → Type 0
HaveHandedOn D base part heard actors log =
    D.Tells part → (n : ℕ) (a : model.Actor) → get_elem? actors n ≡ some a → HasHandedOn D base log a (heard n)

-- WHAT READS CAME TO in a seat is right, and so is what is known of a page that is being read.
pub record HasRead (c : Setup) (ws : List ℕ) (log : List Entry) (heard : Heard) : Type 0 where
  pub done : AreRead c ws log heard.reads
  pub now : IfSome heard.glance (GlanceFits c ws log)

-- so it is in each seat
abbrev pub HaveRead : Setup → (words : List ℕ) → (heard : ℕ → Heard) → List Entry → Type 0
HaveRead c words heard log = (n : ℕ) → HasRead c words log (heard n)

-- what a reader of the log has loaded of FLUSHED is at most that
abbrev pub HaveLoaded : (words : List ℕ) → List model.Actor → Type 0
HaveLoaded words actors = (n : ℕ) (r : ReaderState) → get_elem? actors n ≡ some (model.Reader r)
    → r.mark ≤ slice_index words flushed_at
