-- What an actor makes of an answer, and what a follower's receiver gets by it.
use Rattle.std.specs.Prelude.{List, [], cond, false, None, Option, Some, true, ℕ, ◌≡◌}
use Rattle.model_core.specs.States as model
use Rattle.model_core.specs.{archives, filled, Filling, Fills, Given, reader_holds, step_of, took}
use Rattle.model_core.specs.declared.ops.Answer.{Answer}
use Rattle.model_core.specs.declared.ops.Step.{Step}
use Rattle.model_running.specs.ReadHalf.{handed}
use Rattle.redo_drive.specs.History.{view_of}
use Rattle.redo_drive.specs.declared.actor.Actor.{Actor}
use Rattle.redo_drive.specs.declared.actor.Actor.TheVariants as own
use Rattle.redo_follow.specs.{FollowerFits, StandsFor}
use Rattle.redo_follow.specs.Following.{Following}

-- the follower, if the actor is one
abbrev pub follower_of : {R : Type 0} → Actor R → Option (Following R)
follower_of (own.Follower follower) = Some follower
follower_of _ = None

-- a follower keeps its number, and no other actor becomes one
abbrev pub IsSameFollower : {R : Type 0} → Option (Following R) → Option (Following R) → Type 0
IsSameFollower None None = Unit {0}
IsSameFollower (Some f) (Some g) = g.state.number ≡ f.state.number
IsSameFollower _ _ = ⊥

-- its receiver got these groups: for each list that it stood for, it stands for that with these at the end
abbrev pub HasGot : {R : Type 0} → (R → List Given → Type 0) → Option (Following R) → List Given → Option (Following R) → Type 0
HasGot stands (Some f) groups (Some g) = StandsFor stands f.receiver groups g.receiver
HasGot stands _ groups _ = Unit {0}

-- the groups that a follower hands on as its next Op is answered; the archiver hands on none
abbrev pub handed_by : model.Actor → List Given
handed_by (model.Reader r) = cond (archives r) [] (handed r)
handed_by _ = []

-- what a reader of the log is given: a mark below 2^61, and what it finds in FAILED only while it doesn't hold the log
-- part
abbrev pub MarkFits : model.Actor → Answer → Type 0
MarkFits (model.Reader r) answer = FollowerFits r answer × (r.checks ≡ true → reader_holds r.step ≡ false)
MarkFits _ answer = Unit {0}

-- what a turn put into an actor whose block is there already
abbrev pub block_in : model.Actor → List ℕ
block_in (model.Reader r) = r.block
block_in _ = []

abbrev pub filling_of : model.Actor → List (List ℕ) → Filling
filling_of who texts = record { block = block_in who; texts = texts }

-- AN ACTOR HAS TAKEN AN ANSWER. Its state is what the definition makes of that; and what a follower hands on by it, its
-- receiver got.
pub record HasTaken {R : Type 0} (stands : R → List Given → Type 0) (old : Actor R) (answer : Answer) (step : Step) (new : Actor R) : Type 0 where
  pub texts : List (List ℕ)
  pub fills : Fills (view_of old) (filling_of (view_of old) texts)
  pub state : view_of new ≡ took (filled (view_of old) (filling_of (view_of old) texts)) answer
  pub ends : step ≡ step_of (filled (view_of old) (filling_of (view_of old) texts)) answer
  pub same : IsSameFollower (follower_of old) (follower_of new)
  pub got : HasGot stands (follower_of old) (handed_by (filled (view_of old) (filling_of (view_of old) texts))) (follower_of new)
