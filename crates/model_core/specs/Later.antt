-- The same actor, later.
use Rattle.std.specs.Prelude.{List, ℕ, ◌++◌, ◌≡◌, ◌≤◌}
use Rattle.model_core.specs.States as model
use Rattle.model_core.specs.States.{CheckpointerState, CleanerState, CloserState, FlusherState, ReaderState, UserState, WriterState}

-- a user keeps its number, its lines, the groups that it has reserved and the commits that were answered, to which more
-- of both may come, and whether it keeps all; any other actor keeps its kind
abbrev pub IsSameActor : model.Actor → model.Actor → Type 0
IsSameActor (model.User u) b =
    (v : UserState) × (b ≡ model.User v) × (v.user ≡ u.user) × (v.lines ≡ u.lines) × (u.k ≤ v.k)
    × (more : List ℕ) × (v.starts ≡ u.starts ++ more) × (v.keeps ≡ u.keeps)
IsSameActor (model.Writer s) b = (t : WriterState) × (b ≡ model.Writer t)
IsSameActor (model.Flusher s) b = (t : FlusherState) × (b ≡ model.Flusher t)
IsSameActor (model.Closer s) b = (t : CloserState) × (b ≡ model.Closer t)
IsSameActor (model.Cleaner s) b = (t : CleanerState) × (b ≡ model.Cleaner t)
IsSameActor (model.Checkpointer s) b = (t : CheckpointerState) × (b ≡ model.Checkpointer t)
IsSameActor (model.Reader s) b = (t : ReaderState) × (b ≡ model.Reader t)
