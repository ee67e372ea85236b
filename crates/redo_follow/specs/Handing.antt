-- What a follower hands on.
use Rattle.std.specs.Prelude.{Bool, List, [], cond, false, length, true, ℕ, ◌++◌, ◌<◌, ◌^◌, ◌∷◌, ◌≡◌}
use Rattle.model_core.specs.{after_of, AreInFront, followed, Given, joined_texts, old_of, pending, placed_at, ReaderState, reader_program}
use Rattle.model_core.specs.declared.ops.Answer.{Answer}
use Rattle.model_core.specs.declared.steps.ReaderStep.{ReaderStep}
use Rattle.model_core.specs.declared.steps.ReaderStep.TheVariants as reader_step
use Rattle.redo_follow.specs.Following.{Following}

-- one group more
abbrev pub with_group : List Given → ℕ → ℕ → List ℕ → List Given
with_group got start end text = got ++ record { start = start; end = end; text = text } ∷ []

-- for each list that it stood for, it stands for that with these at the end
abbrev pub StandsFor : {R : Type 0} → (R → List Given → Type 0) → R → List Given → R → Type 0
StandsFor stands before more after = (got : List Given) → stands before got → stands after (got ++ more)

-- the whole groups in front of the bytes, of which the first stands at an sn, are handed on: they are so many bytes
abbrev pub HandsOn : {R : Type 0} → (R → List Given → Type 0) → ℕ → List ℕ → R → R → ℕ → Type 0
HandsOn stands at bytes before after taken =
    (texts : List (List ℕ)) × AreInFront bytes texts × (taken ≡ length (joined_texts texts))
    × StandsFor stands before (placed_at at texts) after

-- it has handed on the whole groups in front of what it then has
abbrev pub Followed : {R : Type 0} → (R → List Given → Type 0) → Following R → Following R → Type 0
Followed stands before after =
    (texts : List (List ℕ)) × AreInFront (pending before.state) texts
    × (after.state ≡ followed (record before.state { texts = texts }))
    × StandsFor stands before.receiver (placed_at before.state.at texts) after.receiver

-- the step is one of a follower: the archiver alone appends
abbrev pub IsFollowerStep : ReaderStep → Type 0
IsFollowerStep reader_step.Append = ⊥
IsFollowerStep reader_step.StoreLost = ⊥
IsFollowerStep _ = Unit {0}

abbrev is_to_follow : Bool → ReaderStep → Bool
is_to_follow true s = false
is_to_follow false reader_step.GiveDevice = true
is_to_follow false _ = false

-- its answer hands groups on
abbrev pub IsToFollow : ReaderState → Bool
IsToFollow r = is_to_follow r.checks r.step

-- what it is given: a mark below 2^61
abbrev pub follower_fits : ReaderState → ℕ → ReaderStep → Type 0
follower_fits r n reader_step.LoadFlushed = n < 2 ^ 61
follower_fits r n _ = Unit {0}

abbrev pub FollowerFits : ReaderState → Answer → Type 0
FollowerFits r a = cond r.checks (Unit {0}) (follower_fits r (old_of a) r.step)

-- it has taken an answer: that of the program, where a turn put the whole groups in front of what it then has into it
abbrev pub TookAnswer : {R : Type 0} → (R → List Given → Type 0) → Following R → Answer → Following R → Type 0
TookAnswer stands before a after =
    cond (IsToFollow before.state)
    (Followed stands before after)
    ((after.state ≡ after_of reader_program before.state a) × (after.receiver ≡ before.receiver))
