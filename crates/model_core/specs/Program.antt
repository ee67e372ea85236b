-- The actors with their programs: what each has, its next Op, and how its step ends. An actor waits where a condition of its
-- step doesn't hold yet: it checks FAILED, and then takes the same step again, or begins its round anew.
-- One turn: what an Op leaves of the words, of the flush lists and of both parts, and its answer. A flush list has pages with the
-- lsns since which they wait to be written, in the order in which they were added.
use Rattle.std.specs.Prelude.{Bool, List, [], cond, ℕ, ◌+◌, ◌∷◌, ◌==◌, None, Option, Some, ◌++◌, slice_index, slice_set, ◌%◌, ◌≡◌, ◌⊎◌}
use Rattle.model_core.specs.ActorProgram.{ActorProgram, checked_of, old_of, IsArchiveCode}
use Rattle.model_core.specs.States.{Actor, Batch, Blocks, Lent, Nothing, Room, Line, Entry}
use Rattle.model_core.specs.PagePrograms.{checkpointer_program, cleaner_program}
use Rattle.model_core.specs.LogPrograms.{closer_program, flusher_program, writer_program}
use Rattle.model_core.specs.ReaderProgram.{Filling, reader_filled, reader_fills, reader_program}
use Rattle.model_core.specs.UserProgram.{line_at, user_program}
use Rattle.model_core.specs.declared.ops.Answer.{Answer}
use Rattle.model_core.specs.declared.ops.Op.{Op}
use Rattle.model_core.specs.declared.words.Word.TheVariants as word
use Rattle.model_core.specs.declared.ops.Op.TheVariants as op
use Rattle.model_core.specs.States as actor
use Rattle.model_core.specs.declared.ops.Step.{Step}
use Rattle.model_core.specs.declared.ops.Step.TheVariants as step
use Rattle.model_core.specs.Layout.{device_at, index, lists_at}
use Rattle.model_core.specs.declared.ops.Answer.TheVariants as answer
use Rattle.model_core.specs.declared.words.Layout.{Layout}
use Rattle.model_core.specs.declared.limits.TheConstants.{FLUSH_LISTS}
use lib.ListN.{get_elem?}
use mathlib.Core.Option.{some}
use Rattle.model_core.specs.Sides.{DataSide, LogSide}

-- what is asked of an actor's case, its program and its state: the one place that names the program of each case
abbrev pub by_program : {R : Type 0} → ((S : Type 0) → (S → Actor) → ActorProgram S → S → R) → Actor → R
by_program f (actor.User u) = f _ actor.User user_program u
by_program f (actor.Writer s) = f _ actor.Writer writer_program s
by_program f (actor.Flusher t) = f _ actor.Flusher flusher_program t
by_program f (actor.Closer t) = f _ actor.Closer closer_program t
by_program f (actor.Cleaner v) = f _ actor.Cleaner cleaner_program v
by_program f (actor.Checkpointer t) = f _ actor.Checkpointer checkpointer_program t
by_program f (actor.Reader r) = f _ actor.Reader reader_program r

-- its next Op is a load of FAILED
abbrev pub is_checking : Actor → Bool
is_checking = by_program (λ _ _ p s. p.checks s)

-- the Op of its step, and its next Op
abbrev pub own_op : Actor → Op
own_op = by_program (λ _ _ p s. p.op s)

abbrev pub next : Actor → Op
next a = cond (is_checking a) (op.Load word.Failed) (own_op a)

-- its state after a load of FAILED, after the Op of its step, and after its next Op
abbrev pub checked : Actor → ℕ → Actor
checked a n = by_program (λ _ case p s. case (checked_of p s n)) a

abbrev pub own_took : Actor → Answer → Actor
own_took a r = by_program (λ _ case p s. case (p.took s r)) a

abbrev pub took : Actor → Answer → Actor
took a r = cond (is_checking a) (checked a (old_of r)) (own_took a r)

-- what it lends to a device call
abbrev pub lent : Actor → Lent
lent (actor.Writer s) = Blocks s.kept s.firsts
lent (actor.Cleaner v) = Batch v.batch
lent (actor.Reader r) = Room r.block
lent _ = Nothing

-- the groups that an actor has reserved
abbrev pub entry : ℕ → ℕ → ℕ → Line → Entry
entry user k s l = record { user = user; k = k; start = s; bytes = l.bytes; changes = l.changes }

abbrev pub entries_from : ℕ → List Line → ℕ → List ℕ → List Entry
entries_from user lines k [] = []
entries_from user lines k (s ∷ ss) = entry user k s (line_at lines k) ∷ entries_from user lines (k + 1) ss

-- an actor with what a turn puts into it before its Op is answered, and whether that is what it may be
abbrev pub filled : Actor → Filling → Actor
filled (actor.Reader r) f = actor.Reader (reader_filled r f r.step)
filled a _ = a

abbrev pub Fills : Actor → Filling → Type 0
Fills (actor.Reader r) f = reader_fills r f r.step
Fills _ f = Unit {0}

-- the actor, at its own step, waits after this answer
abbrev pub waits : Actor → Answer → Bool
waits a r = by_program (λ _ _ p s. p.waits s r) a

-- whether it has ended, and how
abbrev pub ending : Actor → Step
ending = by_program (λ _ _ p s. p.ending s)

-- How the step ends for which the actor gets this answer: a check of FAILED ends the actor where a code stands there.
abbrev pub step_of : Actor → Answer → Step
step_of a r = cond (is_checking a) (cond (old_of r == 0) step.Moved (step.Failed (old_of r))) (cond (waits a r) step.Idle (ending (own_took a r)))

pub record Listed : Type 0 where
  pub page : ℕ
  pub oldest : ℕ

abbrev pub appended : List Listed → ℕ → ℕ → List Listed
appended l p x = l ++ (record { page = p; oldest = x }) ∷ []

-- a list without a page
abbrev pub without : ℕ → List Listed → List Listed
without p [] = []
without p (x ∷ xs) = cond (x.page == p) (without p xs) (x ∷ without p xs)

abbrev pub oldest_end : List Listed → Option ℕ
oldest_end [] = None
oldest_end (x ∷ xs) = Some x.oldest

-- the list of words after an Op on one word, and what stood in that word
abbrev pub words_after : Layout → Op → List ℕ → List ℕ
words_after layout (op.Store w x) ws = slice_set ws (index layout w) x
words_after layout (op.Add w k) ws = slice_set ws (index layout w) (slice_index ws (index layout w) + k)
words_after layout (op.Swap w a b) ws = cond (slice_index ws (index layout w) == a) (slice_set ws (index layout w) b) ws
words_after layout _ ws = ws

abbrev pub word_found : Layout → Op → List ℕ → ℕ
word_found layout (op.Load w) ws = slice_index ws (index layout w)
word_found layout (op.Store w x) ws = slice_index ws (index layout w)
word_found layout (op.Add w k) ws = slice_index ws (index layout w)
word_found layout (op.Swap w a b) ws = slice_index ws (index layout w)
word_found layout _ ws = 0

-- the list of words after any Op: whoever finds a turn word free takes it
abbrev pub words_left : Layout → List ℕ → Op → List ℕ
words_left layout ws op.TakeDevice = cond (slice_index ws device_at == 0) (slice_set ws device_at 1) ws
words_left layout ws op.GiveDevice = slice_set ws device_at 0
words_left layout ws (op.TakeAdd p x) = cond (slice_index ws (lists_at + p % FLUSH_LISTS) == 0) (slice_set ws (lists_at + p % FLUSH_LISTS) 1) ws
words_left layout ws (op.TakeRemove p) = cond (slice_index ws (lists_at + p % FLUSH_LISTS) == 0) (slice_set ws (lists_at + p % FLUSH_LISTS) 1) ws
words_left layout ws (op.TakeOldest i) = cond (slice_index ws (lists_at + i) == 0) (slice_set ws (lists_at + i) 1) ws
words_left layout ws (op.GiveList i) = slice_set ws (lists_at + i) 0
words_left layout ws o = words_after layout o ws

-- the flush lists after an Op: a list's call is made by whoever finds its turn word free
abbrev pub lists_left : (ℕ → List Listed) → (ℕ → ℕ) → Op → ℕ → List Listed
lists_left ls word (op.TakeAdd p x) i = cond (i == p % FLUSH_LISTS) (cond (word (p % FLUSH_LISTS) == 0) (appended (ls i) p x) (ls i)) (ls i)
lists_left ls word (op.TakeRemove p) i = cond (i == p % FLUSH_LISTS) (cond (word (p % FLUSH_LISTS) == 0) (without p (ls i)) (ls i)) (ls i)
lists_left ls word _ i = ls i

-- the answer where a flush list's turn word was so
abbrev pub list_answer : ℕ → Option ℕ → Answer
list_answer w n = cond (w == 0) (answer.Taken n) answer.Held

-- `broken` is whether the part has failed, `code` how a device call ended (0 for Ok), `mark` the part's stable mark after it
abbrev pub answer_of : Layout → (ℕ → List Listed) → Bool → ℕ → ℕ → List ℕ → Op → Answer
answer_of layout ls broken code mark ws op.TakeDevice = cond (slice_index ws device_at == 0) (cond broken answer.Broken (answer.Taken None)) answer.Held
answer_of layout ls broken code mark ws op.GiveDevice = answer.Taken None
answer_of layout ls broken code mark ws (op.TakeAdd p x) = list_answer (slice_index ws (lists_at + p % FLUSH_LISTS)) None
answer_of layout ls broken code mark ws (op.TakeRemove p) = list_answer (slice_index ws (lists_at + p % FLUSH_LISTS)) None
answer_of layout ls broken code mark ws (op.TakeOldest i) = list_answer (slice_index ws (lists_at + i)) (oldest_end (ls i))
answer_of layout ls broken code mark ws (op.GiveList i) = answer.Taken None
answer_of layout ls broken code mark ws (op.Checkpoint x) = cond (code == 0) (answer.Called 0) (answer.Failed code)
answer_of layout ls broken code mark ws (op.ReadBlock b) = cond (code == 0) (answer.Called 0) (answer.Failed code)
answer_of layout ls broken code mark ws op.WriteBatch = cond (code == 0) (answer.Called 0) (answer.Failed code)
answer_of layout ls broken code mark ws (op.Append x) = cond (code == 0) (answer.Called 0) (answer.Failed code)
answer_of layout ls broken code mark ws (op.WriteTo t) = cond (code == 0) (answer.Called 0) (answer.Failed code)
answer_of layout ls broken code mark ws op.Sync = cond (code == 0) (answer.Called mark) (answer.Failed code)
answer_of layout ls broken code mark ws op.Rest = answer.Rested
answer_of layout ls broken code mark ws o = answer.Old (word_found layout o ws)

module _ (D : LogSide) (p : D.Part) where
  abbrev pub WroteBy : Lent → ℕ → ℕ → D.Part → Type 0
  WroteBy (Blocks bytes firsts) t code q = D.Wrote t bytes firsts code p q
  WroteBy _ t code q = ⊥

  abbrev pub ReadBy : Lent → ℕ → ℕ → D.Part → Type 0
  ReadBy (Room bytes) b code q = D.Read b bytes code p q
  ReadBy _ b code q = ⊥

  -- what a call of the part may leave; the code is 0 for Ok. Any other Op leaves the part
  abbrev pub LogServed : Lent → Op → ℕ → D.Part → Type 0
  LogServed l (op.WriteTo t) code q = WroteBy l t code q
  LogServed l op.Sync code q = D.Synced code p q
  LogServed l (op.Checkpoint x) code q = D.Checkpointed x code p q
  LogServed l (op.ReadBlock b) code q = ReadBy l b code q
  LogServed l o code q = ◌≡◌ {A = D.Part} q p

-- what a call of the data part may leave; any other Op leaves the part
abbrev pub DataServed : (E : DataSide) → E.Part → Lent → Op → ℕ → E.Part → Type 0
DataServed E d (Batch b) op.WriteBatch code e = E.Batched b code d e
DataServed E d l o code e = ◌≡◌ {A = E.Part} e d

-- The codes that a call of an actor's own device may have, 0 for Ok: the archive part lies in the archiver, and no other
-- actor comes to it. Any other Op calls none.
abbrev pub OwnServed : Op → ℕ → Type 0
OwnServed (op.Append x) code = (code ≡ 0) ⊎ IsArchiveCode code
OwnServed o code = Unit {0}

-- the state of a running store: which words there are, and the words, both parts, the flush lists, the actors
pub record Core (D : LogSide) (E : DataSide) : Type 0 where
  pub layout : Layout
  pub words : List ℕ
  pub log_part : D.Part
  pub data_part : E.Part
  pub lists : ℕ → List Listed
  pub actors : List Actor

-- the turn word of a flush list, as the words have it
abbrev pub list_word : List ℕ → ℕ → ℕ
list_word words i = slice_index words (lists_at + i)

-- One turn of the actor at a seat, with the answer that its Op is given and with how its step ends. The Op changes one
-- word, or one turn word and what it guards, or calls one part or the actor's own device, with a code that is 0 for Ok;
-- and this actor's state changes by the answer, once it has what the turn puts into it. Nothing else changes. An actor
-- that has ended asks for nothing, and its turn changes nothing.
pub record Turn (D : LogSide) (E : DataSide) (old : Core D E) (seat : ℕ) (answer : Answer) (step : Step) (new : Core D E) : Type 0 where
  pub who : Actor
  pub who_is : get_elem? old.actors seat ≡ some who
  pub filling : Filling
  pub fills : Fills who filling
  pub code : ℕ
  pub log_served : LogServed D old.log_part (lent (filled who filling)) (next who) code new.log_part
  pub data_served : DataServed E old.data_part (lent (filled who filling)) (next who) code new.data_part
  pub own_served : OwnServed (next who) code
  pub layout : new.layout ≡ old.layout
  pub words : new.words ≡ words_left old.layout old.words (next who)
  pub lists : new.lists ≡ lists_left old.lists (list_word old.words) (next who)
  pub answered : answer ≡ answer_of old.layout old.lists (D.failed old.log_part) code (D.stable new.log_part) old.words (next who)
  pub actors : new.actors ≡ slice_set old.actors seat (took (filled who filling) answer)
  pub ends : step ≡ step_of (filled who filling) answer
