-- The program of a reader of the log: it reads the log back, block by block, up to FLUSHED, and stores in its word up
-- to where it has it. The archiver has it by full blocks, and a follower by whole groups, which it hands on.
use Rattle.std.specs.Prelude.{Bool, List, [], cond, drop, false, length, min, nat_le, take, true, ℕ, ◌%◌, ◌++◌, ◌+◌, ◌-◌, ◌==◌, ◌∷◌, ◌≡◌, ◌≤◌}
use Rattle.std.specs.List.{AllByRecursion}
use Rattle.model_base.specs.declared.limits.TheConstants.{BLOCK_SIZE, MAX_GROUP}
use Rattle.model_log.specs.{IsGroupText, sn_of, block_view, data_of, is_block_at}
use Rattle.model_log.specs.declared.layout.TheConstants.{BLOCK_DATA, BLOCK_HEADER}
use Rattle.model_log.specs.declared.rec.Rec.{Rec}
use Rattle.model_core.specs.ActorProgram.{ActorProgram, on_call, code_of, old_of, on_take}
use Rattle.model_core.specs.Lanes.{floor, lsn}
use Rattle.model_core.specs.States.{Given, ReaderState}
use Rattle.model_core.specs.declared.ops.Answer.{Answer}
use Rattle.model_core.specs.declared.ops.Op.{Op}
use Rattle.model_core.specs.declared.ops.Step.{Step}
use Rattle.model_core.specs.declared.steps.ReaderStep.{ReaderStep}
use Rattle.model_core.specs.declared.words.Word.TheVariants as word
use Rattle.model_core.specs.declared.ops.Op.TheVariants as op
use Rattle.model_core.specs.declared.ops.Step.TheVariants as step
use Rattle.model_core.specs.declared.steps.ReaderStep.TheVariants as reader_step

-- it is the archiver
abbrev pub archives : ReaderState → Bool
archives r = r.number == 0

-- up to where a follower has read, as an sn
abbrev pub read_to : ReaderState → ℕ
read_to r = r.at + length r.kept

-- the lsn of the next block that it needs
abbrev pub next_block : ReaderState → ℕ
next_block r = cond (archives r) r.place (floor (lsn (read_to r)))

-- it has all that is flushed, where FLUSHED is this: the archiver needs a full block
abbrev pub has_all : ReaderState → ℕ → Bool
has_all r n = cond (archives r) (nat_le (floor n) r.place) (n == r.place)

-- up to where the block that it has read holds bytes below its loaded mark, as an sn, and it has room for them
abbrev pub block_end : ReaderState → ℕ
block_end r = min (min (read_to r - read_to r % BLOCK_DATA + BLOCK_DATA) (sn_of r.mark)) (r.at + MAX_GROUP + BLOCK_SIZE)

-- the bytes from its read place up to there, of the block's data in use; of what is no block of that place it takes
-- nothing
abbrev pub next_piece : ReaderState → List ℕ
next_piece r =
    cond (is_block_at (next_block r) r.block)
    (take (block_end r - read_to r) (drop (read_to r % BLOCK_DATA) (data_of (block_view r.block) r.block))) []

-- what it then has
abbrev pub pending : ReaderState → List ℕ
pending r = r.kept ++ next_piece r

-- texts, joined; and where each stands, the first at an sn
abbrev pub joined_texts : List (List ℕ) → List ℕ
joined_texts [] = []
joined_texts (t ∷ ts) = t ++ joined_texts ts

abbrev pub placed_at : ℕ → List (List ℕ) → List Given
placed_at x [] = []
placed_at x (t ∷ ts) = record { start = lsn x; end = lsn (x + length t); text = t } ∷ placed_at (x + length t) ts

abbrev pub is_none : List (List ℕ) → Bool
is_none [] = true
is_none (t ∷ ts) = false

-- the text of a group
abbrev pub IsText : List ℕ → Type 0
IsText bytes = (group : List Rec) × IsGroupText bytes group

-- the whole groups in front of the bytes are these, each of at most 8,192 bytes
pub record AreInFront (bytes : List ℕ) (texts : List (List ℕ)) : Type 0 where
  pub rest : List ℕ
  pub are : bytes ≡ joined_texts texts ++ rest
  pub each : AllByRecursion (λ (t : List ℕ). IsText t × (length t ≤ MAX_GROUP)) texts
  pub no_more : (n : ℕ) → n ≤ length rest → n ≤ MAX_GROUP → IsText (take n rest) → ⊥

-- it has handed on the groups
abbrev pub followed : ReaderState → ReaderState
followed r = record r {
  at = r.at + length (joined_texts r.texts);
  place = lsn (r.at + length (joined_texts r.texts));
  kept = drop (length (joined_texts r.texts)) (pending r);
  texts = [];
  step = cond (is_none r.texts) reader_step.LoadFlushed reader_step.StorePlace;
}

-- the place of the first data byte after the archiver's block
abbrev pub next_mark : ReaderState → ℕ
next_mark r = r.place + BLOCK_SIZE + BLOCK_HEADER

-- the archiver has read its block, and is to append it; and then it has it in its archive, or its append has failed
abbrev pub to_append : ReaderState → ReaderState
to_append r = record r { step = reader_step.Append }

abbrev pub archived : ReaderState → Answer → ReaderState
archived r a = record r {
  place = on_call a (r.place + BLOCK_SIZE) r.place;
  lost = code_of a;
  code = code_of a;
  step = on_call a reader_step.StorePlace reader_step.StoreLost;
}

abbrev pub reader_op : ReaderState → ReaderStep → Op
reader_op r reader_step.LoadFlushed = op.Load word.Flushed
reader_op r reader_step.TakeDevice = op.TakeDevice
reader_op r reader_step.GiveBroken = op.GiveDevice
reader_op r reader_step.ReadBlock = op.ReadBlock (next_block r)
reader_op r reader_step.GiveDevice = op.GiveDevice
reader_op r reader_step.Append = op.Append (next_mark r)
reader_op r reader_step.StorePlace = op.Store (word.Place r.number) r.place
reader_op r reader_step.StoreFailed = op.Store word.Failed r.code
reader_op r reader_step.GiveFailed = op.GiveDevice
reader_op r reader_step.StoreLost = op.Store word.Failed r.lost
reader_op r reader_step.Failed = op.Rest

abbrev pub reader_took : ReaderState → Answer → ReaderStep → ReaderState
reader_took r a reader_step.LoadFlushed = cond (has_all r (old_of a)) (record r { mark = old_of a; checks = true; step = reader_step.LoadFlushed }) (record r { mark = old_of a; step = reader_step.TakeDevice })
reader_took r a reader_step.TakeDevice = record r { checks = on_take a false false true; step = on_take a reader_step.ReadBlock reader_step.GiveBroken reader_step.TakeDevice }
reader_took r a reader_step.GiveBroken = record r { checks = true; step = reader_step.TakeDevice }
reader_took r a reader_step.ReadBlock = record r { code = code_of a; step = on_call a reader_step.GiveDevice reader_step.StoreFailed }
reader_took r a reader_step.GiveDevice = cond (archives r) (to_append r) (followed r)
reader_took r a reader_step.Append = archived r a
reader_took r a reader_step.StorePlace = record r { own = r.place; step = reader_step.LoadFlushed }
reader_took r a reader_step.StoreFailed = record r { step = reader_step.GiveFailed }
reader_took r a reader_step.GiveFailed = record r { step = reader_step.Failed }
reader_took r a reader_step.StoreLost = record r { step = reader_step.Failed }
reader_took r a reader_step.Failed = r

-- it waits for something flushed, for the log part
abbrev pub reader_waits : ReaderState → Answer → ReaderStep → Bool
reader_waits r a reader_step.LoadFlushed = has_all r (old_of a)
reader_waits r a reader_step.TakeDevice = on_take a false false true
reader_waits r a _ = false

abbrev pub reader_ending : ℕ → ReaderStep → Step
reader_ending code reader_step.Failed = step.Failed code
reader_ending code _ = step.Moved

abbrev pub reader_program : ActorProgram ReaderState
reader_program = record {
  checks = λ r. r.checks;
  goes_on = λ r. record r { checks = false };
  fails = λ r n. record r { code = n; step = reader_step.Failed };
  op = λ r. reader_op r r.step;
  took = λ r a. reader_took r a r.step;
  waits = λ r a. reader_waits r a r.step;
  ending = λ r. reader_ending r.code r.step;
}

-- WHAT A TURN PUTS INTO A READER before its Op is answered: at its read the block's bytes, and where it gives the log
-- part back the whole groups in front of what it then has.
pub record Filling : Type 0 where
  pub block : List ℕ
  pub texts : List (List ℕ)

abbrev pub reader_filled : ReaderState → Filling → ReaderStep → ReaderState
reader_filled r f reader_step.ReadBlock = record r { block = f.block }
reader_filled r f reader_step.GiveDevice = record r { texts = f.texts }
reader_filled r f _ = r

abbrev pub reader_fills : ReaderState → Filling → ReaderStep → Type 0
reader_fills r f reader_step.GiveDevice = archives r ≡ false → AreInFront (pending r) f.texts
reader_fills r f _ = Unit {0}
