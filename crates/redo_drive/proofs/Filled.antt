-- What a turn puts into an actor, and who asks for no read.
use Rattle.std.proofs.Common.{Bool, List, None, Option, Some, [], ap, cond, false, inl, inr, refl, subst, sym, true, ℕ, ◌∙◌, ◌≡◌, ◌⊎◌}
use Rattle.model_core.specs.States as model
use Rattle.model_core.specs.{AnswerFits, Advance, advance_op, checkpointer_op, CheckpointerState, cleaner_op, CleanerState, closer_op, CloserState, filled, Filling, flusher_op, FlusherState, Given, lent, next, old_of, reader_op, ReaderState, step_of, took, user_op, UserState, writer_op, WriterState}
use Rattle.model_core.specs.ReaderProgram.{reader_filled, reader_fills}
use Rattle.model_core.specs.declared.ops.Answer.{Answer}
use Rattle.model_core.specs.declared.ops.Op.{Op}
use Rattle.model_core.specs.declared.ops.Op.TheVariants as op
use Rattle.model_core.specs.declared.ops.Step.{Step}
use Rattle.model_core.specs.declared.steps.AdvanceStep.{AdvanceStep}
use Rattle.model_core.specs.declared.steps.AdvanceStep.TheVariants as advance_step
use Rattle.model_core.specs.declared.steps.CheckpointerStep.{CheckpointerStep}
use Rattle.model_core.specs.declared.steps.CheckpointerStep.TheVariants as checkpointer_step
use Rattle.model_core.specs.declared.steps.CleanerStep.{CleanerStep}
use Rattle.model_core.specs.declared.steps.CleanerStep.TheVariants as cleaner_step
use Rattle.model_core.specs.declared.steps.CloserStep.{CloserStep}
use Rattle.model_core.specs.declared.steps.CloserStep.TheVariants as closer_step
use Rattle.model_core.specs.declared.steps.FlusherStep.{FlusherStep}
use Rattle.model_core.specs.declared.steps.FlusherStep.TheVariants as flusher_step
use Rattle.model_core.specs.declared.steps.ReaderStep.{ReaderStep}
use Rattle.model_core.specs.declared.steps.ReaderStep.TheVariants as reader_step
use Rattle.model_core.specs.declared.steps.UserStep.{UserStep}
use Rattle.model_core.specs.declared.steps.UserStep.TheVariants as user_step
use Rattle.model_core.specs.declared.steps.WriterStep.{WriterStep}
use Rattle.model_core.specs.declared.steps.WriterStep.TheVariants as writer_step
use Rattle.model_core.specs.declared.words.LinkBuffer.{LinkBuffer}
use Rattle.model_core.specs.declared.words.LinkBuffer.TheVariants as link_buffer
use Rattle.model_core.specs.declared.words.Word.TheVariants as word
use Rattle.redo_disk.specs.{Seen}
use Rattle.redo_drive.specs.Running.{IsPlayed, RunOf, IsServed}
use Rattle.redo_drive.specs.Receiving.{filling_of, follower_of, handed_by, HasGot, HasTaken, IsSameFollower, MarkFits}
use Rattle.redo_drive.specs.History.{view_of}
use Rattle.redo_drive.specs.declared.actor.Actor.{Actor}
use Rattle.redo_drive.specs.declared.actor.Actor.TheVariants as own
use Rattle.redo_drive.specs.declared.parts.Parts.{Parts}
use Rattle.redo_follow.specs.{follower_fits}
use Rattle.redo_follow.specs.Following.{Following}
use Rattle.redo_follow.specs.Lending.{with_block}
use Rattle.redo_archiver.specs.Lending as archiving

-- WHAT AN ACTOR THAT HAS ITS BLOCK ALREADY LENDS is what it lends once it is filled.
lent_by : (r : ReaderState) (texts : List (List ℕ)) (s : ReaderStep)
    → ◌≡◌ {A = model.Lent} (lent (model.Reader (reader_filled r (filling_of (model.Reader r) texts) s)))
    (model.Room r.block)
lent_by r texts reader_step.LoadFlushed = refl
lent_by r texts reader_step.TakeDevice = refl
lent_by r texts reader_step.GiveBroken = refl
lent_by r texts reader_step.ReadBlock = refl
lent_by r texts reader_step.GiveDevice = refl
lent_by r texts reader_step.StorePlace = refl
lent_by r texts reader_step.StoreFailed = refl
lent_by r texts reader_step.GiveFailed = refl
lent_by r texts reader_step.Failed = refl
lent_by r texts reader_step.Append = refl
lent_by r texts reader_step.StoreLost = refl

pub lent_filled : (who : model.Actor) (texts : List (List ℕ))
    → ◌≡◌ {A = model.Lent} (lent (filled who (filling_of who texts))) (lent who)
lent_filled (model.Reader r) texts = lent_by r texts r.step
lent_filled (model.User u) texts = refl
lent_filled (model.Writer s) texts = refl
lent_filled (model.Flusher t) texts = refl
lent_filled (model.Closer t) texts = refl
lent_filled (model.Cleaner v) texts = refl
lent_filled (model.Checkpointer t) texts = refl

-- A READ is asked for by a reader at that step.
read_at : (r : ReaderState) (x : ℕ) → next (model.Reader r) ≡ op.ReadBlock x → r.step ≡ reader_step.ReadBlock
read_at r x = by r.checks r.step
  where
    by : (b : Bool) (s : ReaderStep) → cond b (op.Load word.Failed) (reader_op r s) ≡ op.ReadBlock x
        → s ≡ reader_step.ReadBlock
    by true s is = absurd (cc)
    by false reader_step.LoadFlushed is = absurd (cc)
    by false reader_step.TakeDevice is = absurd (cc)
    by false reader_step.GiveBroken is = absurd (cc)
    by false reader_step.ReadBlock is = refl
    by false reader_step.GiveDevice is = absurd (cc)
    by false reader_step.StorePlace is = absurd (cc)
    by false reader_step.StoreFailed is = absurd (cc)
    by false reader_step.GiveFailed is = absurd (cc)
    by false reader_step.Failed is = absurd (cc)
    by false reader_step.Append is = absurd (cc)
    by false reader_step.StoreLost is = absurd (cc)

filled_at : (r : ReaderState) (f : Filling) → r.step ≡ reader_step.ReadBlock
    → ◌≡◌ {A = model.Actor} (filled (model.Reader r) f) (model.Reader (record r { block = f.block }))
filled_at r f is = ap (λ (s : ReaderStep). model.Reader (reader_filled r f s)) is

module _ {L D R : Type 0} (log_seen : L → Seen) (data_seen : D → Seen) (stands : R → List Given → Type 0)
    (run : RunOf L D) (old new : Parts L D) where
  -- So what was played for an actor, with what it lends, and with what it makes of the answer, serves it, by that answer.
  pub serves_by : (a b : Actor R) (r : Answer) (step : Step)
      → IsPlayed log_seen data_seen run (next (view_of a)) (lent (view_of a)) old r new → HasTaken stands a r step b
      → (served : IsServed log_seen data_seen stands run old a step new b) × (served.answer ≡ r)
  serves_by a b r step played taken = (
    record {
      filling = filling_of (view_of a) taken.texts;
      fills = taken.fills;
      answer = r;
      played = subst (λ (l : model.Lent). IsPlayed log_seen data_seen run (next (view_of a)) l old r new)
          (sym (lent_filled (view_of a) taken.texts)) played;
      took = taken.state;
      ends = taken.ends;
      same = taken.same;
      got = taken.got;
    },
    refl,
  )

  pub serves : (a b : Actor R) (r : Answer) (step : Step)
      → IsPlayed log_seen data_seen run (next (view_of a)) (lent (view_of a)) old r new → HasTaken stands a r step b
      → IsServed log_seen data_seen stands run old a step new b
  serves a b r step played taken = (serves_by a b r step played taken).0

  same_number : (f : Following R) (bytes : List ℕ) (g : Option (Following R))
      → IsSameFollower (Some (with_block f bytes)) g → IsSameFollower (Some f) g
  same_number f bytes None same = same
  same_number f bytes (Some g) same = same

  same_receiver : (f : Following R) (bytes : List ℕ) (groups : List Given) (g : Option (Following R))
      → HasGot stands (Some (with_block f bytes)) groups g → HasGot stands (Some f) groups g
  same_receiver f bytes groups None got = tt
  same_receiver f bytes groups (Some g) got = got

  -- And so does a read for a follower, which wrote these bytes into its room before it took the answer.
  pub serves_read : (f : Following R) (bytes : List ℕ) (x : ℕ) (b : Actor R) (r : Answer) (step : Step)
      → next (model.Reader f.state) ≡ op.ReadBlock x
      → IsPlayed log_seen data_seen run (next (model.Reader f.state)) (model.Room bytes) old r new
      → HasTaken stands (own.Follower (with_block f bytes)) r step b
      → IsServed log_seen data_seen stands run old (own.Follower f) step new b
  serves_read f bytes x b r step asks played taken =
      let s : ReaderState = f.state in
      let w : ReaderState = record s { block = bytes } in
      let whole : Filling = record { block = bytes; texts = taken.texts } in
      let is : s.step ≡ reader_step.ReadBlock = read_at s x asks in
      let mine : ◌≡◌ {A = model.Actor} (filled (model.Reader s) whole) (model.Reader w) = filled_at s whole is in
      let same : ◌≡◌ {A = model.Actor} (filled (model.Reader w) (filling_of (model.Reader w) taken.texts))
      (filled (model.Reader s) whole) = filled_at w (filling_of (model.Reader w) taken.texts) is ∙ sym mine in
      record {
        filling = whole;
        fills = subst (reader_fills s whole) (sym is) tt;
        answer = r;
        played = subst (λ (l : model.Actor). IsPlayed log_seen data_seen run (next (model.Reader s)) (lent l) old r new)
            (sym mine) played;
        took = subst (λ (z : model.Actor). view_of b ≡ took z r) same taken.state;
        ends = subst (λ (z : model.Actor). step ≡ step_of z r) same taken.ends;
        same = same_number f bytes (follower_of b) taken.same;
        got = same_receiver f bytes (handed_by (filled (model.Reader s) whole)) (follower_of b)
            (subst (λ (z : model.Actor). HasGot stands (Some (with_block f bytes)) (handed_by z) (follower_of b)) same
            taken.got);
      }

  -- the same of a read for the archiver
  pub serves_archiver : (s : ReaderState) (bytes : List ℕ) (x : ℕ) (b : Actor R) (r : Answer) (step : Step)
      → next (model.Reader s) ≡ op.ReadBlock x
      → IsPlayed log_seen data_seen run (next (model.Reader s)) (model.Room bytes) old r new
      → HasTaken stands (own.Archiver (archiving.with_block s bytes)) r step b
      → IsServed log_seen data_seen stands run old (own.Archiver s) step new b
  serves_archiver s bytes x b r step asks played taken =
      let w : ReaderState = record s { block = bytes } in
      let whole : Filling = record { block = bytes; texts = taken.texts } in
      let is : s.step ≡ reader_step.ReadBlock = read_at s x asks in
      let mine : ◌≡◌ {A = model.Actor} (filled (model.Reader s) whole) (model.Reader w) = filled_at s whole is in
      let same : ◌≡◌ {A = model.Actor} (filled (model.Reader w) (filling_of (model.Reader w) taken.texts))
      (filled (model.Reader s) whole) = filled_at w (filling_of (model.Reader w) taken.texts) is ∙ sym mine in
      record {
        filling = whole;
        fills = subst (reader_fills s whole) (sym is) tt;
        answer = r;
        played = subst (λ (l : model.Actor). IsPlayed log_seen data_seen run (next (model.Reader s)) (lent l) old r new)
            (sym mine) played;
        took = subst (λ (z : model.Actor). view_of b ≡ took z r) same taken.state;
        ends = subst (λ (z : model.Actor). step ≡ step_of z r) same taken.ends;
        same = taken.same;
        got = tt;
      }

-- Whatever is put into an actor, it may be given the same answers.
reader_fits : (r : ReaderState) (f : Filling) (s : ReaderStep) (a : Answer) → AnswerFits (model.Reader r) a
    → AnswerFits (model.Reader (reader_filled r f s)) a
reader_fits r f reader_step.LoadFlushed a fits = fits
reader_fits r f reader_step.ReadBlock a fits = record { log = fits.log; pages = fits.pages; code = fits.code }
reader_fits r f reader_step.GiveDevice a fits = record { log = fits.log; pages = fits.pages; code = fits.code }
reader_fits r f _ a fits = fits

-- Whatever a call wrote into a reader's room, it may be given the same answers.
pub block_fits : (r : ReaderState) (bytes : List ℕ) (a : Answer) → AnswerFits (model.Reader r) a
    → AnswerFits (model.Reader (record r { block = bytes })) a
block_fits r bytes a fits = reader_fits r (record { block = bytes; texts = [] }) reader_step.ReadBlock a fits

mark_by : (r w : ReaderState) (n : ℕ) (s : ReaderStep) → follower_fits r n s → follower_fits w n s
mark_by r w n reader_step.LoadFlushed fits = fits
mark_by r w n _ fits = tt

pub block_mark_fits : (r : ReaderState) (bytes : List ℕ) (a : Answer) → MarkFits (model.Reader r) a
    → MarkFits (model.Reader (record r { block = bytes })) a
block_mark_fits r bytes a fits = (by r.checks fits.0, fits.1)
  where
    w : ReaderState
    w = record r { block = bytes }

    by : (b : Bool) → cond b (Unit {0}) (follower_fits r (old_of a) r.step)
        → cond b (Unit {0}) (follower_fits w (old_of a) r.step)
    by true small = tt
    by false small = mark_by r w (old_of a) r.step small

-- WHO ASKS FOR NO READ
abbrev pub IsNoRead : Op → Type 0
IsNoRead (op.ReadBlock x) = ⊥
IsNoRead _ = Unit {0}

advance_reads_not : (b : LinkBuffer) (v : Advance) (s : AdvanceStep) → IsNoRead (advance_op b v s)
advance_reads_not b v advance_step.LoadTail = tt
advance_reads_not b v _ = tt

user_reads_not : (u : UserState) (f : UserStep) → IsNoRead (user_op u f)
user_reads_not u (user_step.AdvanceWritten s) = advance_reads_not link_buffer.Written u.advance s
user_reads_not u (user_step.AdvanceClosed s) = advance_reads_not link_buffer.Closed u.advance s
user_reads_not u _ = tt

writer_reads_not : (s : WriterState) (f : WriterStep) → IsNoRead (writer_op s f)
writer_reads_not s (writer_step.Advance v) = advance_reads_not link_buffer.Written s.advance v
writer_reads_not s _ = tt

flusher_reads_not : (t : FlusherState) (f : FlusherStep) → IsNoRead (flusher_op t f)
flusher_reads_not t flusher_step.LoadWrite = tt
flusher_reads_not t _ = tt

closer_reads_not : (t : CloserState) (f : CloserStep) → IsNoRead (closer_op t f)
closer_reads_not t (closer_step.Advance v) = advance_reads_not link_buffer.Closed t.advance v
closer_reads_not t closer_step.Failed = tt

cleaner_reads_not : (v : CleanerState) (f : CleanerStep) → IsNoRead (cleaner_op v f)
cleaner_reads_not v cleaner_step.LoadFlushed = tt
cleaner_reads_not v _ = tt

checkpointer_reads_not : (t : CheckpointerState) (f : CheckpointerStep) → IsNoRead (checkpointer_op t f)
checkpointer_reads_not t checkpointer_step.LoadCtail = tt
checkpointer_reads_not t _ = tt

checking_reads_not : (b : Bool) (o : Op) → IsNoRead o → IsNoRead (cond b (op.Load word.Failed) o)
checking_reads_not true o is = tt
checking_reads_not false o is = is

-- a reader of the log alone does
pub reader_or_no_read : (a : model.Actor) → ((r : ReaderState) × (a ≡ model.Reader r)) ⊎ IsNoRead (next a)
reader_or_no_read (model.Reader r) = inl (r, refl)
reader_or_no_read (model.User u) =
    inr (checking_reads_not u.checks (user_op u u.step) (user_reads_not u u.step))
reader_or_no_read (model.Writer s) =
    inr (checking_reads_not s.checks (writer_op s s.step) (writer_reads_not s s.step))
reader_or_no_read (model.Flusher t) =
    inr (checking_reads_not t.checks (flusher_op t t.step) (flusher_reads_not t t.step))
reader_or_no_read (model.Closer t) =
    inr (checking_reads_not t.checks (closer_op t t.step) (closer_reads_not t t.step))
reader_or_no_read (model.Cleaner v) =
    inr (checking_reads_not v.checks (cleaner_op v v.step) (cleaner_reads_not v v.step))
reader_or_no_read (model.Checkpointer t) =
    inr (checking_reads_not t.checks (checkpointer_op t t.step) (checkpointer_reads_not t t.step))
