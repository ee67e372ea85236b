-- Each turn keeps the readers' part of the invariant.
use Rattle.std.proofs.Common.{Bool, List, [], ap, arith, cond, eqb, eqb-true, false, inl, inr, length, refl, set, subst, suc, sym, true, ℕ, ⊎_elim, ◌+◌, ◌<◌, ◌∙◌, ◌∷◌, ◌≡◌, ◌≢◌, ◌≤◌}
use Rattle.std.proofs.lemmas.List.{get_or-set_other, get_or-set_same}
use Rattle.std.specs.Prelude.{min, None, Option, slice_index, slice_set, Some}
use native.Mathlib.Decide.{ℕ_discrete}
use lib.ListN.{get_elem?}
use mathlib.Core.Option.{some}
use Rattle.model_core.proofs.Lists.{at_set}
use Rattle.model_core.specs.{Actor, Advance, advance_op, archives, AreInFront, checked, checkpointer_op, checkpointer_took, CheckpointerState, cleaner_op, CleanerState, closer_op, CloserState, Entry, entry, floor, flusher_op, FlusherState, IsText, is_above, lent, LostAt, line, Listed, log_left, LogServed, lowered, next, next_block, old_of, oldest_end, own_took, pending, phase_log, reader_op, reader_took, ReaderState, Room, shared_answer, shared_left, SharedWords, tail_of, tail_word, Tiles, took, user_op, UserState, writer_op, WriterState, wrote, DataSide, LogSide, Setup}
use Rattle.model_core.specs.declared.ops.Answer.TheVariants as answer
use Rattle.model_core.specs.declared.ops.Op.{Op}
use Rattle.model_core.specs.declared.ops.Op.TheVariants as op
use Rattle.model_core.specs.declared.steps.AdvanceStep.{AdvanceStep}
use Rattle.model_core.specs.declared.steps.AdvanceStep.TheVariants as advance_step
use Rattle.model_core.specs.declared.steps.CheckpointerStep.{CheckpointerStep}
use Rattle.model_core.specs.declared.steps.CheckpointerStep.TheVariants as checkpointer_step
use Rattle.model_core.specs.declared.steps.CleanerStep.{CleanerStep}
use Rattle.model_core.specs.declared.steps.CleanerStep.TheVariants as cleaner_step
use Rattle.model_core.specs.declared.steps.CloserStep.{CloserStep}
use Rattle.model_core.specs.declared.steps.CloserStep.TheVariants as closer_step
use Rattle.model_core.specs.declared.steps.FlusherStep.{FlusherStep}
use Rattle.model_core.specs.declared.steps.FlusherStep.TheVariants as flusher_step
use Rattle.model_core.specs.declared.steps.ReaderStep.{ReaderStep}
use Rattle.model_core.specs.declared.steps.ReaderStep.TheVariants as reader_step
use Rattle.model_core.specs.declared.steps.UserStep.{UserStep}
use Rattle.model_core.specs.declared.steps.UserStep.TheVariants as user_step
use Rattle.model_core.specs.declared.steps.WriterStep.{WriterStep}
use Rattle.model_core.specs.declared.steps.WriterStep.TheVariants as writer_step
use Rattle.model_core.specs.declared.words.LinkBuffer.{LinkBuffer}
use Rattle.model_core.specs.declared.words.LinkBuffer.TheVariants as link_buffer
use Rattle.model_core.specs.declared.words.Word.{Word}
use Rattle.model_core.specs.declared.words.Word.TheVariants as word
use Rattle.model_core.specs.States as actor
use Rattle.model_core.specs.NamedWords.{read}
use Rattle.model_logcore.specs.{LogGhost}
use Rattle.model_logcore.specs.LogLaws.{HasBlock, LogLaws}
use Rattle.model_logcore.specs.LogFits as marks
use Rattle.model_pagecore.specs.{CheckpointerPageFits, CheckpointerPagesAt, PageGhost}
use Rattle.model_pagecore.specs.DataLaws.{DataLaws}
use Rattle.model_running.proofs.LogCalls.{asked_bound}
use Rattle.model_running.proofs.Following.{AreTexts}
use Rattle.model_running.proofs.ReadKeeps.{candidate_later, can_read, LogGrows, others_read, reader_goes, reader_later, reads_piece}
use Rattle.model_running.proofs.ReadTurns.{appends, begins, loads_place, lower, reads_block, reads_flushed, stores_place}
use Rattle.model_running.specs.ReadHalf.{ArchiverAt, CandidateAt, CandidateFits, FollowerAt, HasMore, ReaderHas, ReadFits, ReadHalf, ReadsInRun}
use Rattle.model_running.specs.Watermarks.{BothHalves}

-- a reader that is about to give the log part back has the whole groups in front of what it then has
abbrev pub ReaderIsFilled : ReaderState → ReaderStep → Type 0
ReaderIsFilled r reader_step.GiveDevice = archives r ≡ false → AreInFront (pending r) r.texts
ReaderIsFilled r _ = Unit {0}

abbrev pub IsFilled : Actor → Type 0
IsFilled (actor.Reader r) = ReaderIsFilled r r.step
IsFilled _ = Unit {0}

-- WHICH OPS LEAVE FLUSHED AND THE READERS' PLACES
abbrev pub IsElse : Word → Type 0
IsElse word.Flushed = ⊥
IsElse (word.Place i) = ⊥
IsElse _ = Unit {0}

abbrev pub LeavesReads : Op → Type 0
LeavesReads (op.Store w x) = IsElse w
LeavesReads (op.Add w k) = IsElse w
LeavesReads (op.Swap w a b) = IsElse w
LeavesReads _ = Unit {0}

abbrev pub SameReads : SharedWords → SharedWords → Type 0
SameReads m m' = (m'.places ≡ m.places) × (m'.flushed ≡ m.flushed)

wrote_else : (m : SharedWords) (w : Word) (x : ℕ) → IsElse w → SameReads m (wrote m w x)
wrote_else m word.Flushed x e = absurd e
wrote_else m (word.Place i) x e = absurd e
wrote_else m _ x e = (refl, refl)

either_words : (m a b : SharedWords) (t : Bool) → SameReads m a → SameReads m b → SameReads m (cond t a b)
either_words m a b true x y = x
either_words m a b false x y = y

pub left_reads : (m : SharedWords) (o : Op) → LeavesReads o → SameReads m (shared_left m o)
left_reads m op.TakeDevice e = either_words m _ m (eqb m.device 0) (refl, refl) (refl, refl)
left_reads m op.GiveDevice e = (refl, refl)
left_reads m (op.TakeAdd p x) e = either_words m _ m _ (refl, refl) (refl, refl)
left_reads m (op.TakeRemove p) e = either_words m _ m _ (refl, refl) (refl, refl)
left_reads m (op.TakeOldest i) e = either_words m _ m _ (refl, refl) (refl, refl)
left_reads m (op.GiveList i) e = (refl, refl)
left_reads m (op.Store w x) e = wrote_else m w x e
left_reads m (op.Add w k) e = wrote_else m w _ e
left_reads m (op.Swap w x y) e = either_words m _ m (eqb (read m w) x) (wrote_else m w y e) (refl, refl)
left_reads m _ e = (refl, refl)

advance_leaves : (b : LinkBuffer) (v : Advance) (s : AdvanceStep) → LeavesReads (advance_op b v s)
advance_leaves link_buffer.Written v advance_step.LoadTail = tt
advance_leaves link_buffer.Written v advance_step.TakeTail = tt
advance_leaves link_buffer.Written v advance_step.LoadLink = tt
advance_leaves link_buffer.Written v advance_step.ClearLink = tt
advance_leaves link_buffer.Written v advance_step.FreeTail = tt
advance_leaves link_buffer.Closed v advance_step.LoadTail = tt
advance_leaves link_buffer.Closed v advance_step.TakeTail = tt
advance_leaves link_buffer.Closed v advance_step.LoadLink = tt
advance_leaves link_buffer.Closed v advance_step.ClearLink = tt
advance_leaves link_buffer.Closed v advance_step.FreeTail = tt

pub user_leaves : (u : UserState) (f : UserStep) → LeavesReads (user_op u f)
user_leaves u user_step.LoadCheckpoint = tt
user_leaves u (user_step.AdvanceWritten s) = advance_leaves link_buffer.Written u.advance s
user_leaves u (user_step.AdvanceClosed s) = advance_leaves link_buffer.Closed u.advance s
user_leaves u _ = tt

pub writer_leaves : (s : WriterState) (f : WriterStep) → LeavesReads (writer_op s f)
writer_leaves s (writer_step.Advance v) = advance_leaves link_buffer.Written s.advance v
writer_leaves s _ = tt

pub closer_leaves : (t : CloserState) (f : CloserStep) → LeavesReads (closer_op t f)
closer_leaves t (closer_step.Advance v) = advance_leaves link_buffer.Closed t.advance v
closer_leaves t closer_step.Failed = tt

pub cleaner_leaves : (v : CleanerState) (f : CleanerStep) → LeavesReads (cleaner_op v f)
cleaner_leaves v cleaner_step.LoadFlushed = tt
cleaner_leaves v _ = tt

pub checkpointer_leaves : (t : CheckpointerState) (f : CheckpointerStep) → LeavesReads (checkpointer_op t f)
checkpointer_leaves t checkpointer_step.LoadCtail = tt
checkpointer_leaves t _ = tt

pub asks : (b : Bool) (o : Op) → LeavesReads o → LeavesReads (cond b (op.Load word.Failed) o)
asks true o e = tt
asks false o e = e

texts_of : (log : List Entry) → ((i : ℕ) (e : Entry) → get_elem? log i ≡ some e → IsText e.bytes) → AreTexts log
texts_of [] each = tt
texts_of (e ∷ es) each = (each 0 e refl, texts_of es (λ i x is. each (suc i) x is))

fits_either : (c : Setup) (m : SharedWords) (log : List Entry) (seat : ℕ) (b : Bool) (x y : Actor) → ReadFits c m log seat x → ReadFits c m log seat y → ReadFits c m log seat (cond b x y)
fits_either c m log seat true x y one two = one
fits_either c m log seat false x y one two = two

-- each group of the log is a text
pub texts_of_log : (D : LogSide) (E : DataSide) (c : Setup) (m : SharedWords) (g : LogGhost) (h : PageGhost)
    (ls : ℕ → List Listed) (p : D.Part) (d : E.Part) (actors : List Actor)
    → BothHalves D E c m g h ls p d actors → AreTexts g.log
texts_of_log D E c m g h ls p d actors both =
    texts_of g.log (λ i e is. let l = both.logged.global.tiled.lines i e is in
    subst IsText (sym l.1) (both.script.texts e.user e.k l.0))

pub same_log : (log : List Entry) (sn : ℕ) → LogGrows log log sn
same_log log sn = record { how = inl refl }

-- what the checkpointer is about to give is what the pages have passed
pub given_to : (D : LogSide) (E : DataSide) (c : Setup) (m : SharedWords) (g : LogGhost) (h : PageGhost) (ls : ℕ → List Listed) (p : D.Part) (d : E.Part) (actors : List Actor) (seat : ℕ) (both : BothHalves D E c m g h ls p d actors)
    (t : CheckpointerState) → get_elem? actors seat ≡ some (actor.Checkpointer t) → t.step ≡ checkpointer_step.Checkpoint → t.to ≤ h.given
given_to D E c m g h ls p d actors seat both t at is =
    let F : CheckpointerPageFits E c m g.log h ls d seat t = both.paged.each seat (actor.Checkpointer t) at in
    let o : CheckpointerPagesAt E c m g.log h ls d seat t checkpointer_step.Checkpoint = subst (CheckpointerPagesAt E c m g.log h ls d seat t) is F.step in
    let bound = o.1 in omega arith

-- where the log device told before the turn what it means, and does so after it
module _ (D : LogSide) (L : LogLaws D) (E : DataSide) (EL : DataLaws E) (c : Setup) (m : SharedWords)
    (g : LogGhost) (h : PageGhost) (ls : ℕ → List Listed) (p : D.Part) (d : E.Part) (actors : List Actor) (seat : ℕ)
    (both : BothHalves D E c m g h ls p d actors) (code : ℕ) (q : D.Part)
    (told : D.Tells q) (before : D.Tells p) where
  tiles : Tiles c.base g.log m.sn
  tiles = both.logged.global.tiled.tiles

  all : AreTexts g.log
  all = texts_of_log D E c m g h ls p d actors both

  -- no checkpoint is above a reader's place
  asked_under : (a : Actor) → get_elem? actors seat ≡ some a → LogServed D p (lent a) (next a) code q → (i : ℕ) → c.first_reader ≤ i → i < c.last_reader → D.asked q ≤ slice_index m.places i
  asked_under a at w i low high = asked_bound D L E EL c m g h ls p d actors seat both code q
      (slice_index m.places i) ((both.reading before).asked i low high)
      (λ t there is. let T : CandidateFits c m g.log t = (both.reading before).each seat (actor.Checkpointer t) there in
      let under : CandidateAt c m g.log t checkpointer_step.Checkpoint = subst (CandidateAt c m g.log t) is T.step in under i low high) a at w

  -- the actor at the seat moves
  assembled : (m' : SharedWords) (log' : List Entry) (b : Actor) → LogGrows g.log log' m.sn → m.flushed ≤ m'.flushed → ((i : ℕ) → slice_index m.places i ≤ slice_index m'.places i) → ((i : ℕ) → c.reader_at i ≢ seat → slice_index m'.places i ≡ slice_index m.places i)
      → ((i : ℕ) → c.first_reader ≤ i → i < c.last_reader → D.asked q ≤ slice_index m.places i) → ReadFits c m' log' seat b → ReadHalf D c m' log' q (set actors seat b)
  assembled m' log' b grows flushed up same under mine = record {
    asked = λ i low high. let a = under i low high in let z = up i in omega arith;
    each = λ j x e. ⊎_elim (λ t. subst (λ (z : ℕ × Actor). ReadFits c m' log' z.0 z.1) (λ i. (sym t.0 i, t.1 i)) mine)
        (λ t. others_read c m m' g.log log' m.sn tiles flushed grows seat up same j t.0 x
        ((both.reading before).each j x t.1)) (at_set actors seat j b x e);
  }

  quiet : (m' : SharedWords) (log' : List Entry) (b : Actor) → LogGrows g.log log' m.sn → SameReads m m' → ((i : ℕ) → c.first_reader ≤ i → i < c.last_reader → D.asked q ≤ slice_index m.places i) → ReadFits c m' log' seat b → ReadHalf D c m' log' q (set actors seat b)
  quiet m' log' b grows same under mine = assembled m' log' b grows (let z = same.1 in omega arith) (λ i. let z = ap (λ (l : List ℕ). slice_index l i) same.0 in omega arith) (λ i _. ap (λ (l : List ℕ). slice_index l i) same.0) under mine

  -- A USER
  pub reserved : (u : UserState) → get_elem? actors seat ≡ some (actor.User u) → (b : Bool) → u.checks ≡ b
      → LogGrows g.log (cond b g.log (phase_log g.log m.sn u u.step)) m.sn
  reserved u at true checks = same_log g.log m.sn
  reserved u at false checks = by u.step U.step
    where
      U : marks.UserFits D c m g p seat u
      U = both.logged.each seat (actor.User u) at

      by : (f : UserStep) → marks.UserAt D c m g p seat u f → LogGrows g.log (phase_log g.log m.sn u f) m.sn
      by user_step.Reserve k = record { how = inr (entry u.user u.k m.sn (line u), refl, refl, (U.sound u.k k.1).0) }
      by user_step.LoadCheckpoint k = same_log g.log m.sn
      by _ k = same_log g.log m.sn

  -- A READER
  module _ (r : ReaderState) (at : get_elem? actors seat ≡ some (actor.Reader r)) where
    R : ReaderHas c m g.log seat r
    R = (both.reading before).each seat (actor.Reader r) at

    under_it : D.asked p ≤ slice_index m.places r.number
    under_it = (both.reading before).asked r.number R.first R.last

    -- the words change, and its own is as it was
    carried : (m' : SharedWords) (w : ReaderState) → SameReads m m' → ReaderHas c m g.log seat w → ReaderHas c m' g.log seat w
    carried m' w same W = reader_later c m m' g.log g.log m.sn tiles (let z = same.1 in omega arith) (same_log g.log m.sn) seat w W (W.word ∙ sym (ap (λ (l : List ℕ). slice_index l w.number) same.0))

    plain : (code : ℕ) (checks : Bool) (st : ReaderStep) → ((x : ReaderState) → ArchiverAt c m g.log x st) → ((x : ReaderState) → FollowerAt c m g.log x st) → ReaderHas c m g.log seat (record r { code = code; checks = checks; step = st })
    plain code checks st one two = reader_goes c m g.log r r.mark r.block r.texts code checks st seat R (λ _ _. one (record r { code = code; checks = checks; step = st })) (λ _ _. two (record r { code = code; checks = checks; step = st }))

    -- it waits for the log part, or has it
    waits_on : (checks : Bool) → r.step ≡ reader_step.TakeDevice → ReaderHas c m g.log seat (record r { checks = checks; step = reader_step.TakeDevice })
    waits_on checks is = reader_goes c m g.log r r.mark r.block r.texts r.code checks reader_step.TakeDevice seat R (λ _ A. subst (ArchiverAt c m g.log r) is A.step) (λ _ F. again (subst (FollowerAt c m g.log r) is F.step))
      where
        again : HasMore c m g.log r → HasMore c m g.log (record r { checks = checks; step = reader_step.TakeDevice })
        again h = record { to = h.to; mark = h.mark; flushed = h.flushed; more = h.more }

    takes_broken : r.step ≡ reader_step.TakeDevice → ReaderHas c m g.log seat (record r { checks = false; step = reader_step.GiveBroken })
    takes_broken is = reader_goes c m g.log r r.mark r.block r.texts r.code false reader_step.GiveBroken seat R (λ _ A. subst (ArchiverAt c m g.log r) is A.step) (λ _ F. again (subst (FollowerAt c m g.log r) is F.step))
      where
        again : HasMore c m g.log r → HasMore c m g.log (record r { checks = false; step = reader_step.GiveBroken })
        again h = record { to = h.to; mark = h.mark; flushed = h.flushed; more = h.more }

    takes_sound : r.step ≡ reader_step.TakeDevice → ReaderHas c m g.log seat (record r { checks = false; step = reader_step.ReadBlock })
    takes_sound is = reader_goes c m g.log r r.mark r.block r.texts r.code false reader_step.ReadBlock seat R (λ _ A. subst (ArchiverAt c m g.log r) is A.step) (λ _ F. again (subst (FollowerAt c m g.log r) is F.step))
      where
        again : HasMore c m g.log r → HasMore c m g.log (record r { checks = false; step = reader_step.ReadBlock })
        again h = record { to = h.to; mark = h.mark; flushed = h.flushed; more = h.more }

    broken_back : r.step ≡ reader_step.GiveBroken → ReaderHas c m g.log seat (record r { checks = true; step = reader_step.TakeDevice })
    broken_back is = reader_goes c m g.log r r.mark r.block r.texts r.code true reader_step.TakeDevice seat R (λ _ A. subst (ArchiverAt c m g.log r) is A.step) (λ _ F. again (subst (FollowerAt c m g.log r) is F.step))
      where
        again : HasMore c m g.log r → HasMore c m g.log (record r { checks = true; step = reader_step.TakeDevice })
        again h = record { to = h.to; mark = h.mark; flushed = h.flushed; more = h.more }

    -- its read is answered
    has_read : (b : Bool) → eqb code 0 ≡ b → r.step ≡ reader_step.ReadBlock → marks.ReaderAt D c m g p r reader_step.ReadBlock → D.Read (next_block r) r.block code p q
        → ReaderHas c m g.log seat (reader_took r (cond b (answer.Called 0) (answer.Failed code)) reader_step.ReadBlock)
    has_read false e is sound w = plain code r.checks reader_step.StoreFailed (λ _. tt) (λ _. tt)
    has_read true e is sound w =
        let P = both.logged.global.part in let O = both.logged.global.order in
        let ready = can_read D c m g.log m.sn p tiles O.base_even P.stable P.stable_is P.flushed_stable P.ckpt_asked all
        seat r R under_it is sound in
        let block : HasBlock D c.blocks c.base g.log P.stable (next_block r) r.block =
        L.gets c.blocks c.base g.log (next_block r) r.block p q P.holds ready
        (subst (λ (n : ℕ). D.Read (next_block r) r.block n p q) (eqb-true code 0 e) w) told P.stable P.stable_is in
        reader_goes c m g.log r r.mark r.block r.texts 0 r.checks reader_step.GiveDevice seat R (λ _ A. subst (ArchiverAt c m g.log r) is A.step)
        (λ kind F. let H : HasMore c m g.log r = subst (FollowerAt c m g.log r) is F.step in (
          record { to = H.to; mark = H.mark; flushed = H.flushed; more = H.more },
          reads_piece D c m g.log m.sn p tiles O.base_even P.stable P.stable_is P.flushed_stable P.ckpt_asked all
              seat r R under_it F H kind block,
        ))

    reader_mine : (f : ReaderStep) → r.step ≡ f → marks.ReaderAt D c m g p r f → ReaderIsFilled r f → LogServed D p (Room r.block) (reader_op r f) code q
        → ReaderHas c (shared_left m (reader_op r f)) g.log seat (reader_took r (shared_answer ls (D.failed p) code (D.stable q) m (reader_op r f)) f)
    reader_mine reader_step.LoadFlushed is k full w = let O = both.logged.global.order in reads_flushed c m g.log m.sn tiles all seat r R g.flushed O.flushed_is O.flushed_bound
    reader_mine reader_step.TakeDevice is k full w = by (eqb m.device 0) (D.failed p)
      where
        by : (b d : Bool) → ReaderHas c (cond b (record m { device = 1 }) m) g.log seat (reader_took r (cond b (cond d answer.Broken (answer.Taken None)) answer.Held) reader_step.TakeDevice)
        by true true = carried (record m { device = 1 }) _ (refl, refl) (takes_broken is)
        by true false = carried (record m { device = 1 }) _ (refl, refl) (takes_sound is)
        by false d = waits_on true is
    reader_mine reader_step.GiveBroken is k full w = carried (record m { device = 0 }) _ (refl, refl) (broken_back is)
    reader_mine reader_step.ReadBlock is k full w = has_read (eqb code 0) refl is k w
    reader_mine reader_step.GiveDevice is k full w = carried (record m { device = 0 }) _ (refl, refl) (reads_block c m g.log m.sn tiles all seat r R is full)
    reader_mine reader_step.StorePlace is k full w = stores_place c m g.log seat r R (let few = R.last in let top = both.script.few_readers in let long = both.logged.sized.places in omega arith)
    reader_mine reader_step.StoreFailed is k full w = carried (record m { failed = r.code }) _ (refl, refl) (plain r.code r.checks reader_step.GiveFailed (λ _. tt) (λ _. tt))
    reader_mine reader_step.Append is k full w = appends c m g.log seat r R kind is code (eqb code 0)
      where
        I : ReadsInRun c r
        I = both.in_run seat (actor.Reader r) at

        kind : archives r ≡ true
        kind = let lost : LostAt r reader_step.Append = subst (LostAt r) is I.lost in lost.0
    reader_mine reader_step.StoreLost is k full w = carried (record m { failed = r.lost }) _ (refl, refl) (plain r.code r.checks reader_step.Failed (λ _. tt) (λ _. tt))
    reader_mine reader_step.GiveFailed is k full w = carried (record m { device = 0 }) _ (refl, refl) (plain r.code r.checks reader_step.Failed (λ _. tt) (λ _. tt))
    reader_mine reader_step.Failed is k full w = R

    reader_kept : (f : ReaderStep) → r.step ≡ f → marks.ReaderAt D c m g p r f → ReaderIsFilled r f → LogServed D p (Room r.block) (reader_op r f) code q → ((i : ℕ) → c.first_reader ≤ i → i < c.last_reader → D.asked q ≤ slice_index m.places i)
        → ReadHalf D c (shared_left m (reader_op r f)) g.log q (set actors seat (actor.Reader (reader_took r (shared_answer ls (D.failed p) code (D.stable q) m (reader_op r f)) f)))
    reader_kept reader_step.StorePlace is k full w under =
        assembled (record m { places = slice_set m.places r.number r.place }) g.log (actor.Reader (record r { own = r.place; step = reader_step.LoadFlushed })) (same_log g.log m.sn) (omega arith)
        rises (λ i ne. get_or-set_other m.places r.number i r.place 0 (λ e. ne (ap c.reader_at e ∙ sym R.alone))) under (reader_mine reader_step.StorePlace is k full w)
      where
        long : r.number < length m.places
        long = let few = R.last in let top = both.script.few_readers in let z = both.logged.sized.places in omega arith

        rises : (i : ℕ) → slice_index m.places i ≤ slice_index (slice_set m.places r.number r.place) i
        rises i = elim (ℕ_discrete i r.number) [
          | yes e ↦ (let a : slice_index (slice_set m.places r.number r.place) i ≡ r.place = ap (slice_index (slice_set m.places r.number r.place)) e ∙ get_or-set_same m.places r.number r.place 0 long in
              let b : slice_index m.places i ≡ r.own = ap (slice_index m.places) e ∙ sym R.word in
              let up = R.up in omega arith)
          | no n ↦ (let a : slice_index (slice_set m.places r.number r.place) i ≡ slice_index m.places i = get_or-set_other m.places r.number i r.place 0 n in omega arith)
        ]
    reader_kept reader_step.LoadFlushed is k full w under = quiet m g.log _ (same_log g.log m.sn) (refl, refl) under (reader_mine reader_step.LoadFlushed is k full w)
    reader_kept reader_step.TakeDevice is k full w under = quiet (cond (eqb m.device 0) (record m { device = 1 }) m) g.log _ (same_log g.log m.sn) (either_words m (record m { device = 1 }) m (eqb m.device 0) (refl, refl) (refl, refl)) under (reader_mine reader_step.TakeDevice is k full w)
    reader_kept reader_step.GiveBroken is k full w under = quiet (record m { device = 0 }) g.log _ (same_log g.log m.sn) (refl, refl) under (reader_mine reader_step.GiveBroken is k full w)
    reader_kept reader_step.ReadBlock is k full w under = quiet m g.log _ (same_log g.log m.sn) (refl, refl) under (reader_mine reader_step.ReadBlock is k full w)
    reader_kept reader_step.GiveDevice is k full w under = quiet (record m { device = 0 }) g.log _ (same_log g.log m.sn) (refl, refl) under (reader_mine reader_step.GiveDevice is k full w)
    reader_kept reader_step.StoreFailed is k full w under = quiet (record m { failed = r.code }) g.log _ (same_log g.log m.sn) (refl, refl) under (reader_mine reader_step.StoreFailed is k full w)
    reader_kept reader_step.Append is k full w under = quiet m g.log _ (same_log g.log m.sn) (refl, refl) under (reader_mine reader_step.Append is k full w)
    reader_kept reader_step.StoreLost is k full w under = quiet (record m { failed = r.lost }) g.log _ (same_log g.log m.sn) (refl, refl) under (reader_mine reader_step.StoreLost is k full w)
    reader_kept reader_step.GiveFailed is k full w under = quiet (record m { device = 0 }) g.log _ (same_log g.log m.sn) (refl, refl) under (reader_mine reader_step.GiveFailed is k full w)
    reader_kept reader_step.Failed is k full w under = quiet m g.log _ (same_log g.log m.sn) (refl, refl) under (reader_mine reader_step.Failed is k full w)

    reader_hears : (b : Bool) → ReaderHas c m g.log seat (cond b (record r { checks = false }) (record r { checks = false; code = m.failed; step = reader_step.Failed }))
    reader_hears true = reader_goes c m g.log r r.mark r.block r.texts r.code false r.step seat R (λ _ A. stays_at r.step A.step) (λ _ F. follower_stays r.step F.step)
      where
        stays_at : (st : ReaderStep) → ArchiverAt c m g.log r st → ArchiverAt c m g.log (record r { checks = false }) st
        stays_at reader_step.TakeDevice k = k
        stays_at reader_step.GiveBroken k = k
        stays_at reader_step.ReadBlock k = k
        stays_at reader_step.GiveDevice k = k
        stays_at reader_step.Append k = k
        stays_at reader_step.StoreLost k = tt
        stays_at reader_step.LoadFlushed k = tt
        stays_at reader_step.StorePlace k = tt
        stays_at reader_step.StoreFailed k = tt
        stays_at reader_step.GiveFailed k = tt
        stays_at reader_step.Failed k = tt

        again : HasMore c m g.log r → HasMore c m g.log (record r { checks = false })
        again h = record { to = h.to; mark = h.mark; flushed = h.flushed; more = h.more }

        follower_stays : (st : ReaderStep) → FollowerAt c m g.log r st → FollowerAt c m g.log (record r { checks = false }) st
        follower_stays reader_step.TakeDevice k = again k
        follower_stays reader_step.GiveBroken k = again k
        follower_stays reader_step.ReadBlock k = again k
        follower_stays reader_step.GiveDevice k = (again k.0, k.1)
        follower_stays reader_step.LoadFlushed k = tt
        follower_stays reader_step.StorePlace k = tt
        follower_stays reader_step.StoreFailed k = tt
        follower_stays reader_step.Append k = tt
        follower_stays reader_step.StoreLost k = tt
        follower_stays reader_step.GiveFailed k = tt
        follower_stays reader_step.Failed k = tt
    reader_hears false = reader_goes c m g.log r r.mark r.block r.texts m.failed false reader_step.Failed seat R (λ _ _. tt) (λ _ _. tt)

    reader_any : (b : Bool) → r.checks ≡ b → ReaderIsFilled r r.step → LogServed D p (Room r.block) (cond b (op.Load word.Failed) (reader_op r r.step)) code q → ((i : ℕ) → c.first_reader ≤ i → i < c.last_reader → D.asked q ≤ slice_index m.places i)
        → ReadHalf D c (shared_left m (cond b (op.Load word.Failed) (reader_op r r.step))) g.log q
        (set actors seat (cond b (checked (actor.Reader r) (old_of (shared_answer ls (D.failed p) code (D.stable q) m (cond b (op.Load word.Failed) (reader_op r r.step))))) (own_took (actor.Reader r) (shared_answer ls (D.failed p) code (D.stable q) m (cond b (op.Load word.Failed) (reader_op r r.step))))))
    reader_any true checks full w under = quiet m g.log _ (same_log g.log m.sn) (refl, refl) under (reader_hears (eqb m.failed 0))
    reader_any false checks full w under = let N : marks.ReaderFits D c m g p seat r = both.logged.each seat (actor.Reader r) at in reader_kept r.step refl N.step full w under

  -- THE CHECKPOINTER
  module _ (t : CheckpointerState) (at : get_elem? actors seat ≡ some (actor.Checkpointer t)) where
    T : CandidateFits c m g.log t
    T = (both.reading before).each seat (actor.Checkpointer t) at

    held_so : (m' : SharedWords) (w : CheckpointerState) → SameReads m m' → CandidateFits c m g.log w → CandidateFits c m' g.log w
    held_so m' w same W = candidate_later c m m' g.log g.log m.sn tiles (let z = same.1 in omega arith) (same_log g.log m.sn) w (λ i. let z = ap (λ (l : List ℕ). slice_index l i) same.0 in omega arith) W

    checkpointer_mine : (f : CheckpointerStep) → t.step ≡ f → CandidateAt c m g.log t f
        → CandidateFits c (shared_left m (checkpointer_op t f)) g.log (checkpointer_took t (shared_answer ls (D.failed p) code (D.stable q) m (checkpointer_op t f)) f)
    checkpointer_mine checkpointer_step.LoadCtail is k = begins c m g.log both.script.readers t T (tail_of (tail_word m.ctail m.cheld))
    checkpointer_mine checkpointer_step.LoadPlace is k = loads_place c m g.log both.script.readers t T is
    checkpointer_mine checkpointer_step.ReadList is k = by (eqb (slice_index m.lists t.list) 0)
      where
        less : (x : Option ℕ) → lowered t.to x ≤ t.to
        less None = omega arith
        less (Some a) = omega arith

        by : (b : Bool) → CandidateFits c (cond b (record m { lists = slice_set m.lists t.list 1 }) m) g.log (checkpointer_took t (cond b (answer.Taken (oldest_end (ls t.list))) answer.Held) checkpointer_step.ReadList)
        by true = held_so (record m { lists = slice_set m.lists t.list 1 }) _ (refl, refl) (record { first = T.first; last = T.last; step = lower c m g.log both.script.readers t T t.to (lowered t.to (oldest_end (ls t.list))) c.last_reader (less (oldest_end (ls t.list))) k })
        by false = record { first = T.first; last = T.last; step = k }
    checkpointer_mine checkpointer_step.GiveList is k = held_so (record m { lists = slice_set m.lists t.list 0 }) _ (refl, refl) (by (eqb (t.list + 1) 4))
      where
        by : (b : Bool) → CandidateFits c m g.log (record t { list = t.list + 1; step = cond b checkpointer_step.LoadFlushed checkpointer_step.ReadList })
        by true = record { first = T.first; last = T.last; step = k }
        by false = record { first = T.first; last = T.last; step = k }
    checkpointer_mine checkpointer_step.LoadFlushed is k = by (is_above t m.flushed)
      where
        by : (b : Bool) → CandidateFits c m g.log (cond b (record t { flushed = m.flushed; to = floor (min t.to m.flushed); step = checkpointer_step.TakeDevice }) (record t { flushed = m.flushed; checks = true; step = checkpointer_step.LoadCtail }))
        by true = record { first = T.first; last = T.last; step = lower c m g.log both.script.readers t T t.to (floor (min t.to m.flushed)) c.last_reader (omega arith) k }
        by false = record { first = T.first; last = T.last; step = tt }
    checkpointer_mine checkpointer_step.TakeDevice is k = by (eqb m.device 0) (D.failed p)
      where
        by : (b d : Bool) → CandidateFits c (cond b (record m { device = 1 }) m) g.log (checkpointer_took t (cond b (cond d answer.Broken (answer.Taken None)) answer.Held) checkpointer_step.TakeDevice)
        by true true = held_so (record m { device = 1 }) _ (refl, refl) (record { first = T.first; last = T.last; step = k })
        by true false = held_so (record m { device = 1 }) _ (refl, refl) (record { first = T.first; last = T.last; step = k })
        by false d = record { first = T.first; last = T.last; step = k }
    checkpointer_mine checkpointer_step.GiveBroken is k = held_so (record m { device = 0 }) _ (refl, refl) (record { first = T.first; last = T.last; step = k })
    checkpointer_mine checkpointer_step.Checkpoint is k = by (eqb code 0)
      where
        by : (b : Bool) → CandidateFits c m g.log (checkpointer_took t (cond b (answer.Called 0) (answer.Failed code)) checkpointer_step.Checkpoint)
        by true = record { first = T.first; last = T.last; step = tt }
        by false = record { first = T.first; last = T.last; step = tt }
    checkpointer_mine checkpointer_step.StoreCheckpoint is k = held_so (record m { ckpt = t.to }) _ (refl, refl) (record { first = T.first; last = T.last; step = tt })
    checkpointer_mine checkpointer_step.GiveDevice is k = held_so (record m { device = 0 }) _ (refl, refl) (record { first = T.first; last = T.last; step = tt })
    checkpointer_mine checkpointer_step.StoreFailed is k = held_so (record m { failed = t.code }) _ (refl, refl) (record { first = T.first; last = T.last; step = tt })
    checkpointer_mine checkpointer_step.GiveFailed is k = held_so (record m { device = 0 }) _ (refl, refl) (record { first = T.first; last = T.last; step = tt })
    checkpointer_mine checkpointer_step.Failed is k = T

    heard_code : (b : Bool) → CandidateFits c m g.log (cond b (record t { checks = false }) (record t { checks = false; code = m.failed; step = checkpointer_step.Failed }))
    heard_code true = record { first = T.first; last = T.last; step = stays_at t.step T.step }
      where
        stays_at : (st : CheckpointerStep) → CandidateAt c m g.log t st → CandidateAt c m g.log (record t { checks = false }) st
        stays_at checkpointer_step.LoadPlace k = k
        stays_at checkpointer_step.ReadList k = k
        stays_at checkpointer_step.GiveList k = k
        stays_at checkpointer_step.LoadFlushed k = k
        stays_at checkpointer_step.TakeDevice k = k
        stays_at checkpointer_step.GiveBroken k = k
        stays_at checkpointer_step.Checkpoint k = k
        stays_at _ k = tt
    heard_code false = record { first = T.first; last = T.last; step = tt }

    checkpointer_any : (b : Bool) → ReadFits c (shared_left m (cond b (op.Load word.Failed) (checkpointer_op t t.step))) g.log seat
        (cond b (checked (actor.Checkpointer t) (old_of (shared_answer ls (D.failed p) code (D.stable q) m (cond b (op.Load word.Failed) (checkpointer_op t t.step))))) (own_took (actor.Checkpointer t) (shared_answer ls (D.failed p) code (D.stable q) m (cond b (op.Load word.Failed) (checkpointer_op t t.step)))))
    checkpointer_any true = heard_code (eqb m.failed 0)
    checkpointer_any false = checkpointer_mine t.step refl T.step

  -- A FLUSHER raises FLUSHED
  flusher_kept : (t : FlusherState) → get_elem? actors seat ≡ some (actor.Flusher t) → (b : Actor) → ReadFits c m g.log seat b → (f : FlusherStep) → marks.FlusherAt D c m g p t f → ((i : ℕ) → c.first_reader ≤ i → i < c.last_reader → D.asked q ≤ slice_index m.places i)
      → ((m' : SharedWords) → ReadFits c m' g.log seat b) → ReadHalf D c (shared_left m (flusher_op t f)) g.log q (set actors seat b)
  flusher_kept t at b fit flusher_step.StoreFlushed k under mine = assembled (record m { flushed = t.mark }) g.log b (same_log g.log m.sn) (let z = both.logged.global.part.flushed_stable in omega arith) (λ i. omega arith) (λ i _. refl) under (mine _)
  flusher_kept t at b fit flusher_step.TakeDevice k under mine = quiet (cond (eqb m.device 0) (record m { device = 1 }) m) g.log b (same_log g.log m.sn) (either_words m (record m { device = 1 }) m (eqb m.device 0) (refl, refl) (refl, refl)) under (mine _)
  flusher_kept t at b fit flusher_step.LoadWrite k under mine = quiet m g.log b (same_log g.log m.sn) (refl, refl) under (mine _)
  flusher_kept t at b fit flusher_step.GiveBroken k under mine = quiet (record m { device = 0 }) g.log b (same_log g.log m.sn) (refl, refl) under (mine _)
  flusher_kept t at b fit flusher_step.Sync k under mine = quiet m g.log b (same_log g.log m.sn) (refl, refl) under (mine _)
  flusher_kept t at b fit flusher_step.GiveDevice k under mine = quiet (record m { device = 0 }) g.log b (same_log g.log m.sn) (refl, refl) under (mine _)
  flusher_kept t at b fit flusher_step.StoreFailed k under mine = quiet (record m { failed = t.code }) g.log b (same_log g.log m.sn) (refl, refl) under (mine _)
  flusher_kept t at b fit flusher_step.GiveFailed k under mine = quiet (record m { device = 0 }) g.log b (same_log g.log m.sn) (refl, refl) under (mine _)
  flusher_kept t at b fit flusher_step.Failed k under mine = quiet m g.log b (same_log g.log m.sn) (refl, refl) under (mine _)

  flusher_any : (t : FlusherState) → get_elem? actors seat ≡ some (actor.Flusher t) → (b : Bool) (x y : FlusherState) → ((i : ℕ) → c.first_reader ≤ i → i < c.last_reader → D.asked q ≤ slice_index m.places i)
      → ReadHalf D c (shared_left m (cond b (op.Load word.Failed) (flusher_op t t.step))) g.log q (set actors seat (cond b (actor.Flusher x) (actor.Flusher y)))
  flusher_any t at true x y under = quiet m g.log (actor.Flusher x) (same_log g.log m.sn) (refl, refl) under tt
  flusher_any t at false x y under = let N : marks.FlusherFits D c m g p seat t = both.logged.each seat (actor.Flusher t) at in flusher_kept t at (actor.Flusher y) tt t.step N.step under (λ _. tt)

  -- whatever the actor's next Op is
  pub read_kept : (a : Actor) → get_elem? actors seat ≡ some a → IsFilled a → LogServed D p (lent a) (next a) code q
      → ReadHalf D c (shared_left m (next a)) (log_left g.log m.sn a) q (set actors seat (took a (shared_answer ls (D.failed p) code (D.stable q) m (next a))))
  read_kept (actor.User u) at full w = quiet _ _ _ (reserved u at u.checks refl) (left_reads m (cond u.checks (op.Load word.Failed) (user_op u u.step)) (asks u.checks (user_op u u.step) (user_leaves u u.step))) (asked_under (actor.User u) at w)
      (fits_either c _ _ seat u.checks _ _ tt tt)
  read_kept (actor.Writer s) at full w = quiet _ _ _ (same_log g.log m.sn) (left_reads m (cond s.checks (op.Load word.Failed) (writer_op s s.step)) (asks s.checks (writer_op s s.step) (writer_leaves s s.step))) (asked_under (actor.Writer s) at w)
      (fits_either c _ _ seat s.checks _ _ tt tt)
  read_kept (actor.Flusher t) at full w = flusher_any t at t.checks _ _ (asked_under (actor.Flusher t) at w)
  read_kept (actor.Closer t) at full w = quiet _ _ _ (same_log g.log m.sn) (left_reads m (cond t.checks (op.Load word.Failed) (closer_op t t.step)) (asks t.checks (closer_op t t.step) (closer_leaves t t.step))) (asked_under (actor.Closer t) at w)
      (fits_either c _ _ seat t.checks _ _ tt tt)
  read_kept (actor.Cleaner v) at full w = quiet _ _ _ (same_log g.log m.sn) (left_reads m (cond v.checks (op.Load word.Failed) (cleaner_op v v.step)) (asks v.checks (cleaner_op v v.step) (cleaner_leaves v v.step))) (asked_under (actor.Cleaner v) at w)
      (fits_either c _ _ seat v.checks _ _ tt tt)
  read_kept (actor.Checkpointer t) at full w = quiet _ _ _ (same_log g.log m.sn) (left_reads m (cond t.checks (op.Load word.Failed) (checkpointer_op t t.step)) (asks t.checks (checkpointer_op t t.step) (checkpointer_leaves t t.step))) (asked_under (actor.Checkpointer t) at w)
      (checkpointer_any t at t.checks)
  read_kept (actor.Reader r) at full w = reader_any r at r.checks refl full w (asked_under (actor.Reader r) at w)
