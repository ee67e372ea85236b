-- The block that the archiver has read is the run's, and stays that while the log grows.
use Rattle.std.proofs.Common.{Bool, List, [], None, ap, arith, cond, eqb, eqb-true, false, refl, set, subst, sym, true, ℕ, ⊎_elim, ◌++◌, ◌==◌, ◌∙◌, ◌∷◌, ◌≡◌}
use Rattle.std.proofs.lemmas.List.{append_assoc, append-nil}
use lib.ListN.{get_elem?}
use mathlib.Core.Option.{some}
use Rattle.model_core.proofs.Lists.{at_set}
use Rattle.model_core.proofs.Lsns.{floor_grows, lsn_offset}
use Rattle.model_core.specs.{Actor, after_of, archives, Entry, floor, followed, has_all, lent, Listed, log_left, LogServed, lsn, next, next_block, old_of, read_to, reader_op, reader_program, reader_took, ReaderState, Room, shared_answer, SharedWords, to_append, took, DataSide, LogSide, Setup}
use Rattle.model_core.specs.declared.ops.Answer.{Answer}
use Rattle.model_core.specs.declared.ops.Answer.TheVariants as answer
use Rattle.model_core.specs.declared.ops.Op.TheVariants as op
use Rattle.model_core.specs.declared.steps.ReaderStep.{ReaderStep}
use Rattle.model_core.specs.declared.steps.ReaderStep.TheVariants as reader_step
use Rattle.model_core.specs.declared.words.Word.TheVariants as word
use Rattle.model_core.specs.States as actor
use Rattle.model_logcore.specs.{LogGhost}
use Rattle.model_logcore.specs.LogLaws.{LogLaws}
use Rattle.model_logcore.specs.LogFits as marks
use Rattle.model_pagecore.specs.{PageGhost}
use Rattle.model_pagecore.specs.DataLaws.{DataLaws}
use Rattle.model_running.proofs.Archiving.{number_stays, reader_is, stays_other, took_reader}
use Rattle.model_running.proofs.ReadKeeps.{can_read, LogGrows}
use Rattle.model_running.proofs.ReadStays.{reserved, same_log, texts_of_log}
use Rattle.model_running.specs.ReadHalf.{ArchiverAt, ArchiverHas, HasByKind, HasRunBlock, HaveRunBlocks, ReaderHas, RunBlockAt}
use Rattle.model_running.specs.Watermarks.{BothHalves}

-- a reader's block is as it was, and the log may have grown
module _ (D : LogSide) (c : Setup) (log log' : List Entry) (sn : ℕ) (grows : LogGrows log log' sn) where
  has_later : (r w : ReaderState) → w.place ≡ r.place → w.block ≡ r.block → HasRunBlock D c log r
      → HasRunBlock D c log' w
  has_later r w place block k =
      let same : D.IsRunBlock c.base k.early w.place w.block =
      subst (λ (b : List ℕ). D.IsRunBlock c.base k.early w.place b) (sym block)
      (subst (λ (x : ℕ). D.IsRunBlock c.base k.early x r.block) (sym place) k.block) in
      ⊎_elim (λ is. record { early = k.early; late = k.late; grown = is ∙ k.grown; block = same })
      (λ more. record {
        early = k.early;
        late = k.late ++ more.0 ∷ [];
        grown = more.1 ∙ ap (λ (l : List Entry). l ++ more.0 ∷ []) k.grown
            ∙ append_assoc k.early k.late (more.0 ∷ []);
        block = same;
      }) grows.how

  at_later : (r w : ReaderState) → w.place ≡ r.place → w.block ≡ r.block → (st : ReaderStep) → RunBlockAt D c log r st
      → RunBlockAt D c log' w st
  at_later r w place block reader_step.GiveDevice k = has_later r w place block k
  at_later r w place block reader_step.Append k = has_later r w place block k
  at_later r w place block _ k = tt

module _ (D : LogSide) (L : LogLaws D) (E : DataSide) (EL : DataLaws E) (c : Setup) (m : SharedWords)
    (g : LogGhost) (h : PageGhost) (ls : ℕ → List Listed) (p : D.Part) (d : E.Part) (actors : List Actor) (seat : ℕ)
    (both : BothHalves D E c m g h ls p d actors) (code : ℕ) (q : D.Part)
    (told : D.Tells q) (before : D.Tells p) where
  -- the log that an actor's Op leaves
  pub grown : (a : Actor) → get_elem? actors seat ≡ some a → LogGrows g.log (log_left g.log m.sn a) m.sn
  grown (actor.User u) at =
      reserved D L E EL c m g h ls p d actors seat both code q told before u at u.checks refl
  grown (actor.Writer s) at = same_log g.log m.sn
  grown (actor.Flusher s) at = same_log g.log m.sn
  grown (actor.Closer s) at = same_log g.log m.sn
  grown (actor.Cleaner s) at = same_log g.log m.sn
  grown (actor.Checkpointer s) at = same_log g.log m.sn
  grown (actor.Reader s) at = same_log g.log m.sn

  -- THE READER WHOSE TURN IT IS
  module _ (r : ReaderState) (at : get_elem? actors seat ≡ some (actor.Reader r)) where
    R : ReaderHas c m g.log seat r
    R = (both.reading before).each seat (actor.Reader r) at

    -- its read is answered Ok: the block ends at or below the stable mark
    reads : archives r ≡ true → r.step ≡ reader_step.ReadBlock → marks.ReaderAt D c m g p r reader_step.ReadBlock
        → D.Read (next_block r) r.block 0 p q → HasRunBlock D c g.log r
    reads kind is sound w =
        let P = both.logged.global.part in let O = both.logged.global.order in
        let A : ArchiverHas c m g.log r = subst (λ (k : Bool). HasByKind c m g.log k r) kind R.has in
        let there : ArchiverAt c m g.log r reader_step.ReadBlock = subst (ArchiverAt c m g.log r) is A.step in
        let mark = there.0 in
        let full = there.1 in
        let grows = floor_grows r.mark m.flushed mark in
        let flushed = O.flushed_is in
        let offset = lsn_offset g.flushed in
        let stable = P.flushed_stable in
        let ready = can_read D c m g.log m.sn p both.logged.global.tiled.tiles O.base_even P.stable P.stable_is
        P.flushed_stable P.ckpt_asked (texts_of_log D E c m g h ls p d actors both)
        seat r R ((both.reading before).asked r.number R.first R.last) is sound in
        let here : next_block r ≡ r.place = ap (λ (k : Bool). cond k r.place (floor (lsn (read_to r)))) kind in
        record {
          early = g.log;
          late = [];
          grown = sym (append-nil g.log);
          block = subst (λ (x : ℕ). D.IsRunBlock c.base g.log x r.block) here
              (L.runs c.blocks c.base g.log (next_block r) r.block p q P.holds ready w told (omega arith));
        }

    has_it : archives r ≡ true → RunBlockAt D c g.log r r.step
    has_it kind = both.blocks before seat r at kind

    its : (w : ReaderState) → w.place ≡ r.place → w.block ≡ r.block → HasRunBlock D c g.log r → HasRunBlock D c g.log w
    its w place block k = has_later D c g.log g.log m.sn (same_log g.log m.sn) r w place block k

    abbrev HasNow : ReaderState → Type 0
    HasNow w = RunBlockAt D c g.log w w.step

    own : archives r ≡ true → (st : ReaderStep) → r.step ≡ st → marks.ReaderAt D c m g p r st
        → LogServed D p (Room r.block) (reader_op r st) code q
        → HasNow (reader_took r (shared_answer ls (D.failed p) code (D.stable q) m (reader_op r st)) st)
    own kind reader_step.LoadFlushed is k w = by (has_all r m.flushed)
      where
        by : (b : Bool) → HasNow (cond b (record r { mark = m.flushed; checks = true; step = reader_step.LoadFlushed })
            (record r { mark = m.flushed; step = reader_step.TakeDevice }))
        by true = tt
        by false = tt
    own kind reader_step.TakeDevice is k w = by (eqb m.device 0) (D.failed p)
      where
        by : (b d : Bool) → HasNow (reader_took r (cond b (cond d answer.Broken (answer.Taken None)) answer.Held)
            reader_step.TakeDevice)
        by true true = tt
        by true false = tt
        by false d = tt
    own kind reader_step.GiveBroken is k w = tt
    own kind reader_step.ReadBlock is k w = by (eqb code 0) refl
      where
        by : (b : Bool) → eqb code 0 ≡ b
            → HasNow (reader_took r (cond b (answer.Called 0) (answer.Failed code)) reader_step.ReadBlock)
        by true e = its (reader_took r (answer.Called 0) reader_step.ReadBlock) refl refl (reads kind is k
            (subst (λ (n : ℕ). D.Read (next_block r) r.block n p q) (eqb-true code 0 e) w))
        by false e = tt
    own kind reader_step.GiveDevice is k w = by (archives r) refl
      where
        by : (b : Bool) → archives r ≡ b → HasNow (cond b (to_append r) (followed r))
        by true e = its (to_append r) refl refl (subst (RunBlockAt D c g.log r) is (has_it kind))
        by false e = let z : false ≡ true = sym e ∙ kind in absurd (cc)
    own kind reader_step.Append is k w = by (eqb code 0)
      where
        by : (b : Bool) → HasNow (reader_took r (cond b (answer.Called 0) (answer.Failed code)) reader_step.Append)
        by true = tt
        by false = tt
    own kind reader_step.StorePlace is k w = tt
    own kind reader_step.StoreFailed is k w = tt
    own kind reader_step.GiveFailed is k w = tt
    own kind reader_step.StoreLost is k w = tt
    own kind reader_step.Failed is k w = has_it kind

    its_turn : (b : Bool) → r.checks ≡ b → archives r ≡ true
        → LogServed D p (Room r.block) (cond b (op.Load word.Failed) (reader_op r r.step)) code q
        → let said : Answer =
        shared_answer ls (D.failed p) code (D.stable q) m (cond b (op.Load word.Failed) (reader_op r r.step)) in
        HasNow (cond b (cond (old_of said == 0) (record r { checks = false })
        (record r { checks = false; code = old_of said; step = reader_step.Failed })) (reader_took r said r.step))
    its_turn true is kind w = by (m.failed == 0)
      where
        by : (b : Bool) → HasNow (cond b (record r { checks = false })
            (record r { checks = false; code = m.failed; step = reader_step.Failed }))
        by true = at_later D c g.log g.log m.sn (same_log g.log m.sn) r (record r { checks = false }) refl refl r.step
            (has_it kind)
        by false = tt
    its_turn false is kind w =
        let N : marks.ReaderFits D c m g p seat r = both.logged.each seat (actor.Reader r) at in
        own kind r.step refl N.step w

  abbrev said_to : Actor → Answer
  said_to a = shared_answer ls (D.failed p) code (D.stable q) m (next a)

  -- what the turn leaves a reader at its seat
  left : (a : Actor) → get_elem? actors seat ≡ some a → LogServed D p (lent a) (next a) code q → (r : ReaderState)
      → took a (shared_answer ls (D.failed p) code (D.stable q) m (next a)) ≡ actor.Reader r → archives r ≡ true
      → RunBlockAt D c (log_left g.log m.sn a) r r.step
  left (actor.Reader x) at w r same kind =
      let said : Answer = shared_answer ls (D.failed p) code (D.stable q) m (next (actor.Reader x)) in
      let is : ◌≡◌ {A = ReaderState} (after_of reader_program x said) r =
      reader_is (after_of reader_program x said) r (sym (took_reader x said) ∙ same) in
      let number : x.number ≡ r.number =
      sym (number_stays x said) ∙ ap (λ (z : ReaderState). z.number) is in
      subst (λ (z : ReaderState). RunBlockAt D c g.log z z.step) is
      (its_turn x at x.checks refl (ap (λ n. n == 0) number ∙ kind) w)
  left (actor.User u) at w r same kind = absurd (stays_other (actor.User u) (said_to (actor.User u)) tt r same)
  left (actor.Writer s) at w r same kind = absurd (stays_other (actor.Writer s) (said_to (actor.Writer s)) tt r same)
  left (actor.Flusher s) at w r same kind = absurd (stays_other (actor.Flusher s) (said_to (actor.Flusher s)) tt r same)
  left (actor.Closer s) at w r same kind = absurd (stays_other (actor.Closer s) (said_to (actor.Closer s)) tt r same)
  left (actor.Cleaner s) at w r same kind = absurd (stays_other (actor.Cleaner s) (said_to (actor.Cleaner s)) tt r same)
  left (actor.Checkpointer s) at w r same kind =
      absurd (stays_other (actor.Checkpointer s) (said_to (actor.Checkpointer s)) tt r same)

  -- EACH TURN keeps the archiver's block
  pub blocks_kept : (a : Actor) → get_elem? actors seat ≡ some a → LogServed D p (lent a) (next a) code q
      → HaveRunBlocks D c (log_left g.log m.sn a)
      (set actors seat (took a (shared_answer ls (D.failed p) code (D.stable q) m (next a))))
  blocks_kept a at w j r e kind = ⊎_elim (λ t. left a at w r t.1 kind)
      (λ t. at_later D c g.log (log_left g.log m.sn a) m.sn (grown a at) r r refl refl r.step
      (both.blocks before j r t.1 kind)) (at_set actors seat j _ (actor.Reader r) e)
