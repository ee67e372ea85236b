-- What a turn puts into an actor before its Op is answered leaves a running store.
use Rattle.std.proofs.Common.{List, ap, arith, cond, false, inl, inr, refl, set, subst, sym, true, ℕ, ⊎_elim, ◌%◌, ◌==◌, ◌∙◌, ◌≡◌, ◌≤◌}
use Rattle.model_base.specs.declared.limits.TheConstants.{BLOCK_SIZE}
use lib.ListN.{get_elem?}
use mathlib.Core.Option.{some, some-injective}
use native.Mathlib.Decide.{ℕ_discrete}
use Rattle.model_core.proofs.Lists.{at_set, set_again, set_at, set_else}
use Rattle.model_core.specs.{Actor, archives, ChecksWithoutTail, filled, Filling, Fills, floor, HasHolder, HasLost, holds_tail, LostAt, Listed, lsn, next, reader_holds, reader_op, ReaderState, SharedWords, UserState, DataSide, LogSide, Setup}
use Rattle.model_core.specs.ReaderProgram.{reader_filled, reader_fills}
use Rattle.model_core.specs.declared.ops.Op.{Op}
use Rattle.model_core.specs.declared.ops.Op.TheVariants as op
use Rattle.model_core.specs.declared.steps.ReaderStep.{ReaderStep}
use Rattle.model_core.specs.declared.steps.ReaderStep.TheVariants as reader_step
use Rattle.model_core.specs.declared.words.LinkBuffer.{LinkBuffer}
use Rattle.model_core.specs.declared.words.LinkBuffer.TheVariants as link_buffer
use Rattle.model_core.specs.declared.words.Word.TheVariants as word
use Rattle.model_core.specs.States as actor
use Rattle.model_logcore.proofs.ReaderSteps.{reads_on}
use Rattle.model_logcore.specs.{LogGhost, ReaderFits}
use Rattle.model_logcore.specs.LogFits as marks
use Rattle.model_pagecore.specs.{HasLatch, PageGhost}
use Rattle.model_pagecore.specs.PageHalf.{PageFits}
use Rattle.model_running.proofs.InRun.{lost_same}
use Rattle.model_running.proofs.ReadKeeps.{reader_goes}
use Rattle.model_running.proofs.ReadStays.{IsFilled, ReaderIsFilled}
use Rattle.model_running.specs.ReadHalf.{ArchiverAt, ArchiverHas, FollowerAt, HasMore, HasRunBlock, ReaderHas, ReadFits, ReadsInRun, RunBlockAt, StaysInRun}
use Rattle.model_running.specs.Watermarks.{BothHalves}

module _ (D : LogSide) (E : DataSide) (c : Setup) (m : SharedWords) (g : LogGhost) (h : PageGhost) (ls : ℕ → List Listed) (p : D.Part) (d : E.Part) (actors : List Actor) (seat : ℕ) (both : BothHalves D E c m g h ls p d actors) where
  -- a reader's own state changes
  module _ (r : ReaderState) (at : get_elem? actors seat ≡ some (actor.Reader r)) (w : ReaderState) where
    there : (j : ℕ) (a : Actor) → get_elem? actors j ≡ some a → (a ≡ actor.Reader r → ⊥) → get_elem? (set actors seat (actor.Reader w)) j ≡ some a
    there j a is other = set_else actors seat j (actor.Reader w) (λ e. other (some-injective a (actor.Reader r) (sym is ∙ ap (get_elem? actors) e ∙ at))) ∙ is

    holder_stays : (b : LinkBuffer) → HasHolder b actors → HasHolder b (set actors seat (actor.Reader w))
    holder_stays b held = (held.0, held.1, there held.0 held.1 held.2 (λ e. let z : false ≡ true = sym (no_tail b) ∙ sym (ap (holds_tail b) e) ∙ held.3 in cc), held.3)
      where
        no_tail : (b : LinkBuffer) → holds_tail b (actor.Reader r) ≡ false
        no_tail b = refl

    put_reader : reader_holds w.step ≡ reader_holds r.step → ReaderFits D c m g p seat w
        → (D.Tells p → ReaderHas c m g.log seat w) → w.number ≡ r.number → w.at ≡ r.at → w.place ≡ r.place
        → w.lost ≡ r.lost → LostAt w w.step → (archives w ≡ true → ArchiverHas c m g.log w) → (D.Tells p → archives w ≡ true → RunBlockAt D c g.log w w.step)
        → BothHalves D E c m g h ls p d (set actors seat (actor.Reader w))
    put_reader keep fit has number_is at_is place_is lost_is lost_at still_archives has_block = record {
      script = both.script;
      cause = λ failed. ⊎_elim (λ z. inl z) (⊎_elim (λ z. inr (inl z)) (λ l. inr (inr (still_lost m.failed l)))) (both.cause failed);
      archiver = λ j x e. ⊎_elim (λ t. subst (λ (z : ReaderState). archives z ≡ true → ArchiverHas c m g.log z) (the_reader w x t.1) still_archives)
          (λ t. both.archiver j x t.1) (at_set actors seat j (actor.Reader w) (actor.Reader x) e);
      blocks = λ told j x e. ⊎_elim (λ t. subst (λ (z : ReaderState). archives z ≡ true → RunBlockAt D c g.log z z.step) (the_reader w x t.1) (has_block told))
          (λ t. both.blocks told j x t.1) (at_set actors seat j (actor.Reader w) (actor.Reader x) e);
      logged = reads_on D c m g p actors seat r both.logged at w keep fit (λ held. holder_stays link_buffer.Written (both.logged.advanced held))
          (λ j x e. ⊎_elim (λ t. subst ChecksWithoutTail t.1 (λ _ b. refl)) (λ t. both.logged.without_tail j x t.1) (at_set actors seat j (actor.Reader w) x e));
      asked = both.asked;
      stays = both.stays;
      latches = λ q few held. let k = both.latches q few held in (k.0, there (h.holder q) k.0 k.1 (λ e. no_latch q (subst (λ (x : Actor). HasLatch x q) e k.2)), k.2);
      closed = λ j u is. ⊎_elim (λ t. absurd (not_user u t.1)) (λ t. both.closed j u t.1) (at_set actors seat j (actor.Reader w) (actor.User u) is);
      advanced = λ held. holder_stays link_buffer.Closed (both.advanced held);
      in_run = λ j x e. ⊎_elim (λ t. subst (StaysInRun c) t.1 (record {
        first = (let z = I.first in omega arith);
        few = (let z = I.few in omega arith);
        from = (let z = I.from in omega arith);
        block = λ kind. let z = I.block (ap (λ n. n == 0) (sym number_is) ∙ kind) in
            subst (λ (y : ℕ). (y % BLOCK_SIZE ≡ 0) × (floor (lsn c.base) ≤ y)) (sym place_is) z;
        lost = lost_at;
      })) (λ t. both.in_run j x t.1) (at_set actors seat j (actor.Reader w) x e);
      reading = λ told. record {
        asked = (both.reading told).asked;
        each = λ j x e. ⊎_elim (λ t. subst (λ (z : ℕ × Actor). ReadFits c m g.log z.0 z.1) (λ i. (sym t.0 i, t.1 i)) (has told)) (λ t. (both.reading told).each j x t.1) (at_set actors seat j (actor.Reader w) x e);
      };
      paged = record {
        paged = both.paged.paged;
        each = λ j x e. ⊎_elim (λ t. subst (λ (z : ℕ × Actor). PageFits E c m g.log h ls d z.0 z.1) (λ i. (sym t.0 i, t.1 i)) tt) (λ t. both.paged.each j x t.1) (at_set actors seat j (actor.Reader w) x e);
      };
    }
      where
        I : ReadsInRun c r
        I = both.in_run seat (actor.Reader r) at

        the_reader : (y x : ReaderState) → actor.Reader y ≡ actor.Reader x → ◌≡◌ {A = ReaderState} y x
        the_reader y x e = cc

        still_lost : (code : ℕ) → HasLost actors code → HasLost (set actors seat (actor.Reader w)) code
        still_lost code l = elim (ℕ_discrete l.seat seat) [
          | yes same ↦ record {
            seat = seat;
            archiver = w;
            at = set_at actors seat (actor.Reader r) (actor.Reader w) at;
            lost = lost_is
                ∙ ap (λ (x : ReaderState). x.lost) (the_reader r l.archiver (some-injective (actor.Reader r) (actor.Reader l.archiver) (sym at ∙ ap (get_elem? actors) (sym same) ∙ l.at)))
                ∙ l.lost;
            some_code = l.some_code;
          }
          | no other ↦ record {
            seat = l.seat;
            archiver = l.archiver;
            at = set_else actors seat l.seat (actor.Reader w) other ∙ l.at;
            lost = l.lost;
            some_code = l.some_code;
          }
        ]

        no_latch : (q : ℕ) → HasLatch (actor.Reader r) q → ⊥
        no_latch q held = held

        not_user : (u : UserState) → actor.Reader w ≡ actor.User u → ⊥
        not_user u e = cc

  module _ (r : ReaderState) (at : get_elem? actors seat ≡ some (actor.Reader r)) where
    R : D.Tells p → ReaderHas c m g.log seat r
    R told = (both.reading told).each seat (actor.Reader r) at

    N : ReaderFits D c m g p seat r
    N = both.logged.each seat (actor.Reader r) at

    I : ReadsInRun c r
    I = both.in_run seat (actor.Reader r) at

    with_block : (b : List ℕ) (st : ReaderStep) → marks.ReaderAt D c m g p r st → marks.ReaderAt D c m g p (record r { block = b }) st
    with_block b reader_step.ReadBlock k = k
    with_block b reader_step.StoreFailed k = k
    with_block b reader_step.GiveFailed k = k
    with_block b reader_step.StoreLost k = k
    with_block b reader_step.Failed k = k
    with_block b _ k = tt

    with_texts : (ts : List (List ℕ)) (st : ReaderStep) → marks.ReaderAt D c m g p r st → marks.ReaderAt D c m g p (record r { texts = ts }) st
    with_texts ts reader_step.ReadBlock k = k
    with_texts ts reader_step.StoreFailed k = k
    with_texts ts reader_step.GiveFailed k = k
    with_texts ts reader_step.StoreLost k = k
    with_texts ts reader_step.Failed k = k
    with_texts ts _ k = tt

    put : (f : Filling) (st : ReaderStep) → r.step ≡ st → BothHalves D E c m g h ls p d (set actors seat (actor.Reader (reader_filled r f st)))
    put f reader_step.ReadBlock is = put_reader r at (record r { block = f.block }) refl (record { no_device_while_checking = N.no_device_while_checking; step = with_block f.block r.step N.step })
        (λ told. reader_goes c m g.log r r.mark f.block r.texts r.code r.checks r.step seat (R told)
        (λ _ A. subst (ArchiverAt c m g.log (record r { block = f.block })) (sym is) (subst (ArchiverAt c m g.log r) is A.step))
        (λ _ F. subst (FollowerAt c m g.log (record r { block = f.block })) (sym is)
        (again (subst (FollowerAt c m g.log r) is F.step)))) refl refl refl refl
        (lost_same r (record r { block = f.block }) refl refl refl (λ z. z) r.step I.lost)
        (λ kind. let A = both.archiver seat r at kind in record { aligned = A.aligned; below = A.below; own_aligned = A.own_aligned; step = subst (ArchiverAt c m g.log (record r { block = f.block })) (sym is) (subst (ArchiverAt c m g.log r) is A.step) })
        (λ _ _. subst (RunBlockAt D c g.log (record r { block = f.block })) (sym is) tt)
      where
        again : HasMore c m g.log r → HasMore c m g.log (record r { block = f.block })
        again k = record { to = k.to; mark = k.mark; flushed = k.flushed; more = k.more }
    put f reader_step.GiveDevice is = put_reader r at (record r { texts = f.texts }) refl (record { no_device_while_checking = N.no_device_while_checking; step = with_texts f.texts r.step N.step })
        (λ told. reader_goes c m g.log r r.mark r.block f.texts r.code r.checks r.step seat (R told)
        (λ _ A. subst (ArchiverAt c m g.log (record r { texts = f.texts })) (sym is) (subst (ArchiverAt c m g.log r) is A.step))
        (λ _ F. subst (FollowerAt c m g.log (record r { texts = f.texts })) (sym is)
        (again (subst (FollowerAt c m g.log r) is F.step)))) refl refl refl refl
        (lost_same r (record r { texts = f.texts }) refl refl refl (λ z. z) r.step I.lost)
        (λ kind. let A = both.archiver seat r at kind in record { aligned = A.aligned; below = A.below; own_aligned = A.own_aligned; step = subst (ArchiverAt c m g.log (record r { texts = f.texts })) (sym is) (subst (ArchiverAt c m g.log r) is A.step) })
        (λ told kind. subst (RunBlockAt D c g.log (record r { texts = f.texts })) (sym is) (still_has (subst (RunBlockAt D c g.log r) is (both.blocks told seat r at kind))))
      where
        still_has : HasRunBlock D c g.log r → HasRunBlock D c g.log (record r { texts = f.texts })
        still_has k = record { early = k.early; late = k.late; grown = k.grown; block = k.block }

        again : FollowerAt c m g.log r reader_step.GiveDevice → FollowerAt c m g.log (record r { texts = f.texts }) reader_step.GiveDevice
        again k = (record { to = k.0.to; mark = k.0.mark; flushed = k.0.flushed; more = k.0.more }, k.1)
    put f _ is = subst (λ (l : List Actor). BothHalves D E c m g h ls p d l) (sym (set_again actors seat (actor.Reader r) at)) both

  pub fills_keep : (a : Actor) → get_elem? actors seat ≡ some a → (f : Filling) → BothHalves D E c m g h ls p d (set actors seat (filled a f))
  fills_keep (actor.Reader r) at f = put r at f r.step refl
  fills_keep (actor.User u) at f = subst (λ (l : List Actor). BothHalves D E c m g h ls p d l) (sym (set_again actors seat (actor.User u) at)) both
  fills_keep (actor.Writer s) at f = subst (λ (l : List Actor). BothHalves D E c m g h ls p d l) (sym (set_again actors seat (actor.Writer s) at)) both
  fills_keep (actor.Flusher s) at f = subst (λ (l : List Actor). BothHalves D E c m g h ls p d l) (sym (set_again actors seat (actor.Flusher s) at)) both
  fills_keep (actor.Closer s) at f = subst (λ (l : List Actor). BothHalves D E c m g h ls p d l) (sym (set_again actors seat (actor.Closer s) at)) both
  fills_keep (actor.Cleaner s) at f = subst (λ (l : List Actor). BothHalves D E c m g h ls p d l) (sym (set_again actors seat (actor.Cleaner s) at)) both
  fills_keep (actor.Checkpointer s) at f = subst (λ (l : List Actor). BothHalves D E c m g h ls p d l) (sym (set_again actors seat (actor.Checkpointer s) at)) both

-- its next Op is as it was
op_by : (r : ReaderState) (block : List ℕ) (texts : List (List ℕ)) (st : ReaderStep) → reader_op (record r { block = block; texts = texts }) st ≡ reader_op r st
op_by r block texts reader_step.LoadFlushed = refl
op_by r block texts reader_step.TakeDevice = refl
op_by r block texts reader_step.GiveBroken = refl
op_by r block texts reader_step.ReadBlock = refl
op_by r block texts reader_step.GiveDevice = refl
op_by r block texts reader_step.StorePlace = refl
op_by r block texts reader_step.StoreFailed = refl
op_by r block texts reader_step.GiveFailed = refl
op_by r block texts reader_step.Append = refl
op_by r block texts reader_step.StoreLost = refl
op_by r block texts reader_step.Failed = refl

pub next_filled : (a : Actor) (f : Filling) → ◌≡◌ {A = Op} (next (filled a f)) (next a)
next_filled (actor.Reader r) f = by r.step
  where
    by : (st : ReaderStep) → ◌≡◌ {A = Op} (next (actor.Reader (reader_filled r f st))) (next (actor.Reader r))
    by reader_step.ReadBlock = ap (cond r.checks (op.Load word.Failed)) (op_by r f.block r.texts r.step)
    by reader_step.GiveDevice = ap (cond r.checks (op.Load word.Failed)) (op_by r r.block f.texts r.step)
    by _ = refl
next_filled (actor.User u) f = refl
next_filled (actor.Writer s) f = refl
next_filled (actor.Flusher s) f = refl
next_filled (actor.Closer s) f = refl
next_filled (actor.Cleaner s) f = refl
next_filled (actor.Checkpointer s) f = refl

pub is_filled : (a : Actor) (f : Filling) → Fills a f → IsFilled (filled a f)
is_filled (actor.Reader r) f fills = by r.step refl fills
  where
    by : (st : ReaderStep) → r.step ≡ st → reader_fills r f st → IsFilled (actor.Reader (reader_filled r f st))
    by reader_step.GiveDevice is k = subst (ReaderIsFilled (record r { texts = f.texts })) (sym is) k
    by reader_step.ReadBlock is k = subst (ReaderIsFilled (record r { block = f.block })) (sym is) tt
    by reader_step.LoadFlushed is k = subst (ReaderIsFilled r) (sym is) tt
    by reader_step.TakeDevice is k = subst (ReaderIsFilled r) (sym is) tt
    by reader_step.GiveBroken is k = subst (ReaderIsFilled r) (sym is) tt
    by reader_step.StorePlace is k = subst (ReaderIsFilled r) (sym is) tt
    by reader_step.StoreFailed is k = subst (ReaderIsFilled r) (sym is) tt
    by reader_step.GiveFailed is k = subst (ReaderIsFilled r) (sym is) tt
    by reader_step.Append is k = subst (ReaderIsFilled r) (sym is) tt
    by reader_step.StoreLost is k = subst (ReaderIsFilled r) (sym is) tt
    by reader_step.Failed is k = subst (ReaderIsFilled r) (sym is) tt
is_filled (actor.User u) f fills = tt
is_filled (actor.Writer s) f fills = tt
is_filled (actor.Flusher s) f fills = tt
is_filled (actor.Closer s) f fills = tt
is_filled (actor.Cleaner s) f fills = tt
is_filled (actor.Checkpointer s) f fills = tt
