-- Moves of the log's work that are no Op: the states of the writer and the flusher go on, and the log part goes from
-- the one to the other.
use Rattle.std.proofs.Common.{Bool, List, ap, arith, cond, false, refl, set, subst, sym, true, ℕ, ◌∙◌, ◌≡◌, ◌≤◌}
use Rattle.std.specs.Prelude.{nat_lt, slice_index}
use lib.ListN.{get_elem?}
use mathlib.Core.Option.{some}
use Rattle.model_core.specs.{Actor, Advance, advance_op, flusher_holds, FlusherState, Lent, Listed, lists_left, LogServed, shared_answer, shared_left, SharedWords, UserState, writer_holds, WriterState, writer_holds_tail, DataSide, LogSide, Setup}
use Rattle.model_core.specs.declared.ops.Answer.{Answer}
use Rattle.model_core.specs.declared.ops.Op.{Op}
use Rattle.model_core.specs.declared.steps.AdvanceStep.{AdvanceStep}
use Rattle.model_core.specs.declared.steps.FlusherStep.{FlusherStep}
use Rattle.model_core.specs.declared.steps.UserStep.{UserStep}
use Rattle.model_core.specs.declared.steps.WriterStep.{WriterStep}
use Rattle.model_core.specs.declared.words.LinkBuffer.{LinkBuffer}
use Rattle.model_core.specs.declared.steps.AdvanceStep.TheVariants as advance_step
use Rattle.model_core.specs.declared.steps.FlusherStep.TheVariants as flusher_step
use Rattle.model_core.specs.declared.steps.WriterStep.TheVariants as writer_step
use Rattle.model_core.specs.declared.words.LinkBuffer.TheVariants as link_buffer
use Rattle.model_core.specs.States as actor
use Rattle.model_logcore.proofs.WriterSteps.{staged}
use Rattle.model_logcore.specs.LogFacts.{LogGhost}
use Rattle.model_logcore.specs.{FlusherAt, FlusherFits, WriterAt, WriterFits}
use Rattle.model_own.specs.{all_actors, LogWork, OwnUser, flusher_from, given_back, rested_writer, taken_up}
use Rattle.model_own.specs.declared.errand.ErrandStep.{ErrandStep}
use Rattle.model_ownrun.proofs.Restated.{IsAlike, given_by, restated, taken_by}
use Rattle.model_ownrun.proofs.Seats.{flusher_put, flusher_seat, flusher_there, user_put, user_there, writer_put, writer_seat, writer_there}
use Rattle.model_ownrun.proofs.UserAlike.{Again, user_alike}
use Rattle.model_pagecore.specs.{PageGhost}
use Rattle.model_running.specs.Watermarks.{BothHalves}

-- the flush lists after an Op, and the answer to it, where a device call leaves the log part so
abbrev pub lists_after : SharedWords → (ℕ → List Listed) → Op → ℕ → List Listed
lists_after m ls o = lists_left ls (λ i. slice_index m.lists i) o

abbrev pub answer_to : (D : LogSide) → D.Part → ℕ → D.Part → SharedWords → (ℕ → List Listed) → Op → Answer
answer_to D p code q m ls o = shared_answer ls (D.failed p) code (D.stable q) m o

-- the Op of an advance leaves the log part
pub advance_keeps : (D : LogSide) (p q : D.Part) (l : Lent) (code : ℕ) (b : LinkBuffer) (v : Advance) (s : AdvanceStep)
    → LogServed D p l (advance_op b v s) code q → ◌≡◌ {A = D.Part} q p
advance_keeps D p q l code b v advance_step.LoadTail z = z
advance_keeps D p q l code b v advance_step.TakeTail z = z
advance_keeps D p q l code b v advance_step.LoadLink z = z
advance_keeps D p q l code b v advance_step.ClearLink z = z
advance_keeps D p q l code b v advance_step.FreeTail z = z

-- the device's turn word as it is
pub device_is : (m : SharedWords) (x : ℕ) → m.device ≡ x → ◌≡◌ {A = SharedWords} (record m { device = x }) m
device_is m x e = ap (λ (z : ℕ). record m { device = z }) (sym e)

-- a step of the writer at which it holds no tail
abbrev pub HoldsNoTail : WriterStep → Type 0
HoldsNoTail s = (b : LinkBuffer) → writer_holds_tail b s ≡ false

pub none_at_rest : HoldsNoTail (writer_step.Advance advance_step.LoadTail)
none_at_rest link_buffer.Written = refl
none_at_rest link_buffer.Closed = refl

none_taking : HoldsNoTail writer_step.TakeDevice
none_taking link_buffer.Written = refl
none_taking link_buffer.Closed = refl

none_writing : HoldsNoTail writer_step.WriteTo
none_writing link_buffer.Written = refl
none_writing link_buffer.Closed = refl

none_giving : HoldsNoTail writer_step.GiveDevice
none_giving link_buffer.Written = refl
none_giving link_buffer.Closed = refl

module _ (D : LogSide) (E : DataSide) (c : Setup) where
  -- a running store, of some ghosts
  abbrev pub Runs : SharedWords → (ℕ → List Listed) → D.Part → E.Part → List Actor → Type 0
  Runs m ls p d actors = (g : LogGhost) × (h : PageGhost) × BothHalves D E c m g h ls p d actors

  -- and after an Op
  abbrev pub RunsAfter : Op → SharedWords → (ℕ → List Listed) → D.Part → E.Part → List Actor → Type 0
  RunsAfter o m ls q e actors = Runs (shared_left m o) (lists_after m ls o) q e actors

  module _ (m : SharedWords) (ls : ℕ → List Listed) (p : D.Part) (d : E.Part) (users : List OwnUser) (k : LogWork)
      (others : List Actor) where
    abbrev actors : List Actor
    actors = all_actors users k others

    -- the store with the device's turn word so, and the log's work
    abbrev Left : ℕ → LogWork → Type 0
    Left device work = Runs (record m { device = device }) ls p d (all_actors users work others)

    -- a user goes from one step of its errand to another
    pub user_moves : (i : ℕ) (o : OwnUser) → get_elem? users i ≡ some o → (code : ℕ) (checks : Bool) (t : UserStep)
        → Again o.user.step t → (errand : ErrandStep) (helped : Bool) → Runs m ls p d actors
        → Runs m ls p d (all_actors (set users i (record {
          user = record o.user { code = code; checks = checks; step = t };
          errand = errand;
          helped = helped;
        })) k others)
    user_moves i o at code checks t e errand helped (g, h, both) =
        let u : UserState = record o.user { code = code; checks = checks; step = t } in
        let x : OwnUser = record { user = u; errand = errand; helped = helped } in
        let there = user_there users k others i o at in
        let alike = user_alike o.user code checks D E c m g h ls p d i actors both there t e in
        let moved = restated D E c m g h ls p d actors both i (actor.User o.user) (actor.User u) there alike
        refl in
        (g, h, subst (BothHalves D E c m g h ls p d) (user_put users k others i o x at) moved)

    module _ (g : LogGhost) (h : PageGhost) (both : BothHalves D E c m g h ls p d actors) where
      of_flusher : FlusherFits D c m g p (flusher_seat users) k.flusher
      of_flusher = both.logged.each (flusher_seat users) (actor.Flusher k.flusher) (flusher_there users k others)

      of_writer : WriterFits D c m g p (writer_seat users) k.writer
      of_writer = both.logged.each (writer_seat users) (actor.Writer k.writer) (writer_there users k others)

      -- THE FLUSHER in another state
      abbrev FlusherAlike : FlusherState → ℕ → Type 0
      FlusherAlike f device = IsAlike D E c m g h ls p d actors both (flusher_seat users)
          (actor.Flusher k.flusher) (actor.Flusher f) (flusher_there users k others) device

      flusher_alike : (f : FlusherState) (device : ℕ) → FlusherFits D c m g p (flusher_seat users) f
          → FlusherAlike f device
      flusher_alike f device fits = record {
        fits = fits;
        entries_same = refl;
        left = omega arith;
        tails = λ b. refl;
        free = λ z b. refl;
        pages = tt;
        other = (tt, tt);
        latches = λ k z. z;
        closed = λ v e. absurd (cc);
        in_run = tt;
        reads = tt;
      }

      abbrev flusher_at : ℕ → FlusherStep → FlusherState
      flusher_at write st = record k.flusher { write = write; checks = false; step = st }

      flusher_fits : (write : ℕ) (st : FlusherStep) → write ≤ m.write → FlusherAt D c m g p (flusher_at write st) st
          → FlusherFits D c m g p (flusher_seat users) (flusher_at write st)
      flusher_fits write st le h = record {
        alone = of_flusher.alone;
        last = of_flusher.last;
        write = le;
        no_device_while_checking = λ z. absurd (cc);
        step = h;
      }

      put_flusher : (m' : SharedWords) (g' : LogGhost) (f : FlusherState)
          → BothHalves D E c m' g' h ls p d (set actors (flusher_seat users) (actor.Flusher f))
          → Runs m' ls p d (all_actors users (record k { flusher = f }) others)
      put_flusher m' g' f left =
          (g', h, subst (BothHalves D E c m' g' h ls p d) (flusher_put users k others f) left)

      -- it takes the free log part, and gives it back
      pub flusher_takes : m.device ≡ 0 → Left 1 (taken_up k)
      flusher_takes free =
          let f : FlusherState = record k.flusher { checks = false; step = flusher_step.GiveDevice } in
          let fits = flusher_fits k.flusher.write flusher_step.GiveDevice of_flusher.write tt in
          let t = taken_by D E c m g h ls p d actors both (flusher_seat users) (actor.Flusher k.flusher)
          (actor.Flusher f) (flusher_there users k others) (flusher_alike f 1 fits) free refl in
          put_flusher (record m { device = 1 }) t.0 f t.1

      pub flusher_gives : k.flusher.step ≡ flusher_step.GiveDevice → k.flusher.checks ≡ false → Left 0 (given_back k)
      flusher_gives is quiet =
          let f : FlusherState = record k.flusher { step = flusher_step.LoadWrite } in
          let fits : FlusherFits D c m g p (flusher_seat users) f = record {
            alone = of_flusher.alone;
            last = of_flusher.last;
            write = of_flusher.write;
            no_device_while_checking = λ z. refl;
            step = tt;
          } in
          let t = given_by D E c m g h ls p d actors both (flusher_seat users) (actor.Flusher k.flusher)
          (actor.Flusher f) (flusher_there users k others) (flusher_alike f 0 fits) (ap flusher_holds is) refl in
          put_flusher (record m { device = 0 }) t.0 f t.1

      -- with the log part in hand it goes on to its sync, or to give the part back
      pub flusher_goes_on : (b : Bool) (write : ℕ) → k.flusher.step ≡ flusher_step.GiveDevice → write ≤ m.write
          → D.failed p ≡ false
          → Runs m ls p d (all_actors users (record k { flusher = flusher_from b k.flusher write }) others)
      flusher_goes_on b write is le sound = by (cond b (nat_lt k.flusher.last write) false)
        where
          to : (f : FlusherState) → FlusherFits D c m g p (flusher_seat users) f → flusher_holds f.step ≡ true
              → Runs m ls p d (all_actors users (record k { flusher = f }) others)
          to f fits hold = put_flusher m g f
              (restated D E c m g h ls p d actors both (flusher_seat users) (actor.Flusher k.flusher)
              (actor.Flusher f) (flusher_there users k others) (flusher_alike f m.device fits)
              (hold ∙ sym (ap flusher_holds is)))

          by : (z : Bool) → Runs m ls p d (all_actors users (record k {
            flusher = cond z (flusher_at write flusher_step.Sync)
                (record k.flusher { checks = false; step = flusher_step.GiveDevice });
          }) others)
          by true = to (flusher_at write flusher_step.Sync) (flusher_fits write flusher_step.Sync le sound) refl
          by false = to (flusher_at k.flusher.write flusher_step.GiveDevice)
              (flusher_fits k.flusher.write flusher_step.GiveDevice of_flusher.write tt) refl

      -- THE WRITER in another state
      abbrev WriterAlike : WriterState → ℕ → Type 0
      WriterAlike s device = IsAlike D E c m g h ls p d actors both (writer_seat users) (actor.Writer k.writer)
          (actor.Writer s) (writer_there users k others) device

      writer_alike : (s : WriterState) (device : ℕ) → WriterFits D c m g p (writer_seat users) s
          → HoldsNoTail k.writer.step → HoldsNoTail s.step → WriterAlike s device
      writer_alike s device fits was is = record {
        fits = fits;
        entries_same = refl;
        left = omega arith;
        tails = λ b. is b ∙ sym (was b);
        free = λ z b. is b;
        pages = tt;
        other = (tt, tt);
        latches = λ k z. z;
        closed = λ v e. absurd (cc);
        in_run = tt;
        reads = tt;
      }

      abbrev writer_at : WriterStep → WriterState
      writer_at st = record k.writer { checks = false; step = st }

      writer_fits : (st : WriterStep) → WriterAt D c m g p (writer_seat users) (writer_at st) st
          → WriterFits D c m g p (writer_seat users) (writer_at st)
      writer_fits st z = staged D c m g p actors (writer_seat users) k.writer both.logged
          (writer_there users k others) k.writer.first k.writer.ckpt k.writer.code false st of_writer.ckpt
          (λ e. absurd (cc)) z

      put_writer : (m' : SharedWords) (g' : LogGhost) (s : WriterState)
          → BothHalves D E c m' g' h ls p d (set actors (writer_seat users) (actor.Writer s))
          → Runs m' ls p d (all_actors users (record k { writer = s }) others)
      put_writer m' g' s left =
          (g', h, subst (BothHalves D E c m' g' h ls p d) (writer_put users k others s) left)

      -- without the log part it comes to rest
      pub writer_rests : HoldsNoTail k.writer.step → writer_holds k.writer.step ≡ false
          → WriterAt D c m g p (writer_seat users) (rested_writer k.writer) (writer_step.Advance advance_step.LoadTail)
          → Runs m ls p d (all_actors users (record k { writer = rested_writer k.writer }) others)
      writer_rests was free z =
          let s : WriterState = rested_writer k.writer in
          let fits = writer_fits (writer_step.Advance advance_step.LoadTail) z in
          put_writer m g s
          (restated D E c m g h ls p d actors both (writer_seat users) (actor.Writer k.writer) (actor.Writer s)
          (writer_there users k others) (writer_alike s m.device fits was none_at_rest) (sym free))

      -- it takes the free log part to write; it gives it back after its store of WRITE
      pub writer_takes : m.device ≡ 0 → k.writer.step ≡ writer_step.TakeDevice → D.failed p ≡ false
          → Left 1 (record k { writer = writer_at writer_step.WriteTo })
      writer_takes free is sound =
          let s : WriterState = writer_at writer_step.WriteTo in
          let z = subst (WriterAt D c m g p (writer_seat users) k.writer) is of_writer.step in
          let fits = writer_fits writer_step.WriteTo (z.0, z.1, z.2, sound) in
          let alike = writer_alike s 1 fits (λ b. ap (writer_holds_tail b) is ∙ none_taking b) none_writing in
          let t = taken_by D E c m g h ls p d actors both (writer_seat users) (actor.Writer k.writer)
          (actor.Writer s) (writer_there users k others) alike free refl in
          put_writer (record m { device = 1 }) t.0 s t.1

      pub writer_gives : k.writer.step ≡ writer_step.GiveDevice → Left 0 (record k { writer = rested_writer k.writer })
      writer_gives is =
          let s : WriterState = rested_writer k.writer in
          let z = subst (WriterAt D c m g p (writer_seat users) k.writer) is of_writer.step in
          let fits = writer_fits (writer_step.Advance advance_step.LoadTail) (z.0, tt) in
          let alike = writer_alike s 0 fits (λ b. ap (writer_holds_tail b) is ∙ none_giving b) none_at_rest in
          let t = given_by D E c m g h ls p d actors both (writer_seat users) (actor.Writer k.writer)
          (actor.Writer s) (writer_there users k others) alike (ap writer_holds is) refl in
          put_writer (record m { device = 0 }) t.0 s t.1

      -- whoever has the log part, the turn word says so
      pub flusher_has : k.flusher.step ≡ flusher_step.GiveDevice → m.device ≡ 1
      flusher_has is = let seat = flusher_seat users in
          (both.logged.turns seat (actor.Flusher k.flusher) (flusher_there users k others) (ap flusher_holds is)).0

      pub writer_has : writer_holds k.writer.step ≡ true → m.device ≡ 1
      writer_has is = (both.logged.turns (writer_seat users) (actor.Writer k.writer) (writer_there users k others) is).0
