-- What holds of any run beside its invariant, from its start on: the margin, that lists are in hands, and that the pages of a
-- line ascend.
use Rattle.std.proofs.Common.{List, None, [], ap, arith, length, refl, set, subst, suc, sym, ℕ, ⊎_elim, ◌*◌, ◌+◌, ◌<◌, ◌∙◌, ◌∷◌, ◌≡◌, ◌≤◌}
use Rattle.std.specs.Prelude.{slice_index, true, false}
use lib.ListN.{get_elem?}
use mathlib.Core.Option.{some, some-injective}
use native.Mathlib.Decide.{ℕ_discrete}
use Rattle.model_base.specs.declared.limits.TheConstants.{BLOCK_SIZE, LSN_LIMIT, MIN_LOG_BLOCKS}
use Rattle.model_core.proofs.Later.{took_later}
use Rattle.model_core.proofs.Lists.{at_set, set_at, set_else}
use Rattle.model_core.specs.{Actor, change_at, CheckpointerState, CleanerState, CloserState, Core, filled, Filling, flat, layout_of, FlusherState, has_log_space, Line, line_at, Listed, lsn, next, ReaderState, shared_answer, SharedWords, took, UserState, WriterState, hand, IsFreeToCheck, user_hand, holds_tail, user_holds_tail, IsSameActor, DataSide, LogSide, Setup}
use Rattle.model_core.specs.ReaderProgram.{reader_filled}
use Rattle.model_core.specs.declared.steps.ReaderStep.{ReaderStep}
use Rattle.model_core.specs.declared.words.LinkBuffer.{LinkBuffer}
use Rattle.model_logcore.proofs.Frame.{total_set}
use Rattle.model_logcore.proofs.NewUsers.{new_step, new_user_is}
use Rattle.model_logcore.proofs.StartHolds.{start}
use Rattle.model_logcore.specs.{StartActor, sum_over_actors, left_to_reserve}
use Rattle.model_logcore.specs.Start.{closer_start, writer_start}
use Rattle.model_logcore.specs.LogLaws.{LogLaws}
use Rattle.model_pagecore.specs.DataLaws.{DataLaws}
use Rattle.model_running.proofs.StartRunning.{both_start, start_pages}
use Rattle.model_running.specs.Watermarks.{BothHalves}
use Rattle.model_running.specs.StartStore.{StartStore}
use Rattle.model_ends.proofs.Along.{Along, EachTurnKeeps, reach_along}
use Rattle.model_ends.proofs.HeldLists.{HasHand, lists_kept, ListsAreInHand}
use Rattle.model_ends.proofs.Margin.{HasMargin, is_user, pledge, user_pledge}
use Rattle.model_ends.proofs.MarginKeeps.{margin_kept, writer_has_space}
use Rattle.model_ends.proofs.Sizes.{sum_less}
use Rattle.model_ends.specs.Alone.{CanReach}
use Rattle.model_core.specs.States as actor
use Rattle.model_core.specs.declared.steps.ReaderStep.TheVariants as reader_step
use Rattle.model_core.specs.declared.steps.UserStep.TheVariants as user_step
use Rattle.model_core.specs.declared.words.LinkBuffer.TheVariants as link_buffer

-- each line names its pages in ascending order
abbrev pub Ascend : List Line → Type 0
Ascend lines = (j i k : ℕ) → i < k → k < length (line_at lines j).changes → (change_at (line_at lines j).changes i).page < (change_at (line_at lines j).changes k).page

abbrev pub Ascends : Actor → Type 0
Ascends (actor.User u) = Ascend u.lines
Ascends _ = Unit {0}

pub record Beside (c : Setup) (m : SharedWords) (actors : List Actor) : Type 0 where
  pub margin : HasMargin c m actors
  pub lists : ListsAreInHand m actors
  pub ascend : (seat : ℕ) (a : Actor) → get_elem? actors seat ≡ some a → Ascends a

-- WHAT A TURN PUTS INTO AN ACTOR BEFORE ITS OP changes nothing of that
filled_pledge : (a : Actor) (f : Filling) → pledge (filled a f) ≡ pledge a
filled_pledge (actor.Reader r) f = refl
filled_pledge (actor.User r) f = refl
filled_pledge (actor.Writer r) f = refl
filled_pledge (actor.Flusher r) f = refl
filled_pledge (actor.Closer r) f = refl
filled_pledge (actor.Cleaner r) f = refl
filled_pledge (actor.Checkpointer r) f = refl

filled_kind : (a : Actor) (f : Filling) → is_user (filled a f) ≡ is_user a
filled_kind (actor.Reader r) f = refl
filled_kind (actor.User r) f = refl
filled_kind (actor.Writer r) f = refl
filled_kind (actor.Flusher r) f = refl
filled_kind (actor.Closer r) f = refl
filled_kind (actor.Cleaner r) f = refl
filled_kind (actor.Checkpointer r) f = refl

filled_ascends : (a : Actor) (f : Filling) → Ascends a → Ascends (filled a f)
filled_ascends (actor.Reader r) f h = tt
filled_ascends (actor.User r) f h = h
filled_ascends (actor.Writer r) f h = tt
filled_ascends (actor.Flusher r) f h = tt
filled_ascends (actor.Closer r) f h = tt
filled_ascends (actor.Cleaner r) f h = tt
filled_ascends (actor.Checkpointer r) f h = tt

filled_hand : (a : Actor) (f : Filling) → hand (filled a f) ≡ hand a
filled_hand (actor.Reader r) f = by r.step
  where
    by : (st : ReaderStep) → hand (actor.Reader (reader_filled r f st)) ≡ hand (actor.Reader r)
    by reader_step.ReadBlock = refl
    by reader_step.GiveDevice = refl
    by _ = refl
filled_hand (actor.User r) f = refl
filled_hand (actor.Writer r) f = refl
filled_hand (actor.Flusher r) f = refl
filled_hand (actor.Closer r) f = refl
filled_hand (actor.Cleaner r) f = refl
filled_hand (actor.Checkpointer r) f = refl

filled_free : (a : Actor) (f : Filling) → IsFreeToCheck a → IsFreeToCheck (filled a f)
filled_free (actor.Reader r) f h = by r.step
  where
    by : (st : ReaderStep) → IsFreeToCheck (actor.Reader (reader_filled r f st))
    by reader_step.ReadBlock = λ checks. let z = h checks in record { no_slot = z.no_slot; no_tail = λ b. refl }
    by reader_step.GiveDevice = λ checks. let z = h checks in record { no_slot = z.no_slot; no_tail = λ b. refl }
    by _ = λ checks. let z = h checks in record { no_slot = z.no_slot; no_tail = λ b. refl }
filled_free (actor.User r) f h = h
filled_free (actor.Writer r) f h = h
filled_free (actor.Flusher r) f h = h
filled_free (actor.Closer r) f h = h
filled_free (actor.Cleaner r) f h = h
filled_free (actor.Checkpointer r) f h = h

beside_filled : (c : Setup) (m : SharedWords) (actors : List Actor) (seat : ℕ) (a : Actor) → get_elem? actors seat ≡ some a → (f : Filling) → Beside c m actors → Beside c m (set actors seat (filled a f))
beside_filled c m actors seat a at f B = record {
  margin = record {
    few = (let t = total_set is_user actors seat a b at in let k = filled_kind a f in let z = B.margin.few in omega arith);
    space = (let t = total_set pledge actors seat a b at in let k = filled_pledge a f in
        let same : sum_over_actors pledge (set actors seat b) ≡ sum_over_actors pledge actors = omega arith in
        subst (λ (n : ℕ). lsn (m.sn + n) + 143_216 ≤ m.ckpt + BLOCK_SIZE * c.blocks) (sym same) B.margin.space);
  };
  lists = record {
    free = λ j x is. ⊎_elim (λ z. subst IsFreeToCheck z.1 (filled_free a f (B.lists.free seat a at))) (λ z. B.lists.free j x z.1) (at_set actors seat j b x is);
    held = λ i up. still i (B.lists.held i up);
  };
  ascend = λ j x is. ⊎_elim (λ z. subst Ascends z.1 (filled_ascends a f (B.ascend seat a at))) (λ z. B.ascend j x z.1) (at_set actors seat j b x is);
}
  where
    b : Actor
    b = filled a f

    still : (i : ℕ) → HasHand actors (suc i) → HasHand (set actors seat (filled a f)) (suc i)
    still i w = elim (ℕ_discrete w.0 seat) [
      | yes e ↦ (
          let here : get_elem? actors seat ≡ some w.1 = subst (λ (k : ℕ). get_elem? actors k ≡ some w.1) e w.2 in
          let same : ◌≡◌ {A = Actor} w.1 a = some-injective w.1 a (sym here ∙ at) in
          (seat, filled a f, set_at actors seat a (filled a f) at, filled_hand a f ∙ sym (ap hand same) ∙ w.3))
      | no n ↦ (w.0, w.1, set_else actors seat w.0 (filled a f) n ∙ w.2, w.3)
    ]

later_ascends : (a b : Actor) → IsSameActor a b → Ascends a → Ascends b
later_ascends (actor.User u) b is h = subst Ascends (sym is.1) (subst Ascend (sym is.3) h)
later_ascends (actor.Writer s) b is h = subst Ascends (sym is.1) tt
later_ascends (actor.Flusher s) b is h = subst Ascends (sym is.1) tt
later_ascends (actor.Reader s) b is h = subst Ascends (sym is.1) tt
later_ascends (actor.Closer s) b is h = subst Ascends (sym is.1) tt
later_ascends (actor.Cleaner s) b is h = subst Ascends (sym is.1) tt
later_ascends (actor.Checkpointer s) b is h = subst Ascends (sym is.1) tt

module _ (D : LogSide) (E : DataSide) (c : Setup) where
  abbrev pub Held : SharedWords → (ℕ → List Listed) → D.Part → E.Part → List Actor → Type 0
  Held m ls p d actors = Beside c m actors

  pub beside_kept : EachTurnKeeps D E c Held
  beside_kept = record {
    filled = λ m ls p d actors seat a at f B. beside_filled c m actors seat a at f B;
    turned = λ m g h ls p d actors both B seat a at code q e served stored. record {
      margin = margin_kept D c m g p actors both.logged B.margin seat ls (D.failed p) code (D.stable q) a at;
      lists = lists_kept m actors ls (D.failed p) code (D.stable q) B.lists seat a at;
      ascend = λ j x is. ⊎_elim
          (λ z. subst Ascends z.1 (later_ascends a (took a (shared_answer ls (D.failed p) code (D.stable q) m (next a))) (took_later a (shared_answer ls (D.failed p) code (D.stable q) m (next a))) (B.ascend seat a at)))
          (λ z. B.ascend j x z.1) (at_set actors seat j (took a (shared_answer ls (D.failed p) code (D.stable q) m (next a))) x is);
    };
  }

  -- AS A RUN STARTS
  module _ (L : LogLaws D) (EL : DataLaws E) (words : SharedWords) (seat_of : ℕ → ℕ) (writer : ℕ) (first : Core D E) (S : StartStore D E c words first.log_part first.data_part seat_of writer first.actors) (layout_is : first.layout ≡ layout_of c) (flat_is : first.words ≡ flat words) (lists : ◌≡◌ {A = ℕ → List Listed} first.lists (λ _. []))
      (short : lsn (c.base + sum_over_actors left_to_reserve first.actors) < LSN_LIMIT) (few : sum_over_actors is_user first.actors ≤ 16) (long : MIN_LOG_BLOCKS ≤ c.blocks) (ascend : (user : ℕ) → Ascend (c.script user)) where
    no_pledge : (seat : ℕ) (a : Actor) → StartActor c seat_of writer seat a → pledge a ≤ 0
    no_pledge seat (actor.User u) h = let z : user_pledge u u.step ≡ 0 = new_step c u h.1 (λ f. user_pledge u f ≡ 0) refl refl in omega arith
    no_pledge seat (actor.Writer s) h = omega arith
    no_pledge seat (actor.Flusher s) h = omega arith
    no_pledge seat (actor.Reader s) h = omega arith
    no_pledge seat (actor.Closer s) h = omega arith
    no_pledge seat (actor.Cleaner s) h = omega arith
    no_pledge seat (actor.Checkpointer s) h = omega arith

    nothing : (actors : List Actor) → sum_over_actors (λ _. 0) actors ≡ 0
    nothing [] = refl
    nothing (x ∷ xs) = let z = nothing xs in omega arith

    starts_ascending : (seat : ℕ) (a : Actor) → StartActor c seat_of writer seat a → Ascends a
    starts_ascending seat (actor.User u) h = subst Ascend (sym (new_user_is c u h.1).lines) (ascend u.user)
    starts_ascending seat (actor.Writer s) h = tt
    starts_ascending seat (actor.Flusher s) h = tt
    starts_ascending seat (actor.Reader s) h = tt
    starts_ascending seat (actor.Closer s) h = tt
    starts_ascending seat (actor.Cleaner s) h = tt
    starts_ascending seat (actor.Checkpointer s) h = tt

    first_free : (b : LinkBuffer) → user_holds_tail b user_step.LoadCheckpoint ≡ false
    first_free link_buffer.Written = refl
    first_free link_buffer.Closed = refl

    done_free : (b : LinkBuffer) → user_holds_tail b user_step.Done ≡ false
    done_free link_buffer.Written = refl
    done_free link_buffer.Closed = refl

    starts_free : (seat : ℕ) (a : Actor) → StartActor c seat_of writer seat a → IsFreeToCheck a
    starts_free seat (actor.User u) h = λ _. record {
      no_slot = new_step c u h.1 (λ f. user_hand u f ≡ None) refl refl;
      no_tail = new_step c u h.1 (λ f. (b : LinkBuffer) → user_holds_tail b f ≡ false) first_free done_free;
    }
    starts_free seat (actor.Writer s) h = subst (λ (z : WriterState). IsFreeToCheck (actor.Writer z)) (sym h.1) (λ _. record { no_slot = refl; no_tail = λ b. by b })
      where
        by : (b : LinkBuffer) → holds_tail b (actor.Writer (writer_start c)) ≡ false
        by link_buffer.Written = refl
        by link_buffer.Closed = refl
    starts_free seat (actor.Flusher s) h = subst (λ (z : FlusherState). IsFreeToCheck (actor.Flusher z)) (sym h.1) (λ _. record { no_slot = refl; no_tail = λ b. refl })
    starts_free seat (actor.Reader s) h = subst (λ (z : ReaderState). IsFreeToCheck (actor.Reader z)) (sym h.3) (λ _. record { no_slot = refl; no_tail = λ b. refl })
    starts_free seat (actor.Closer s) h = subst (λ (z : CloserState). IsFreeToCheck (actor.Closer z)) (sym h.1) (λ _. record { no_slot = refl; no_tail = λ b. by b })
      where
        by : (b : LinkBuffer) → holds_tail b (actor.Closer (closer_start c)) ≡ false
        by link_buffer.Written = refl
        by link_buffer.Closed = refl
    starts_free seat (actor.Cleaner s) h = subst (λ (z : CleanerState). IsFreeToCheck (actor.Cleaner z)) (sym h.1) (λ _. record { no_slot = refl; no_tail = λ b. refl })
    starts_free seat (actor.Checkpointer s) h = subst (λ (z : CheckpointerState). IsFreeToCheck (actor.Checkpointer z)) (sym h.1) (λ _. record { no_slot = refl; no_tail = λ b. refl })

    starts : Beside c words first.actors
    starts = record {
      margin = record {
        few = few;
        space = (
            let none = sum_less pledge (λ _. 0) first.actors (λ i a at. no_pledge i a (S.each i a at)) in
            let zero = nothing first.actors in
            let n : words.sn + sum_over_actors pledge first.actors ≡ c.base = (let z = S.words.sn in omega arith) in
            let at : lsn (words.sn + sum_over_actors pledge first.actors) ≡ lsn c.base = ap lsn n in
            let ckpt = S.words.ckpt in
            omega arith);
      };
      lists = record {
        free = λ seat a at. starts_free seat a (S.each seat a at);
        held = λ i up. absurd (let z = S.words.lists i in omega arith);
      };
      ascend = λ seat a at. starts_ascending seat a (S.each seat a at);
    }

    first_along : Along D E c Held first
    first_along = record {
      words = words;
      log_ghost = start D c words first.log_part seat_of writer S.words S.log_part;
      page_ghost = start_pages c;
      layout_is = layout_is;
      flat_is = flat_is;
      both = subst (λ (ls : ℕ → List Listed). BothHalves D E c words (start D c words first.log_part seat_of writer S.words S.log_part) (start_pages c) ls first.log_part first.data_part first.actors) (sym lists)
          (both_start D E c words first.log_part first.data_part seat_of writer first.actors S short);
      holds = starts;
    }

    -- in each state that any turns reach
    pub reached : (k : ℕ) (s : Core D E) → CanReach D E k first s → Along D E c Held s
    reached k s r = reach_along D E c Held L EL beside_kept k first s first_along r

    -- THE WRITER NEVER WAITS FOR SPACE IN THE LOG, whatever turns are taken and whatever the device calls answer
    pub writer_never_waits : (k : ℕ) (s : Core D E) → CanReach D E k first s → (seat : ℕ) (w : WriterState) → get_elem? s.actors seat ≡ some (actor.Writer w) → has_log_space w (slice_index s.words 4) ≡ true
    writer_never_waits k s r seat w at =
        let A = reached k s r in
        let space = writer_has_space D c A.words A.log_ghost s.log_part s.actors A.both.logged A.holds.margin seat s.lists false 0 0 w at in
        ap (λ (ws : List ℕ). has_log_space w (slice_index ws 4)) A.flat_is ∙ space
