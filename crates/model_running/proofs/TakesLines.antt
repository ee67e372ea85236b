-- A user that has done all its lines takes others behind them, in a run that goes on: both halves.
use Rattle.std.proofs.Common.{Bool, List, [], ap, false, length, refl, subst, sym, true, ℕ, ⊎_elim, inl, inr, ◌+◌, ◌<◌, ◌∙◌, ◌≡◌, ◌≢◌, set}
use Rattle.std.specs.Prelude.{get_or}
use lib.ListN.{get_elem?}
use native.Mathlib.Decide.{ℕ_discrete}
use Rattle.model_base.specs.declared.limits.TheConstants.{LSN_LIMIT}
use Rattle.model_core.proofs.Groups.{changed, changed_else, changed_here}
use Rattle.model_core.proofs.Lists.{at_set, set_at, set_else}
use Rattle.model_core.specs.{Actor, archives, change_at, Entry, HasHolder, HasLost, holds_tail, IsScripted, IsText, Line, line_at, Listed, PageChange, lsn, ReaderState, SharedWords, UserState, user_holds_tail, DataSide, LogSide, Setup}
use Rattle.model_core.specs.declared.steps.ReaderStep.{ReaderStep}
use Rattle.model_core.specs.declared.steps.ReaderStep.TheVariants as reader_step
use Rattle.model_core.specs.declared.steps.UserStep.{UserStep}
use Rattle.model_core.specs.declared.steps.UserStep.TheVariants as user_step
use Rattle.model_core.specs.declared.words.LinkBuffer.TheVariants as link_buffer
use Rattle.model_logcore.proofs.TakesLine as logged
use Rattle.model_logcore.specs.{LogGhost, left_to_reserve, sum_over_actors}
use Rattle.model_pagecore.proofs.TakesLine as paged
use Rattle.model_pagecore.specs.{HasLatch, PageGhost}
use Rattle.model_pagecore.specs.Latches.{UserHasLatch}
use Rattle.model_running.proofs.Seated.{user_seat}
use Rattle.model_running.proofs.SeatsKeep.{user_keeps}
use Rattle.model_running.specs.Bounds.{HasBytes}
use Rattle.model_running.specs.ReadHalf.{ArchiverHas, FollowerAt, FollowerHas, HasByKind, HasMore, HasRunBlock, HaveRunBlocks, IsFlushedTo, ReadFits, ReadHalf, RunBlockAt, StaysInRun}
use Rattle.model_running.specs.Watermarks.{BothHalves, UserClosed, UsersClosed, LatchesAreHeld}
use Rattle.model_running.specs.Seated.{AreSeated}
use Rattle.model_core.specs.States as actor
use mathlib.Core.Option as maybe

abbrev user_or : UserState → Actor → UserState
user_or u (actor.User v) = v
user_or u _ = u

abbrev is_reader : Actor → Bool
is_reader (actor.Reader r) = true
is_reader _ = false

-- what holds of each user's lines holds of each user's lines with these of this one
on : (P : List Line → Type 0) (script : ℕ → List Line) (user : ℕ) (more : List Line)
    → ((v : ℕ) → P (script v)) → P more → (v : ℕ) → P (changed script user more v)
on P script user more before new v = elim (ℕ_discrete v user) [
  | yes e ↦ subst P (sym (changed_here script user more v e)) new
  | no n ↦ subst P (sym (changed_else script user more v n)) (before v)
]

-- a user's lines change pages as its store has some, and each is the text of a group
pub record AreFit (c : Setup) (more : List Line) : Type 0 where
  pub names : paged.NamePages c more
  pub alone : c.log_only ≡ true → (j : ℕ) → ◌≡◌ {A = List PageChange} (line_at more j).changes []
  pub some_page : c.log_only ≡ false → (j : ℕ) → j < length more → 0 < length (line_at more j).changes
  pub texts : (j : ℕ) → j < length more → IsText (line_at more j).bytes

module _ (c : Setup) (user : ℕ) (more : List Line) (s : IsScripted c) (fit : AreFit c more) where
  holds_on : (P : List Line → Type 0) → ((v : ℕ) → P (c.script v)) → P more → (v : ℕ) → P (changed c.script user more v)
  holds_on P before new = on P c.script user more before new

  pub scripted : IsScripted (logged.grown c user more)
  scripted = let n = fit.names in record {
    alone = λ a v j. holds_on (λ z. ◌≡◌ {A = List PageChange} (line_at z j).changes [])
        (λ w. s.alone a w j) (fit.alone a j) v;
    some_page = λ a v j. holds_on (λ z. j < length z → 0 < length (line_at z j).changes)
        (λ w. s.some_page a w j) (fit.some_page a j) v;
    there = λ v j k. holds_on
        (λ z. k < length (line_at z j).changes → (change_at (line_at z j).changes k).page < c.pages)
        (λ w. s.there w j k) (n.there j k) v;
    page_size = s.page_size;
    slots = s.slots;
    apart = λ v j i k. holds_on
        (λ z. i < k → k < length (line_at z j).changes
        → (change_at (line_at z j).changes i).page ≢ (change_at (line_at z j).changes k).page)
        (λ w. s.apart w j i k) (n.apart j i k) v;
    within = λ v j k i. holds_on
        (λ z. k < length (line_at z j).changes
        → (get_or (change_at (line_at z j).changes k).cells i (record { at = 0; value = 0 })).at < c.page_size)
        (λ w. s.within w j k i) (n.within j k i) v;
    ascending = λ v j k x y. holds_on
        (λ z. x < y → y < length (change_at (line_at z j).changes k).cells
        → (get_or (change_at (line_at z j).changes k).cells x (record { at = 0; value = 0 })).at
        < (get_or (change_at (line_at z j).changes k).cells y (record { at = 0; value = 0 })).at)
        (λ w. s.ascending w j k x y) (n.ascending j k x y) v;
    are_bytes = λ v j k i. holds_on
        (λ z. (get_or (change_at (line_at z j).changes k).cells i (record { at = 0; value = 0 })).value < 256)
        (λ w. s.are_bytes w j k i) (n.are_bytes j k i) v;
    texts = λ v j. holds_on (λ z. j < length z → IsText (line_at z j).bytes) (λ w. s.texts w j) (fit.texts j) v;
    readers = s.readers;
    few_readers = s.few_readers;
  }

-- what holds of a reader, whatever the script
module _ (c : Setup) (script : ℕ → List Line) (m : SharedWords) (log : List Entry) where
  abbrev c' : Setup
  c' = record c { script = script }

  flushed_to : (x : ℕ) → IsFlushedTo c m log x → IsFlushedTo c' m log x
  flushed_to x h = record { bound = h.bound; flushed = h.flushed }

  has_more : (r : ReaderState) → HasMore c m log r → HasMore c' m log r
  has_more r h = record { to = h.to; mark = h.mark; flushed = flushed_to h.to h.flushed; more = h.more }

  follower_at : (r : ReaderState) (st : ReaderStep) → FollowerAt c m log r st → FollowerAt c' m log r st
  follower_at r reader_step.TakeDevice h = has_more r h
  follower_at r reader_step.GiveBroken h = has_more r h
  follower_at r reader_step.ReadBlock h = has_more r h
  follower_at r reader_step.GiveDevice h = (has_more r h.0, h.1)
  follower_at r reader_step.LoadFlushed h = tt
  follower_at r reader_step.StorePlace h = tt
  follower_at r reader_step.StoreFailed h = tt
  follower_at r reader_step.GiveFailed h = tt
  follower_at r reader_step.Failed h = tt
  follower_at r reader_step.Append h = tt
  follower_at r reader_step.StoreLost h = tt

  follower_has : (r : ReaderState) → FollowerHas c m log r → FollowerHas c' m log r
  follower_has r h = record {
    place = h.place;
    bound = h.bound;
    kept = h.kept;
    no_more = h.no_more;
    to = h.to;
    read = flushed_to h.to h.read;
    below = h.below;
    stored = h.stored;
    own = h.own;
    own_bound = h.own_bound;
    step = follower_at r r.step h.step;
  }

  archiver_has : (r : ReaderState) → ArchiverHas c m log r → ArchiverHas c' m log r
  archiver_has r h = record { aligned = h.aligned; below = h.below; own_aligned = h.own_aligned; step = h.step }

  by_kind : (b : Bool) (r : ReaderState) → HasByKind c m log b r → HasByKind c' m log b r
  by_kind true r h = archiver_has r h
  by_kind false r h = follower_has r h

  read_fits : (seat : ℕ) (a : Actor) → ReadFits c m log seat a → ReadFits c' m log seat a
  read_fits seat (actor.User u) h = tt
  read_fits seat (actor.Writer s) h = tt
  read_fits seat (actor.Flusher f) h = tt
  read_fits seat (actor.Closer t) h = tt
  read_fits seat (actor.Cleaner v) h = tt
  read_fits seat (actor.Checkpointer t) h = record { first = h.first; last = h.last; step = h.step }
  read_fits seat (actor.Reader r) h = record {
    alone = h.alone;
    first = h.first;
    last = h.last;
    word = h.word;
    up = h.up;
    has = by_kind (archives r) r h.has;
  }

  stays_in_run : (a : Actor) → StaysInRun c a → StaysInRun c' a
  stays_in_run (actor.User u) h = tt
  stays_in_run (actor.Writer s) h = tt
  stays_in_run (actor.Flusher f) h = tt
  stays_in_run (actor.Closer t) h = tt
  stays_in_run (actor.Cleaner v) h = tt
  stays_in_run (actor.Checkpointer t) h = h
  stays_in_run (actor.Reader r) h = record {
    first = h.first;
    few = h.few;
    from = h.from;
    block = h.block;
    lost = h.lost;
  }

module _ (D : LogSide) (c : Setup) (script : ℕ → List Line) (log : List Entry) (r : ReaderState) where
  has_run_block : HasRunBlock D c log r → HasRunBlock D (record c { script = script }) log r
  has_run_block h = record { early = h.early; late = h.late; grown = h.grown; block = h.block }

  run_block_at : (st : ReaderStep) → RunBlockAt D c log r st → RunBlockAt D (record c { script = script }) log r st
  run_block_at reader_step.GiveDevice h = has_run_block h
  run_block_at reader_step.Append h = has_run_block h
  run_block_at reader_step.LoadFlushed h = tt
  run_block_at reader_step.TakeDevice h = tt
  run_block_at reader_step.GiveBroken h = tt
  run_block_at reader_step.ReadBlock h = tt
  run_block_at reader_step.StorePlace h = tt
  run_block_at reader_step.StoreFailed h = tt
  run_block_at reader_step.GiveFailed h = tt
  run_block_at reader_step.StoreLost h = tt
  run_block_at reader_step.Failed h = tt

module _ (D : LogSide) (E : DataSide) (c : Setup) (m : SharedWords) (g : LogGhost) (h : PageGhost)
    (ls : ℕ → List Listed) (p : D.Part) (d : E.Part) (actors : List Actor) (seat : ℕ) (u : UserState)
    (more : List Line) (k : BothHalves D E c m g h ls p d actors)
    (at : get_elem? actors seat ≡ maybe.some (actor.User u)) (done : u.step ≡ user_step.Done) where
  abbrev b : Actor
  b = actor.User (logged.taking u more)

  abbrev after : List Actor
  after = set actors seat b

  abbrev later : Setup
  later = logged.grown c u.user more

  mine : (a : Actor) → get_elem? actors seat ≡ maybe.some a → ◌≡◌ {A = Actor} a (actor.User u)
  mine a is = maybe.some-injective a (actor.User u) (sym is ∙ at)

  -- a reader is where it was
  reader_before : (j : ℕ) (r : ReaderState) → get_elem? after j ≡ maybe.some (actor.Reader r)
      → get_elem? actors j ≡ maybe.some (actor.Reader r)
  reader_before j r e = ⊎_elim
      (λ t. let z : false ≡ true = ap is_reader t.1 in absurd (cc))
      (λ t. t.1)
      (at_set actors seat j b (actor.Reader r) e)

  reader_after : (j : ℕ) (r : ReaderState) → get_elem? actors j ≡ maybe.some (actor.Reader r)
      → get_elem? after j ≡ maybe.some (actor.Reader r)
  reader_after j r e = elim (ℕ_discrete j seat) [
    | yes here ↦ (let z : true ≡ false =
        ap is_reader (mine (actor.Reader r) (ap (λ (n : ℕ). get_elem? actors n) (sym here) ∙ e)) in absurd (cc))
    | no n ↦ set_else actors seat j b n ∙ e
  ]

  lost : HasLost actors m.failed → HasLost after m.failed
  lost l = record {
    seat = l.seat;
    archiver = l.archiver;
    at = reader_after l.seat l.archiver l.at;
    lost = l.lost;
    some_code = l.some_code;
  }

  reading : ReadHalf D c m g.log p actors → ReadHalf D later m g.log p after
  reading r = record {
    asked = r.asked;
    each = λ j a e. ⊎_elim
        (λ t. subst (λ (z : Actor). ReadFits later m g.log j z) t.1 tt)
        (λ t. read_fits c later.script m g.log j a (r.each j a t.1))
        (at_set actors seat j b a e);
  }

  blocks : HaveRunBlocks D c g.log actors → HaveRunBlocks D later g.log after
  blocks r = λ j v e a. run_block_at D c later.script g.log v v.step (r j v (reader_before j v e) a)

  in_run : (j : ℕ) (a : Actor) → get_elem? after j ≡ maybe.some a → StaysInRun later a
  in_run j a e = ⊎_elim
      (λ t. subst (λ (z : Actor). StaysInRun later z) t.1 tt)
      (λ t. stays_in_run c later.script m g.log a (k.in_run j a t.1))
      (at_set actors seat j b a e)

  no_latch : (q : ℕ) → HasLatch (actor.User u) q → ⊥
  no_latch q x = ⊎_elim
      (λ e. let z : user_step.Done ≡ user_step.Failed = sym done ∙ e in absurd (cc))
      (λ y. subst (λ (s : UserStep). UserHasLatch u s q) done y) x

  latches : LatchesAreHeld c.pages m h.holder after
  latches q there latched = held (k.latches q there latched)
    where
      held : (a : Actor) × (get_elem? actors (h.holder q) ≡ maybe.some a) × HasLatch a q
          → (a : Actor) × (get_elem? after (h.holder q) ≡ maybe.some a) × HasLatch a q
      held t = elim (ℕ_discrete (h.holder q) seat) [
        | yes e ↦ (let here = mine t.0 (ap (λ (n : ℕ). get_elem? actors n) (sym e) ∙ t.1) in
            let own : HasLatch (actor.User u) q = subst (λ (z : Actor). HasLatch z q) here t.2 in
            absurd (no_latch q own))
        | no n ↦ (t.0, set_else actors seat (h.holder q) b n ∙ t.1, t.2)
      ]

  closed : UsersClosed g.log h.closed after
  closed j v e = ⊎_elim
      (λ t. subst (UserClosed g.log h.closed) (ap (user_or u) t.1)
      (record { answered = (k.closed seat u at).answered; in_hand = tt }))
      (λ t. k.closed j v t.1)
      (at_set actors seat j b (actor.User v) e)

  still : HasHolder link_buffer.Closed actors → HasHolder link_buffer.Closed after
  still t = elim (ℕ_discrete t.0 seat) [
    | yes e ↦ (let here = mine t.1 (ap (λ (n : ℕ). get_elem? actors n) (sym e) ∙ t.2) in
        let held : user_holds_tail link_buffer.Closed u.step ≡ true =
        sym (ap (holds_tail link_buffer.Closed) here) ∙ t.3 in
        let z : false ≡ true = sym (ap (user_holds_tail link_buffer.Closed) done) ∙ held in absurd (cc))
    | no n ↦ (t.0, t.1, set_else actors seat t.0 b n ∙ t.2, t.3)
  ]

  pub both_take_lines : logged.Agree more u.lines u.k → u.k < length more → logged.AreSound more → AreFit c more
      → lsn (m.sn + sum_over_actors left_to_reserve after) < LSN_LIMIT → BothHalves D E later m g h ls p d after
  both_take_lines agree longer sound fit room = record {
    script = scripted c u.user more k.script fit;
    cause = λ failed. ⊎_elim inl (λ other. inr (⊎_elim inl (λ l. inr (lost l)) other)) (k.cause failed);
    logged = logged.half_takes_lines D c m g p actors seat u more k.logged at done agree longer sound room;
    asked = k.asked;
    stays = k.stays;
    latches = latches;
    closed = closed;
    advanced = λ held. still (k.advanced held);
    reading = λ tells. reading (k.reading tells);
    blocks = λ tells. blocks (k.blocks tells);
    archiver = λ j r e a. archiver_has c later.script m g.log r (k.archiver j r (reader_before j r e) a);
    in_run = in_run;
    paged = paged.half_takes_lines E c later.script m g.log h ls d (D.stable p) actors seat u more k.paged at fit.names;
  }

-- the actors keep their seats, in a run into which lines are handed
pub seats_take_lines : {live : Bool} (c : Setup) (actors : List Actor) → live ≡ true → AreSeated live c actors → (seat : ℕ) (u : UserState)
    (more : List Line) → get_elem? actors seat ≡ maybe.some (actor.User u)
    → AreSeated live (logged.grown c u.user more) (set actors seat (actor.User (logged.taking u more)))
seats_take_lines c actors is seated seat u more at =
    let same = user_keeps c actors seated seat u (logged.taking u more) at refl refl in
    let here = user_seat c (set actors seat (actor.User (logged.taking u more))) same seat (logged.taking u more)
    (set_at actors seat (actor.User u) (actor.User (logged.taking u more)) at) in
    record {
      users = same.users;
      writer = same.writer;
      flusher = same.flusher;
      others = same.others;
      are = same.are;
      page_actors = same.page_actors;
      ascending = same.ascending;
      have_lines = λ fixed. let z : true ≡ false = sym is ∙ fixed in absurd (cc);
      keep = same.keep;
      all = λ user some. elim (ℕ_discrete user u.user) [
        | yes own ↦ (seat, logged.taking u more, here, sym own)
        | no other ↦ same.all user
            (subst (λ (z : List Line). 0 < length z) (changed_else c.script u.user more user other) some)
      ];
      closer = same.closer;
      cleaner = same.cleaner;
      checkpointer = same.checkpointer;
    }

-- each value that a group writes is a byte still
pub bytes_take_lines : (c : Setup) (user : ℕ) (more : List Line) → HasBytes c → paged.NamePages c more
    → HasBytes (logged.grown c user more)
bytes_take_lines c user more h names = record {
  opened = h.opened;
  cells = λ v j k i. on
      (λ z. (get_or (change_at (line_at z j).changes k).cells i (record { at = 0; value = 0 })).value < 256)
      c.script user more (λ w. h.cells w j k i) (names.are_bytes j k i) v;
}
