-- What stays of the invariant when one actor moves.
use Rattle.model_core.specs.declared.steps.ReaderStep.{ReaderStep}
use Rattle.model_core.specs.declared.steps.ReaderStep.TheVariants as reader_step
use Rattle.model_core.specs.{ReaderState, reader_holds, Actor, Advance, byte_at, ChecksWithoutTail, checkpointer_holds, CheckpointerState, CleanerState, end_of, entries, Entry, first_of, flusher_holds, FlusherState, group_bytes, HasHolder, holds, IsSized, layout_of, left_in_word, LoadedMarks, lsn, read_place, SharedWords, sum_of, Tiles, UserState, word_end, writer_holds, WriterState, LogSide, Setup}
use Rattle.model_logcore.specs.LogFits.{ReaderAt, ReaderFits, AdvanceAt, AreBelow, CheckpointerAt, CheckpointerFits, CleanerTold, LogFits, FlusherAt, FlusherFits, Hand, LacksFirst, HasAllCopied, HasLinked, HasStoppedAt, HoldsWtail, UserAt, UserFits, WriterAt, WriterFits, Counted, LogHalf, HasTaker, left_to_reserve}
use Rattle.std.proofs.Common.{Bool, List, [], ap, arith, length, refl, set, subst, suc, sym, true, zero, ℕ, ⊎_elim, ◌%◌, ◌*◌, ◌+◌, ◌/◌, ◌<◌, ◌∙◌, ◌∷◌, ◌≡◌, ◌≢◌, ◌≤◌, inl, inr}
use Rattle.std.specs.Prelude.{slice_index}
use lib.ListN.{get_elem?}
use mathlib.Core.Option.{some, some-injective, some-ne-none}
use native.Mathlib.Decide.{ℕ_discrete}
use Rattle.model_base.specs.declared.limits.TheConstants.{LSN_LIMIT}
use Rattle.model_log.specs.declared.layout.TheConstants.{BLOCK_DATA}
use Rattle.model_core.proofs.Lists.{at_set, set_at, set_else}
use Rattle.model_core.proofs.Groups.{tiles_at}
use Rattle.model_core.proofs.Lsns.{floor_grows, lsn_below}
use Rattle.model_core.specs.declared.steps.AdvanceStep.{AdvanceStep}
use Rattle.model_core.specs.declared.steps.UserStep.{UserStep}
use Rattle.model_core.specs.declared.steps.CheckpointerStep.{CheckpointerStep}
use Rattle.model_core.specs.declared.steps.WriterStep.{WriterStep}
use Rattle.model_core.specs.declared.steps.FlusherStep.{FlusherStep}
use Rattle.model_core.specs.declared.limits.TheConstants.{WRITTEN_LINKS}
use Rattle.model_logcore.specs.LogFacts.{LogGhost, LogFacts, Place, count_of, sum_over_actors}
use Rattle.model_core.specs.declared.steps.AdvanceStep.TheVariants as advance_step
use Rattle.model_core.specs.declared.steps.UserStep.TheVariants as user_step
use Rattle.model_core.specs.declared.words.LinkBuffer.TheVariants as link_buffer
use Rattle.model_core.specs.declared.steps.WriterStep.TheVariants as writer_step
use Rattle.model_core.specs.declared.steps.FlusherStep.TheVariants as flusher_step
use Rattle.model_core.specs.declared.steps.CheckpointerStep.TheVariants as checkpointer_step
use Rattle.model_core.specs.States as actor

-- the total after a change of one
pub total_set : {V : Type 0} (f : V → ℕ) (vs : List V) (k : ℕ) (v w : V) → get_elem? vs k ≡ some v → sum_over_actors f (set vs k w) + f v ≡ sum_over_actors f vs + f w
total_set f [] k v w e = absurd (some-ne-none v (sym e))
total_set f (x ∷ xs) zero v w e = let s : f x ≡ f v = ap f (some-injective x v e) in omega arith
total_set f (x ∷ xs) (suc k) v w e = let s = total_set f xs k v w e in omega arith

pub counted_same : (actors : List Actor) (log : List Entry) (seat : ℕ) (a b : Actor) → get_elem? actors seat ≡ some a → entries b ≡ entries a → Counted actors log → Counted (set actors seat b) log
counted_same actors log seat a b e same c h =
    let s = total_set (λ x. sum_of h (entries x)) actors seat a b e in
    let t : sum_of h (entries b) ≡ sum_of h (entries a) = ap (sum_of h) same in
    let u = c h in
    omega arith

-- the holder still holds the part
pub taken_same : (actors : List Actor) (seat : ℕ) (a b : Actor) (holder : ℕ) → get_elem? actors seat ≡ some a → (holds a ≡ true → holds b ≡ true) → HasTaker actors holder → HasTaker (set actors seat b) holder
taken_same actors seat a b holder at kept t = elim (ℕ_discrete holder seat) [
  | yes e ↦ (let here : get_elem? actors seat ≡ some t.0 = subst (λ (k : ℕ). get_elem? actors k ≡ some t.0) e t.1 in
      let same : ◌≡◌ {A = Actor} t.0 a = some-injective t.0 a (sym here ∙ at) in
      (b, subst (λ (k : ℕ). get_elem? (set actors seat b) k ≡ some b) (sym e) (set_at actors seat a b at), kept (ap holds (sym same) ∙ t.2)))
  | no n ↦ (t.0, set_else actors seat holder b n ∙ t.1, t.2)
]

pub budget_same : (actors : List Actor) (seat n : ℕ) (a b : Actor) → get_elem? actors seat ≡ some a → left_to_reserve b ≤ left_to_reserve a → lsn (n + sum_over_actors left_to_reserve actors) < LSN_LIMIT → lsn (n + sum_over_actors left_to_reserve (set actors seat b)) < LSN_LIMIT
budget_same actors seat n a b e le h = let s = total_set left_to_reserve actors seat a b e in
    lsn_below (n + sum_over_actors left_to_reserve (set actors seat b)) (n + sum_over_actors left_to_reserve actors) LSN_LIMIT (omega arith) h

-- what a step leaves to the actor that holds WTAIL
pub record StillHeld (h h' : Bool) (a a' w w' t t' : ℕ) (links links' : List ℕ) : Type 0 where
  pub held : h' ≡ h
  pub advancer : a' ≡ a
  pub wtail : w' ≡ w
  pub tail : t' ≡ t
  pub link : 0 < slice_index links (lsn t % WRITTEN_LINKS) → slice_index links' (lsn t % WRITTEN_LINKS) ≡ slice_index links (lsn t % WRITTEN_LINKS)

pub unchanged : {h : Bool} {a w t : ℕ} {links : List ℕ} → StillHeld h h a a w w t t links links
unchanged = record { held = refl; advancer = refl; wtail = refl; tail = refl; link = λ z. refl }

module _ (D : LogSide) (c : Setup) where
  -- the invariant, where a held tail has a holder, and who checks for a failure holds none
  abbrev pub Kept : SharedWords → LogGhost → D.Part → List Actor → Type 0
  Kept m g p actors = (m.wheld ≡ true → HasHolder link_buffer.Written actors) → ((seat : ℕ) (a : Actor) → get_elem? actors seat ≡ some a → ChecksWithoutTail a) → LogHalf D c m g p actors

  -- the actor at one seat moves
  pub moved : (m m' : SharedWords) (g g' : LogGhost) (p p' : D.Part) (actors : List Actor) (seat : ℕ) (b : Actor) → LogHalf D c m g p actors
      → IsSized (layout_of c) m' → LogFacts D c m' g' p' → LogFits D c m' g' p' seat b
      → ((j : ℕ) (a : Actor) → j ≢ seat → get_elem? actors j ≡ some a → LogFits D c m' g' p' j a)
      → (holds b ≡ true → (m'.device ≡ 1) × (seat ≡ g'.holder))
      → ((j : ℕ) (a : Actor) → j ≢ seat → get_elem? actors j ≡ some a → holds a ≡ true → (m'.device ≡ 1) × (j ≡ g'.holder))
      → Counted (set actors seat b) g'.log
      → lsn (m'.sn + sum_over_actors left_to_reserve (set actors seat b)) < LSN_LIMIT
      → (m'.device ≡ 1 → HasTaker (set actors seat b) g'.holder)
      → Kept m' g' p' (set actors seat b)
  moved m m' g g' p p' actors seat b before sized global mine others turn turns counted room taken = λ advanced without_tail. record {
    sized = sized;
    global = global;
    each = λ j a e. ⊎_elim (λ t. subst (λ (z : ℕ × Actor). LogFits D c m' g' p' z.0 z.1) (λ i. (sym t.0 i, t.1 i)) mine) (λ t. others j a t.0 t.1) (at_set actors seat j b a e);
    turns = λ j a e. ⊎_elim (λ t. subst (λ (z : ℕ × Actor). holds z.1 ≡ true → (m'.device ≡ 1) × (z.0 ≡ g'.holder)) (λ i. (sym t.0 i, t.1 i)) turn) (λ t. turns j a t.0 t.1) (at_set actors seat j b a e);
    counted = counted;
    room = room;
    taken = taken;
    advanced = advanced;
    without_tail = without_tail;
  }

  -- the same where it holds what it held, and its groups stay
  pub moved_on : (m m' : SharedWords) (g g' : LogGhost) (p p' : D.Part) (actors : List Actor) (seat : ℕ) (a b : Actor) → LogHalf D c m g p actors → get_elem? actors seat ≡ some a
      → IsSized (layout_of c) m' → LogFacts D c m' g' p' → LogFits D c m' g' p' seat b
      → ((j : ℕ) (x : Actor) → j ≢ seat → get_elem? actors j ≡ some x → LogFits D c m' g' p' j x)
      → m'.device ≡ m.device → g'.holder ≡ g.holder → g'.log ≡ g.log → m'.sn ≡ m.sn
      → holds b ≡ holds a → ◌≡◌ {A = List Entry} (entries b) (entries a) → left_to_reserve b ≤ left_to_reserve a
      → Kept m' g' p' (set actors seat b)
  moved_on m m' g g' p p' actors seat a b before at sized global mine others device holder log sn keep same le = moved m m' g g' p p' actors seat b before sized global mine others
      (λ e. let t = before.turns seat a at (sym keep ∙ e) in (device ∙ t.0, t.1 ∙ sym holder))
      (λ j x n e h. let t = before.turns j x e h in (device ∙ t.0, t.1 ∙ sym holder))
      (subst (λ (l : List Entry). Counted (set actors seat b) l) (sym log) (counted_same actors g.log seat a b at same before.counted))
      (subst (λ (n : ℕ). lsn (n + sum_over_actors left_to_reserve (set actors seat b)) < LSN_LIMIT) (sym sn) (budget_same actors seat m.sn a b at le before.room))
      (λ d. subst (λ (k : ℕ). HasTaker (set actors seat b) k) (sym holder) (taken_same actors seat a b g.holder at (λ e. keep ∙ e) (before.taken (sym device ∙ d))))

  -- what a step leaves to the users at other seats
  pub record Later (m : SharedWords) (g : LogGhost) (m' : SharedWords) (g' : LogGhost) (seat : ℕ) : Type 0 where
    pub write : m.write ≤ m'.write
    pub wtail : m.wtail ≤ m'.wtail
    pub ckpt : m.ckpt ≤ m'.ckpt
    pub flushed : m.flushed ≤ m'.flushed
    pub failed : 0 < m.failed → 0 < m'.failed
    pub logs : (i : ℕ) (e : Entry) → get_elem? g.log i ≡ some e → get_elem? g'.log i ≡ some e
    pub places : (x : ℕ) → x < m.sn → (g.place x).owner ≢ seat → ◌≡◌ {A = Place} (g'.place x) (g.place x)
    pub states : (x : ℕ) → x < m.sn → (g.place x).owner ≢ seat → g'.state x ≡ g.state x
    pub linked : (x : ℕ) → x < m.sn → g.state x ≡ 2 → g'.state x ≡ 2
    pub firsts : (q : ℕ) → 0 < g.first q → 0 < g'.first q
    pub bare : (i : ℕ) (e : Entry) → get_elem? g.log i ≡ some e → (g.place e.start).owner ≢ seat → e.start / BLOCK_DATA < end_of e / BLOCK_DATA → g.first (end_of e / BLOCK_DATA) ≡ 0 → g'.first (end_of e / BLOCK_DATA) ≡ 0
    pub seats : (v : ℕ) → g'.seat_of v ≡ g.seat_of v
    pub counts : (v : ℕ) → g.seat_of v ≢ seat → count_of v g'.log ≡ count_of v g.log
    pub answers : (v : ℕ) → g.seat_of v ≢ seat → g'.answered v ≡ g.answered v
    pub holder : g.advancer ≢ seat → m.wheld ≡ true → StillHeld m.wheld m'.wheld g.advancer g'.advancer m.wtail m'.wtail g.tail g'.tail m.wlinks m'.wlinks

  module _ (m m' : SharedWords) (g g' : LogGhost) (p p' : D.Part) where
    in_hand_later : (seat j : ℕ) (u : UserState) → Tiles c.base g.log m.sn → Later m g m' g' seat → j ≢ seat → u.copied ≤ length (group_bytes u) → Hand D c m g p j u → Hand D c m' g' p' j u
    in_hand_later seat j u T later ne le h =
        let w = (tiles_at g.log c.base m.sn h.at _ T h.is).1 in
        let other : (x : ℕ) → u.start ≤ x → x < u.start + length (group_bytes u) → (x < m.sn) × ((g.place x).owner ≢ seat) = λ x lo hi. (omega arith, λ e. ne (sym (h.own x lo hi) ∙ e)) in
        record {
          at = h.at;
          is = later.logs h.at _ h.is;
          own = λ x lo hi. let o = other x lo hi in ap (λ (q : Place). q.owner) (later.places x o.0 o.1) ∙ h.own x lo hi;
          done = λ x lo hi. let o = other x lo (omega arith) in later.states x o.0 o.1 ∙ h.done x lo hi;
          bare = λ x lo hi. let o = other x (omega arith) hi in later.states x o.0 o.1 ∙ h.bare x lo hi;
        }

    lacks_later : (seat j : ℕ) (u : UserState) → Later m g m' g' seat → j ≢ seat → Hand D c m g p j u → LacksFirst D c m g p u → LacksFirst D c m' g' p' u
    lacks_later seat j u later ne h lacks cross = later.bare h.at _ h.is (λ e. ne (sym (h.own u.start (omega arith) (omega arith)) ∙ e)) cross (lacks cross)

    linked_later : {seat : ℕ} (j : ℕ) (u : UserState) → Tiles c.base g.log m.sn → Later m g m' g' seat → HasLinked D c m g p u → HasLinked D c m' g' p' u
    linked_later j u T later h = let w = (tiles_at g.log c.base m.sn h.0 _ T h.1).1 in (h.0, later.logs _ _ h.1, λ x lo hi. later.linked x (omega arith) (h.2 x lo hi))

    stopped_later : (seat j : ℕ) (u : UserState) → Tiles c.base g.log m.sn → Later m g m' g' seat → j ≢ seat → HasStoppedAt D c m g p j u → HasStoppedAt D c m' g' p' j u
    stopped_later seat j u T later ne h = ⊎_elim
        (λ z. inl (in_hand_later seat j u T later ne z.1 z.0, z.1, (λ some. let e = z.2 some in let f = floor_grows m.write m'.write later.write in omega arith), (λ part. lacks_later seat j u later ne z.0 (z.3 part)), (λ all cross. later.firsts _ (z.4 all cross))))
        (λ z. inr (linked_later j u T later z)) h

    holds_later : (seat j : ℕ) (v : Advance) → Later m g m' g' seat → j ≢ seat → HoldsWtail D c m g p j v → HoldsWtail D c m' g' p' j v
    holds_later seat j v later ne h = let k = later.holder (λ e. ne (sym h.mine ∙ e)) h.held in record { held = k.held ∙ h.held; mine = k.advancer ∙ h.mine; tail = h.tail ∙ sym k.wtail; place = h.place ∙ ap lsn (sym k.tail) }

    advance_later : (seat j : ℕ) (v : Advance) → Later m g m' g' seat → j ≢ seat → (s : AdvanceStep) → AdvanceAt D c m g p j v s → AdvanceAt D c m' g' p' j v s
    advance_later seat j v later ne advance_step.LoadTail h = tt
    advance_later seat j v later ne advance_step.TakeTail h = tt
    advance_later seat j v later ne advance_step.LoadLink h = holds_later seat j v later ne h
    advance_later seat j v later ne advance_step.ClearLink h = let k = later.holder (λ e. ne (sym h.0.mine ∙ e)) h.0.held in
        let here : slice_index m.wlinks (lsn g.tail % WRITTEN_LINKS) ≡ v.link =
        subst (λ (t : ℕ). slice_index m.wlinks (t % WRITTEN_LINKS) ≡ v.link) h.0.place h.2 in
        (holds_later seat j v later ne h.0, h.1, subst (λ (t : ℕ). slice_index m'.wlinks (t % WRITTEN_LINKS) ≡ v.link) (sym h.0.place) (k.link (let z = h.1 in omega arith) ∙ here))
    advance_later seat j v later ne advance_step.FreeTail h = holds_later seat j v later ne h

    all_copied_later : (seat j : ℕ) (u : UserState) → Tiles c.base g.log m.sn → Later m g m' g' seat → j ≢ seat → HasAllCopied D c m g p j u → HasAllCopied D c m' g' p' j u
    all_copied_later seat j u T later ne h = (h.0, h.1, in_hand_later seat j u T later ne (let e = h.3 in omega arith) h.2, h.3, (λ l. later.firsts _ (h.4 l)))

    user_at_later : (seat j : ℕ) (u : UserState) → Tiles c.base g.log m.sn → Later m g m' g' seat → j ≢ seat → (f : UserStep) → UserAt D c m g p j u f → UserAt D c m' g' p' j u f
    user_at_later seat j u T later ne user_step.LoadCheckpoint h = h
    user_at_later seat j u T later ne user_step.LoadSn h = h
    user_at_later seat j u T later ne user_step.Reserve h = h
    user_at_later seat j u T later ne user_step.LoadWrite h = (h.0, h.1, in_hand_later seat j u T later ne (let e = h.3 in omega arith) h.2, h.3, lacks_later seat j u later ne h.2 h.4)
    user_at_later seat j u T later ne user_step.AddCell h = (h.0, h.1, in_hand_later seat j u T later ne (let e = h.3 in omega arith) h.2, h.3, (let e = h.4 in let f = floor_grows m.write m'.write later.write in omega arith), lacks_later seat j u later ne h.2 h.5, h.6)
    user_at_later seat j u T later ne user_step.StoreFirst h = (h.0, h.1, in_hand_later seat j u T later ne (let e = h.3 in omega arith) h.2, h.3, (let e = h.4 in let f = floor_grows m.write m'.write later.write in omega arith), h.5, lacks_later seat j u later ne h.2 h.6, h.7)
    user_at_later seat j u T later ne user_step.LoadWtail h = all_copied_later seat j u T later ne h
    user_at_later seat j u T later ne (user_step.AdvanceWritten s) h = (all_copied_later seat j u T later ne h.0, advance_later seat j u.advance later ne s h.1)
    user_at_later seat j u T later ne user_step.ReloadWtail h = all_copied_later seat j u T later ne h
    user_at_later seat j u T later ne user_step.StoreLink h = (h.0, h.1, in_hand_later seat j u T later ne (let e = h.3 in omega arith) h.2, h.3, (λ l. later.firsts _ (h.4 l)), (let e = h.5 in let w = later.wtail in omega arith))
    user_at_later seat j u T later ne user_step.AwaitMark h = (h.0, h.1, linked_later j u T later h.2, h.3)
    user_at_later seat j u T later ne user_step.TakeLatch h = h
    user_at_later seat j u T later ne user_step.LoadCtail h = (h.0, h.1, linked_later j u T later h.2)
    user_at_later seat j u T later ne (user_step.AdvanceClosed s) h = (h.0, h.1, linked_later j u T later h.2)
    user_at_later seat j u T later ne user_step.ReloadCtail h = (h.0, h.1, linked_later j u T later h.2)
    user_at_later seat j u T later ne user_step.LoadFrame h = (h.0, h.1, linked_later j u T later h.2)
    user_at_later seat j u T later ne user_step.StoreFrame h = (h.0, h.1, linked_later j u T later h.2)
    user_at_later seat j u T later ne user_step.StoreNewest h = (h.0, h.1, linked_later j u T later h.2)
    user_at_later seat j u T later ne user_step.LoadOldest h = (h.0, h.1, linked_later j u T later h.2)
    user_at_later seat j u T later ne user_step.AddToList h = (h.0, h.1, linked_later j u T later h.2)
    user_at_later seat j u T later ne user_step.StoreOldest h = (h.0, h.1, linked_later j u T later h.2)
    user_at_later seat j u T later ne user_step.GiveList h = (h.0, h.1, linked_later j u T later h.2)
    user_at_later seat j u T later ne user_step.StoreClosedLink h = (h.0, h.1, linked_later j u T later h.2)
    user_at_later seat j u T later ne user_step.ReleaseLatch h = (h.0, h.1, linked_later j u T later h.2)
    user_at_later seat j u T later ne user_step.Done h = h
    user_at_later seat j u T later ne user_step.Failed h = (h.0, later.failed h.1, h.2, λ held. stopped_later seat j u T later ne (h.3 held))

    below_later : {seat : ℕ} (l : LoadedMarks) → Later m g m' g' seat → AreBelow l m.ckpt m.write m.wtail m.flushed → AreBelow l m'.ckpt m'.write m'.wtail m'.flushed
    below_later l later h = record {
      ckpt_below = (let a = h.ckpt_below in let b = later.ckpt in omega arith);
      write_below = (let a = h.write_below in let b = later.write in omega arith);
      wtail_below = (let a = h.wtail_below in let b = later.wtail in omega arith);
      flushed_below = (let a = h.flushed_below in let b = later.flushed in omega arith);
    }

    pub user_later : (seat j : ℕ) (u : UserState) → Tiles c.base g.log m.sn → Later m g m' g' seat → j ≢ seat → UserFits D c m g p j u → UserFits D c m' g' p' j u
    user_later seat j u T later ne h =
        let other : g.seat_of u.user ≢ seat = (λ e. ne (sym h.own_seat ∙ e)) in
        record {
          own_seat = later.seats u.user ∙ h.own_seat;
          blocks = h.blocks;
          lines = h.lines;
          sound = h.sound;
          are_bytes = h.are_bytes;
          counted = later.counts u.user other ∙ h.counted;
          answers = later.answers u.user other ∙ h.answers;
          loaded = below_later u.loaded later h.loaded;
          step = user_at_later seat j u T later ne u.step h.step;
        }

    -- what a step leaves to the writer
    pub record Still : Type 0 where
      pub writer : g'.writer ≡ g.writer
      pub gwrite : g'.write ≡ g.write
      pub target : g'.target ≡ g.target
      pub read : g'.read ≡ g.read
      pub entered : g'.entered ≡ g.entered
      pub write : m'.write ≡ m.write
      pub ckpt : m.ckpt ≤ m'.ckpt
      pub failed : 0 < m.failed → 0 < m'.failed
      pub bytes : (x : ℕ) → c.base ≤ x → x < g.target → byte_at c.base g'.log x ≡ byte_at c.base g.log x
      pub firsts : (q : ℕ) → BLOCK_DATA * q < g.target → first_of c.base g'.log q ≡ first_of c.base g.log q
      pub written : D.written p' ≡ D.written p

    module _ (s : WriterState) (seat j : ℕ) (later : Later m g m' g' seat) (ne : j ≢ seat) (still : Still) (base : c.base % BLOCK_DATA ≡ 0) (low : c.base ≤ g.write) (reads : g.read ≤ g.target) where
      idle_later : (g.read ≡ g.write) × (D.written p ≡ m.write) → (g'.read ≡ g'.write) × (D.written p' ≡ m'.write)
      idle_later h = (still.read ∙ h.0 ∙ sym still.gwrite, still.written ∙ h.1 ∙ sym still.write)

      busy_later : (g.write < g.target) × (D.written p ≡ m.write) → (g'.write < g'.target) × (D.written p' ≡ m'.write)
      busy_later h = ((let a = h.0 in let b = still.gwrite in let d = still.target in omega arith), still.written ∙ h.1 ∙ sym still.write)

      less_later : g.read < g.target → g'.read < g'.target
      less_later h = let b = still.read in let d = still.target in omega arith

      within : (i n : ℕ) → i < n → read_place s + n ≤ g.target → read_place s + i < g.target
      within i n l le = omega arith

      writer_at_later : s.tail ≡ lsn g.target → s.from ≡ g.write / BLOCK_DATA * BLOCK_DATA → s.from + length s.kept ≡ g.read → s.from + BLOCK_DATA * length s.firsts ≡ BLOCK_DATA * g.entered
          → (st : WriterStep) → (writer_holds st ≡ true → ◌≡◌ {A = D.Part} p' p) → WriterAt D c m g p j s st → WriterAt D c m' g' p' j s st
      writer_at_later tail from long wide (writer_step.Advance v) part h = (idle_later h.0, advance_later seat j s.advance later ne v h.1)
      writer_at_later tail from long wide writer_step.LoadCheckpoint part h = (busy_later h.0, still.read ∙ h.1 ∙ sym still.gwrite)
      writer_at_later tail from long wide writer_step.LoadFirst part h = (busy_later h.0, less_later h.1, h.2, h.3)
      writer_at_later tail from long wide writer_step.ClearFirst part h = (
        busy_later h.0,
        less_later h.1,
        h.2,
        h.3,
        h.4 ∙ sym (still.firsts g.entered (let a = h.1 in let b = h.3 in omega arith)) ∙ ap (first_of c.base g'.log) (sym still.entered),
      )
      writer_at_later tail from long wide writer_step.LoadCell part h = (busy_later h.0, less_later h.1, h.2, h.3)
      writer_at_later tail from long wide writer_step.ClearCell part h = (
        busy_later h.0,
        less_later h.1,
        h.2,
        h.3,
        subst (λ (t : ℕ). word_end s ≤ t) (sym still.target) h.4,
        (λ i l. h.5 i l ∙ sym (still.bytes (read_place s + i) (let f = from in omega arith) (within i (left_in_word (read_place s)) l h.4))),
      )
      writer_at_later tail from long wide writer_step.TakeDevice part h = (busy_later h.0, still.read ∙ h.1 ∙ sym still.target, h.2)
      writer_at_later tail from long wide writer_step.GiveBroken part h = (busy_later h.0, still.read ∙ h.1 ∙ sym still.target, h.2)
      writer_at_later tail from long wide writer_step.WriteTo part h = (busy_later h.0, still.read ∙ h.1 ∙ sym still.target, h.2, ap D.failed (part refl) ∙ h.3)
      writer_at_later tail from long wide writer_step.StoreWrite part h = ((let a = h.0 in let b = still.gwrite in let d = still.target in omega arith), still.written ∙ h.1, still.read ∙ h.2 ∙ sym still.target)
      writer_at_later tail from long wide writer_step.GiveDevice part h = (idle_later h.0, h.1)
      writer_at_later tail from long wide writer_step.StoreFailed part h = (h.0, subst (λ (q : D.Part). D.Cause q s.code) (sym (part refl)) h.1)
      writer_at_later tail from long wide writer_step.GiveFailed part h = still.failed h
      writer_at_later tail from long wide writer_step.Failed part h = still.failed h

      pub writer_later : g.entered * BLOCK_DATA < g.target + BLOCK_DATA → (writer_holds s.step ≡ true → ◌≡◌ {A = D.Part} p' p) → WriterFits D c m g p j s → WriterFits D c m' g' p' j s
      writer_later near part h =
          let f = h.from in let lg = h.long in let w = h.wide in record {
            alone = h.alone ∙ sym still.writer;
            blocks = h.blocks;
            tail = h.tail ∙ ap lsn (sym still.target);
            write = h.write ∙ sym still.write;
            from = h.from ∙ ap (λ (t : ℕ). t / BLOCK_DATA * BLOCK_DATA) (sym still.gwrite);
            long = h.long ∙ sym still.read;
            kept = λ k lt. h.kept k lt ∙ sym (still.bytes (s.from + k) (omega arith) (omega arith));
            wide = h.wide ∙ ap (λ (t : ℕ). BLOCK_DATA * t) (sym still.entered);
            firsts = λ i lt. h.firsts i lt ∙ sym (still.firsts (g.write / BLOCK_DATA + i) (omega arith)) ∙ ap (λ (t : ℕ). first_of c.base g'.log (t / BLOCK_DATA + i)) (sym still.gwrite);
            ckpt = (let a = h.ckpt in let b = still.ckpt in omega arith);
            no_device_while_checking = h.no_device_while_checking;
            step = writer_at_later h.tail h.from h.long h.wide s.step part h.step;
          }

    -- what a step of another actor leaves to the flusher and to the checkpointer
    pub record Same : Type 0 where
      pub writer : g'.writer ≡ g.writer
      pub flushed : m'.flushed ≡ m.flushed
      pub ckpt_word : m'.ckpt ≡ m.ckpt
      pub failed : 0 < m.failed → 0 < m'.failed
      pub point : D.ckpt p' ≡ D.ckpt p

    flusher_at_later : (f : FlusherState) → (0 < m.failed → 0 < m'.failed) → (st : FlusherStep) → (flusher_holds st ≡ true → ◌≡◌ {A = D.Part} p' p) → FlusherAt D c m g p f st → FlusherAt D c m' g' p' f st
    flusher_at_later f same flusher_step.LoadWrite part h = tt
    flusher_at_later f same flusher_step.TakeDevice part h = tt
    flusher_at_later f same flusher_step.GiveBroken part h = tt
    flusher_at_later f same flusher_step.Sync part h = ap D.failed (part refl) ∙ h
    flusher_at_later f same flusher_step.StoreFlushed part h = h ∙ sym (ap D.stable (part refl))
    flusher_at_later f same flusher_step.GiveDevice part h = tt
    flusher_at_later f same flusher_step.StoreFailed part h = (h.0, subst (λ (q : D.Part). D.Cause q f.code) (sym (part refl)) h.1)
    flusher_at_later f same flusher_step.GiveFailed part h = same h
    flusher_at_later f same flusher_step.Failed part h = same h

    pub flusher_later_by : (j : ℕ) (f : FlusherState) → m.write ≤ m'.write → g'.writer ≡ g.writer → m'.flushed ≡ m.flushed → (0 < m.failed → 0 < m'.failed) → (flusher_holds f.step ≡ true → ◌≡◌ {A = D.Part} p' p) → FlusherFits D c m g p j f → FlusherFits D c m' g' p' j f
    flusher_later_by j f wr writer fl fa part h = record { alone = h.alone ∙ ap (λ (n : ℕ). n + 1) (sym writer); last = h.last ∙ sym fl; write = (let a = h.write in omega arith); no_device_while_checking = h.no_device_while_checking; step = flusher_at_later f fa f.step part h.step }

    pub flusher_later : (j : ℕ) (f : FlusherState) → m.write ≤ m'.write → Same → (flusher_holds f.step ≡ true → ◌≡◌ {A = D.Part} p' p) → FlusherFits D c m g p j f → FlusherFits D c m' g' p' j f
    flusher_later j f wr same part h = flusher_later_by j f wr same.writer same.flushed same.failed part h

    -- what a step of another actor leaves to a reader
    reader_at_later : (r : ReaderState) → (0 < m.failed → 0 < m'.failed) → (st : ReaderStep) → (reader_holds st ≡ true → ◌≡◌ {A = D.Part} p' p) → ReaderAt D c m g p r st → ReaderAt D c m' g' p' r st
    reader_at_later r same reader_step.LoadFlushed part h = tt
    reader_at_later r same reader_step.TakeDevice part h = tt
    reader_at_later r same reader_step.GiveBroken part h = tt
    reader_at_later r same reader_step.ReadBlock part h = ap D.failed (part refl) ∙ h
    reader_at_later r same reader_step.GiveDevice part h = tt
    reader_at_later r same reader_step.StorePlace part h = tt
    reader_at_later r same reader_step.StoreFailed part h = (h.0, subst (λ (q : D.Part). D.Cause q r.code) (sym (part refl)) h.1)
    reader_at_later r same reader_step.GiveFailed part h = same h
    reader_at_later r same reader_step.Append part h = tt
    reader_at_later r same reader_step.StoreLost part h = h
    reader_at_later r same reader_step.Failed part h = same h

    pub reader_later : (j : ℕ) (r : ReaderState) → (0 < m.failed → 0 < m'.failed) → (reader_holds r.step ≡ true → ◌≡◌ {A = D.Part} p' p) → ReaderFits D c m g p j r → ReaderFits D c m' g' p' j r
    reader_later j r fa part h = record { no_device_while_checking = h.no_device_while_checking; step = reader_at_later r fa r.step part h.step }

    -- what a step leaves to the cleaner and to the checkpointer
    pub record Rest : Type 0 where
      pub ckpt_word : m'.ckpt ≡ m.ckpt
      pub failed : 0 < m.failed → 0 < m'.failed
      pub ckpt : D.ckpt p' ≡ D.ckpt p

    cleaner_told_later : (v : CleanerState) → Rest → CleanerTold D c m g p v → CleanerTold D c m' g' p' v
    cleaner_told_later v rest h = ((λ z. rest.failed (h.0 z)), h.1)

    checkpointer_at_later : (t : CheckpointerState) → Rest → (st : CheckpointerStep) → (checkpointer_holds st ≡ true → ◌≡◌ {A = D.Part} p' p) → CheckpointerAt D c m g p t st → CheckpointerAt D c m' g' p' t st
    checkpointer_at_later t rest checkpointer_step.LoadCtail part h = rest.ckpt ∙ h
    checkpointer_at_later t rest checkpointer_step.LoadPlace part h = rest.ckpt ∙ h
    checkpointer_at_later t rest checkpointer_step.ReadList part h = rest.ckpt ∙ h
    checkpointer_at_later t rest checkpointer_step.GiveList part h = rest.ckpt ∙ h
    checkpointer_at_later t rest checkpointer_step.LoadFlushed part h = rest.ckpt ∙ h
    checkpointer_at_later t rest checkpointer_step.TakeDevice part h = rest.ckpt ∙ h
    checkpointer_at_later t rest checkpointer_step.GiveBroken part h = rest.ckpt ∙ h
    checkpointer_at_later t rest checkpointer_step.Checkpoint part h = (rest.ckpt ∙ h.0, ap D.failed (part refl) ∙ h.1)
    checkpointer_at_later t rest checkpointer_step.StoreCheckpoint part h = rest.ckpt ∙ h
    checkpointer_at_later t rest checkpointer_step.GiveDevice part h = rest.ckpt ∙ h
    checkpointer_at_later t rest checkpointer_step.StoreFailed part h = (h.0, subst (λ (q : D.Part). D.Cause q t.code) (sym (part refl)) h.1)
    checkpointer_at_later t rest checkpointer_step.GiveFailed part h = rest.failed h
    checkpointer_at_later t rest checkpointer_step.Failed part h = rest.failed h

    pub checkpointer_fits_later : (j : ℕ) (t : CheckpointerState) → Rest → (checkpointer_holds t.step ≡ true → ◌≡◌ {A = D.Part} p' p) → CheckpointerFits D c m g p j t → CheckpointerFits D c m' g' p' j t
    checkpointer_fits_later j t rest part h = record { alone = h.alone; own = h.own ∙ sym rest.ckpt_word; no_device_while_checking = h.no_device_while_checking; step = checkpointer_at_later t rest t.step part h.step }

    -- every other actor is as before
    pub others_later : (seat : ℕ) → LogFacts D c m g p → Later m g m' g' seat → Still → Same → (j : ℕ) (a : Actor) → j ≢ seat → (holds a ≡ true → ◌≡◌ {A = D.Part} p' p) → LogFits D c m g p j a → LogFits D c m' g' p' j a
    others_later seat G later still same j (actor.User u) ne part h = user_later seat j u G.tiled.tiles later ne h
    others_later seat G later still same j (actor.Writer s) ne part h = let O = G.order in writer_later s seat j later ne still O.base_even O.base_write O.read_target (let e = O.entered_target in omega arith) part h
    others_later seat G later still same j (actor.Flusher f) ne part h = flusher_later j f later.write same part h
    others_later seat G later still same j (actor.Closer t) ne part h = λ z. same.failed (h z)
    others_later seat G later still same j (actor.Cleaner v) ne part h = cleaner_told_later v (record { ckpt_word = same.ckpt_word; failed = same.failed; ckpt = same.point }) h
    others_later seat G later still same j (actor.Checkpointer t) ne part h = checkpointer_fits_later j t (record { ckpt_word = same.ckpt_word; failed = same.failed; ckpt = same.point }) part h
    others_later seat G later still same j (actor.Reader r) ne part h = reader_later j r same.failed part h

    -- the same where the writer moves, which is alone
    pub others_writer : (seat : ℕ) → seat ≡ g.writer → LogFacts D c m g p → Later m g m' g' seat → Same → (j : ℕ) (a : Actor) → j ≢ seat → (holds a ≡ true → ◌≡◌ {A = D.Part} p' p) → LogFits D c m g p j a → LogFits D c m' g' p' j a
    others_writer seat is G later same j (actor.User u) ne part h = user_later seat j u G.tiled.tiles later ne h
    others_writer seat is G later same j (actor.Writer s) ne part h = absurd (ne (h.alone ∙ sym is))
    others_writer seat is G later same j (actor.Flusher f) ne part h = flusher_later j f later.write same part h
    others_writer seat is G later same j (actor.Closer t) ne part h = λ z. same.failed (h z)
    others_writer seat is G later same j (actor.Cleaner v) ne part h = cleaner_told_later v (record { ckpt_word = same.ckpt_word; failed = same.failed; ckpt = same.point }) h
    others_writer seat is G later same j (actor.Checkpointer t) ne part h = checkpointer_fits_later j t (record { ckpt_word = same.ckpt_word; failed = same.failed; ckpt = same.point }) part h
    others_writer seat is G later same j (actor.Reader r) ne part h = reader_later j r same.failed part h

    -- the same where the flusher moves, which is alone
    pub others_flusher : (seat : ℕ) → seat ≡ g.writer + 1 → LogFacts D c m g p → Later m g m' g' seat → Still → Rest → (j : ℕ) (a : Actor) → j ≢ seat → (holds a ≡ true → ◌≡◌ {A = D.Part} p' p) → LogFits D c m g p j a → LogFits D c m' g' p' j a
    others_flusher seat is G later still rest j (actor.User u) ne part h = user_later seat j u G.tiled.tiles later ne h
    others_flusher seat is G later still rest j (actor.Writer s) ne part h = let O = G.order in writer_later s seat j later ne still O.base_even O.base_write O.read_target (let e = O.entered_target in omega arith) part h
    others_flusher seat is G later still rest j (actor.Flusher f) ne part h = absurd (ne (h.alone ∙ sym is))
    others_flusher seat is G later still rest j (actor.Closer t) ne part h = λ z. rest.failed (h z)
    others_flusher seat is G later still rest j (actor.Cleaner v) ne part h = cleaner_told_later v rest h
    others_flusher seat is G later still rest j (actor.Checkpointer t) ne part h = checkpointer_fits_later j t rest part h
    others_flusher seat is G later still rest j (actor.Reader r) ne part h = reader_later j r rest.failed part h

    -- the same where the checkpointer moves, which is alone, and the newest checkpoint may change
    pub others_pointer : (seat : ℕ) → seat ≡ c.checkpointer → LogFacts D c m g p → Later m g m' g' seat → Still → m'.flushed ≡ m.flushed → (j : ℕ) (a : Actor) → j ≢ seat → (holds a ≡ true → ◌≡◌ {A = D.Part} p' p) → LogFits D c m g p j a → LogFits D c m' g' p' j a
    others_pointer seat is G later still fl j (actor.User u) ne part h = user_later seat j u G.tiled.tiles later ne h
    others_pointer seat is G later still fl j (actor.Writer s) ne part h = let O = G.order in writer_later s seat j later ne still O.base_even O.base_write O.read_target (let e = O.entered_target in omega arith) part h
    others_pointer seat is G later still fl j (actor.Flusher f) ne part h = flusher_later_by j f later.write still.writer fl later.failed part h
    others_pointer seat is G later still fl j (actor.Closer t) ne part h = λ z. later.failed (h z)
    others_pointer seat is G later still fl j (actor.Cleaner v) ne part h = ((λ z. later.failed (h.0 z)), h.1)
    others_pointer seat is G later still fl j (actor.Checkpointer t) ne part h = absurd (ne (h.alone ∙ sym is))
    others_pointer seat is G later still fl j (actor.Reader r) ne part h = reader_later j r later.failed part h
