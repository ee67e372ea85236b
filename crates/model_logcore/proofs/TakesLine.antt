-- A user that has done all its lines takes others behind them, in a run that goes on.
use Rattle.std.proofs.Common.{List, [], ap, arith, false, length, refl, subst, sym, true, ℕ, ⊎_elim, ◌+◌, ◌<◌, ◌∙◌, ◌∷◌, ◌≡◌, ◌≢◌, ◌≤◌, set}
use Rattle.std.specs.Prelude.{slice_index}
use lib.ListN.{get_elem?}
use native.Mathlib.Decide.{ℕ_discrete}
use Rattle.model_base.specs.declared.limits.TheConstants.{LSN_LIMIT, MAX_GROUP}
use Rattle.model_core.proofs.Groups.{changed, changed_else, changed_here}
use Rattle.model_core.proofs.Lists.{at_set, set_else}
use Rattle.model_core.specs.{Actor, ChecksWithoutTail, entries_from, Entry, entry, HasHolder, holds, holds_tail, Line, line_at, lsn, PageChange, SharedWords, UserState, user_holds_tail, LogSide, Setup}
use Rattle.model_core.specs.declared.steps.UserStep.{UserStep}
use Rattle.model_core.specs.declared.steps.UserStep.TheVariants as user_step
use Rattle.model_core.specs.declared.words.LinkBuffer.{LinkBuffer}
use Rattle.model_core.specs.declared.words.LinkBuffer.TheVariants as link_buffer
use Rattle.model_logcore.proofs.Frame.{counted_same, taken_same}
use Rattle.model_logcore.proofs.UserGroups.{count_front}
use Rattle.model_logcore.specs.LogFacts.{Commits, count_of, LogFacts, LogGhost, LogPartFacts, sum_over_actors, Tiled}
use Rattle.model_logcore.specs.LogFits.{LogFits, UserAt, UserFits, LogHalf, left_to_reserve}
use Rattle.model_core.specs.States as actor
use mathlib.Core.Option as maybe

-- the script with these lines of a user
abbrev pub grown : Setup → ℕ → List Line → Setup
grown c user ls = record c { script = changed c.script user ls }

-- the user goes on with these lines
abbrev pub taking : UserState → List Line → UserState
taking u ls = record u { lines = ls; checks = true; step = user_step.LoadCheckpoint }

-- two lists of lines agree up to the k-th
abbrev pub Agree : List Line → List Line → ℕ → Type 0
Agree ls lines k = (j : ℕ) → j < k → ◌≡◌ {A = Line} (line_at ls j) (line_at lines j)

-- each line is of a group's length and of a mode, and its bytes are bytes
pub record AreSound (ls : List Line) : Type 0 where
  pub sound : (j : ℕ) → j < length ls
      → (0 < length (line_at ls j).bytes) × (length (line_at ls j).bytes ≤ MAX_GROUP) × ((line_at ls j).mode < 3)
  pub are_bytes : (j i : ℕ) → i < length (line_at ls j).bytes → slice_index (line_at ls j).bytes i < 256

entries_agree : (user : ℕ) (ls lines : List Line) (k : ℕ) (starts : List ℕ) → Agree ls lines (k + length starts)
    → ◌≡◌ {A = List Entry} (entries_from user ls k starts) (entries_from user lines k starts)
entries_agree user ls lines k [] a = refl
entries_agree user ls lines k (s ∷ ss) a =
    ap (λ (l : Line). entry user k s l ∷ entries_from user ls (k + 1) ss) (a k (omega arith))
    ∙ ap (λ (z : List Entry). entry user k s (line_at lines k) ∷ z)
    (entries_agree user ls lines (k + 1) ss (λ j h. a j (omega arith)))

module _ (D : LogSide) (c : Setup) (m : SharedWords) (g : LogGhost) (p : D.Part) (user : ℕ) (ls : List Line) where
  abbrev c' : Setup
  c' = grown c user ls

  -- what holds of another user's lines, and of those who have none
  fits_grown : (j : ℕ) (a : Actor) → ((v : UserState) → a ≡ actor.User v → v.user ≢ user)
      → LogFits D c m g p j a → LogFits D c' m g p j a
  fits_grown j (actor.User v) ne h = record {
    own_seat = h.own_seat;
    blocks = h.blocks;
    lines = h.lines ∙ sym (changed_else c.script user ls v.user (ne v refl));
    sound = h.sound;
    are_bytes = h.are_bytes;
    counted = h.counted;
    answers = h.answers;
    loaded = h.loaded;
    step = h.step;
  }
  fits_grown j (actor.Writer s) ne h = record {
    alone = h.alone;
    blocks = h.blocks;
    tail = h.tail;
    write = h.write;
    from = h.from;
    long = h.long;
    kept = h.kept;
    wide = h.wide;
    firsts = h.firsts;
    ckpt = h.ckpt;
    no_device_while_checking = h.no_device_while_checking;
    step = h.step;
  }
  fits_grown j (actor.Flusher f) ne h = record {
    alone = h.alone;
    last = h.last;
    write = h.write;
    no_device_while_checking = h.no_device_while_checking;
    step = h.step;
  }
  fits_grown j (actor.Closer t) ne h = h
  fits_grown j (actor.Cleaner v) ne h = h
  fits_grown j (actor.Checkpointer t) ne h = record {
    alone = h.alone;
    own = h.own;
    no_device_while_checking = h.no_device_while_checking;
    step = h.step;
  }
  fits_grown j (actor.Reader r) ne h = record {
    no_device_while_checking = h.no_device_while_checking;
    step = h.step;
  }

  part_grown : (write wtail flushed ckpt device : ℕ) (log : List Entry)
      → LogPartFacts D c write wtail flushed ckpt device log p → LogPartFacts D c' write wtail flushed ckpt device log p
  part_grown write wtail flushed ckpt device log P = record {
    holds = P.holds;
    written = P.written;
    stable = P.stable;
    written_is = P.written_is;
    stable_is = P.stable_is;
    written_bound = P.written_bound;
    stable_bound = P.stable_bound;
    write_written = P.write_written;
    written_wtail = P.written_wtail;
    given_wtail = P.given_wtail;
    flushed_stable = P.flushed_stable;
    stable_written = P.stable_written;
    ckpt_part = P.ckpt_part;
    written_given = P.written_given;
    ckpt_asked = P.ckpt_asked;
    asked_stable = P.asked_stable;
    turn_word = P.turn_word;
  }

free : (b : LinkBuffer) → user_holds_tail b user_step.LoadCheckpoint ≡ false
free link_buffer.Written = refl
free link_buffer.Closed = refl

free_done : (b : LinkBuffer) → user_holds_tail b user_step.Done ≡ false
free_done link_buffer.Written = refl
free_done link_buffer.Closed = refl

module _ (D : LogSide) (c : Setup) (m : SharedWords) (g : LogGhost) (p : D.Part) (actors : List Actor) (seat : ℕ)
    (u : UserState) (ls : List Line) (k : LogHalf D c m g p actors)
    (at : get_elem? actors seat ≡ maybe.some (actor.User u)) (done : u.step ≡ user_step.Done)
    (agree : Agree ls u.lines u.k) (more : u.k < length ls) (good : AreSound ls) where
  abbrev later : Setup
  later = grown c u.user ls

  abbrev b : Actor
  b = actor.User (taking u ls)

  mine : UserFits D c m g p seat u
  mine = k.each seat (actor.User u) at

  rests : (length u.starts ≡ u.k) × (u.k ≡ length u.lines) × (u.checks ≡ false)
  rests = subst (λ (s : UserStep). UserAt D c m g p seat u s) done mine.step

  -- a group of its is of one of its first lines
  below : (i : ℕ) (e : Entry) → get_elem? g.log i ≡ maybe.some e → e.user ≡ u.user → e.k < u.k
  below i e is own =
      let r = k.global.tiled.ranks i e is in
      let f = count_front g.log i e is in
      let s : count_of e.user g.log ≡ count_of u.user g.log = ap (λ (v : ℕ). count_of v g.log) own in
      let n = mine.counted in let z = rests.0 in omega arith

  same_line : (i : ℕ) (e : Entry) → get_elem? g.log i ≡ maybe.some e
      → ◌≡◌ {A = Line} (line_at (later.script e.user) e.k) (line_at (c.script e.user) e.k)
  same_line i e is = elim (ℕ_discrete e.user u.user) [
    | yes d ↦ (ap (λ (z : List Line). line_at z e.k) (changed_here c.script u.user ls e.user d)
        ∙ (agree e.k (below i e is d) ∙ ap (λ (z : List Line). line_at z e.k) (mine.lines ∙ ap c.script (sym d))))
    | no n ↦ ap (λ (z : List Line). line_at z e.k) (changed_else c.script u.user ls e.user n)
  ]

  there : (i : ℕ) (e : Entry) → get_elem? g.log i ≡ maybe.some e → e.k < length (later.script e.user)
  there i e is = elim (ℕ_discrete e.user u.user) [
    | yes d ↦ subst (λ (z : List Line). e.k < length z) (sym (changed_here c.script u.user ls e.user d))
        (let l = below i e is d in omega arith)
    | no n ↦ subst (λ (z : List Line). e.k < length z) (sym (changed_else c.script u.user ls e.user n))
        (k.global.tiled.lines i e is).0
  ]

  tiled : Tiled later m.sn g.log g.place
  tiled = let T = k.global.tiled in record {
    tiles = T.tiles;
    placed = T.placed;
    lines = λ i e is.
        let l = T.lines i e is in
        let same = sym (same_line i e is) in
        let changes : ◌≡◌ {A = List PageChange} (line_at (c.script e.user) e.k).changes
        (line_at (later.script e.user) e.k).changes = ap (λ (z : Line). z.changes) same in
        (there i e is, l.1 ∙ ap (λ (z : Line). z.bytes) same, l.2 ∙ changes);
    ranks = T.ranks;
    bytes = T.bytes;
  }

  commits : Commits later m.write m.flushed g.log g.state g.answered
  commits = let C = k.global.commits in record {
    flush = λ i e is l md. C.flush i e is l (ap (λ (z : Line). z.mode) (sym (same_line i e is)) ∙ md);
    wrote = λ i e is l md. C.wrote i e is l (ap (λ (z : Line). z.mode) (sym (same_line i e is)) ∙ md);
    linked = C.linked;
    last = C.last;
  }

  global : LogFacts D later m g p
  global = let G = k.global in record {
    tiled = tiled;
    order = G.order;
    ring_cells = G.ring_cells;
    first_offsets = G.first_offsets;
    written_links = G.written_links;
    commits = commits;
    part = part_grown D c m g p u.user ls m.write m.wtail m.flushed m.ckpt m.device g.log G.part;
  }

  fits : LogFits D later m g p seat b
  fits = record {
    own_seat = mine.own_seat;
    blocks = mine.blocks;
    lines = sym (changed_here c.script u.user ls u.user refl);
    sound = good.sound;
    are_bytes = good.are_bytes;
    counted = mine.counted;
    answers = mine.answers;
    loaded = mine.loaded;
    step = (rests.0, more);
  }

  -- no other user has its number
  other : (j : ℕ) (a : Actor) → j ≢ seat → get_elem? actors j ≡ maybe.some a
      → (v : UserState) → a ≡ actor.User v → v.user ≢ u.user
  other j a ne is v e own =
      let h : UserFits D c m g p j v = k.each j (actor.User v) (is ∙ ap (λ (z : Actor). maybe.some z) e) in
      ne (sym h.own_seat ∙ (ap g.seat_of own ∙ mine.own_seat))

  each : (j : ℕ) (a : Actor) → get_elem? (set actors seat b) j ≡ maybe.some a → LogFits D later m g p j a
  each j a e = ⊎_elim
      (λ t. subst (λ (z : ℕ × Actor). LogFits D later m g p z.0 z.1) (λ i. (sym t.0 i, t.1 i)) fits)
      (λ t. fits_grown D c m g p u.user ls j a (other j a t.0 t.1) (k.each j a t.1))
      (at_set actors seat j b a e)

  turns : (j : ℕ) (a : Actor) → get_elem? (set actors seat b) j ≡ maybe.some a → holds a ≡ true
      → (m.device ≡ 1) × (j ≡ g.holder)
  turns j a e h = ⊎_elim
      (λ t. let z : false ≡ true = ap holds t.1 ∙ h in absurd (cc))
      (λ t. k.turns j a t.1 h)
      (at_set actors seat j b a e)

  without_tail : (j : ℕ) (a : Actor) → get_elem? (set actors seat b) j ≡ maybe.some a → ChecksWithoutTail a
  without_tail j a e = ⊎_elim
      (λ t. subst ChecksWithoutTail t.1 (λ _ l. free l))
      (λ t. k.without_tail j a t.1)
      (at_set actors seat j b a e)

  held : HasHolder link_buffer.Written actors → HasHolder link_buffer.Written (set actors seat b)
  held t = elim (ℕ_discrete t.0 seat) [
    | yes e ↦ (let here : ◌≡◌ {A = Actor} t.1 (actor.User u) =
        maybe.some-injective t.1 (actor.User u) (sym t.2 ∙ (ap (λ (n : ℕ). get_elem? actors n) e ∙ at)) in
        let rested : user_holds_tail link_buffer.Written u.step ≡ false =
        ap (user_holds_tail link_buffer.Written) done ∙ free_done link_buffer.Written in
        let z : false ≡ true = sym rested ∙ (sym (ap (holds_tail link_buffer.Written) here) ∙ t.3) in absurd (cc))
    | no n ↦ (t.0, t.1, set_else actors seat t.0 b n ∙ t.2, t.3)
  ]

  pub half_takes_lines : lsn (m.sn + sum_over_actors left_to_reserve (set actors seat b)) < LSN_LIMIT
      → LogHalf D later m g p (set actors seat b)
  half_takes_lines room = record {
    sized = k.sized;
    global = global;
    each = each;
    turns = turns;
    taken = λ d. taken_same actors seat (actor.User u) b g.holder at (λ h. h) (k.taken d);
    advanced = λ d. held (k.advanced d);
    without_tail = without_tail;
    counted = counted_same actors g.log seat (actor.User u) b at
        (entries_agree u.user ls u.lines 0 u.starts (λ j h. agree j (let z = rests.0 in omega arith))) k.counted;
    room = room;
  }
