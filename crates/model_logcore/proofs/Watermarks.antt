-- The log half of the invariant gives the watermarks.
use Rattle.model_core.specs.declared.steps.ReaderStep.TheVariants as reader_step
use Rattle.model_logcore.specs.LogFits.{ReaderAt, ReaderFits, AdvanceAt, CheckpointerAt, CheckpointerFits, EndIsNear, FlusherAt, FlusherFits, Hand, HasLinked, HasStoredFirst, HoldsWtail, LacksFirst, UserAt, UserFits, WriterAt, WriterFits, LogHalf}
use Rattle.std.proofs.Common.{Bool, List, ap, arith, cond, eqb, eqb-true, false, inl, inr, length, refl, subst, sym, true, ℕ, ⊎_elim, ◌%◌, ◌+◌, ◌/◌, ◌<◌, ◌∙◌, ◌≡◌, ◌≢◌, ◌≤◌}
use Rattle.std.proofs.lemmas.Bool.{eqb-false}
use lib.ListN.{get_elem?}
use native.Mathlib.Decide.{dec_le}
use Rattle.model_log.specs.declared.layout.TheConstants.{BLOCK_DATA}
use Rattle.model_core.proofs.Groups.{is_crosses, tiles_at}
use Rattle.model_core.proofs.Lanes.{word_grows}
use Rattle.model_core.proofs.Lsns.{lsn_le}
use Rattle.model_core.specs.{Actor, Advance, advance_of, end_of, Entry, entry, first_of, floor, group_bytes, group_end, holds_tail, line, lsn, SharedWords, UserState, WriterState, LogSide, Setup, advance_holds, closer_holds_tail, user_holds_tail, writer_holds_tail}
use Rattle.model_core.specs.declared.steps.AdvanceStep.{AdvanceStep}
use Rattle.model_core.specs.declared.steps.CloserStep.{CloserStep}
use Rattle.model_core.specs.declared.steps.UserStep.{UserStep}
use Rattle.model_core.specs.declared.steps.WriterStep.{WriterStep}
use Rattle.model_core.specs.declared.limits.TheConstants.{LOG_BUFFER}
use Rattle.model_logcore.proofs.GroupEnds.{end_near, hand_end_near}
use Rattle.model_logcore.proofs.UserGroups.{first_is}
use Rattle.model_logcore.specs.LogFacts.{LogGhost}
use Rattle.model_logcore.specs.TailWord.{TailWordIs}
use Rattle.model_logcore.specs.Watermarks.{first_in_hand, HandAgrees, HasCopied, HasLoadedBelow, HasMetFailure, IsGroupLinked, LogWatermarks, OwnMarkIs, UsersAgree}
use Rattle.model_core.specs.declared.steps.AdvanceStep.TheVariants as advance_step
use Rattle.model_core.specs.declared.steps.CloserStep.TheVariants as closer_step
use Rattle.model_core.specs.declared.words.LinkBuffer.TheVariants as link_buffer
use Rattle.model_core.specs.declared.steps.UserStep.TheVariants as user_step
use Rattle.model_core.specs.declared.steps.WriterStep.TheVariants as writer_step
use Rattle.model_core.specs.declared.steps.FlusherStep.TheVariants as flusher_step
use Rattle.model_core.specs.declared.steps.CheckpointerStep.TheVariants as checkpointer_step
use Rattle.model_core.specs.States as actor
use mathlib.Core.Option as maybe

module _ (D : LogSide) (c : Setup) (m : SharedWords) (g : LogGhost) (p : D.Part) (actors : List Actor) (half : LogHalf D c m g p actors) where
  -- each mark that an actor has loaded is at most the word now
  pub loaded_below : (seat : ℕ) (a : Actor) → get_elem? actors seat ≡ maybe.some a → HasLoadedBelow m a
  loaded_below seat (actor.User u) at = let f : UserFits D c m g p seat u = half.each seat (actor.User u) at in f.loaded
  loaded_below seat (actor.Writer s) at = let f : WriterFits D c m g p seat s = half.each seat (actor.Writer s) at in ((let z = f.write in omega arith), f.ckpt)
  loaded_below seat (actor.Flusher t) at = let f : FlusherFits D c m g p seat t = half.each seat (actor.Flusher t) at in (f.write, (let z = f.last in omega arith))
  loaded_below seat (actor.Closer t) at = tt
  loaded_below seat (actor.Cleaner v) at = tt
  loaded_below seat (actor.Checkpointer t) at = tt
  loaded_below seat (actor.Reader r) at = tt

  own_mark : (seat : ℕ) (a : Actor) → get_elem? actors seat ≡ maybe.some a → OwnMarkIs m a
  own_mark seat (actor.User u) at = tt
  own_mark seat (actor.Writer s) at = let f : WriterFits D c m g p seat s = half.each seat (actor.Writer s) at in f.write
  own_mark seat (actor.Flusher t) at = let f : FlusherFits D c m g p seat t = half.each seat (actor.Flusher t) at in f.last
  own_mark seat (actor.Closer t) at = tt
  own_mark seat (actor.Cleaner v) at = tt
  own_mark seat (actor.Checkpointer t) at = let f : CheckpointerFits D c m g p seat t = half.each seat (actor.Checkpointer t) at in f.own
  own_mark seat (actor.Reader r) at = tt

  pub failures_show : (seat : ℕ) (a : Actor) → get_elem? actors seat ≡ maybe.some a → HasMetFailure a → 0 < m.failed
  failures_show seat (actor.User u) at met = let f : UserFits D c m g p seat u = half.each seat (actor.User u) at in
      let z : UserAt D c m g p seat u user_step.Failed = subst (UserAt D c m g p seat u) met f.step in z.1
  failures_show seat (actor.Writer s) at met = let f : WriterFits D c m g p seat s = half.each seat (actor.Writer s) at in
      ⊎_elim (λ e. let z : WriterAt D c m g p seat s writer_step.GiveFailed = subst (WriterAt D c m g p seat s) e f.step in z)
      (λ e. let z : WriterAt D c m g p seat s writer_step.Failed = subst (WriterAt D c m g p seat s) e f.step in z) met
  failures_show seat (actor.Flusher t) at met = let f : FlusherFits D c m g p seat t = half.each seat (actor.Flusher t) at in
      ⊎_elim (λ e. let z : FlusherAt D c m g p t flusher_step.GiveFailed = subst (FlusherAt D c m g p t) e f.step in z)
      (λ e. let z : FlusherAt D c m g p t flusher_step.Failed = subst (FlusherAt D c m g p t) e f.step in z) met
  failures_show seat (actor.Closer t) at met = half.each seat (actor.Closer t) at met
  failures_show seat (actor.Cleaner v) at met = (half.each seat (actor.Cleaner v) at).0 met
  failures_show seat (actor.Checkpointer t) at met = let f : CheckpointerFits D c m g p seat t = half.each seat (actor.Checkpointer t) at in
      ⊎_elim (λ e. let z : CheckpointerAt D c m g p t checkpointer_step.GiveFailed = subst (CheckpointerAt D c m g p t) e f.step in z)
      (λ e. let z : CheckpointerAt D c m g p t checkpointer_step.Failed = subst (CheckpointerAt D c m g p t) e f.step in z) met
  failures_show seat (actor.Reader t) at met = let f : ReaderFits D c m g p seat t = half.each seat (actor.Reader t) at in
      ⊎_elim (λ e. let z : ReaderAt D c m g p t reader_step.GiveFailed = subst (ReaderAt D c m g p t) e f.step in z)
      (λ e. let z : ReaderAt D c m g p t reader_step.Failed = subst (ReaderAt D c m g p t) e f.step in z) met

  -- a group of which so many bytes are copied isn't linked
  not_linked : (u : UserState) → HasLinked D c m g p u → HasCopied g.state u → ⊥
  not_linked u h copied =
      let w = tiles_at g.log c.base m.sn h.0 _ half.global.tiled.tiles h.1 in
      let w0 = w.2 in
      let two = h.2 u.start (omega arith) (omega arith) in
      elim (dec_le 1 u.copied) [
        | yes d ↦ (let one = copied.copied u.start (omega arith) (omega arith) in omega arith)
        | no d ↦ (let none = copied.left u.start (omega arith) (omega arith) in omega arith)
      ]

  hand_copied : (seat : ℕ) (u : UserState) → Hand D c m g p seat u → HasCopied g.state u
  hand_copied seat u h = record { copied = h.done; left = h.bare }

  hand_agrees : (seat : ℕ) (u : UserState) (f : UserStep) → UserAt D c m g p seat u f → HandAgrees g.state u f
  hand_agrees seat u user_step.LoadCheckpoint h = h.0
  hand_agrees seat u user_step.LoadSn h = h.0
  hand_agrees seat u user_step.TakeLatch h = h.0
  hand_agrees seat u user_step.Reserve h = h.0
  hand_agrees seat u user_step.LoadWrite h = hand_copied seat u h.2
  hand_agrees seat u user_step.AddCell h = hand_copied seat u h.2
  hand_agrees seat u user_step.StoreFirst h = hand_copied seat u h.2
  hand_agrees seat u user_step.LoadWtail h = hand_copied seat u h.2
  hand_agrees seat u (user_step.AdvanceWritten s) h = hand_copied seat u h.0.2
  hand_agrees seat u user_step.ReloadWtail h = hand_copied seat u h.2
  hand_agrees seat u user_step.StoreLink h = hand_copied seat u h.2
  hand_agrees seat u user_step.Done h = h.0
  hand_agrees seat u user_step.Failed h = λ held. ⊎_elim (λ z. inl (hand_copied seat u z.0)) (λ z. inr z.2) (h.3 held)
  hand_agrees seat u _ h = h.2.2

  user_fits : (seat : ℕ) (u : UserState) → get_elem? actors seat ≡ maybe.some (actor.User u) → UserFits D c m g p seat u
  user_fits seat u at = half.each seat (actor.User u) at

  users_agree : UsersAgree g.log g.state actors
  users_agree = record {
    answered = λ seat u at i e is own below.
        let f = user_fits seat u at in
        let a : g.answered e.user ≡ u.k = ap g.answered own ∙ f.answers in
        half.global.commits.linked i e is (omega arith);
    in_hand = λ seat u at. hand_agrees seat u u.step (user_fits seat u at).step;
    done = λ seat u at is. let z : UserAt D c m g p seat u user_step.Done = subst (UserAt D c m g p seat u) is (user_fits seat u at).step in z.2;
    failed = λ seat u at is. let z : UserAt D c m g p seat u user_step.Failed = subst (UserAt D c m g p seat u) is (user_fits seat u at).step in z.2;
  }

  -- a linked group that isn't wholly read has a byte that isn't read, and FIRST of the block that it ends in is stored
  end_below : (i : ℕ) (e : Entry) → get_elem? g.log i ≡ maybe.some e → g.read < end_of e → IsGroupLinked g.state e → lsn (end_of e) < floor m.write + LOG_BUFFER
  end_below i e is unread linked =
      let G = half.global in
      let w = tiles_at g.log c.base m.sn i e G.tiled.tiles is in
      let w1 = w.1 in let w2 = w.2 in
      let two : g.state e.start ≡ 2 = linked e.start (omega arith) (omega arith) in
      let by : (x : ℕ) → g.read ≤ x → e.start ≤ x → x < end_of e → lsn (end_of e) < floor m.write + LOG_BUFFER = λ x above lo hi. let copied = linked x lo hi in
      end_near c.base m.firsts m.write g.write g.log g.first g.state g.entered e.start x (end_of e) G.order.write_is G.first_offsets lo (G.ring_cells.stands x (word_grows g.read x above) (omega arith) (omega arith)).1 (λ crosses. G.first_offsets.stored i e is two crosses) in
      elim (dec_le g.read e.start) [ yes d ↦ by e.start d (omega arith) (omega arith) | no n ↦ by g.read (omega arith) (omega arith) unread ]

  -- what a step says of a group in hand of which a byte is copied and none is linked
  hand_near : (seat : ℕ) (u : UserState) (f : UserStep) → UserAt D c m g p seat u f → length u.starts ≡ u.k + 1 → HasCopied g.state u → 0 < u.copied → EndIsNear D c m g p u
  hand_near seat u user_step.LoadCheckpoint h held copied some = let z = h.0 in absurd (omega arith)
  hand_near seat u user_step.LoadSn h held copied some = let z = h.0 in absurd (omega arith)
  hand_near seat u user_step.TakeLatch h held copied some = let z = h.0 in absurd (omega arith)
  hand_near seat u user_step.Reserve h held copied some = let z = h.0 in absurd (omega arith)
  hand_near seat u user_step.LoadWrite h held copied some = let z = h.3 in absurd (omega arith)
  hand_near seat u user_step.AddCell h held copied some = h.4
  hand_near seat u user_step.StoreFirst h held copied some = h.4
  hand_near seat u user_step.LoadWtail h held copied some = hand_end_near D c m g p seat u half.global h.2 h.3 h.4 some
  hand_near seat u (user_step.AdvanceWritten s) h held copied some = hand_end_near D c m g p seat u half.global h.0.2 h.0.3 h.0.4 some
  hand_near seat u user_step.ReloadWtail h held copied some = hand_end_near D c m g p seat u half.global h.2 h.3 h.4 some
  hand_near seat u user_step.StoreLink h held copied some = hand_end_near D c m g p seat u half.global h.2 h.3 h.4 some
  hand_near seat u user_step.Done h held copied some = let z = h.0 in absurd (omega arith)
  hand_near seat u user_step.Failed h held copied some = ⊎_elim (λ z. z.2 some) (λ z. absurd (not_linked u z copied)) (h.3 held)
  hand_near seat u _ h held copied some = absurd (not_linked u h.2 copied)

  -- FIRST of the block that a group in hand crosses into
  stored_first : (seat : ℕ) (u : UserState) → Hand D c m g p seat u → u.start / BLOCK_DATA < group_end u / BLOCK_DATA → 0 < g.first (group_end u / BLOCK_DATA) → g.first (group_end u / BLOCK_DATA) ≡ group_end u % BLOCK_DATA + 12
  stored_first seat u h cross some = let G = half.global in let e : Entry = entry u.user u.k u.start (line u) in let q : ℕ = group_end u / BLOCK_DATA in
      G.first_offsets.true_first q some ∙ first_is c m.sn g.log g.place h.at e q G.tiled h.is (is_crosses q e refl cross)

  stopped_first : (seat : ℕ) (u : UserState) (b : Bool) → eqb u.copied (length (group_bytes u)) ≡ b → Hand D c m g p seat u → u.copied ≤ length (group_bytes u) → (u.copied < length (group_bytes u) → LacksFirst D c m g p u) → (u.copied ≡ length (group_bytes u) → HasStoredFirst D c m g p u) → u.start / BLOCK_DATA < group_end u / BLOCK_DATA
      → g.first (group_end u / BLOCK_DATA) ≡ cond b (group_end u % BLOCK_DATA + 12) 0
  stopped_first seat u true e h few lacks has cross = stored_first seat u h cross (has (eqb-true u.copied (length (group_bytes u)) e) cross)
  stopped_first seat u false e h few lacks has cross = lacks (let n = eqb-false u.copied (length (group_bytes u)) e in below_of u.copied (length (group_bytes u)) few n) cross
    where
      below_of : (a b : ℕ) → a ≤ b → a ≢ b → a < b
      below_of a b l n = omega arith

  first_hand : (seat : ℕ) (u : UserState) (f : UserStep) → UserAt D c m g p seat u f → length u.starts ≡ u.k + 1 → HasCopied g.state u → u.start / BLOCK_DATA < group_end u / BLOCK_DATA → g.first (group_end u / BLOCK_DATA) ≡ first_in_hand u f
  first_hand seat u user_step.LoadCheckpoint h held copied cross = let z = h.0 in absurd (omega arith)
  first_hand seat u user_step.LoadSn h held copied cross = let z = h.0 in absurd (omega arith)
  first_hand seat u user_step.TakeLatch h held copied cross = let z = h.0 in absurd (omega arith)
  first_hand seat u user_step.Reserve h held copied cross = let z = h.0 in absurd (omega arith)
  first_hand seat u user_step.LoadWrite h held copied cross = h.4 cross
  first_hand seat u user_step.AddCell h held copied cross = h.5 cross
  first_hand seat u user_step.StoreFirst h held copied cross = h.6 cross
  first_hand seat u user_step.LoadWtail h held copied cross = stored_first seat u h.2 cross (h.4 cross)
  first_hand seat u (user_step.AdvanceWritten s) h held copied cross = stored_first seat u h.0.2 cross (h.0.4 cross)
  first_hand seat u user_step.ReloadWtail h held copied cross = stored_first seat u h.2 cross (h.4 cross)
  first_hand seat u user_step.StoreLink h held copied cross = stored_first seat u h.2 cross (h.4 cross)
  first_hand seat u user_step.Done h held copied cross = let z = h.0 in absurd (omega arith)
  first_hand seat u user_step.Failed h held copied cross = ⊎_elim (λ z. stopped_first seat u (eqb u.copied (length (group_bytes u))) refl z.0 z.1 z.3 z.4 cross) (λ z. absurd (not_linked u z copied)) (h.3 held)
  first_hand seat u _ h held copied cross = absurd (not_linked u h.2 copied)

  -- FIRST of a block into which no group crosses
  first_none : (q : ℕ) → first_of c.base g.log q ≡ 0 → g.first q ≡ 0
  first_none q none = elim (dec_le 1 (g.first q)) [
    | yes d ↦ (let is = half.global.first_offsets.true_first q d in omega arith)
    | no d ↦ omega arith
  ]

  -- who holds the tail says so, and is the one that has held it last
  advance_held : (seat : ℕ) (v : Advance) (s : AdvanceStep) → AdvanceAt D c m g p seat v s → advance_holds s ≡ true → HoldsWtail D c m g p seat v
  advance_held seat v advance_step.LoadTail h holds = absurd (cc)
  advance_held seat v advance_step.TakeTail h holds = absurd (cc)
  advance_held seat v advance_step.LoadLink h holds = h
  advance_held seat v advance_step.ClearLink h holds = h.0
  advance_held seat v advance_step.FreeTail h holds = h

  user_held : (seat : ℕ) (u : UserState) (f : UserStep) → UserAt D c m g p seat u f → user_holds_tail link_buffer.Written f ≡ true → HoldsWtail D c m g p seat u.advance
  user_held seat u (user_step.AdvanceWritten s) h holds = advance_held seat u.advance s h.1 holds
  user_held seat u _ h holds = absurd (cc)

  writer_held : (seat : ℕ) (s : WriterState) (f : WriterStep) → WriterAt D c m g p seat s f → writer_holds_tail link_buffer.Written f ≡ true → HoldsWtail D c m g p seat s.advance
  writer_held seat s (writer_step.Advance v) h holds = advance_held seat s.advance v h.1 holds
  writer_held seat s _ h holds = absurd (cc)

  holder_is : (seat : ℕ) (a : Actor) → get_elem? actors seat ≡ maybe.some a → holds_tail link_buffer.Written a ≡ true → HoldsWtail D c m g p seat (advance_of a)
  holder_is seat (actor.User u) at holds = user_held seat u u.step (user_fits seat u at).step holds
  holder_is seat (actor.Writer s) at holds = let f : WriterFits D c m g p seat s = half.each seat (actor.Writer s) at in writer_held seat s s.step f.step holds
  holder_is seat (actor.Flusher t) at holds = absurd (cc)
  holder_is seat (actor.Closer t) at holds = absurd (let z : false ≡ true = sym (closer_off t.step) ∙ holds in cc)
    where
      closer_off : (f : CloserStep) → closer_holds_tail link_buffer.Written f ≡ false
      closer_off (closer_step.Advance v) = refl
      closer_off closer_step.Failed = refl
  holder_is seat (actor.Cleaner v) at holds = absurd (cc)
  holder_is seat (actor.Checkpointer t) at holds = absurd (cc)
  holder_is seat (actor.Reader t) at holds = absurd (cc)

  tail_word_is : TailWordIs link_buffer.Written m.wtail m.wheld (lsn g.tail) actors
  tail_word_is = record {
    free = λ none. let O = half.global.order in (ap lsn (O.free none) ∙ sym O.wtail_is, λ seat a at. by seat a at none (holds_tail link_buffer.Written a) refl);
    taken = λ held. let t = half.advanced held in let h = holder_is t.0 t.1 t.2 t.3 in
        (t.0, record { who = t.1; who_is = t.2; holds = t.3; loaded = h.tail; place = h.place; alone = λ other a at holds. sym (holder_is other a at holds).mine ∙ h.mine });
  }
    where
      by : (seat : ℕ) (a : Actor) → get_elem? actors seat ≡ maybe.some a → m.wheld ≡ false → (b : Bool) → holds_tail link_buffer.Written a ≡ b → holds_tail link_buffer.Written a ≡ false
      by seat a at none true holds = absurd (let z : false ≡ true = sym none ∙ (holder_is seat a at holds).held in cc)
      by seat a at none false holds = holds

  pub log_watermarks : LogWatermarks D c m p actors
  log_watermarks = let G = half.global in let O = G.order in let P = G.part in record {
    log = g.log;
    progress = g.state;
    first = g.first;
    write = g.write;
    wtail = g.wtail;
    flushed = g.flushed;
    tail = g.tail;
    target = g.target;
    read = g.read;
    entered = g.entered;
    groups_tile = record { tile = G.tiled.tiles; are_of_actors = half.counted; in_order = G.tiled.ranks; of_lines = G.tiled.lines };
    users_agree = users_agree;
    copied_bytes_stand = record {
      lane_stands = λ x lo hi copied. (G.ring_cells.stands x lo hi copied).0;
      lane_bare = G.ring_cells.bare;
      cleared_below = λ x lo low. (let w = lsn_le g.write g.read O.write_read in let k = O.write_is in omega arith);
      below = λ x lo hi copied. (G.ring_cells.stands x (word_grows g.read x lo) hi copied).1;
      tail_below = O.near;
      end_below = end_below;
      hand_below = λ seat u at. let f = user_fits seat u at in hand_near seat u u.step f.step;
      first_stands = G.first_offsets.slots_are;
      first_true = G.first_offsets.true_first;
      first_below = G.first_offsets.near;
      first_begun = G.first_offsets.begun;
      first_of_hand = λ seat u at. let f = user_fits seat u at in first_hand seat u u.step f.step;
      first_bare = first_none;
    };
    links_are_groups = record { link = G.written_links.links_are; first_stored = G.first_offsets.stored; standing = G.written_links.standing };
    marks_are_ordered = record {
      write_is = O.write_is;
      wtail_is = O.wtail_is;
      flushed_is = O.flushed_is;
      write_read = O.write_read;
      read_target = O.read_target;
      target_wtail = O.target_wtail;
      wtail_tail = O.wtail_tail;
      word = tail_word_is;
      tail_sn = O.tail_sn;
      read_entered = O.read_entered;
      entered_target = O.entered_target;
      linked_below = G.written_links.linked;
      write_boundary = O.write_bound;
      wtail_boundary = O.wtail_bound;
      flushed_boundary = O.flushed_bound;
      tail_boundary = O.tail_bound;
      target_boundary = O.target_bound;
      writer = λ seat s at. let f : WriterFits D c m g p seat s = half.each seat (actor.Writer s) at in (f.tail, f.from, f.long, f.wide);
      loaded = loaded_below;
      own = own_mark;
    };
    device_holds_stream = record {
      holds = P.holds;
      kept = λ seat s at. let f : WriterFits D c m g p seat s = half.each seat (actor.Writer s) at in f.kept;
      firsts = λ seat s at i l. let f : WriterFits D c m g p seat s = half.each seat (actor.Writer s) at in
          f.firsts i l ∙ ap (λ (q : ℕ). first_of c.base g.log (q + i)) (let z = f.from in omega arith);
    };
    part_marks_are_ordered = record {
      write_written = P.write_written;
      written_wtail = P.written_wtail;
      given_wtail = P.given_wtail;
      flushed_stable = P.flushed_stable;
      stable_written = P.stable_written;
      written_given = P.written_given;
      ckpt_newest = P.ckpt_part;
      newest_asked = P.ckpt_asked;
      asked_stable = P.asked_stable;
    };
    failures_show = failures_show;
    no_tail_is_kept = half.without_tail;
  }

  -- the groups that they speak of are those of the invariant
  pub watermarks_log : ◌≡◌ {A = List Entry} log_watermarks.log g.log
  unfolding log_watermarks
  watermarks_log = refl
