-- The own steps of a user that is alone: where it would wait, it sets out on an errand.
use Rattle.std.proofs.Common.{Bool, List, [], ap, arith, cond, drop, eq-eqb, eqb, eqb-true, false, inl, inr, length, length-append, ltb, refl, subst, sym, true, ℕ, ◌%◌, ◌*◌, ◌++◌, ◌+◌, ◌/◌, ◌∙◌, ◌∷◌, ◌≡◌, ◌≤◌, ◌⊎◌}
use Rattle.std.proofs.lemmas.Bool.{leb-false, ltb-false}
use Rattle.std.specs.Prelude.{nat_lt, slice_index}
use Rattle.model_core.proofs.Lsns.{floor_grows, lsn_le, lsn_near}
use Rattle.model_core.proofs.Tails.{held_in, tail_in}
use Rattle.model_core.specs.{Advance, answered, can_link, changes, floor, group_bytes, group_end, has_passed, has_room, has_space, heard, holds_tail, is_held, Line, line_at, Listed, LoadedMarks, lsn, mode, next_count, PageChange, shared_left, SharedWords, tail_of, tail_word, user_op, user_took, user_waits, UserState, with_link_room, without_link_room, user_holds_tail, DataSide, LogSide, Setup}
use Rattle.model_core.specs.ActorProgram.{opposite}
use Rattle.model_core.specs.declared.ops.Op.TheVariants as op
use Rattle.model_core.specs.declared.words.Word.TheVariants as word
use Rattle.model_core.specs.declared.ops.Answer.{Answer}
use Rattle.model_core.specs.declared.steps.UserStep.{UserStep}
use Rattle.model_base.specs.declared.limits.TheConstants.{BLOCK_SIZE}
use Rattle.model_log.specs.declared.layout.TheConstants.{BLOCK_DATA}
use Rattle.model_core.specs.declared.limits.TheConstants.{ADVANCE_PLACES, FREE_MARGIN, LOG_BUFFER, WRITTEN_LINKS}
use Rattle.model_core.specs.declared.steps.AdvanceStep.TheVariants as advance_step
use Rattle.model_core.specs.declared.steps.UserStep.TheVariants as user_step
use Rattle.model_core.specs.declared.words.LinkBuffer.TheVariants as link_buffer
use Rattle.model_core.specs.States as actor
use Rattle.model_logcore.proofs.UserGroups.{lengths_step}
use Rattle.model_logcore.specs.{UserAt, UserFits, left_to_reserve, lengths}
use Rattle.model_own.specs.{all_actors, LogWork, OwnUser, helps_at, keeps_helped}
use Rattle.model_ownrun.proofs.Linked.{Below, copied_below, far_enough, no_link, tail_free}
use Rattle.model_ownrun.proofs.Moves.{answer_to, Runs}
use Rattle.model_ownrun.specs.OwnRunning.{Alone, HasHelped, OutAt, UserAlone}
use Rattle.model_pagecore.specs.PageHalf.{UserPageFits, UserPagesAt}

module _ (D : LogSide) (E : DataSide) (c : Setup) (m : SharedWords) (ls : ℕ → List Listed) (p : D.Part)
    (d : E.Part) (o : OwnUser) (k : LogWork) (runs : Runs D E c m ls p d (all_actors (o ∷ []) k []))
    (alone_log : c.log_only ≡ true) (alone : Alone c m o k) (asks : o.user.checks ≡ false) (code : ℕ) (q : D.Part)
    (free_writer : holds_tail link_buffer.Written (actor.Writer k.writer) ≡ false) where
  fits : UserFits D c m runs.0 p 0 o.user
  fits = runs.2.logged.each 0 (actor.User o.user) refl

  no_pages : length (changes o.user) ≡ 0
  no_pages =
      let none : ◌≡◌ {A = List PageChange} (line_at (c.script o.user.user) o.user.k).changes [] =
      runs.2.script.alone alone_log o.user.user o.user.k in
      ap (λ (l : List Line). length (line_at l o.user.k).changes) fits.lines
      ∙ ap (λ (l : List PageChange). length l) none

  abbrev told : UserStep → Answer
  told s = answer_to D p code q m ls (user_op o.user s)

  abbrev left : UserStep → SharedWords
  left s = shared_left m (user_op o.user s)

  abbrev Room : SharedWords → UserState → Type 0
  Room m1 u1 = lsn (m1.sn + left_to_reserve (actor.User u1)) + FREE_MARGIN ≤ m1.ckpt + BLOCK_SIZE * c.blocks

  -- Its condition holds, or it sets out on an errand. There is room. What it knows by an errand it goes on knowing
  -- between the two loads of the free-space check.
  abbrev pub Goes : UserStep → Bool → SharedWords → UserState → Type 0
  Goes s waits m1 u1 = (((waits ≡ false) × UserAlone m1 u1 u1.step)
      ⊎ ((waits ≡ true) × (helps_at s ≡ true) × (o.helped ≡ false) × OutAt u1.step))
      × Room m1 u1
      × (keeps_helped s ≡ true → HasHelped m o.user s → HasHelped m1 u1 u1.step × (u1.checks ≡ o.user.checks))

  helps_by : (b : Bool) → o.helped ≡ b → (o.helped ≡ true → ⊥) → o.helped ≡ false
  helps_by true e isnt = absurd (isnt e)
  helps_by false e isnt = e

  -- it goes on; it sets out
  on : (s : UserStep) (m1 : SharedWords) (u1 : UserState) → keeps_helped s ≡ false → Room m1 u1
      → UserAlone m1 u1 u1.step
      → Goes s false m1 u1
  on s m1 u1 no_check room knows =
      (inl (refl, knows), room, (λ e h. let z : true ≡ false = sym e ∙ no_check in absurd (cc)))

  out : (s : UserStep) (m1 : SharedWords) (u1 : UserState) → keeps_helped s ≡ false → helps_at s ≡ true → OutAt u1.step
      → Room m1 u1 → (o.helped ≡ true → ⊥) → Goes s true m1 u1
  out s m1 u1 no_check helps at room isnt = (
    inr (refl, helps, helps_by o.helped refl isnt, at),
    room,
    (λ e h. let z : true ≡ false = sym e ∙ no_check in absurd (cc)),
  )

  -- THE USER after an answer of which it depends how it goes on
  abbrev with_space : Bool → Bool → UserState
  with_space space none = cond space
      (record o.user { page = 0; cell = 0; step = cond none user_step.Reserve user_step.TakeLatch })
      (record o.user { checks = true; step = user_step.LoadCheckpoint })

  abbrev with_room : Bool → UserState
  with_room room = cond room
      (record o.user { loaded = record o.user.loaded { write = m.write }; step = user_step.AddCell })
      (record o.user { loaded = record o.user.loaded { write = m.write }; checks = true; step = user_step.LoadWrite })

  abbrev with_cell : Bool → Bool → UserState
  with_cell last crosses = record o.user {
    copied = o.user.copied + next_count o.user;
    step = cond last (cond crosses user_step.StoreFirst user_step.LoadWtail) user_step.AddCell;
  }

  abbrev tail_now : ℕ
  tail_now = tail_word m.wtail m.wheld

  abbrev linking : Bool → Bool → UserStep → UserState
  linking can checks otherwise = cond can (with_link_room o.user tail_now)
      (without_link_room o.user tail_now checks otherwise)

  abbrev adv : Advance
  adv = o.user.advance

  abbrev link_found : ℕ
  link_found = slice_index m.wlinks (o.user.advance.place % WRITTEN_LINKS)

  abbrev with_tail : ℕ → Bool → SharedWords
  with_tail tail held = record m { wtail = tail_of (tail_word tail held); wheld = is_held (tail_word tail held) }

  -- by its advance: whether the tail stays where it is, and its next step
  abbrev advanced : Advance → ℕ → Bool → UserStep → UserState
  advanced v tail stays next = record o.user {
    loaded = record o.user.loaded { wtail = tail };
    advance = v;
    checks = stays;
    step = cond stays user_step.LoadWtail next;
  }

  abbrev loads : Bool → UserState
  loads held =
      advanced (record adv { tail = tail_of tail_now }) (tail_of tail_now) held
      (user_step.AdvanceWritten advance_step.TakeTail)

  abbrev takes : Bool → UserState
  takes found = advanced (record adv { place = adv.tail }) o.user.loaded.wtail (cond found false true)
      (user_step.AdvanceWritten advance_step.LoadLink)

  abbrev follows : Bool → UserState
  follows none = advanced (record adv { link = link_found }) o.user.loaded.wtail false
      (user_step.AdvanceWritten (cond none advance_step.FreeTail advance_step.ClearLink))

  abbrev clears : Bool → UserState
  clears near = advanced (record adv { place = adv.place + adv.link; link = 0 }) o.user.loaded.wtail false
      (user_step.AdvanceWritten (cond near advance_step.LoadLink advance_step.FreeTail))

  abbrev frees : Bool → UserState
  frees same = advanced adv o.user.loaded.wtail same user_step.ReloadWtail

  -- its commit is answered: that of its last group, or not
  abbrev next_group : UserState → Bool → UserState
  next_group u last = record u {
    k = u.k + 1;
    checks = cond last false true;
    step = cond last user_step.Done user_step.LoadCheckpoint;
  }

  abbrev with_link : Bool → Bool → Bool → UserState
  with_link none at_once last =
      cond none (cond at_once (next_group o.user last) (record o.user { step = user_step.AwaitMark }))
      (record o.user { step = user_step.LoadCtail })

  abbrev with_mark_of : LoadedMarks → Bool → Bool → UserState
  with_mark_of marks passed last = cond passed (next_group (record o.user { loaded = marks }) last)
      (record o.user { loaded = marks; checks = true; step = user_step.AwaitMark })

  abbrev mark_now : Bool → ℕ
  mark_now flushed = heard (answer_to D p code q m ls (op.Load (cond flushed word.Flushed word.Write)))

  abbrev marks_now : Bool → LoadedMarks
  marks_now flushed = cond flushed (record o.user.loaded { flushed = mark_now flushed })
      (record o.user.loaded { write = mark_now flushed })

  -- the group in hand and all below it are linked, up to its start
  abbrev BelowStart : Type 0
  BelowStart = Below D c m runs.0 p o.user k.writer k.flusher runs.2.logged o.user.start

  user_by : (s : UserStep) → o.user.step ≡ s → UserAt D c m runs.0 p 0 o.user s
      → UserPagesAt E c m runs.0.log runs.1 ls d 0 o.user s → UserAlone m o.user s
      → (o.helped ≡ true → HasHelped m o.user s)
      → Goes s (user_waits o.user (heard (told s)) s) (left s) (user_took o.user (heard (told s)) s)
  user_by user_step.LoadCheckpoint is at pages knows helped =
      (inl (refl, refl), alone.room, (λ _ h. ((h.0, (λ e. absurd (cc))), refl)))
  user_by user_step.LoadSn is at pages knows helped = by (has_space o.user m.sn) refl (eqb (length (changes o.user)) 0)
    where
      by : (b : Bool) → has_space o.user m.sn ≡ b → (b2 : Bool) → Goes user_step.LoadSn (opposite b) m (with_space b b2)
      by true e true = on user_step.LoadSn m (with_space true true) refl alone.room tt
      by true e false = on user_step.LoadSn m (with_space true false) refl alone.room tt
      by false e b2 =
          let few = leb-false (lsn m.sn + FREE_MARGIN) (o.user.loaded.ckpt + BLOCK_SIZE * o.user.blocks) e in
          let room = alone.room in
          let l = lsn_le m.sn (m.sn + left_to_reserve (actor.User o.user)) (omega arith) in
          let ring : BLOCK_SIZE * o.user.blocks ≡ BLOCK_SIZE * c.blocks = ap (λ (n : ℕ). BLOCK_SIZE * n) fits.blocks in
          absurd (omega arith)
  user_by user_step.TakeLatch is at pages knows helped = let z = pages.1 in let n = no_pages in absurd (omega arith)
  user_by user_step.Reserve is at pages knows helped =
      on user_step.Reserve (left user_step.Reserve)
      (user_took o.user (heard (told user_step.Reserve)) user_step.Reserve) refl room tt
    where
      room : Room (left user_step.Reserve) (user_took o.user (heard (told user_step.Reserve)) user_step.Reserve)
      room =
          let n : ℕ = length o.user.starts in
          let bytes : ℕ → ℕ = λ i. length (line_at o.user.lines i).bytes in
          let none = at.0 in
          let l = lengths_step o.user.lines n (let y = at.1 in omega arith) in
          let long : bytes n ≡ length (group_bytes o.user) = ap bytes none in
          let more : length (o.user.starts ++ m.sn ∷ []) ≡ n + 1 = length-append o.user.starts (m.sn ∷ []) in
          let drops : lengths (drop (length (o.user.starts ++ m.sn ∷ [])) o.user.lines)
          ≡ lengths (drop (n + 1) o.user.lines) =
          ap (λ (i : ℕ). lengths (drop i o.user.lines)) more in
          let sum : m.sn + length (group_bytes o.user) + lengths
          (drop (length (o.user.starts ++ m.sn ∷ [])) o.user.lines)
          ≡ m.sn + left_to_reserve (actor.User o.user) = omega arith in
          subst (λ (i : ℕ). lsn i + FREE_MARGIN ≤ m.ckpt + BLOCK_SIZE * c.blocks) (sym sum) alone.room
  user_by user_step.LoadWrite is at pages knows helped = by (has_room o.user m.write) refl
    where
      enough : has_room o.user m.write ≡ false → o.helped ≡ true → ⊥
      enough e h =
          let low = (helped h).0 in
          let isnt = ltb-false (lsn (group_end o.user)) (floor m.write + LOG_BUFFER) e in
          let up = floor_grows (lsn o.user.start) m.write low in
          let few = (fits.sound o.user.k at.1).1 in
          let near = lsn_near o.user.start (length (group_bytes o.user)) few in
          omega arith

      by : (b : Bool) → has_room o.user m.write ≡ b → Goes user_step.LoadWrite (opposite b) m (with_room b)
      by true e = on user_step.LoadWrite m (with_room true) refl alone.room tt
      by false e = out user_step.LoadWrite m (with_room false) refl refl tt alone.room (enough e)
  user_by user_step.AddCell is at pages knows helped =
      by (eqb (o.user.copied + next_count o.user) (length (group_bytes o.user)))
      (nat_lt (o.user.start / BLOCK_DATA) (group_end o.user / BLOCK_DATA))
    where
      by : (b b2 : Bool) → Goes user_step.AddCell false (left user_step.AddCell) (with_cell b b2)
      by true true = on user_step.AddCell (left user_step.AddCell) (with_cell true true) refl alone.room tt
      by true false = on user_step.AddCell (left user_step.AddCell) (with_cell true false) refl alone.room tt
      by false b2 = on user_step.AddCell (left user_step.AddCell) (with_cell false b2) refl alone.room tt
  user_by user_step.StoreFirst is at pages knows helped =
      on user_step.StoreFirst (left user_step.StoreFirst)
      (user_took o.user (heard (told user_step.StoreFirst)) user_step.StoreFirst) refl alone.room tt
  user_by user_step.LoadWtail is at pages knows helped = by (can_link o.user (tail_of tail_now)) refl
    where
      by : (b : Bool) → can_link o.user (tail_of tail_now) ≡ b
          → Goes user_step.LoadWtail false m (linking b false (user_step.AdvanceWritten advance_step.LoadTail))
      by true e = on user_step.LoadWtail m (linking true false (user_step.AdvanceWritten advance_step.LoadTail)) refl
          alone.room tt
      by false e =
          let isnt = ltb-false (lsn o.user.start) (tail_of tail_now + WRITTEN_LINKS) e in
          let t = tail_in m.wtail m.wheld in
          on user_step.LoadWtail m (linking false false (user_step.AdvanceWritten advance_step.LoadTail)) refl
          alone.room (omega arith)
  user_by (user_step.AdvanceWritten advance_step.LoadTail) is at pages knows helped =
      by (is_held tail_now) (held_in m.wtail m.wheld ∙ free)
    where
      free : m.wheld ≡ false
      free = tail_free D c m runs.0 p o.user k.writer k.flusher runs.2.logged
          (ap (user_holds_tail link_buffer.Written) is) free_writer

      by : (b : Bool) → b ≡ false → Goes (user_step.AdvanceWritten advance_step.LoadTail) b m (loads b)
      by true e = absurd (cc)
      by false e = on (user_step.AdvanceWritten advance_step.LoadTail) m (loads false) refl alone.room
          (knows, tail_in m.wtail m.wheld)
  user_by (user_step.AdvanceWritten advance_step.TakeTail) is at pages knows helped =
      by (eqb tail_now (tail_word adv.tail false)) finds
    where
      finds : eqb tail_now (tail_word adv.tail false) ≡ true
      finds =
          let free = tail_free D c m runs.0 p o.user k.writer k.flusher runs.2.logged
          (ap (user_holds_tail link_buffer.Written) is) free_writer in
          eq-eqb tail_now (tail_word adv.tail false)
          (ap (λ (b : Bool). tail_word m.wtail b) free ∙ ap (λ (t : ℕ). tail_word t false) (sym knows.1))

      by : (b : Bool) → b ≡ true → Goes (user_step.AdvanceWritten advance_step.TakeTail) (cond b false true)
          (cond b (with_tail adv.tail true) m) (takes b)
      by true e =
          let t = tail_in adv.tail true in let k0 = knows.0 in let k1 = knows.1 in
          on (user_step.AdvanceWritten advance_step.TakeTail) (with_tail adv.tail true) (takes true) refl alone.room
          (omega arith)
      by false e = absurd (cc)
  user_by (user_step.AdvanceWritten advance_step.LoadLink) is at pages knows helped = by (eqb link_found 0) refl
    where
      below : BelowStart
      below = copied_below D c m runs.0 p o.user k.writer k.flusher runs.2.logged at.0.0 at.0.2.at at.0.2.is

      by : (b : Bool) → eqb link_found 0 ≡ b → Goes (user_step.AdvanceWritten advance_step.LoadLink) false m (follows b)
      by true e =
          let all = no_link D c m runs.0 p o.user k.writer k.flusher runs.2.logged o.user.start below 0 adv at.1
          (eqb-true link_found 0 e) in
          on (user_step.AdvanceWritten advance_step.LoadLink) m (follows true) refl alone.room (knows, all)
      by false e = on (user_step.AdvanceWritten advance_step.LoadLink) m (follows false) refl alone.room knows
  user_by (user_step.AdvanceWritten advance_step.ClearLink) is at pages knows helped =
      by (ltb (adv.place + adv.link) (adv.tail + ADVANCE_PLACES)) refl
    where
      below : BelowStart
      below = copied_below D c m runs.0 p o.user k.writer k.flusher runs.2.logged at.0.0 at.0.2.at at.0.2.is

      by : (b : Bool) → ltb (adv.place + adv.link) (adv.tail + ADVANCE_PLACES) ≡ b
          → Goes (user_step.AdvanceWritten advance_step.ClearLink) false
          (left (user_step.AdvanceWritten advance_step.ClearLink)) (clears b)
      by true e = on (user_step.AdvanceWritten advance_step.ClearLink)
          (left (user_step.AdvanceWritten advance_step.ClearLink)) (clears true) refl alone.room knows
      by false e =
          let far = ltb-false (adv.place + adv.link) (adv.tail + ADVANCE_PLACES) e in
          let tail = at.1.0.tail in
          let all = far_enough D c m runs.0 p o.user k.writer k.flusher runs.2.logged o.user.start below 0 adv
          at.1.0 at.1.1 at.1.2 (omega arith) in
          on (user_step.AdvanceWritten advance_step.ClearLink)
          (left (user_step.AdvanceWritten advance_step.ClearLink)) (clears false) refl alone.room (knows, all)
  user_by (user_step.AdvanceWritten advance_step.FreeTail) is at pages knows helped = by (eqb adv.place adv.tail) refl
    where
      by : (b : Bool) → eqb adv.place adv.tail ≡ b
          → Goes (user_step.AdvanceWritten advance_step.FreeTail) b (with_tail adv.place false) (frees b)
      by true e =
          let same = eqb-true adv.place adv.tail e in
          let tail = at.1.tail in let k0 = knows.0 in let k1 = knows.1 in absurd (omega arith)
      by false e =
          let t = tail_in adv.place false in let k1 = knows.1 in
          on (user_step.AdvanceWritten advance_step.FreeTail) (with_tail adv.place false) (frees false) refl
          alone.room (omega arith)
  user_by user_step.ReloadWtail is at pages knows helped = by (can_link o.user (tail_of tail_now)) refl
    where
      by : (b : Bool) → can_link o.user (tail_of tail_now) ≡ b
          → Goes user_step.ReloadWtail (opposite b) m (linking b true user_step.LoadWtail)
      by true e = on user_step.ReloadWtail m (linking true true user_step.LoadWtail) refl alone.room tt
      by false e =
          let isnt = ltb-false (lsn o.user.start) (tail_of tail_now + WRITTEN_LINKS) e in
          let t = tail_in m.wtail m.wheld in absurd (omega arith)
  user_by user_step.StoreLink is at pages knows helped =
      by (eqb (length (changes o.user)) 0) (eqb (mode o.user) 0) (eqb (o.user.k + 1) (length o.user.lines))
    where
      by : (b b2 b3 : Bool)
          → Goes user_step.StoreLink false (left user_step.StoreLink) (with_link b b2 b3)
      by true true true = on user_step.StoreLink (left user_step.StoreLink) (with_link true true true) refl alone.room
          tt
      by true true false = on user_step.StoreLink (left user_step.StoreLink) (with_link true true false) refl
          alone.room tt
      by true false b3 = on user_step.StoreLink (left user_step.StoreLink) (with_link true false b3) refl alone.room tt
      by false b2 b3 = on user_step.StoreLink (left user_step.StoreLink) (with_link false b2 b3) refl alone.room tt
  user_by user_step.AwaitMark is at pages knows helped = by_mode (eqb (mode o.user) 1) refl
    where
      by : (n : ℕ) (marks : LoadedMarks) → (o.helped ≡ true → lsn (group_end o.user) ≤ n)
          → (b : Bool) → has_passed o.user n ≡ b → (b3 : Bool)
          → Goes user_step.AwaitMark (opposite b) m (with_mark_of marks b b3)
      by n marks low true e true = on user_step.AwaitMark m (with_mark_of marks true true) refl alone.room tt
      by n marks low true e false = on user_step.AwaitMark m (with_mark_of marks true false) refl alone.room tt
      by n marks low false e b3 =
          let isnt = leb-false (lsn (group_end o.user)) n e in
          out user_step.AwaitMark m (with_mark_of marks false b3) refl refl tt alone.room
          (λ h. let z = low h in omega arith)

      by_mode : (b : Bool) → eqb (mode o.user) 1 ≡ b
          → Goes user_step.AwaitMark (user_waits o.user (mark_now b) user_step.AwaitMark) m
          (cond (has_passed o.user (mark_now b)) (answered (record o.user { loaded = marks_now b }))
          (record o.user { loaded = marks_now b; checks = true; step = user_step.AwaitMark }))
      by_mode true e = by m.flushed (record o.user.loaded { flushed = m.flushed }) (λ h. (helped h).1 e)
          (has_passed o.user m.flushed) refl (eqb (o.user.k + 1) (length o.user.lines))
      by_mode false e = by m.write (record o.user.loaded { write = m.write }) (λ h. (helped h).0)
          (has_passed o.user m.write) refl (eqb (o.user.k + 1) (length o.user.lines))
  user_by user_step.Done is at pages knows helped =
      on user_step.Done m o.user refl alone.room (subst (λ (s : UserStep). UserAlone m o.user s) (sym is) tt)
  user_by user_step.Failed is at pages knows helped =
      on user_step.Failed m o.user refl alone.room (subst (λ (s : UserStep). UserAlone m o.user s) (sym is) tt)
  user_by user_step.LoadCtail is at pages knows helped = let z = pages.1 in let n = no_pages in absurd (omega arith)
  user_by (user_step.AdvanceClosed s) is at pages knows helped = let z = pages.1 in let n = no_pages in
      absurd (omega arith)
  user_by user_step.ReloadCtail is at pages knows helped = let z = pages.1 in let n = no_pages in absurd (omega arith)
  user_by user_step.LoadFrame is at pages knows helped = let z = pages.1.1 in let n = no_pages in absurd (omega arith)
  user_by user_step.StoreFrame is at pages knows helped = let z = pages.1.1 in let n = no_pages in absurd (omega arith)
  user_by user_step.StoreNewest is at pages knows helped = let z = pages.1.1 in let n = no_pages in absurd (omega arith)
  user_by user_step.LoadOldest is at pages knows helped = let z = pages.1.1 in let n = no_pages in absurd (omega arith)
  user_by user_step.AddToList is at pages knows helped = let z = pages.1.1 in let n = no_pages in absurd (omega arith)
  user_by user_step.StoreOldest is at pages knows helped = let z = pages.1.1 in let n = no_pages in absurd (omega arith)
  user_by user_step.GiveList is at pages knows helped = let z = pages.1.1 in let n = no_pages in absurd (omega arith)
  user_by user_step.StoreClosedLink is at pages knows helped = let z = pages.3 in let n = no_pages in
      absurd (omega arith)
  user_by user_step.ReleaseLatch is at pages knows helped = let z = pages.1 in let n = no_pages in absurd (omega arith)

  pub user_goes : Goes o.user.step (user_waits o.user (heard (told o.user.step)) o.user.step)
      (shared_left m (user_op o.user o.user.step)) (user_took o.user (heard (told o.user.step)) o.user.step)
  user_goes =
      let y : UserPageFits E c m runs.0.log runs.1 ls d 0 o.user = runs.2.paged.each 0 (actor.User o.user) refl in
      user_by o.user.step refl fits.step y.step alone.user (λ h. (alone.helped h).0)
