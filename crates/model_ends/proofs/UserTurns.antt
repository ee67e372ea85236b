-- What a user's turn comes to.
use Rattle.std.proofs.Common.{Bool, List, [], ap, arith, cond, drop, eqb, eqb-true, false, inl, inr, length, ltb, refl, subst, sym, true, ℕ, ⊎_elim, ◌%◌, ◌*◌, ◌+◌, ◌-◌, ◌/◌, ◌<◌, ◌==◌, ◌∙◌, ◌≡◌, ◌≤◌}
use Rattle.std.proofs.lemmas.Bool.{eqb-false}
use Rattle.std.proofs.lemmas.List.{drop_more}
use Rattle.std.specs.Prelude.{nat_le, slice_index, slice_set}
use Rattle.model_base.specs.declared.limits.TheConstants.{BLOCK_SIZE}
use Rattle.model_core.proofs.Lanes.{next_some}
use Rattle.model_core.proofs.Lsns.{lsn_le}
use Rattle.model_core.proofs.Tails.{held_in, tail_in}
use Rattle.model_core.specs.{Actor, answered, can_link, changes, group_bytes, group_end, has_passed, has_room, heard, is_held, Line, Listed, line_at, lsn, mode, next, next_count, read, shared_answer, shared_left, SharedWords, tail_of, tail_word, took, user_op, user_took, UserState, with_mark, wrote, LogSide, Setup}
use Rattle.model_core.specs.declared.steps.AdvanceStep.{AdvanceStep}
use Rattle.model_core.specs.declared.steps.UserStep.{UserStep}
use Rattle.model_core.specs.declared.limits.TheConstants.{ADVANCE_PLACES, FREE_MARGIN, WRITTEN_LINKS}
use Rattle.model_log.specs.declared.layout.TheConstants.{BLOCK_DATA}
use Rattle.model_logcore.proofs.AdvanceSteps.{is_free, tails}
use Rattle.model_logcore.specs.{LogGhost, UserAt, AdvanceAt, LogHalf}
use Rattle.model_ends.proofs.Cost.{cost, lines_steps, rest, user_cost}
use Rattle.model_ends.proofs.Links.{links_less, links_more}
use Rattle.model_ends.proofs.Outcome.{Can, IsOpen, IsOpenStep, leaves, Settled, Stands, tries, user_leaves, UserCan}
use Rattle.model_core.specs.States as actor
use Rattle.model_core.specs.declared.steps.AdvanceStep.TheVariants as advance_step
use Rattle.model_core.specs.declared.steps.UserStep.TheVariants as user_step
use Rattle.model_core.specs.declared.words.Word.TheVariants as word

-- the steps that a user takes with the log alone
abbrev pub IsLogStep : UserStep → Type 0
IsLogStep user_step.TakeLatch = ⊥
IsLogStep user_step.LoadCtail = ⊥
IsLogStep (user_step.AdvanceClosed v) = ⊥
IsLogStep user_step.ReloadCtail = ⊥
IsLogStep user_step.LoadFrame = ⊥
IsLogStep user_step.StoreFrame = ⊥
IsLogStep user_step.StoreNewest = ⊥
IsLogStep user_step.LoadOldest = ⊥
IsLogStep user_step.AddToList = ⊥
IsLogStep user_step.StoreOldest = ⊥
IsLogStep user_step.GiveList = ⊥
IsLogStep user_step.StoreClosedLink = ⊥
IsLogStep user_step.ReleaseLatch = ⊥
IsLogStep _ = Unit {0}

-- of the lines from one on
pub steps_from : (lines : List Line) (k : ℕ) → k < length lines → lines_steps (drop k lines) ≡ 12 + length (line_at lines k).bytes + lines_steps (drop (k + 1) lines)
steps_from lines k h = ap lines_steps (drop_more lines k (record { mode = 0; bytes = []; changes = [] }) h)

-- whether it checks says nothing of what is left to it, or of what it waits for
cost_same : (u : UserState) (b d : Bool) (f : UserStep) → user_cost (record u { checks = b; step = f }) f ≡ user_cost (record u { checks = d; step = f }) f
cost_same u b d (user_step.AdvanceWritten advance_step.ClearLink) = refl
cost_same u b d _ = refl

can_same : (m : SharedWords) (u : UserState) (b d : Bool) (f : UserStep) → UserCan m (record u { checks = b; step = f }) f → UserCan m (record u { checks = d; step = f }) f
can_same m u b d (user_step.AdvanceWritten advance_step.LoadTail) can = can
can_same m u b d _ can = can

some_cost : (u : UserState) (f : UserStep) → IsLogStep f → IsOpenStep f → 0 < user_cost u f
some_cost u user_step.Done l live = absurd live
some_cost u user_step.Failed l live = absurd live
some_cost u user_step.LoadCheckpoint l live = omega arith
some_cost u user_step.LoadSn l live = omega arith
some_cost u user_step.Reserve l live = omega arith
some_cost u user_step.LoadWrite l live = omega arith
some_cost u user_step.AddCell l live = omega arith
some_cost u user_step.StoreFirst l live = omega arith
some_cost u user_step.LoadWtail l live = omega arith
some_cost u (user_step.AdvanceWritten v) l live = some_advance v
  where
    some_advance : (v : AdvanceStep) → 0 < user_cost u (user_step.AdvanceWritten v)
    some_advance advance_step.ClearLink = omega arith
    some_advance _ = omega arith
some_cost u user_step.ReloadWtail l live = omega arith
some_cost u user_step.StoreLink l live = omega arith
some_cost u user_step.AwaitMark l live = omega arith
some_cost u _ l live = absurd l

-- the next line is no more than what is left after the one in hand
answered_cost : (last : ℕ) (v : UserState) → v.k < length v.lines → cost last (actor.User (answered v)) ≤ rest v
answered_cost last v less = by (v.k + 1 == length v.lines) refl
  where
    by : (b : Bool) → (v.k + 1 == length v.lines) ≡ b → cost last (actor.User (record v { k = v.k + 1; checks = cond b false true; step = cond b user_step.Done user_step.LoadCheckpoint })) ≤ rest v
    by true e = omega arith
    by false e = let ne = eqb-false (v.k + 1) (length v.lines) e in let more = steps_from v.lines (v.k + 1) (omega arith) in omega arith

module _ (D : LogSide) (c : Setup) (m : SharedWords) (g : LogGhost) (p : D.Part) (actors : List Actor) (seat : ℕ) (u : UserState) (before : LogHalf D c m g p actors) (last : ℕ) (sn_last : lsn m.sn ≤ last) (no_page : eqb (length (changes u)) 0 ≡ true) (ls : ℕ → List Listed) (broken : Bool) (code mark : ℕ) where
  -- the user at a step of its own
  abbrev own : UserStep → UserState
  own f = record u { checks = false; step = f }

  abbrev End : SharedWords → UserStep → UserState → Type 0
  End after f w = Settled last m after (actor.User (own f)) (actor.User w)

  -- it waits, and no word changes
  stays : (f : UserStep) (w : UserState) → cost last (actor.User w) ≤ cost last (actor.User (own f)) → (UserCan m (own f) f → Can m (actor.User w) × (tries (actor.User w) < tries (actor.User (own f))))
      → (IsOpenStep f → IsOpen (actor.User w) × (leaves (actor.User w) < leaves (actor.User (own f)))) → (f ≡ user_step.AdvanceWritten advance_step.FreeTail → ⊥) → End m f w
  stays f w same nearer leaving not_free = inr (record { same_cost = same; words = refl; tail = inl refl; nearer = nearer; leaving = λ _. leaving; taking = λ z. absurd z; freeing = λ z. absurd (not_free z.0) })

  never : (f : UserStep) (t : ℕ) → t ≡ m.wtail → can_link (own f) t ≡ false → can_link (own f) m.wtail ≡ true → ⊥
  never f t is none has = let z : can_link (own f) m.wtail ≡ false = subst (λ (k : ℕ). can_link (own f) k ≡ false) is none in cc

  -- the tail is loaded, to see whether there is room
  room_at : (f : UserStep) (t : ℕ) → t ≡ m.wtail → rest u + 6 ≤ user_cost (own f) f → (UserCan m (own f) f → can_link (own f) m.wtail ≡ true) → 3 ≤ user_leaves f → (f ≡ user_step.AdvanceWritten advance_step.FreeTail → ⊥) → (checks : Bool) (to : UserStep)
      → user_cost (record u { loaded = record u.loaded { wtail = t }; checks = checks; step = to }) to ≤ rest u + 6 → IsOpenStep to → leaves (actor.User (record u { loaded = record u.loaded { wtail = t }; checks = checks; step = to })) < user_leaves f
      → (b : Bool) → can_link (own f) t ≡ b
      → End m f (cond b (record (own f) { loaded = record u.loaded { wtail = t }; step = user_step.StoreLink }) (record (own f) { loaded = record u.loaded { wtail = t }; checks = checks; step = to }))
  room_at f t is high can high_leaves not_free checks to low live less true e = inl (omega arith)
  room_at f t is high can high_leaves not_free checks to low live less false e = stays f (record (own f) { loaded = record u.loaded { wtail = t }; checks = checks; step = to }) (omega arith) (λ z. absurd (never f t is e (can z))) (λ _. (live, less)) not_free

  user_advances : (v : AdvanceStep) → AdvanceAt D c m g p seat u.advance v
      → End (shared_left m (user_op (own (user_step.AdvanceWritten v)) (user_step.AdvanceWritten v))) (user_step.AdvanceWritten v) (user_took (own (user_step.AdvanceWritten v)) (heard (shared_answer ls broken code mark m (user_op (own (user_step.AdvanceWritten v)) (user_step.AdvanceWritten v)))) (user_step.AdvanceWritten v))
  user_advances advance_step.LoadTail h = by (tail_of (tail_word m.wtail m.wheld)) (tail_in m.wtail m.wheld) (is_held (tail_word m.wtail m.wheld))
    where
      by : (t : ℕ) → t ≡ m.wtail → (held : Bool)
          → End m (user_step.AdvanceWritten advance_step.LoadTail) (record (own (user_step.AdvanceWritten advance_step.LoadTail)) { loaded = record u.loaded { wtail = t }; advance = record u.advance { tail = t }; checks = held; step = cond held user_step.LoadWtail (user_step.AdvanceWritten advance_step.TakeTail) })
      by t is true = stays (user_step.AdvanceWritten advance_step.LoadTail) _ (omega arith) (λ can. (can, omega arith)) (λ _. (tt, omega arith)) (λ e. absurd (cc))
      by t is false = stays (user_step.AdvanceWritten advance_step.LoadTail) _ (omega arith) (λ can. (can, omega arith)) (λ _. (tt, omega arith)) (λ e. absurd (cc))
  user_advances advance_step.TakeTail h = by (eqb (tail_word m.wtail m.wheld) (tail_word u.advance.tail false)) refl
    where
      by : (b : Bool) → eqb (tail_word m.wtail m.wheld) (tail_word u.advance.tail false) ≡ b
          → End (cond b (wrote m word.Wtail (tail_word u.advance.tail true)) m) (user_step.AdvanceWritten advance_step.TakeTail) (record (own (user_step.AdvanceWritten advance_step.TakeTail)) { advance = record u.advance { place = u.advance.tail }; checks = cond b false true; step = cond (cond b false true) user_step.LoadWtail (user_step.AdvanceWritten advance_step.LoadLink) })
      by true e =
          let k = is_free m u.advance.tail (eqb-true (tail_word m.wtail m.wheld) (tail_word u.advance.tail false) e) in
          let t : ℕ = tail_of (tail_word u.advance.tail true) in
          let held : Bool = is_held (tail_word u.advance.tail true) in
          let t_is : t ≡ m.wtail = tail_in u.advance.tail true ∙ k.1 in
          inr (record {
            same_cost = omega arith;
            words = ap (λ (n : ℕ). record m { wtail = n; wheld = held }) t_is;
            tail = inr (inl (k.0, λ stands. inr (inl (subst (Stands m) (sym k.1) stands))));
            nearer = λ can. (inl (subst (λ (n : ℕ). can_link (own (user_step.AdvanceWritten advance_step.TakeTail)) n ≡ true) (sym t_is) can), omega arith);
            leaving = λ _ _. (tt, omega arith);
            taking = λ z. absurd z;
            freeing = λ z. let y = z.0 in absurd (cc);
          })
      by false e = stays (user_step.AdvanceWritten advance_step.TakeTail) _ (omega arith) (λ can. (can, omega arith)) (λ _. (tt, omega arith)) (λ z. absurd (cc))
  user_advances advance_step.LoadLink h = by (slice_index m.wlinks (u.advance.place % WRITTEN_LINKS)) refl (eqb (slice_index m.wlinks (u.advance.place % WRITTEN_LINKS)) 0) refl
    where
      by : (n : ℕ) → slice_index m.wlinks (u.advance.place % WRITTEN_LINKS) ≡ n → (b : Bool) → eqb n 0 ≡ b
          → End m (user_step.AdvanceWritten advance_step.LoadLink) (record (own (user_step.AdvanceWritten advance_step.LoadLink)) { advance = record u.advance { link = n }; step = user_step.AdvanceWritten (cond b advance_step.FreeTail advance_step.ClearLink) })
      by n is true e = let none = eqb-true n 0 e in stays (user_step.AdvanceWritten advance_step.LoadLink) _ (omega arith)
          (λ can. ⊎_elim (λ up. (inl up, omega arith)) (λ found_it. ⊎_elim (λ stands. absurd (omega arith)) (λ ne. (inr ne, omega arith)) found_it) can)
          (λ _. (tt, omega arith)) (λ z. absurd (cc))
      by n is false e = inl (omega arith)
  user_advances advance_step.ClearLink h = by (ltb (u.advance.place + u.advance.link) (u.advance.tail + ADVANCE_PLACES))
    where
      by : (b : Bool) → End (record m { wlinks = slice_set m.wlinks (u.advance.place % WRITTEN_LINKS) 0 }) (user_step.AdvanceWritten advance_step.ClearLink)
          (record (own (user_step.AdvanceWritten advance_step.ClearLink)) { advance = record u.advance { place = u.advance.place + u.advance.link; link = 0 }; step = user_step.AdvanceWritten (cond b advance_step.LoadLink advance_step.FreeTail) })
      by true = inl (let some = h.1 in let is = h.2 in let z = links_less m.wlinks (u.advance.place % WRITTEN_LINKS) (omega arith) in omega arith)
      by false = inl (let some = h.1 in let is = h.2 in let z = links_less m.wlinks (u.advance.place % WRITTEN_LINKS) (omega arith) in omega arith)
  user_advances advance_step.FreeTail h = by (eqb u.advance.place u.advance.tail) refl
    where
      by : (b : Bool) → eqb u.advance.place u.advance.tail ≡ b
          → End (wrote m word.Wtail (tail_word u.advance.place false)) (user_step.AdvanceWritten advance_step.FreeTail) (record (own (user_step.AdvanceWritten advance_step.FreeTail)) { checks = b; step = cond b user_step.LoadWtail user_step.ReloadWtail })
      by true e =
          let held : Bool = is_held (tail_word u.advance.place false) in
          let held_is : held ≡ false = held_in u.advance.place false in
          let t_is : tail_of (tail_word u.advance.place false) ≡ m.wtail = tail_in u.advance.place false ∙ eqb-true u.advance.place u.advance.tail e ∙ h.tail in
          inr (record {
            same_cost = omega arith;
            words = ap (λ (n : ℕ). record m { wtail = n; wheld = held }) t_is;
            tail = inr (inr held_is);
            nearer = λ can. ⊎_elim (λ up. (subst (λ (n : ℕ). can_link (own (user_step.AdvanceWritten advance_step.FreeTail)) n ≡ true) (sym t_is) up, omega arith)) (λ ne. absurd (ne (eqb-true u.advance.place u.advance.tail e))) can;
            leaving = λ _ _. (tt, omega arith);
            taking = λ z. absurd z;
            freeing = λ _. held_is;
          })
      by false e =
          let t_is = tail_in u.advance.place false in
          let ne = eqb-false u.advance.place u.advance.tail e in
          let low = tails D c m g p actors before in
          let up = lsn_le g.tail m.sn before.global.order.tail_sn in
          let place = h.place in
          let tail = h.tail in
          inl (omega arith)

  -- its turn, where it doesn't check
  user_own : (f : UserStep) → UserAt D c m g p seat (own f) f → IsLogStep f → (f ≡ user_step.LoadSn → nat_le (lsn m.sn + FREE_MARGIN) (u.loaded.ckpt + BLOCK_SIZE * u.blocks) ≡ true)
      → End (shared_left m (user_op (own f) f)) f (user_took (own f) (heard (shared_answer ls broken code mark m (user_op (own f) f))) f)
  user_own user_step.LoadCheckpoint h l space = inl (omega arith)
  user_own user_step.LoadSn h l space = by (nat_le (lsn m.sn + FREE_MARGIN) (u.loaded.ckpt + BLOCK_SIZE * u.blocks)) (eqb (length (changes u)) 0) (space refl) no_page
    where
      by : (b d : Bool) → b ≡ true → d ≡ true → End m user_step.LoadSn (cond b (record (own user_step.LoadSn) { page = 0; cell = 0; step = cond d user_step.Reserve user_step.TakeLatch }) (record (own user_step.LoadSn) { checks = true; step = user_step.LoadCheckpoint }))
      by true true e r = inl (omega arith)
      by true false e r = absurd (cc)
      by false d e r = absurd (cc)
  user_own user_step.Reserve h l space = inl (omega arith)
  user_own user_step.LoadWrite h l space = by (has_room (own user_step.LoadWrite) m.write) refl
    where
      by : (b : Bool) → has_room (own user_step.LoadWrite) m.write ≡ b → End m user_step.LoadWrite (cond b (record (own user_step.LoadWrite) { loaded = record u.loaded { write = m.write }; step = user_step.AddCell }) (record (own user_step.LoadWrite) { loaded = record u.loaded { write = m.write }; checks = true; step = user_step.LoadWrite }))
      by true e = inl (omega arith)
      by false e = stays user_step.LoadWrite _ (omega arith) (λ can. absurd (cc)) (λ _. (tt, omega arith)) (λ z. absurd (cc))
  user_own user_step.AddCell h l space = by (eqb (u.copied + next_count u) (length (group_bytes u))) (ltb (u.start / BLOCK_DATA) (group_end u / BLOCK_DATA))
    where
      by : (b d : Bool) → End (shared_left m (user_op (own user_step.AddCell) user_step.AddCell)) user_step.AddCell (record (own user_step.AddCell) { copied = u.copied + next_count u; step = cond b (cond d user_step.StoreFirst user_step.LoadWtail) user_step.AddCell })
      by true true = inl (omega arith)
      by true false = inl (omega arith)
      by false d = let less = h.3 in let some = next_some u less in inl (omega arith)
  user_own user_step.StoreFirst h l space = inl (omega arith)
  user_own user_step.LoadWtail h l space = room_at user_step.LoadWtail (tail_of (tail_word m.wtail m.wheld)) (tail_in m.wtail m.wheld) (omega arith) (λ z. z) (omega arith) (λ z. absurd (cc)) false (user_step.AdvanceWritten advance_step.LoadTail) (omega arith) tt (omega arith) (can_link (own user_step.LoadWtail) (tail_of (tail_word m.wtail m.wheld))) refl
  user_own (user_step.AdvanceWritten v) h l space = user_advances v h.1
  user_own user_step.ReloadWtail h l space = room_at user_step.ReloadWtail (tail_of (tail_word m.wtail m.wheld)) (tail_in m.wtail m.wheld) (omega arith) (λ z. z) (omega arith) (λ z. absurd (cc)) true user_step.LoadWtail (omega arith) tt (omega arith) (can_link (own user_step.ReloadWtail) (tail_of (tail_word m.wtail m.wheld))) refl
  user_own user_step.StoreLink h l space = by (eqb (length (changes u)) 0) no_page (eqb (mode u) 0)
    where
      by : (b : Bool) → b ≡ true → (d : Bool) → End (shared_left m (user_op (own user_step.StoreLink) user_step.StoreLink)) user_step.StoreLink (cond b (cond d (answered (own user_step.StoreLink)) (record (own user_step.StoreLink) { step = user_step.AwaitMark })) (record (own user_step.StoreLink) { step = user_step.LoadCtail }))
      by true e true = inl (let less = h.1 in let low = answered_cost last (own user_step.StoreLink) less in let few = links_more m.wlinks (lsn u.start % WRITTEN_LINKS) (lsn (group_end u) - lsn u.start) in omega arith)
      by true e false = inl (let few = links_more m.wlinks (lsn u.start % WRITTEN_LINKS) (lsn (group_end u) - lsn u.start) in omega arith)
      by false e d = absurd (cc)
  user_own user_step.AwaitMark h l space = by (read m (cond (mode u == 1) word.Flushed word.Write)) (has_passed (own user_step.AwaitMark) (read m (cond (mode u == 1) word.Flushed word.Write))) refl
    where
      by : (n : ℕ) (b : Bool) → has_passed (own user_step.AwaitMark) (read m (cond (mode u == 1) word.Flushed word.Write)) ≡ b → End m user_step.AwaitMark (cond b (answered (record (own user_step.AwaitMark) { loaded = with_mark (own user_step.AwaitMark) n })) (record (own user_step.AwaitMark) { loaded = with_mark (own user_step.AwaitMark) n; checks = true; step = user_step.AwaitMark }))
      by n true e = inl (let less = h.1 in let low = answered_cost last (record (own user_step.AwaitMark) { loaded = with_mark (own user_step.AwaitMark) n }) less in omega arith)
      by n false e = stays user_step.AwaitMark _ (omega arith) (λ can. absurd (cc)) (λ _. (tt, omega arith)) (λ z. absurd (cc))
  user_own user_step.Done h l space = stays user_step.Done _ (omega arith) (λ can. absurd can) (λ live. absurd live) (λ z. absurd (cc))
  user_own user_step.Failed h l space = stays user_step.Failed _ (omega arith) (λ can. absurd can) (λ live. absurd live) (λ z. absurd (cc))
  user_own _ h l space = absurd l

  -- its turn, where it checks
  abbrev checking : UserStep → UserState
  checking f = record u { checks = true; step = f }

  not_open : (f : UserStep) → UserAt D c m g p seat (checking f) f → IsOpenStep f
  not_open user_step.Done h = let z = h.2 in absurd (cc)
  not_open user_step.Failed h = let z = h.2 in absurd (cc)
  not_open _ h = tt

  user_check : (f : UserStep) → UserAt D c m g p seat (checking f) f → IsLogStep f → (b : Bool) → eqb m.failed 0 ≡ b
      → Settled last m m (actor.User (checking f)) (actor.User (cond b (record (checking f) { checks = false }) (record (checking f) { checks = false; code = m.failed; step = user_step.Failed })))
  user_check f h l true e = inr (record {
    same_cost = (let z = cost_same u false true f in omega arith);
    words = refl;
    tail = inl refl;
    nearer = λ can. (can_same m u true false f can, omega arith);
    leaving = λ failed live. (let z = eqb-true m.failed 0 e in absurd (omega arith));
    taking = λ z. absurd z;
    freeing = λ z. let y = z.1 in absurd (cc);
  })
  user_check f h l false e = inl (let z = some_cost (checking f) f l (not_open f h) in omega arith)

  user_by : (b : Bool) (f : UserStep) → UserAt D c m g p seat (record u { checks = b; step = f }) f → IsLogStep f → (f ≡ user_step.LoadSn → nat_le (lsn m.sn + FREE_MARGIN) (u.loaded.ckpt + BLOCK_SIZE * u.blocks) ≡ true)
      → Settled last m (shared_left m (next (actor.User (record u { checks = b; step = f })))) (actor.User (record u { checks = b; step = f })) (took (actor.User (record u { checks = b; step = f })) (shared_answer ls broken code mark m (next (actor.User (record u { checks = b; step = f })))))
  user_by true f h l space = user_check f h l (eqb m.failed 0) refl
  user_by false f h l space = user_own f h l space

  pub user_turns : UserAt D c m g p seat u u.step → IsLogStep u.step → (u.step ≡ user_step.LoadSn → nat_le (lsn m.sn + FREE_MARGIN) (u.loaded.ckpt + BLOCK_SIZE * u.blocks) ≡ true)
      → Settled last m (shared_left m (next (actor.User u))) (actor.User u) (took (actor.User u) (shared_answer ls broken code mark m (next (actor.User u))))
  user_turns = user_by u.checks u.step
