-- A user's loads keep the invariant; and so each of its steps.
use Rattle.std.proofs.Common.{Bool, List, ap, arith, cond, eq-eqb, eqb, eqb-true, false, leb-true, length, length-set, ltb, ltb-true, ne_eqb, refl, set, sym, true, ℕ, ◌%◌, ◌*◌, ◌+◌, ◌-◌, ◌∙◌, ◌≡◌, ◌≤◌, inl, inr}
use Rattle.std.proofs.lemmas.Bool.{eqb-false}
use Rattle.std.specs.Prelude.{nat_le, slice_index, slice_set}
use lib.ListN.{get_elem?}
use mathlib.Core.Option.{some}
use Rattle.model_core.proofs.Groups.{changed, changed_else, changed_here}
use Rattle.model_core.proofs.Tails.{tail_in}
use Rattle.model_core.specs.{Actor, Advance, after, answered, cells_of, change_at, changes, current_page, entries, Entry, floor, found, frame_count, frame_word, group_end, is_held, is_whole, IsSized, layout_of, LoadedMarks, lsn, mode, OnWord, page_words_at, PageWords, phase_log, SharedWords, stored_word, tail_of, tail_word, to_next_page, user_op, user_took, UserState, with_mark, with_page_words, LogSide, Setup}
use Rattle.model_core.specs.declared.ops.Op.{Op}
use Rattle.model_core.specs.declared.steps.AdvanceStep.{AdvanceStep}
use Rattle.model_core.specs.declared.steps.UserStep.{UserStep}
use Rattle.model_core.specs.declared.limits.TheConstants.{ADVANCE_PLACES, CLOSED_LINKS, FREE_MARGIN, LOG_BUFFER, WRITTEN_LINKS}
use Rattle.model_logcore.proofs.Frame.{unchanged, Kept, Later}
use Rattle.model_logcore.proofs.GroupEnds.{hand_end_near}
use Rattle.model_logcore.proofs.AnswerSteps.{answer_global, answered_fits}
use Rattle.model_logcore.proofs.LinkSteps.{keeps_store_link}
use Rattle.model_logcore.proofs.ReserveSteps.{keeps_reserve}
use Rattle.model_logcore.proofs.RingSteps.{keeps_add_cell, keeps_store_first, refit, refit_advance, shifted, steps, still_words}
use Rattle.model_logcore.proofs.Same.{clinks_sized, facts_same, later_marks, lists_sized, numbers_sized, page_sized}
use Rattle.model_logcore.specs.LogFacts.{LogGhost, LogFacts}
use Rattle.model_logcore.specs.LogFits.{AreBelow, HasAllCopied, HasStoppedAt, UserAt, UserFits, LogHalf, left_to_reserve}
use Rattle.model_logcore.specs.LogLaws.{LogLaws}
use Rattle.model_core.specs.declared.words.Word.TheVariants as word
use Rattle.model_core.specs.declared.ops.Op.TheVariants as op
use Rattle.model_core.specs.declared.steps.AdvanceStep.TheVariants as advance_step
use Rattle.model_core.specs.declared.steps.UserStep.TheVariants as user_step
use Rattle.model_logcore.proofs.UserAdvances as written
use Rattle.model_core.specs.States as actor

module _ (D : LogSide) (L : LogLaws D) (c : Setup) (m : SharedWords) (g : LogGhost) (p : D.Part) (actors : List Actor) (seat : ℕ) (u : UserState) (before : LogHalf D c m g p actors) (at : get_elem? actors seat ≡ some (actor.User u)) where
  mine : UserFits D c m g p seat u
  mine = before.each seat (actor.User u) at

  -- one more of its commits is answered, and words of the pages change
  later_answered : {page_words : List PageWords} → Later D c m g (record m { page_words = page_words }) (record g { answered = changed g.answered u.user (u.k + 1) }) seat
  later_answered = record { write = omega arith; wtail = omega arith; ckpt = omega arith; flushed = omega arith; failed = λ z. z; logs = λ _ _ z. z; places = λ _ _ _. refl; states = λ _ _ _. refl; linked = λ _ _ two. two; firsts = λ _ z. z; bare = λ _ _ _ _ _ z. z; seats = λ _. refl; counts = λ _ _. refl; answers = λ x n. changed_else g.answered u.user (u.k + 1) x (λ e. n (ap g.seat_of e ∙ mine.own_seat)); holder = λ _ _. unchanged }

  -- nothing but the user's own state changes
  quiet : (w : UserState) → UserFits D c m g p seat w → ◌≡◌ {A = List Entry} (entries (actor.User w)) (entries (actor.User u)) → left_to_reserve (actor.User w) ≤ left_to_reserve (actor.User u) → Kept D c m g p (set actors seat (actor.User w))
  quiet w f same le = steps D c m g p actors seat u before at m g w before.sized before.global f
      (later_marks D c m g p (omega arith) (omega arith) (omega arith) (omega arith) (λ z. z) (λ _ _. unchanged))
      (still_words D c m g p actors seat u before at m g refl refl refl refl refl refl refl refl refl)
      refl refl refl refl refl refl same le

  shift : (page cell copied : ℕ) (loaded : LoadedMarks) (code : ℕ) (checks : Bool) (ph : UserStep) → AreBelow loaded m.ckpt m.write m.wtail m.flushed → UserAt D c m g p seat (shifted D c m g p actors seat u before at page cell copied loaded code checks ph) ph
      → Kept D c m g p (set actors seat (actor.User (shifted D c m g p actors seat u before at page cell copied loaded code checks ph)))
  shift page cell copied loaded code checks ph le h = quiet (shifted D c m g p actors seat u before at page cell copied loaded code checks ph) (refit D c m g p actors seat u before at m g page cell copied loaded code checks ph refl refl refl le h) refl (omega arith)

  abbrev Now : UserState → Type 0
  Now w = Kept D c m g p (set actors seat (actor.User w))

  total_by : (b : Bool) → UserAt D c m g p seat u user_step.LoadSn → Now (cond b (record u { page = 0; cell = 0; step = cond (eqb (length (changes u)) 0) user_step.Reserve user_step.TakeLatch }) (record u { checks = true; step = user_step.LoadCheckpoint }))
  total_by true h = by (eqb (length (changes u)) 0)
    where
      by : (b : Bool) → Now (record u { page = 0; cell = 0; step = cond b user_step.Reserve user_step.TakeLatch })
      by true = shift 0 0 u.copied u.loaded u.code u.checks user_step.Reserve mine.loaded h
      by false = shift 0 0 u.copied u.loaded u.code u.checks user_step.TakeLatch mine.loaded h
  total_by false h = shift u.page u.cell u.copied u.loaded u.code true user_step.LoadCheckpoint mine.loaded h

  write_loaded : AreBelow (record u.loaded { write = m.write }) m.ckpt m.write m.wtail m.flushed
  write_loaded = record { ckpt_below = mine.loaded.ckpt_below; write_below = omega arith; wtail_below = mine.loaded.wtail_below; flushed_below = mine.loaded.flushed_below }

  wtail_loaded : (t : ℕ) → t ≡ m.wtail → AreBelow (record u.loaded { wtail = t }) m.ckpt m.write m.wtail m.flushed
  wtail_loaded t is = record { ckpt_below = mine.loaded.ckpt_below; write_below = mine.loaded.write_below; wtail_below = omega arith; flushed_below = mine.loaded.flushed_below }

  flushed_loaded : AreBelow (record u.loaded { flushed = m.flushed }) m.ckpt m.write m.wtail m.flushed
  flushed_loaded = record { ckpt_below = mine.loaded.ckpt_below; write_below = mine.loaded.write_below; wtail_below = mine.loaded.wtail_below; flushed_below = omega arith }

  ctail_loaded : (t : ℕ) → AreBelow (record u.loaded { ctail = t }) m.ckpt m.write m.wtail m.flushed
  ctail_loaded t = record { ckpt_below = mine.loaded.ckpt_below; write_below = mine.loaded.write_below; wtail_below = mine.loaded.wtail_below; flushed_below = mine.loaded.flushed_below }

  room_by : u.checks ≡ false → (b : Bool) → ltb (lsn (group_end u)) (floor m.write + LOG_BUFFER) ≡ b → UserAt D c m g p seat u user_step.LoadWrite → Now (cond b (record u { loaded = record u.loaded { write = m.write }; step = user_step.AddCell }) (record u { loaded = record u.loaded { write = m.write }; checks = true; step = user_step.LoadWrite }))
  room_by unasked true e h = shift u.page u.cell u.copied (record u.loaded { write = m.write }) u.code u.checks user_step.AddCell write_loaded (h.0, h.1, h.2, (let z = h.3 in let s = (mine.sound u.k h.1).0 in omega arith), ltb-true (lsn (group_end u)) (floor m.write + LOG_BUFFER) e, h.4, unasked)
  room_by unasked false e h = shift u.page u.cell u.copied (record u.loaded { write = m.write }) u.code true user_step.LoadWrite write_loaded h

  -- it loads WTAIL, and goes on to a step where it has no room for its link
  space_by : (t : ℕ) → t ≡ m.wtail → (b : Bool) → ltb (lsn u.start) (t + WRITTEN_LINKS) ≡ b → (waits : Bool) (ph : UserStep) → HasAllCopied D c m g p seat u → UserAt D c m g p seat (record u { loaded = record u.loaded { wtail = t }; checks = waits; step = ph }) ph
      → Now (cond b (record u { loaded = record u.loaded { wtail = t }; step = user_step.StoreLink }) (record u { loaded = record u.loaded { wtail = t }; checks = waits; step = ph }))
  space_by t is true e waits ph h else = shift u.page u.cell u.copied (record u.loaded { wtail = t }) u.code u.checks user_step.StoreLink (wtail_loaded t is) (h.0, h.1, h.2, h.3, h.4, (let z = ltb-true (lsn u.start) (t + WRITTEN_LINKS) e in omega arith))
  space_by t is false e waits ph h else = shift u.page u.cell u.copied (record u.loaded { wtail = t }) u.code waits ph (wtail_loaded t is) else

  -- it loads FLUSHED or WRITE, and its commit is answered where that has passed its end
  await_by : (n : ℕ) (b : Bool) → nat_le (lsn (group_end u)) n ≡ b → (mode u ≡ 1 → n ≡ m.flushed) → (mode u ≡ 2 → n ≡ m.write) → AreBelow (with_mark u n) m.ckpt m.write m.wtail m.flushed → UserAt D c m g p seat u user_step.AwaitMark
      → (g' : LogGhost) × Kept D c m g' p (set actors seat (actor.User (cond b (answered (record u { loaded = with_mark u n })) (record u { loaded = with_mark u n; checks = true; step = user_step.AwaitMark })))) × (◌≡◌ {A = List Entry} (g'.log) (g.log))
  await_by n true e fl wr lo h =
      let g' : LogGhost = record g { answered = changed g.answered u.user (u.k + 1) } in
      let le : lsn (group_end u) ≤ n = leb-true (lsn (group_end u)) n e in (
        g',
        steps D c m g p actors seat u before at m g' (answered (record u { loaded = with_mark u n })) before.sized
            (answer_global D L c m g p actors seat u before at m g h.2.0 h.2.1 mine.answers (λ z. let y = fl z in omega arith) (λ z. let y = wr z in omega arith) h.2.2 before.global)
            (answered_fits D L c m g p actors seat u before at (with_mark u n) m g' refl refl (changed_here g.answered u.user (u.k + 1) u.user refl) lo h.0 h.1)
            later_answered
            (still_words D c m g p actors seat u before at m g' refl refl refl refl refl refl refl refl refl)
            refl refl refl refl refl refl refl (omega arith),
        refl,
      )
  await_by n false e fl wr lo h = (g, shift u.page u.cell u.copied (with_mark u n) u.code true user_step.AwaitMark lo h, refl)

  never : u.checks ≡ true → u.checks ≡ false → ⊥
  never asks unasked = let z : true ≡ false = sym asks ∙ unasked in cc

  copied_dead : HasAllCopied D c m g p seat u → (length u.starts ≤ u.k + 1) × (length u.starts ≡ u.k + 1 → HasStoppedAt D c m g p seat u)
  copied_dead h = let z = h.0 in let y = h.3 in (omega arith, λ held. inl (h.2, omega arith, (λ some. hand_end_near D c m g p seat u before.global h.2 h.3 h.4 some), (λ part. absurd (omega arith)), (λ _. h.4)))

  -- the length of its starts, and how far its group in hand came, where it asks
  dead_at : u.checks ≡ true → (f : UserStep) → UserAt D c m g p seat u f → (length u.starts ≤ u.k + 1) × (length u.starts ≡ u.k + 1 → HasStoppedAt D c m g p seat u)
  dead_at asks user_step.LoadCheckpoint h = let z = h.0 in (omega arith, λ held. absurd (omega arith))
  dead_at asks user_step.LoadSn h = let z = h.0 in (omega arith, λ held. absurd (omega arith))
  dead_at asks user_step.Reserve h = let z = h.0 in (omega arith, λ held. absurd (omega arith))
  dead_at asks user_step.TakeLatch h = let z = h.0 in (omega arith, λ held. absurd (omega arith))
  dead_at asks user_step.Done h = let z = h.0 in (omega arith, λ held. absurd (omega arith))
  dead_at asks user_step.LoadWrite h = let z = h.0 in let y = h.3 in let s = (mine.sound u.k h.1).0 in (omega arith, λ held. inl (h.2, omega arith, (λ some. absurd (omega arith)), (λ _. h.4), (λ all. absurd (omega arith))))
  dead_at asks user_step.AddCell h = absurd (never asks h.6)
  dead_at asks user_step.StoreFirst h = absurd (never asks h.7)
  dead_at asks user_step.LoadWtail h = copied_dead h
  dead_at asks (user_step.AdvanceWritten s) h = copied_dead h.0
  dead_at asks user_step.ReloadWtail h = copied_dead h
  dead_at asks user_step.StoreLink h = copied_dead (h.0, h.1, h.2, h.3, h.4)
  dead_at asks user_step.LoadCtail h = let z = h.0 in (omega arith, λ held. inr h.2)
  dead_at asks (user_step.AdvanceClosed s) h = let z = h.0 in (omega arith, λ held. inr h.2)
  dead_at asks user_step.ReloadCtail h = let z = h.0 in (omega arith, λ held. inr h.2)
  dead_at asks user_step.LoadFrame h = let z = h.0 in (omega arith, λ held. inr h.2)
  dead_at asks user_step.StoreFrame h = let z = h.0 in (omega arith, λ held. inr h.2)
  dead_at asks user_step.StoreNewest h = let z = h.0 in (omega arith, λ held. inr h.2)
  dead_at asks user_step.LoadOldest h = let z = h.0 in (omega arith, λ held. inr h.2)
  dead_at asks user_step.AddToList h = let z = h.0 in (omega arith, λ held. inr h.2)
  dead_at asks user_step.StoreOldest h = let z = h.0 in (omega arith, λ held. inr h.2)
  dead_at asks user_step.GiveList h = let z = h.0 in (omega arith, λ held. inr h.2)
  dead_at asks user_step.StoreClosedLink h = let z = h.0 in (omega arith, λ held. inr h.2)
  dead_at asks user_step.ReleaseLatch h = let z = h.0 in (omega arith, λ held. inr h.2)
  dead_at asks user_step.AwaitMark h = let z = h.0 in (omega arith, λ held. inr h.2)
  dead_at asks user_step.Failed h = (h.0, h.3)

  -- where it doesn't check, its place asks no more
  unchecked : (f : UserStep) → UserAt D c m g p seat u f → UserAt D c m g p seat (record u { checks = false }) f
  unchecked user_step.AddCell h = (h.0, h.1, h.2, h.3, h.4, h.5, refl)
  unchecked user_step.StoreFirst h = (h.0, h.1, h.2, h.3, h.4, h.5, h.6, refl)
  unchecked user_step.Done h = (h.0, h.1, refl)
  unchecked user_step.Failed h = (h.0, h.1, refl, h.3)
  unchecked _ h = h

  -- it loads FAILED
  pub user_checked : u.checks ≡ true → Now (cond (eqb m.failed 0) (record u { checks = false }) (record u { checks = false; code = m.failed; step = user_step.Failed }))
  user_checked asks = by (eqb m.failed 0) refl
    where
      by : (b : Bool) → eqb m.failed 0 ≡ b → Now (cond b (record u { checks = false }) (record u { checks = false; code = m.failed; step = user_step.Failed }))
      by true e = shift u.page u.cell u.copied u.loaded u.code false u.step mine.loaded (unchecked u.step mine.step)
      by false e = shift u.page u.cell u.copied u.loaded m.failed false user_step.Failed mine.loaded (let k = dead_at asks u.step mine.step in (k.0, (let n = eqb-false m.failed 0 e in omega arith), refl, k.1))

  -- words of the pages change, and the closer's: the log half doesn't read them
  pub aside : (lists clinks : List ℕ) (page_words : List PageWords) (ctail : ℕ) (cheld : Bool) (w : UserState) → IsSized (layout_of c) (record m { lists = lists; clinks = clinks; page_words = page_words; ctail = ctail; cheld = cheld }) → UserFits D c m g p seat w → ◌≡◌ {A = List Entry} (entries (actor.User w)) (entries (actor.User u)) → left_to_reserve (actor.User w) ≤ left_to_reserve (actor.User u)
      → Kept D c (record m { lists = lists; clinks = clinks; page_words = page_words; ctail = ctail; cheld = cheld }) g p (set actors seat (actor.User w))
  aside lists clinks page_words ctail cheld w sized f same le =
      let m' : SharedWords = record m { lists = lists; clinks = clinks; page_words = page_words; ctail = ctail; cheld = cheld } in
      steps D c m g p actors seat u before at m' g w sized
      (facts_same D c m g p before.global.part before.global)
      (record { own_seat = f.own_seat; blocks = f.blocks; lines = f.lines; sound = f.sound; are_bytes = f.are_bytes; counted = f.counted; answers = f.answers; loaded = f.loaded; step = f.step })
      (later_marks D c m g p (omega arith) (omega arith) (omega arith) (omega arith) (λ z. z) (λ _ _. unchanged))
      (still_words D c m g p actors seat u before at m' g refl refl refl refl refl refl refl refl refl)
      refl refl refl refl refl refl same le

  moves : (lists clinks : List ℕ) (page_words : List PageWords) (ctail : ℕ) (cheld : Bool) → IsSized (layout_of c) (record m { lists = lists; clinks = clinks; page_words = page_words; ctail = ctail; cheld = cheld }) → (page cell : ℕ) (checks : Bool) (ph : UserStep)
      → UserAt D c m g p seat (shifted D c m g p actors seat u before at page cell u.copied u.loaded u.code checks ph) ph
      → Kept D c (record m { lists = lists; clinks = clinks; page_words = page_words; ctail = ctail; cheld = cheld }) g p (set actors seat (actor.User (shifted D c m g p actors seat u before at page cell u.copied u.loaded u.code checks ph)))
  moves lists clinks page_words ctail cheld sized page cell checks ph h = aside lists clinks page_words ctail cheld (shifted D c m g p actors seat u before at page cell u.copied u.loaded u.code checks ph) sized (refit D c m g p actors seat u before at m g page cell u.copied u.loaded u.code checks ph refl refl refl mine.loaded h) refl (omega arith)

  turned_any : (lists clinks : List ℕ) (page_words : List PageWords) (ctail : ℕ) (cheld : Bool) → IsSized (layout_of c) (record m { lists = lists; clinks = clinks; page_words = page_words; ctail = ctail; cheld = cheld }) → UserAt D c m g p seat u user_step.StoreClosedLink → (b d e : Bool)
      → Kept D c (record m { lists = lists; clinks = clinks; page_words = page_words; ctail = ctail; cheld = cheld }) g p (set actors seat (actor.User (record u { page = u.page + 1; cell = 0; step = cond b user_step.StoreClosedLink (cond d user_step.StoreNewest (cond e user_step.StoreFrame user_step.LoadFrame)) })))
  turned_any lists clinks page_words ctail cheld sized h true d e = moves lists clinks page_words ctail cheld sized (u.page + 1) 0 u.checks user_step.StoreClosedLink h
  turned_any lists clinks page_words ctail cheld sized h false true e = moves lists clinks page_words ctail cheld sized (u.page + 1) 0 u.checks user_step.StoreNewest h
  turned_any lists clinks page_words ctail cheld sized h false false true = moves lists clinks page_words ctail cheld sized (u.page + 1) 0 u.checks user_step.StoreFrame h
  turned_any lists clinks page_words ctail cheld sized h false false false = moves lists clinks page_words ctail cheld sized (u.page + 1) 0 u.checks user_step.LoadFrame h

  latch_by : (b d : Bool) → UserAt D c m g p seat u user_step.TakeLatch
      → Kept D c (cond b (with_page_words m (current_page u) (record (page_words_at m.page_words (current_page u)) { latch = 1 })) m) g p (set actors seat (actor.User (cond b (record u { page = u.page + 1; step = cond d user_step.Reserve user_step.TakeLatch }) (record u { checks = true; step = user_step.TakeLatch }))))
  latch_by true true h = moves m.lists m.clinks (slice_set m.page_words (current_page u) (record (page_words_at m.page_words (current_page u)) { latch = 1 })) m.ctail m.cheld (page_sized (current_page u) (record (page_words_at m.page_words (current_page u)) { latch = 1 }) refl before.sized) (u.page + 1) u.cell u.checks user_step.Reserve h
  latch_by true false h = moves m.lists m.clinks (slice_set m.page_words (current_page u) (record (page_words_at m.page_words (current_page u)) { latch = 1 })) m.ctail m.cheld (page_sized (current_page u) (record (page_words_at m.page_words (current_page u)) { latch = 1 }) refl before.sized) (u.page + 1) u.cell u.checks user_step.TakeLatch h
  latch_by false d h = shift u.page u.cell u.copied u.loaded u.code true user_step.TakeLatch mine.loaded h

  -- it loads CTAIL, and goes on to a step where it has no room for its link
  tail_by : (t : ℕ) (b d e waits : Bool) (ph : UserStep) → UserAt D c m g p seat u user_step.LoadCtail → UserAt D c m g p seat (record u { loaded = record u.loaded { ctail = t }; checks = waits; step = ph }) ph
      → Now (cond b (record u { loaded = record u.loaded { ctail = t }; step = cond d user_step.StoreNewest (cond e user_step.StoreFrame user_step.LoadFrame) }) (record u { loaded = record u.loaded { ctail = t }; checks = waits; step = ph }))
  tail_by t true true e waits ph h else = shift u.page u.cell u.copied (record u.loaded { ctail = t }) u.code u.checks user_step.StoreNewest (ctail_loaded t) h
  tail_by t true false true waits ph h else = shift u.page u.cell u.copied (record u.loaded { ctail = t }) u.code u.checks user_step.StoreFrame (ctail_loaded t) h
  tail_by t true false false waits ph h else = shift u.page u.cell u.copied (record u.loaded { ctail = t }) u.code u.checks user_step.LoadFrame (ctail_loaded t) h
  tail_by t false d e waits ph h else = shift u.page u.cell u.copied (record u.loaded { ctail = t }) u.code waits ph (ctail_loaded t) else

  -- A STEP OF ITS ADVANCE OF CTAIL: it has loaded this tail last
  abbrev stood : ℕ → Advance → Bool → UserStep → UserState
  stood t advance checks ph = record u { loaded = record u.loaded { ctail = t }; advance = advance; checks = checks; step = ph }

  closes : (clinks : List ℕ) (ctail : ℕ) (cheld : Bool) → IsSized (layout_of c) (record m { clinks = clinks; ctail = ctail; cheld = cheld }) → (t : ℕ) (advance : Advance) (put over : Bool) (x : AdvanceStep) → UserAt D c m g p seat u user_step.LoadCtail
      → Kept D c (record m { clinks = clinks; ctail = ctail; cheld = cheld }) g p (set actors seat (actor.User (stood t advance put (cond put user_step.LoadCtail (cond over user_step.ReloadCtail (user_step.AdvanceClosed x))))))
  closes clinks ctail cheld sized t advance put over x h = by put over
    where
      to : (checks : Bool) (ph : UserStep) → UserAt D c m g p seat (stood t advance checks ph) ph → Kept D c (record m { clinks = clinks; ctail = ctail; cheld = cheld }) g p (set actors seat (actor.User (stood t advance checks ph)))
      to checks ph z = aside m.lists clinks m.page_words ctail cheld (stood t advance checks ph) sized (refit_advance D c m g p actors seat u before at m g (record u.loaded { ctail = t }) advance checks ph refl refl refl (ctail_loaded t) z) refl (omega arith)

      by : (put over : Bool) → Kept D c (record m { clinks = clinks; ctail = ctail; cheld = cheld }) g p (set actors seat (actor.User (stood t advance put (cond put user_step.LoadCtail (cond over user_step.ReloadCtail (user_step.AdvanceClosed x))))))
      by true over = to true user_step.LoadCtail h
      by false true = to false user_step.ReloadCtail h
      by false false = to false (user_step.AdvanceClosed x) h

  takes_closed : (b : Bool) → UserAt D c m g p seat u user_step.LoadCtail
      → Kept D c (cond b (record m { ctail = tail_of (tail_word u.advance.tail true); cheld = is_held (tail_word u.advance.tail true) }) m) g p (set actors seat (actor.User (stood u.loaded.ctail (record u.advance { place = u.advance.tail }) (cond b false true) (cond (cond b false true) user_step.LoadCtail (user_step.AdvanceClosed advance_step.LoadLink)))))
  takes_closed true h = closes m.clinks (tail_of (tail_word u.advance.tail true)) (is_held (tail_word u.advance.tail true)) (numbers_sized before.sized) u.loaded.ctail (record u.advance { place = u.advance.tail }) false false advance_step.LoadLink h
  takes_closed false h = closes m.clinks m.ctail m.cheld before.sized u.loaded.ctail (record u.advance { place = u.advance.tail }) true false advance_step.LoadLink h

  -- the word that it has loaded changes too
  worded : (page_words : List PageWords) → IsSized (layout_of c) (record m { page_words = page_words }) → (cell word : ℕ) (ph : UserStep) → UserAt D c m g p seat (record u { cell = cell; word = word; step = ph }) ph
      → Kept D c (record m { page_words = page_words }) g p (set actors seat (actor.User (record u { cell = cell; word = word; step = ph })))
  worded page_words sized cell word ph h = aside m.lists m.clinks page_words m.ctail m.cheld (record u { cell = cell; word = word; step = ph }) sized
      (record { own_seat = mine.own_seat; blocks = mine.blocks; lines = mine.lines; sound = mine.sound; are_bytes = mine.are_bytes; counted = mine.counted; answers = mine.answers; loaded = mine.loaded; step = h }) refl (omega arith)

  cell_by : (page_words : List PageWords) → IsSized (layout_of c) (record m { page_words = page_words }) → (cell : ℕ) (d e : Bool) → UserAt D c m g p seat u user_step.StoreFrame → Kept D c (record m { page_words = page_words }) g p (set actors seat (actor.User (record u { cell = cell; word = 0; step = cond d user_step.StoreNewest (cond e user_step.StoreFrame user_step.LoadFrame) })))
  cell_by page_words sized cell true e h = worded page_words sized cell 0 user_step.StoreNewest h
  cell_by page_words sized cell false true h = worded page_words sized cell 0 user_step.StoreFrame h
  cell_by page_words sized cell false false h = worded page_words sized cell 0 user_step.LoadFrame h

  oldest_by : (b : Bool) → UserAt D c m g p seat u user_step.LoadOldest → Now (cond b (record u { step = user_step.AddToList }) (to_next_page u))
  oldest_by true h = shift u.page u.cell u.copied u.loaded u.code u.checks user_step.AddToList mine.loaded h
  oldest_by false h = turned_any m.lists m.clinks m.page_words m.ctail m.cheld before.sized h (eqb (u.page + 1) (length (changes u))) (eqb 0 (length (change_at (changes u) (u.page + 1)).cells)) (is_whole (change_at (changes u) (u.page + 1)).cells 0)

  -- with its last latch free it is answered, or waits for its mark
  free_by : (page_words : List PageWords) → IsSized (layout_of c) (record m { page_words = page_words }) → (b d : Bool) → eqb (mode u) 0 ≡ d → UserAt D c m g p seat u user_step.ReleaseLatch
      → (g' : LogGhost) × Kept D c (record m { page_words = page_words }) g' p (set actors seat (actor.User (cond b (cond d (answered u) (record u { step = user_step.AwaitMark })) (record u { page = u.page + 1; step = user_step.ReleaseLatch })))) × (◌≡◌ {A = List Entry} (g'.log) (g.log))
  free_by page_words sized false d e h = (g, moves m.lists m.clinks page_words m.ctail m.cheld sized (u.page + 1) u.cell u.checks user_step.ReleaseLatch h, refl)
  free_by page_words sized true false e h = (g, moves m.lists m.clinks page_words m.ctail m.cheld sized u.page u.cell u.checks user_step.AwaitMark (h.0, h.1, h.2, eqb-false (mode u) 0 e), refl)
  free_by page_words sized true true e h =
      let m' : SharedWords = record m { page_words = page_words } in
      let g' : LogGhost = record g { answered = changed g.answered u.user (u.k + 1) } in
      let none : mode u ≡ 0 = eqb-true (mode u) 0 e in
      let gl : LogFacts D c m' g p = facts_same D c m g p before.global.part before.global in (
        g',
        steps D c m g p actors seat u before at m' g' (answered u) sized
            (answer_global D L c m g p actors seat u before at m' g h.2.0 h.2.1 mine.answers (λ z. absurd (omega arith)) (λ z. absurd (omega arith)) h.2.2 gl)
            (answered_fits D L c m g p actors seat u before at u.loaded m' g' refl refl (changed_here g.answered u.user (u.k + 1) u.user refl) mine.loaded h.0 h.1)
            later_answered
            (still_words D c m g p actors seat u before at m' g' refl refl refl refl refl refl refl refl refl)
            refl refl refl refl refl refl refl (omega arith),
        refl,
      )

  -- it finds its page's list free, or held
  pub user_list : (b : Bool) → UserAt D c m g p seat u user_step.AddToList
      → Kept D c (cond b (record m { lists = slice_set m.lists (current_page u % 4) 1 }) m) g p (set actors seat (actor.User (record u { checks = cond b false true; step = cond b user_step.StoreOldest user_step.AddToList })))
  user_list true h = moves (slice_set m.lists (current_page u % 4) 1) m.clinks m.page_words m.ctail m.cheld (lists_sized (current_page u % 4) 1 before.sized) u.page u.cell false user_step.StoreOldest h
  user_list false h = shift u.page u.cell u.copied u.loaded u.code true user_step.AddToList mine.loaded h

  pub user_give : UserAt D c m g p seat u user_step.GiveList → Kept D c (record m { lists = slice_set m.lists (current_page u % 4) 0 }) g p (set actors seat (actor.User (to_next_page u)))
  user_give h = turned_any (slice_set m.lists (current_page u % 4) 0) m.clinks m.page_words m.ctail m.cheld (lists_sized (current_page u % 4) 0 before.sized) h (eqb (u.page + 1) (length (changes u))) (eqb 0 (length (change_at (changes u) (u.page + 1)).cells)) (is_whole (change_at (changes u) (u.page + 1)).cells 0)

  abbrev KeptSo : Op → UserState → UserStep → Type 0
  KeptSo o w f = (h : LogGhost) × Kept D c (after o m) h p (set actors seat (actor.User w)) × (◌≡◌ {A = List Entry} (h.log) (phase_log g.log m.sn u f))

  mode_flush : mode u ≡ 1 → found (op.Load (cond (eqb (mode u) 1) word.Flushed word.Write)) m ≡ m.flushed
  mode_flush e = ap (λ b. found (op.Load (cond b word.Flushed word.Write)) m) (eq-eqb (mode u) 1 e)

  mode_write : mode u ≡ 2 → found (op.Load (cond (eqb (mode u) 1) word.Flushed word.Write)) m ≡ m.write
  mode_write e = ap (λ b. found (op.Load (cond b word.Flushed word.Write)) m) (ne_eqb (mode u) 1 (λ z. omega arith))

  mark_loaded : (b : Bool) → AreBelow (cond b (record u.loaded { flushed = found (op.Load (cond b word.Flushed word.Write)) m }) (record u.loaded { write = found (op.Load (cond b word.Flushed word.Write)) m })) m.ckpt m.write m.wtail m.flushed
  mark_loaded true = flushed_loaded
  mark_loaded false = write_loaded

  -- Each step of a user that doesn't check
  pub user_keeps : (f : UserStep) → u.step ≡ f → UserAt D c m g p seat u f → u.checks ≡ false → OnWord (user_op u f) → KeptSo (user_op u f) (user_took u (found (user_op u f) m) f) f
  user_keeps user_step.LoadCheckpoint is h unasked on = (g, shift u.page u.cell u.copied (record u.loaded { ckpt = m.ckpt }) u.code u.checks user_step.LoadSn (record { ckpt_below = omega arith; write_below = mine.loaded.write_below; wtail_below = mine.loaded.wtail_below; flushed_below = mine.loaded.flushed_below }) h, refl)
  user_keeps user_step.LoadSn is h unasked on = (g, total_by (nat_le (lsn m.sn + FREE_MARGIN) (u.loaded.ckpt + 512 * u.blocks)) h, refl)
  user_keeps user_step.Reserve is h unasked on = keeps_reserve D L c m g p actors seat u before at h
  user_keeps user_step.LoadWrite is h unasked on = (g, room_by unasked (ltb (lsn (group_end u)) (floor m.write + LOG_BUFFER)) refl h, refl)
  user_keeps user_step.AddCell is h unasked on = keeps_add_cell D c m g p actors seat u before at is h
  user_keeps user_step.StoreFirst is h unasked on = keeps_store_first D c m g p actors seat u before at is h
  user_keeps user_step.LoadWtail is h unasked on = (g, space_by (tail_of (tail_word m.wtail m.wheld)) (tail_in m.wtail m.wheld) (ltb (lsn u.start) (tail_of (tail_word m.wtail m.wheld) + WRITTEN_LINKS)) refl false (user_step.AdvanceWritten advance_step.LoadTail) h (h, tt), refl)
  user_keeps (user_step.AdvanceWritten advance_step.LoadTail) is h unasked on = written.keeps_load_tail D c m g p actors seat u before at h.0
  user_keeps (user_step.AdvanceWritten advance_step.TakeTail) is h unasked on = written.keeps_take_tail D c m g p actors seat u before at h.0
  user_keeps (user_step.AdvanceWritten advance_step.LoadLink) is h unasked on = written.keeps_load_link D c m g p actors seat u before at h.0 h.1
  user_keeps (user_step.AdvanceWritten advance_step.ClearLink) is h unasked on = written.keeps_clear_link D c m g p actors seat u before at h.0 h.1
  user_keeps (user_step.AdvanceWritten advance_step.FreeTail) is h unasked on = written.keeps_free_tail D c m g p actors seat u before at h.0 h.1
  user_keeps user_step.ReloadWtail is h unasked on = (g, space_by (tail_of (tail_word m.wtail m.wheld)) (tail_in m.wtail m.wheld) (ltb (lsn u.start) (tail_of (tail_word m.wtail m.wheld) + WRITTEN_LINKS)) refl true user_step.LoadWtail h h, refl)
  user_keeps user_step.StoreLink is h unasked on = keeps_store_link D L c m g p actors seat u before at h
  user_keeps user_step.AwaitMark is h unasked on = await_by (found (user_op u user_step.AwaitMark) m) (nat_le (lsn (group_end u)) (found (user_op u user_step.AwaitMark) m)) refl mode_flush mode_write (mark_loaded (eqb (mode u) 1)) h
  user_keeps user_step.TakeLatch is h unasked on = (g, latch_by (eqb (page_words_at m.page_words (current_page u)).latch 0) (eqb (u.page + 1) (length (changes u))) h, refl)
  user_keeps user_step.LoadCtail is h unasked on = (g, tail_by (tail_of (tail_word m.ctail m.cheld)) (ltb (lsn u.start) (tail_of (tail_word m.ctail m.cheld) + CLOSED_LINKS)) (eqb u.cell (length (cells_of u))) (is_whole (cells_of u) u.cell) false (user_step.AdvanceClosed advance_step.LoadTail) h h, refl)
  user_keeps (user_step.AdvanceClosed advance_step.LoadTail) is h unasked on = (g, closes m.clinks m.ctail m.cheld before.sized (tail_of (tail_word m.ctail m.cheld)) (record u.advance { tail = tail_of (tail_word m.ctail m.cheld) }) (is_held (tail_word m.ctail m.cheld)) false advance_step.TakeTail h, refl)
  user_keeps (user_step.AdvanceClosed advance_step.TakeTail) is h unasked on = (g, takes_closed (eqb (tail_word m.ctail m.cheld) (tail_word u.advance.tail false)) h, refl)
  user_keeps (user_step.AdvanceClosed advance_step.LoadLink) is h unasked on = (g, closes m.clinks m.ctail m.cheld before.sized u.loaded.ctail (record u.advance { link = slice_index m.clinks (u.advance.place % CLOSED_LINKS) }) false false (cond (eqb (slice_index m.clinks (u.advance.place % CLOSED_LINKS)) 0) advance_step.FreeTail advance_step.ClearLink) h, refl)
  user_keeps (user_step.AdvanceClosed advance_step.ClearLink) is h unasked on = (g, closes (slice_set m.clinks (u.advance.place % CLOSED_LINKS) 0) m.ctail m.cheld (clinks_sized (u.advance.place % CLOSED_LINKS) 0 before.sized) u.loaded.ctail (record u.advance { place = u.advance.place + u.advance.link; link = 0 }) false false (cond (ltb (u.advance.place + u.advance.link) (u.advance.tail + ADVANCE_PLACES)) advance_step.LoadLink advance_step.FreeTail) h, refl)
  user_keeps (user_step.AdvanceClosed advance_step.FreeTail) is h unasked on = (g, closes m.clinks (tail_of (tail_word u.advance.place false)) (is_held (tail_word u.advance.place false)) (numbers_sized before.sized) u.loaded.ctail u.advance (eqb u.advance.place u.advance.tail) true advance_step.LoadTail h, refl)
  user_keeps user_step.ReloadCtail is h unasked on = (g, tail_by (tail_of (tail_word m.ctail m.cheld)) (ltb (lsn u.start) (tail_of (tail_word m.ctail m.cheld) + CLOSED_LINKS)) (eqb u.cell (length (cells_of u))) (is_whole (cells_of u) u.cell) true user_step.LoadCtail h h, refl)
  user_keeps user_step.LoadFrame is h unasked on = (g, worded m.page_words before.sized u.cell (slice_index (page_words_at m.page_words (current_page u)).frame (frame_word u)) user_step.StoreFrame h, refl)
  user_keeps user_step.StoreFrame is h unasked on = (g, cell_by (slice_set m.page_words (current_page u) (record (page_words_at m.page_words (current_page u)) { frame = slice_set (page_words_at m.page_words (current_page u)).frame (frame_word u) (stored_word u) })) (page_sized (current_page u) (record (page_words_at m.page_words (current_page u)) { frame = slice_set (page_words_at m.page_words (current_page u)).frame (frame_word u) (stored_word u) }) (length-set (page_words_at m.page_words (current_page u)).frame (frame_word u) (stored_word u)) before.sized) (u.cell + frame_count u) (eqb (u.cell + frame_count u) (length (cells_of u))) (is_whole (cells_of u) (u.cell + frame_count u)) h, refl)
  user_keeps user_step.StoreNewest is h unasked on = (g, moves m.lists m.clinks (slice_set m.page_words (current_page u) (record (page_words_at m.page_words (current_page u)) { newest = lsn (group_end u) })) m.ctail m.cheld (page_sized (current_page u) (record (page_words_at m.page_words (current_page u)) { newest = lsn (group_end u) }) refl before.sized) u.page u.cell u.checks user_step.LoadOldest h, refl)
  user_keeps user_step.LoadOldest is h unasked on = (g, oldest_by (eqb (page_words_at m.page_words (current_page u)).oldest 0) h, refl)
  user_keeps user_step.AddToList is h unasked on = absurd on
  user_keeps user_step.StoreOldest is h unasked on = (g, moves m.lists m.clinks (slice_set m.page_words (current_page u) (record (page_words_at m.page_words (current_page u)) { oldest = lsn u.start })) m.ctail m.cheld (page_sized (current_page u) (record (page_words_at m.page_words (current_page u)) { oldest = lsn u.start }) refl before.sized) u.page u.cell u.checks user_step.GiveList h, refl)
  user_keeps user_step.GiveList is h unasked on = absurd on
  user_keeps user_step.StoreClosedLink is h unasked on = (g, moves m.lists (slice_set m.clinks (lsn u.start % CLOSED_LINKS) (lsn (group_end u) - lsn u.start)) m.page_words m.ctail m.cheld (clinks_sized (lsn u.start % CLOSED_LINKS) (lsn (group_end u) - lsn u.start) before.sized) 0 u.cell u.checks user_step.ReleaseLatch h, refl)
  user_keeps user_step.ReleaseLatch is h unasked on = free_by (slice_set m.page_words (current_page u) (record (page_words_at m.page_words (current_page u)) { latch = 0 })) (page_sized (current_page u) (record (page_words_at m.page_words (current_page u)) { latch = 0 }) refl before.sized) (eqb (u.page + 1) (length (changes u))) (eqb (mode u) 0) refl h
  user_keeps user_step.Done is h unasked on = absurd on
  user_keeps user_step.Failed is h unasked on = absurd on
