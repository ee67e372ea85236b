-- What a turn of the writer comes to, while FAILED is 0.
use Rattle.std.proofs.Common.{Bool, List, ap, arith, cond, drop, eqb, eqb-true, false, inl, inr, leb-false, leb-true, length, length-append, length-drop, ltb, refl, subst, sym, true, ℕ, ⊎_elim, ◌%◌, ◌*◌, ◌+◌, ◌-◌, ◌++◌, ◌<◌, ◌∙◌, ◌≡◌, ◌≤◌, ◌⊎◌}
use Rattle.std.proofs.lemmas.Bool.{eqb-false, le-ltb, lt-ltb}
use Rattle.std.specs.Prelude.{None, nat_le, slice_index, slice_set}
use native.Mathlib.Decide.{dec_le}
use Rattle.model_core.proofs.Lanes.{lanes_long, left_some}
use Rattle.model_core.proofs.Lsns.{lsn_le, lsn_less}
use Rattle.model_core.proofs.Tails.{held_in, tail_in}
unfoldable use Rattle.model_core.specs.{lanes}
use Rattle.model_core.specs.{Actor, cell_of, full_blocks, has_log_space, has_whole_word, is_held, lane_of, left_in_word, Listed, lsn, next, read_place, shared_answer, shared_left, SharedWords, stands_outside, tail_of, tail_word, took, word_end, writer_op, writer_took, WriterState, wrote, LogSide, Setup}
use Rattle.model_core.specs.declared.ops.Answer.{Answer}
use Rattle.model_core.specs.declared.steps.AdvanceStep.{AdvanceStep}
use Rattle.model_core.specs.declared.steps.WriterStep.{WriterStep}
use Rattle.model_core.specs.declared.limits.TheConstants.{ADVANCE_PLACES, WRITTEN_LINKS}
use Rattle.model_log.specs.declared.layout.TheConstants.{BLOCK_DATA}
use Rattle.model_logcore.proofs.AdvanceSteps.{is_free, tails}
use Rattle.model_logcore.specs.{LogGhost, WriterAt, WriterFits, LogHalf}
use Rattle.model_ends.proofs.Cost.{busy_cost, cost, idle_cost, writer_cost, writer_here}
use Rattle.model_ends.proofs.Links.{links_less}
use Rattle.model_ends.proofs.Outcome.{Can, Outcome, Stands, Takes, takes_in, tries, WriterCan, WriterTakes}
use Rattle.model_core.specs.States as actor
use Rattle.model_core.specs.declared.ops.Answer.TheVariants as answer
use Rattle.model_core.specs.declared.steps.AdvanceStep.TheVariants as advance_step
use Rattle.model_core.specs.declared.steps.WriterStep.TheVariants as writer_step
use Rattle.model_core.specs.declared.words.Word.TheVariants as word

-- what the turn word of the log part answers, where it is free, and where the part has failed
abbrev pub device_says : Bool → Bool → Answer
device_says b d = cond b (cond d answer.Broken (answer.Taken None)) answer.Held

busy_here : (w : WriterState) (v : AdvanceStep) → w.write < w.tail → writer_here w (writer_step.Advance v) ≡ busy_cost v
busy_here w v less = ap (λ (b : Bool). cond b (busy_cost v) (idle_cost v)) (lt-ltb w.write w.tail less)

idle_here : (w : WriterState) (v : AdvanceStep) → w.tail ≤ w.write → writer_here w (writer_step.Advance v) ≡ idle_cost v
idle_here w v le = ap (λ (b : Bool). cond b (busy_cost v) (idle_cost v)) (le-ltb w.write w.tail le)

by_most : (b : Bool) (v : AdvanceStep) → cond b (busy_cost v) (idle_cost v) ≤ 15
by_most true advance_step.LoadTail = omega arith
by_most true advance_step.TakeTail = omega arith
by_most true advance_step.LoadLink = omega arith
by_most true advance_step.ClearLink = omega arith
by_most true advance_step.FreeTail = omega arith
by_most false advance_step.ClearLink = omega arith
by_most false _ = omega arith

pub here_most : (w : WriterState) (f : WriterStep) → writer_here w f ≤ 15
here_most w (writer_step.Advance v) = by_most (ltb w.write w.tail) v
here_most w _ = omega arith

cost_same : (last : ℕ) (s : WriterState) (b d : Bool) (f : WriterStep) → writer_cost last (record s { checks = b; step = f }) f ≡ writer_cost last (record s { checks = d; step = f }) f
cost_same last s b d _ = refl

can_same : (m : SharedWords) (s : WriterState) (b d : Bool) (f : WriterStep) → WriterCan m (record s { checks = b; step = f }) f → WriterCan m (record s { checks = d; step = f }) f
can_same m s b d _ can = can

takes_same : (m : SharedWords) (s : WriterState) (b d : Bool) (f : WriterStep) → WriterTakes m (record s { checks = b; step = f }) f → WriterTakes m (record s { checks = d; step = f }) f
takes_same m s b d (writer_step.Advance advance_step.LoadTail) takes = takes
takes_same m s b d _ takes = takes

module _ (D : LogSide) (c : Setup) (m : SharedWords) (g : LogGhost) (p : D.Part) (actors : List Actor) (seat : ℕ) (s : WriterState) (before : LogHalf D c m g p actors) (fits : WriterFits D c m g p seat s) (last : ℕ) (sn_last : lsn m.sn ≤ last) (sound : m.failed ≡ 0) (ls : ℕ → List Listed) (broken : Bool) (code mark : ℕ) where
  -- the writer at a step of its own
  abbrev own : WriterStep → WriterState
  own f = record s { checks = false; step = f }

  abbrev at : AdvanceStep → WriterStep
  at v = writer_step.Advance v

  abbrev End : SharedWords → WriterStep → WriterState → Type 0
  End after f w = Outcome last m after (actor.Writer (own f)) (actor.Writer w)

  -- it waits, and no word changes
  stays : (f : WriterStep) (w : WriterState) → cost last (actor.Writer w) ≤ cost last (actor.Writer (own f)) → (WriterCan m (own f) f → Can m (actor.Writer w) × (tries (actor.Writer w) < tries (actor.Writer (own f))))
      → (WriterTakes m (own f) f → Can m (actor.Writer w) ⊎ (Takes m (actor.Writer w) × (takes_in (actor.Writer w) < takes_in (actor.Writer (own f))))) → (f ≡ at advance_step.FreeTail → ⊥) → End m f w
  stays f w same nearer taking not_free = inr (inl (record { same_cost = same; words = refl; tail = inl refl; nearer = nearer; leaving = λ _ z. absurd z; taking = taking; freeing = λ z. absurd (not_free z.0) }))

  -- its tail is at most WTAIL, and that at most where links are cleared, and the last group's end
  tail_low : s.tail ≤ m.wtail
  tail_low = let O = before.global.order in let a = fits.tail in let b = O.wtail_is in let l = lsn_le g.target g.wtail O.target_wtail in omega arith

  cleared_last : lsn g.tail ≤ last
  cleared_last = let l = lsn_le g.tail m.sn before.global.order.tail_sn in omega arith

  wtail_last : m.wtail ≤ last
  wtail_last = let a = cleared_last in let b = tails D c m g p actors before in omega arith

  abbrev loaded : ℕ → Bool → Bool → WriterState
  loaded t held low = record (own (at advance_step.LoadTail)) { advance = record s.advance { tail = t }; tail = t; checks = cond held low false; step = cond (cond held low false) (at advance_step.LoadTail) (cond held writer_step.LoadCheckpoint (at advance_step.TakeTail)) }

  load_tail : (t : ℕ) → t ≡ m.wtail → (held low : Bool) → held ≡ m.wheld → nat_le t s.write ≡ low → End m (at advance_step.LoadTail) (loaded t held low)
  load_tail t is held low held_is e = elim (dec_le t s.tail) [
    | no d ↦ inl (let most = here_most (loaded t held low) (loaded t held low).step in let top = wtail_last in omega arith)
    | yes d ↦ (let low_tail = tail_low in elim (dec_le s.tail s.write) [
      | yes i ↦ idle held low held_is e (omega arith)
      | no b ↦ busy held low e (omega arith)
    ])
  ]
    where
      busy : (held low : Bool) → nat_le t s.write ≡ low → (s.write < s.tail) × (s.tail ≡ t) → End m (at advance_step.LoadTail) (loaded t held low)
      busy true true e h = let z = leb-true t s.write e in let y = h.0 in let x = h.1 in absurd (omega arith)
      busy true false e h = let y = h.0 in let x = h.1 in let a = busy_here (own (at advance_step.LoadTail)) advance_step.LoadTail h.0 in inl (omega arith)
      busy false low e h = let y = h.0 in let x = h.1 in let a = busy_here (own (at advance_step.LoadTail)) advance_step.LoadTail h.0 in let b = busy_here (loaded t false low) advance_step.TakeTail (omega arith) in inl (omega arith)

      idle : (held low : Bool) → held ≡ m.wheld → nat_le t s.write ≡ low → (s.tail ≤ s.write) × (s.tail ≡ t) → End m (at advance_step.LoadTail) (loaded t held low)
      idle true false held_is e h = let z = leb-false t s.write e in let y = h.0 in let x = h.1 in absurd (omega arith)
      idle true true held_is e h = let y = h.0 in let x = h.1 in
          let a = idle_here (own (at advance_step.LoadTail)) advance_step.LoadTail h.0 in
          let b = idle_here (loaded t true true) advance_step.LoadTail (omega arith) in
          stays (at advance_step.LoadTail) (loaded t true true) (omega arith) (λ up. ⊎_elim (λ z. absurd (omega arith)) (λ z. absurd (omega arith)) up) (λ z. let y = z.0 in absurd (cc)) (λ z. absurd (cc))
      idle false low held_is e h = let y = h.0 in let x = h.1 in
          let a = idle_here (own (at advance_step.LoadTail)) advance_step.LoadTail h.0 in
          let b = idle_here (loaded t false low) advance_step.TakeTail (omega arith) in
          stays (at advance_step.LoadTail) (loaded t false low) (omega arith) (λ up. ⊎_elim (λ z. absurd (omega arith)) (λ z. absurd (omega arith)) up) (λ z. inr ((z, is), omega arith)) (λ z. absurd (cc))

  abbrev taken : Bool → Bool → WriterState
  taken b low = record (own (at advance_step.TakeTail)) { advance = record s.advance { place = s.advance.tail }; checks = cond (cond b false true) low false; step = cond (cond (cond b false true) low false) (at advance_step.LoadTail) (cond (cond b false true) writer_step.LoadCheckpoint (at advance_step.LoadLink)) }

  take_tail : (b : Bool) → eqb (tail_word m.wtail m.wheld) (tail_word s.advance.tail false) ≡ b → (low : Bool) → nat_le s.tail s.write ≡ low → End (cond b (wrote m word.Wtail (tail_word s.advance.tail true)) m) (at advance_step.TakeTail) (taken b low)
  take_tail true e low f =
      let k = is_free m s.advance.tail (eqb-true (tail_word m.wtail m.wheld) (tail_word s.advance.tail false) e) in
      let t : ℕ = tail_of (tail_word s.advance.tail true) in
      let held : Bool = is_held (tail_word s.advance.tail true) in
      let t_is : t ≡ m.wtail = tail_in s.advance.tail true ∙ k.1 in
      elim (dec_le s.tail s.write) [
        | no d ↦ inl (let a = busy_here (own (at advance_step.TakeTail)) advance_step.TakeTail (omega arith) in let b = busy_here (taken true low) advance_step.LoadLink (omega arith) in omega arith)
        | yes d ↦ inr (inl (record {
          same_cost = (let a = idle_here (own (at advance_step.TakeTail)) advance_step.TakeTail d in let b = idle_here (taken true low) advance_step.LoadLink d in omega arith);
          words = ap (λ (n : ℕ). record m { wtail = n; wheld = held }) t_is;
          tail = inr (inl (k.0, λ stands. inr (inl (subst (Stands m) (sym k.1) stands))));
          nearer = λ up. (inl (⊎_elim (λ z. inl z) (λ z. inr (omega arith)) up), omega arith);
          leaving = λ _ z. absurd z;
          taking = λ z. inl (inr (inl (subst (Stands m) (sym k.1) z.0.1)));
          freeing = λ z. let y = z.0 in absurd (cc);
        }))
      ]
  take_tail false e low f = elim (dec_le s.tail s.write) [
    | no d ↦ busy low f (omega arith)
    | yes d ↦ idle low f d
  ]
    where
      busy : (low : Bool) → nat_le s.tail s.write ≡ low → s.write < s.tail → End m (at advance_step.TakeTail) (taken false low)
      busy true f d = let z = leb-true s.tail s.write f in absurd (omega arith)
      busy false f d = inl (let a = busy_here (own (at advance_step.TakeTail)) advance_step.TakeTail d in omega arith)

      other : (m.wheld ≡ false) × (s.advance.tail ≡ m.wtail) → ⊥
      other z = let ne = eqb-false (tail_word m.wtail m.wheld) (tail_word s.advance.tail false) e in ne (ap (tail_word m.wtail) z.0 ∙ ap (λ (n : ℕ). tail_word n false) (sym z.1))

      idle : (low : Bool) → nat_le s.tail s.write ≡ low → s.tail ≤ s.write → End m (at advance_step.TakeTail) (taken false low)
      idle false f d = let z = leb-false s.tail s.write f in absurd (omega arith)
      idle true f d =
          let a = idle_here (own (at advance_step.TakeTail)) advance_step.TakeTail d in
          let b = idle_here (taken false true) advance_step.LoadTail d in
          stays (at advance_step.TakeTail) (taken false true) (omega arith) (λ up. (up, omega arith)) (λ z. absurd (other (z.0.0, z.1))) (λ z. absurd (cc))

  abbrev found_link : ℕ → Bool → WriterState
  found_link n b = record (own (at advance_step.LoadLink)) { advance = record s.advance { link = n }; step = at (cond b advance_step.FreeTail advance_step.ClearLink) }

  load_link : (n : ℕ) → slice_index m.wlinks (s.advance.place % WRITTEN_LINKS) ≡ n → (b : Bool) → eqb n 0 ≡ b → End m (at advance_step.LoadLink) (found_link n b)
  load_link n is true e = elim (dec_le s.tail s.write) [
    | no d ↦ inl (let a = busy_here (own (at advance_step.LoadLink)) advance_step.LoadLink (omega arith) in let b = busy_here (found_link n true) advance_step.FreeTail (omega arith) in omega arith)
    | yes d ↦ (
        let a = idle_here (own (at advance_step.LoadLink)) advance_step.LoadLink d in
        let b = idle_here (found_link n true) advance_step.FreeTail d in
        let none = eqb-true n 0 e in
        stays (at advance_step.LoadLink) (found_link n true) (omega arith)
        (λ can. ⊎_elim (λ up. (inl up, omega arith)) (λ found_it. ⊎_elim (λ stands. absurd (omega arith)) (λ ne. (inr ne, omega arith)) found_it) can)
        (λ z. absurd z) (λ z. absurd (cc)))
  ]
  load_link n is false e = elim (dec_le s.tail s.write) [
    | no d ↦ inl (let a = busy_here (own (at advance_step.LoadLink)) advance_step.LoadLink (omega arith) in let b = busy_here (found_link n false) advance_step.ClearLink (omega arith) in omega arith)
    | yes d ↦ inl (let a = idle_here (own (at advance_step.LoadLink)) advance_step.LoadLink d in let b = idle_here (found_link n false) advance_step.ClearLink d in omega arith)
  ]

  abbrev cleared : Bool → WriterState
  cleared b = record (own (at advance_step.ClearLink)) { advance = record s.advance { place = s.advance.place + s.advance.link; link = 0 }; step = at (cond b advance_step.LoadLink advance_step.FreeTail) }

  clear_link : 0 < slice_index m.wlinks (s.advance.place % WRITTEN_LINKS) → (b : Bool) → End (record m { wlinks = slice_set m.wlinks (s.advance.place % WRITTEN_LINKS) 0 }) (at advance_step.ClearLink) (cleared b)
  clear_link stands b = let z = links_less m.wlinks (s.advance.place % WRITTEN_LINKS) stands in elim (dec_le s.tail s.write) [
    | no d ↦ inl (let a = busy_here (own (at advance_step.ClearLink)) advance_step.ClearLink (omega arith) in let k = busy_here (cleared b) (cond b advance_step.LoadLink advance_step.FreeTail) (omega arith) in let y = few_busy b in omega arith)
    | yes d ↦ inl (let a = idle_here (own (at advance_step.ClearLink)) advance_step.ClearLink d in let k = idle_here (cleared b) (cond b advance_step.LoadLink advance_step.FreeTail) d in let y = few_idle b in omega arith)
  ]
    where
      few_busy : (b : Bool) → busy_cost (cond b advance_step.LoadLink advance_step.FreeTail) ≤ 13
      few_busy true = omega arith
      few_busy false = omega arith

      few_idle : (b : Bool) → idle_cost (cond b advance_step.LoadLink advance_step.FreeTail) ≤ 1
      few_idle true = omega arith
      few_idle false = omega arith

  abbrev freed : Bool → WriterState
  freed low = record (own (at advance_step.FreeTail)) { tail = s.advance.place; checks = low; step = cond low (at advance_step.LoadTail) writer_step.LoadCheckpoint }

  free_tail : s.advance.tail ≡ m.wtail → s.advance.place ≡ lsn g.tail → (low : Bool) → nat_le s.advance.place s.write ≡ low → End (wrote m word.Wtail (tail_word s.advance.place false)) (at advance_step.FreeTail) (freed low)
  free_tail tail place low f =
      let t_is = tail_in s.advance.place false in
      let above = tails D c m g p actors before in
      let under = tail_low in
      let top = cleared_last in
      elim (dec_le s.advance.place s.tail) [
        | no d ↦ inl (let most = here_most (freed low) (freed low).step in omega arith)
        | yes d ↦ elim (dec_le s.tail s.write) [
          | no b ↦ busy low f (omega arith)
          | yes i ↦ idle low f (omega arith)
        ]
      ]
    where
      busy : (low : Bool) → nat_le s.advance.place s.write ≡ low → (s.write < s.tail) × (s.advance.place ≡ s.tail) × (m.wtail ≤ s.advance.place) → End (wrote m word.Wtail (tail_word s.advance.place false)) (at advance_step.FreeTail) (freed low)
      busy true f h = let z = leb-true s.advance.place s.write f in let y = h.0 in let x = h.1 in absurd (omega arith)
      busy false f h = let x = h.1 in let y = h.2 in let t_is = tail_in s.advance.place false in let a = busy_here (own (at advance_step.FreeTail)) advance_step.FreeTail h.0 in inl (omega arith)

      idle : (low : Bool) → nat_le s.advance.place s.write ≡ low → (s.tail ≤ s.write) × (s.advance.place ≡ s.tail) × (m.wtail ≡ s.advance.place) → End (wrote m word.Wtail (tail_word s.advance.place false)) (at advance_step.FreeTail) (freed low)
      idle false f h = let z = leb-false s.advance.place s.write f in let y = h.0 in let x = h.1 in absurd (omega arith)
      idle true f h =
          let held : Bool = is_held (tail_word s.advance.place false) in
          let held_is : held ≡ false = held_in s.advance.place false in
          let t_is : tail_of (tail_word s.advance.place false) ≡ m.wtail = tail_in s.advance.place false ∙ sym h.2 in
          let z = h.0 in let y = h.1 in let x = h.2 in
          inr (inl (record {
            same_cost = (let a = idle_here (own (at advance_step.FreeTail)) advance_step.FreeTail h.0 in let b = idle_here (freed true) advance_step.LoadTail (omega arith) in omega arith);
            words = ap (λ (n : ℕ). record m { wtail = n; wheld = held }) t_is;
            tail = inr (inr held_is);
            nearer = λ can. ⊎_elim (λ up. ⊎_elim (λ w. absurd (omega arith)) (λ w. absurd (omega arith)) up) (λ ne. absurd (ne (omega arith))) can;
            leaving = λ _ w. absurd w;
            taking = λ w. absurd w;
            freeing = λ _. held_is;
          }))

  writer_advances : (v : AdvanceStep) → WriterAt D c m g p seat s (at v)
      → End (shared_left m (writer_op (own (at v)) (at v))) (at v) (writer_took (own (at v)) (shared_answer ls broken code mark m (writer_op (own (at v)) (at v))) (at v))
  writer_advances advance_step.LoadTail h = load_tail (tail_of (tail_word m.wtail m.wheld)) (tail_in m.wtail m.wheld) (is_held (tail_word m.wtail m.wheld)) (nat_le (tail_of (tail_word m.wtail m.wheld)) s.write) (held_in m.wtail m.wheld) refl
  writer_advances advance_step.TakeTail h = take_tail (eqb (tail_word m.wtail m.wheld) (tail_word s.advance.tail false)) refl (nat_le s.tail s.write) refl
  writer_advances advance_step.LoadLink h = load_link (slice_index m.wlinks (s.advance.place % WRITTEN_LINKS)) refl (eqb (slice_index m.wlinks (s.advance.place % WRITTEN_LINKS)) 0) refl
  writer_advances advance_step.ClearLink h = clear_link (let z = h.1.1 in let y = h.1.2 in omega arith) (ltb (s.advance.place + s.advance.link) (s.advance.tail + ADVANCE_PLACES))
  writer_advances advance_step.FreeTail h = free_tail h.1.tail h.1.place (nat_le s.advance.place s.write) refl

  -- its turn, where it doesn't check
  writer_own : (f : WriterStep) → WriterAt D c m g p seat s f → (f ≡ writer_step.LoadCheckpoint → has_log_space s m.ckpt ≡ true) → (f ≡ writer_step.GiveBroken → 0 < m.failed) → (m.device ≡ 0 → broken ≡ false)
      → End (shared_left m (writer_op (own f) f)) f (writer_took (own f) (shared_answer ls broken code mark m (writer_op (own f) f)) f)
  writer_own (writer_step.Advance v) h space gives free = writer_advances v h
  writer_own writer_step.LoadCheckpoint h space gives free = by (has_log_space s m.ckpt) (space refl) (stands_outside s)
    where
      by : (b : Bool) → b ≡ true → (d : Bool) → End m writer_step.LoadCheckpoint (cond b (record (own writer_step.LoadCheckpoint) { ckpt = m.ckpt; step = cond d writer_step.LoadFirst writer_step.LoadCell }) (record (own writer_step.LoadCheckpoint) { ckpt = m.ckpt; checks = true; step = writer_step.LoadCheckpoint }))
      by true e true = inl (omega arith)
      by true e false = inl (omega arith)
      by false e d = absurd (cc)
  writer_own writer_step.LoadFirst h space gives free = inl (omega arith)
  writer_own writer_step.ClearFirst h space gives free = inl (omega arith)
  writer_own writer_step.LoadCell h space gives free = by (has_whole_word s) (slice_index m.cells (cell_of (read_place s)))
    where
      by : (b : Bool) (n : ℕ) → End m writer_step.LoadCell (cond b (record (own writer_step.LoadCell) { word = n; step = writer_step.ClearCell }) (record (own writer_step.LoadCell) { kept = s.kept ++ lanes (lane_of (read_place s)) (s.tail - lsn (read_place s)) n; step = writer_step.TakeDevice }))
      by true n = inl (omega arith)
      by false n = inl (let l = length-append s.kept (lanes (lane_of (read_place s)) (s.tail - lsn (read_place s)) n) in let up = lsn_le (read_place s) (s.from + length (s.kept ++ lanes (lane_of (read_place s)) (s.tail - lsn (read_place s)) n)) (omega arith) in omega arith)
  writer_own writer_step.ClearCell h space gives free = by (eqb (lsn (word_end s)) s.tail) (eqb (length s.kept + left_in_word (read_place s)) (BLOCK_DATA * length s.firsts))
    where
      by : (b d : Bool) → End (shared_left m (writer_op (own writer_step.ClearCell) writer_step.ClearCell)) writer_step.ClearCell (record (own writer_step.ClearCell) { kept = s.kept ++ lanes (lane_of (read_place s)) (left_in_word (read_place s)) s.word; word = 0; step = cond b writer_step.TakeDevice (cond d writer_step.LoadFirst writer_step.LoadCell) })
      by b d =
          let l = length-append s.kept (lanes (lane_of (read_place s)) (left_in_word (read_place s)) s.word) in
          let k = lanes_long (lane_of (read_place s)) (left_in_word (read_place s)) s.word in
          let some_left = left_some (read_place s) in
          let up = lsn_less (read_place s) (s.from + length (s.kept ++ lanes (lane_of (read_place s)) (left_in_word (read_place s)) s.word)) (omega arith) in
          let low = lsn_less (read_place s) g.target (let a = fits.long in let z = h.1 in omega arith) in
          let t = fits.tail in let top = wtail_last in let under = tail_low in
          few b d up (omega arith)
        where
          few : (b d : Bool) → lsn (read_place s) < lsn (s.from + length (s.kept ++ lanes (lane_of (read_place s)) (left_in_word (read_place s)) s.word)) → lsn (read_place s) < last
              → End (shared_left m (writer_op (own writer_step.ClearCell) writer_step.ClearCell)) writer_step.ClearCell (record (own writer_step.ClearCell) { kept = s.kept ++ lanes (lane_of (read_place s)) (left_in_word (read_place s)) s.word; word = 0; step = cond b writer_step.TakeDevice (cond d writer_step.LoadFirst writer_step.LoadCell) })
          few true d up low = inl (omega arith)
          few false true up low = inl (omega arith)
          few false false up low = inl (omega arith)
  writer_own writer_step.TakeDevice h space gives free = by (eqb m.device 0) refl broken free
    where
      by : (b : Bool) → eqb m.device 0 ≡ b → (d : Bool) → (m.device ≡ 0 → d ≡ false) → End (cond b (record m { device = 1 }) m) writer_step.TakeDevice (writer_took (own writer_step.TakeDevice) (device_says b d) writer_step.TakeDevice)
      by true e true sound_part = let z = sound_part (eqb-true m.device 0 e) in absurd (cc)
      by true e false sound_part = inl (omega arith)
      by false e d sound_part = stays writer_step.TakeDevice _ (omega arith) (λ is. absurd (eqb-false m.device 0 e is)) (λ z. absurd z) (λ z. absurd (cc))
  writer_own writer_step.GiveBroken h space gives free = let z = gives refl in absurd (omega arith)
  writer_own writer_step.WriteTo h space gives free = by (eqb code 0)
    where
      by : (b : Bool) → End m writer_step.WriteTo (writer_took (own writer_step.WriteTo) (cond b (answer.Called 0) (answer.Failed code)) writer_step.WriteTo)
      by true = inl (omega arith)
      by false = inl (omega arith)
  writer_own writer_step.StoreWrite h space gives free =
      let same : s.from + BLOCK_DATA * full_blocks s + length (drop (BLOCK_DATA * full_blocks s) s.kept) ≡ read_place s = omega (arith, length-drop (BLOCK_DATA * full_blocks s) s.kept) in
      let l = ap lsn same in
      inl (omega arith)
  writer_own writer_step.GiveDevice h space gives free = let a = idle_here (record (own writer_step.GiveDevice) { step = at advance_step.LoadTail }) advance_step.LoadTail (let z = h.1 in omega arith) in inl (omega arith)
  writer_own writer_step.StoreFailed h space gives free = inr (inr (h.0, omega arith, omega arith))
  writer_own writer_step.GiveFailed h space gives free = let z = h in absurd (omega arith)
  writer_own writer_step.Failed h space gives free = let z = h in absurd (omega arith)

  -- its turn, where it checks
  writer_check : (f : WriterStep) (b : Bool) → eqb m.failed 0 ≡ b
      → Outcome last m m (actor.Writer (record s { checks = true; step = f })) (actor.Writer (cond b (record s { checks = false; step = f }) (record s { checks = false; code = m.failed; step = writer_step.Failed })))
  writer_check f true e = inr (inl (record {
    same_cost = (let z = cost_same last s false true f in omega arith);
    words = refl;
    tail = inl refl;
    nearer = λ can. (can_same m s true false f can, omega arith);
    leaving = λ _ z. absurd z;
    taking = λ z. inr (takes_same m s true false f z, omega arith);
    freeing = λ z. let y = z.1 in absurd (cc);
  }))
  writer_check f false e = absurd (eqb-false m.failed 0 e sound)

  writer_by : (b : Bool) (f : WriterStep) → WriterAt D c m g p seat s f → (f ≡ writer_step.LoadCheckpoint → has_log_space s m.ckpt ≡ true) → (f ≡ writer_step.GiveBroken → 0 < m.failed) → (m.device ≡ 0 → broken ≡ false)
      → Outcome last m (shared_left m (next (actor.Writer (record s { checks = b; step = f })))) (actor.Writer (record s { checks = b; step = f })) (took (actor.Writer (record s { checks = b; step = f })) (shared_answer ls broken code mark m (next (actor.Writer (record s { checks = b; step = f })))))
  writer_by true f h space gives free = writer_check f (eqb m.failed 0) refl
  writer_by false f h space gives free = writer_own f h space gives free

  pub writer_turns : (s.step ≡ writer_step.LoadCheckpoint → has_log_space s m.ckpt ≡ true) → (s.step ≡ writer_step.GiveBroken → 0 < m.failed) → (m.device ≡ 0 → broken ≡ false)
      → Outcome last m (shared_left m (next (actor.Writer s))) (actor.Writer s) (took (actor.Writer s) (shared_answer ls broken code mark m (next (actor.Writer s))))
  writer_turns = writer_by s.checks s.step fits.step
