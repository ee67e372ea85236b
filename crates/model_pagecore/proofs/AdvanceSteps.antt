-- An advance of CTAIL: an actor takes the tail, clears the links that it finds from there on, and frees it with the place to
-- which they led.
use Rattle.std.proofs.Common.{Bool, List, ap, arith, cond, eqb, eqb-true, false, get_or-set_other, get_or-set_same, length, ltb, refl, set, subst, sym, true, ℕ, ◌%◌, ◌+◌, ◌<◌, ◌∙◌, ◌≡◌, ◌≢◌, ◌≤◌}
use Rattle.std.proofs.lemmas.Bool.{eqb-false}
use Rattle.std.specs.Prelude.{slice_index, slice_set}
use lib.ListN.{get_elem?}
use mathlib.Core.Option.{some}
use native.Mathlib.Decide.{dec_le, ℕ_discrete}
use Rattle.model_core.proofs.Groups.{some_same}
use Rattle.model_core.proofs.Lsns.{ring_same}
use Rattle.model_core.proofs.Tails.{held_in, tail_in}
use Rattle.model_core.specs.{Actor, Advance, advance_next, advance_op, advance_took, after, ends, Entry, found, is_held, Listed, loaded_tail, lsn, SharedWords, tail_of, tail_word, UserState, DataSide, Setup}
use Rattle.model_core.specs.declared.steps.AdvanceStep.{AdvanceStep}
use Rattle.model_pagecore.proofs.PageStep.{ring_step}
use Rattle.model_pagecore.specs.PageFacts.{Grows, ClosedLink, ClosedLinks, PageGhost}
use Rattle.model_pagecore.specs.PageHalf.{ClosingAt, HasFound, HoldsCtail, PageFits, PageHalf}
use Rattle.model_pagecore.specs.Pages.{Laid, start_lsn}
use Rattle.model_core.specs.declared.steps.AdvanceStep.TheVariants as advance_step
use Rattle.model_core.specs.declared.words.LinkBuffer.TheVariants as link_buffer
use Rattle.model_core.specs.States as actor
use Rattle.model_core.specs.declared.limits.TheConstants.{ADVANCE_PLACES, CLOSED_LINKS}

-- the step after one: an advance that ends stands at its first
abbrev pub step_left : Advance → ℕ → AdvanceStep → AdvanceStep
step_left v n s = cond (ends v n s) advance_step.LoadTail (advance_next v n s)

module _ (E : DataSide) (c : Setup) (seat_of : ℕ → ℕ) (m : SharedWords) (log : List Entry) (stable : ℕ) (h : PageGhost) (ls : ℕ → List Listed) (d : E.Part) (actors : List Actor) (seat : ℕ) (before : PageHalf E c m log stable h ls d actors)
    (mates : (j : ℕ) (u : UserState) → get_elem? actors j ≡ some (actor.User u) → seat_of u.user ≡ j) (W : Laid (lsn c.base) (lsn m.sn) log) where
  -- what an actor must be after a step, whatever that leaves of CTAIL and its links, where its advance is so and at this step
  abbrev pub Fits : Actor → Advance → AdvanceStep → Type 0
  Fits b v s = (links : List ℕ) (ctail : ℕ) (cheld : Bool) (tail advancer : ℕ) → m.ctail ≤ ctail
      → ClosingAt E c (record m { clinks = links; ctail = ctail; cheld = cheld }) log (record h { tail = tail; advancer = advancer }) ls d seat v s
      → PageFits E c (record m { clinks = links; ctail = ctail; cheld = cheld }) log (record h { tail = tail; advancer = advancer }) ls d seat b

  -- what a step leaves
  abbrev pub Left : SharedWords → Actor → Type 0
  Left m' b = (k : PageGhost) × PageHalf E c m' log stable k ls d (set actors seat b) × Grows m h k

  C : ClosedLinks log h.closed m.ctail m.cheld h.tail (lsn m.sn) m.clinks
  C = before.paged.closed_links

  -- the tail that was loaded last, and that of an advance, are at most CTAIL after each step of it
  pub loaded_low : (v : Advance) (t : ℕ) (s : AdvanceStep) → t ≤ m.ctail → loaded_tail t (found (advance_op link_buffer.Closed v s) m) s ≤ m.ctail
  loaded_low v t advance_step.LoadTail low = let z = tail_in m.ctail m.cheld in omega arith
  loaded_low v t advance_step.TakeTail low = low
  loaded_low v t advance_step.LoadLink low = low
  loaded_low v t advance_step.ClearLink low = low
  loaded_low v t advance_step.FreeTail low = low

  pub tail_low : (v : Advance) (s : AdvanceStep) → v.tail ≤ m.ctail → (advance_took v (found (advance_op link_buffer.Closed v s) m) s).tail ≤ m.ctail
  tail_low v advance_step.LoadTail low = let z = tail_in m.ctail m.cheld in omega arith
  tail_low v advance_step.TakeTail low = low
  tail_low v advance_step.LoadLink low = low
  tail_low v advance_step.ClearLink low = low
  tail_low v advance_step.FreeTail low = low

  module _ (b : Actor) where
    -- no word changes: it loads the tail, or a link, or finds the tail held
    keeps_words : (v : Advance) (s : AdvanceStep) → ClosingAt E c m log h ls d seat v s → Fits b v s → Left m b
    keeps_words v s o fits = (
      h,
      ring_step E c seat_of m log stable h ls d actors seat before mates m.clinks m.ctail m.cheld h.tail h.advancer h.closed b C (omega arith) before.paged.each_page (λ _ _ _ _. refl) (λ _ z. z) (λ o _. (o, refl, refl, refl))
          (fits m.clinks m.ctail m.cheld h.tail h.advancer (omega arith) o),
      record { given = omega arith; closed = λ x z. z; holder = λ _ _. refl },
    )

    -- it takes the tail, which is free
    keeps_taken : (v : Advance) (ctail : ℕ) (cheld : Bool) → m.cheld ≡ false → v.tail ≡ m.ctail → ctail ≡ m.ctail → cheld ≡ true → Fits b (record v { place = v.tail }) advance_step.LoadLink → Left (record m { ctail = ctail; cheld = cheld }) b
    keeps_taken v ctail cheld free loaded same held fits =
        let low = C.free free in let order = C.order in (
          record h { advancer = seat },
          ring_step E c seat_of m log stable h ls d actors seat before mates m.clinks ctail cheld h.tail seat h.closed b
              (record { order = omega arith; free = λ z. absurd (cc); bound = C.bound; known = C.known; below = C.below; window = λ i e is z. let y = C.window i e is z in omega arith; links_are = C.links_are; standing = C.standing })
              (omega arith) before.paged.each_page (λ _ _ _ _. refl) (λ _ z. z) (λ o. absurd (cc))
              (fits m.clinks ctail cheld h.tail seat (omega arith) (record { held = held; mine = refl; tail = omega arith; place = omega arith })),
          record { given = omega arith; closed = λ x z. z; holder = λ _ _. refl },
        )

    module _ (v : Advance) (o : HoldsCtail E c m log h ls d seat v) where
      -- it finds a link at its place, or none
      keeps_found : (n : ℕ) → slice_index m.clinks (v.place % CLOSED_LINKS) ≡ n → (z : Bool) → eqb n 0 ≡ z → Fits b (record v { link = n }) (cond z advance_step.FreeTail advance_step.ClearLink) → Left m b
      keeps_found n is true e fits = keeps_words (record v { link = n }) advance_step.FreeTail (record { held = o.held; mine = o.mine; tail = o.tail; place = o.place }) fits
      keeps_found n is false e fits =
          let pos : 0 < n = (let k = eqb-false n 0 e in omega arith) in
          let s : ClosedLink log h.closed h.tail (v.place % CLOSED_LINKS) n = subst (ClosedLink log h.closed h.tail (v.place % CLOSED_LINKS)) is (C.links_are (v.place % CLOSED_LINKS) (omega arith) (omega arith)) in
          let since = s.since in let near = C.window s.at s.group s.is s.done in let order = C.order in let place = o.place in
          let starts : start_lsn s.group ≡ v.place = ring_same (start_lsn s.group) v.place h.tail CLOSED_LINKS since (omega arith) (omega arith) (omega arith) (sym s.slot) in
          let size = s.size in
          keeps_words (record v { link = n }) advance_step.ClearLink (record { held = o.held; mine = o.mine; tail = o.tail; place = o.place }, (s.at, s.group, s.is, s.done, starts, omega arith)) fits

      -- it clears that link, and its place goes on
      keeps_cleared : HasFound E c m log h ls d v → length m.clinks ≡ CLOSED_LINKS → (s : AdvanceStep)
          → ((m' : SharedWords) (h' : PageGhost) → HoldsCtail E c m' log h' ls d seat (record v { place = v.place + v.link; link = 0 }) → ClosingAt E c m' log h' ls d seat (record v { place = v.place + v.link; link = 0 }) s)
          → Fits b (record v { place = v.place + v.link; link = 0 }) s → Left (record m { clinks = slice_set m.clinks (v.place % CLOSED_LINKS) 0 }) b
      keeps_cleared f long s closing fits =
          let e = f.1 in
          let i : ℕ = v.place % CLOSED_LINKS in
          let links : List ℕ = slice_set m.clinks i 0 in
          let lows = f.4 in let highs = f.5 in let place = o.place in
          let tail : ℕ = v.place + v.link in
          let w = W.wide f.0 e f.2 in let un = W.under f.0 e f.2 in
          let order = C.order in
          let loaded = o.tail in
          let else : (j : ℕ) → j ≢ i → slice_index links j ≡ slice_index m.clinks j = λ j n. get_or-set_other m.clinks i j 0 0 n in (
            record h { tail = tail },
            ring_step E c seat_of m log stable h ls d actors seat before mates links m.ctail m.cheld tail h.advancer h.closed b
                (record {
                  order = omega arith;
                  free = λ z. let held = o.held in absurd (cc);
                  bound = omega arith;
                  known = C.known;
                  below = λ j x is lt. elim (ℕ_discrete j f.0) [
                    | yes z ↦ (let same = some_same log f.0 x e (subst (λ (k : ℕ). get_elem? log k ≡ some x) z is) f.2 in subst (λ (y : Entry). h.closed y.start ≡ true) (sym same) f.3)
                    | no z ↦ elim (dec_le j f.0) [
                      | yes l ↦ (let a = W.apart j f.0 x e is f.2 (omega arith) in let wx = W.wide j x is in C.below j x is (omega arith))
                      | no l ↦ (let a = W.apart f.0 j e x f.2 is (omega arith) in absurd (omega arith))
                    ]
                  ];
                  window = C.window;
                  links_are = λ j l pos. elim (ℕ_discrete j i) [
                    | yes z ↦ (let value : slice_index links j ≡ 0 = subst (λ (y : ℕ). slice_index links y ≡ 0) (sym z) (get_or-set_same m.clinks i 0 0 (omega arith)) in absurd (omega arith))
                    | no z ↦ (let value = else j z in
                        let s = C.links_are j l (omega arith) in
                        let since = s.since in
                        let later : tail ≤ start_lsn s.group = elim (ℕ_discrete s.at f.0) [
                          | yes q ↦ (let same = some_same log f.0 s.group e (subst (λ (k : ℕ). get_elem? log k ≡ some s.group) q s.is) f.2 in
                              absurd (z (s.slot ∙ ap (λ (y : Entry). start_lsn y % CLOSED_LINKS) same ∙ ap (λ (y : ℕ). y % CLOSED_LINKS) lows)))
                          | no q ↦ elim (dec_le s.at f.0) [
                            | yes l2 ↦ (let a = W.apart s.at f.0 s.group e s.is f.2 (omega arith) in let wg = W.wide s.at s.group s.is in absurd (omega arith))
                            | no l2 ↦ (let a = W.apart f.0 s.at e s.group f.2 s.is (omega arith) in omega arith)
                          ]
                        ] in
                        subst (λ (y : ℕ). ClosedLink log h.closed tail j y) (sym value) (record { at = s.at; group = s.group; is = s.is; slot = s.slot; size = s.size; since = later; done = s.done }))
                  ];
                  standing = λ j x is done since. let near = C.window j x is done in
                      let ne : start_lsn x % CLOSED_LINKS ≢ i = (λ z. let y = ring_same (start_lsn x) v.place h.tail CLOSED_LINKS (omega arith) (omega arith) (omega arith) (omega arith) z in absurd (omega arith)) in
                      let value = else (start_lsn x % CLOSED_LINKS) ne in let stands = C.standing j x is done (omega arith) in omega arith;
                })
                (omega arith) before.paged.each_page (λ _ _ _ _. refl) (λ _ z. z) (λ _ other. absurd (other o.mine))
                (fits links m.ctail m.cheld tail h.advancer (omega arith) (closing (record m { clinks = links }) (record h { tail = tail }) (record { held = o.held; mine = o.mine; tail = o.tail; place = refl }))),
            record { given = omega arith; closed = λ x z. z; holder = λ _ _. refl },
          )

      -- it frees the tail with its place
      keeps_freed : (ctail : ℕ) (cheld : Bool) → ctail ≡ v.place → cheld ≡ false → Fits b v advance_step.LoadTail → Left (record m { ctail = ctail; cheld = cheld }) b
      keeps_freed ctail cheld at_place free fits =
          let order = C.order in let place = o.place in (
            h,
            ring_step E c seat_of m log stable h ls d actors seat before mates m.clinks ctail cheld h.tail h.advancer h.closed b
                (record { order = omega arith; free = λ _. omega arith; bound = C.bound; known = C.known; below = C.below; window = λ i e is z. let y = C.window i e is z in omega arith; links_are = C.links_are; standing = C.standing })
                (omega arith) before.paged.each_page (λ _ _ _ _. refl) (λ _ z. z) (λ _ other. absurd (other o.mine))
                (fits m.clinks ctail cheld h.tail h.advancer (omega arith) tt),
            record { given = omega arith; closed = λ x z. z; holder = λ _ _. refl },
          )

    -- each step of an advance
    pub keeps_advance : (v : Advance) (s : AdvanceStep) → ClosingAt E c m log h ls d seat v s → length m.clinks ≡ CLOSED_LINKS
        → Fits b (advance_took v (found (advance_op link_buffer.Closed v s) m) s) (step_left v (found (advance_op link_buffer.Closed v s) m) s) → Left (after (advance_op link_buffer.Closed v s) m) b
    keeps_advance v advance_step.LoadTail o long fits = by (is_held (tail_word m.ctail m.cheld)) fits
      where
        by : (e : Bool) → Fits b (record v { tail = tail_of (tail_word m.ctail m.cheld) }) (cond e advance_step.LoadTail advance_step.TakeTail) → Left m b
        by true f = keeps_words (record v { tail = tail_of (tail_word m.ctail m.cheld) }) advance_step.LoadTail tt f
        by false f = keeps_words (record v { tail = tail_of (tail_word m.ctail m.cheld) }) advance_step.TakeTail tt f
    keeps_advance v advance_step.TakeTail o long fits = by (eqb (tail_word m.ctail m.cheld) (tail_word v.tail false)) refl fits
      where
        by : (e : Bool) → eqb (tail_word m.ctail m.cheld) (tail_word v.tail false) ≡ e → Fits b (record v { place = v.tail }) (cond (cond e false true) advance_step.LoadTail advance_step.LoadLink)
            → Left (cond e (record m { ctail = tail_of (tail_word v.tail true); cheld = is_held (tail_word v.tail true) }) m) b
        by true e f =
            let w : tail_word m.ctail m.cheld ≡ tail_word v.tail false = eqb-true (tail_word m.ctail m.cheld) (tail_word v.tail false) e in
            let loaded : m.ctail ≡ v.tail = sym (tail_in m.ctail m.cheld) ∙ ap tail_of w ∙ tail_in v.tail false in
            keeps_taken v (tail_of (tail_word v.tail true)) (is_held (tail_word v.tail true)) (sym (held_in m.ctail m.cheld) ∙ ap is_held w ∙ held_in v.tail false) (sym loaded) (tail_in v.tail true ∙ sym loaded) (held_in v.tail true) f
        by false e f = keeps_words (record v { place = v.tail }) advance_step.LoadTail tt f
    keeps_advance v advance_step.LoadLink o long fits = keeps_found v o (slice_index m.clinks (v.place % CLOSED_LINKS)) refl (eqb (slice_index m.clinks (v.place % CLOSED_LINKS)) 0) refl fits
    keeps_advance v advance_step.ClearLink o long fits = by (ltb (v.place + v.link) (v.tail + ADVANCE_PLACES)) fits
      where
        by : (e : Bool) → Fits b (record v { place = v.place + v.link; link = 0 }) (cond e advance_step.LoadLink advance_step.FreeTail) → Left (record m { clinks = slice_set m.clinks (v.place % CLOSED_LINKS) 0 }) b
        by true f = keeps_cleared v o.0 o.1 long advance_step.LoadLink (λ _ _ z. z) f
        by false f = keeps_cleared v o.0 o.1 long advance_step.FreeTail (λ _ _ z. z) f
    keeps_advance v advance_step.FreeTail o long fits = keeps_freed v o (tail_of (tail_word v.place false)) (is_held (tail_word v.place false)) (tail_in v.place false) (held_in v.place false) fits
