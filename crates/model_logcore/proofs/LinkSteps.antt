-- A user links its group.
use Rattle.std.proofs.Common.{Bool, List, ap, arith, cond, eqb, eqb-true, false, inl, inr, length, refl, set, subst, sym, true, ℕ, ⊎_elim, ◌%◌, ◌+◌, ◌-◌, ◌/◌, ◌<◌, ◌∙◌, ◌≡◌, ◌≢◌, ◌≤◌, ◌⊎◌}
use Rattle.std.proofs.lemmas.Bool.{eqb-false}
use Rattle.std.specs.Prelude.{slice_index, slice_set}
use lib.ListN.{get_elem?}
use mathlib.Core.Option.{some}
use native.Mathlib.Decide.{dec_le, ℕ_discrete}
use Rattle.model_core.proofs.Groups.{changed, changed_else, changed_here, ranged, ranged_in, ranged_out, tiles_at}
use Rattle.model_core.proofs.Lsns.{link_same, lsn_le, lsn_less, lsn_wide}
use Rattle.model_core.specs.{Actor, answered, changes, end_of, Entry, entry, group_bytes, group_end, line, lsn, mode, SharedWords, user_took, UserState, LogSide, Setup}
use Rattle.model_core.specs.declared.steps.UserStep.{UserStep}
use Rattle.model_core.specs.declared.limits.TheConstants.{ADVANCE_PLACES, WRITTEN_LINKS}
use Rattle.model_log.specs.declared.layout.TheConstants.{BLOCK_DATA}
use Rattle.model_base.specs.declared.limits.TheConstants.{MAX_GROUP}
use Rattle.model_logcore.proofs.AnswerSteps.{answer_global, answered_fits}
use Rattle.model_logcore.proofs.Frame.{StillHeld, Kept, Later}
use Rattle.model_logcore.proofs.RingSteps.{above_tail, commits_states, hand_lies, refit, steps, still_words}
use Rattle.model_logcore.proofs.Same.{wlinks_sized, stored_here, stored_else}
use Rattle.model_logcore.specs.LogFacts.{LogGhost, LogFacts, WrittenLink, Place, count_of}
use Rattle.model_logcore.specs.LogFits.{UserAt, UserFits, LogHalf, left_to_reserve}
use Rattle.model_logcore.specs.LogLaws.{LogLaws}
use Rattle.model_core.specs.declared.steps.UserStep.TheVariants as user_step
use Rattle.model_core.specs.States as actor

module _ (D : LogSide) (L : LogLaws D) (c : Setup) (m : SharedWords) (g : LogGhost) (p : D.Part) (actors : List Actor) (seat : ℕ) (u : UserState) (before : LogHalf D c m g p actors) (at : get_elem? actors seat ≡ some (actor.User u)) where
  mine : UserFits D c m g p seat u
  mine = before.each seat (actor.User u) at

  abbrev tied : LogGhost
  tied = record g { state = ranged g.state u.start (group_end u) 2 }

  abbrev chained : ℕ → ℕ → SharedWords
  chained i v = record m { wlinks = slice_set m.wlinks i v }

  module _ (i v : ℕ) (i_is : i ≡ lsn u.start % 32768) (v_is : v ≡ lsn (group_end u) - lsn u.start) (h : UserAt D c m g p seat u user_step.StoreLink) where
    lies : (c.base ≤ u.start) × (group_end u ≤ m.sn) × (0 < length (group_bytes u)) × (length (group_bytes u) ≤ MAX_GROUP)
    lies = hand_lies D c m g p actors seat u before at h.2

    one : (x : ℕ) → u.start ≤ x → x < group_end u → g.state x ≡ 1
    one x l r = h.2.done x l (let z = h.3 in omega arith)

    since : g.tail ≤ u.start
    since = let l = lies in let l0 = l.0 in let l2 = l.2 in above_tail D c m g p actors seat u before at u.start l0 (λ z. let o = one u.start (omega arith) (omega arith) in omega arith)

    inside : (x : ℕ) → u.start ≤ x → x < group_end u → tied.state x ≡ 2
    inside x l r = ranged_in g.state u.start (group_end u) 2 x l r

    outside : (x : ℕ) → (u.start ≤ x → x < group_end u → ⊥) → tied.state x ≡ g.state x
    outside x n = ranged_out g.state u.start (group_end u) 2 x n

    new_two : (x : ℕ) → g.state x ≡ 2 → tied.state x ≡ 2
    new_two x two = outside x (λ l r. let o = one x l r in omega arith) ∙ two

    -- a linked group is the one in hand, or was linked
    who : (j : ℕ) (e : Entry) → get_elem? g.log j ≡ some e → tied.state e.start ≡ 2 → (g.state e.start ≡ 2) ⊎ ((e.start ≡ u.start) × (end_of e ≡ group_end u))
    who j e e_is two =
        let w = tiles_at g.log c.base m.sn j e before.global.tiled.tiles e_is in let w2 = w.2 in
        elim (dec_le u.start e.start) [
          | yes d ↦ elim (dec_le (group_end u) e.start) [
            | yes z ↦ inl (sym (outside e.start (λ l r. omega arith)) ∙ two)
            | no z ↦ (let a = before.global.tiled.placed j e e_is e.start (omega arith) (omega arith) in
                let b = before.global.tiled.placed h.2.at _ h.2.is e.start d (omega arith) in
                inr (sym a.0 ∙ b.0, sym a.1 ∙ b.1))
          ]
          | no d ↦ inl (sym (outside e.start (λ l r. omega arith)) ∙ two)
        ]

    -- what isn't copied then wasn't before
    still_none : (x : ℕ) → tied.state x ≡ 0 → g.state x ≡ 0
    still_none x none = elim (dec_le u.start x) [
      | yes d ↦ elim (dec_le (group_end u) x) [
        | yes z ↦ sym (outside x (λ l r. omega arith)) ∙ none
        | no z ↦ (let t = inside x d (omega arith) in absurd (omega arith))
      ]
      | no d ↦ sym (outside x (λ l r. omega arith)) ∙ none
    ]

    slot : i < length m.wlinks
    slot = omega (arith, before.sized.wlinks)

    tails : m.wtail ≤ lsn g.tail
    tails = let O = before.global.order in let a = O.wtail_is in let b = lsn_le g.wtail g.tail O.wtail_tail in omega arith

    positive : 0 < v
    positive = let l2 = lies.2 in let z = lsn_less u.start (group_end u) (omega arith) in omega arith

    empty : 0 < slice_index m.wlinks i → ⊥
    empty s =
        let o = before.global.written_links.links_are i (omega arith) s in
        let s1 = o.since in let s2 = o.near in
        let w = tiles_at g.log c.base m.sn o.at o.group before.global.tiled.tiles o.is in let w2 = w.2 in
        let same : o.group.start ≡ u.start = link_same o.group.start u.start g.tail m.wtail tails s1 since s2 h.5 (sym o.slot ∙ i_is) in
        let t : g.state u.start ≡ 2 = ap g.state (sym same) ∙ o.whole o.group.start (omega arith) (omega arith) in
        let l2 = lies.2 in
        let q = one u.start (omega arith) (omega arith) in
        omega arith

    full : (j : ℕ) → 0 < slice_index m.wlinks j → 0 < slice_index (chained i v).wlinks j
    full j s = elim (ℕ_discrete j i) [
      | yes e ↦ (let z = stored_here m.wlinks i v j e slot in let k = positive in omega arith)
      | no n ↦ (let z = stored_else m.wlinks i v j n in omega arith)
    ]

    pub tie_global : LogFacts D c (chained i v) tied p
    tie_global =
        let G = before.global in
        let since' = since in
        record {
          tiled = G.tiled;
          order = G.order;
          ring_cells = record {
            wide = G.ring_cells.wide;
            stands = λ x l r s. elim (dec_le u.start x) [
              | yes d ↦ elim (dec_le (group_end u) x) [
                | yes z ↦ G.ring_cells.stands x l r (subst (λ (k : ℕ). 0 < k) (outside x (λ a b. omega arith)) s)
                | no z ↦ G.ring_cells.stands x l r (let o = one x d (omega arith) in omega arith)
              ]
              | no d ↦ G.ring_cells.stands x l r (subst (λ (k : ℕ). 0 < k) (outside x (λ a b. omega arith)) s)
            ];
            bare = λ x lo hi b. G.ring_cells.bare x lo hi (⊎_elim (λ z. inl z) (λ z. ⊎_elim (λ y. inr (inl y)) (λ y. inr (inr (still_none x y))) z) b);
          };
          first_offsets = record {
            slots_are = G.first_offsets.slots_are;
            near = G.first_offsets.near;
            true_first = G.first_offsets.true_first;
            stored = λ j e e_is two cross. ⊎_elim (λ z. G.first_offsets.stored j e e_is z cross)
                (λ z. let a = z.0 in let b = z.1 in subst (λ (k : ℕ). 0 < g.first (k / BLOCK_DATA)) (sym b) (h.4 (omega arith))) (who j e e_is two);
            begun = G.first_offsets.begun;
          };
          written_links = record {
            linked = λ x lo hi. new_two x (G.written_links.linked x lo hi);
            links_are = λ j l s. elim (ℕ_discrete j i) [
              | yes e ↦ subst (λ (n : ℕ). WrittenLink g.log tied.state m.wtail g.tail j n) (sym (stored_here m.wlinks i v j e slot)) (record {
                at = h.2.at;
                group = entry u.user u.k u.start (line u);
                is = h.2.is;
                slot = e ∙ i_is;
                size = (let z = lsn_wide u.start (length (group_bytes u)) in omega arith);
                since = since';
                near = h.5;
                whole = inside;
              })
              | no n ↦ (let z = stored_else m.wlinks i v j n in
                  let o = G.written_links.links_are j l (omega arith) in
                  subst (λ (n : ℕ). WrittenLink g.log tied.state m.wtail g.tail j n) (sym z) (record {
                    at = o.at;
                    group = o.group;
                    is = o.is;
                    slot = o.slot;
                    size = o.size;
                    since = o.since;
                    near = o.near;
                    whole = λ x l r. new_two x (o.whole x l r);
                  }))
            ];
            standing = λ j e e_is two from. ⊎_elim (λ z. let o = G.written_links.standing j e e_is z from in (full (lsn e.start % WRITTEN_LINKS) o.0, o.1))
                (λ z. (subst (λ (k : ℕ). 0 < slice_index (chained i v).wlinks (lsn k % WRITTEN_LINKS)) (sym z.0) (let y = stored_here m.wlinks i v (lsn u.start % WRITTEN_LINKS) (sym i_is) slot in let k = positive in omega arith), subst (λ (k : ℕ). lsn k < m.wtail + ADVANCE_PLACES) (sym z.0) h.5))
                (who j e e_is two);
          };
          commits = commits_states g.state tied.state new_two G.commits;
          part = G.part;
        }

    -- what the link leaves to the others, whatever becomes of the user's commits
    pub tie_later : (h' : LogGhost) → h'.log ≡ g.log → ((x : ℕ) → ◌≡◌ {A = Place} (h'.place x) (g.place x)) → ((x : ℕ) → h'.state x ≡ tied.state x) → ((x : ℕ) → h'.first x ≡ g.first x) → ((x : ℕ) → h'.seat_of x ≡ g.seat_of x) → ((x : ℕ) → g.seat_of x ≢ seat → h'.answered x ≡ g.answered x)
        → (g.advancer ≢ seat → m.wheld ≡ true → StillHeld m.wheld (chained i v).wheld g.advancer h'.advancer m.wtail (chained i v).wtail g.tail h'.tail m.wlinks (chained i v).wlinks)
        → Later D c m g (chained i v) h' seat
    tie_later h' lo pl st fi se an ho = record {
      write = omega arith;
      wtail = omega arith;
      ckpt = omega arith;
      flushed = omega arith;
      failed = λ z. z;
      logs = λ j e z. ap (λ (l : List Entry). get_elem? l j) lo ∙ z;
      places = λ x l o. pl x;
      states = λ x l o. st x ∙ outside x (λ a b. o (h.2.own x a b));
      linked = λ x l two. st x ∙ new_two x two;
      firsts = λ q z. let y = fi q in omega arith;
      bare = λ _ e _ _ _ none. fi (end_of e / BLOCK_DATA) ∙ none;
      seats = se;
      counts = λ x n. ap (count_of x) lo;
      answers = an;
      holder = ho;
    }

    link_still : 0 < slice_index m.wlinks (lsn g.tail % WRITTEN_LINKS) → slice_index (chained i v).wlinks (lsn g.tail % WRITTEN_LINKS) ≡ slice_index m.wlinks (lsn g.tail % WRITTEN_LINKS)
    link_still s = stored_else m.wlinks i v (lsn g.tail % WRITTEN_LINKS) (λ e. empty (subst (λ (y : ℕ). 0 < slice_index m.wlinks y) e s))

    held_then : g.advancer ≢ seat → m.wheld ≡ true → StillHeld m.wheld m.wheld g.advancer g.advancer m.wtail m.wtail g.tail g.tail m.wlinks (chained i v).wlinks
    held_then _ _ = record { held = refl; advancer = refl; wtail = refl; tail = refl; link = link_still }

    other_user : (x : ℕ) → g.seat_of x ≢ seat → x ≢ u.user
    other_user x n e = n (ap g.seat_of e ∙ mine.own_seat)

    -- the link stands, and the user goes on to a step
    tie_to : (st : UserStep) → UserAt D c (chained i v) tied p seat (record u { step = st }) st → left_to_reserve (actor.User (record u { step = st })) ≤ left_to_reserve (actor.User u) → Kept D c (chained i v) tied p (set actors seat (actor.User (record u { step = st })))
    tie_to st z le = steps D c m g p actors seat u before at (chained i v) tied (record u { step = st }) (wlinks_sized i v before.sized) tie_global
        (refit D c m g p actors seat u before at (chained i v) tied u.page u.cell u.copied u.loaded u.code u.checks st refl refl refl mine.loaded z)
        (tie_later tied refl (λ x. refl) (λ x. refl) (λ x. refl) (λ x. refl) (λ x n. refl) held_then)
        (still_words D c m g p actors seat u before at (chained i v) tied refl refl refl refl refl refl refl refl refl)
        refl refl refl refl refl refl refl le

    tie_by : (b : Bool) → eqb (mode u) 0 ≡ b → (g' : LogGhost) × Kept D c (chained i v) g' p (set actors seat (actor.User (cond b (answered u) (record u { step = user_step.AwaitMark })))) × (◌≡◌ {A = List Entry} (g'.log) (g.log))
    tie_by true e = let g' : LogGhost = record tied { answered = changed g.answered u.user (u.k + 1) } in
        let none : mode u ≡ 0 = eqb-true (mode u) 0 e in (
          g',
          steps D c m g p actors seat u before at (chained i v) g' (answered u) (wlinks_sized i v before.sized) (answer_global D L c m g p actors seat u before at (chained i v) tied h.2.at h.2.is mine.answers (λ z. absurd (omega arith)) (λ z. absurd (omega arith)) inside tie_global)
              (answered_fits D L c m g p actors seat u before at u.loaded (chained i v) g' refl refl (changed_here g.answered u.user (u.k + 1) u.user refl) mine.loaded h.0 h.1)
              (tie_later g' refl (λ x. refl) (λ x. refl) (λ x. refl) (λ x. refl) (λ x n. changed_else g.answered u.user (u.k + 1) x (other_user x n)) held_then)
              (still_words D c m g p actors seat u before at (chained i v) g' refl refl refl refl refl refl refl refl refl)
              refl refl refl refl refl refl refl (omega arith),
          refl,
        )
    tie_by false e = (tied, tie_to user_step.AwaitMark (h.0, h.1, (h.2.at, h.2.is, inside), eqb-false (mode u) 0 e) (omega arith), refl)

    tie_any : (b : Bool) → (g' : LogGhost) × Kept D c (chained i v) g' p (set actors seat (actor.User (cond b (cond (eqb (mode u) 0) (answered u) (record u { step = user_step.AwaitMark })) (record u { step = user_step.LoadCtail })))) × (◌≡◌ {A = List Entry} (g'.log) (g.log))
    tie_any true = tie_by (eqb (mode u) 0) refl
    -- it has pages to change
    tie_any false = (tied, tie_to user_step.LoadCtail (h.0, h.1, (h.2.at, h.2.is, inside)) (omega arith), refl)

  -- it stores the link
  pub keeps_store_link : UserAt D c m g p seat u user_step.StoreLink → (h : LogGhost) × Kept D c (record m { wlinks = slice_set m.wlinks (lsn u.start % WRITTEN_LINKS) (lsn (group_end u) - lsn u.start) }) h p (set actors seat (actor.User (user_took u 0 user_step.StoreLink))) × (◌≡◌ {A = List Entry} (h.log) (g.log))
  keeps_store_link h = tie_any (lsn u.start % WRITTEN_LINKS) (lsn (group_end u) - lsn u.start) refl refl h (eqb (length (changes u)) 0)
