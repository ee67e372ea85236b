-- With one user all groups below its own are linked, and so an advance follows all their links.
use Rattle.std.proofs.Common.{Bool, List, [], ap, arith, cond, eqb, eqb-true, false, length, refl, subst, suc, sym, true, zero, ℕ, ⊎_elim, ◌%◌, ◌+◌, ◌<◌, ◌∙◌, ◌∷◌, ◌≡◌, ◌≤◌}
use Rattle.std.proofs.lemmas.Bool.{eqb-false}
use Rattle.std.specs.Prelude.{slice_index}
use lib.ListN.{get_elem?}
use mathlib.Core.Option.{some, some-injective, some-ne-none}
use native.Mathlib.Decide.{dec_le, ℕ_discrete}
use Rattle.model_core.proofs.Groups.{bound_end, tiles_at}
use Rattle.model_core.proofs.Lsns.{lsn_le}
use Rattle.model_core.specs.{Actor, Advance, end_of, entries_from, Entry, entry, FlusherState, group_end, holds_tail, IsBound, Line, line, lsn, SharedWords, sum_of, Tiles, UserState, WriterState, LogSide, Setup}
use Rattle.model_core.specs.declared.steps.UserStep.{UserStep}
use Rattle.model_core.specs.declared.limits.TheConstants.{WRITTEN_LINKS}
use Rattle.model_core.specs.declared.steps.UserStep.TheVariants as user_step
use Rattle.model_core.specs.declared.words.LinkBuffer.TheVariants as link_buffer
use Rattle.model_core.specs.States as actor
use Rattle.model_logcore.proofs.AdvanceSteps.{link_here}
use Rattle.model_logcore.proofs.UserGroups.{count_front, rank_same}
use Rattle.model_logcore.specs.LogFacts.{LogGhost, count_of}
use Rattle.model_logcore.specs.{HasLinked, HoldsWtail, UserAt, UserFits, LogHalf}
use Rattle.model_ownrun.specs.OwnRunning.{OutAt, top}

-- a group starts at each boundary below the end
bound_entry : (log : List Entry) (s n b : ℕ) → Tiles s log n → IsBound s log b → b < n
    → (i : ℕ) × (e : Entry) × (get_elem? log i ≡ some e) × (e.start ≡ b)
bound_entry [] s n b T B l = absurd (omega arith)
bound_entry (e ∷ es) s n b T B l = ⊎_elim
    (λ z. (zero, e, refl, T.0 ∙ sym z))
    (λ z. let r = bound_entry es (s + length e.bytes) n b T.3 z l in (suc r.0, r.1, r.2, r.3)) B

-- none of a user's entries is another's
abbrev foreign : ℕ → Entry → ℕ
foreign user e = cond (eqb e.user user) 0 1

own_none : (user : ℕ) (lines : List Line) (k : ℕ) (starts : List ℕ)
    → sum_of (foreign user) (entries_from user lines k starts) ≡ 0
own_none user lines k [] = refl
own_none user lines k (s ∷ ss) = let r = own_none user lines (k + 1) ss in
    let z : ◌≡◌ {A = ℕ} (cond (eqb user user) 0 1) 0 = same (eqb user user) refl in omega arith
  where
    same : (b : Bool) → eqb user user ≡ b → ◌≡◌ {A = ℕ} (cond (eqb user user) 0 1) 0
    same true e = ap (λ (x : Bool). cond {A = ℕ} x 0 1) e
    same false e = absurd (eqb-false user user e refl)

sum_at : (h : Entry → ℕ) (log : List Entry) (i : ℕ) (e : Entry) → get_elem? log i ≡ some e → h e ≤ sum_of h log
sum_at h [] i e at = absurd (some-ne-none e (sym at))
sum_at h (x ∷ xs) zero e at = let z : h x ≡ h e = ap h (some-injective x e at) in omega arith
sum_at h (x ∷ xs) (suc i) e at = let z = sum_at h xs i e at in omega arith

module _ (D : LogSide) (c : Setup) (m : SharedWords) (g : LogGhost) (p : D.Part) (u : UserState)
    (w : WriterState) (f : FlusherState)
    (half : LogHalf D c m g p (actor.User u ∷ actor.Writer w ∷ actor.Flusher f ∷ [])) where
  fits : UserFits D c m g p 0 u
  fits = half.each 0 (actor.User u) refl

  all_mine : (i : ℕ) (e : Entry) → get_elem? g.log i ≡ some e → e.user ≡ u.user
  all_mine i e at = by (eqb e.user u.user) refl
    where
      by : (b : Bool) → eqb e.user u.user ≡ b → e.user ≡ u.user
      by true z = eqb-true e.user u.user z
      by false z =
          let one : foreign u.user e ≡ 1 = ap (λ (x : Bool). cond {A = ℕ} x 0 1) z in
          let le = sum_at (foreign u.user) g.log i e at in
          let all = half.counted (foreign u.user) in
          let none = own_none u.user u.lines 0 u.starts in
          absurd (omega arith)

  rank : (i : ℕ) (e : Entry) → get_elem? g.log i ≡ some e → e.k < length u.starts
  rank i e at =
      let r = half.global.tiled.ranks i e at in
      let l = count_front g.log i e at in
      let same : count_of e.user g.log ≡ count_of u.user g.log = ap (λ (n : ℕ). count_of n g.log) (all_mine i e at) in
      let n = fits.counted in
      omega arith

  answered_linked : (i : ℕ) (e : Entry) → get_elem? g.log i ≡ some e → e.k < u.k → g.state e.start ≡ 2
  answered_linked i e at less =
      let k : g.answered e.user ≡ u.k = ap g.answered (all_mine i e at) ∙ fits.answers in
      let some_bytes = (tiles_at g.log c.base m.sn i e half.global.tiled.tiles at).2 in
      half.global.commits.linked i e at (omega arith) e.start (omega arith) (omega arith)

  -- the groups below are linked
  abbrev AreLinked : ℕ → Type 0
  AreLinked n = (i : ℕ) (e : Entry) → get_elem? g.log i ≡ some e → e.start < n → g.state e.start ≡ 2

  -- none is in hand
  none_in_hand : length u.starts ≡ u.k → AreLinked m.sn
  none_in_hand none i e at less = answered_linked i e at (let r = rank i e at in omega arith)

  -- one is in hand, and it starts here
  in_hand : length u.starts ≡ u.k + 1 → (i : ℕ) → get_elem? g.log i ≡ some (entry u.user u.k u.start (line u))
      → AreLinked u.start
  in_hand one j is i e at less = elim (ℕ_discrete e.k u.k) [
    | yes same ↦ (let z : ◌≡◌ {A = Entry} (entry u.user u.k u.start (line u)) e =
        rank_same c m.sn g.log g.place j i (entry u.user u.k u.start (line u)) e half.global.tiled is at
        (sym (all_mine i e at)) (sym same) in
        let y : u.start ≡ e.start = ap (λ (x : Entry). x.start) z in absurd (omega arith))
    | no other ↦ answered_linked i e at (let r = rank i e at in omega arith)
  ]

  linked_too : length u.starts ≡ u.k + 1 → HasLinked D c m g p u → AreLinked (group_end u)
  linked_too one (j, is, all) i e at less = elim (ℕ_discrete e.k u.k) [
    | yes same ↦ (let z : ◌≡◌ {A = Entry} (entry u.user u.k u.start (line u)) e =
        rank_same c m.sn g.log g.place j i (entry u.user u.k u.start (line u)) e half.global.tiled is at
        (sym (all_mine i e at)) (sym same) in
        let y : u.start ≡ e.start = ap (λ (x : Entry). x.start) z in
        let some_bytes =
        (tiles_at g.log c.base m.sn j (entry u.user u.k u.start (line u)) half.global.tiled.tiles is).2 in
        subst (λ (x : ℕ). g.state x ≡ 2) y (all u.start (omega arith) (omega arith)))
    | no other ↦ answered_linked i e at (let r = rank i e at in omega arith)
  ]

  -- what the user's step says of that
  pub record Below (n : ℕ) : Type 0 where
    pub linked : AreLinked n
    pub low : n ≤ m.sn

  hand_low : (j : ℕ) → get_elem? g.log j ≡ some (entry u.user u.k u.start (line u))
      → (u.start ≤ m.sn) × (group_end u ≤ m.sn)
  hand_low j is = let t = tiles_at g.log c.base m.sn j (entry u.user u.k u.start (line u)) half.global.tiled.tiles
      is in let t1 = t.1 in let t2 = t.2 in (omega arith, omega arith)

  pub out_below : (s : UserStep) → OutAt s → UserAt D c m g p 0 u s → Below (top m u s)
  out_below user_step.LoadCheckpoint o z = record { linked = none_in_hand z.0; low = omega arith }
  out_below user_step.LoadWrite o z = record { linked = in_hand z.0 z.2.at z.2.is; low = (hand_low z.2.at z.2.is).0 }
  out_below user_step.AwaitMark o z = record { linked = linked_too z.0 z.2; low = (hand_low z.2.0 z.2.1).1 }
  out_below _ o z = absurd o

  pub copied_below : length u.starts ≡ u.k + 1 → (i : ℕ)
      → get_elem? g.log i ≡ some (entry u.user u.k u.start (line u)) → Below u.start
  copied_below one i is = record { linked = in_hand one i is; low = (hand_low i is).0 }

  module _ (n : ℕ) (below : Below n) where
    -- at a boundary past the place to which links are cleared, and below that, a link stands, in the window
    stands_at : (b : ℕ) → IsBound c.base g.log b → g.tail ≤ b → b < n
        → (0 < slice_index m.wlinks (lsn b % WRITTEN_LINKS)) × (lsn b < m.wtail + WRITTEN_LINKS)
    stands_at b bound since less =
        let low = below.low in
        let r = bound_entry g.log c.base m.sn b half.global.tiled.tiles bound (omega arith) in
        let e3 = r.3 in
        let z = half.global.written_links.standing r.0 r.1 r.2 (below.linked r.0 r.1 r.2 (omega arith)) (omega arith) in
        subst (λ (x : ℕ). (0 < slice_index m.wlinks (lsn x % WRITTEN_LINKS)) × (lsn x < m.wtail + WRITTEN_LINKS)) r.3 z

    -- where an advance finds no link, it has followed all
    pub no_link : (seat : ℕ) (v : Advance) → HoldsWtail D c m g p seat v
        → slice_index m.wlinks (v.place % WRITTEN_LINKS) ≡ 0 → lsn n ≤ v.place
    no_link seat v h none = elim (dec_le n g.tail) [
      | yes d ↦ (let l = lsn_le n g.tail d in let q = h.place in omega arith)
      | no d ↦ (let z = (stands_at g.tail half.global.order.tail_bound (omega arith) (omega arith)).0 in
          let here : slice_index m.wlinks (lsn g.tail % WRITTEN_LINKS) ≡ 0 =
          subst (λ (x : ℕ). slice_index m.wlinks (x % WRITTEN_LINKS) ≡ 0) h.place none in
          absurd (omega arith))
    ]

    -- where it stops behind a link, it has followed all
    pub far_enough : (seat : ℕ) (v : Advance) → HoldsWtail D c m g p seat v → 0 < v.link
        → slice_index m.wlinks (v.place % WRITTEN_LINKS) ≡ v.link → m.wtail + WRITTEN_LINKS ≤ v.place + v.link
        → lsn n ≤ v.place + v.link
    far_enough seat v h pos is far =
        let here : slice_index m.wlinks (lsn g.tail % WRITTEN_LINKS) ≡ v.link =
        subst (λ (x : ℕ). slice_index m.wlinks (x % WRITTEN_LINKS) ≡ v.link) h.place is in
        let o = link_here D c m g p (actor.User u ∷ actor.Writer w ∷ actor.Flusher f ∷ []) half v.link here pos in
        let size = o.0.size in
        let start : lsn o.0.group.start ≡ lsn g.tail = ap lsn o.1 in
        let place = h.place in
        let to : v.place + v.link ≡ lsn (end_of o.0.group) = omega arith in
        let since = o.1 in
        elim (dec_le n (end_of o.0.group)) [
          | yes d ↦ (let l = lsn_le n (end_of o.0.group) d in omega arith)
          | no d ↦ (let z =
              (stands_at (end_of o.0.group)
              (bound_end g.log c.base m.sn o.0.at o.0.group half.global.tiled.tiles o.0.is) (omega arith)
              (omega arith)).1 in absurd (omega arith))
        ]

  -- where neither the user nor the writer holds WTAIL, it is free
  pub tail_free : holds_tail link_buffer.Written (actor.User u) ≡ false
      → holds_tail link_buffer.Written (actor.Writer w) ≡ false → m.wheld ≡ false
  tail_free not_user not_writer = by m.wheld refl
    where
      which : (seat : ℕ) (a : Actor) → get_elem? (actor.User u ∷ actor.Writer w ∷ actor.Flusher f ∷ []) seat ≡ some a
          → holds_tail link_buffer.Written a ≡ true → ⊥
      which zero a at h = let z : false ≡ true = sym not_user
          ∙ ap (holds_tail link_buffer.Written) (some-injective (actor.User u) a at) ∙ h in absurd (cc)
      which (suc zero) a at h = let z : false ≡ true = sym not_writer
          ∙ ap (holds_tail link_buffer.Written) (some-injective (actor.Writer w) a at) ∙ h in absurd (cc)
      which (suc (suc zero)) a at h = let z : false ≡ true =
          ap (holds_tail link_buffer.Written) (some-injective (actor.Flusher f) a at) ∙ h in absurd (cc)
      which (suc (suc (suc n))) a at h = absurd (some-ne-none a (sym at))

      by : (b : Bool) → m.wheld ≡ b → m.wheld ≡ false
      by true z = let t = half.advanced z in absurd (which t.0 t.1 t.2 t.3)
      by false z = z
