-- While a user hasn't ended, an actor helps.
use Rattle.std.proofs.Common.{Bool, List, ap, arith, cond, false, inl, inr, length, refl, subst, sym, true, ℕ, ⊎_elim, ◌%◌, ◌+◌, ◌<◌, ◌==◌, ◌∙◌, ◌≡◌, ◌≤◌, ◌⊎◌}
use Rattle.std.proofs.lemmas.Bool.{le-leb, lt-ltb}
use Rattle.std.specs.Prelude.{slice_index}
use lib.ListN.{get_elem?}
use mathlib.Core.Option.{some}
use native.Mathlib.Decide.{dec_le, ℕ_discrete}
use Rattle.model_core.proofs.Groups.{tiles_at}
use Rattle.model_core.proofs.Lsns.{lsn_le, lsn_near, lsn_same}
use Rattle.model_core.specs.{user_holds_tail, writer_holds_tail, Actor, Advance, advance_holds, can_link, end_of, entries, Entry, entry, floor, FlusherState, flusher_holds, group_bytes, group_end, has_passed, has_room, holds, holds_tail, line, lsn, mode, read, SharedWords, UserState, writer_holds, WriterState, LogSide, Setup}
use Rattle.model_core.specs.declared.limits.TheConstants.{LOG_BUFFER, WRITTEN_LINKS}
use Rattle.model_core.specs.declared.steps.AdvanceStep.{AdvanceStep}
use Rattle.model_core.specs.declared.steps.FlusherStep.{FlusherStep}
use Rattle.model_core.specs.declared.steps.UserStep.{UserStep}
use Rattle.model_core.specs.declared.steps.WriterStep.{WriterStep}
use Rattle.model_base.specs.declared.limits.TheConstants.{MAX_GROUP}
use Rattle.model_logcore.proofs.UserGroups.{count_front, count_some, rank_same}
use Rattle.model_logcore.specs.{AdvanceAt, count_of, FlusherAt, FlusherFits, LogGhost, UserAt, UserFits, WriterAt, WriterFits, Hand, HasLinked, HoldsWtail, LogHalf}
use Rattle.model_ends.proofs.Further.{FlusherTold, Further, UserTold, WriterTold}
use Rattle.model_ends.proofs.Helpers.{Found, group_at, own_user, seat_from, takes_low, tries_few, up_can}
use Rattle.model_ends.proofs.Outcome.{AdvanceCan, Can, FlusherCan, HasLinkFree, IsAtFree, IsOpenStep, IsUp, UserCan, WriterCan, WriterTakes}
use Rattle.model_core.specs.States as actor
use Rattle.model_core.specs.declared.steps.AdvanceStep.TheVariants as advance_step
use Rattle.model_core.specs.declared.steps.FlusherStep.TheVariants as flusher_step
use Rattle.model_core.specs.declared.steps.UserStep.TheVariants as user_step
use Rattle.model_core.specs.declared.steps.WriterStep.TheVariants as writer_step
use Rattle.model_core.specs.declared.words.LinkBuffer.TheVariants as link_buffer
use Rattle.model_core.specs.declared.words.Word.TheVariants as word

module _ (D : LogSide) (c : Setup) (m : SharedWords) (g : LogGhost) (p : D.Part) (actors : List Actor) (half : LogHalf D c m g p actors) (F : Further D c m p actors) (sound : m.failed ≡ 0) where
  can_help : (seat : ℕ) (a : Actor) → get_elem? actors seat ≡ some a → Can m a → Found m actors
  can_help seat a at can = record { helper = record { seat = seat; who = a; at = at; weight = 7; help = inl (sound, inl (can, tries_few a)); light = omega arith }; by_free = λ _. omega arith }

  -- whoever has the log part goes on
  writer_has : (j : ℕ) (s : WriterState) (f : WriterStep) → WriterAt D c m g p j s f → WriterTold m.failed s f → writer_holds f ≡ true → WriterCan m s f
  writer_has j s writer_step.GiveBroken h told has = let z = told in absurd (omega arith)
  writer_has j s writer_step.GiveFailed h told has = let z = h in absurd (omega arith)
  writer_has j s writer_step.WriteTo h told has = tt
  writer_has j s writer_step.StoreWrite h told has = tt
  writer_has j s writer_step.GiveDevice h told has = tt
  writer_has j s writer_step.StoreFailed h told has = tt
  writer_has j s (writer_step.Advance v) h told has = absurd (cc)
  writer_has j s writer_step.LoadCheckpoint h told has = absurd (cc)
  writer_has j s writer_step.LoadFirst h told has = absurd (cc)
  writer_has j s writer_step.ClearFirst h told has = absurd (cc)
  writer_has j s writer_step.LoadCell h told has = absurd (cc)
  writer_has j s writer_step.ClearCell h told has = absurd (cc)
  writer_has j s writer_step.TakeDevice h told has = absurd (cc)
  writer_has j s writer_step.Failed h told has = absurd (cc)

  flusher_has : (t : FlusherState) (f : FlusherStep) → FlusherAt D c m g p t f → FlusherTold m.failed t f → flusher_holds f ≡ true → FlusherCan m t f
  flusher_has t flusher_step.GiveBroken h told has = let z = told in absurd (omega arith)
  flusher_has t flusher_step.GiveFailed h told has = let z = h in absurd (omega arith)
  flusher_has t flusher_step.Sync h told has = tt
  flusher_has t flusher_step.StoreFlushed h told has = tt
  flusher_has t flusher_step.GiveDevice h told has = tt
  flusher_has t flusher_step.StoreFailed h told has = tt
  flusher_has t flusher_step.LoadWrite h told has = absurd (cc)
  flusher_has t flusher_step.TakeDevice h told has = absurd (cc)
  flusher_has t flusher_step.Failed h told has = absurd (cc)

  device_held : m.device ≡ 1 → Found m actors
  device_held taken = let t = half.taken taken in by g.holder t.0 t.1 t.2
    where
      by : (seat : ℕ) (a : Actor) → get_elem? actors seat ≡ some a → holds a ≡ true → Found m actors
      by seat (actor.Writer s) at has = let f : WriterFits D c m g p seat s = half.each seat (actor.Writer s) at in can_help seat (actor.Writer s) at (writer_has seat s s.step f.step (F.each seat (actor.Writer s) at) has)
      by seat (actor.Flusher t) at has = let f : FlusherFits D c m g p seat t = half.each seat (actor.Flusher t) at in can_help seat (actor.Flusher t) at (flusher_has t t.step f.step (F.each seat (actor.Flusher t) at) has)
      by seat (actor.User u) at has = absurd (cc)
      by seat (actor.Closer s) at has = absurd (F.each seat (actor.Closer s) at)
      by seat (actor.Cleaner s) at has = absurd (F.each seat (actor.Cleaner s) at)
      by seat (actor.Checkpointer s) at has = absurd (F.each seat (actor.Checkpointer s) at)
      by seat (actor.Reader s) at has = absurd (F.each seat (actor.Reader s) at)

  -- The writer goes on, or it looks for a tail above WRITE.
  abbrev Looks : WriterState → WriterStep → Type 0
  Looks s f = (v : AdvanceStep) × (f ≡ writer_step.Advance v) × (s.tail ≤ s.write) × (m.wtail ≤ s.tail)

  writer_or : (j : ℕ) (s : WriterState) (f : WriterStep) → WriterAt D c m g p j s f → WriterTold m.failed s f → m.device ≡ 0 → WriterCan m s f ⊎ Looks s f
  writer_or j s (writer_step.Advance v) h told free = elim (dec_le s.tail s.write) [
    | no d ↦ inl (up_can m (IsUp m s) s.advance v (inl (omega arith)))
    | yes d ↦ elim (dec_le m.wtail s.tail) [
      | no e ↦ inl (up_can m (IsUp m s) s.advance v (inr (omega arith)))
      | yes e ↦ inr (v, refl, d, e)
    ]
  ]
  writer_or j s writer_step.TakeDevice h told free = inl free
  writer_or j s writer_step.GiveBroken h told free = let z = told in absurd (omega arith)
  writer_or j s writer_step.GiveFailed h told free = let z = h in absurd (omega arith)
  writer_or j s writer_step.Failed h told free = let z = h in absurd (omega arith)
  writer_or j s _ h told free = inl tt

  -- The flusher goes on, or waits for a mark above its own.
  flusher_or : (t : FlusherState) (f : FlusherStep) → FlusherAt D c m g p t f → FlusherTold m.failed t f → m.device ≡ 0 → FlusherCan m t f ⊎ (m.write ≡ t.last)
  flusher_or t flusher_step.LoadWrite h told free = elim (ℕ_discrete m.write t.last) [
    | yes e ↦ inr e
    | no n ↦ inl n
  ]
  flusher_or t flusher_step.TakeDevice h told free = inl free
  flusher_or t flusher_step.GiveBroken h told free = let z = told in absurd (omega arith)
  flusher_or t flusher_step.GiveFailed h told free = let z = h in absurd (omega arith)
  flusher_or t flusher_step.Failed h told free = let z = h in absurd (omega arith)
  flusher_or t _ h told free = inl tt

  -- no link stands at WTAIL, and none was cleared past it
  abbrev NoLink : Type 0
  NoLink = (slice_index m.wlinks (m.wtail % WRITTEN_LINKS) ≡ 0) × (g.tail ≡ g.wtail)

  stands_or : (i : ℕ) → (0 < slice_index m.wlinks i) ⊎ (slice_index m.wlinks i ≡ 0)
  stands_or i = elim (dec_le 1 (slice_index m.wlinks i)) [
    | yes d ↦ inl d
    | no d ↦ inr (omega arith)
  ]

  -- of an actor that holds WTAIL
  abbrev AtFree : AdvanceStep → Type 0
  AtFree v = v ≡ advance_step.FreeTail

  holder_or : (Up : Type 0) (v : Advance) (f : AdvanceStep) → v.tail ≡ m.wtail → v.place ≡ lsn g.tail → (f ≡ advance_step.LoadTail → ⊥) → (f ≡ advance_step.TakeTail → ⊥) → AdvanceCan m Up v f ⊎ (AtFree f ⊎ NoLink)
  holder_or Up v advance_step.LoadTail tail place off none = absurd (off refl)
  holder_or Up v advance_step.TakeTail tail place off none = absurd (none refl)
  holder_or Up v advance_step.LoadLink tail place off none = elim (ℕ_discrete v.place v.tail) [
    | no n ↦ inl (inr (inr n))
    | yes e ↦ ⊎_elim (λ stands. inl (inr (inl stands))) (λ empty. inr (inr (subst (λ (k : ℕ). slice_index m.wlinks (k % WRITTEN_LINKS) ≡ 0) (e ∙ tail) empty, lsn_same g.tail g.wtail (sym place ∙ e ∙ tail ∙ half.global.order.wtail_is)))) (stands_or (v.place % WRITTEN_LINKS))
  ]
  holder_or Up v advance_step.ClearLink tail place off none = inl tt
  holder_or Up v advance_step.FreeTail tail place off none = elim (ℕ_discrete v.place v.tail) [
    | no n ↦ inl (inr n)
    | yes e ↦ ⊎_elim (λ stands. inr (inl refl)) (λ empty. inr (inr (subst (λ (k : ℕ). slice_index m.wlinks (k % WRITTEN_LINKS) ≡ 0) (e ∙ tail) empty, lsn_same g.tail g.wtail (sym place ∙ e ∙ tail ∙ half.global.order.wtail_is)))) (stands_or (v.place % WRITTEN_LINKS))
  ]

  holds_of : (j : ℕ) (v : Advance) (f : AdvanceStep) → AdvanceAt D c m g p j v f → advance_holds f ≡ true → HoldsWtail D c m g p j v
  holds_of j v advance_step.LoadTail h has = absurd (cc)
  holds_of j v advance_step.TakeTail h has = absurd (cc)
  holds_of j v advance_step.LoadLink h has = h
  holds_of j v advance_step.ClearLink h has = h.0
  holds_of j v advance_step.FreeTail h has = h

  free_help : (seat : ℕ) (a : Actor) → get_elem? actors seat ≡ some a → m.wheld ≡ true → IsAtFree a → Found m actors
  free_help seat a at held free = record { helper = record { seat = seat; who = a; at = at; weight = 20; help = inl (sound, inr (inr (free, omega arith))); light = omega arith }; by_free = λ other. absurd (cc) }

  unchecked : (b : Bool) → (b ≡ true → true ≡ false) → b ≡ false
  unchecked true h = h refl
  unchecked false h = refl

  -- who holds WTAIL helps, or has found no link there
  module _ (held : m.wheld ≡ true) where
    by_user : (seat : ℕ) (u : UserState) → get_elem? actors seat ≡ some (actor.User u) → (f : UserStep) → u.step ≡ f → UserAt D c m g p seat u f → user_holds_tail link_buffer.Written f ≡ true → Found m actors ⊎ NoLink
    by_user seat u at (user_step.AdvanceWritten v) is h has =
        let k = holds_of seat u.advance v h.1 has in
        ⊎_elim (λ can. inl (can_help seat (actor.User u) at (subst (UserCan m u) (sym is) can)))
        (⊎_elim (λ free. inl (free_help seat (actor.User u) at held (is ∙ ap user_step.AdvanceWritten free, unchecked u.checks (λ asks. sym has' ∙ half.without_tail seat (actor.User u) at asks link_buffer.Written)))) (λ none. inr none))
        (holder_or (can_link u m.wtail ≡ true) u.advance v k.tail k.place (λ e. let z = ap advance_holds e in absurd (cc)) (λ e. let z = ap advance_holds e in absurd (cc)))
      where
        has' : holds_tail link_buffer.Written (actor.User u) ≡ true
        has' = ap (user_holds_tail link_buffer.Written) is ∙ has
    by_user seat u at (user_step.AdvanceClosed v) is h has = absurd (cc)
    by_user seat u at _ is h has = absurd (cc)

    by_writer : (seat : ℕ) (s : WriterState) → get_elem? actors seat ≡ some (actor.Writer s) → (f : WriterStep) → s.step ≡ f → WriterAt D c m g p seat s f → writer_holds_tail link_buffer.Written f ≡ true → Found m actors ⊎ NoLink
    by_writer seat s at (writer_step.Advance v) is h has =
        let k = holds_of seat s.advance v h.1 has in
        ⊎_elim (λ can. inl (can_help seat (actor.Writer s) at (subst (WriterCan m s) (sym is) can)))
        (⊎_elim (λ free. inl (free_help seat (actor.Writer s) at held (is ∙ ap writer_step.Advance free, unchecked s.checks (λ asks. sym has' ∙ half.without_tail seat (actor.Writer s) at asks link_buffer.Written)))) (λ none. inr none))
        (holder_or (IsUp m s) s.advance v k.tail k.place (λ e. let z = ap advance_holds e in absurd (cc)) (λ e. let z = ap advance_holds e in absurd (cc)))
      where
        has' : holds_tail link_buffer.Written (actor.Writer s) ≡ true
        has' = ap (writer_holds_tail link_buffer.Written) is ∙ has
    by_writer seat s at _ is h has = absurd (cc)

    by_holder : (seat : ℕ) (a : Actor) → get_elem? actors seat ≡ some a → holds_tail link_buffer.Written a ≡ true → Found m actors ⊎ NoLink
    by_holder seat (actor.User u) at has = let f : UserFits D c m g p seat u = half.each seat (actor.User u) at in by_user seat u at u.step refl f.step has
    by_holder seat (actor.Writer s) at has = let f : WriterFits D c m g p seat s = half.each seat (actor.Writer s) at in by_writer seat s at s.step refl f.step has
    by_holder seat (actor.Flusher s) at has = absurd (cc)
    by_holder seat (actor.Closer s) at has = absurd (F.each seat (actor.Closer s) at)
    by_holder seat (actor.Cleaner s) at has = absurd (F.each seat (actor.Cleaner s) at)
    by_holder seat (actor.Checkpointer s) at has = absurd (F.each seat (actor.Checkpointer s) at)
    by_holder seat (actor.Reader s) at has = absurd (F.each seat (actor.Reader s) at)

  -- where WTAIL is free and a link stands, the writer takes it
  writer_takes : (seat : ℕ) (s : WriterState) (f : WriterStep) → WriterAt D c m g p seat s f → WriterTold m.failed s f → Looks s f → s.tail ≤ m.wtail → HasLinkFree m → WriterTakes m s f
  writer_takes seat s (writer_step.Advance advance_step.LoadTail) h told looks low free = free
  writer_takes seat s (writer_step.Advance advance_step.TakeTail) h told looks low free = (free, (let z = looks.3 in let y = told in omega arith))
  writer_takes seat s (writer_step.Advance advance_step.LoadLink) h told looks low free = let z = h.1.held in let y = free.0 in absurd (cc)
  writer_takes seat s (writer_step.Advance advance_step.ClearLink) h told looks low free = let z = h.1.0.held in let y = free.0 in absurd (cc)
  writer_takes seat s (writer_step.Advance advance_step.FreeTail) h told looks low free = let z = h.1.held in let y = free.0 in absurd (cc)
  writer_takes seat s _ h told looks low free = let z = looks.1 in absurd (cc)

  -- Nothing is left to write or flush, and no link stands at WTAIL.
  module _ (write : m.write ≡ m.wtail) (flushed : m.flushed ≡ m.wtail) (none : NoLink) where
    -- a group that isn't linked is in hand of a user, which goes on
    module _ (i : ℕ) (e : Entry) (is : get_elem? g.log i ≡ some e) (start : e.start ≡ g.wtail) (not_linked : g.state e.start ≡ 2 → ⊥) where
      sizes : (c.base ≤ e.start) × (end_of e ≤ m.sn) × (0 < length e.bytes) × (length e.bytes ≤ MAX_GROUP)
      sizes = tiles_at g.log c.base m.sn i e half.global.tiled.tiles is

      unanswered : g.answered e.user ≤ e.k
      unanswered = elim (dec_le (g.answered e.user) e.k) [
        | yes d ↦ d
        | no d ↦ (let z = sizes.2 in absurd (not_linked (half.global.commits.linked i e is (omega arith) e.start (omega arith) (omega arith))))
      ]

      module _ (seat : ℕ) (u : UserState) (at : get_elem? actors seat ≡ some (actor.User u)) (own : u.user ≡ e.user) where
        fits : UserFits D c m g p seat u
        fits = half.each seat (actor.User u) at

        numbers : (length u.starts ≡ u.k + 1) × (e.k ≡ u.k)
        numbers =
            let rank = half.global.tiled.ranks i e is in
            let front = count_front g.log i e is in
            let last = half.global.commits.last e.user in
            let low = unanswered in
            let counted : count_of e.user g.log ≡ length u.starts = ap (λ (v : ℕ). count_of v g.log) (sym own) ∙ fits.counted in
            let answers : g.answered e.user ≡ u.k = ap g.answered (sym own) ∙ fits.answers in
            (omega arith, omega arith)

        same : (j : ℕ) → get_elem? g.log j ≡ some (entry u.user u.k u.start (line u)) → e.start ≡ u.start
        same j its = ap (λ (x : Entry). x.start) (rank_same c m.sn g.log g.place i j e (entry u.user u.k u.start (line u)) half.global.tiled is its (sym own) numbers.1)

        near : Hand D c m g p seat u → u.k < length u.lines → (has_room u m.write ≡ true) × (can_link u m.wtail ≡ true)
        near h less =
            let here = same h.at h.is in
            let long = (fits.sound u.k less).1 in
            let lies : lsn u.start ≡ m.wtail = ap lsn (sym here ∙ start) ∙ sym half.global.order.wtail_is in
            let up = lsn_near u.start (length (group_bytes u)) long in
            (lt-ltb (lsn (group_end u)) (floor m.write + LOG_BUFFER) (let f : m.write < floor m.write + 512 = omega arith in omega arith), lt-ltb (lsn u.start) (m.wtail + WRITTEN_LINKS) (omega arith))

        no_group : length u.starts ≡ u.k → ⊥
        no_group z = let y = numbers.0 in omega arith

        goes : (f : UserStep) → UserAt D c m g p seat u f → UserTold c u f → UserCan m u f
        goes user_step.LoadCheckpoint h told = tt
        goes user_step.LoadSn h told = tt
        goes user_step.Reserve h told = tt
        goes user_step.LoadWrite h told = (near h.2 h.1).0
        goes user_step.AddCell h told = tt
        goes user_step.StoreFirst h told = tt
        goes user_step.LoadWtail h told = (near h.2 h.1).1
        goes (user_step.AdvanceWritten v) h told = up_can m (can_link u m.wtail ≡ true) u.advance v (near h.0.2 h.0.1).1
        goes user_step.ReloadWtail h told = (near h.2 h.1).1
        goes user_step.StoreLink h told = tt
        goes user_step.AwaitMark h told =
            let linked = h.2 in
            let here = same linked.0 linked.1 in
            let long = (fits.sound u.k h.1).0 in
            absurd (not_linked (ap g.state here ∙ linked.2 u.start (omega arith) (omega arith)))
        goes user_step.Done h told = absurd (no_group h.0)
        goes user_step.Failed h told = let z = h.1 in absurd (omega arith)
        goes _ h told = absurd told

        of_user : Found m actors
        of_user = can_help seat (actor.User u) at (goes u.step fits.step (F.each seat (actor.User u) at))

      by_owner : (seat : ℕ) (a : Actor) → get_elem? actors seat ≡ some a → 0 < count_of e.user (entries a) → Found m actors
      by_owner seat (actor.User u) at more = of_user seat u at (own_user u.user e.user u.lines 0 u.starts more)
      by_owner seat _ at more = absurd (omega arith)

      in_hand : Found m actors
      in_hand =
          let more = count_some g.log i e is in
          let all = half.counted (λ x. cond (x.user == e.user) 1 0) in
          let s = seat_from (λ x. cond (x.user == e.user) 1 0) actors (omega arith) in
          by_owner s.0 s.1 s.2 s.3

    -- where all that is reserved is linked, each user goes on
    module _ (all : g.wtail ≡ m.sn) (seat : ℕ) (u : UserState) (at : get_elem? actors seat ≡ some (actor.User u)) where
      its_fits : UserFits D c m g p seat u
      its_fits = half.each seat (actor.User u) at

      no_hand : Hand D c m g p seat u → ⊥
      no_hand h =
          let lies = tiles_at g.log c.base m.sn h.at (entry u.user u.k u.start (line u)) half.global.tiled.tiles h.is in
          let low = lies.0 in let high = lies.1 in let some_bytes = lies.2 in
          let up = half.global.order.wtail_tail in
          let linked = half.global.written_links.linked u.start low (omega arith) in
          elim (dec_le 1 u.copied) [
            | yes d ↦ (let z = h.done u.start (omega arith) (omega arith) in omega arith)
            | no d ↦ (let z = h.bare u.start (omega arith) (omega arith) in omega arith)
          ]

      passed : HasLinked D c m g p u → (b : Bool) → has_passed u (read m (cond b word.Flushed word.Write)) ≡ true
      passed linked b =
          let lies = tiles_at g.log c.base m.sn linked.0 (entry u.user u.k u.start (line u)) half.global.tiled.tiles linked.1 in
          let high = lsn_le (group_end u) m.sn lies.1 in
          let top : lsn m.sn ≡ m.wtail = ap lsn (sym all) ∙ sym half.global.order.wtail_is in
          by b high top
        where
          by : (b : Bool) → lsn (group_end u) ≤ lsn m.sn → lsn m.sn ≡ m.wtail → has_passed u (read m (cond b word.Flushed word.Write)) ≡ true
          by true high top = le-leb (lsn (group_end u)) m.flushed (omega arith)
          by false high top = le-leb (lsn (group_end u)) m.write (omega arith)

      drained : (f : UserStep) → UserAt D c m g p seat u f → UserTold c u f → IsOpenStep f → UserCan m u f
      drained user_step.LoadCheckpoint h told live = tt
      drained user_step.LoadSn h told live = tt
      drained user_step.Reserve h told live = tt
      drained user_step.LoadWrite h told live = absurd (no_hand h.2)
      drained user_step.AddCell h told live = tt
      drained user_step.StoreFirst h told live = tt
      drained user_step.LoadWtail h told live = absurd (no_hand h.2)
      drained (user_step.AdvanceWritten v) h told live = absurd (no_hand h.0.2)
      drained user_step.ReloadWtail h told live = absurd (no_hand h.2)
      drained user_step.StoreLink h told live = tt
      drained user_step.AwaitMark h told live = passed h.2 (mode u == 1)
      drained user_step.Done h told live = absurd live
      drained user_step.Failed h told live = absurd live
      drained _ h told live = absurd told

      drained_helps : IsOpenStep u.step → Found m actors
      drained_helps live = can_help seat (actor.User u) at (drained u.step its_fits.step (F.each seat (actor.User u) at) live)

    no_link_helps : (seat : ℕ) (u : UserState) → get_elem? actors seat ≡ some (actor.User u) → IsOpenStep u.step → Found m actors
    no_link_helps seat u at live = elim (dec_le m.sn g.wtail) [
      | yes d ↦ drained_helps (let a = half.global.order.wtail_tail in let b = half.global.order.tail_sn in omega arith) seat u at live
      | no d ↦ (
          let r = group_at g.log c.base m.sn g.wtail half.global.tiled.tiles half.global.order.wtail_bound (omega arith) in
          in_hand r.0 r.1 r.2 r.3 (λ linked.
          let standing = half.global.written_links.standing r.0 r.1 r.2 linked (let z = none.1 in let y = r.3 in omega arith) in
          let some_link = standing.0 in
          let place : slice_index m.wlinks (lsn r.1.start % WRITTEN_LINKS) ≡ slice_index m.wlinks (m.wtail % WRITTEN_LINKS) = ap (λ (k : ℕ). slice_index m.wlinks (k % WRITTEN_LINKS)) (ap lsn r.3 ∙ sym half.global.order.wtail_is) in
          let empty = none.0 in
          omega arith))
    ]

  -- SOMEBODY HELPS
  pub sound_helps : (seat : ℕ) (u : UserState) → get_elem? actors seat ≡ some (actor.User u) → IsOpenStep u.step → Found m actors
  sound_helps seat u at live = elim (ℕ_discrete m.device 0) [
    | no n ↦ device_held (let z = half.global.part.turn_word in omega arith)
    | yes free ↦ ⊎_elim (λ can. can_help w (actor.Writer s) F.writer.2 can)
        (λ looks. ⊎_elim (λ can. can_help F.flusher.0 (actor.Flusher F.flusher.1) F.flusher.2 can) (λ same. tail_helps looks same) (flusher_or F.flusher.1 F.flusher.1.step flusher_fits.step (F.each F.flusher.0 (actor.Flusher F.flusher.1) F.flusher.2) free))
        (writer_or w s s.step fits.step (F.each w (actor.Writer s) F.writer.2) free)
  ]
    where
      w : ℕ
      w = F.writer.0

      s : WriterState
      s = F.writer.1

      fits : WriterFits D c m g p F.writer.0 F.writer.1
      fits = half.each F.writer.0 (actor.Writer F.writer.1) F.writer.2

      flusher_fits : FlusherFits D c m g p F.flusher.0 F.flusher.1
      flusher_fits = half.each F.flusher.0 (actor.Flusher F.flusher.1) F.flusher.2

      tail_helps : Looks F.writer.1 F.writer.1.step → m.write ≡ F.flusher.1.last → Found m actors
      tail_helps looks same =
          let O = half.global.order in
          let own = fits.write in
          let low = looks.2 in let high = looks.3 in
          let w_is = O.write_is in let t_is = O.wtail_is in
          let up = lsn_le g.write g.wtail (let x = O.write_read in let y = O.read_target in let z = O.target_wtail in omega arith) in
          let target = fits.tail in
          let target_up = lsn_le g.target g.wtail O.target_wtail in
          let last = flusher_fits.last in
          by (omega arith) (omega arith) (omega arith) m.wheld refl
        where
          by : m.write ≡ m.wtail → m.flushed ≡ m.wtail → F.writer.1.tail ≤ m.wtail → (b : Bool) → m.wheld ≡ b → Found m actors
          by write flushed low true held = let t = half.advanced held in ⊎_elim (λ z. z) (λ none. no_link_helps write flushed none seat u at live) (by_holder held t.0 t.1 t.2 t.3)
          by write flushed low false free = ⊎_elim
              (λ stands. record {
                helper = record {
                  seat = F.writer.0;
                  who = actor.Writer F.writer.1;
                  at = F.writer.2;
                  weight = 14;
                  help = inl (sound, inr (inl (writer_takes F.writer.0 F.writer.1 F.writer.1.step fits.step (F.each F.writer.0 (actor.Writer F.writer.1) F.writer.2) looks low (free, stands), (let z = takes_low (actor.Writer F.writer.1) in omega arith))));
                  light = omega arith;
                };
                by_free = λ _. omega arith;
              })
              (λ empty. no_link_helps write flushed (empty, half.global.order.free free) seat u at live)
              (stands_or (m.wtail % WRITTEN_LINKS))
