-- Each turn keeps the margin; so the writer never waits for space in the log.
use Rattle.std.proofs.Common.{Bool, List, [], ap, arith, cond, eqb, false, inl, inr, leb-true, length, refl, set, subst, suc, sym, true, zero, ℕ, ⊎_elim, ◌*◌, ◌+◌, ◌==◌, ◌<◌, ◌∷◌, ◌≡◌, ◌≤◌, ◌⊎◌}
use Rattle.std.proofs.lemmas.Bool.{le-leb}
use lib.ListN.{get_elem?}
use mathlib.Core.Option.{some}
use Rattle.model_base.specs.declared.limits.TheConstants.{BLOCK_SIZE, MAX_GROUP}
use Rattle.model_core.proofs.Later.{took_later}
use Rattle.model_core.proofs.Lists.{at_set}
use Rattle.model_core.proofs.Lsns.{lsn_le}
use Rattle.model_core.specs.{Actor, ceiling, changes, checkpointer_op, CheckpointerState, cleaner_op, closer_op, flusher_op, group_bytes, has_log_space, has_space, heard, Line, line_at, Listed, lsn, next, reader_op, shared_answer, shared_left, SharedWords, took, user_op, user_took, UserState, writer_op, WriterState, IsSameActor, LogSide, Setup}
use Rattle.model_core.specs.declared.limits.TheConstants.{FREE_MARGIN}
use Rattle.model_core.specs.declared.ops.Op.{Op}
use Rattle.model_core.specs.declared.steps.CheckpointerStep.{CheckpointerStep}
use Rattle.model_core.specs.declared.steps.UserStep.{UserStep}
use Rattle.model_logcore.proofs.Frame.{total_set}
use Rattle.model_logcore.specs.{CheckpointerAt, CheckpointerFits, LogGhost, sum_over_actors, UserFits, WriterFits, LogHalf}
use Rattle.model_ends.proofs.Margin.{checking_same, checkpointer_same, cleaner_same, closer_same, flusher_same, groups_near, HasMargin, is_user, pledge, reader_same, Same, state_pledge, took_none, user_pledge, user_same, writer_same}
use Rattle.model_ends.proofs.Sizes.{sum_less}
use Rattle.model_core.specs.States as actor
use Rattle.model_core.specs.declared.ops.Op.TheVariants as op
use Rattle.model_core.specs.declared.steps.CheckpointerStep.TheVariants as checkpointer_step
use Rattle.model_core.specs.declared.steps.UserStep.TheVariants as user_step
use Rattle.model_core.specs.declared.words.Word.TheVariants as word

-- an actor that is no user pledges nothing, and stays none
no_pledge : (a b : Actor) → IsSameActor a b → is_user a ≡ 0 → pledge b ≡ 0
no_pledge (actor.User u) b is none = absurd (omega arith)
no_pledge _ b is none = ap pledge is.1

same_kind : (a b : Actor) → IsSameActor a b → is_user b ≡ is_user a
same_kind (actor.User u) b is = ap is_user is.1
same_kind _ b is = ap is_user is.1

-- no line is longer than a group may be
short_line : (lines : List Line) → ((j : ℕ) → j < length lines → length (line_at lines j).bytes ≤ MAX_GROUP) → (k : ℕ) → length (line_at lines k).bytes ≤ MAX_GROUP
short_line [] h zero = omega arith
short_line [] h (suc k) = omega arith
short_line (x ∷ xs) h zero = h 0 (omega arith)
short_line (x ∷ xs) h (suc k) = short_line xs (λ j l. h (suc j) (omega arith)) k

user_short : (u : UserState) → ((k : ℕ) → length (line_at u.lines k).bytes ≤ MAX_GROUP) → (f : UserStep) → user_pledge u f ≤ MAX_GROUP
user_short u h user_step.TakeLatch = h u.k
user_short u h user_step.Reserve = h u.k
user_short u h _ = omega arith

scaled : (actors : List Actor) → sum_over_actors (λ a. MAX_GROUP * is_user a) actors ≡ MAX_GROUP * sum_over_actors is_user actors
scaled [] = omega arith
scaled (x ∷ xs) = let z = scaled xs in omega arith

pledge_same : (u : UserState) (b d : Bool) (f : UserStep) → user_pledge (record u { checks = b; step = f }) f ≡ user_pledge (record u { checks = d; step = f }) f
pledge_same u b d _ = refl

-- it goes on to latches, or to its reservation
latched : (u : UserState) (n : ℕ) → state_pledge (user_took u n user_step.TakeLatch) ≡ length (group_bytes u)
latched u n = by (n == 0) (u.page + 1 == length (changes u))
  where
    by : (b d : Bool) → state_pledge (cond b (record u { page = u.page + 1; step = cond d user_step.Reserve user_step.TakeLatch }) (record u { checks = true; step = user_step.TakeLatch })) ≡ length (group_bytes u)
    by true true = refl
    by true false = refl
    by false d = refl

module _ (D : LogSide) (c : Setup) (m : SharedWords) (g : LogGhost) (p : D.Part) (actors : List Actor) (half : LogHalf D c m g p actors) where
  -- a turn leaves no more to reserve; or the user has just found space
  abbrev Less : SharedWords → ℕ → ℕ → Type 0
  Less after before behind = (after.sn + behind ≤ m.sn + before) × (m.ckpt ≤ after.ckpt)

  abbrev Passes : SharedWords → Type 0
  Passes after = (after.sn ≡ m.sn) × (m.ckpt ≤ after.ckpt) × (lsn m.sn + FREE_MARGIN ≤ m.ckpt + BLOCK_SIZE * c.blocks)

  abbrev Leaves : SharedWords → ℕ → ℕ → Type 0
  Leaves after before behind = Less after before behind ⊎ Passes after

  less_by : (after : SharedWords) (before behind : ℕ) → Same m after → behind ≤ before → Leaves after before behind
  less_by after before behind same le = inl (let a = same.0 in let b = same.1 in (omega arith, omega arith))

  -- of a user
  module _ (seat : ℕ) (u : UserState) (fits : UserFits D c m g p seat u) (ls : ℕ → List Listed) (broken : Bool) (code mark : ℕ) where
    abbrev own : UserStep → UserState
    own f = record u { checks = false; step = f }

    abbrev hears : Op → ℕ
    hears o = heard (shared_answer ls broken code mark m o)

    abbrev UserLeaves : UserStep → Type 0
    UserLeaves f = Leaves (shared_left m (user_op (own f) f)) (user_pledge (own f) f) (state_pledge (user_took (own f) (hears (user_op (own f) f)) f))

    other : (f : UserStep) → (f ≡ user_step.LoadSn → ⊥) → (f ≡ user_step.TakeLatch → ⊥) → (f ≡ user_step.Reserve → ⊥) → (f ≡ user_step.Done → ⊥) → (f ≡ user_step.Failed → ⊥) → UserLeaves f
    other f a b d e k = less_by (shared_left m (user_op (own f) f)) (user_pledge (own f) f) (state_pledge (user_took (own f) (hears (user_op (own f) f)) f)) (user_same m (own f) f d)
        (let z = took_none (own f) (hears (user_op (own f) f)) f a b e k in omega arith)

    user_own : (f : UserStep) → UserLeaves f
    user_own user_step.LoadSn = by (has_space (own user_step.LoadSn) m.sn) refl (eqb (length (changes u)) 0)
      where
        by : (b : Bool) → has_space (own user_step.LoadSn) m.sn ≡ b → (d : Bool) → Leaves m 0 (state_pledge (cond b (record (own user_step.LoadSn) { page = 0; cell = 0; step = cond d user_step.Reserve user_step.TakeLatch }) (record (own user_step.LoadSn) { checks = true; step = user_step.LoadCheckpoint })))
        by true e d = inr (refl, omega arith, (let z = leb-true (lsn m.sn + FREE_MARGIN) (u.loaded.ckpt + BLOCK_SIZE * u.blocks) e in let y = fits.loaded.ckpt_below in let x = fits.blocks in omega arith))
        by false e d = inl (omega arith, omega arith)
    user_own user_step.TakeLatch = less_by (shared_left m (user_op (own user_step.TakeLatch) user_step.TakeLatch)) (length (group_bytes u)) (state_pledge (user_took (own user_step.TakeLatch) (hears (user_op (own user_step.TakeLatch) user_step.TakeLatch)) user_step.TakeLatch)) (user_same m (own user_step.TakeLatch) user_step.TakeLatch (λ e. absurd (cc)))
        (let z = latched (own user_step.TakeLatch) (hears (user_op (own user_step.TakeLatch) user_step.TakeLatch)) in omega arith)
    user_own user_step.Reserve = inl (omega arith, omega arith)
    user_own user_step.Done = inl (omega arith, omega arith)
    user_own user_step.Failed = inl (omega arith, omega arith)
    user_own f = other f (λ e. absurd (cc)) (λ e. absurd (cc)) (λ e. absurd (cc)) (λ e. absurd (cc)) (λ e. absurd (cc))

    abbrev Turned : Bool → UserStep → Type 0
    Turned b f =
        let x : UserState = record u { checks = b; step = f } in
        Leaves (shared_left m (next (actor.User x))) (user_pledge x f) (pledge (took (actor.User x) (shared_answer ls broken code mark m (next (actor.User x)))))

    user_by : (b : Bool) (f : UserStep) → Turned b f
    user_by true f = by (eqb m.failed 0)
      where
        by : (b : Bool) → Leaves m (user_pledge (record u { checks = true; step = f }) f) (pledge (actor.User (cond b (record u { checks = false; step = f }) (record u { checks = false; code = m.failed; step = user_step.Failed }))))
        by true = inl ((let z = pledge_same u true false f in omega arith), omega arith)
        by false = inl (omega arith, omega arith)
    user_by false f = user_own f

    user_leaves : Leaves (shared_left m (next (actor.User u))) (pledge (actor.User u)) (pledge (took (actor.User u) (shared_answer ls broken code mark m (next (actor.User u)))))
    user_leaves = user_by u.checks u.step

  -- of the checkpointer: it stores no lower checkpoint
  checkpointer_up : (t : CheckpointerState) (f : CheckpointerStep) → CheckpointerAt D c m g p t f → ((shared_left m (checkpointer_op t f)).sn ≡ m.sn) × (m.ckpt ≤ (shared_left m (checkpointer_op t f)).ckpt)
  checkpointer_up t checkpointer_step.StoreCheckpoint h = (refl, let z = half.global.part.ckpt_part in let y = h in omega arith)
  checkpointer_up t f h = let z = checkpointer_same m t f (λ e. absurd (cc)) in (z.0, let y = z.1 in omega arith)

  checkpointer_by : (t : CheckpointerState) (b : Bool) (f : CheckpointerStep) → CheckpointerAt D c m g p t f → ((shared_left m (cond b (op.Load word.Failed) (checkpointer_op t f))).sn ≡ m.sn) × (m.ckpt ≤ (shared_left m (cond b (op.Load word.Failed) (checkpointer_op t f))).ckpt)
  checkpointer_by t true f h = (refl, omega arith)
  checkpointer_by t false f h = checkpointer_up t f h

  module _ (M : HasMargin c m actors) (seat : ℕ) (ls : ℕ → List Listed) (broken : Bool) (code mark : ℕ) where
    abbrev to : Actor → SharedWords
    to a = shared_left m (next a)

    abbrev becomes : Actor → Actor
    becomes a = took a (shared_answer ls broken code mark m (next a))

    -- of another actor
    others : (a : Actor) → is_user a ≡ 0 → Same m (to a) → Leaves (to a) (pledge a) (pledge (becomes a))
    others a none same = less_by (to a) (pledge a) (pledge (becomes a)) same (let z = no_pledge a (becomes a) (took_later a (shared_answer ls broken code mark m (next a))) none in omega arith)

    leaves : (a : Actor) → get_elem? actors seat ≡ some a → Leaves (to a) (pledge a) (pledge (becomes a))
    leaves (actor.User u) at = user_leaves seat u (half.each seat (actor.User u) at) ls broken code mark
    leaves (actor.Writer s) at = others (actor.Writer s) refl (checking_same m s.checks (writer_op s s.step) (writer_same m s s.step))
    leaves (actor.Flusher s) at = others (actor.Flusher s) refl (checking_same m s.checks (flusher_op s s.step) (flusher_same m s s.step))
    leaves (actor.Reader s) at = others (actor.Reader s) refl (checking_same m s.checks (reader_op s s.step) (reader_same m s s.step))
    leaves (actor.Closer s) at = others (actor.Closer s) refl (checking_same m s.checks (closer_op s s.step) (closer_same m s s.step))
    leaves (actor.Cleaner s) at = others (actor.Cleaner s) refl (checking_same m s.checks (cleaner_op s s.step) (cleaner_same m s s.step))
    leaves (actor.Checkpointer t) at =
        let fits : CheckpointerFits D c m g p seat t = half.each seat (actor.Checkpointer t) at in
        let up = checkpointer_by t t.checks t.step fits.step in
        let none = no_pledge (actor.Checkpointer t) (becomes (actor.Checkpointer t)) (took_later (actor.Checkpointer t) (shared_answer ls broken code mark m (next (actor.Checkpointer t)))) refl in
        inl (let z = up.0 in (omega arith, up.1))

    -- each actor pledges a group at most
    short_user : (j : ℕ) (u : UserState) → get_elem? actors j ≡ some (actor.User u) → (k : ℕ) → length (line_at u.lines k).bytes ≤ MAX_GROUP
    short_user j u at k = let fits : UserFits D c m g p j u = half.each j (actor.User u) at in short_line u.lines (λ i l. (fits.sound i l).1) k

    short : (j : ℕ) (a : Actor) → get_elem? actors j ≡ some a → pledge a ≤ MAX_GROUP * is_user a
    short j (actor.User u) at = let z = user_short u (short_user j u at) u.step in omega arith
    short j (actor.Writer s) at = omega arith
    short j (actor.Flusher s) at = omega arith
    short j (actor.Reader s) at = omega arith
    short j (actor.Closer s) at = omega arith
    short j (actor.Cleaner s) at = omega arith
    short j (actor.Checkpointer s) at = omega arith

    short_later : (a b : Actor) → get_elem? actors seat ≡ some a → IsSameActor a b → pledge b ≤ MAX_GROUP * is_user b
    short_later (actor.User u) b at is =
        let v : UserState = is.0 in
        let lines = is.3 in
        let z = user_short v (λ k. subst (λ (l : List Line). length (line_at l k).bytes ≤ MAX_GROUP) (sym lines) (short_user seat u at k)) v.step in
        subst (λ (x : Actor). pledge x ≤ MAX_GROUP * is_user x) (sym is.1) (let y = z in omega arith)
    short_later (actor.Writer s) b at is = let z = ap pledge is.1 in omega arith
    short_later (actor.Flusher s) b at is = let z = ap pledge is.1 in omega arith
    short_later (actor.Reader s) b at is = let z = ap pledge is.1 in omega arith
    short_later (actor.Closer s) b at is = let z = ap pledge is.1 in omega arith
    short_later (actor.Cleaner s) b at is = let z = ap pledge is.1 in omega arith
    short_later (actor.Checkpointer s) b at is = let z = ap pledge is.1 in omega arith

    module _ (a : Actor) (at : get_elem? actors seat ≡ some a) where
      abbrev then : List Actor
      then = set actors seat (becomes a)

      later : IsSameActor a (becomes a)
      later = took_later a (shared_answer ls broken code mark m (next a))

      few_then : sum_over_actors is_user then ≤ 16
      few_then = let t = total_set is_user actors seat a (becomes a) at in let k = same_kind a (becomes a) later in let f = M.few in omega arith

      less : Less (to a) (pledge a) (pledge (becomes a)) → lsn ((to a).sn + sum_over_actors pledge then) + 143_216 ≤ (to a).ckpt + BLOCK_SIZE * c.blocks
      less h =
          let t = total_set pledge actors seat a (becomes a) at in
          let n = h.0 in let up = h.1 in
          let l = lsn_le ((to a).sn + sum_over_actors pledge then) (m.sn + sum_over_actors pledge actors) (omega arith) in
          let s = M.space in
          omega arith

      passes : Passes (to a) → lsn ((to a).sn + sum_over_actors pledge then) + 143_216 ≤ (to a).ckpt + BLOCK_SIZE * c.blocks
      passes h =
          let sum = sum_less pledge (λ x. MAX_GROUP * is_user x) then (λ j x is. ⊎_elim (λ z. subst (λ (y : Actor). pledge y ≤ MAX_GROUP * is_user y) z.1 (short_later a (becomes a) at later)) (λ z. short j x z.1) (at_set actors seat j (becomes a) x is)) in
          let all = scaled then in
          let f = few_then in
          let near = groups_near (to a).sn (sum_over_actors pledge then) (omega arith) in
          let same = ap lsn h.0 in
          let up = h.1 in
          let space = h.2 in
          omega arith

      -- EACH TURN KEEPS IT
      pub margin_kept : HasMargin c (shared_left m (next a)) (set actors seat (took a (shared_answer ls broken code mark m (next a))))
      margin_kept = record { few = few_then; space = ⊎_elim less passes (leaves a at) }

    -- SO THE WRITER NEVER WAITS FOR SPACE
    pub writer_has_space : (s : WriterState) → get_elem? actors seat ≡ some (actor.Writer s) → has_log_space s m.ckpt ≡ true
    writer_has_space s at =
        let fits : WriterFits D c m g p seat s = half.each seat (actor.Writer s) at in
        let O = half.global.order in
        let target = fits.tail in
        let up = lsn_le g.target (m.sn + sum_over_actors pledge actors) (let x = O.target_wtail in let y = O.wtail_tail in let z = O.tail_sn in omega arith) in
        let space = M.space in
        let blocks = fits.blocks in
        le-leb (ceiling s.tail) (m.ckpt + BLOCK_SIZE * s.blocks) (let high : ceiling s.tail ≤ s.tail + 511 = omega arith in omega arith)
