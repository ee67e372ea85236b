-- The same actor, later: what every Op keeps.
use Rattle.std.proofs.Common.{Bool, List, [], ap, append-nil, append_assoc, arith, cond, false, length, refl, subst, sym, true, ℕ, ◌++◌, ◌+◌, ◌==◌, ◌≤◌, ◌∙◌, ◌∷◌, ◌≡◌}
use Rattle.model_core.specs.{after_link, answered, can_close, can_link, changes, checked_of, checkpointer_program, checkpointer_took, cleaner_program, cleaner_took, closer_program, closer_took, flusher_program, flusher_took, has_passed, has_room, has_space, heard, mode, old_of, tail_of, to_next_page, took, user_program, user_took, UserState, with_mark, writer_program, writer_took, reader_program, reader_took}
use Rattle.model_core.specs.States as model
use Rattle.model_core.specs.States.{Actor}
use Rattle.model_core.specs.UserProgram.{with_close_room, with_link_room, without_close_room, without_link_room}
use Rattle.model_core.specs.declared.ops.Answer.{Answer}
use Rattle.model_core.specs.declared.steps.AdvanceStep.TheVariants as advance_step
use Rattle.model_core.specs.declared.steps.UserStep.{UserStep}
use Rattle.model_core.specs.declared.steps.UserStep.TheVariants as user_step
use Rattle.model_core.specs.Later.{IsSameActor}

-- what a user keeps
abbrev pub Keeps : UserState → UserState → Type 0
Keeps u v =
    (v.user ≡ u.user) × (v.lines ≡ u.lines) × (u.k ≤ v.k) × (more : List ℕ) × (v.starts ≡ u.starts ++ more)
    × (v.keeps ≡ u.keeps)

-- with nothing more
pub still : (u : UserState) → Keeps u u
still u = (refl, refl, omega arith, [], sym (append-nil u.starts), refl)

-- with one more answer, or one more group
one_answer : (u : UserState) → Keeps u (answered u)
one_answer u = (refl, refl, omega arith, [], sym (append-nil u.starts), refl)

one_group : (u : UserState) (n : ℕ) → Keeps u (user_took u n user_step.Reserve)
one_group u n = (refl, refl, omega arith, n ∷ [], refl, refl)

keeps_trans : (u v w : UserState) → Keeps u v → Keeps v w → Keeps u w
keeps_trans u v w h m = (
  m.0 ∙ h.0,
  m.1 ∙ h.1,
  (let a = h.2 in let b = m.2 in omega arith),
  h.3 ++ m.3,
  m.4 ∙ ap (λ (l : List ℕ). l ++ m.3) h.4 ∙ append_assoc u.starts h.3 m.3,
  m.5 ∙ h.5,
)

user_later : (u v : UserState) → Keeps u v → IsSameActor (model.User u) (model.User v)
user_later u v h = (v, refl, h.0, h.1, h.2, h.3, h.4, h.5)

pub later_refl : (a : Actor) → IsSameActor a a
later_refl (model.User u) = user_later u u (still u)
later_refl (model.Writer s) = (s, refl)
later_refl (model.Flusher s) = (s, refl)
later_refl (model.Reader s) = (s, refl)
later_refl (model.Closer s) = (s, refl)
later_refl (model.Cleaner s) = (s, refl)
later_refl (model.Checkpointer s) = (s, refl)

pub later_trans : (a b c : Actor) → IsSameActor a b → IsSameActor b c → IsSameActor a c
later_trans (model.User u) b c h k =
    let m = subst (λ (x : Actor). IsSameActor x c) h.1 k in
    let s = keeps_trans u h.0 m.0 (h.2, h.3, h.4, h.5, h.6, h.7) (m.2, m.3, m.4, m.5, m.6, m.7) in
    (m.0, m.1, s.0, s.1, s.2, s.3, s.4, s.5)
later_trans (model.Writer s) b c h k = subst (λ (x : Actor). IsSameActor x c) h.1 k
later_trans (model.Flusher s) b c h k = subst (λ (x : Actor). IsSameActor x c) h.1 k
later_trans (model.Reader s) b c h k = subst (λ (x : Actor). IsSameActor x c) h.1 k
later_trans (model.Closer s) b c h k = subst (λ (x : Actor). IsSameActor x c) h.1 k
later_trans (model.Cleaner s) b c h k = subst (λ (x : Actor). IsSameActor x c) h.1 k
later_trans (model.Checkpointer s) b c h k = subst (λ (x : Actor). IsSameActor x c) h.1 k

keeps_by : (u : UserState) (b : Bool) (x y : UserState) → Keeps u x → Keeps u y → Keeps u (cond b x y)
keeps_by u true x y h k = h
keeps_by u false x y h k = k

link_keeps : (u : UserState) → Keeps u (after_link u)
link_keeps u = keeps_by u (mode u == 0) (answered u) (record u { step = user_step.AwaitMark }) (one_answer u) (still u)

pub took_keeps : (u : UserState) (n : ℕ) (f : UserStep) → Keeps u (user_took u n f)
took_keeps u n user_step.LoadSn =
    keeps_by u (has_space u n)
    (record u { page = 0; cell = 0; step = cond (length (changes u) == 0) user_step.Reserve user_step.TakeLatch })
    (record u { checks = true; step = user_step.LoadCheckpoint }) (still u) (still u)
took_keeps u n user_step.TakeLatch =
    keeps_by u (n == 0)
    (record u {
      page = u.page + 1;
      step = cond (u.page + 1 == length (changes u)) user_step.Reserve user_step.TakeLatch;
    })
    (record u { checks = true; step = user_step.TakeLatch }) (still u) (still u)
took_keeps u n user_step.Reserve = one_group u n
took_keeps u n user_step.LoadWrite =
    keeps_by u (has_room u n) (record u { loaded = record u.loaded { write = n }; step = user_step.AddCell })
    (record u { loaded = record u.loaded { write = n }; checks = true; step = user_step.LoadWrite }) (still u)
    (still u)
took_keeps u n user_step.LoadWtail =
    keeps_by u (can_link u (tail_of n)) (with_link_room u n)
    (without_link_room u n false (user_step.AdvanceWritten advance_step.LoadTail)) (still u) (still u)
took_keeps u n user_step.ReloadWtail =
    keeps_by u (can_link u (tail_of n)) (with_link_room u n) (without_link_room u n true user_step.LoadWtail)
    (still u) (still u)
took_keeps u n user_step.StoreLink =
    keeps_by u (length (changes u) == 0) (after_link u) (record u { step = user_step.LoadCtail }) (link_keeps u)
    (still u)
took_keeps u n user_step.LoadCtail =
    keeps_by u (can_close u (tail_of n)) (with_close_room u n)
    (without_close_room u n false (user_step.AdvanceClosed advance_step.LoadTail)) (still u) (still u)
took_keeps u n user_step.ReloadCtail =
    keeps_by u (can_close u (tail_of n)) (with_close_room u n) (without_close_room u n true user_step.LoadCtail)
    (still u) (still u)
took_keeps u n user_step.LoadOldest =
    keeps_by u (n == 0) (record u { step = user_step.AddToList }) (to_next_page u) (still u) (still u)
took_keeps u n user_step.ReleaseLatch =
    keeps_by u (u.page + 1 == length (changes u)) (after_link u)
    (record u { page = u.page + 1; step = user_step.ReleaseLatch }) (link_keeps u) (still u)
took_keeps u n user_step.AwaitMark =
    keeps_by u (has_passed u n) (answered (record u { loaded = with_mark u n }))
    (record u { loaded = with_mark u n; checks = true; step = user_step.AwaitMark })
    (one_answer (record u { loaded = with_mark u n })) (still u)
took_keeps u n _ = still u

pub checked_keeps : (u : UserState) (n : ℕ) → Keeps u (checked_of user_program u n)
checked_keeps u n =
    keeps_by u (n == 0) (record u { checks = false }) (record u { checks = false; code = n; step = user_step.Failed })
    (still u) (still u)

later_by : (a x y : Actor) (b : Bool) → IsSameActor a x → IsSameActor a y → IsSameActor a (cond b x y)
later_by a x y true h k = h
later_by a x y false h k = k

pub took_later : (a : Actor) (r : Answer) → IsSameActor a (took a r)
took_later (model.User u) r = later_by (model.User u) (model.User (checked_of user_program u (old_of r))) (model.User (user_took u (heard r) u.step)) u.checks (user_later u (checked_of user_program u (old_of r)) (checked_keeps u (old_of r))) (user_later u (user_took u (heard r) u.step) (took_keeps u (heard r) u.step))
took_later (model.Writer s) r = later_by (model.Writer s) (model.Writer (checked_of writer_program s (old_of r))) (model.Writer (writer_took s r s.step)) s.checks (checked_of writer_program s (old_of r), refl) (writer_took s r s.step, refl)
took_later (model.Flusher t) r = later_by (model.Flusher t) (model.Flusher (checked_of flusher_program t (old_of r))) (model.Flusher (flusher_took t r t.step)) t.checks (checked_of flusher_program t (old_of r), refl) (flusher_took t r t.step, refl)
took_later (model.Reader t) r = later_by (model.Reader t) (model.Reader (checked_of reader_program t (old_of r))) (model.Reader (reader_took t r t.step)) t.checks (checked_of reader_program t (old_of r), refl) (reader_took t r t.step, refl)
took_later (model.Closer t) r = later_by (model.Closer t) (model.Closer (checked_of closer_program t (old_of r))) (model.Closer (closer_took t r t.step)) t.checks (checked_of closer_program t (old_of r), refl) (closer_took t r t.step, refl)
took_later (model.Cleaner v) r = later_by (model.Cleaner v) (model.Cleaner (checked_of cleaner_program v (old_of r))) (model.Cleaner (cleaner_took v r v.step)) v.checks (checked_of cleaner_program v (old_of r), refl) (cleaner_took v r v.step, refl)
took_later (model.Checkpointer t) r = later_by (model.Checkpointer t) (model.Checkpointer (checked_of checkpointer_program t (old_of r))) (model.Checkpointer (checkpointer_took t r t.step)) t.checks (checked_of checkpointer_program t (old_of r), refl) (checkpointer_took t r t.step, refl)

-- an actor that is a user later is one now
pub was_user : (a : Actor) (u : UserState) → IsSameActor a (model.User u) → (w : UserState) × (a ≡ model.User w)
was_user (model.User w) u later = (w, refl)
was_user _ u later = let other = later.1 in absurd (cc)
