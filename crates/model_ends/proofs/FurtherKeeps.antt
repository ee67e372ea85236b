-- Each turn keeps what holds beside the invariant.
use Rattle.std.proofs.Common.{Bool, List, [], ap, arith, cond, eqb, eqb-true, false, inl, inr, length, refl, set, subst, sym, true, ℕ, ⊎_elim, ◌<◌, ◌∙◌, ◌≡◌}
use Rattle.std.specs.Prelude.{None}
use lib.ListN.{get_elem?}
use mathlib.Core.Option.{some, some-injective}
use native.Mathlib.Decide.{dec_le, ℕ_discrete}
use Rattle.model_core.proofs.Later.{took_later}
use Rattle.model_core.proofs.Lists.{at_set, set_at, set_else}
use Rattle.model_core.specs.{Actor, changes, flusher_op, FlusherState, heard, lent, Line, line_at, Listed, LogServed, next, old_of, shared_answer, shared_left, SharedWords, took, user_op, UserState, writer_op, WriterState, PageChange, IsSameActor, DataSide, LogSide, Setup}
use Rattle.model_core.specs.declared.ops.Answer.{Answer}
use Rattle.model_core.specs.declared.ops.Op.{Op}
use Rattle.model_core.specs.declared.steps.FlusherStep.{FlusherStep}
use Rattle.model_core.specs.declared.steps.WriterStep.{WriterStep}
use Rattle.model_logcore.specs.{FlusherAt, FlusherFits, LogGhost, UserFits}
use Rattle.model_logcore.specs.LogLaws.{LogLaws}
use Rattle.model_pagecore.specs.{PageGhost}
use Rattle.model_running.specs.Watermarks.{BothHalves}
use Rattle.model_ends.proofs.Further.{flusher_tells, FlusherTold, Further, HasFlusher, HasStorer, HasWriter, IsGood, StoresCode, Told, user_tells, writer_tells, WriterTold}
use Rattle.model_ends.proofs.PartsLeft.{flusher_left, Left, storer_holds, user_left, writer_left, written}
use Rattle.model_core.specs.States as actor
use Rattle.model_core.specs.declared.ops.Answer.TheVariants as answer
use Rattle.model_core.specs.declared.ops.Op.TheVariants as op
use Rattle.model_core.specs.declared.steps.AdvanceStep.TheVariants as advance_step
use Rattle.model_core.specs.declared.steps.FlusherStep.TheVariants as flusher_step
use Rattle.model_core.specs.declared.steps.WriterStep.TheVariants as writer_step
use Rattle.model_core.specs.declared.words.Word.TheVariants as word

pub zero_back : (x y : ℕ) → (0 < x → 0 < y) → y ≡ 0 → x ≡ 0
zero_back x y on is = elim (dec_le 1 x) [
  | yes d ↦ (let z = on d in absurd (omega arith))
  | no d ↦ omega arith
]

writer_later : (x y : ℕ) (s : WriterState) (f : WriterStep) → (0 < x → 0 < y) → WriterTold x s f → WriterTold y s f
writer_later x y s writer_step.GiveBroken on told = on told
writer_later x y s (writer_step.Advance advance_step.TakeTail) on told = told
writer_later x y s _ on told = tt

flusher_later : (x y : ℕ) (t : FlusherState) (f : FlusherStep) → (0 < x → 0 < y) → FlusherTold x t f → FlusherTold y t f
flusher_later x y t flusher_step.GiveBroken on told = on told
flusher_later x y t flusher_step.TakeDevice on told = λ is. told (zero_back x y on is)
flusher_later x y t flusher_step.Sync on told = λ is. told (zero_back x y on is)
flusher_later x y t flusher_step.StoreFlushed on told = λ is. told (zero_back x y on is)
flusher_later x y t _ on told = tt

told_later : (c : Setup) (x y : ℕ) (a : Actor) → (0 < x → 0 < y) → Told c x a → Told c y a
told_later c x y (actor.User u) on told = told
told_later c x y (actor.Writer s) on told = writer_later x y s s.step on told
told_later c x y (actor.Flusher t) on told = flusher_later x y t t.step on told
told_later c x y _ on told = absurd told

is_broken : (b d : Bool) → cond b (cond d answer.Broken (answer.Taken None)) answer.Held ≡ answer.Broken → (b ≡ true) × (d ≡ true)
is_broken true true e = (refl, refl)
is_broken true false e = absurd (cc)
is_broken false d e = absurd (cc)

-- an actor keeps its kind
module _ (actors : List Actor) (seat : ℕ) (a b : Actor) (at : get_elem? actors seat ≡ some a) (later : IsSameActor a b) where
  pub keeps_writer : HasWriter actors → HasWriter (set actors seat b)
  keeps_writer w = elim (ℕ_discrete w.0 seat) [
    | yes e ↦ (
        let here : get_elem? actors seat ≡ some (actor.Writer w.1) = subst (λ (k : ℕ). get_elem? actors k ≡ some (actor.Writer w.1)) e w.2 in
        let same : ◌≡◌ {A = Actor} a (actor.Writer w.1) = some-injective a (actor.Writer w.1) (sym at ∙ here) in
        let is = subst (λ (x : Actor). IsSameActor x b) same later in
        (seat, is.0, subst (λ (x : Actor). get_elem? (set actors seat b) seat ≡ some x) is.1 (set_at actors seat a b at)))
    | no n ↦ (w.0, w.1, set_else actors seat w.0 b n ∙ w.2)
  ]

  keeps_flusher : HasFlusher actors → HasFlusher (set actors seat b)
  keeps_flusher w = elim (ℕ_discrete w.0 seat) [
    | yes e ↦ (
        let here : get_elem? actors seat ≡ some (actor.Flusher w.1) = subst (λ (k : ℕ). get_elem? actors k ≡ some (actor.Flusher w.1)) e w.2 in
        let same : ◌≡◌ {A = Actor} a (actor.Flusher w.1) = some-injective a (actor.Flusher w.1) (sym at ∙ here) in
        let is = subst (λ (x : Actor). IsSameActor x b) same later in
        (seat, is.0, subst (λ (x : Actor). get_elem? (set actors seat b) seat ≡ some x) is.1 (set_at actors seat a b at)))
    | no n ↦ (w.0, w.1, set_else actors seat w.0 b n ∙ w.2)
  ]

  pub keeps_storer : (StoresCode a → ⊥) → HasStorer actors → HasStorer (set actors seat b)
  keeps_storer not_this w = (
    w.0,
    w.1,
    set_else actors seat w.0 b (λ e.
        let here : get_elem? actors seat ≡ some w.1 = subst (λ (k : ℕ). get_elem? actors k ≡ some w.1) e w.2 in
        not_this (subst StoresCode (some-injective w.1 a (sym here ∙ at)) w.3)) ∙ w.2,
    w.3,
  )

module _ (D : LogSide) (L : LogLaws D) (E : DataSide) (c : Setup) (m : SharedWords) (g : LogGhost) (h : PageGhost) (ls : ℕ → List Listed) (p : D.Part) (d : E.Part) (actors : List Actor) (both : BothHalves D E c m g h ls p d actors) (alone : c.log_only ≡ true) (F : Further D c m p actors) where
  -- a line names no page
  pub no_page : (seat : ℕ) (u : UserState) → get_elem? actors seat ≡ some (actor.User u) → eqb (length (changes u)) 0 ≡ true
  no_page seat u at =
      let fits : UserFits D c m g p seat u = both.logged.each seat (actor.User u) at in
      let none : ◌≡◌ {A = List PageChange} (changes u) [] = ap (λ (l : List Line). (line_at l u.k).changes) fits.lines ∙ both.script.alone alone u.user u.k in
      ap (λ (l : List PageChange). eqb (length l) 0) none

  -- a log part that is free has not failed
  pub part_sound : m.failed ≡ 0 → m.device ≡ 0 → D.failed p ≡ false
  part_sound sound free = ⊎_elim (λ z. z) (λ w. let t = both.logged.turns w.0 w.1 w.2 (storer_holds w.1 w.3) in let z = t.0 in absurd (omega arith)) (F.parts sound)

  module _ (seat : ℕ) (code : ℕ) (q : D.Part) where
    abbrev said : Actor → Answer
    said a = shared_answer ls (D.failed p) code (D.stable q) m (next a)

    abbrev asked : Op → Answer
    asked o = shared_answer ls (D.failed p) code (D.stable q) m o

    broken_told : (o : Op) → ◌≡◌ {A = Op} o op.TakeDevice → asked o ≡ answer.Broken → 0 < m.failed
    broken_told o is broken =
        let z = is_broken (eqb m.device 0) (D.failed p) (subst (λ (x : Op). asked x ≡ answer.Broken) is broken) in
        elim (dec_le 1 m.failed) [
          | yes d ↦ d
          | no d ↦ (let y = part_sound (omega arith) (eqb-true m.device 0 z.0) in let x = z.1 in absurd (cc))
        ]

    told : (a : Actor) → get_elem? actors seat ≡ some a → LogServed D p (lent a) (next a) code q → (0 < m.failed → 0 < (shared_left m (next a)).failed) → Told c (shared_left m (next a)).failed (took a (said a))
    told (actor.User u) at v on = user_tells c u (no_page seat u at) (shared_left m (next (actor.User u))).failed (said (actor.User u)) (F.each seat (actor.User u) at)
        (λ quiet is. ap (λ (o : Op). heard (asked o)) (ap (λ (b : Bool). cond b (op.Load word.Failed) (user_op u u.step)) quiet ∙ ap (user_op u) is) ∙ both.stays alone)
    told (actor.Writer s) at v on = writer_tells (shared_left m (next (actor.Writer s))).failed s c (said (actor.Writer s)) (writer_later m.failed (shared_left m (next (actor.Writer s))).failed s s.step on (F.each seat (actor.Writer s) at))
        (λ quiet is broken. on (broken_told (next (actor.Writer s)) (ap (λ (b : Bool). cond b (op.Load word.Failed) (writer_op s s.step)) quiet ∙ ap (writer_op s) is) broken))
    told (actor.Flusher t) at v on =
        let fits : FlusherFits D c m g p seat t = both.logged.each seat (actor.Flusher t) at in
        let failed : ℕ = (shared_left m (next (actor.Flusher t))).failed in
        let own_told : FlusherTold m.failed t t.step = F.each seat (actor.Flusher t) at in
        let op_is : (x : FlusherStep) → t.checks ≡ false → t.step ≡ x → ◌≡◌ {A = Op} (next (actor.Flusher t)) (flusher_op t x) = (λ x quiet is. ap (λ (b : Bool). cond b (op.Load word.Failed) (flusher_op t t.step)) quiet ∙ ap (flusher_op t) is) in
        flusher_tells failed t c (said (actor.Flusher t)) (flusher_later m.failed failed t t.step on own_told)
        (λ is quiet sound.
        let low = F.stable (zero_back m.failed failed on sound) in
        let last = fits.last in
        let part = both.logged.global.part.flushed_stable in
        let loads : old_of (said (actor.Flusher t)) ≡ m.write = ap (λ (o : Op). old_of (asked o)) (op_is flusher_step.LoadWrite quiet is) in
        omega arith)
        (λ is quiet broken. on (broken_told (next (actor.Flusher t)) (op_is flusher_step.TakeDevice quiet is) broken))
        (λ is quiet good sound.
        let was = zero_back m.failed failed on sound in
        let up = subst (FlusherTold m.failed t) is own_told was in
        let o_is = op_is flusher_step.Sync quiet is in
        let served = subst (λ (o : Op). LogServed D p (lent (actor.Flusher t)) o code q) o_is v in
        let A = L.syncs c.blocks c.base g.log code p q both.logged.global.part.holds (subst (FlusherAt D c m g p t) is fits.step) served in
        subst (λ (o : Op). IsGood (asked o) → t.last < old_of (asked o)) (sym o_is) (λ called. synced (eqb code 0) (D.stable q) (D.written p) (D.stable p) A.stable (let z = both.logged.global.part.write_written in let y = fits.write in omega arith) called) good)
      where
        synced : (b : Bool) (mark written stable : ℕ) → mark ≡ cond b written stable → t.last < written → IsGood (cond b (answer.Called mark) (answer.Failed code)) → t.last < old_of (cond b (answer.Called mark) (answer.Failed code))
        synced true mark written stable is up called = omega arith
        synced false mark written stable is up called = absurd called
    told (actor.Closer x) at v on = absurd (F.each seat (actor.Closer x) at)
    told (actor.Cleaner x) at v on = absurd (F.each seat (actor.Cleaner x) at)
    told (actor.Checkpointer x) at v on = absurd (F.each seat (actor.Checkpointer x) at)
    told (actor.Reader x) at v on = absurd (F.each seat (actor.Reader x) at)

    abbrev PartLeft : Actor → Type 0
    PartLeft a = Left D L c m g p actors seat both.logged F.writer F.stable ls (D.failed p) code q (shared_left m (next a)) a (took a (said a))

    left : (a : Actor) → get_elem? actors seat ≡ some a → LogServed D p (lent a) (next a) code q → PartLeft a
    left (actor.User u) at v = user_left D L c m g p actors seat both.logged F.writer F.stable ls (D.failed p) code q u v (took (actor.User u) (said (actor.User u)))
    left (actor.Writer s) at v = writer_left D L c m g p actors seat both.logged F.writer F.stable ls (D.failed p) code q s at v
    left (actor.Flusher t) at v = flusher_left D L c m g p actors seat both.logged F.writer F.stable ls (D.failed p) code q t at v
    left (actor.Closer x) at v = absurd (F.each seat (actor.Closer x) at)
    left (actor.Cleaner x) at v = absurd (F.each seat (actor.Cleaner x) at)
    left (actor.Checkpointer x) at v = absurd (F.each seat (actor.Checkpointer x) at)
    left (actor.Reader x) at v = absurd (F.each seat (actor.Reader x) at)

    pub further_kept : (a : Actor) → get_elem? actors seat ≡ some a → LogServed D p (lent a) (next a) code q → (0 < m.failed → 0 < (shared_left m (next a)).failed) → Further D c (shared_left m (next a)) q (set actors seat (took a (said a)))
    further_kept a at v on =
        let after : SharedWords = shared_left m (next a) in
        let b : Actor = took a (said a) in
        let part = left a at v in
        record {
          each = λ j x is. ⊎_elim (λ z. subst (Told c after.failed) z.1 (told a at v on)) (λ z. told_later c m.failed after.failed x on (F.each j x z.1)) (at_set actors seat j b x is);
          writer = keeps_writer actors seat a b at (took_later a (said a)) F.writer;
          flusher = keeps_flusher actors seat a b at (took_later a (said a)) F.flusher;
          stable = λ sound. (part sound).0;
          parts = λ sound. ⊎_elim (λ z. inl z)
              (⊎_elim (λ stores. inr (seat, b, set_at actors seat a b at, stores))
              (λ z. ⊎_elim (λ whole. inl (ap D.failed z.0 ∙ whole)) (λ storer. inr (keeps_storer actors seat a b at (took_later a (said a)) z.1 storer)) (F.parts (zero_back m.failed after.failed on sound))))
              (part sound).1;
        }
