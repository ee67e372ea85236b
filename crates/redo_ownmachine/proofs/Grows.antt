-- A turn of a user that writes for itself takes no group from it.
use Rattle.std.proofs.Common.{Bool, List, [], append-nil, arith, cond, false, refl, set, suc, sym, true, zero, ℕ, ◌++◌, ◌+◌, ◌==◌, ◌∙◌, ◌∷◌, ◌≡◌, ◌≤◌, length, ap}
use lib.ListN.{get_elem?}
use mathlib.Core.Option.{some, some-injective, some-ne-none}
use Rattle.model_core.specs.{after_link, answered, can_close, can_link, changes, entries, entries_from, Entry, flusher_took, FlusherState, has_passed, has_room, has_space, heard, Line, mode, old_of, sum_of, tail_of, to_next_page, user_took, UserState, with_mark, writer_took, WriterState}
use Rattle.model_core.specs.States as model
use Rattle.model_core.specs.UserProgram.{with_close_room, with_link_room, without_close_room, without_link_room}
use Rattle.model_core.specs.declared.ops.Answer.{Answer}
use Rattle.model_core.specs.declared.ops.Answer.TheVariants as answer
use Rattle.model_core.specs.declared.steps.AdvanceStep.TheVariants as advance_step
use Rattle.model_core.specs.declared.steps.FlusherStep.{FlusherStep}
use Rattle.model_core.specs.declared.steps.FlusherStep.TheVariants as flusher_step
use Rattle.model_core.specs.declared.steps.UserStep.{UserStep}
use Rattle.model_core.specs.declared.steps.UserStep.TheVariants as user_step
use Rattle.model_core.specs.declared.steps.WriterStep.{WriterStep}
use Rattle.model_core.specs.declared.steps.WriterStep.TheVariants as writer_step
use Rattle.model_logcore.specs.{sum_over_actors}
use Rattle.model_own.specs.{all_actors, LogWork, OwnUser, after_flusher, after_writer, errand_took, keeps_helped, loads_again, own_checked, own_goes_on, own_stepped, sets_out, written}
use Rattle.model_own.specs.declared.errand.ErrandStep.{ErrandStep}
use Rattle.model_own.specs.declared.errand.ErrandStep.TheVariants as errand_step
use Rattle.model_ownrun.proofs.OwnSeats.{own_same}

-- it has begun more groups, or none
abbrev More : UserState → UserState → Type 0
More u v = (more : List ℕ) × (v.starts ≡ u.starts ++ more)

still : (u : UserState) → More u u
still u = ([], sym (append-nil u.starts))

by : (u : UserState) (b : Bool) (x y : UserState) → More u x → More u y → More u (cond b x y)
by u true x y h k = h
by u false x y h k = k

link_more : (u : UserState) → More u (after_link u)
link_more u = by u (mode u == 0) (answered u) (record u { step = user_step.AwaitMark }) (still u) (still u)

took_more : (u : UserState) (n : ℕ) (f : UserStep) → More u (user_took u n f)
took_more u n user_step.Reserve = (n ∷ [], refl)
took_more u n user_step.LoadSn = by u (has_space u n) (record u {
  page = 0;
  cell = 0;
  step = cond (length (changes u) == 0) user_step.Reserve user_step.TakeLatch;
}) (record u { checks = true; step = user_step.LoadCheckpoint }) (still u) (still u)
took_more u n user_step.TakeLatch = by u (n == 0) (record u {
  page = u.page + 1;
  step = cond (u.page + 1 == length (changes u)) user_step.Reserve user_step.TakeLatch;
}) (record u { checks = true; step = user_step.TakeLatch }) (still u) (still u)
took_more u n user_step.LoadWrite = by u (has_room u n)
    (record u { loaded = record u.loaded { write = n }; step = user_step.AddCell })
    (record u { loaded = record u.loaded { write = n }; checks = true; step = user_step.LoadWrite }) (still u) (still u)
took_more u n user_step.LoadWtail = by u (can_link u (tail_of n)) (with_link_room u n)
    (without_link_room u n false (user_step.AdvanceWritten advance_step.LoadTail)) (still u) (still u)
took_more u n user_step.ReloadWtail = by u (can_link u (tail_of n)) (with_link_room u n)
    (without_link_room u n true user_step.LoadWtail) (still u) (still u)
took_more u n user_step.StoreLink = by u (length (changes u) == 0) (after_link u)
    (record u { step = user_step.LoadCtail }) (link_more u) (still u)
took_more u n user_step.LoadCtail = by u (can_close u (tail_of n)) (with_close_room u n)
    (without_close_room u n false (user_step.AdvanceClosed advance_step.LoadTail)) (still u) (still u)
took_more u n user_step.ReloadCtail = by u (can_close u (tail_of n)) (with_close_room u n)
    (without_close_room u n true user_step.LoadCtail) (still u) (still u)
took_more u n user_step.LoadOldest = by u (n == 0) (record u { step = user_step.AddToList }) (to_next_page u) (still u)
    (still u)
took_more u n user_step.ReleaseLatch = by u (u.page + 1 == length (changes u)) (after_link u)
    (record u { page = u.page + 1; step = user_step.ReleaseLatch }) (link_more u) (still u)
took_more u n user_step.AwaitMark = by u (has_passed u n) (answered (record u { loaded = with_mark u n }))
    (record u { loaded = with_mark u n; checks = true; step = user_step.AwaitMark }) (still u) (still u)
took_more u n _ = still u

module _ (o : OwnUser) (k : LogWork) where
  abbrev Begun : OwnUser → Type 0
  Begun x = More o.user x.user

  abbrev same : Begun o
  same = still o.user

  either : (b : Bool) (x y : OwnUser × LogWork) → Begun x.0 → Begun y.0 → Begun (cond b x y).0
  either true x y p q = p
  either false x y p q = q

  one_of : (b : Bool) (x y : OwnUser) → Begun x → Begun y → Begun (cond b x y)
  one_of true x y p q = p
  one_of false x y p q = q

  waits_more : (s : WriterState) → Begun (cond s.checks (written o k s) (o, record k { writer = s })).0
  waits_more s = either s.checks (written o k s) (o, record k { writer = s }) same same

  writer_more : (s : WriterState) (st : WriterStep) → Begun (after_writer o k s st).0
  writer_more s (writer_step.Advance v) = waits_more s
  writer_more s writer_step.LoadCheckpoint = waits_more s
  writer_more s _ = same

  flusher_more : (f : FlusherState) (st : FlusherStep) → Begun (after_flusher o k f st).0
  flusher_more f flusher_step.LoadWrite = same
  flusher_more f flusher_step.Failed = same
  flusher_more f _ = same

  take_more : (a : Answer) → Begun (errand_took o k a errand_step.TakeDevice).0
  take_more (answer.Taken n) = same
  take_more answer.Broken = same
  take_more _ = same

  stepped_more : (n : ℕ) → Begun (own_stepped o n)
  stepped_more n =
      let then : UserState = user_took o.user n o.user.step in
      let more = took_more o.user n o.user.step in
      one_of (sets_out o n)
      (record o {
        user = record then { checks = false; step = loads_again then.step };
        errand = errand_step.TakeDevice;
      })
      (record o { user = then; helped = cond (keeps_helped o.user.step) o.helped false }) more more

  errand_more : (a : Answer) (x : ErrandStep) → Begun (errand_took o k a x).0
  errand_more a errand_step.Done = stepped_more (heard a)
  errand_more a errand_step.TakeDevice = take_more a
  errand_more a errand_step.GiveBroken = same
  errand_more a errand_step.Write = writer_more (writer_took k.writer a k.writer.step)
      (writer_took k.writer a k.writer.step).step
  errand_more a errand_step.Flush = flusher_more (flusher_took k.flusher a k.flusher.step)
      (flusher_took k.flusher a k.flusher.step).step

  checked_more : (n : ℕ) → Begun (own_checked o n)
  checked_more n = by_code (n == 0)
    where
      by_code : (b : Bool) → Begun (record o {
        user = cond b (record o.user { checks = false })
            (record o.user { checks = false; code = n; step = user_step.Failed });
        errand = cond b o.errand errand_step.Done;
      })
      by_code true = same
      by_code false = same

  own_more : (a : Answer) → Begun (own_goes_on o k a).0
  own_more a = either o.user.checks (own_checked o (old_of a), k) (errand_took o k a o.errand) (checked_more (old_of a))
      (errand_more a o.errand)

-- so each number of its groups has a sum that is no less
from_more : (h : Entry → ℕ) (user : ℕ) (lines : List Line) (k : ℕ) (starts more : List ℕ)
    → sum_of h (entries_from user lines k starts) ≤ sum_of h (entries_from user lines k (starts ++ more))
from_more h user lines k [] more = omega arith
from_more h user lines k (s ∷ ss) more = let r = from_more h user lines (k + 1) ss more in omega arith

abbrev pub groups_sum : (Entry → ℕ) → model.Actor → ℕ
groups_sum h a = sum_of h (entries a)

pub no_fewer : (h : Entry → ℕ) (o : OwnUser) (k : LogWork) (a : Answer)
    → groups_sum h (model.User o.user) ≤ groups_sum h (model.User (own_goes_on o k a).0.user)
no_fewer h o k a =
    let more = own_more o k a in
    let kept = own_same o k a in
    let then : UserState = (own_goes_on o k a).0.user in
    let grown = from_more h o.user.user o.user.lines 0 o.user.starts more.0 in
    let user : sum_of h (entries_from then.user then.lines 0 then.starts)
    ≡ sum_of h (entries_from o.user.user o.user.lines 0 (o.user.starts ++ more.0)) =
    ap (λ (n : ℕ). sum_of h (entries_from n then.lines 0 then.starts)) kept.0
    ∙ ap (λ (l : List Line). sum_of h (entries_from o.user.user l 0 then.starts)) kept.1
    ∙ ap (λ (l : List ℕ). sum_of h (entries_from o.user.user o.user.lines 0 l)) more.1 in
    omega arith

-- nor do all actors have fewer
module _ (h : Entry → ℕ) (k left : LogWork) (os : List model.Actor) where
  abbrev sums : LogWork → List OwnUser → ℕ
  sums w users = sum_over_actors (groups_sum h) (all_actors users w os)

  work_aside : (users : List OwnUser) → sums left users ≡ sums k users
  work_aside [] = refl
  work_aside (x ∷ xs) = ap (λ (n : ℕ). groups_sum h (model.User x.user) + n) (work_aside xs)

  pub all_no_fewer : (users : List OwnUser) (seat : ℕ) (o x : OwnUser) → get_elem? users seat ≡ some o
      → groups_sum h (model.User o.user) ≤ groups_sum h (model.User x.user) → sums k users ≤ sums left (set users seat x)
  all_no_fewer [] seat o x at more = absurd (some-ne-none o (sym at))
  all_no_fewer (y ∷ ys) zero o x at more =
      let same = work_aside ys in
      let who : groups_sum h (model.User y.user) ≡ groups_sum h (model.User o.user) =
      ap (λ (z : OwnUser). groups_sum h (model.User z.user)) (some-injective y o at) in
      omega arith
  all_no_fewer (y ∷ ys) (suc seat) o x at more = let r = all_no_fewer ys seat o x at more in omega arith
