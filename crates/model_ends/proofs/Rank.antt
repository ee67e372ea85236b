-- What is left to do of a run with the log alone, as one number, and what a turn in which nothing falls leaves of the help.
use Rattle.std.proofs.Common.{Bool, List, [], ap, arith, cond, eq-eqb, eqb, false, inl, inr, ne_eqb, refl, set, subst, suc, sym, true, zero, ℕ, ⊎_elim, ◌+◌, ◌<◌, ◌==◌, ◌∙◌, ◌∷◌, ◌≡◌, ◌≢◌, ◌≤◌, ◌⊎◌}
use lib.ListN.{get_elem?}
use mathlib.Core.Option.{some, some-injective, some-ne-none}
use native.Mathlib.Decide.{ℕ_discrete}
use Rattle.model_core.proofs.Lists.{set_at, set_else}
use Rattle.model_core.specs.{Actor, has_passed, mode, read, SharedWords, UserState, WriterState, FlusherState}
use Rattle.model_core.specs.declared.steps.FlusherStep.{FlusherStep}
use Rattle.model_core.specs.declared.steps.UserStep.{UserStep}
use Rattle.model_core.specs.declared.steps.WriterStep.{WriterStep}
use Rattle.model_logcore.proofs.Frame.{total_set}
use Rattle.model_logcore.specs.{sum_over_actors}
use Rattle.model_running.specs.Schedule.{HasEnded, HaveEnded}
use Rattle.model_ends.proofs.Cost.{cost, user_part, words_cost}
use Rattle.model_ends.proofs.Helpers.{Found, Helper, takes_low, tries_few}
use Rattle.model_ends.proofs.Outcome.{Can, Falls, FlusherCan, HasLinkFree, HasTold, IsAtFree, IsOpen, IsOpenStep, leaves, Takes, takes_in, tries, UserCan, Waits, WriterCan, WriterTakes}
use Rattle.model_ends.proofs.Sizes.{sum_less}
use Rattle.model_core.specs.States as actor
use Rattle.model_core.specs.declared.steps.AdvanceStep.TheVariants as advance_step
use Rattle.model_core.specs.declared.steps.FlusherStep.TheVariants as flusher_step
use Rattle.model_core.specs.declared.steps.UserStep.TheVariants as user_step
use Rattle.model_core.specs.declared.steps.WriterStep.TheVariants as writer_step
use Rattle.model_core.specs.declared.words.Word.TheVariants as word

-- while FAILED is 0, of all actors and the words, and the store of a code counts one; then of the users and the words
abbrev pub rank : ℕ → SharedWords → List Actor → ℕ
rank last m actors = cond (eqb m.failed 0) (suc (sum_over_actors (cost last) actors + words_cost last m)) (sum_over_actors user_part actors + words_cost last m)

pub rank_sound : (last : ℕ) (m : SharedWords) (actors : List Actor) → m.failed ≡ 0 → rank last m actors ≡ suc (sum_over_actors (cost last) actors + words_cost last m)
rank_sound last m actors is = ap (λ (b : Bool). cond b (suc (sum_over_actors (cost last) actors + words_cost last m)) (sum_over_actors user_part actors + words_cost last m)) (eq-eqb m.failed 0 is)

pub rank_failed : (last : ℕ) (m : SharedWords) (actors : List Actor) → 0 < m.failed → rank last m actors ≡ sum_over_actors user_part actors + words_cost last m
rank_failed last m actors has = ap (λ (b : Bool). cond b (suc (sum_over_actors (cost last) actors + words_cost last m)) (sum_over_actors user_part actors + words_cost last m)) (ne_eqb m.failed 0 (λ e. omega arith))

part_cost : (last : ℕ) (a : Actor) → user_part a ≤ cost last a
part_cost last (actor.User u) = omega arith
part_cost last _ = omega arith

pub parts_cost : (last : ℕ) (actors : List Actor) → sum_over_actors user_part actors ≤ sum_over_actors (cost last) actors
parts_cost last actors = sum_less user_part (cost last) actors (λ i a at. part_cost last a)

pub rank_most : (last : ℕ) (m : SharedWords) (actors : List Actor) → rank last m actors ≤ suc (sum_over_actors (cost last) actors + words_cost last m)
rank_most last m actors = by (eqb m.failed 0)
  where
    by : (b : Bool) → cond b (suc (sum_over_actors (cost last) actors + words_cost last m)) (sum_over_actors user_part actors + words_cost last m) ≤ suc (sum_over_actors (cost last) actors + words_cost last m)
    by true = omega arith
    by false = let z = parts_cost last actors in omega arith

-- whether WTAIL is held says nothing of what an actor waits for
module _ (m : SharedWords) (x : Bool) where
  abbrev held_so : SharedWords
  held_so = record m { wheld = x }

  marked : (u : UserState) (b : Bool) → has_passed u (read m (cond b word.Flushed word.Write)) ≡ true → has_passed u (read held_so (cond b word.Flushed word.Write)) ≡ true
  marked u true z = z
  marked u false z = z

  user_can : (u : UserState) (f : UserStep) → UserCan m u f → UserCan held_so u f
  user_can u user_step.AwaitMark z = marked u (mode u == 1) z
  user_can u (user_step.AdvanceWritten advance_step.LoadTail) z = z
  user_can u _ z = z

  writer_can : (s : WriterState) (f : WriterStep) → WriterCan m s f → WriterCan held_so s f
  writer_can s (writer_step.Advance advance_step.LoadTail) z = z
  writer_can s _ z = z

  flusher_can : (t : FlusherState) (f : FlusherStep) → FlusherCan m t f → FlusherCan held_so t f
  flusher_can t flusher_step.LoadWrite z = z
  flusher_can t _ z = z

  can_later : (a : Actor) → Can m a → Can held_so a
  can_later (actor.User u) z = user_can u u.step z
  can_later (actor.Writer s) z = writer_can s s.step z
  can_later (actor.Flusher t) z = flusher_can t t.step z
  can_later _ z = absurd z

  writer_takes : x ≡ false → (s : WriterState) (f : WriterStep) → WriterTakes m s f → WriterTakes held_so s f
  writer_takes free s (writer_step.Advance advance_step.LoadTail) z = (free, z.1)
  writer_takes free s (writer_step.Advance advance_step.TakeTail) z = ((free, z.0.1), z.1)
  writer_takes free s _ z = absurd z

  takes_later : x ≡ false → (a : Actor) → Takes m a → Takes held_so a
  takes_later free (actor.Writer s) z = writer_takes free s s.step z
  takes_later free (actor.User s) z = absurd z
  takes_later free (actor.Flusher s) z = absurd z
  takes_later free (actor.Closer s) z = absurd z
  takes_later free (actor.Cleaner s) z = absurd z
  takes_later free (actor.Checkpointer s) z = absurd z
  takes_later free (actor.Reader s) z = absurd z

writer_link : (m : SharedWords) (s : WriterState) (f : WriterStep) → WriterTakes m s f → HasLinkFree m
writer_link m s (writer_step.Advance advance_step.LoadTail) z = z
writer_link m s (writer_step.Advance advance_step.TakeTail) z = z.0
writer_link m s _ z = absurd z

takes_link : (m : SharedWords) (a : Actor) → Takes m a → HasLinkFree m
takes_link m (actor.Writer s) z = writer_link m s s.step z
takes_link m _ z = absurd z

-- each user has ended, or one hasn't
step_open : (f : UserStep) → ((f ≡ user_step.Done) ⊎ (f ≡ user_step.Failed)) ⊎ IsOpenStep f
step_open user_step.Done = inl (inl refl)
step_open user_step.Failed = inl (inr refl)
step_open _ = inr tt

pub open_or : (actors : List Actor) → HaveEnded actors ⊎ ((seat : ℕ) × (u : UserState) × (get_elem? actors seat ≡ some (actor.User u)) × IsOpenStep u.step)
open_or [] = inl (λ seat u at. absurd (some-ne-none (actor.User u) (sym at)))
open_or (x ∷ xs) = ⊎_elim (λ ended. by x ended) (λ r. inr (suc r.0, r.1, r.2, r.3)) (open_or xs)
  where
    Either : Actor → Type 0
    Either y = HaveEnded (y ∷ xs) ⊎ ((seat : ℕ) × (u : UserState) × (get_elem? (y ∷ xs) seat ≡ some (actor.User u)) × IsOpenStep u.step)

    other : (y : Actor) → ((u : UserState) → y ≡ actor.User u → HasEnded u) → HaveEnded xs → HaveEnded (y ∷ xs)
    other y here ended zero u at = here u (some-injective y (actor.User u) at)
    other y here ended (suc i) u at = ended i u at

    by : (y : Actor) → HaveEnded xs → HaveEnded (y ∷ xs) ⊎ ((seat : ℕ) × (u : UserState) × (get_elem? (y ∷ xs) seat ≡ some (actor.User u)) × IsOpenStep u.step)
    by (actor.User v) ended = ⊎_elim (λ done. inl (other (actor.User v) (λ u e. let same : v ≡ u = cc in subst HasEnded same done) ended)) (λ live. inr (0, v, refl, live)) (step_open v.step)
    by (actor.Writer v) ended = inl (other (actor.Writer v) (λ u e. absurd (cc)) ended)
    by (actor.Flusher v) ended = inl (other (actor.Flusher v) (λ u e. absurd (cc)) ended)
    by (actor.Closer v) ended = inl (other (actor.Closer v) (λ u e. absurd (cc)) ended)
    by (actor.Cleaner v) ended = inl (other (actor.Cleaner v) (λ u e. absurd (cc)) ended)
    by (actor.Checkpointer v) ended = inl (other (actor.Checkpointer v) (λ u e. absurd (cc)) ended)
    by (actor.Reader v) ended = inl (other (actor.Reader v) (λ u e. absurd (cc)) ended)

-- A TURN OF THE ACTOR AT A SEAT
module _ (last : ℕ) (m after : SharedWords) (actors : List Actor) (seat : ℕ) (a b : Actor) (at : get_elem? actors seat ≡ some a) where
  abbrev pub then : List Actor
  then = set actors seat b

  there : get_elem? then seat ≡ some b
  there = set_at actors seat a b at

  -- another one helps, nearer to that; or the same one, whose turn it wasn't
  abbrev pub IsNearer : Helper m actors → Helper after then → Type 0
  IsNearer H K = (K.weight < H.weight) ⊎ ((K.weight ≤ H.weight) × (K.seat ≡ H.seat) × (H.seat ≢ seat))

  abbrev pub Goes : Helper m actors → Type 0
  Goes H = (rank last after then < rank last m actors) ⊎ ((rank last after then ≤ rank last m actors) × (HaveEnded then ⊎ ((K : Helper after then) × IsNearer H K)))

  costs : sum_over_actors (cost last) then + cost last a ≡ sum_over_actors (cost last) actors + cost last b
  costs = total_set (cost last) actors seat a b at

  parts : sum_over_actors user_part then + user_part a ≡ sum_over_actors user_part actors + user_part b
  parts = total_set user_part actors seat a b at

  same_who : (H : Helper m actors) → H.seat ≡ seat → ◌≡◌ {A = Actor} H.who a
  same_who H e = let here : get_elem? actors seat ≡ some H.who = subst (λ (k : ℕ). get_elem? actors k ≡ some H.who) e H.at in some-injective H.who a (sym here ∙ at)

  -- it falls, while FAILED is 0
  pub sound_falls : m.failed ≡ 0 → Falls last m after a b → rank last after then < rank last m actors
  sound_falls sound less = let z = costs in let y = rank_most last after then in let x = rank_sound last m actors sound in omega arith

  pub tells : m.failed ≡ 0 → HasTold last m after a b → rank last after then < rank last m actors
  tells sound h = let z = parts in let y = rank_failed last after then h.0 in let x = rank_sound last m actors sound in let w = parts_cost last actors in let v = h.1 in let u = h.2 in omega arith

  pub failed_falls : 0 < m.failed → 0 < after.failed → user_part b + words_cost last after < user_part a + words_cost last m → rank last after then < rank last m actors
  failed_falls was is less = let z = parts in let y = rank_failed last after then is in let x = rank_failed last m actors was in omega arith

  failed_no_more : 0 < m.failed → 0 < after.failed → user_part b ≤ user_part a → words_cost last after ≤ words_cost last m → rank last after then ≤ rank last m actors
  failed_no_more was is le words = let z = parts in let y = rank_failed last after then is in let x = rank_failed last m actors was in omega arith

  -- an actor that helps after a turn
  abbrev helps_by : (j : ℕ) (who : Actor) → get_elem? then j ≡ some who → after.failed ≡ 0 → Can after who → Helper after then
  helps_by j who is sound can = record { seat = j; who = who; at = is; weight = tries who; help = inl (sound, inl (can, omega arith)); light = (let z = tries_few who in omega arith) }

  abbrev takes_by : (j : ℕ) (who : Actor) → get_elem? then j ≡ some who → after.failed ≡ 0 → Takes after who → Helper after then
  takes_by j who is sound takes = record { seat = j; who = who; at = is; weight = 10 + takes_in who; help = inl (sound, inr (inl (takes, omega arith))); light = (let z = takes_low who in omega arith) }

  module _ (H : Helper m actors) (W : Waits last m after a b) (again : HaveEnded then ⊎ Found after then) where
    words_same : words_cost last after ≡ words_cost last m
    words_same = ap (words_cost last) W.words

    failed_same : after.failed ≡ m.failed
    failed_same = ap (λ (w : SharedWords). w.failed) W.words

    later_can : (who : Actor) → Can m who → Can after who
    later_can who can = subst (λ (w : SharedWords). Can w who) (sym W.words) (can_later m after.wheld who can)

    later_takes : (who : Actor) → after.wheld ≡ false → Takes m who → Takes after who
    later_takes who free takes = subst (λ (w : SharedWords). Takes w who) (sym W.words) (takes_later m after.wheld free who takes)

    abbrev Next : Type 0
    Next = HaveEnded then ⊎ ((K : Helper after then) × IsNearer H K)

    module _ (sound : m.failed ≡ 0) where
      still_sound : after.failed ≡ 0
      still_sound = failed_same ∙ sound

      -- its own turn
      own_can : H.seat ≡ seat → Can m H.who → tries H.who ≤ H.weight → Next
      own_can e can le = let same = same_who H e in let k = W.nearer (subst (Can m) same can) in let t = ap tries same in let less = k.1 in inr (helps_by seat b there still_sound k.0, inl (omega arith))

      own_takes : H.seat ≡ seat → Takes m H.who → 10 + takes_in H.who ≤ H.weight → Next
      own_takes e takes le = let same = same_who H e in let t = ap takes_in same in ⊎_elim
          (λ can. inr (helps_by seat b there still_sound can, inl (let z = tries_few b in omega arith)))
          (λ k. let less = k.1 in inr (takes_by seat b there still_sound k.0, inl (omega arith)))
          (W.taking (subst (Takes m) same takes))

      own_free : H.seat ≡ seat → IsAtFree H.who → 20 ≤ H.weight → Next
      own_free e free le = let now = W.freeing (subst IsAtFree (same_who H e) free) in ⊎_elim (λ ended. inl ended) (λ found. inr (found.helper, inl (let z = found.by_free now in omega arith))) again

      -- another one's
      module _ (n : H.seat ≢ seat) where
        stands : get_elem? then H.seat ≡ some H.who
        stands = set_else actors seat H.seat b n ∙ H.at

        other_can : Can m H.who → tries H.who ≤ H.weight → Next
        other_can can le = inr (helps_by H.seat H.who stands still_sound (later_can H.who can), inr (le, refl, n))

        other_takes : Takes m H.who → 10 + takes_in H.who ≤ H.weight → Next
        other_takes takes le =
            let link = takes_link m H.who takes in
            let goes_on : after.wheld ≡ false → Next = (λ free. inr (takes_by H.seat H.who stands still_sound (later_takes H.who free takes), inr (le, refl, n))) in
            ⊎_elim (λ same. goes_on (same ∙ link.0))
            (⊎_elim (λ took_it. inr (helps_by seat b there still_sound (took_it.1 link.1), inl (let z = tries_few b in omega arith))) goes_on) W.tail

        other_free : IsAtFree H.who → 20 ≤ H.weight → Next
        other_free free le = inr (record { seat = H.seat; who = H.who; at = stands; weight = H.weight; help = inl (still_sound, inr (inr (free, le))); light = H.light }, inr (omega arith, refl, n))

      sound_next : Next
      sound_next = elim (ℕ_discrete H.seat seat) [
        | yes e ↦ ⊎_elim (λ z. ⊎_elim (λ can. own_can e can.0 can.1) (⊎_elim (λ takes. own_takes e takes.0 takes.1) (λ free. own_free e free.0 free.1)) z.1) (λ z. absurd (let y = z.0 in omega arith)) H.help
        | no n ↦ ⊎_elim (λ z. ⊎_elim (λ can. other_can n can.0 can.1) (⊎_elim (λ takes. other_takes n takes.0 takes.1) (λ free. other_free n free.0 free.1)) z.1) (λ z. absurd (let y = z.0 in omega arith)) H.help
      ]

      pub sound_waits : Goes H
      sound_waits = inr ((let z = costs in let y = rank_sound last after then still_sound in let x = rank_sound last m actors sound in let w = words_same in let v = W.same_cost in omega arith), sound_next)

  -- once FAILED has a code
  module _ (H : Helper m actors) (was : 0 < m.failed) (is : 0 < after.failed) where
    leaving_else : H.seat ≢ seat → IsOpen H.who → leaves H.who ≤ H.weight → HaveEnded then ⊎ ((K : Helper after then) × IsNearer H K)
    leaving_else n live le = inr (record { seat = H.seat; who = H.who; at = set_else actors seat H.seat b n ∙ H.at; weight = H.weight; help = inr (is, live, le); light = H.light }, inr (omega arith, refl, n))

    pub failed_waits : Waits last m after a b → user_part b ≤ user_part a → Goes H
    failed_waits W le = inr (
      failed_no_more was is le (let z : words_cost last after ≡ words_cost last m = ap (words_cost last) W.words in omega arith),
      ⊎_elim (λ z. absurd (let y = z.0 in omega arith)) (λ z. elim (ℕ_discrete H.seat seat) [
        | yes e ↦ (
            let same = same_who H e in
            let k = W.leaving was (subst IsOpen same z.1) in
            let t = ap leaves same in
            let less = k.1 in
            let low = z.2 in
            let light = H.light in
            inr (record { seat = seat; who = b; at = there; weight = leaves b; help = inr (is, k.0, omega arith); light = omega arith }, inl (omega arith)))
        | no n ↦ leaving_else n z.1 z.2
      ]) H.help,
    )

    -- of an actor that is no user
    pub failed_other : (IsOpen a → ⊥) → user_part b ≤ user_part a → words_cost last after ≤ words_cost last m → Goes H
    failed_other none le words = inr (
      failed_no_more was is le words,
      ⊎_elim (λ z. absurd (let y = z.0 in omega arith)) (λ z. elim (ℕ_discrete H.seat seat) [
        | yes e ↦ absurd (none (subst IsOpen (same_who H e) z.1))
        | no n ↦ leaving_else n z.1 z.2
      ]) H.help,
    )
