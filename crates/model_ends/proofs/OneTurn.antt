-- A turn of a running store with the log alone: something falls, or its users have ended, or somebody helps, and is nearer to
-- that.
use Rattle.std.proofs.Common.{Bool, List, ap, arith, cond, false, inl, inr, set, subst, sym, true, ℕ, ⊎_elim, ◌+◌, ◌<◌, ◌≡◌, ◌≤◌, ◌⊎◌}
use lib.ListN.{get_elem?}
use mathlib.Core.Option.{some}
use native.Mathlib.Decide.{dec_le}
use Rattle.model_core.proofs.Later.{took_later}
use Rattle.model_core.proofs.Lsns.{lsn_le}
use Rattle.model_core.specs.{Actor, Listed, lsn, next, shared_answer, shared_left, SharedWords, took, UserState, IsSameActor, DataSide, LogSide, Setup}
use Rattle.model_core.specs.declared.steps.UserStep.{UserStep}
use Rattle.model_logcore.specs.{FlusherFits, LogGhost, UserFits, WriterFits}
use Rattle.model_logcore.specs.LogLaws.{LogLaws}
use Rattle.model_pagecore.specs.{PageGhost}
use Rattle.model_running.specs.Watermarks.{BothHalves}
use Rattle.model_running.specs.Schedule.{HaveEnded}
use Rattle.model_ends.proofs.Cost.{cost, user_part, words_cost}
use Rattle.model_ends.proofs.FlusherTurns.{flusher_turns, flusher_words, writer_words}
use Rattle.model_ends.proofs.Further.{Further, FlusherTold, is_log, UserTold, WriterTold}
use Rattle.model_ends.proofs.FurtherKeeps.{no_page, part_sound}
use Rattle.model_ends.proofs.Helpers.{Found, Helper}
use Rattle.model_ends.proofs.Helps.{sound_helps}
use Rattle.model_ends.proofs.Outcome.{IsOpenStep, Outcome, Settled, user_leaves}
use Rattle.model_ends.proofs.Rank.{failed_falls, failed_other, failed_waits, Goes, sound_falls, sound_waits, tells}
use Rattle.model_ends.proofs.Sizes.{HasRoomFor, sn_within, user_space, writer_space}
use Rattle.model_ends.proofs.UserTurns.{user_turns}
use Rattle.model_ends.proofs.WriterTurns.{writer_turns}
use Rattle.model_ends.specs.Bound.{last_lsn}
use Rattle.model_core.specs.States as actor
use Rattle.model_core.specs.declared.steps.AdvanceStep.TheVariants as advance_step
use Rattle.model_core.specs.declared.steps.UserStep.TheVariants as user_step

-- an actor that is no user stays none
no_part : (a b : Actor) → IsSameActor a b → user_part a ≡ 0 → ((u : UserState) → a ≡ actor.User u → ⊥) → user_part b ≡ 0
no_part (actor.User u) b is none other = absurd (other u (λ i. actor.User u))
no_part _ b is none other = ap user_part is.1

module _ (D : LogSide) (E : DataSide) (c : Setup) (alone : c.log_only ≡ true) (L : LogLaws D) where
  module _ (m : SharedWords) (g : LogGhost) (h : PageGhost) (ls : ℕ → List Listed) (p : D.Part) (d : E.Part) (actors : List Actor) (both : BothHalves D E c m g h ls p d actors) (F : Further D c m p actors) where
    -- while a user hasn't ended, somebody helps
    pub helped : (seat : ℕ) (u : UserState) → get_elem? actors seat ≡ some (actor.User u) → IsOpenStep u.step → Found m actors
    helped seat u at live = elim (dec_le 1 m.failed) [
      | yes failed ↦ record {
        helper = record { seat = seat; who = actor.User u; at = at; weight = 7; help = inr (failed, live, few_leaves u.checks u.step); light = omega arith };
        by_free = λ _. omega arith;
      }
      | no sound ↦ sound_helps D c m g p actors both.logged F (omega arith) seat u at live
    ]
      where
        few_leaves : (b : Bool) (f : UserStep) → cond b 1 (user_leaves f) ≤ 7
        few_leaves true f = omega arith
        few_leaves false (user_step.AdvanceWritten advance_step.LoadTail) = omega arith
        few_leaves false _ = omega arith

    module _ (last : ℕ) (last_is : last_lsn c actors ≡ last) (room : HasRoomFor c last) (seat : ℕ) (code mark : ℕ) where
      abbrev to : Actor → SharedWords
      to a = shared_left m (next a)

      abbrev becomes : Actor → Actor
      becomes a = took a (shared_answer ls (D.failed p) code mark m (next a))

      low : lsn m.sn ≤ last
      low = let z = sn_within D c m g p actors both.logged in omega arith

      of_user : (u : UserState) → get_elem? actors seat ≡ some (actor.User u) → Settled last m (to (actor.User u)) (actor.User u) (becomes (actor.User u))
      of_user u at =
          let fits : UserFits D c m g p seat u = both.logged.each seat (actor.User u) at in
          let told : UserTold c u u.step = F.each seat (actor.User u) at in
          user_turns D c m g p actors seat u both.logged last low (no_page D L E c m g h ls p d actors both alone F seat u at) ls (D.failed p) code mark fits.step (is_log c u u.step told)
          (λ is. user_space c last (lsn m.sn) u.loaded.ckpt u.blocks room low (subst (UserTold c u) is told) fits.blocks)

      -- while FAILED is 0
      sound_turn : (a : Actor) → get_elem? actors seat ≡ some a → m.failed ≡ 0 → Outcome last m (to a) a (becomes a)
      sound_turn (actor.User u) at sound = ⊎_elim (λ z. inl z) (λ z. inr (inl z)) (of_user u at)
      sound_turn (actor.Writer s) at sound =
          let fits : WriterFits D c m g p seat s = both.logged.each seat (actor.Writer s) at in
          let told : WriterTold m.failed s s.step = F.each seat (actor.Writer s) at in
          let O = both.logged.global.order in
          let target = fits.tail in
          let up = lsn_le g.target m.sn (let x = O.target_wtail in let y = O.wtail_tail in let z = O.tail_sn in omega arith) in
          let top = low in
          writer_turns D c m g p actors seat s both.logged fits last low sound ls (D.failed p) code mark
          (λ _. writer_space c last s m.ckpt room (omega arith) (both.stays alone) fits.blocks) (λ is. subst (WriterTold m.failed s) is told) (part_sound D L E c m g h ls p d actors both alone F sound)
      sound_turn (actor.Flusher t) at sound =
          let fits : FlusherFits D c m g p seat t = both.logged.each seat (actor.Flusher t) at in
          let told : FlusherTold m.failed t t.step = F.each seat (actor.Flusher t) at in
          let P = both.logged.global.part in
          let a1 = P.stable_written in let a2 = P.written_wtail in
          let O = both.logged.global.order in
          let w = O.wtail_is in
          let up = lsn_le g.wtail m.sn (let y = O.wtail_tail in let z = O.tail_sn in omega arith) in
          let top = low in
          flusher_turns D c m g p t last (omega arith) sound ls (D.failed p) code mark fits.step (λ is. subst (FlusherTold m.failed t) is told) (λ is. subst (FlusherTold m.failed t) is told sound) (part_sound D L E c m g h ls p d actors both alone F sound)
      sound_turn (actor.Closer s) at sound = absurd (F.each seat (actor.Closer s) at)
      sound_turn (actor.Cleaner s) at sound = absurd (F.each seat (actor.Cleaner s) at)
      sound_turn (actor.Checkpointer s) at sound = absurd (F.each seat (actor.Checkpointer s) at)
      sound_turn (actor.Reader s) at sound = absurd (F.each seat (actor.Reader s) at)

      module _ (H : Helper m actors) where
        abbrev GoesOn : Actor → Type 0
        GoesOn a = (at : get_elem? actors seat ≡ some a) → (0 < (to a).failed) → Goes last m (to a) actors seat a (becomes a) at H

        -- once FAILED has a code
        failed_turn : 0 < m.failed → (a : Actor) → GoesOn a
        failed_turn was (actor.User u) at is = ⊎_elim
            (λ falls. inl (failed_falls last m (to (actor.User u)) actors seat (actor.User u) (becomes (actor.User u)) at was is (user_less (took_later (actor.User u) (shared_answer ls (D.failed p) code mark m (next (actor.User u)))) falls)))
            (λ waits. failed_waits last m (to (actor.User u)) actors seat (actor.User u) (becomes (actor.User u)) at H was is waits (user_less_cost (took_later (actor.User u) (shared_answer ls (D.failed p) code mark m (next (actor.User u)))) waits.same_cost))
            (of_user u at)
          where
            user_less : IsSameActor (actor.User u) (becomes (actor.User u)) → cost last (becomes (actor.User u)) + words_cost last (to (actor.User u)) < cost last (actor.User u) + words_cost last m → user_part (becomes (actor.User u)) + words_cost last (to (actor.User u)) < user_part (actor.User u) + words_cost last m
            user_less later = subst (λ (x : Actor). cost last x + words_cost last (to (actor.User u)) < cost last (actor.User u) + words_cost last m → user_part x + words_cost last (to (actor.User u)) < user_part (actor.User u) + words_cost last m) (sym later.1) (λ z. z)

            user_less_cost : IsSameActor (actor.User u) (becomes (actor.User u)) → cost last (becomes (actor.User u)) ≤ cost last (actor.User u) → user_part (becomes (actor.User u)) ≤ user_part (actor.User u)
            user_less_cost later = subst (λ (x : Actor). cost last x ≤ cost last (actor.User u) → user_part x ≤ user_part (actor.User u)) (sym later.1) (λ z. z)
        failed_turn was (actor.Writer s) at is =
            let fits : WriterFits D c m g p seat s = both.logged.each seat (actor.Writer s) at in
            let none = no_part (actor.Writer s) (becomes (actor.Writer s)) (took_later (actor.Writer s) (shared_answer ls (D.failed p) code mark m (next (actor.Writer s)))) (omega arith) (λ u e. absurd (cc)) in
            failed_other last m (to (actor.Writer s)) actors seat (actor.Writer s) (becomes (actor.Writer s)) at H was is (λ live. live) (omega arith) (writer_words last m D c g p actors seat both.logged s fits.step)
        failed_turn was (actor.Flusher t) at is =
            let none = no_part (actor.Flusher t) (becomes (actor.Flusher t)) (took_later (actor.Flusher t) (shared_answer ls (D.failed p) code mark m (next (actor.Flusher t)))) (omega arith) (λ u e. absurd (cc)) in
            failed_other last m (to (actor.Flusher t)) actors seat (actor.Flusher t) (becomes (actor.Flusher t)) at H was is (λ live. live) (omega arith) (flusher_words last m t)
        failed_turn was (actor.Closer s) at is = absurd (F.each seat (actor.Closer s) at)
        failed_turn was (actor.Cleaner s) at is = absurd (F.each seat (actor.Cleaner s) at)
        failed_turn was (actor.Checkpointer s) at is = absurd (F.each seat (actor.Checkpointer s) at)
        failed_turn was (actor.Reader s) at is = absurd (F.each seat (actor.Reader s) at)

        pub turn_goes : (a : Actor) (at : get_elem? actors seat ≡ some a) → (0 < m.failed → 0 < (to a).failed) → HaveEnded (set actors seat (becomes a)) ⊎ Found (to a) (set actors seat (becomes a)) → Goes last m (to a) actors seat a (becomes a) at H
        turn_goes a at on again = elim (dec_le 1 m.failed) [
          | yes was ↦ failed_turn was a at (on was)
          | no none ↦ (
              let sound : m.failed ≡ 0 = omega arith in
              ⊎_elim (λ falls. inl (sound_falls last m (to a) actors seat a (becomes a) at sound falls))
              (⊎_elim (λ waits. sound_waits last m (to a) actors seat a (becomes a) at H waits again sound) (λ told. inl (tells last m (to a) actors seat a (becomes a) at sound told)))
              (sound_turn a at sound))
        ]
