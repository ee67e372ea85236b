-- ONCE FAILED HAS A CODE A RUN BY TURNS ENDS, with pages or without, whoever reads the log: each user either goes on, or it
-- waits, checks FAILED, and ends.
use lib.ListN.{get_elem?}
use mathlib.Core.Option.{some, some-injective}
use Rattle.std.proofs.Common.{List, ap, arith, cond, inl, inr, length, length-set, refl, set, subst, suc, sym, zero, ℕ, ⊎_elim, ◌%◌, ◌*◌, ◌+◌, ◌-◌, ◌/◌, ◌<◌, ◌^◌, ◌∙◌, ◌≡◌, ◌≢◌, ◌≤◌, ◌⊎◌}
use Rattle.std.proofs.lemmas.Bool.{le-ltb}
use Rattle.std.specs.Prelude.{slice_index}
use native.Mathlib.Decide.{dec_le, ℕ_discrete}
use Rattle.model_core.proofs.Groups.{at_less}
use Rattle.model_core.proofs.Lists.{set_at, set_else}
use Rattle.model_core.specs.{Actor, Core, filled, Listed, lists_left, next, shared_answer, shared_left, SharedWords, took, UserState, DataSide, LogSide, Setup}
use Rattle.model_core.specs.Program.{Turn}
use Rattle.model_core.specs.declared.ops.Answer.{Answer}
use Rattle.model_core.specs.declared.ops.Step.{Step}
use Rattle.model_logcore.proofs.Frame.{total_set}
use Rattle.model_logcore.specs.{sum_over_actors}
use Rattle.model_logcore.specs.LogLaws.{LogLaws}
use Rattle.model_pagecore.specs.DataLaws.{DataLaws}
use Rattle.model_running.proofs.FailedStays.{turn_keeps_failed}
use Rattle.model_running.specs.Watermarks.{IsRunning}
use Rattle.model_running.specs.PlainStore.{plain_store}
use Rattle.model_running.specs.Schedule.{HaveEnded, seat_of_turn, TakesTurns}
use Rattle.model_script.specs.{draw}
use Rattle.model_ends.proofs.Along.{actors_then, Along, both_filled, EachTurnKeeps, lists_then, turn_along, words_then}
use Rattle.model_ends.proofs.FailedTurns.{filled_left, Moves, total, turn_no_more, user_moves}
use Rattle.model_ends.proofs.Numbers.{measure, measure_within, next_turn, rank_falls, turn_nears, weight_falls}
use Rattle.model_ends.proofs.Outcome.{IsOpenStep}
use Rattle.model_ends.proofs.PageCost.{words_steps}
use Rattle.model_ends.proofs.Rank.{open_or}
use Rattle.model_ends.proofs.UserNoMore.{left_of}
use Rattle.model_ends.proofs.UserSettles.{leaving, leaving_few}
use Rattle.model_core.specs.States as actor

-- a user that hasn't ended
pub record Leaver (actors : List Actor) : Type 0 where
  pub seat : ℕ
  pub user : UserState
  pub at : get_elem? actors seat ≡ some (actor.User user)
  pub live : IsOpenStep user.step

module _ (D : LogSide) (E : DataSide) (c : Setup) (L : LogLaws D) (EL : DataLaws E) (n : ℕ) where
  abbrev pub Anything : SharedWords → (ℕ → List Listed) → D.Part → E.Part → List Actor → Type 0
  Anything m ls p d actors = Unit {0}

  abbrev pub keeps : EachTurnKeeps D E c Anything
  keeps = record { filled = λ m ls p d actors seat a is f h. tt; turned = λ m g h ls p d actors both z seat a is code q e served stored. tt }

  -- a running store whose word FAILED has a code
  pub record Failing (s : Core D E) : Type 0 where
    pub along : Along D E c Anything s
    pub failed : 0 < along.words.failed
    pub seats : length s.actors ≡ n

  -- what users have left of their lines, the links that stand, and the pages to clean
  abbrev pub rank : (s : Core D E) → Failing s → ℕ
  rank s F = total 0 F.along.words s.lists s.actors

  module _ (old new : Core D E) (seat : ℕ) (answer : Answer) (step : Step) (F : Failing old) (t : Turn D E old seat answer step new) where
    abbrev S : Along D E c Anything old
    S = F.along

    abbrev who : Actor
    who = filled t.who t.filling

    abbrev they : List Actor
    they = set old.actors seat who

    abbrev after : SharedWords
    after = shared_left S.words (next who)

    abbrev said : Answer
    said = shared_answer old.lists (D.failed old.log_part) t.code (D.stable new.log_part) S.words (next who)

    abbrev those : List Actor
    those = set they seat (took who said)

    those_are : ◌≡◌ {A = List Actor} those new.actors
    those_are = actors_then D E c Anything L EL keeps old new seat answer step S t

    lists_are : ◌≡◌ {A = ℕ → List Listed} (lists_left old.lists (λ i. slice_index S.words.lists i) (next who)) new.lists
    lists_are = lists_then D E c Anything L EL keeps old new seat answer step S t

    there : get_elem? they seat ≡ some who
    there = set_at old.actors seat t.who who t.who_is

    running : IsRunning D E c old
    running = record { shared = S.words; log_ghost = S.log_ghost; page_ghost = S.page_ghost; layout_is = S.layout_is; flat_is = S.flat_is; both = S.both }

    pub still_failed : 0 < after.failed
    still_failed =
        let is : slice_index old.words 6 ≡ S.words.failed = ap (λ (ws : List ℕ). slice_index ws 6) S.flat_is in
        let then : slice_index new.words 6 ≡ after.failed = ap (λ (ws : List ℕ). slice_index ws 6) (words_then D E c Anything L EL keeps old new seat answer step S t) in
        let was = F.failed in
        let z = turn_keeps_failed D E c old new seat answer step running t (omega arith) in
        omega arith

    pub still_seats : length new.actors ≡ n
    still_seats = ap length (sym those_are) ∙ length-set they seat (took who said) ∙ length-set old.actors seat who ∙ F.seats

    abbrev pub failing : Failing new
    failing = record { along = turn_along D E c Anything L EL keeps old new seat answer step S t; failed = still_failed; seats = still_seats }

    before_is : total 0 S.words old.lists they ≡ rank old F
    before_is = let z = total_set left_of old.actors seat t.who who t.who_is in let y = filled_left t.who t.filling in omega arith

    after_is : rank new failing ≡ total 0 after (lists_left old.lists (λ i. slice_index S.words.lists i) (next who)) those
    after_is = let z = ap (sum_over_actors left_of) those_are in let y = ap (λ (l : ℕ → List Listed). words_steps 0 after l) lists_are in omega arith

    pub no_more : rank new failing ≤ rank old F
    no_more =
        let le = turn_no_more D E c S.words S.log_ghost S.page_ghost old.lists old.log_part old.data_part they (both_filled D E c Anything L EL keeps old new seat answer step S t) 0 seat t.code (D.stable new.log_part) who there in
        let a = before_is in let b = after_is in
        omega arith

    abbrev IsNearer : Leaver old.actors → Leaver new.actors → Type 0
    IsNearer H K = (leaving K.user < leaving H.user) ⊎ ((leaving K.user ≤ leaving H.user) × (K.seat ≡ H.seat) × (H.seat ≢ seat))

    abbrev Goes : Leaver old.actors → Type 0
    Goes H = (rank new failing < rank old F) ⊎ ((K : Leaver new.actors) × IsNearer H K)

    module _ (H : Leaver old.actors) where
      -- its own turn
      own_turn : H.seat ≡ seat → Goes H
      own_turn e =
          let here : get_elem? old.actors seat ≡ some (actor.User H.user) = subst (λ (k : ℕ). get_elem? old.actors k ≡ some (actor.User H.user)) e H.at in
          let is : ◌≡◌ {A = Actor} t.who (actor.User H.user) = some-injective t.who (actor.User H.user) (sym t.who_is ∙ here) in
          let who_is : ◌≡◌ {A = Actor} who (actor.User H.user) = ap (λ (a : Actor). filled a t.filling) is in
          let user_there : get_elem? they seat ≡ some (actor.User H.user) = there ∙ ap some who_is in
          let moves : Moves D E c S.words S.log_ghost S.page_ghost old.lists old.log_part old.data_part they (both_filled D E c Anything L EL keeps old new seat answer step S t) 0 seat t.code (D.stable new.log_part) H.user who =
          subst (Moves D E c S.words S.log_ghost S.page_ghost old.lists old.log_part old.data_part they (both_filled D E c Anything L EL keeps old new seat answer step S t) 0 seat t.code (D.stable new.log_part) H.user) (sym who_is)
          (user_moves D E c S.words S.log_ghost S.page_ghost old.lists old.log_part old.data_part they (both_filled D E c Anything L EL keeps old new seat answer step S t) 0 seat t.code (D.stable new.log_part) H.user user_there F.failed H.live) in
          ⊎_elim
          (λ less. inl (let a = before_is in let b = after_is in omega arith))
          (λ w. inr (
            record { seat = seat; user = w.0; at = subst (λ (rs : List Actor). get_elem? rs seat ≡ some (actor.User w.0)) those_are (set_at they seat who (took who said) there ∙ ap some w.1); live = w.2 },
            inl w.3,
          ))
          moves

      -- another one's
      other_turn : H.seat ≢ seat → Goes H
      other_turn ne = inr (
        record { seat = H.seat; user = H.user; at = subst (λ (rs : List Actor). get_elem? rs H.seat ≡ some (actor.User H.user)) those_are (set_else they seat H.seat (took who said) ne ∙ set_else old.actors seat H.seat who ne ∙ H.at); live = H.live },
        inr (omega arith, refl, ne),
      )

      pub goes : Goes H
      goes = elim (ℕ_discrete H.seat seat) [
        | yes e ↦ own_turn e
        | no ne ↦ other_turn ne
      ]

  -- turn k is near that of a user that hasn't ended, and of `most` at least x is done
  module _ (most : ℕ) where
    pub record Measured (k x left : ℕ) (actors : List Actor) : Type 0 where
      pub leaver : Leaver actors
      pub in_turns : ℕ
      pub soon : in_turns < n
      pub comes : (k + in_turns) % n ≡ leaver.seat
      pub within : measure n left (leaving leaver.user) in_turns + x < 21 * n * (most + 1)

    abbrev EndedOr : ℕ → ℕ → ℕ → List Actor → Type 0
    EndedOr k x left actors = HaveEnded actors ⊎ Measured k x left actors

    few_seats : (s : Core D E) → length s.actors ≡ n → (H : Leaver s.actors) → H.seat < n
    few_seats s seats H = let z = at_less s.actors H.seat (actor.User H.user) H.at in omega arith

    light : (u : UserState) → leaving u ≤ 20
    light u = let z = leaving_few u in omega arith

    leaver_or : (actors : List Actor) → HaveEnded actors ⊎ Leaver actors
    leaver_or actors = ⊎_elim (λ ended. inl ended) (λ live. inr (record { seat = live.0; user = live.1; at = live.2; live = live.3 })) (open_or actors)

    fresh : (k : ℕ) (s : Core D E) (F : Failing s) → rank s F ≤ most → EndedOr k 0 (rank s F) s.actors
    fresh k s F low = ⊎_elim (λ ended. inl ended)
        (λ H.
        let t = next_turn k H.seat n (few_seats s F.seats H) in
        inr (record { leaver = H; in_turns = t.0; soon = t.1; comes = t.2; within = (let z = measure_within n (rank s F) most (leaving H.user) t.0 low (light H.user) t.1 in omega arith) }))
        (leaver_or s.actors)

    module _ (old new : Core D E) (seat : ℕ) (answer : Answer) (step : Step) (F : Failing old) (t : Turn D E old seat answer step new) (k x : ℕ) (is_next : seat ≡ k % n) (M : Measured k x (rank old F) old.actors) where
      abbrev now : ℕ
      now = rank new (failing old new seat answer step F t)

      fewer : (H : Leaver new.actors) (in_turns : ℕ) → in_turns < n → (suc k + in_turns) % n ≡ H.seat → measure n now (leaving H.user) in_turns < measure n (rank old F) (leaving M.leaver.user) M.in_turns → Measured (suc k) (suc x) now new.actors
      fewer H in_turns soon comes less = record { leaver = H; in_turns = in_turns; soon = soon; comes = comes; within = (let z = M.within in omega arith) }

      fell : now < rank old F → EndedOr (suc k) (suc x) now new.actors
      fell less = ⊎_elim (λ ended. inl ended)
          (λ H.
          let s = next_turn (suc k) H.seat n (few_seats new (still_seats old new seat answer step F t) H) in
          inr (fewer H s.0 s.1 s.2 (rank_falls n (rank old F) now (leaving M.leaver.user) M.in_turns (leaving H.user) s.0 less (light H.user) s.1)))
          (leaver_or new.actors)

      near : (H : Leaver new.actors) → IsNearer old new seat answer step F t M.leaver H → EndedOr (suc k) (suc x) now new.actors
      near H nearer = ⊎_elim
          (λ less.
          let s = next_turn (suc k) H.seat n (few_seats new (still_seats old new seat answer step F t) H) in
          inr (fewer H s.0 s.1 s.2 (weight_falls n (rank old F) now (leaving M.leaver.user) M.in_turns (leaving H.user) s.0 (no_more old new seat answer step F t) less s.1)))
          (λ same. by M.in_turns refl same.0 same.1 same.2)
          nearer
        where
          by : (j : ℕ) → M.in_turns ≡ j → leaving H.user ≤ leaving M.leaver.user → H.seat ≡ M.leaver.seat → M.leaver.seat ≢ seat → EndedOr (suc k) (suc x) now new.actors
          by zero is le same other = absurd (other (sym M.comes ∙ ap (λ (i : ℕ). (k + i) % n) is ∙ (let z : (k + 0) % n ≡ k % n = ap (λ (i : ℕ). i % n) (omega arith) in z) ∙ sym is_next))
          by (suc j) is le same other = inr (fewer H j (let z = M.soon in omega arith)
              (ap (λ (i : ℕ). i % n) (let z : suc k + j ≡ k + suc j = omega arith in z) ∙ ap (λ (i : ℕ). (k + i) % n) (sym is) ∙ M.comes ∙ sym same)
              (subst (λ (i : ℕ). measure n now (leaving H.user) j < measure n (rank old F) (leaving M.leaver.user) i) (sym is) (turn_nears n (rank old F) now (leaving M.leaver.user) (leaving H.user) j (no_more old new seat answer step F t) le)))

      pub counted : EndedOr (suc k) (suc x) now new.actors
      counted = ⊎_elim fell (λ h. near h.0 h.1) (goes old new seat answer step F t M.leaver)

    module _ (seed max : ℕ) (first : Core D E) (start : Failing first) (low : rank first start ≤ most) where
      pub record After (k : ℕ) (s : Core D E) : Type 0 where
        pub state : Failing s
        pub few : rank s state ≤ most
        pub counts : (x : ℕ) → max / 2 + x ≡ k → EndedOr k x (rank s state) s.actors

      begins : (k : ℕ) (s : Core D E) (F : Failing s) → rank s F ≤ most → (x : ℕ) → x ≡ 0 → EndedOr k x (rank s F) s.actors
      begins k s F less x is = subst (λ (i : ℕ). EndedOr k i (rank s F) s.actors) (sym is) (fresh k s F less)

      first_after : (s : Core D E) (F : Failing s) → rank s F ≤ most → After 0 s
      first_after s F less = record { state = F; few = less; counts = λ x e. begins 0 s F less x (omega arith) }

      run : (k : ℕ) (s : Core D E) → TakesTurns (plain_store D E) seed max k first s → After k s
      run zero s is = subst (After 0) (sym is) (first_after first start low)
      run (suc k) s t =
          let B = run k t.before t.earlier in
          let F = B.state in
          let seat : ℕ = seat_of_turn seed max (length t.before.actors) k in
          let less = no_more t.before s seat t.turn.answer t.step F t.turn.turn in
          let few = B.few in
          record {
            state = failing t.before s seat t.turn.answer t.step F t.turn.turn;
            few = omega arith;
            counts = λ x. by k s t B x;
          }
        where
          by : (k : ℕ) (s : Core D E) (t : TakesTurns (plain_store D E) seed max (suc k) first s) (B : After k t.before) (x : ℕ) → max / 2 + x ≡ suc k
              → EndedOr (suc k) x (rank s (failing t.before s (seat_of_turn seed max (length t.before.actors) k) t.turn.answer t.step B.state t.turn.turn)) s.actors
          by k s t B zero e = fresh (suc k) s (failing t.before s (seat_of_turn seed max (length t.before.actors) k) t.turn.answer t.step B.state t.turn.turn)
              (let z = no_more t.before s (seat_of_turn seed max (length t.before.actors) k) t.turn.answer t.step B.state t.turn.turn in let y = B.few in omega arith)
          by k s t B (suc x) e = ⊎_elim (λ ended. absurd (t.open_user ended))
              (λ M. counted t.before s (seat_of_turn seed max (length t.before.actors) k) t.turn.answer t.step B.state t.turn.turn k x
              (ap (λ b. cond b (draw (k + 1) (seed % 2 ^ 31) % length t.before.actors) (k % length t.before.actors)) (le-ltb k (max / 2) (omega arith)) ∙ ap (λ (i : ℕ). k % i) B.state.seats) M)
              (B.counts x (omega arith))

  -- so many turns at most, in their second half, from a state in which FAILED has a code
  pub failed_run_ends : (seed max : ℕ) (first : Core D E) (start : Failing first) (k : ℕ) (last : Core D E) → TakesTurns (plain_store D E) seed max k first last → k ≤ max / 2 + 21 * n * (rank first start + 1)
  failed_run_ends seed max first start zero last turns = omega arith
  failed_run_ends seed max first start (suc k) last t = elim (dec_le (max / 2) k) [
    | no d ↦ omega arith
    | yes d ↦ (
        let B = run (rank first start) seed max first start (omega arith) k t.before t.earlier in
        ⊎_elim (λ ended. absurd (t.open_user ended)) (λ M. let z = M.within in omega arith) (B.counts (k - max / 2) (omega arith)))
  ]
