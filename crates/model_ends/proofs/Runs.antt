-- A run by turns with the log alone ends.
use Rattle.std.proofs.Common.{List, ap, arith, cond, inl, inr, length, length-set, refl, set, subst, suc, sym, true, zero, ℕ, ⊎_elim, ◌%◌, ◌*◌, ◌+◌, ◌-◌, ◌/◌, ◌<◌, ◌^◌, ◌∙◌, ◌≡◌, ◌≢◌, ◌≤◌, ◌⊎◌}
use Rattle.std.proofs.lemmas.Bool.{le-ltb}
use lib.ListN.{get_elem?}
use mathlib.Core.Option.{some}
use native.Mathlib.Decide.{dec_le}
use Rattle.model_core.proofs.Groups.{at_less}
use Rattle.model_core.proofs.Later.{took_later}
use Rattle.model_core.specs.{Actor, Core, lsn, next, shared_left, SharedWords, took, DataSide, LogSide, Setup}
use Rattle.model_core.specs.Program.{Turn}
use Rattle.model_core.specs.declared.limits.TheConstants.{WRITTEN_LINKS}
use Rattle.model_core.specs.declared.ops.Answer.{Answer}
use Rattle.model_core.specs.declared.ops.Step.{Step}
use Rattle.model_logcore.specs.{sum_over_actors}
use Rattle.model_logcore.specs.LogLaws.{LogLaws}
use Rattle.model_pagecore.specs.DataLaws.{DataLaws}
use Rattle.model_running.specs.PlainStore.{plain_store}
use Rattle.model_running.specs.Schedule.{HaveEnded, seat_of_turn, TakesTurns}
use Rattle.model_script.specs.{draw}
use Rattle.model_ends.proofs.Cost.{steps_of}
use Rattle.model_ends.proofs.Helpers.{Found, Helper}
use Rattle.model_ends.proofs.Most.{most}
use Rattle.model_ends.proofs.Numbers.{measure, measure_within, next_turn, rank_falls, turn_nears, weight_falls}
use Rattle.model_ends.proofs.OneTurn.{helped, turn_goes}
use Rattle.model_ends.proofs.Rank.{Goes, IsNearer, open_or, rank}
use Rattle.model_ends.proofs.Sizes.{all_bytes, all_steps, HasRoomFor}
use Rattle.model_ends.proofs.States.{actors_then, never_back, said, State, state_then}
use Rattle.model_ends.specs.Alone.{CanReach}
use Rattle.model_ends.specs.Bound.{last_lsn}

module _ (D : LogSide) (E : DataSide) (c : Setup) (L : LogLaws D) (EL : DataLaws E) (alone : c.log_only ≡ true) (last : ℕ) (room : HasRoomFor c last) (n steps : ℕ) where
  -- a state of the run: of so many actors, with so many steps of their lines
  pub record Reached (s : Core D E) : Type 0 where
    pub words : SharedWords
    pub state : State D E c words s
    pub last_is : last_lsn c s.actors ≡ last
    pub seats : length s.actors ≡ n
    pub steps_are : sum_over_actors steps_of s.actors ≡ steps

  -- what is left to do at most
  abbrev pub left_most : ℕ
  left_most = steps + 26 * (last - lsn c.base) + 2 * WRITTEN_LINKS + 21

  -- at turn k somebody helps whose turn comes soon, and of what may be left at most at least x is done
  pub record Measured (k x : ℕ) (m : SharedWords) (actors : List Actor) : Type 0 where
    pub helper : Helper m actors
    pub in_turns : ℕ
    pub soon : in_turns < n
    pub comes : (k + in_turns) % n ≡ helper.seat
    pub within : measure n (rank last m actors) helper.weight in_turns + x < 21 * n * (left_most + 1)

  abbrev EndedOr : ℕ → ℕ → SharedWords → List Actor → Type 0
  EndedOr k x m actors = HaveEnded actors ⊎ Measured k x m actors

  found : (s : Core D E) (r : Reached s) → HaveEnded s.actors ⊎ Found r.words s.actors
  found s r = let S = r.state in ⊎_elim (λ ended. inl ended) (λ live. inr (helped D E c alone L r.words S.log_ghost S.page_ghost s.lists s.log_part s.data_part s.actors S.both S.further live.0 live.1 live.2 live.3)) (open_or s.actors)

  -- nothing done yet
  fresh : (k : ℕ) (s : Core D E) (r : Reached s) → EndedOr k 0 r.words s.actors
  fresh k s r = ⊎_elim (λ ended. inl ended)
      (λ f.
      let S = r.state in
      let H = f.helper in
      let few : H.seat < n = (let z = at_less s.actors H.seat H.who H.at in let y = r.seats in omega arith) in
      let t = next_turn k H.seat n few in
      let high : rank last r.words s.actors ≤ left_most = (let z = most D c r.words S.log_ghost s.log_part s.actors S.both.logged S.further last in let y = r.steps_are in omega arith) in
      inr (record { helper = H; in_turns = t.0; soon = t.1; comes = t.2; within = (let z = measure_within n (rank last r.words s.actors) left_most H.weight t.0 high H.light t.1 in omega arith) }))
      (found s r)

  module _ (old new : Core D E) (seat : ℕ) (answer : Answer) (step : Step) (r : Reached old) (t : Turn D E old seat answer step new) where
    abbrev next_words : SharedWords
    next_words = shared_left r.words (next t.who)

    abbrev becomes : Actor
    becomes = took t.who (said D E c L EL alone r.words old new seat answer step r.state t)

    abbrev they : List Actor
    they = set old.actors seat becomes

    they_are : ◌≡◌ {A = List Actor} they new.actors
    they_are = actors_then D E c L EL alone r.words old new seat answer step r.state t

    abbrev reached : Reached new
    reached = record {
      words = shared_left r.words (next t.who);
      state = state_then D E c L EL alone r.words old new seat answer step r.state t;
      last_is = ap (last_lsn c) (sym they_are) ∙ ap (λ (k : ℕ). lsn (c.base + k)) (all_bytes old.actors seat t.who becomes t.who_is (took_later t.who (said D E c L EL alone r.words old new seat answer step r.state t))) ∙ r.last_is;
      seats = ap length (sym they_are) ∙ length-set old.actors seat becomes ∙ r.seats;
      steps_are = ap (sum_over_actors steps_of) (sym they_are) ∙ all_steps old.actors seat t.who becomes t.who_is (took_later t.who (said D E c L EL alone r.words old new seat answer step r.state t)) ∙ r.steps_are;
    }

    -- the turn of the seat that is next
    module _ (k x : ℕ) (is_next : seat ≡ k % n) (M : Measured k x r.words old.actors) where
      few_seats : (j : ℕ) (a : Actor) → get_elem? they j ≡ some a → j < n
      few_seats j a at = let z = at_less they j a at in let y = length-set old.actors seat becomes in let w = r.seats in omega arith

      again : HaveEnded they ⊎ Found next_words they
      again = subst (λ (rs : List Actor). HaveEnded rs ⊎ Found next_words rs) (sym they_are) (found new reached)

      goes : Goes last r.words next_words old.actors seat t.who becomes t.who_is M.helper
      goes = let S = r.state in turn_goes D E c alone L r.words S.log_ghost S.page_ghost old.lists old.log_part old.data_part old.actors S.both S.further last r.last_is room seat t.code (D.stable new.log_part) M.helper t.who t.who_is
          (never_back D E c L EL alone r.words old new seat answer step r.state t) again

      fewer : (H : Helper next_words they) (in_turns : ℕ) → in_turns < n → (suc k + in_turns) % n ≡ H.seat → measure n (rank last next_words they) H.weight in_turns < measure n (rank last r.words old.actors) M.helper.weight M.in_turns → Measured (suc k) (suc x) next_words they
      fewer H in_turns soon comes less = record { helper = H; in_turns = in_turns; soon = soon; comes = comes; within = (let z = M.within in omega arith) }

      fell : rank last next_words they < rank last r.words old.actors → EndedOr (suc k) (suc x) next_words they
      fell less = ⊎_elim (λ ended. inl ended)
          (λ f.
          let H = f.helper in
          let s = next_turn (suc k) H.seat n (few_seats H.seat H.who H.at) in
          inr (fewer H s.0 s.1 s.2 (rank_falls n (rank last r.words old.actors) (rank last next_words they) M.helper.weight M.in_turns H.weight s.0 less H.light s.1)))
          again

      near : rank last next_words they ≤ rank last r.words old.actors → (H : Helper next_words they) → IsNearer last r.words next_words old.actors seat t.who becomes t.who_is M.helper H → EndedOr (suc k) (suc x) next_words they
      near le H nearer = ⊎_elim
          (λ less.
          let s = next_turn (suc k) H.seat n (few_seats H.seat H.who H.at) in
          inr (fewer H s.0 s.1 s.2 (weight_falls n (rank last r.words old.actors) (rank last next_words they) M.helper.weight M.in_turns H.weight s.0 le less s.1)))
          (λ same. by M.in_turns refl same.0 same.1 same.2)
          nearer
        where
          by : (j : ℕ) → M.in_turns ≡ j → H.weight ≤ M.helper.weight → H.seat ≡ M.helper.seat → M.helper.seat ≢ seat → EndedOr (suc k) (suc x) next_words they
          by zero is light same other = absurd (other (sym M.comes ∙ ap (λ (i : ℕ). (k + i) % n) is ∙ (let z : (k + 0) % n ≡ k % n = ap (λ (i : ℕ). i % n) (omega arith) in z) ∙ sym is_next))
          by (suc j) is light same other = inr (fewer H j (let z = M.soon in omega arith)
              (ap (λ (i : ℕ). i % n) (let z : suc k + j ≡ k + suc j = omega arith in z) ∙ ap (λ (i : ℕ). (k + i) % n) (sym is) ∙ M.comes ∙ sym same)
              (subst (λ (i : ℕ). measure n (rank last next_words they) H.weight j < measure n (rank last r.words old.actors) M.helper.weight i) (sym is) (turn_nears n (rank last r.words old.actors) (rank last next_words they) M.helper.weight H.weight j le light)))

      pub counted : EndedOr (suc k) (suc x) next_words new.actors
      counted = subst (λ (rs : List Actor). EndedOr (suc k) (suc x) next_words rs) they_are
          (⊎_elim fell (λ z. ⊎_elim (λ ended. inl ended) (λ h. near z.0 h.0 h.1) z.1) goes)

  -- every state that any turns reach
  pub can_reach : (k : ℕ) (first s : Core D E) → Reached first → CanReach D E k first s → Reached s
  can_reach zero first s r is = subst Reached (sym is) r
  can_reach (suc k) first s r t = reached t.before s t.seat t.answer t.step (can_reach k first t.before r t.earlier) t.turn

  module _ (seed max : ℕ) (first : Core D E) (start : Reached first) where
    -- after so many turns, in the second half of them
    pub record After (k : ℕ) (s : Core D E) : Type 0 where
      pub is_reached : Reached s
      pub counts : (x : ℕ) → max / 2 + x ≡ k → EndedOr k x is_reached.words s.actors

    begins : (k : ℕ) (s : Core D E) (r : Reached s) (x : ℕ) → x ≡ 0 → EndedOr k x r.words s.actors
    begins k s r x is = subst (λ (i : ℕ). EndedOr k i r.words s.actors) (sym is) (fresh k s r)

    run : (k : ℕ) (s : Core D E) → TakesTurns (plain_store D E) seed max k first s → After k s
    run zero s is = let r = subst Reached (sym is) start in record { is_reached = r; counts = λ x e. begins 0 s r x (omega arith) }
    run (suc k) s t =
        let B = run k t.before t.earlier in
        let r = B.is_reached in
        let seat : ℕ = seat_of_turn seed max (length t.before.actors) k in
        let now : Reached s = reached t.before s seat t.turn.answer t.step r t.turn.turn in
        record {
          is_reached = now;
          counts = λ x. by k s t B x;
        }
      where
        by : (k : ℕ) (s : Core D E) (t : TakesTurns (plain_store D E) seed max (suc k) first s) (B : After k t.before) (x : ℕ) → max / 2 + x ≡ suc k → EndedOr (suc k) x (shared_left B.is_reached.words (next t.turn.turn.who)) s.actors
        by k s t B zero e = fresh (suc k) s (reached t.before s (seat_of_turn seed max (length t.before.actors) k) t.turn.answer t.step B.is_reached t.turn.turn)
        by k s t B (suc x) e = ⊎_elim (λ ended. absurd (t.open_user ended))
            (λ M. counted t.before s (seat_of_turn seed max (length t.before.actors) k) t.turn.answer t.step B.is_reached t.turn.turn k x
            (ap (λ b. cond b (draw (k + 1) (seed % 2 ^ 31) % length t.before.actors) (k % length t.before.actors)) (le-ltb k (max / 2) (omega arith)) ∙ ap (λ (i : ℕ). k % i) B.is_reached.seats) M)
            (B.counts x (omega arith))

    -- A RUN BY TURNS ENDS
    pub few_turns : (k : ℕ) (s : Core D E) → TakesTurns (plain_store D E) seed max k first s → k ≤ max / 2 + 21 * n * (left_most + 1)
    few_turns zero s is = omega arith
    few_turns (suc k) s t = elim (dec_le (max / 2) k) [
      | no d ↦ omega arith
      | yes d ↦ (
          let B = run k t.before t.earlier in
          ⊎_elim (λ ended. absurd (t.open_user ended)) (λ M. let z = M.within in omega arith) (B.counts (k - max / 2) (omega arith)))
    ]
