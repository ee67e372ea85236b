-- A run by turns, up to one of them.
use Rattle.std.proofs.Common.{Bool, List, Option, add-one, ap, arith, cond, false, length, length-append, map, nat_lt, refl, slice_get, subst, suc, sym, true, zero, ℕ, ◌%◌, ◌+◌, ◌/◌, ◌<◌, ◌^◌, ◌∙◌, ◌∷◌, ◌≡◌, ◌≤◌}
use Rattle.std.proofs.lemmas.Bool.{lt-ltb}
use Rattle.std.specs.Prelude.{IfSome}
use lib.ListN.{get_elem?}
use mathlib.Core.Option.{some}
use Rattle.model_core.specs.States as model
use Rattle.model_core.specs.{Setup, Given, lent, next}
use Rattle.model_core.specs.Program.{Turn}
use Rattle.model_core.specs.declared.ops.Step.{Step}
use Rattle.model_running.proofs.TurnsAs.{one_more}
use Rattle.model_running.specs.{AreSeated, HaveEnded, seat_of_turn, TakesTurns}
use Rattle.model_script.specs.{draw, first_state, next_state, state_after}
use Rattle.redo_disk.specs.{Call, Seen}
use Rattle.redo_machine.proofs.UserSeats.{first_is_least}
use Rattle.redo_drive.proofs.Viewed.{length_views, so_at}
use Rattle.redo_drive.specs.{AskOfBoth, CallOnBoth, RunOf, run_data_side, run_log_side, RunsWith, TakesTurn, core_of, view_of, views_of}
use Rattle.redo_machine.specs.OpenUsers.{IsFirstOpen}
use Rattle.redo_archive.specs.Part.{Part}
use Rattle.redo_machine.specs.Reading.{ComesFrom, IsOnRun}
use Rattle.redo_machine.specs.Turns.{IsDrawn, RunEndsAs, run_store}
use Rattle.redo_drive.specs.declared.actor.Actor.{Actor}
use Rattle.redo_machine.specs.declared.machine.Machine.{Machine}
use Rattle.redo_drive.specs.declared.drive.RunEnd.TheVariants as ran

-- one draw more
more_draws : (n state : ℕ) → state_after n (next_state state) ≡ next_state (state_after n state)
more_draws zero state = refl
more_draws (suc n) state = more_draws n (next_state state)

next_after : (n state : ℕ) → state_after (n + 1) state ≡ next_state (state_after n state)
next_after n state = ap (λ (k : ℕ). state_after k state) (add-one n) ∙ more_draws n state

pub drawn_seat : (seed max seats turn state : ℕ) → turn < max / 2 → IsDrawn seed turn max state → draw 1 state % seats ≡ seat_of_turn seed max seats turn
drawn_seat seed max seats turn state l drawn = by (nat_lt turn (max / 2)) (lt-ltb turn (max / 2) l)
  where
    by : (b : Bool) → b ≡ true → draw 1 state % seats ≡ cond b (draw (turn + 1) (seed % 2 ^ 31) % seats) (turn % seats)
    by true is = ap (λ (k : ℕ). k / 65536 % seats) (ap next_state (drawn l) ∙ sym (next_after turn (seed % 2 ^ 31)))
    by false is = absurd (cc)

pub next_drawn : (seed max turn state : ℕ) → turn < max / 2 → IsDrawn seed turn max state → IsDrawn seed (turn + 1) max (next_state state)
next_drawn seed max turn state l drawn more = ap next_state (drawn l) ∙ sym (next_after turn (first_state seed))

module _ {L D : Type 0} (log_seen : L → Seen) (log_gives : L → Call → L → Type 0) (data_seen : D → Seen) (data_gives : D → Call → D → Type 0) where
  -- so many turns of a run lead from the first state to this one
  pub record GoesOn {A R : Type 0} (run : RunOf L D) (archive : Bool) (seed max turn : ℕ) (first now : Machine L D A R) : Type 0 where
    pub runs : RunsWith log_seen data_seen run archive now.parts (views_of now.actors.items)
    pub taken : TakesTurns (run_store log_seen log_gives data_seen data_gives run) seed max turn
        (core_of log_seen data_seen run first.parts (views_of first.actors.items))
        (core_of log_seen data_seen run now.parts (views_of now.actors.items))

  -- A machine in its run, after so many turns. There are so many seats.
  pub record InRun {A R : Type 0} (arch_seen : A → Seen) (seed max turn draws seats : ℕ) (first now : Machine L D A R) : Type 0 where
    pub drawn : IsDrawn seed turn max draws
    pub count : length now.actors.items ≡ seats
    pub some_seats : 0 < seats
    pub on_run : IsOnRun log_seen data_seen arch_seen now
    pub goes : (run : RunOf L D) (archive : Bool)
        → RunsWith log_seen data_seen run archive first.parts (views_of first.actors.items)
        → GoesOn run archive seed max turn first now

  -- the same, with what its readers got, and what it leaves
  pub record InTurns {A R : Type 0} (arch_seen : A → Seen) (arch_gives : A → Call → A → Type 0)
      (stands : R → List Given → Type 0) (seed max turn draws seats : ℕ) (first now : Machine L D A R) : Type 0 where
    pub run : InRun arch_seen seed max turn draws seats first now
    pub from : (run : RunOf L D) (archive : Bool) (starts : List (Actor R)) (before : Option (Part A))
        → ComesFrom log_seen data_seen arch_seen arch_gives stands run archive starts before first
        → ComesFrom log_seen data_seen arch_seen arch_gives stands run archive starts before now
    pub calls : CallOnBoth log_gives data_gives first.parts now.parts
    pub entries : now.entries ≡ first.entries

-- there is an actor
some_actor : {R : Type 0} {live : Bool} (c : Setup) (actors : List (Actor R)) → AreSeated live c (views_of actors) → 0 < length actors
some_actor c actors S =
    let long : length (views_of actors) ≡ length (map model.User S.users) + (2 + length S.others) = ap length S.are ∙ length-append (map model.User S.users) (model.Writer S.writer ∷ model.Flusher S.flusher ∷ S.others) ∙ omega arith in
    let same = length_views actors in
    omega arith

module _ {L D A R : Type 0} (log_seen : L → Seen) (log_gives : L → Call → L → Type 0) (data_seen : D → Seen)
    (data_gives : D → Call → D → Type 0) (arch_seen : A → Seen) (seed max : ℕ) where
  -- a run before its first turn
  pub starts_run : (seats : ℕ) (machine : Machine L D A R) → IsOnRun log_seen data_seen arch_seen machine
      → length machine.actors.items ≡ seats
      → InRun log_seen log_gives data_seen data_gives arch_seen seed max 0 (first_state seed) seats machine machine
  starts_run seats machine on count = record {
    drawn = λ _. refl;
    count = count;
    some_seats = (let s = some_actor on.run.setup machine.actors.items on.runs.seated in omega arith);
    on_run = on;
    goes = λ run archive R. record { runs = R; taken = refl };
  }

  -- one turn more, of the seat whose turn it is
  pub goes_on : (turn draws draws_left seats seat : ℕ) (step : Step) (first old new : Machine L D A R)
      → InRun log_seen log_gives data_seen data_gives arch_seen seed max turn draws seats first old
      → (HaveEnded (views_of old.actors.items) → ⊥)
      → seat ≡ seat_of_turn seed max seats turn → IsDrawn seed (turn + 1) max draws_left
      → IsOnRun log_seen data_seen arch_seen new
      → ((run : RunOf L D) (archive : Bool) → RunsWith log_seen data_seen run archive old.parts (views_of old.actors.items)
      → TakesTurn log_seen data_seen run old.parts (views_of old.actors.items) seat step new.parts
      (views_of new.actors.items) × RunsWith log_seen data_seen run archive new.parts (views_of new.actors.items))
      → length new.actors.items ≡ length old.actors.items
      → IfSome (slice_get old.actors.items seat) (λ actor. AskOfBoth log_gives data_gives (lent (view_of actor)) (next (view_of actor)) old.parts new.parts)
      → InRun log_seen log_gives data_seen data_gives arch_seen seed max (turn + 1) draws_left seats first new
  goes_on turn draws draws_left seats seat step first old new I open_user its drawn on keeps same asked = record {
    drawn = drawn;
    count = same ∙ I.count;
    some_seats = I.some_seats;
    on_run = on;
    goes = λ run archive R.
        let before = I.goes run archive R in
        let taken = (keeps run archive before.runs).0 in
        let count : seats ≡ length (views_of old.actors.items) = sym (length_views old.actors.items ∙ I.count) in
        let its_seat : seat ≡ seat_of_turn seed max (length (views_of old.actors.items)) turn = its ∙ ap (λ (n : ℕ). seat_of_turn seed max n turn) count in
        let its_turn : Turn (run_log_side log_seen data_seen run) (run_data_side log_seen data_seen run)
        (core_of log_seen data_seen run old.parts (views_of old.actors.items))
        (seat_of_turn seed max (length (views_of old.actors.items)) turn) taken.answer step
        (core_of log_seen data_seen run new.parts (views_of new.actors.items)) =
        subst (λ (s : ℕ). Turn (run_log_side log_seen data_seen run) (run_data_side log_seen data_seen run)
        (core_of log_seen data_seen run old.parts (views_of old.actors.items)) s taken.answer step
        (core_of log_seen data_seen run new.parts (views_of new.actors.items))) its_seat taken.turn in
        record {
          runs = (keeps run archive before.runs).1;
          taken = one_more (run_store log_seen log_gives data_seen data_gives run) seed max turn
              (core_of log_seen data_seen run first.parts (views_of first.actors.items))
              (core_of log_seen data_seen run new.parts (views_of new.actors.items))
              (record {
                before = core_of log_seen data_seen run old.parts (views_of old.actors.items);
                earlier = before.taken;
                open_user = open_user;
                step = step;
                turn = record {
                  answer = taken.answer;
                  turn = its_turn;
                  told = λ who at. so_at (λ (a : model.Actor).
                      AskOfBoth log_gives data_gives (lent a) (next a) old.parts new.parts) old.actors.items seat who
                      asked
                      (subst (λ (s : ℕ). get_elem? (views_of old.actors.items) s ≡ some who) (sym its_seat) at);
                };
              });
        };
  }

  -- a run in which each user has ended
  pub ends_done : (turn draws seats : ℕ) (first last : Machine L D A R) → InRun log_seen log_gives data_seen data_gives
      arch_seen seed max turn draws seats first last → turn ≤ max → HaveEnded (views_of last.actors.items)
      → (run : RunOf L D) (archive : Bool)
      → RunsWith log_seen data_seen run archive first.parts (views_of first.actors.items)
      → RunEndsAs log_seen log_gives data_seen data_gives run seed max first.parts (views_of first.actors.items)
      ran.Done last.parts (views_of last.actors.items)
  ends_done turn draws seats first last I within ended run archive R = record {
    count = turn;
    within = within;
    turns = (I.goes run archive R).taken;
    ended = ended;
  }

  -- a run whose turns are spent
  pub ends_spent : (turn draws seats user : ℕ) (first last : Machine L D A R) → InRun log_seen log_gives data_seen
      data_gives arch_seen seed max turn draws seats first last → turn ≡ max → IsFirstOpen (views_of last.actors.items) user
      → (run : RunOf L D) (archive : Bool)
      → RunsWith log_seen data_seen run archive first.parts (views_of first.actors.items)
      → RunEndsAs log_seen log_gives data_seen data_gives run seed max first.parts (views_of first.actors.items)
      (ran.Spent max user) last.parts (views_of last.actors.items)
  ends_spent turn draws seats user first last I all open_user run archive R =
      let goes = I.goes run archive R in (
        refl,
        record {
          turns = subst (λ (n : ℕ). TakesTurns (run_store log_seen log_gives data_seen data_gives run) seed max n
              (core_of log_seen data_seen run first.parts (views_of first.actors.items))
              (core_of log_seen data_seen run last.parts (views_of last.actors.items))) all goes.taken;
          seat = open_user.seat;
          state = open_user.state;
          is = open_user.is;
          number = open_user.open_user.number;
          not_ended = open_user.open_user.not_ended;
          least = first_is_least run.setup (views_of last.actors.items) goes.runs.seated user open_user;
        },
      )
