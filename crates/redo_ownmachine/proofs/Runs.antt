-- A run by turns whose users write for themselves, up to one of them.
use Rattle.std.proofs.Common.{Bool, List, Option, [], ap, arith, length, refl, subst, sym, ℕ, ◌+◌, ◌<◌, ◌∙◌, ◌∷◌, ◌≡◌, ◌≤◌}
use mathlib.Core.Option.{some-ne-none}
use Rattle.model_own.specs.{OwnUser}
use Rattle.model_core.specs.{Given}
use Rattle.model_core.specs.declared.ops.Step.{Step}
use Rattle.model_running.proofs.TurnsAs.{one_more}
use Rattle.model_running.specs.{TakesTurns, seat_of_turn}
use Rattle.model_script.specs.{first_state}
use Rattle.redo_archive.specs.Part.{Part}
use Rattle.redo_disk.specs.{Call, Seen}
use Rattle.redo_drive.proofs.Viewed.{length_views}
use Rattle.redo_drive.specs.{CallOnBoth, RunOf, views_of}
use Rattle.redo_drive.specs.declared.actor.Actor.{Actor}
use Rattle.redo_drive.specs.declared.drive.RunEnd.TheVariants as ran
use Rattle.redo_machine.proofs.UserSeats.{first_is_least}
use Rattle.redo_machine.specs.Turns.{IsDrawn}
use Rattle.redo_ownmachine.proofs.OpenSeats.{all_ended, first_open, users_ended}
use Rattle.redo_ownmachine.specs.OpenOwn.{IsFirstOpenUser, UsersHaveEnded}
use Rattle.redo_ownmachine.specs.OwnCrew.{HasSameSeats, seats_of}
use Rattle.redo_ownmachine.specs.OwnSeats.{actors_of}
use Rattle.redo_ownmachine.specs.OwnStore.{own_core_of, OwnComesFrom, OwnIsOnRun, OwnRunsWith, TakesOwnTurn}
use Rattle.redo_ownmachine.specs.OwnTurns.{OwnRunEndsAs, own_run_store}
use Rattle.redo_ownmachine.specs.declared.machine.OwnMachine.{OwnMachine}

module _ {L D : Type 0} (log_seen : L → Seen) (log_gives : L → Call → L → Type 0) (data_seen : D → Seen)
    (data_gives : D → Call → D → Type 0) where
  -- so many turns of a run lead from the first machine to this one
  pub record OwnGoesOn {A R : Type 0} (run : RunOf L D) (archive : Bool) (seed max turn : ℕ) (first now : OwnMachine L D A R)
      : Type 0 where
    pub runs : OwnRunsWith log_seen data_seen run archive now.parts (seats_of now)
    pub taken : TakesTurns (own_run_store log_seen log_gives data_seen data_gives run) seed max turn
        (own_core_of log_seen data_seen run first.parts (seats_of first))
        (own_core_of log_seen data_seen run now.parts (seats_of now))

  module _ {A : Type 0} (arch_seen : A → Seen) where
    -- A machine in its run, after so many turns. There are so many seats.
    pub record InOwnRun {R : Type 0} (seed max turn draws seats : ℕ) (first now : OwnMachine L D A R) : Type 0 where
      pub drawn : IsDrawn seed turn max draws
      pub count : length now.users.items + length now.others.items ≡ seats
      pub on_run : OwnIsOnRun log_seen data_seen arch_seen now
      pub goes : (run : RunOf L D) (archive : Bool)
          → OwnRunsWith log_seen data_seen run archive first.parts (seats_of first)
          → OwnGoesOn run archive seed max turn first now

    -- the same, with what its followers got, with its archive, and with what it leaves
    pub record InOwnTurns {R : Type 0} (arch_gives : A → Call → A → Type 0) (stands : R → List Given → Type 0)
        (seed max turn draws seats : ℕ) (first now : OwnMachine L D A R) : Type 0 where
      pub run : InOwnRun seed max turn draws seats first now
      pub from : (run : RunOf L D) (archive : Bool) (starts : List (Actor R)) (before : Option (Part A))
          → OwnComesFrom log_seen data_seen arch_seen arch_gives stands run archive starts before first
          → OwnComesFrom log_seen data_seen arch_seen arch_gives stands run archive starts before now
      pub calls : CallOnBoth log_gives data_gives first.parts now.parts
      pub stay : HasSameSeats first now

pub no_change : {L D A R : Type 0} (m : OwnMachine L D A R) → HasSameSeats m m
no_change m = record { users = refl; others = refl; entries = refl; room = refl }

pub no_changes : {L D A R : Type 0} (a b c : OwnMachine L D A R) → HasSameSeats a b → HasSameSeats b c
    → HasSameSeats a c
no_changes a b c one two = record {
  users = two.users ∙ one.users;
  others = two.others ∙ one.others;
  entries = two.entries ∙ one.entries;
  room = two.room ∙ one.room;
}

module _ {L D A R : Type 0} (log_seen : L → Seen) (log_gives : L → Call → L → Type 0) (data_seen : D → Seen)
    (data_gives : D → Call → D → Type 0) (arch_seen : A → Seen) (seed max : ℕ) where
  -- a run before its first turn
  pub starts_run : (seats : ℕ) (machine : OwnMachine L D A R)
      → OwnIsOnRun log_seen data_seen arch_seen machine
      → length machine.users.items + length machine.others.items ≡ seats
      → InOwnRun log_seen log_gives data_seen data_gives arch_seen seed max 0 (first_state seed) seats machine machine
  starts_run seats machine on count = record {
    drawn = λ _. refl;
    count = count;
    on_run = on;
    goes = λ run archive R. record { runs = R; taken = refl };
  }

  -- one turn more, of the seat whose turn it is
  pub goes_on : (turn draws draws_left seats seat : ℕ) (step : Step) (first old new : OwnMachine L D A R)
      → InOwnRun log_seen log_gives data_seen data_gives arch_seen seed max turn draws seats first old
      → (UsersHaveEnded old.users.items → ⊥)
      → seat ≡ seat_of_turn seed max seats turn → IsDrawn seed (turn + 1) max draws_left
      → OwnIsOnRun log_seen data_seen arch_seen new
      → ((run : RunOf L D) (archive : Bool) → OwnRunsWith log_seen data_seen run archive old.parts (seats_of old)
      → TakesOwnTurn log_seen log_gives data_seen data_gives run old.parts (seats_of old) seat step new.parts
      (seats_of new) × OwnRunsWith log_seen data_seen run archive new.parts (seats_of new))
      → HasSameSeats old new
      → InOwnRun log_seen log_gives data_seen data_gives arch_seen seed max (turn + 1) draws_left seats first new
  goes_on turn draws draws_left seats seat step first old new I open_user its drawn on keeps same = record {
    drawn = drawn;
    count = ap (λ (n : ℕ). n + length new.others.items) same.users
        ∙ ap (λ (n : ℕ). length old.users.items + n) same.others ∙ I.count;
    on_run = on;
    goes = λ run archive R.
        let before = I.goes run archive R in
        let taken = (keeps run archive before.runs).0 in
        let count : seats ≡ length old.users.items + length (views_of old.others.items) =
        sym (ap (λ (n : ℕ). length old.users.items + n) (length_views old.others.items) ∙ I.count) in
        let its_seat : seat ≡ seat_of_turn seed max (length old.users.items + length (views_of old.others.items)) turn =
        its ∙ ap (λ (n : ℕ). seat_of_turn seed max n turn) count in
        let moved = subst (λ (s : ℕ). TakesOwnTurn log_seen log_gives data_seen data_gives run old.parts
        (seats_of old) s step new.parts (seats_of new)) its_seat taken in
        record {
          runs = (keeps run archive before.runs).1;
          taken = one_more (own_run_store log_seen log_gives data_seen data_gives run) seed max turn
              (own_core_of log_seen data_seen run first.parts (seats_of first))
              (own_core_of log_seen data_seen run new.parts (seats_of new))
              (record {
                before = own_core_of log_seen data_seen run old.parts (seats_of old);
                earlier = before.taken;
                open_user = λ ended.
                    open_user (users_ended old.users.items old.work (views_of old.others.items) ended);
                step = step;
                turn = record { answer = moved.answer; turn = moved.turn; told = moved.asked };
              });
        };
  }

  -- a run in which each user has ended
  pub ends_done : (turn draws seats : ℕ) (first last : OwnMachine L D A R)
      → InOwnRun log_seen log_gives data_seen data_gives arch_seen seed max turn draws seats first last → turn ≤ max
      → UsersHaveEnded last.users.items → (run : RunOf L D) (archive : Bool)
      → OwnRunsWith log_seen data_seen run archive first.parts (seats_of first)
      → OwnRunEndsAs log_seen log_gives data_seen data_gives run seed max first.parts (seats_of first) ran.Done
      last.parts (seats_of last)
  ends_done turn draws seats first last I within ended run archive R =
      let goes = I.goes run archive R in
      record {
        count = turn;
        within = within;
        turns = goes.taken;
        ended = all_ended run.setup last.users.items last.work (views_of last.others.items) goes.runs.runs.seated ended;
      }

  -- a run whose turns are spent
  pub ends_spent : (turn draws seats user : ℕ) (first last : OwnMachine L D A R)
      → InOwnRun log_seen log_gives data_seen data_gives arch_seen seed max turn draws seats first last → turn ≡ max
      → IsFirstOpenUser last.users.items user → (run : RunOf L D) (archive : Bool)
      → OwnRunsWith log_seen data_seen run archive first.parts (seats_of first)
      → OwnRunEndsAs log_seen log_gives data_seen data_gives run seed max first.parts (seats_of first)
      (ran.Spent max user) last.parts (seats_of last)
  ends_spent turn draws seats user first last I all open_user run archive R =
      let goes = I.goes run archive R in
      let seated = goes.runs.runs.seated in
      let found = first_open run.setup last.users.items last.work (views_of last.others.items) seated user open_user
      in (
        refl,
        record {
          turns = subst (λ (n : ℕ). TakesTurns (own_run_store log_seen log_gives data_seen data_gives run) seed max n
              (own_core_of log_seen data_seen run first.parts (seats_of first))
              (own_core_of log_seen data_seen run last.parts (seats_of last))) all goes.taken;
          seat = found.seat;
          state = found.state;
          is = found.is;
          number = found.open_user.number;
          not_ended = found.open_user.not_ended;
          least = first_is_least run.setup (actors_of (seats_of last)) seated user found;
        },
      )

-- where a user hasn't ended there is a seat
pub some_seat : {R : Type 0} (users : List OwnUser) (others : List (Actor R)) (seats : ℕ)
    → length users + length others ≡ seats → (UsersHaveEnded users → ⊥) → 0 < seats
some_seat [] others seats count open_user =
    absurd (open_user (λ j o at. absurd (some-ne-none o (sym at))))
some_seat (x ∷ xs) others seats count open_user = omega arith
