-- The actors of a machine whose users write for themselves, as the machine keeps them and as its run leaves them.
use Rattle.std.specs.Prelude.{List, [], length, map, vec_capacity, ◌++◌, ◌+◌, ◌∷◌, ◌≡◌, ◌≤◌}
use Rattle.model_core.specs.{FlusherState, UserState, WriterState}
use Rattle.model_own.specs.{LogWork, OwnUser}
use Rattle.redo_drive.specs.{views_of}
use Rattle.redo_drive.specs.declared.actor.Actor.{Actor}
use Rattle.redo_drive.specs.declared.actor.Actor.TheVariants as own
use Rattle.redo_ownmachine.specs.OwnSeats.{OwnSeats}
use Rattle.redo_ownmachine.specs.declared.machine.OwnMachine.{OwnMachine}

abbrev pub seats_of : {L D A R : Type 0} → OwnMachine L D A R → OwnSeats
seats_of m = record { users = m.users.items; work = m.work; others = views_of m.others.items }

-- the users as actors, without their errands
abbrev pub users_alone : {R : Type 0} → List OwnUser → List (Actor R)
users_alone users = map (λ o. own.User o.user) users

-- the same as the actors that a run by turns leaves
abbrev pub crew : {R : Type 0} → List OwnUser → LogWork → List (Actor R) → List (Actor R)
crew users work others = users_alone users ++ own.Writer work.writer ∷ own.Flusher work.flusher ∷ others

abbrev pub crew_of : {L D A R : Type 0} → OwnMachine L D A R → List (Actor R)
crew_of m = crew m.users.items m.work m.others.items

-- no user, writer or flusher
abbrev pub IsOther : {R : Type 0} → Actor R → Type 0
IsOther (own.User u) = ⊥
IsOther (own.Writer s) = ⊥
IsOther (own.Flusher t) = ⊥
IsOther _ = Unit {0}

abbrev pub AreOthers : {R : Type 0} → List (Actor R) → Type 0
AreOthers [] = Unit {0}
AreOthers (a ∷ actors) = IsOther a × AreOthers actors

-- users, one writer and one flusher behind them, and then others
pub record HaveWorkers {R : Type 0} (actors : List (Actor R)) : Type 0 where
  pub users : List UserState
  pub writer : WriterState
  pub flusher : FlusherState
  pub others : List (Actor R)
  pub are : ◌≡◌ {A = List (Actor R)} actors (map own.User users ++ own.Writer writer ∷ own.Flusher flusher ∷ others)
  pub kinds : AreOthers others

-- there is room for all as actors
pub record HasRoom {L D A R : Type 0} (m : OwnMachine L D A R) : Type 0 where
  pub empty : m.room.items ≡ []
  pub enough : length m.users.items + 2 + length m.others.items ≤ vec_capacity m.room

-- nobody has come or gone, and both rooms are as they were
pub record HasSameSeats {L D A R : Type 0} (old new : OwnMachine L D A R) : Type 0 where
  pub users : length new.users.items ≡ length old.users.items
  pub others : length new.others.items ≡ length old.others.items
  pub entries : new.entries ≡ old.entries
  pub room : new.room ≡ old.room
