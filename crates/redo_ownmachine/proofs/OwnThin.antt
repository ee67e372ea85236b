-- A turn of a store whose users write for themselves, over the sides of the invariant, is one over those that tell
-- nothing of what a device holds.
use Rattle.std.proofs.Common.{inl, inr, ℕ, ⊎_elim, ◌+◌}
use Rattle.model_core.specs.declared.ops.Answer.{Answer}
use Rattle.model_core.specs.declared.ops.Step.{Step}
use Rattle.model_own.specs.{OtherTurn, OwnCore, OwnTurn, UserTurn, with_writer, own_lends, own_next}
use Rattle.redo_disk.specs.{Seen}
use Rattle.redo_drive.proofs.ThinTurns.{data_thin, log_thin, turn_thin}
use Rattle.redo_drive.specs.Sides.{RunOf, run_data_side, run_log_side}
use Rattle.redo_drive.specs.{turn_data_side, turn_log_side}

module _ {L D : Type 0} (log_seen : L → Seen) (data_seen : D → Seen) (run : RunOf L D) where
  -- the state of the one as that of the other
  abbrev pub own_thin : OwnCore (run_log_side log_seen data_seen run) (run_data_side log_seen data_seen run)
      → OwnCore (turn_log_side log_seen) (turn_data_side data_seen)
  own_thin s = record {
    layout = s.layout;
    words = s.words;
    log_part = s.log_part;
    data_part = s.data_part;
    lists = s.lists;
    users = s.users;
    work = s.work;
    others = s.others;
  }

  module _ (old new : OwnCore (run_log_side log_seen data_seen run) (run_data_side log_seen data_seen run)) (seat : ℕ)
      (answer : Answer) (how : Step) where
    of_user :
        UserTurn (run_log_side log_seen data_seen run) (run_data_side log_seen data_seen run) old seat answer how new
        → UserTurn (turn_log_side log_seen) (turn_data_side data_seen) (own_thin old) seat answer how (own_thin new)
    of_user u = record {
      who = u.who;
      who_is = u.who_is;
      code = u.code;
      log_served = log_thin log_seen data_seen run old.log_part new.log_part u.code (own_lends u.who old.work)
          (own_next u.who old.work) u.log_served;
      data_served = data_thin log_seen data_seen run old.data_part new.data_part u.code (own_lends u.who old.work)
          (own_next u.who old.work) u.data_served;
      layout = u.layout;
      words = u.words;
      lists = u.lists;
      answered = u.answered;
      users = u.users;
      work = u.work;
      others = u.others;
      ends = u.ends;
    }

    of_other :
        OtherTurn (run_log_side log_seen data_seen run) (run_data_side log_seen data_seen run) old seat answer how new
        → OtherTurn (turn_log_side log_seen) (turn_data_side data_seen) (own_thin old) seat answer how (own_thin new)
    of_other o = record {
      after = o.after;
      turn = turn_thin log_seen data_seen run (with_writer old) (with_writer new) (seat + 2) answer how o.turn;
      users = o.users;
      work = o.work;
    }

    pub own_turn_thin :
        OwnTurn (run_log_side log_seen data_seen run) (run_data_side log_seen data_seen run) old seat answer how new
        → OwnTurn (turn_log_side log_seen) (turn_data_side data_seen) (own_thin old) seat answer how (own_thin new)
    own_turn_thin t = ⊎_elim (λ u. inl (of_user u)) (λ o. inr (of_other o)) t
