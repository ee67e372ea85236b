-- A user plays to its end, and what it was answered.
use Rattle.std.proofs.Common.{List, [], ap, append-nil, arith, inr, length, length-append, refl, subst, sym, ℕ}
use Rattle.std.proofs.Common.{⊎_elim, ◌++◌}
use Rattle.std.proofs.Common.{◌+◌, ◌<◌}
use Rattle.std.proofs.Common.{◌∙◌, ◌∷◌, ◌≡◌, ◌≢◌}
use Rattle.atomic_table.specs.Seated.{TableId}
use Rattle.atomic_table.specs.declared.shared.Seat.{Seat}
use Rattle.model_core.specs.{Given, Line, UserState}
use Rattle.model_core.specs.States as model
use Rattle.model_core.specs.declared.steps.UserStep.TheVariants as user_step
use Rattle.model_logcore.specs.{lengths}
use Rattle.model_running.specs.Schedule.{HasEnded}
use Rattle.model_script.specs.{LineFits}
use Rattle.model_script.specs.declared.item.Item.{Item}
use Rattle.model_script.specs.declared.script.ScriptLine.{ScriptLine}
use Rattle.redo_drive.specs.{view_of}
use Rattle.redo_follow.specs.declared.tally.Tally.{Tally}
use Rattle.redo_live.proofs.Later.{state_is, user_later}
use Rattle.redo_live.specs.Committing.{HasCommitted, HasFailed, HasPlayed, HasTaken, MayPlay, program_line}
use Rattle.redo_live.specs.Holding.{IsPlayedBy, IsUserOf, line_by, reads_of, shape_of, state_of}
use Rattle.redo_live.specs.Later.{HasGoneOn}
use Rattle.redo_live.specs.Telling.{HasAnswered, last_end}
use Rattle.redo_live.specs.declared.store.Store.{Store}
use Rattle.redo_live.specs.declared.user.User.{User}
use Rattle.redo_ownrule.specs.Players.{actor_of}
use Rattle.redo_ownrule.specs.Playing.{IsPlayerSeat}
use Rattle.redo_ownrule.specs.Sharing.{table_of}
use Rattle.redo_ownrule.specs.declared.player.Player.{Player}
use Rattle.redo_rule.specs.HandIn.{with_line}
use Rattle.redo_rule.specs.Mine.{number_of}
use Rattle.redo_rule.specs.Seating.{IsSeatOf}
use Rattle.redo_rule.specs.declared.law.Slot.{Slot}
use Rattle.redo_rule.specs.declared.law.View.{View}
use Rattle.redo_threads.specs.Working.{AtEnd, GoesOn, IsUserOver}

-- the seat of a user's player is the user's
pub seat_of_user : {L D R : Type 0} (table : TableId) (seat : Seat (Slot L D) (View L D)) (u : UserState) (p : Player R)
    → IsPlayedBy u p → IsPlayerSeat table seat p → IsSeatOf table seat (model.User u)
seat_of_user {L} {D} {R} table seat u p plays sits = subst (λ (q : Player R). IsPlayerSeat table seat q) plays sits

-- the bytes of lines, and of one more
pub lengths_more : (lines : List Line) (line : Line) → lengths (lines ++ line ∷ []) ≡ lengths lines + length line.bytes
lengths_more [] line = omega arith
lengths_more (x ∷ xs) line = let r = lengths_more xs line in omega arith

-- a user that has ended, and hasn't failed, has done its lines
pub is_done : (u : UserState) → HasEnded u → u.step ≢ user_step.Failed → u.step ≡ user_step.Done
is_done u ended well = ⊎_elim (λ done. done) (λ failed. absurd (well failed)) ended

module _ {L D : Type 0} (stands : Tally → List Given → Type 0) (store : Store L D) (u : UserState) (old new : User L D)
    (table : TableId) (table_is : table ≡ table_of store.shared) (may : MayPlay store u old) where
  pub its_place : IsPlayerSeat table old.seat old.player
  its_place = subst (λ (t : TableId). IsPlayerSeat t old.seat old.player) (sym table_is) may.sits

  -- IT HAS PLAYED to its end
  pub has_played : GoesOn stands table old.seat old.player new.seat new.player → AtEnd new.player
      → new.used ≡ old.used → HasPlayed store u old new
  has_played goes ends used =
      let later = user_later u old.player new.player may.plays goes.player in record {
        state = later.state;
        now = record {
          plays = later.plays;
          sits = subst (λ (t : TableId). IsPlayerSeat t new.seat new.player) table_is goes.seat;
          layout = goes.same.layout ∙ may.layout;
        };
        ended = subst (λ (q : Player Tally). IsUserOver (view_of (actor_of q))) later.plays ends.over;
        number = later.number;
        lines = later.lines;
        answered = later.answered;
        starts = later.starts;
        seat_number = goes.same.number;
        reads = goes.same.reads;
        used = used;
      }

module _ {L D : Type 0} (store : Store L D) (u : UserState) (user : User L D) (may : MayPlay store u user)
    (done : u.step ≡ user_step.Done) where
  sits : IsSeatOf (table_of store.shared) user.seat (model.User u)
  sits = seat_of_user (table_of store.shared) user.seat u user.player may.plays may.sits

  pub all_done : u.k ≡ length u.lines
  all_done = sits.mine.may.done u refl done

  pub all_reserved : length u.starts ≡ length u.lines
  all_reserved = sits.mine.may.no_more u refl done ∙ all_done

  -- a user that has done a line has its answer
  pub has_answered : 0 < length u.lines → HasAnswered u
  has_answered some = record {
    done = done;
    some_group = (let n = all_reserved in omega arith);
    groups = sits.mine.may.groups;
  }

-- a list of one element
only : (more : List ℕ) → length more ≡ 1 → (start : ℕ) × (more ≡ start ∷ [])
only [] one = absurd (omega arith)
only (x ∷ []) one = (x, refl)
only (x ∷ y ∷ more) one = absurd (omega arith)

-- A USER TAKES A LINE AND PLAYS
module _ {L D : Type 0} (store : Store L D) (old mid new : User L D) (line : ScriptLine) (was : IsUserOf store old)
    (took : HasTaken store old line mid)
    (played : HasPlayed store (with_line (state_of old) (program_line store line)) mid new) where
  pub its_state : state_of new ≡ played.state
  its_state = state_is played.state new.player played.now.plays

  pub its_lines : (state_of new).lines ≡ (state_of old).lines ++ program_line store line ∷ []
  its_lines = ap (λ (s : UserState). s.lines) its_state ∙ played.lines

  its_number : (state_of new).user ≡ (state_of old).user
  its_number = ap (λ (s : UserState). s.user) its_state ∙ played.number

  its_seat : number_of new.seat.me.0 ≡ number_of old.seat.me.0
  its_seat = played.seat_number ∙ took.number

  pub is_user : IsUserOf store new
  is_user = record {
    is_open = was.is_open;
    plays = subst (λ (s : UserState). IsPlayedBy s new.player) (sym its_state) played.now.plays;
    sits = played.now.sits;
    layout = played.now.layout;
    number = (let n = its_number in let s = its_seat in let w = was.number in omega arith);
    few = (let n = its_number in let w = was.few in omega arith);
    ended = subst HasEnded (sym its_state) played.ended;
    used = played.used ∙ took.used ∙ sym (lengths_more (state_of old).lines (program_line store line))
        ∙ sym (ap lengths its_lines);
    within = (let e = played.used in let w = took.within in omega arith);
  }

  lines_count : length played.state.lines ≡ length (state_of old).lines + 1
  lines_count =
      let n = ap (λ (l : List Line). length l) played.lines in
      let m = length-append (state_of old).lines (program_line store line ∷ []) in omega arith

  its_starts : (more : List ℕ) × ((state_of new).starts ≡ (state_of old).starts ++ more)
  its_starts = (played.starts.0, ap (λ (s : UserState). s.starts) its_state ∙ played.starts.1)

  -- it has gone on
  has_gone_on : HasGoneOn old new
  has_gone_on = record {
    number = its_number;
    lines = (program_line store line ∷ [], its_lines);
    starts = its_starts;
    answered = (let k = ap (λ (s : UserState). s.k) its_state in let l = played.answered in omega arith);
    failed = λ step. absurd (let done = sym took.done ∙ step in cc);
    reads = ([], played.reads ∙ took.reads ∙ sym (append-nil (reads_of old)));
  }

  -- by one group, where it has done its lines
  one_start : length played.state.starts ≡ length played.state.lines
      → (start : ℕ) × ((state_of new).starts ≡ (state_of old).starts ++ start ∷ [])
  unfolding its_starts
  one_start all =
      let before = all_reserved store (state_of old) old
      (record { plays = was.plays; sits = was.sits; layout = was.layout }) took.done in
      let n = ap (λ (l : List ℕ). length l) played.starts.1 in
      let m = length-append (state_of old).starts played.starts.0 in
      let l = lines_count in
      let one = only played.starts.0 (omega arith) in
      (one.0, its_starts.1 ∙ ap (λ (l : List ℕ). (state_of old).starts ++ l) one.1)

  some_lines : 0 < length played.state.lines
  some_lines = let n = lines_count in omega arith

  -- IT HAS COMMITTED
  pub has_committed : (mode : ℕ) (items : List Item) → line ≡ line_by old mode items
      → played.state.step ≢ user_step.Failed → (end : ℕ) → end ≡ last_end played.state
      → HasCommitted store old mode items new end
  has_committed mode items line_is well end end_is =
      let done = is_done played.state played.ended well in
      let all = all_done store played.state new played.now done in
      let starts = all_reserved store played.state new played.now done in record {
        was_done = took.done;
        fits = subst (λ (l : ScriptLine). LineFits (shape_of store) l) line_is took.fits;
        lines = its_lines ∙ ap (λ (l : ScriptLine). (state_of old).lines ++ program_line store l ∷ []) line_is;
        done = ap (λ (s : UserState). s.step) its_state ∙ done;
        answered = subst (λ (s : UserState). s.k ≡ length s.lines) (sym its_state) all;
        goes_on = has_gone_on;
        starts = one_start starts;
        reserved = subst (λ (s : UserState). length s.starts ≡ length s.lines) (sym its_state) starts;
        end_is = end_is ∙ ap last_end (sym its_state);
      }

  -- it may be asked for its answer
  pub may_answer : played.state.step ≢ user_step.Failed → HasAnswered played.state
  may_answer well =
      has_answered store played.state new played.now (is_done played.state played.ended well) some_lines

  -- OR IT HAS FAILED
  pub has_failed : (mode : ℕ) (items : List Item) → line ≡ line_by old mode items
      → played.state.step ≡ user_step.Failed → (code : ℕ) → code ≡ played.state.code
      → HasFailed store old (line_by old mode items) code new
  has_failed mode items line_is failed code code_is = record {
    failed = ap (λ (s : UserState). s.step) its_state ∙ failed;
    code_is = ap (λ (s : UserState). s.code) its_state ∙ sym code_is;
    goes_on = has_gone_on;
    lines = inr (took.done, its_lines ∙ ap (λ (l : ScriptLine). (state_of old).lines ++ program_line store l ∷ []) line_is);
  }
