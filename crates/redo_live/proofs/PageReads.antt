-- A user that reads pages in its seat.
use Rattle.std.proofs.Common.{List, None, Option, [], ap, arith, false, length, refl, subst, sym, ℕ}
use Rattle.std.proofs.Common.{⊎_elim, ◌%◌, ◌++◌, ◌+◌, ◌<◌, ◌∙◌}
use Rattle.std.proofs.Common.{◌∷◌, ◌≡◌, ◌≢◌, ◌≤◌}
use Rattle.std.specs.List.{AllByRecursion}
use Rattle.std.specs.Prelude.{slice_index}
use lib.ListN.{get_elem?}
use mathlib.Core.Option.{some}
use Rattle.atomic_table.specs.Seated.{TableId}
use Rattle.atomic_table.specs.Table.{Me}
use Rattle.atomic_table.specs.declared.shared.Seat.{Seat}
use Rattle.model_base.specs.{frame_length}
unfoldable use Rattle.model_base.specs.{IsPageSize}
use Rattle.model_base.specs.declared.shape.Shape.{Shape}
use Rattle.model_core.proofs.Lsns.{lsn_le}
use Rattle.model_core.specs.{line_at, lsn, UserState, word_count}
use Rattle.model_core.specs.States as model
use Rattle.model_core.specs.Hands.{hand}
use Rattle.model_core.specs.declared.limits.TheConstants.{WORD_LANES}
use Rattle.model_core.specs.declared.words.Layout.{Layout}
use Rattle.model_logcore.specs.{lengths}
use Rattle.model_reads.specs.declared.read.ReadEnd.{ReadEnd}
use Rattle.model_reads.specs.declared.read.ReadEnd.TheVariants as read_end
use Rattle.model_reads.specs.{IsReadEndOf}
use Rattle.model_report.specs.{wholes_of}
use Rattle.model_running.specs.Schedule.{HasEnded}
use Rattle.model_script.specs.declared.misfit.TheConstants.{MAX_USERS}
use Rattle.redo_disk.specs.{Call}
use Rattle.redo_disk.specs.Sight.{Seen}
use Rattle.redo_drive.specs.declared.actor.Actor.TheVariants as actor
use Rattle.redo_follow.specs.declared.tally.Tally.{Tally}
use Rattle.redo_live.proofs.Answered.{seat_of_user}
use Rattle.redo_live.proofs.Closed.{user_rests}
use Rattle.redo_live.proofs.GoneOn.{goes_by}
use Rattle.redo_live.specs.Closing.{LeavesStore}
use Rattle.redo_live.specs.Holding.{IsUserOf, reads_of, shape_of, state_in, state_of}
use Rattle.redo_live.specs.Later.{HasGoneOn}
use Rattle.redo_live.specs.Reading.{end_of, HasReadSo}
use Rattle.redo_live.specs.Reading as live
use Rattle.redo_live.specs.Serving.{Stays}
use Rattle.redo_live.specs.declared.store.Store.{Store}
use Rattle.redo_live.specs.declared.user.User.{User}
use Rattle.redo_ownrule.specs.Playing.{IsPlayerSeat}
use Rattle.redo_ownrule.specs.Sharing.{opened_of, table_of}
use Rattle.redo_ownrule.specs.declared.player.Player.{Player}
use Rattle.redo_ownrule.specs.declared.player.Player.TheVariants as player
use Rattle.redo_rule.specs.Mine.{heard_in, heard_of, number_in, number_of}
use Rattle.redo_rule.specs.Plays.{Carries, MayGo}
use Rattle.redo_rule.specs.Reading.{HasOwnBelow, HasReadPage, MayRead, numbered_heard, view_heard, with_read}
use Rattle.redo_rule.specs.Reading as rule
use Rattle.redo_rule.specs.Seating.{IsSeatOf}
use Rattle.redo_rule.specs.declared.closing.Left.{Left}
use Rattle.redo_rule.specs.declared.law.Heard.{Heard}
use Rattle.redo_rule.specs.declared.law.Keeping.{Keeping}
use Rattle.redo_rule.specs.declared.law.Numbered.{Numbered}
use Rattle.redo_rule.specs.declared.law.Slot.{Slot}
use Rattle.redo_rule.specs.declared.law.View.{View}
use Rattle.redo_words.specs.{shape_layout}

sized_words : (n m : ℕ) → IsPageSize m → n ≡ m → n % WORD_LANES ≡ 0
unfolding IsPageSize
sized_words n m sized same = subst (λ (k : ℕ). k % WORD_LANES ≡ 0) (sym same)
    (⊎_elim (λ e. subst (λ (k : ℕ). k % WORD_LANES ≡ 0) (sym e) refl)
    (λ e. subst (λ (k : ℕ). k % WORD_LANES ≡ 0) (sym e) refl) sized)

sized_frame : (n m : ℕ) → IsPageSize m → n ≡ m → frame_length ≤ n
unfolding IsPageSize
sized_frame n m sized same = ⊎_elim (λ e. omega arith) (λ e. omega arith) sized

module _ {L D : Type 0} (store : Store L D) (old : User L D) (was : IsUserOf store old) where
  pub its_seat : IsSeatOf (table_of store.shared) old.seat (model.User (state_of old))
  its_seat = seat_of_user (table_of store.shared) old.seat (state_of old) old.player was.plays was.sits

  abbrev who : Numbered
  who = its_seat.mine.who

  sits : old.seat.me.0.seats ≡ who ∷ []
  sits = its_seat.mine.one

  -- A PAGE MAY BE READ in its seat
  pub may_read : (table : TableId) → table ≡ table_of store.shared → (layout : Layout) → layout ≡ store.shared.layout
      → (number : ℕ) → number < (shape_of store).pages → MayRead table old.seat layout number
  may_read table table_is layout layout_is number there = record {
    of = its_seat.mine.of ∙ sym table_is;
    words = ap (λ (t : TableId). t.words) table_is ∙ its_seat.mine.words ∙ ap word_count (was.layout ∙ sym layout_is);
    layout_is = was.layout ∙ sym layout_is;
    who = who;
    sits = sits;
    there = subst (λ (l : Layout). number < l.pages) (sym (layout_is ∙ was.is_open.layout_is)) there;
  }

  -- a page is of whole words, and has more than user bytes
  pub whole_words : (layout : Layout) → layout ≡ store.shared.layout → (layout.page_size % WORD_LANES ≡ 0)
      × (frame_length ≤ layout.page_size) × (layout.page_size ≡ (shape_of store).page_size)
  whole_words layout layout_is =
      let same : layout.page_size ≡ (shape_of store).page_size =
      ap (λ (l : Layout). l.page_size) (layout_is ∙ was.is_open.layout_is) in
      let sized = was.is_open.limits.page_size in
      let shape = ap (λ (s : Shape). s.page_size) was.is_open.shape_is in (
        sized_words layout.page_size store.shape.page_size sized (omega arith),
        sized_frame layout.page_size store.shape.page_size sized (omega arith),
        same,
      )

  -- ONCE THE SEAT HAS HEARD THIS, and all else of the user is as it was
  module _ (new : User L D) (plays : new.player ≡ old.player) (used : new.used ≡ old.used)
      (of : new.seat.table_id ≡ old.seat.table_id) (heard : Heard)
      (is : new.seat.me ≡ (view_heard old.seat.me.0 who heard, old.seat.me.1)) where
    abbrev Its : Type 0
    Its = Me (Slot L D) (View L D)

    pub same : state_of new ≡ state_of old
    same = ap state_in plays

    layout_same : new.seat.me.0.layout ≡ old.seat.me.0.layout
    layout_same = ap (λ (m : Its). m.0.layout) is

    pub number_same : number_of new.seat.me.0 ≡ number_of old.seat.me.0
    number_same = ap (λ (m : Its). number_of m.0) is ∙ sym (ap number_in sits)

    pub reads_are : ◌≡◌ {A = List ReadEnd} (reads_of new) heard.reads
    reads_are = ap (λ (m : Its). (heard_of m.0).reads) is

    pub reads_were : ◌≡◌ {A = List ReadEnd} (reads_of old) who.heard.reads
    reads_were = ap (λ (l : List Numbered). (heard_in l).reads) sits

    free : hand (model.User (state_of old)) ≡ None
    free = (user_rests (state_of old) was.ended).no_slot

    empty : old.seat.me.1 ≡ []
    empty = subst (λ (h : Option ℕ). Carries h old.seat.me) free its_seat.mine.carries

    its_seat_then : IsSeatOf (table_of store.shared) new.seat (model.User (state_of old))
    its_seat_then = record {
      mine = record {
        of = of ∙ its_seat.mine.of;
        slots = its_seat.mine.slots;
        words = its_seat.mine.words ∙ ap word_count (sym layout_same);
        who = numbered_heard who heard;
        one = ap (λ (m : Its). m.0.seats) is;
        state = its_seat.mine.state;
        plain = its_seat.mine.plain;
        carries = subst (λ (h : Option ℕ). Carries h new.seat.me) (sym free) (ap (λ (m : Its). m.1) is ∙ empty);
        may = subst (λ (m : Its). MayGo m.0.layout m.0.held m.0.data_part (model.User (state_of old))) (sym is)
            its_seat.mine.may;
      };
      home = λ d has. its_seat.home d (sym (ap (λ (m : Its). m.0.data_part) is) ∙ has);
      cleaner = λ cleans. absurd cleans;
    }

    -- IT IS THE STORE'S USER STILL
    pub stays_user : Stays store old new
    stays_user = record {
      user = record {
        is_open = was.is_open;
        plays = plays ∙ was.plays ∙ ap (λ (u : UserState). player.Plain (actor.User u)) (sym same);
        sits = subst (λ (p : Player Tally). IsPlayerSeat (table_of store.shared) new.seat p)
            (sym (plays ∙ was.plays)) its_seat_then;
        layout = layout_same ∙ was.layout;
        number = ap (λ (u : UserState). u.user) same ∙ was.number ∙ ap (λ (n : ℕ). n + 1) (sym number_same);
        few = subst (λ (u : UserState). u.user ≤ MAX_USERS) (sym same) was.few;
        ended = subst HasEnded (sym same) was.ended;
        used = used ∙ was.used ∙ ap (λ (u : UserState). lengths u.lines) (sym same);
        within = (let w = was.within in omega arith);
      };
      place = number_same;
    }

  -- A READ HAS COME TO THIS
  module _ (new : User L D) (plays : new.player ≡ old.player) (used : new.used ≡ old.used) (came : ReadEnd)
      (of : new.seat.table_id ≡ old.seat.table_id)
      (is : new.seat.me ≡ (view_heard old.seat.me.0 who (with_read who.heard came), old.seat.me.1)) where
    pub so_stays : Stays store old new
    so_stays = stays_user new plays used of (with_read who.heard came) is

    pub has_read_so : HasReadSo old came new
    has_read_so =
        let state = same new plays used of (with_read who.heard came) is in
        let reads : ◌≡◌ {A = List ReadEnd} (reads_of new) (reads_of old ++ came ∷ []) =
        reads_are new plays used of (with_read who.heard came) is
        ∙ ap (λ (l : List ReadEnd). l ++ came ∷ [])
        (sym (reads_were new plays used of (with_read who.heard came) is)) in record {
          same = state;
          reads = reads;
          goes_on = goes_by old new (came ∷ []) state reads;
        }

  -- THE RUN HAS FAILED
  module _ (new : User L D) (plays : new.player ≡ old.player) (used : new.used ≡ old.used) (code : ℕ)
      (o : rule.HasReadSo old.seat (read_end.Failed code) new.seat) where
    pub failed_stays : Stays store old new
    failed_stays = so_stays new plays used (read_end.Failed code) o.of (o.is who sits)

    pub has_failed : HasReadSo old (read_end.Failed code) new
    has_failed = has_read_so new plays used (read_end.Failed code) o.of (o.is who sits)

  -- THE PAGE IS READ
  module _ (new : User L D) (plays : new.player ≡ old.player) (used : new.used ≡ old.used) (number as_of : ℕ)
      (bytes : List ℕ) (o : HasReadPage old.seat number as_of bytes new.seat) where
    abbrev one : ReadEnd
    one = read_end.Page (record { page = number; lsn = as_of; bytes = bytes })

    pub read_stays : Stays store old new
    read_stays = so_stays new plays used one o.of (o.is who sits)

    -- it comes behind the groups of the user
    behind : HasOwnBelow (model.User (state_of old)) o.sn
    behind = subst (λ (a : model.Actor). HasOwnBelow a o.sn) its_seat.mine.state (o.own who sits)

    pub has_read : store.log_only ≡ false → live.HasReadPage store old number as_of bytes new
    has_read with_pages = record {
      with_pages = with_pages;
      read = has_read_so new plays used one o.of (o.is who sits);
      own = λ k low.
          let u = state_of old in
          let le = lsn_le (slice_index u.starts k + length (line_at u.lines k).bytes) o.sn (behind k low) in
          let e = o.as_of_is in omega arith;
    }

-- what holds of each holds of one among them
pub among : {A : Type 0} (P : A → Type 0) (xs more : List A) (x : A) → AllByRecursion P ((xs ++ x ∷ []) ++ more) → P x
among P [] more x all = all.0
among P (y ∷ ys) more x all = among P ys more x all.1

-- WHAT A READ CAME TO holds of the run that the store leaves
module _ {L D : Type 0} (log_seen : L → Seen) (log_gives : L → Call → L → Type 0) (data_seen : D → Seen)
    (data_gives : D → Call → D → Type 0) (store : Store L D) (users : List (User L D)) (left : Left L D)
    (old new last : User L D) (i : ℕ) (came : ReadEnd) (with_pages : store.log_only ≡ false)
    (read : HasReadSo old came new) (on : HasGoneOn new last) (at : get_elem? users i ≡ some last)
    (leaves : LeavesStore log_seen log_gives data_seen data_gives store users left) where
  abbrev IsOf : ReadEnd → Type 0
  IsOf = IsReadEndOf (opened_of store.shared).pages
      (wholes_of leaves.leaves.script (shape_of store).space leaves.leaves.history) left.code

  pub came_so : IsReadEndOf (opened_of store.shared).pages
      (wholes_of leaves.leaves.script (shape_of store).space leaves.leaves.history) left.code came
  came_so = among IsOf (reads_of old) on.reads.0 came (subst (AllByRecursion IsOf)
      (leaves.of_reads i last at ∙ on.reads.1 ∙ ap (λ (l : List ReadEnd). l ++ on.reads.0) read.reads)
      (leaves.leaves.are_read with_pages (number_of last.seat.me.0)))
