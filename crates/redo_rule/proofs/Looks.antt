-- A look at a page, from its first load to its last.
use Rattle.std.proofs.Common.{List, [], ap, arith, length, length-append, refl, subst, sym, ℕ, ◌%◌, ◌*◌, ◌++◌, ◌+◌, ◌/◌, ◌<◌, ◌∙◌, ◌∷◌, ◌≡◌, ◌≢◌}
use Rattle.std.specs.Prelude.{slice_index}
use Rattle.atomic_table.specs.Seated.{TableId}
use Rattle.atomic_table.specs.Table.{Me}
use Rattle.atomic_table.specs.declared.shared.Seat.{Seat}
use Rattle.model_base.specs.{frame_length}
use Rattle.model_base.specs.declared.limits.TheConstants.{USER_START}
unfoldable use Rattle.model_core.specs.{lsn}
use Rattle.model_core.specs.declared.limits.TheConstants.{WORD_LANES}
use Rattle.model_core.specs.declared.words.Layout.{Layout}
use Rattle.model_log.specs.{lsn_of}
use Rattle.model_reads.specs.{added, begun, dated, freed, read_of}
use Rattle.model_reads.specs.declared.read.Glance.{Glance}
use Rattle.model_reads.specs.declared.read.ReadEnd.TheVariants.{Page}
use Rattle.redo_rule.proofs.LoadsOn.{at_then, ended_on, glanced_on, next_bytes, none_by, user_bytes_are}
use Rattle.redo_rule.specs.Reading.{Glanced, HasAllWords, HasReadSo, HasOwnBelow, HasReadNone, HasReadPage, IsAt, lane_at, looked, MayRead, numbered_heard, view_heard, with_glance, with_read}
use Rattle.redo_rule.specs.declared.law.Numbered.{Numbered}
use Rattle.redo_rule.specs.declared.law.Slot.{Slot}
use Rattle.redo_rule.specs.declared.law.View.{View}

-- THE WORDS SO FAR, of a page that is being read
module _ {L D : Type 0} (table : TableId) (layout : Layout) (page n : ℕ) (old now : Seat (Slot L D) (View L D))
    (number : ℕ) (bytes : List ℕ) (o : IsAt table old layout page (begun page n))
    (so : HasAllWords old page n (WORD_LANES * number) bytes now) where
  pub looking : IsAt table now layout page (looked page n so.words)
  looking = at_then table layout page old now (looked page n so.words) o.may so.glance refl

  pub words_long : length so.words ≡ number
  words_long = let a = so.all in omega arith

  -- and one more
  pub next_words : (word : ℕ) (new : Seat (Slot L D) (View L D)) (stored : List ℕ)
      → Glanced now (added (looked page n so.words) word) new → length stored ≡ length bytes
      → ((j : ℕ) → j < length bytes → (USER_START + j) / WORD_LANES ≡ number → slice_index stored j ≡ lane_at j word)
      → ((j : ℕ) → j < length bytes → (USER_START + j) / WORD_LANES ≢ number → slice_index stored j ≡ slice_index bytes j)
      → HasAllWords old page n (WORD_LANES * (number + 1)) stored new
  next_words word new stored then long here same = record {
    words = so.words ++ word ∷ [];
    all = let l = length-append so.words (word ∷ []) in let w = words_long in omega arith;
    glance = glanced_on table layout page old now new (looked page n so.words) (added (looked page n so.words) word)
        o.may so.glance then;
    its_bytes = next_bytes so.words word bytes stored long so.its_bytes
        (λ j low e. here j low (e ∙ words_long))
        (λ j low ne. same j low (λ e. ne (e ∙ sym words_long)));
  }

  -- or all of them
  pub all_words : (size : ℕ) → WORD_LANES * number ≡ size → HasAllWords old page n size bytes now
  all_words size is = record { words = so.words; all = so.all ∙ is; glance = so.glance; its_bytes = so.its_bytes }

-- the lsn that is answered
pub lsn_is : (sn answer : ℕ) → answer ≡ lsn_of sn → answer ≡ lsn sn
unfolding lsn
lsn_is sn answer is = is

-- A LOOK
module _ {L D : Type 0} (table : TableId) (layout : Layout) (page : ℕ) (old : Seat (Slot L D) (View L D))
    (may : MayRead table old layout page) (newest : ℕ) (t1 : Seat (Slot L D) (View L D))
    (one : Glanced old (begun page newest) t1) where
  pub begun_at : IsAt table t1 layout page (begun page newest)
  begun_at = at_then table layout page old t1 (begun page newest) may one refl

  module _ (size : ℕ) (bytes : List ℕ) (t2 : Seat (Slot L D) (View L D))
      (two : HasAllWords t1 page newest size bytes t2) where
    abbrev read_words : Glance
    read_words = looked page newest two.words

    pub words_at : IsAt table t2 layout page (looked page newest two.words)
    words_at = at_then table layout page t1 t2 read_words begun_at.may two.glance refl

    words_on : Glanced old read_words t2
    words_on = glanced_on table layout page old t1 t2 (begun page newest) read_words may one two.glance

    module _ (sn : ℕ) (t3 : Seat (Slot L D) (View L D))
        (three : Glanced t2 (dated (looked page newest two.words) sn) t3) where
      abbrev as_dated : Glance
      as_dated = dated (looked page newest two.words) sn

      pub dated_at : IsAt table t3 layout page (dated (looked page newest two.words) sn)
      dated_at = at_then table layout page t2 t3 as_dated words_at.may three refl

      dated_on : Glanced old as_dated t3
      dated_on = glanced_on table layout page old t2 t3 read_words as_dated may words_on three

      -- its latch was held
      pub held_none : (t4 : Seat (Slot L D) (View L D)) → Glanced t3 (dated (looked page newest two.words) sn) t4
          → HasReadNone old t4
      held_none t4 four = none_by old t4 as_dated (glanced_on table layout page old t3 t4 as_dated as_dated may dated_on four)

      module _ (t4 : Seat (Slot L D) (View L D))
          (four : Glanced t3 (freed (dated (looked page newest two.words) sn)) t4) where
        abbrev as_freed : Glance
        as_freed = freed (dated (looked page newest two.words) sn)

        pub freed_at : IsAt table t4 layout page (freed (dated (looked page newest two.words) sn))
        freed_at = at_then table layout page t3 t4 as_freed dated_at.may four refl

        freed_on : Glanced old as_freed t4
        freed_on = glanced_on table layout page old t3 t4 as_dated as_freed may dated_on four

        -- its NEWEST has moved
        pub moved_none : (t5 : Seat (Slot L D) (View L D))
            → Glanced t4 (freed (dated (looked page newest two.words) sn)) t5 → HasReadNone old t5
        moved_none t5 five = none_by old t5 as_freed
            (glanced_on table layout page old t4 t5 as_freed as_freed may freed_on five)

        -- the page was read
        pub has_read : ((x : Numbered) → t2.me.0.seats ≡ x ∷ [] → HasOwnBelow x.actor sn)
            → length bytes + frame_length ≡ size → (as_of : ℕ) → as_of ≡ lsn sn
            → (t5 : Seat (Slot L D) (View L D))
            → HasReadSo t4 (Page (read_of (freed (dated (looked page newest two.words) sn)))) t5
            → HasReadPage old page as_of bytes t5
        has_read own long as_of as_of_is t5 five =
            let all = ended_on table layout page old t4 t5 as_freed (Page (read_of as_freed)) may freed_on five in
            let same_bytes = user_bytes_are two.words bytes (long ∙ sym two.all) two.its_bytes in record {
              of = all.of;
              id = all.id;
              sn = sn;
              as_of_is = as_of_is;
              own = λ x sits. own (numbered_heard x (with_glance x.heard read_words))
                  (ap (λ (m : Me (Slot L D) (View L D)). m.0.seats) (words_on.is x sits));
              is = λ x sits. all.is x sits
                  ∙ ap (λ (l : ℕ). let m : Me (Slot L D) (View L D) = (
                    view_heard old.me.0 x (with_read x.heard
                        (Page (record { page = page; lsn = l; bytes = (read_of as_freed).bytes }))),
                    old.me.1,
                  ) in m) (sym as_of_is)
                  ∙ ap (λ (b : List ℕ). let m : Me (Slot L D) (View L D) = (
                    view_heard old.me.0 x (with_read x.heard
                        (Page (record { page = page; lsn = as_of; bytes = b }))),
                    old.me.1,
                  ) in m) (sym same_bytes);
            }
