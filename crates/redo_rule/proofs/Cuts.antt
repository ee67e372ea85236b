-- A seat that was cut off, and one that took in another.
use Rattle.std.proofs.Common.{Bool, List, None, Option, Some, [], ap, arith, cond, false, refl, subst, suc, sym, true, zero, ℕ, ◌++◌, ◌<◌, ◌∙◌, ◌∷◌, ◌≡◌}
use lib.ListN.{get_elem?}
use mathlib.Core.Option as maybe
use Rattle.atomic_table.specs.Seated.{TableId}
use Rattle.atomic_table.specs.Table.{Allows, Joins, Me, Splits}
use Rattle.atomic_table.specs.declared.shared.Seat.{Seat}
use Rattle.model_core.specs.{word_count, hand}
use Rattle.redo_disk.specs.{Call, Seen}
use Rattle.redo_rule.proofs.Allowed.{allows_look}
use Rattle.redo_rule.proofs.Retook.{one_head}
use Rattle.redo_rule.proofs.Seated.{joins_ok, splits_ok}
use Rattle.redo_rule.specs.Cutting.{AreAtRest, IsFirst, MayCut, MayTakeIn}
use Rattle.redo_rule.specs.Mine.{Mine}
use Rattle.redo_rule.specs.Plays.{Carries, looked}
use Rattle.redo_rule.specs.Ruled.{Ruled}
use Rattle.redo_rule.specs.Seats.{cut_left, cut_right, first_numbered, first_some, heads_cleaner, rest_numbered, spent, taken_in}
use Rattle.redo_rule.specs.declared.law.About.{About}
use Rattle.redo_rule.specs.declared.law.Errand.{Errand}
use Rattle.redo_rule.specs.declared.law.Keeping.{Keeping}
use Rattle.redo_rule.specs.declared.law.Numbered.{Numbered}
use Rattle.redo_rule.specs.declared.law.Slot.{Slot}
use Rattle.redo_rule.specs.declared.law.View.{View}

tail_rest : (l : List Numbered) → AreAtRest l → AreAtRest (rest_numbered l)
tail_rest [] rest i y e = absurd (maybe.some-ne-none y (sym e))
tail_rest (x ∷ xs) rest i y e = rest (suc i) y e

joined_rest : (xs ys : List Numbered) → AreAtRest xs → AreAtRest ys → AreAtRest (xs ++ ys)
joined_rest [] ys r q i y e = q i y e
joined_rest (x ∷ xs) ys r q zero y e = r zero y e
joined_rest (x ∷ xs) ys r q (suc i) y e = joined_rest xs ys (λ j z f. r (suc j) z f) q i y e

cut_home : {D : Type 0} (b : Bool) (o : Option (Keeping D)) (d : Keeping D) → ((e : Keeping D) → o ≡ Some e → e.out ≡ false) → cond b None o ≡ Some d → d.out ≡ false
cut_home true o d home is = absurd (cc)
cut_home false o d home is = home d is

joined_home : {D : Type 0} (o p : Option (Keeping D)) (d : Keeping D) → ((e : Keeping D) → o ≡ Some e → e.out ≡ false) → ((e : Keeping D) → p ≡ Some e → e.out ≡ false) → first_some o p ≡ Some d → d.out ≡ false
joined_home (Some x) p d home other is = home d is
joined_home None p d home other is = other d is

module _ {L D : Type 0} (log_seen : L → Seen) (log_gives : L → Call → L → Type 0) (data_seen : D → Seen) (data_gives : D → Call → D → Type 0) (about : About L D) (table : TableId) (first : Seat (Slot L D) (View L D)) (F : IsFirst table first) where
  some_words : 0 < table.words
  some_words = let w = F.words in omega arith

  module _ (M : MayCut first.me.0) where
    pub cut_ok : (first.table_id ≡ table) × (0 < table.words) × Splits (Ruled log_seen log_gives data_seen data_gives about) first.id first.me.0 (cut_left first.me.0) (cut_right first.me.0)
    cut_ok = (F.of, some_words, splits_ok log_seen log_gives data_seen data_gives about first.id first.me.0 M.head M.others M.are F.empty M.apart)

    module _ (token : Seat (Slot L D) (View L D)) (of : token.table_id ≡ first.table_id) (me_is : token.me ≡ (cut_right first.me.0, [])) where
      one : token.me.0.seats ≡ M.head ∷ []
      one = ap (λ (m : Me (Slot L D) (View L D)). m.0.seats) me_is ∙ ap first_numbered M.are

      pub look_ok : (token.table_id ≡ table) × (0 < table.words) × Allows (Ruled log_seen log_gives data_seen data_gives about) table.slots token.id token.me 0 (λ n. n) (looked log_seen data_seen token.me)
      look_ok = (of ∙ F.of, some_words, allows_look log_seen log_gives data_seen data_gives about table.slots token.id token.me 0)

      pub cut_mine : (after : Seat (Slot L D) (View L D)) → after.table_id ≡ token.table_id → (n : ℕ) → looked
          log_seen data_seen token.me n after.me → (x : Numbered) → after.me.0.seats ≡ x ∷ []
          → ◌≡◌ {A = Option Errand} x.errand None → Mine table after x.actor
      cut_mine after same n told x seats plain =
          let back : after.me ≡ token.me = told.0 in
          let seats_t : token.me.0.seats ≡ x ∷ [] = ap (λ (m : Me (Slot L D) (View L D)). m.0.seats) (sym back) ∙ seats in
          let rest : hand x.actor ≡ None = (F.rest 0 x (ap (λ (l : List Numbered). get_elem? l 0) M.are ∙ ap (λ (z :
          Numbered). maybe.some z) (one_head token.me.0.seats M.head x one seats_t))).0.no_slot in
          subst (λ (m : Me (Slot L D) (View L D)). Mine table (record {
            marker = after.marker;
            table_id =
                after.table_id;
            id = after.id;
            me = m;
          }) x.actor) (sym back)
          (record {
            of = same ∙ of ∙ F.of;
            slots = F.slots;
            words = F.words ∙ ap word_count (sym (ap (λ (m : Me (Slot L D) (View L D)). m.0.layout) me_is));
            who = x;
            one = seats_t;
            state = refl;
            plain = plain;
            carries = subst (λ (h : Option ℕ). Carries h token.me) (sym rest) (ap (λ (m : Me (Slot L D) (View L D)). m.1) me_is);
            may = told.1 x seats_t;
          })

    pub first_left : (after : Seat (Slot L D) (View L D)) → after.table_id ≡ first.table_id → after.me ≡ (cut_left first.me.0, first.me.1) → IsFirst table after
    first_left after same me_is = record {
      of = same ∙ F.of;
      slots = F.slots;
      words = F.words ∙ ap word_count (sym (ap (λ (m : Me (Slot L D) (View L D)). m.0.layout) me_is));
      none = ap (λ (m : Me (Slot L D) (View L D)). m.1) me_is ∙ F.none;
      empty = ap (λ (m : Me (Slot L D) (View L D)). m.0.held) me_is ∙ F.empty;
      rest = subst AreAtRest (sym (ap (λ (m : Me (Slot L D) (View L D)). m.0.seats) me_is)) (tail_rest first.me.0.seats F.rest);
      home = λ d has. cut_home (heads_cleaner first.me.0.seats) first.me.0.data_part d F.home (sym (ap (λ (m : Me (Slot L D) (View L D)). m.0.data_part) me_is) ∙ has);
    }

  module _ (other : Seat (Slot L D) (View L D)) (T : MayTakeIn table first other) where
    pub join_ok : (first.table_id ≡ table) × (other.table_id ≡ table) × (other.me.1 ≡ []) × (0 < table.words) × Joins (Ruled log_seen log_gives data_seen data_gives about) first.id first.me.0 other.id other.me.0 (taken_in first.me.0 other.me.0) spent
    join_ok = (
      F.of,
      T.of,
      T.none,
      some_words,
      joins_ok log_seen log_gives data_seen data_gives about first.id other.id first.me.0 other.me.0 T.some
          F.rest T.rest,
    )

    pub first_joined : (after : Seat (Slot L D) (View L D)) → after.table_id ≡ first.table_id → after.me ≡ (taken_in first.me.0 other.me.0, first.me.1) → IsFirst table after
    first_joined after same me_is = record {
      of = same ∙ F.of;
      slots = F.slots;
      words = T.words ∙ ap word_count (sym (ap (λ (m : Me (Slot L D) (View L D)). m.0.layout) me_is));
      none = ap (λ (m : Me (Slot L D) (View L D)). m.1) me_is ∙ F.none;
      empty = ap (λ (m : Me (Slot L D) (View L D)). m.0.held) me_is;
      rest = subst AreAtRest (sym (ap (λ (m : Me (Slot L D) (View L D)). m.0.seats) me_is)) (joined_rest other.me.0.seats first.me.0.seats T.rest F.rest);
      home = λ d has. joined_home first.me.0.data_part other.me.0.data_part d F.home T.home (sym (ap (λ (m : Me (Slot L D) (View L D)). m.0.data_part) me_is) ∙ has);
    }
