-- The rule where a seat is cut off the first one, and where it is taken in again.
use Rattle.std.proofs.Common.{Bool, List, None, Option, Some, [], ap, arith, cond, eq-eqb, false, length, length-set, ne_eqb, refl, subst, suc, sym, true, zero, ℕ, ⊎_elim, ◌++◌, ◌<◌, ◌==◌, ◌∙◌, ◌∷◌, ◌≡◌, ◌≢◌, ◌⊎◌, inl, inr}
use Rattle.std.specs.Prelude.{slice_set}
use lib.ListN.{get_elem?}
use mathlib.Core.Option as maybe
use Rattle.atomic_table.specs.Table.{Joins, Splits, State}
use Rattle.model_core.proofs.Lists.{at_set}
use Rattle.model_own.specs.{has_work}
use Rattle.redo_disk.specs.{Call, Seen}
use Rattle.redo_rule.proofs.Kept.{only}
use Rattle.redo_rule.specs.Cutting.{AreAtRest, IsApart}
use Rattle.model_core.specs.{hand, IsFreeToCheck}
use Rattle.redo_rule.specs.OwnSide.{HasNoWork, SitsAs}
use Rattle.redo_rule.specs.Ruled.{Knows, Ruled}
use Rattle.redo_rule.specs.Seats.{cut_left, cut_right, first_numbered, first_some, heads_cleaner, rest_numbered, spent, taken_in}
use Rattle.redo_rule.specs.declared.law.About.{About}
use Rattle.redo_rule.specs.declared.law.Errand.{Errand}
use Rattle.redo_rule.specs.declared.law.Keeping.{Keeping}
use Rattle.redo_rule.specs.declared.law.Numbered.{Numbered}
use Rattle.redo_rule.specs.declared.law.Slot.{Slot}
use Rattle.redo_rule.specs.declared.law.View.{View}

-- an element before the last one, or the last one
pub at_end : {A : Type 0} (l : List A) (a b : A) (j : ℕ) → get_elem? (l ++ a ∷ []) j ≡ maybe.some b → ((j < length l) × (get_elem? l j ≡ maybe.some b)) ⊎ ((j ≡ length l) × (◌≡◌ {A = A} a b))
at_end [] a b zero e = inr (refl, maybe.some-injective a b e)
at_end [] a b (suc j) e = absurd (maybe.some-ne-none b (sym e))
at_end (x ∷ xs) a b zero e = inl (omega arith, e)
at_end (x ∷ xs) a b (suc j) e = ⊎_elim (λ t. inl ((let l = t.0 in omega arith), t.1)) (λ t. inr (ap suc t.0, t.1)) (at_end xs a b j e)

within : {A : Type 0} (l : List A) (j : ℕ) (b : A) → get_elem? l j ≡ maybe.some b → j < length l
within [] j b e = absurd (maybe.some-ne-none b (sym e))
within (x ∷ xs) zero b e = omega arith
within (x ∷ xs) (suc j) b e = let r = within xs j b e in omega arith

-- an element of two joined lists is one of the one or of the other
in_both : {A : Type 0} (xs ys : List A) (i : ℕ) (z : A) → get_elem? (xs ++ ys) i ≡ maybe.some z → ((j : ℕ) × (get_elem? xs j ≡ maybe.some z)) ⊎ ((j : ℕ) × (get_elem? ys j ≡ maybe.some z))
in_both [] ys i z e = inr (i, e)
in_both (x ∷ xs) ys zero z e = inl (zero, e)
in_both (x ∷ xs) ys (suc i) z e = ⊎_elim (λ t. inl (suc t.0, t.1)) (λ t. inr t) (in_both xs ys i z e)

-- who has no work of the log in hand has none
pub not_working : (own : Option Errand) (e : Errand) → own ≡ Some e → HasNoWork own → has_work e.step ≡ true → ⊥
not_working own e is none has = let z : has_work e.step ≡ false = subst HasNoWork is none in absurd (cc)

module _ {L D : Type 0} (log_seen : L → Seen) (log_gives : L → Call → L → Type 0) (data_seen : D → Seen) (data_gives : D → Call → D → Type 0) (about : About L D) where
  abbrev Law : State (Slot L D) (View L D) → Type 0
  Law = Ruled log_seen log_gives data_seen data_gives about

  -- a part that is cut off in whole
  part_left : (b : Bool) (o : Option (Keeping D)) (d : Keeping D) → cond b None o ≡ Some d → (b ≡ false) × (o ≡ Some d)
  part_left true o d e = absurd (cc)
  part_left false o d e = (refl, e)

  part_right : (b : Bool) (o : Option (Keeping D)) (d : Keeping D) → cond b o None ≡ Some d → (b ≡ true) × (o ≡ Some d)
  part_right true o d e = (refl, e)
  part_right false o d e = absurd (cc)

  pub splits_ok : (id : ℕ) (v : View L D) (x : Numbered) (xs : List Numbered) → v.seats ≡ x ∷ xs → v.held ≡ None → IsApart x.number xs → Splits Law id v (cut_left v) (cut_right v)
  splits_ok id v x xs seats none apart s R at =
      let K = R.knows id v at in
      let fresh : ℕ = length s.views in
      let here : id < fresh = within s.views id v at in
      let seat_of : ℕ → ℕ = λ n. cond (n == x.number) fresh (R.seat_of n) in
      let b : Bool = heads_cleaner v.seats in
      let keeper : ℕ = cond b (cond (R.keeper == id) fresh R.keeper) R.keeper in
      let in_left : (i : ℕ) (y : Numbered) → get_elem? (cut_left v).seats i ≡ maybe.some y → get_elem? v.seats (suc i) ≡ maybe.some y = λ i y e. ap (λ (l : List Numbered). get_elem? l (suc i)) seats ∙ sym (ap (λ (l : List Numbered). get_elem? (rest_numbered l) i) seats) ∙ e in
      let old_seat : (n : ℕ) → n ≢ x.number → seat_of n ≡ R.seat_of n = λ n ne. ap (λ (t : Bool). cond t fresh (R.seat_of n)) (ne_eqb n x.number ne) in
      let first : get_elem? v.seats 0 ≡ maybe.some x = ap (λ (l : List Numbered). get_elem? l 0) seats in
      let in_right : (i : ℕ) (y : Numbered) → get_elem? (cut_right v).seats i ≡ maybe.some y → ◌≡◌ {A = Numbered} x y = λ i y e. only (cut_right v).seats x i y (ap first_numbered seats) e in
      let left : Knows about R.parts R.beside R.actors R.heard seat_of keeper R.out id (cut_left v) = record {
        told = λ i y e. K.told 0 x first;
        layout = λ i y e. K.layout (suc i) y (in_left i y e);
        mine = λ i y e. let far : y.number ≢ x.number = apart i y (sym (ap (λ (l : List Numbered). get_elem?
            (rest_numbered l) i) seats) ∙ e) in (
              old_seat y.number far ∙ (K.mine (suc i) y (in_left i y e)).0,
              (K.mine
                  (suc i) y (in_left i y e)).1,
              (K.mine (suc i) y (in_left i y e)).2,
            );
        free = λ i y e. K.free (suc i) y (in_left i y e);
        held = λ i y k e h. K.held (suc i) y k (in_left i y e) h;
        errand = λ i y e. K.errand (suc i) y (in_left i y e);
        work = λ i y g e is has. K.work (suc i) y g (in_left i y e) is has;
        data_part = λ d e. let t = part_left b v.data_part d e in let m = K.data_part d t.1 in (ap (λ (z : Bool). cond z (cond (R.keeper == id) fresh R.keeper) R.keeper) t.0 ∙ m.0, m.1, m.2);
      } in
      let right : Knows about R.parts R.beside R.actors R.heard seat_of keeper R.out fresh (cut_right v) = record {
        told = λ i y e. K.told 0 x first;
        layout = λ i y e. K.layout 0 x first;
        mine = λ i y e. subst (λ (z : Numbered). (seat_of z.number ≡ fresh) × (get_elem? R.actors z.number ≡
            maybe.some z.actor) × (R.heard z.number ≡ z.heard)) (in_right i y e) (
              ap (λ (t : Bool). cond t fresh
                  (R.seat_of x.number)) (eq-eqb x.number x.number refl),
              (K.mine 0 x first).1,
              (K.mine 0 x first).2,
            );
        free = λ i y e. subst (λ (z : Numbered). IsFreeToCheck z.actor) (in_right i y e) (K.free 0 x first);
        held = λ i y k e h. let t = K.held 0 x k first (ap (λ (z : Numbered). hand z.actor) (in_right i y e) ∙ h) in
            absurd (cc);
        errand = λ i y e. subst (λ (z : Numbered). SitsAs R.beside.own z.errand z.number) (in_right i y e)
            (K.errand 0 x first);
        work = λ i y g e is has.
            let t = K.work 0 x g first (ap (λ (z : Numbered). z.errand) (in_right i y e) ∙ is) has in absurd (cc);
        data_part = λ d e. let t = part_right b v.data_part d e in let m = K.data_part d t.1 in
            (ap (λ (z : Bool). cond z (cond (R.keeper == id) fresh R.keeper) R.keeper) t.0 ∙ ap (λ (z : Bool). cond z fresh R.keeper) (eq-eqb R.keeper id m.0), m.1, m.2);
      } in
      let others : (j : ℕ) (u : View L D) → j ≢ id → get_elem? s.views j ≡ maybe.some u
      → Knows about R.parts R.beside R.actors R.heard seat_of keeper R.out j u = λ j u ne e. let N = R.knows j u e in
      record {
        told = N.told;
        layout = N.layout;
        mine = λ i y f. (
          old_seat y.number (λ z. ne (sym (N.mine i y f).0 ∙ ap R.seat_of z ∙ (K.mine 0 x first).0)) ∙
              (N.mine i y f).0,
          (N.mine i y f).1,
          (N.mine i y f).2,
        );
        free = N.free;
        held = N.held;
        errand = N.errand;
        work = N.work;
        data_part = λ d f. let m = N.data_part d f in (keeper_same b R.keeper fresh id (λ z. ne (sym m.0 ∙ z)) ∙ m.0, m.1, m.2);
      } in
      record {
        run = R.run;
        is_about = R.is_about;
        parts = R.parts;
        beside = R.beside;
        own_is = R.own_is;
        own = R.own;
        actors = R.actors;
        heard = R.heard;
        words_are = R.words_are;
        lists_are = R.lists_are;
        runs = R.runs;
        hears = R.hears;
        reads = R.reads;
        loaded = R.loaded;
        count = R.count;
        log_calls = R.log_calls;
        data_calls = R.data_calls;
        log_shape = R.log_shape;
        slots = R.slots;
        home = R.home;
        seat_of = seat_of;
        keeper = keeper;
        out = R.out;
        data_home = R.data_home;
        told = R.told;
        taken = R.taken;
        knows = λ j u e. ⊎_elim
            (λ t. ⊎_elim (λ q. subst (λ (z : View L D). Knows about R.parts R.beside R.actors R.heard seat_of keeper
            R.out j z) q.1
            (subst (λ (i : ℕ). Knows about R.parts R.beside R.actors R.heard seat_of keeper R.out i (cut_left v)) (sym
            q.0) left))
            (λ q. others j u q.0 q.1) (at_set s.views id j (cut_left v) u t.1))
            (λ t. subst (λ (z : View L D). Knows about R.parts R.beside R.actors R.heard seat_of keeper R.out j z) t.1
            (subst (λ (i : ℕ). Knows about R.parts R.beside R.actors R.heard seat_of keeper R.out i (cut_right v))
            (sym (t.0 ∙ length-set s.views id (cut_left v))) right))
            (at_end (slice_set s.views id (cut_left v)) (cut_right v) u j e);
      }
    where
      keeper_same : (b : Bool) (keeper fresh id : ℕ) → keeper ≢ id → cond b (cond (keeper == id) fresh keeper) keeper ≡ keeper
      keeper_same true keeper fresh id ne = ap (λ (z : Bool). cond z fresh keeper) (ne_eqb keeper id ne)
      keeper_same false keeper fresh id ne = refl

  first_is : (o p : Option (Keeping D)) (d : Keeping D) → first_some o p ≡ Some d → (o ≡ Some d) ⊎ (p ≡ Some d)
  first_is (Some x) p d e = inl e
  first_is None p d e = inr e

  pub joins_ok : (id other : ℕ) (v w : View L D)
      → (x : Numbered) × (get_elem? w.seats 0 ≡ maybe.some x) → AreAtRest v.seats → AreAtRest w.seats
      → Joins Law id v other w (taken_in v w) spent
  joins_ok id other v w some free_v free_w s R at ne at' =
      let both : View L D = taken_in v w in
      let there : get_elem? s.views other ≡ maybe.some w = ⊎_elim (λ t. absurd (ne t.0)) (λ t. t.1) (at_set s.views id other both w at') in
      let K = R.knows id v at in
      let N = R.knows other w there in
      let seat_of : ℕ → ℕ = λ n. cond (R.seat_of n == other) id (R.seat_of n) in
      let keeper : ℕ = cond (R.keeper == other) id R.keeper in
      let moved : (n : ℕ) → n ≡ other → cond (n == other) id n ≡ id = λ n e. ap (λ (t : Bool). cond t id n) (eq-eqb n other e) in
      let stays : (n : ℕ) → n ≢ other → cond (n == other) id n ≡ n = λ n far. ap (λ (t : Bool). cond t id n) (ne_eqb n other far) in
      let here : Knows about R.parts R.beside R.actors R.heard seat_of keeper R.out id both = record {
        told = λ i y e. N.told 0 some.0 some.1;
        layout = λ i y e. N.layout 0 some.0 some.1;
        mine = λ i y e. ⊎_elim
            (λ t. let m = N.mine t.0 y t.1 in (moved (R.seat_of y.number) m.0, m.1, m.2))
            (λ t. let m = K.mine t.0 y t.1 in (stays (R.seat_of y.number) (λ z. ne (sym z ∙ m.0)) ∙ m.0, m.1, m.2))
            (in_both w.seats v.seats i y e);
        free = λ i y e. ⊎_elim (λ t. N.free t.0 y t.1) (λ t. K.free t.0 y t.1) (in_both w.seats v.seats i y e);
        held = λ i y k e h. ⊎_elim (λ t. let z = (free_w t.0 y t.1).0.no_slot in absurd (cc))
            (λ t. let z = (free_v t.0 y t.1).0.no_slot in absurd (cc)) (in_both w.seats v.seats i y e);
        errand = λ i y e. ⊎_elim (λ t. N.errand t.0 y t.1) (λ t. K.errand t.0 y t.1)
            (in_both w.seats v.seats i y e);
        work = λ i y g e is has. ⊎_elim (λ t. absurd (not_working y.errand g is (free_w t.0 y t.1).1 has))
            (λ t. absurd (not_working y.errand g is (free_v t.0 y t.1).1 has)) (in_both w.seats v.seats i y e);
        data_part = λ d e. ⊎_elim
            (λ t. let m = K.data_part d t in (stays R.keeper (λ z. ne (sym z ∙ m.0)) ∙ m.0, m.1, m.2))
            (λ t. let m = N.data_part d t in (moved R.keeper m.0, m.1, m.2)) (first_is v.data_part w.data_part d e);
      } in
      let gone : Knows about R.parts R.beside R.actors R.heard seat_of keeper R.out other spent = record {
        told = λ i y e. absurd (maybe.some-ne-none y (sym e));
        layout = λ i y e. absurd (maybe.some-ne-none y (sym e));
        mine = λ i y e. absurd (maybe.some-ne-none y (sym e));
        free = λ i y e. absurd (maybe.some-ne-none y (sym e));
        held = λ i y k e h. absurd (maybe.some-ne-none y (sym e));
        errand = λ i y e. absurd (maybe.some-ne-none y (sym e));
        work = λ i y g e is has. absurd (maybe.some-ne-none y (sym e));
        data_part = λ d e. absurd (cc);
      } in
      let others : (j : ℕ) (u : View L D) → j ≢ other → get_elem? s.views j ≡ maybe.some u
      → Knows about R.parts R.beside R.actors R.heard seat_of keeper R.out j u = λ j u far e. let M = R.knows j u e in
      record {
        told = M.told;
        layout = M.layout;
        mine = λ i y f. let m = M.mine i y f in (stays (R.seat_of y.number) (λ z. far (sym m.0 ∙ z)) ∙ m.0, m.1, m.2);
        free = M.free;
        held = M.held;
        errand = M.errand;
        work = M.work;
        data_part = λ d f. let m = M.data_part d f in (stays R.keeper (λ z. far (sym m.0 ∙ z)) ∙ m.0, m.1, m.2);
      } in
      record {
        run = R.run;
        is_about = R.is_about;
        parts = R.parts;
        beside = R.beside;
        own_is = R.own_is;
        own = R.own;
        actors = R.actors;
        heard = R.heard;
        words_are = R.words_are;
        lists_are = R.lists_are;
        runs = R.runs;
        hears = R.hears;
        reads = R.reads;
        loaded = R.loaded;
        count = R.count;
        log_calls = R.log_calls;
        data_calls = R.data_calls;
        log_shape = R.log_shape;
        slots = R.slots;
        home = R.home;
        seat_of = seat_of;
        keeper = keeper;
        out = R.out;
        data_home = R.data_home;
        told = R.told;
        taken = R.taken;
        knows = λ j u e. ⊎_elim
            (λ t. subst (λ (z : View L D). Knows about R.parts R.beside R.actors R.heard seat_of keeper R.out j z) t.1
            (subst (λ (i : ℕ). Knows about R.parts R.beside R.actors R.heard seat_of keeper R.out i spent) (sym t.0)
            gone))
            (λ t. ⊎_elim (λ q. subst (λ (z : View L D). Knows about R.parts R.beside R.actors R.heard seat_of keeper
            R.out j z) q.1
            (subst (λ (i : ℕ). Knows about R.parts R.beside R.actors R.heard seat_of keeper R.out i both) (sym q.0)
            here))
            (λ q. others j u t.0 q.1) (at_set s.views id j both u t.1))
            (at_set (slice_set s.views id both) other j spent u e);
      }
