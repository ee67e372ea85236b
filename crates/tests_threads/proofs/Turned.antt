-- The seats of players after a turn of one of them, and players that are at rest.
use Rattle.std.proofs.Common.{List, [], ap, arith, get_or, length, set, subst, suc, sym, zero, ℕ, ⊎_elim, ◌+◌, ◌<◌, ◌≤◌, ◌∙◌, ◌∷◌, ◌≡◌}
use Rattle.std.proofs.lemmas.List.{length-set}
use lib.ListN.{get_elem?}
use mathlib.Core.Option as maybe
use native.Mathlib.Decide.{ℕ_discrete}
use Rattle.atomic_table.proofs.Lists.{at_set}
use Rattle.atomic_table.specs.Seated.{TableId}
use Rattle.atomic_table.specs.declared.shared.Seat.{Seat}
use Rattle.model_core.specs.declared.words.Layout.{Layout}
use Rattle.redo_ownrule.proofs.Crews.{may_rest}
use Rattle.redo_ownrule.specs.Players.{ArePlain, IsAtRest, IsSamePlayer}
use Rattle.redo_ownrule.specs.Playing.{IsPlayerSeat}
use Rattle.redo_ownrule.specs.Sharing.{AllAtRest}
use Rattle.redo_ownrule.specs.declared.player.Player.{Player}
use Rattle.redo_ownrule.specs.declared.player.Player.TheVariants as player
use Rattle.redo_rule.proofs.Gathered.{at_or, there}
use Rattle.redo_rule.specs.Mine.{number_of}
use Rattle.redo_rule.specs.declared.law.Slot.{Slot}
use Rattle.redo_rule.specs.declared.law.View.{View}
use Rattle.redo_threads.proofs.Ending.{past}
use Rattle.tests_threads.specs.Playing.{AllMayRest, ArePlaying}

module _ {R : Type 0} where
  -- below this number each is at rest
  abbrev pub RestBelow : ℕ → List (Player R) → Type 0
  RestBelow n players = (i : ℕ) (p : Player R) → i < n → get_elem? players i ≡ maybe.some p → IsAtRest p

  pub none_below : (players : List (Player R)) → RestBelow 0 players
  none_below players i p l at = absurd (omega arith)

  pub one_more : (players : List (Player R)) (n : ℕ) (p : Player R) → p ≡ get_or players n p → n < length players
      → RestBelow n players → IsAtRest p → RestBelow (n + 1) players
  one_more players n p is less below rests i q l at = elim (ℕ_discrete i n) [
    | yes e ↦ subst (λ (z : Player R). IsAtRest z) (maybe.some-injective p q
        (ap (λ (z : Player R). maybe.some z) is ∙ sym (at_or players n p less) ∙ ap (get_elem? players) (sym e) ∙ at))
        rests
    | no far ↦ below i q (omega arith) at
  ]

  pub all_below : (players : List (Player R)) (n : ℕ) → length players ≤ n → RestBelow n players → AllAtRest players
  all_below players n all below i p at = below i p (let l = past players i p at in omega arith) at

  -- the same kind of player in one's place
  plain_set : (players : List (Player R)) (n : ℕ) (p q : Player R) → p ≡ get_or players n p → n < length players
      → IsSamePlayer p q → ArePlain players → ArePlain (set players n q)
  plain_set [] n p q is less same plain = absurd (omega arith)
  plain_set (player.Plain a ∷ ps) zero p (player.Plain b) is less same plain = plain
  plain_set (player.Plain a ∷ ps) zero p (player.Own x) is less same plain =
      absurd (subst (λ (z : Player R). IsSamePlayer z (player.Own x)) is same)
  plain_set (player.Plain a ∷ ps) (suc n) p q is less same plain = plain_set ps n p q is (omega arith) same plain
  plain_set (player.Own o ∷ ps) n p q is less same plain = absurd plain

module _ {L D R : Type 0} (table : TableId) (layout : Layout) (seats : List (Seat (Slot L D) (View L D)))
    (players : List (Player R)) (A : ArePlaying table layout seats players) where
  -- who has a seat may rest
  pub seated_rest : AllMayRest players
  seated_rest i p at =
      let l = past players i p at in
      let n = A.seats.count in
      let s = there seats i (omega arith) in
      may_rest table s.0 p (A.seats.each i s.0 p s.1 at).0

  module _ (n : ℕ) (seat : Seat (Slot L D) (View L D)) (p : Player R) (seat_is : seat ≡ get_or seats n seat)
      (player_is : p ≡ get_or players n p) (less : n < length players) where
    both : IsPlayerSeat table seat p × (number_of seat.me.0 ≡ n)
    both =
        let c = A.seats.count in
        A.seats.each n seat p
        (at_or seats n seat (omega arith) ∙ ap (λ (z : Seat (Slot L D) (View L D)). maybe.some z) (sym seat_is))
        (at_or players n p less ∙ ap (λ (z : Player R). maybe.some z) (sym player_is))

    -- the seat of the player with this number
    pub seat_at : IsPlayerSeat table seat p
    seat_at = both.0

    pub laid_at : seat.me.0.layout ≡ layout
    laid_at =
        let c = A.seats.count in
        A.laid n seat
        (at_or seats n seat (omega arith) ∙ ap (λ (z : Seat (Slot L D) (View L D)). maybe.some z) (sym seat_is))

    -- that player has had a turn
    pub turned : (after : Seat (Slot L D) (View L D)) (q : Player R) → IsPlayerSeat table after q
        → number_of after.me.0 ≡ number_of seat.me.0 → after.me.0.layout ≡ seat.me.0.layout → IsSamePlayer p q
        → ArePlaying table layout (set seats n after) (set players n q)
    turned after q is number its_layout same = record {
      seats = record {
        count = length-set seats n after ∙ A.seats.count ∙ sym (length-set players n q);
        each = λ i s r at bt. ⊎_elim
            (λ t. ⊎_elim
            (λ u. subst (λ (z : Seat (Slot L D) (View L D)). IsPlayerSeat table z r × (number_of z.me.0 ≡ i)) t.1
            (subst (λ (z : Player R). IsPlayerSeat table after z) u.1 is, number ∙ both.1 ∙ sym t.0))
            (λ u. absurd (u.0 t.0))
            (at_set players n i q r bt))
            (λ t. ⊎_elim (λ u. absurd (t.0 u.0)) (λ u. A.seats.each i s r t.1 u.1) (at_set players n i q r bt))
            (at_set seats n i after s at);
      };
      laid = λ i s at. ⊎_elim
          (λ t. subst (λ (z : Seat (Slot L D) (View L D)). z.me.0.layout ≡ layout) t.1 (its_layout ∙ laid_at))
          (λ t. A.laid i s t.1)
          (at_set seats n i after s at);
      plain = plain_set players n p q player_is less same A.plain;
    }
