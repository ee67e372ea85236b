-- Players that kept on in the seats of a table: these are its seats still, and what they have heard, the receivers got.
use Rattle.std.proofs.Common.{Bool, List, Option, [], ap, arith, length, map, refl, subst, suc, sym, zero, ℕ, ◌++◌, ◌∙◌, ◌∷◌, ◌≡◌}
use Rattle.std.specs.List.{AllZip}
use lib.ListN.{get_elem?}
use mathlib.Core.Option as maybe
use Rattle.atomic_table.specs.Seated.{TableId}
use Rattle.atomic_table.specs.declared.shared.Seat.{Seat}
use Rattle.model_core.specs.{Given}
use Rattle.redo_drive.specs.{follower_of, HasGot, IsSameFollower}
use Rattle.redo_drive.specs.declared.actor.Actor.{Actor}
use Rattle.redo_ownrule.proofs.Crews.{same_place}
use Rattle.redo_ownrule.specs.Players.{actor_of, IsSamePlayer}
use Rattle.redo_ownrule.specs.Playing.{IsPlayerSeat}
use Rattle.redo_ownrule.specs.Sharing.{AreSeatsOf}
use Rattle.redo_ownrule.specs.declared.player.Player.{Player}
use Rattle.redo_rule.proofs.Gathered.{there}
use Rattle.redo_rule.specs.Mine.{heard_of}
use Rattle.redo_rule.specs.Sharing.{AreFresh, HaveHeard}
use Rattle.redo_rule.specs.declared.law.About.{About}
use Rattle.redo_rule.specs.declared.law.Heard.{Heard}
use Rattle.redo_rule.specs.declared.law.Slot.{Slot}
use Rattle.redo_rule.specs.declared.law.View.{View}
use Rattle.redo_threads.proofs.Ending.{past}
use Rattle.redo_threads.proofs.Keeping.{gone_at, keep_long}
use Rattle.redo_threads.proofs.Zips.{zip_of}
use Rattle.redo_threads.specs.Working.{AreSeated, GoesOn, KeepOn}
use Rattle.redo_threads.specs.declared.crew.Crew.{Crew}

module _ {F : Type 0} where
  -- the player whose actor stands there
  played_at : (ps : List (Player F)) (i : ℕ) (a : Actor F) → get_elem? (map actor_of ps) i ≡ maybe.some a
      → (p : Player F) × (get_elem? ps i ≡ maybe.some p) × (actor_of p ≡ a)
  played_at [] i a at = absurd (maybe.some-ne-none a (sym at))
  played_at (p ∷ ps) zero a at = (p, refl, maybe.some-injective (actor_of p) a at)
  played_at (p ∷ ps) (suc i) a at = played_at ps i a at

  many_mapped : (ps : List (Player F)) → length (map actor_of ps) ≡ length ps
  many_mapped [] = refl
  many_mapped (p ∷ ps) = ap suc (many_mapped ps)

module _ {L D F : Type 0} (stands : F → List Given → Type 0) (table : TableId) where
  -- seats in their order are seats
  pub seated : (own : Bool) (x : Crew L D F) → AreSeatsOf table own x.seats.items x.players.items
      → AreSeated table x.seats.items x.players.items
  seated own x A = zip_of (IsPlayerSeat table) x.seats.items x.players.items A.count
      (λ i s p at bt. (A.each i s p at bt).0)

  module _ (x y : Crew L D F) (many : length x.seats.items ≡ length x.players.items) (h : KeepOn stands table x y) where
    -- each with the seats that it had and has
    gone : (i : ℕ) (p q : Player F) → get_elem? x.players.items i ≡ maybe.some p
        → get_elem? y.players.items i ≡ maybe.some q
        → (s : Seat (Slot L D) (View L D)) × (t : Seat (Slot L D) (View L D)) × GoesOn stands table s p t q
    gone i p q began at =
        let l = past y.players.items i q at in
        let c = h.count in
        let t = there y.seats.items i (omega arith) in
        let s = gone_at stands table x y h i t.0 p q t.1 began at in
        (s.0, t.0, s.2)

    pub all_same : AllZip IsSamePlayer x.players.items y.players.items
    all_same =
        let k = keep_long stands table x y many h in
        zip_of IsSamePlayer x.players.items y.players.items (omega arith)
        (λ i p q began at. (gone i p q began at).2.player)

    -- they stay in order
    pub in_order : (own : Bool) → AreSeatsOf table own x.seats.items x.players.items
        → AreSeatsOf table own y.seats.items y.players.items
    in_order own A = record {
      count = h.count;
      each = λ i t q at bt.
          let k = keep_long stands table x y many h in
          let l = past y.players.items i q bt in
          let p = there x.players.items i (omega arith) in
          let s = gone_at stands table x y h i t p.0 q at p.1 bt in
          let was = A.each i s.0 p.0 s.1 p.1 in
          (s.2.seat, s.2.same.number ∙ was.1 ∙ same_place own x.players.items y.players.items all_same i);
    }

    -- from seats that have heard nothing
    pub have_heard : (told : Option (About L D)) → AreFresh told x.seats.items
        → HaveHeard stands (map actor_of x.players.items) y.seats.items (map actor_of y.players.items)
    have_heard told fresh = record {
      count = many_mapped y.players.items ∙ keep_long stands table x y many h ∙ sym (many_mapped x.players.items);
      same = λ i a b began at.
          let p = played_at x.players.items i a began in
          let q = played_at y.players.items i b at in
          subst (λ (z : Actor F). IsSameFollower (follower_of z) (follower_of b)) p.2
          (subst (λ (z : Actor F). IsSameFollower (follower_of (actor_of p.0)) (follower_of z)) q.2
          (gone i p.0 q.0 p.1 q.1).2.same.same);
      got = λ i t a b sits began at.
          let p = played_at x.players.items i a began in
          let q = played_at y.players.items i b at in
          let s = gone_at stands table x y h i t p.0 q.0 sits p.1 q.1 in
          let all : (heard_of t.me.0).groups ≡ s.2.same.since =
          s.2.same.heard ∙ ap (λ (h : Heard). h.groups ++ s.2.same.since) (fresh.none i s.0 s.1) in
          subst (λ (z : Actor F). HasGot stands (follower_of z) (heard_of t.me.0).groups (follower_of b)) p.2
          (subst (λ (z : Actor F). HasGot stands (follower_of (actor_of p.0)) (heard_of t.me.0).groups (follower_of z)) q.2
          (subst (λ (l : List Given). HasGot stands (follower_of (actor_of p.0)) l (follower_of (actor_of q.0)))
          (sym all) s.2.same.got));
    }
