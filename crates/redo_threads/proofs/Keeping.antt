-- Players that keep on in their seats, whichever seats these are.
use Rattle.std.proofs.Common.{List, [], ap, arith, get_or, length, set, subst, suc, sym, zero}
use Rattle.std.proofs.Common.{ℕ, ◌+◌, ◌<◌, ◌∙◌, ◌∷◌, ◌≡◌}
use Rattle.std.specs.Prelude.{vec_capacity}
use Rattle.std.specs.List.{AllZip, insert, remove}
use Rattle.std.proofs.lemmas.List.Edits.{length-insert, length-remove}
use Rattle.std.proofs.lemmas.List.{length-set}
use Rattle.std.proofs.lemmas.Slice.Zip.{AllZip-long}
use lib.ListN.{get_elem?}
use mathlib.Core.Option as maybe
use Rattle.atomic_table.specs.Seated.{TableId}
use Rattle.atomic_table.specs.declared.shared.Seat.{Seat}
use Rattle.model_core.specs.{Given}
use Rattle.redo_ownrule.specs.Playing.{IsPlayerSeat}
use Rattle.redo_ownrule.specs.declared.player.Player.{Player}
use Rattle.redo_rule.specs.declared.law.Slot.{Slot}
use Rattle.redo_rule.specs.declared.law.View.{View}
use Rattle.redo_threads.proofs.Going.{goes_refl, goes_trans}
use Rattle.redo_threads.proofs.Workers.{has_both, insert_workers, long_workers, remove_workers, set_workers}
use Rattle.redo_threads.proofs.Workers.{worker, worker_at, worker_there}
use Rattle.redo_threads.proofs.Zips.{zip_back, zip_goes, zip_put_back, zip_removed, zip_trans}
use Rattle.redo_threads.specs.Working.{AreSeated, GoesOn, HasPlace, IsLater, IsPutBack, IsTakenOut, KeepOn, Sitting, workers}
use Rattle.redo_threads.specs.declared.crew.Crew.{Crew}

module _ {L D F : Type 0} (stands : F → List Given → Type 0) (table : TableId) where
  abbrev pub crew_of : Crew L D F → List (Sitting L D F)
  crew_of x = workers x.seats.items x.players.items

  abbrev pub Later : Sitting L D F → Sitting L D F → Type 0
  Later = IsLater stands table

  join : (w v u : Sitting L D F) → Later w v → Later v u → Later w u
  join w v u h k = goes_trans stands table w.seat v.seat u.seat w.player v.player u.player h k

  pub as_many : (seats : List (Seat (Slot L D) (View L D))) (players : List (Player F))
      → AreSeated table seats players → length seats ≡ length players
  as_many seats players A = sym (AllZip-long (IsPlayerSeat table) seats players A)

  -- each is in its seat as it was, and as it has gone on
  all_refl : (seats : List (Seat (Slot L D) (View L D))) (players : List (Player F))
      → AreSeated table seats players → AllZip Later (workers seats players) (workers seats players)
  all_refl [] players A = tt
  all_refl (s ∷ seats) [] A = tt
  all_refl (s ∷ seats) (a ∷ players) A = (goes_refl stands table s a A.0, all_refl seats players A.1)

  all_seated : (ws : List (Sitting L D F)) (seats : List (Seat (Slot L D) (View L D))) (players : List (Player F))
      → length seats ≡ length players → AllZip Later ws (workers seats players)
      → AreSeated table seats players
  all_seated ws [] [] e h = tt
  all_seated ws [] (a ∷ players) e h = absurd (omega arith)
  all_seated ws (s ∷ seats) [] e h = absurd (omega arith)
  all_seated [] (s ∷ seats) (a ∷ players) e h = absurd h
  all_seated (w ∷ ws) (s ∷ seats) (a ∷ players) e h = (h.0.seat, all_seated ws seats players (omega arith) h.1)

  -- the seat of the player at this place
  sits_in : (seats : List (Seat (Slot L D) (View L D))) (players : List (Player F)) (n : ℕ)
      (s : Seat (Slot L D) (View L D)) (a : Player F) → AreSeated table seats players → n < length players
      → s ≡ get_or seats n s → a ≡ get_or players n a → IsPlayerSeat table s a
  sits_in seats [] n s a A less p q = absurd (omega arith)
  sits_in [] (y ∷ players) n s a A less p q = absurd A
  sits_in (x ∷ seats) (y ∷ players) zero s a A less p q =
      subst (λ (z : Seat (Slot L D) (View L D)). IsPlayerSeat table z a) (sym p)
      (subst (λ (z : Player F). IsPlayerSeat table x z) (sym q) A.0)
  sits_in (x ∷ seats) (y ∷ players) (suc n) s a A less p q = sits_in seats players n s a A.1 (omega arith) p q

  pub keep_refl : (x : Crew L D F) → AreSeated table x.seats.items x.players.items
      → KeepOn stands table x x
  keep_refl x A = record {
    count = as_many x.seats.items x.players.items A;
    all = all_refl x.seats.items x.players.items A;
    seats_fit = grind arith;
    players_fit = grind arith;
  }

  pub keep_trans : (x y z : Crew L D F) → KeepOn stands table x y → KeepOn stands table y z
      → KeepOn stands table x z
  keep_trans x y z h k = record {
    count = k.count;
    all = zip_trans Later join (crew_of x) (crew_of y) (crew_of z) h.all k.all;
    seats_fit = let a = h.seats_fit in let b = k.seats_fit in omega arith;
    players_fit = let a = h.players_fit in let b = k.players_fit in omega arith;
  }

  -- they are as many as they were
  pub keep_long : (x y : Crew L D F) → length x.seats.items ≡ length x.players.items → KeepOn stands table x y
      → length y.players.items ≡ length x.players.items
  keep_long x y count h =
      let e = AllZip-long Later (crew_of x) (crew_of y) h.all in
      let k = long_workers x.seats.items x.players.items count in
      let l = long_workers y.seats.items y.players.items h.count in omega arith

  pub keep_seated : (x y : Crew L D F) → KeepOn stands table x y
      → AreSeated table y.seats.items y.players.items
  keep_seated x y h = all_seated (crew_of x) y.seats.items y.players.items h.count h.all

  pub sits_at : (x y : Crew L D F) (n : ℕ) (s : Seat (Slot L D) (View L D)) (a : Player F) → KeepOn stands table x y
      → n < length y.players.items → s ≡ get_or y.seats.items n s → a ≡ get_or y.players.items n a
      → IsPlayerSeat table s a
  sits_at x y n s a h less s_is a_is =
      sits_in y.seats.items y.players.items n s a (keep_seated x y h) less s_is a_is

  -- the player at this place has gone on
  pub keep_set : (x y z : Crew L D F) (n : ℕ) (s t : Seat (Slot L D) (View L D)) (a b : Player F)
      → KeepOn stands table x y → n < length y.players.items
      → s ≡ get_or y.seats.items n s → a ≡ get_or y.players.items n a → GoesOn stands table s a t b
      → z.seats.items ≡ set y.seats.items n t → z.players.items ≡ set y.players.items n b
      → vec_capacity z.seats ≡ vec_capacity y.seats → vec_capacity z.players ≡ vec_capacity y.players
      → KeepOn stands table x z
  keep_set x y z n s t a b h less s_is a_is g seats_are players_are seats_fit players_fit =
      let m = long_workers y.seats.items y.players.items h.count in
      let at : worker s a ≡ get_or (crew_of y) n (worker s a) =
      worker_at y.seats.items y.players.items n s a h.count less s_is a_is in
      let all : AllZip Later (crew_of x) (set (crew_of y) n (worker t b)) =
      zip_goes Later (crew_of x) (crew_of y) n (worker s a) (worker t b) h.all (omega arith) at
      (λ u e. join u (worker s a) (worker t b) e g) in
      let are : crew_of z ≡ workers (set y.seats.items n t) (set y.players.items n b) =
      λ j. workers (seats_are j) (players_are j) in
      record {
        count = ap length seats_are ∙ length-set y.seats.items n t ∙ h.count
            ∙ sym (ap length players_are ∙ length-set y.players.items n b);
        all = subst (AllZip Later (crew_of x))
            (set_workers y.seats.items y.players.items n t b h.count ∙ sym are) all;
        seats_fit = let f = h.seats_fit in omega arith;
        players_fit = let f = h.players_fit in omega arith;
      }

  -- the seat that a player had
  pub gone_at : (x y : Crew L D F) → KeepOn stands table x y → (i : ℕ) (t : Seat (Slot L D) (View L D))
      (a b : Player F) → get_elem? y.seats.items i ≡ maybe.some t → get_elem? x.players.items i ≡ maybe.some a
      → get_elem? y.players.items i ≡ maybe.some b
      → (s : Seat (Slot L D) (View L D)) × (get_elem? x.seats.items i ≡ maybe.some s) × GoesOn stands table s a t b
  gone_at x y h i t a b sits began at =
      let w = zip_back Later (crew_of x) (crew_of y) i (worker t b) h.all
      (worker_there y.seats.items y.players.items i t b sits at) in
      let both = has_both x.seats.items x.players.items i w.0 w.1 in
      let same : w.0.player ≡ a = maybe.some-injective w.0.player a (sym both.1 ∙ began) in
      (w.0.seat, both.0, subst (λ (z : Player F). GoesOn stands table w.0.seat z t b) same w.2)

  -- a worker that is taken out sits in its seat, and so do the others: it is put back once these have gone on, or
  -- before
  module _ (x rest : Crew L D F) (n : ℕ) (w : Sitting L D F)
      (A : AreSeated table x.seats.items x.players.items) (out : IsTakenOut x n w.seat w.player rest) where
    many : length x.seats.items ≡ length x.players.items
    many = as_many x.seats.items x.players.items A

    pub taken_sits : IsPlayerSeat table w.seat w.player
    taken_sits = sits_in x.seats.items x.players.items n w.seat w.player A out.there out.seat out.player

    others_are : crew_of rest ≡ remove (crew_of x) n
    others_are =
        let are : crew_of rest ≡ workers (remove x.seats.items n) (remove x.players.items n) =
        λ j. workers (out.seats j) (out.players j) in
        are ∙ sym (remove_workers x.seats.items x.players.items n many)

    others_many : (length rest.seats.items ≡ length rest.players.items)
        × (length rest.players.items + 1 ≡ length x.players.items)
    others_many =
        let less = out.there in
        let m = many in
        let r : length (remove x.players.items n) + 1 ≡ length x.players.items = length-remove x.players.items n less in
        let s : length (remove x.seats.items n) + 1 ≡ length x.seats.items =
        length-remove x.seats.items n (omega arith) in
        let e = ap length out.players in
        let f = ap length out.seats in (omega arith, omega arith)

    pub rest_seated : AreSeated table rest.seats.items rest.players.items
    rest_seated = all_seated (crew_of rest) rest.seats.items rest.players.items others_many.0
        (subst (λ (l : List (Sitting L D F)). AllZip Later l l) (sym others_are)
        (zip_removed Later (crew_of x) (crew_of x) n (all_refl x.seats.items x.players.items A)))

    pub has_place : (y : Crew L D F) → KeepOn stands table rest y → HasPlace y n
    has_place y h =
        let less = out.there in
        let k = others_many in
        let k0 = k.0 in
        let k1 = k.1 in
        let c = h.count in
        let l = keep_long rest y k.0 h in
        record {
          seats = omega arith;
          players = omega arith;
          seats_room = let f = h.seats_fit in let g = out.seats_room in omega arith;
          players_room = let f = h.players_fit in let g = out.players_room in omega arith;
        }

    pub has_place_aside : HasPlace rest n
    has_place_aside = has_place rest (keep_refl rest rest_seated)

    -- it went on, and is back at its place
    pub keep_back : (y z : Crew L D F) (v : Sitting L D F) → KeepOn stands table rest y
        → GoesOn stands table w.seat w.player v.seat v.player → IsPutBack y n v.seat v.player z → KeepOn stands table x z
    keep_back y z v h g back =
        let less = out.there in
        let m = long_workers x.seats.items x.players.items many in
        let place = has_place y h in
        let at : w ≡ get_or (crew_of x) n w =
        worker_at x.seats.items x.players.items n w.seat w.player many less out.seat out.player in
        let all : AllZip Later (crew_of x) (insert (crew_of y) n v) =
        zip_put_back Later (crew_of x) (crew_of y) n w v
        (subst (λ (l : List (Sitting L D F)). AllZip Later l (crew_of y)) others_are h.all) (omega arith) at g in
        let are : crew_of z ≡ workers (insert y.seats.items n v.seat) (insert y.players.items n v.player) =
        λ j. workers (back.seats j) (back.players j) in
        record {
          count =
              let e = ap length back.seats in
              let f = ap length back.players in
              let s = length-insert y.seats.items n v.seat place.seats in
              let a = length-insert y.players.items n v.player place.players in
              let c = h.count in omega arith;
          all = subst (AllZip Later (crew_of x))
              (insert_workers y.seats.items y.players.items n v.seat v.player h.count ∙ sym are) all;
          seats_fit = let f = h.seats_fit in let e = out.seats_fit in let k = back.seats_fit in omega arith;
          players_fit = let f = h.players_fit in let e = out.players_fit in let k = back.players_fit in omega arith;
        }

    pub keep_aside : (z : Crew L D F) (v : Sitting L D F) → GoesOn stands table w.seat w.player v.seat v.player
        → IsPutBack rest n v.seat v.player z → KeepOn stands table x z
    keep_aside z v g back = keep_back rest z v (keep_refl rest rest_seated) g back
