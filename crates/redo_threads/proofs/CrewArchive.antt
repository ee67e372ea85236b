-- The archiver is taken out of the crew with its archive, and is put back at its place.
use Rattle.std.proofs.Common.{List, Option, Some, [], ap, arith, get_or, length, refl, subst, suc, sym, zero, ℕ, ◌+◌, ◌<◌, ◌∙◌, ◌∷◌, ◌≡◌, ◌≤◌}
use Rattle.std.specs.List.{insert}
use Rattle.std.specs.Prelude.{IfSome}
use lib.ListN.{get_elem?}
use mathlib.Core.Option as maybe
use Rattle.atomic_table.specs.Seated.{TableId}
use Rattle.atomic_table.specs.declared.shared.Seat.{Seat}
use Rattle.model_core.specs.{Given}
use Rattle.redo_archive.specs.Part.{Part}
use Rattle.redo_disk.specs.{Call, Seen}
use Rattle.redo_ownrule.specs.declared.player.Player.{Player}
use Rattle.redo_rule.specs.declared.law.About.{About}
use Rattle.redo_rule.specs.declared.law.Slot.{Slot}
use Rattle.redo_rule.specs.declared.law.View.{View}
use Rattle.redo_threads.proofs.Keeping.{has_place, taken_sits}
use Rattle.redo_threads.proofs.Workers.{worker}
use Rattle.redo_threads.specs.Archiving.{ArchiveStays, GoesOnWith, IsArchiving, KeepsArchive, MayBeArchived, MayWork}
use Rattle.redo_threads.specs.Working.{AreAtEnd, AreSeated, AtEnd, IsPutBack, IsTakenOut, KeepOn}
use Rattle.redo_threads.specs.declared.crew.Crew.{Crew}
use Rattle.redo_threads.specs.declared.crew.Worker.{Worker}

-- what stands at a place
pub at_index : {A : Type 0} (l : List A) (n : ℕ) (d : A) → n < length l → d ≡ get_or l n d → get_elem? l n ≡ maybe.some d
at_index [] n d less is = absurd (omega arith)
at_index (x ∷ xs) zero d less is = ap (λ (z : _). maybe.some z) (sym is)
at_index (x ∷ xs) (suc n) d less is = at_index xs n d (omega arith) is

inserted_at : {A : Type 0} (l : List A) (n : ℕ) (a : A) → n ≤ length l → get_elem? (insert l n a) n ≡ maybe.some a
inserted_at [] zero a low = refl
inserted_at [] (suc n) a low = absurd (omega arith)
inserted_at (x ∷ xs) zero a low = refl
inserted_at (x ∷ xs) (suc n) a low = inserted_at xs n a (omega arith)

-- one more isn't the archiver
pub none_more : {F : Type 0} (l : List (Player F)) (n : ℕ) (d : Player F) → n < length l → d ≡ get_or l n d
    → ((i : ℕ) (p : Player F) → i < n → get_elem? l i ≡ maybe.some p → IsArchiving p → ⊥) → (IsArchiving d → ⊥)
    → (i : ℕ) (p : Player F) → i < n + 1 → get_elem? l i ≡ maybe.some p → IsArchiving p → ⊥
none_more [] n d less is below other i p low at its = absurd (omega arith)
none_more (x ∷ xs) zero d less is below other zero p low at its =
    other (subst (λ (z : Player _). IsArchiving z) (sym (is ∙ maybe.some-injective x p at)) its)
none_more (x ∷ xs) zero d less is below other (suc i) p low at its = absurd (omega arith)
none_more (x ∷ xs) (suc n) d less is below other zero p low at its = below zero p (omega arith) at its
none_more (x ∷ xs) (suc n) d less is below other (suc i) p low at its = none_more xs n d (omega arith) is
    (λ j q l bt. below (suc j) q (omega arith) bt) other i p (omega arith) at its

-- all have come to their ends with one more
pub ends_with : {F : Type 0} (players : List (Player F)) (n : ℕ) (q : Player F) → AreAtEnd players → AtEnd q
    → AreAtEnd (insert players n q)
ends_with [] zero q ends one zero p at = subst (λ (z : Player _). AtEnd z) (maybe.some-injective q p at) one
ends_with [] zero q ends one (suc i) p at = absurd (maybe.some-ne-none p (sym at))
ends_with [] (suc n) q ends one zero p at = subst (λ (z : Player _). AtEnd z) (maybe.some-injective q p at) one
ends_with [] (suc n) q ends one (suc i) p at = absurd (maybe.some-ne-none p (sym at))
ends_with (x ∷ xs) zero q ends one zero p at = subst (λ (z : Player _). AtEnd z) (maybe.some-injective q p at) one
ends_with (x ∷ xs) zero q ends one (suc i) p at = ends i p at
ends_with (x ∷ xs) (suc n) q ends one zero p at = ends zero p at
ends_with (x ∷ xs) (suc n) q ends one (suc i) p at = ends_with xs n q (λ j r bt. ends (suc j) r bt) one i p at

module _ {L D A F : Type 0} (stands : F → List Given → Type 0) (table : TableId) (seen : A → Seen)
    (gives : A → Call → A → Type 0) (x rest : Crew L D F) (n : ℕ) (w : Worker L D A F)
    (seated : AreSeated table x.seats.items x.players.items)
    (out : IsTakenOut x n w.seat w.player rest) (many : length x.seats.items ≡ length x.players.items) (part : Part A)
    (archive_is : w.archive ≡ Some part) (p : Player F) (p_at : get_elem? x.players.items n ≡ maybe.some p)
    (archives : IsArchiving p) where
  player_at : get_elem? x.players.items n ≡ maybe.some w.player
  player_at = at_index x.players.items n w.player out.there out.player

  seat_at : get_elem? x.seats.items n ≡ maybe.some w.seat
  seat_at = at_index x.seats.items n w.seat (let l = out.there in let m = many in omega arith) out.seat

  its : IsArchiving w.player
  its = subst (λ (z : Player F). IsArchiving z) (maybe.some-injective p w.player (sym p_at ∙ player_at)) archives

  keeps : (about : About L D) (before : Part A) → MayBeArchived seen gives about before x part
      → KeepsArchive seen gives about before w.seat.me.0 w.player w.archive
  keeps about before M = subst (KeepsArchive seen gives about before w.seat.me.0 w.player) (sym archive_is)
      (M.each n w.seat w.player seat_at player_at its)

  pub may_work : (about : About L D) × (before : Part A) × MayBeArchived seen gives about before x part
      → MayWork seen gives table (Some w)
  may_work may = (
    taken_sits stands table x rest n (worker w.seat w.player) seated out,
    subst (λ (a : Option (Part A)). IfSome a (λ z. (about : About L D) × (before : Part A)
        × KeepsArchive seen gives about before w.seat.me.0 w.player a)) (sym archive_is)
        (may.0, may.1, M.each n w.seat w.player seat_at player_at its),
  )
    where
      M : MayBeArchived seen gives may.0 may.1 x part
      M = may.2

  pub stays : (y z : Crew L D F) (v : Worker L D A F) → KeepOn stands table rest y
      → GoesOnWith seen gives stands table w.seat w.player w.archive v.seat v.player v.archive
      → IsPutBack y n v.seat v.player z → ArchiveStays seen gives x part z v.archive
  stays y z v h on back =
      let place = has_place stands table x rest n (worker w.seat w.player) seated out y h in
      record {
        place = n;
        one = w.player;
        at = player_at;
        archives = its;
        seat = v.seat;
        then = v.player;
        sits = ap (λ (l : List (Seat (Slot L D) (View L D))). get_elem? l n) back.seats
            ∙ inserted_at y.seats.items n v.seat place.seats;
        then_at = ap (λ (l : List (Player F)). get_elem? l n) back.players
            ∙ inserted_at y.players.items n v.player place.players;
        keeps = λ about before M. on.archive.some about before (keeps about before M);
      }
