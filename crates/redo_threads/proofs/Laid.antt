-- Players that keep on in their seats have the same words.
use Rattle.std.proofs.Common.{List, None, Option, Some, [], arith, get_or, length, refl, subst, suc, sym, zero, ℕ, ◌<◌, ◌∙◌, ◌∷◌, ◌≡◌}
use Rattle.std.specs.List.{remove}
use lib.ListN.{get_elem?}
use mathlib.Core.Option as maybe
use Rattle.atomic_table.specs.Seated.{TableId}
use Rattle.atomic_table.specs.declared.shared.Seat.{Seat}
use Rattle.model_core.specs.{Given}
use Rattle.model_core.specs.declared.words.Layout.{Layout}
use Rattle.redo_disk.specs.{Call, Seen}
use Rattle.redo_rule.proofs.Gathered.{there}
use Rattle.redo_rule.specs.Sharing.{AreLaidOut}
use Rattle.redo_rule.specs.declared.law.Slot.{Slot}
use Rattle.redo_rule.specs.declared.law.View.{View}
use Rattle.redo_threads.proofs.CrewArchive.{at_index}
use Rattle.redo_threads.proofs.Ending.{past}
use Rattle.redo_threads.proofs.Keeping.{as_many, gone_at, keep_long}
use Rattle.redo_threads.specs.Archiving.{IsLaidOut, WorksOn}
use Rattle.redo_threads.specs.Working.{AreSeated, IsTakenOut, KeepOn, Sitting}
use Rattle.redo_threads.specs.declared.crew.Crew.{Crew}
use Rattle.redo_threads.specs.declared.crew.Worker.{Worker}

-- what is left of a list stood there
removed_from : {A : Type 0} (l : List A) (n i : ℕ) (a : A) → get_elem? (remove l n) i ≡ maybe.some a
    → (j : ℕ) × (get_elem? l j ≡ maybe.some a)
removed_from [] zero i a at = absurd (maybe.some-ne-none a (sym at))
removed_from [] (suc n) i a at = absurd (maybe.some-ne-none a (sym at))
removed_from (x ∷ xs) zero i a at = (suc i, at)
removed_from (x ∷ xs) (suc n) zero a at = (zero, at)
removed_from (x ∷ xs) (suc n) (suc i) a at = let r = removed_from xs n i a at in (suc r.0, r.1)

module _ {L D F : Type 0} (stands : F → List Given → Type 0) (table : TableId) (layout : Layout) where
  module _ (x y : Crew L D F) (seated : AreSeated table x.seats.items x.players.items)
      (laid : AreLaidOut layout x.seats.items) (h : KeepOn stands table x y) where
    pub keep_laid : AreLaidOut layout y.seats.items
    keep_laid i t at =
        let many = as_many stands table x.seats.items x.players.items seated in
        let l = past y.seats.items i t at in
        let c = h.count in
        let k = keep_long stands table x y many h in
        let q = there y.players.items i (omega arith) in
        let p = there x.players.items i (omega arith) in
        let s = gone_at stands table x y h i t p.0 q.0 at p.1 q.1 in
        s.2.same.layout ∙ laid i s.0 s.1

    pub laid_at : (n : ℕ) (s : Seat (Slot L D) (View L D)) → n < length y.players.items → s ≡ get_or y.seats.items n s
        → s.me.0.layout ≡ layout
    laid_at n s less is = keep_laid n s (at_index y.seats.items n s (let c = h.count in omega arith) is)

  -- a worker that is taken out, and the others
  module _ (x rest : Crew L D F) (n : ℕ) (w : Sitting L D F) (seated : AreSeated table x.seats.items x.players.items)
      (laid : AreLaidOut layout x.seats.items) (out : IsTakenOut x n w.seat w.player rest) where
    pub taken_laid : w.seat.me.0.layout ≡ layout
    taken_laid =
        let many = as_many stands table x.seats.items x.players.items seated in
        let l = out.there in
        laid n w.seat (at_index x.seats.items n w.seat (omega arith) out.seat)

    pub rest_laid : AreLaidOut layout rest.seats.items
    rest_laid i t at =
        let r = removed_from x.seats.items n i t
        (subst (λ (l : List (Seat (Slot L D) (View L D))). get_elem? l i ≡ maybe.some t) out.seats at) in
        laid r.0 t r.1

  -- a worker, if there is one
  module _ {A : Type 0} (seen : A → Seen) (gives : A → Call → A → Type 0) where
    pub work_laid : (w v : Option (Worker L D A F)) → IsLaidOut layout w → WorksOn seen gives stands table w v
        → IsLaidOut layout v
    work_laid None None laid on = tt
    work_laid None (Some v) laid on = absurd on
    work_laid (Some w) None laid on = absurd on
    work_laid (Some w) (Some v) laid on = on.player.same.layout ∙ laid
