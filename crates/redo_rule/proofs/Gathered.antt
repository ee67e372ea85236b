-- What seats know, and have heard, while they are handed out and taken in.
use Rattle.std.proofs.Common.{List, Option, [], ap, arith, get_or, length, refl, subst, suc, sym, zero, ℕ, ⊎_elim, ◌++◌, ◌<◌, ◌∙◌, ◌∷◌, ◌≡◌, ◌≤◌}
use lib.ListN.{get_elem?}
use mathlib.Core.Option as maybe
use Rattle.atomic_table.specs.declared.shared.Seat.{Seat}
use Rattle.model_core.specs.declared.words.Layout.{Layout}
use Rattle.redo_rule.proofs.Seated.{at_end}
use Rattle.redo_rule.specs.Mine.{heard_of}
use Rattle.redo_rule.specs.Sharing.{AreLaidOut, heard_by}
use Rattle.redo_rule.specs.declared.law.About.{About}
use Rattle.redo_rule.specs.declared.law.Heard.{Heard}
use Rattle.redo_rule.specs.declared.law.Slot.{Slot}
use Rattle.redo_rule.specs.declared.law.View.{View}

pub there : {A : Type 0} (l : List A) (n : ℕ) → n < length l → (a : A) × (get_elem? l n ≡ maybe.some a)
there [] n less = absurd (omega arith)
there (x ∷ xs) zero less = (x, refl)
there (x ∷ xs) (suc n) less = there xs n (omega arith)

-- an entry below a list's end
pub at_or : {A : Type 0} (l : List A) (n : ℕ) (d : A) → n < length l → get_elem? l n ≡ maybe.some (get_or l n d)
at_or [] n d less = absurd (omega arith)
at_or (x ∷ xs) zero d less = refl
at_or (x ∷ xs) (suc n) d less = at_or xs n d (omega arith)

-- each of these seats knows this of its table
abbrev pub KnowTable : {L D : Type 0} → Option (About L D) → List (Seat (Slot L D) (View L D)) → Type 0
KnowTable {L} {D} told seats =
    (i : ℕ) (seat : Seat (Slot L D) (View L D)) → get_elem? seats i ≡ maybe.some seat → seat.me.0.about ≡ told

-- what the seats know of their table, where there is none, and where there is one more
pub none_know : {L D : Type 0} (told : Option (About L D)) (seats : List (Seat (Slot L D) (View L D))) → seats ≡ []
    → KnowTable told seats
none_know told seats none i seat e = absurd (maybe.some-ne-none seat (sym e ∙ ap (λ l. get_elem? l i) none))

pub one_knows : {L D : Type 0} (told : Option (About L D)) (seats more : List (Seat (Slot L D) (View L D)))
    (token : Seat (Slot L D) (View L D)) → more ≡ seats ++ token ∷ [] → KnowTable told seats → token.me.0.about ≡ told
    → KnowTable told more
one_knows told seats more token is all one i seat e = ⊎_elim
    (λ t. all i seat t.1)
    (λ t. subst (λ (s : Seat _ _). s.me.0.about ≡ told) t.1 one)
    (at_end seats token seat i (ap (λ l. get_elem? l i) (sym is) ∙ e))

-- so of which words they have
pub none_laid : {L D : Type 0} (layout : Layout) (seats : List (Seat (Slot L D) (View L D))) → seats ≡ []
    → AreLaidOut layout seats
none_laid layout seats none i seat e = absurd (maybe.some-ne-none seat (sym e ∙ ap (λ l. get_elem? l i) none))

pub one_laid : {L D : Type 0} (layout : Layout) (seats more : List (Seat (Slot L D) (View L D)))
    (token : Seat (Slot L D) (View L D)) → more ≡ seats ++ token ∷ [] → AreLaidOut layout seats
    → token.me.0.layout ≡ layout → AreLaidOut layout more
one_laid layout seats more token is all one i seat e = ⊎_elim
    (λ t. all i seat t.1)
    (λ t. subst (λ (s : Seat _ _). s.me.0.layout ≡ layout) t.1 one)
    (at_end seats token seat i (ap (λ l. get_elem? l i) (sym is) ∙ e))

pub none_beyond : {A : Type 0} (l : List A) (i : ℕ) (a : A) → length l ≤ i → get_elem? l i ≡ maybe.some a → ⊥
none_beyond [] i a le e = maybe.some-ne-none a (sym e)
none_beyond (x ∷ xs) zero a le e = absurd (omega arith)
none_beyond (x ∷ xs) (suc i) a le e = none_beyond xs i a (omega arith) e

-- what the seat of an actor's number has heard
pub heard_at : {L D : Type 0} (seats : List (Seat (Slot L D) (View L D))) (i : ℕ) (seat : Seat (Slot L D) (View L D))
    → get_elem? seats i ≡ maybe.some seat → ◌≡◌ {A = Heard} (heard_of seat.me.0) (heard_by seats i)
heard_at [] i seat e = absurd (maybe.some-ne-none seat (sym e))
heard_at (x ∷ xs) zero seat e = ap (λ (z : Seat _ _). heard_of z.me.0) (sym (maybe.some-injective x seat e))
heard_at (x ∷ xs) (suc i) seat e = heard_at xs i seat e
