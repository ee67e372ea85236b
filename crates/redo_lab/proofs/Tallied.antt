-- Followers as they are made one by one, and as they are told one by one.
use Rattle.std.proofs.Common.{List, None, Some, [], add-one, ap, append-nil, append_assoc, arith, drop, drop-cons, get_or, length, length-append, refl, subst, suc, sym, ⊎_elim, ℕ, ◌+◌, ◌++◌, ◌<◌, ◌∙◌, ◌∷◌, ◌≡◌, ◌≤◌}
use Rattle.std.proofs.lemmas.List.{at_drop_all}
use Rattle.std.proofs.lemmas.Slice.Zip.{AllZip-long}
use Rattle.std.specs.List.{AllZip}
use lib.ListN.{get_elem?}
use mathlib.Core.Option.{some}
use Rattle.model_core.specs.{new_reader}
use Rattle.model_report.specs.declared.entry.Followed.{Followed}
use Rattle.redo_drive.proofs.Seats.{at_more}
use Rattle.redo_drive.specs.{followers_in, follower_of}
use Rattle.redo_drive.specs.declared.actor.Actor.{Actor}
use Rattle.redo_drive.specs.declared.actor.Actor.TheVariants as own
use Rattle.redo_drive.specs.declared.seating.TheConstants.{FIRST_FOLLOWER}
use Rattle.redo_follow.specs.Following.{Following}
use Rattle.redo_follow.specs.{HasTally, Kept}
use Rattle.redo_lab.specs.Call.{IsToldOf}

-- AS THEY ARE MADE

-- a new one at its place
pub record IsNew (start i : ℕ) (follower : Following Kept) : Type 0 where
  pub state : follower.state ≡ new_reader (FIRST_FOLLOWER + i) start
  pub untold : HasTally follower.receiver []

-- each is a new one at its place
abbrev pub AreNew : ℕ → List (Following Kept) → Type 0
AreNew start followers =
    (i : ℕ) (follower : Following Kept) → get_elem? followers i ≡ some follower → IsNew start i follower

pub none-new : (start : ℕ) → AreNew start []
none-new start i follower at = absurd (cc)

pub one-new : (start number : ℕ) (followers : List (Following Kept)) (follower : Following Kept)
    → AreNew start followers → FIRST_FOLLOWER + length followers ≡ number
    → follower.state ≡ new_reader number start → HasTally follower.receiver []
    → AreNew start (followers ++ follower ∷ [])
one-new start number followers follower are is state untold i other at = ⊎_elim
    (λ old. are i other old)
    (λ last.
    let place : number ≡ FIRST_FOLLOWER + i = omega (arith, is, last.0) in
    subst (IsNew start i) last.1 (record { state = state ∙ ap (λ (n : ℕ). new_reader n start) place; untold = untold }))
    (at_more followers follower other i at)

-- AS THEY ARE TOLD

-- one more of both
all-more : {A B : Type 0} (R : A → B → Type 0) (xs : List A) (ys : List B) (x : A) (y : B) → AllZip R xs ys → R x y
    → AllZip R (xs ++ x ∷ []) (ys ++ y ∷ [])
all-more R [] [] x y all is = (is, tt)
all-more R [] (z ∷ ys) x y all is = absurd all
all-more R (z ∷ xs) [] x y all is = absurd all
all-more R (z ∷ xs) (w ∷ ys) x y all is = (all.0, all-more R xs ys x y all.1 is)

-- so far, the first followers are told; the rest are to come
pub record AreToldUpto (all rest : List (Following Kept)) (follows : List Followed) : Type 0 where
  pub done : List (Following Kept)
  pub parts : ◌≡◌ {A = List (Following Kept)} all (done ++ rest)
  pub told : AllZip IsToldOf done follows

pub none-told : (all : List (Following Kept)) (follows : List Followed) → follows ≡ [] → AreToldUpto all all follows
none-told all follows none =
    subst (AreToldUpto all all) (sym none) (record { done = []; parts = refl; told = tt })

pub one-told : (all rest : List (Following Kept)) (follows : List Followed)
    (follower : Following Kept) (followed : Followed) → AreToldUpto all (follower ∷ rest) follows
    → IsToldOf follower followed → AreToldUpto all rest (follows ++ followed ∷ [])
one-told all rest follows follower followed so is = record {
  done = so.done ++ follower ∷ [];
  parts = so.parts ∙ sym (append_assoc so.done (follower ∷ []) rest);
  told = all-more IsToldOf so.done follows follower followed so.told is;
}

-- there is room for one more
pub has-room : (all rest : List (Following Kept)) (follows : List Followed) (follower : Following Kept) (room : ℕ)
    → AreToldUpto all (follower ∷ rest) follows → length all ≤ room → length follows < room
has-room all rest follows follower room so enough =
    let long : length follows ≡ length so.done = AllZip-long IsToldOf so.done follows so.told in
    let parts : length all ≡ length (so.done ++ follower ∷ rest) = ap length so.parts in
    omega (arith, long, parts, length-append so.done (follower ∷ rest), enough)

-- the followers among the actors from this one on
first-of : {R : Type 0} (actor : Actor R) (actors : List (Actor R)) (follower : Following R)
    → follower_of actor ≡ Some follower
    → ◌≡◌ {A = List (Following R)} (followers_in (actor ∷ actors)) (follower ∷ followers_in actors)
first-of (own.Follower f) actors follower is =
    let same : f ≡ follower = cc in ap (λ (x : Following _). x ∷ followers_in actors) same
first-of (own.User u) actors follower is = absurd (cc)
first-of (own.Writer w) actors follower is = absurd (cc)
first-of (own.Flusher f) actors follower is = absurd (cc)
first-of (own.Closer c) actors follower is = absurd (cc)
first-of (own.Cleaner c) actors follower is = absurd (cc)
first-of (own.Checkpointer c) actors follower is = absurd (cc)
first-of (own.Archiver a) actors follower is = absurd (cc)

none-of : {R : Type 0} (actor : Actor R) (actors : List (Actor R)) → follower_of actor ≡ None
    → ◌≡◌ {A = List (Following R)} (followers_in (actor ∷ actors)) (followers_in actors)
none-of (own.Follower f) actors none = absurd (cc)
none-of (own.User u) actors none = refl
none-of (own.Writer w) actors none = refl
none-of (own.Flusher f) actors none = refl
none-of (own.Closer c) actors none = refl
none-of (own.Cleaner c) actors none = refl
none-of (own.Checkpointer c) actors none = refl
none-of (own.Archiver a) actors none = refl

module _ {R : Type 0} (actors : List (Actor R)) (at : ℕ) (actor : Actor R) (is : actor ≡ get_or actors at actor)
    (there : at < length actors) where
  next-actor : ◌≡◌ {A = List (Following R)} (followers_in (drop at actors))
      (followers_in (actor ∷ drop (at + 1) actors))
  next-actor =
      ap (λ (l : List (Actor R)). followers_in l)
      (drop-cons actors at actor there ∙ ap (λ (a : Actor R). a ∷ drop (suc at) actors) (sym is)
      ∙ ap (λ (n : ℕ). actor ∷ drop n actors) (sym (add-one at)))

  pub next-is : (follower : Following R) → follower_of actor ≡ Some follower
      → ◌≡◌ {A = List (Following R)} (followers_in (drop at actors)) (follower ∷ followers_in (drop (at + 1) actors))
  next-is follower of = next-actor ∙ first-of actor (drop (at + 1) actors) follower of

  pub next-none : follower_of actor ≡ None
      → ◌≡◌ {A = List (Following R)} (followers_in (drop at actors)) (followers_in (drop (at + 1) actors))
  next-none none = next-actor ∙ none-of actor (drop (at + 1) actors) none

-- where none is to come, all are told
pub all-told : (actors : List (Actor Kept)) (at : ℕ) (follows : List Followed) → length actors ≤ at
    → AreToldUpto (followers_in actors) (followers_in (drop at actors)) follows
    → AllZip IsToldOf (followers_in actors) follows
all-told actors at follows past so =
    let none : ◌≡◌ {A = List (Following Kept)} (followers_in (drop at actors)) [] =
    at_drop_all (λ (rest : List (Actor Kept)). followers_in rest) actors at past in
    subst (λ (l : List (Following Kept)). AllZip IsToldOf l follows)
    (sym (so.parts ∙ ap (λ (l : List (Following Kept)). so.done ++ l) none ∙ append-nil so.done)) so.told
