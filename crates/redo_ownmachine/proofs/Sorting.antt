-- The actors of a run are sorted into users, writer, flusher and others.
use Rattle.std.proofs.Common.{List, None, Option, Some, [], ap, append-nil, append_assoc, arith, false, length, map, refl, subst, suc, sym, zero, ◌++◌, ◌∙◌, ◌∷◌, ◌≡◌}
use mathlib.Core.Option.{some-injective, some-ne-none}
use Rattle.model_core.specs.States as model
use Rattle.model_core.specs.{FlusherState, UserState, WriterState}
use Rattle.model_own.specs.{OwnUser}
use Rattle.model_own.specs.declared.errand.ErrandStep.TheVariants as errand_step
use Rattle.redo_drive.specs.{view_of, views_of}
use Rattle.redo_drive.specs.declared.actor.Actor.{Actor}
use Rattle.redo_drive.specs.declared.actor.Actor.TheVariants as own
use Rattle.redo_ownmachine.specs.OwnCrew.{AreOthers, HaveWorkers, IsOther, crew}
use Rattle.redo_ownmachine.specs.OwnSeats.{AreAtHome}

-- a user as a run begins, on no errand
abbrev pub fresh : UserState → OwnUser
fresh u = record { user = u; errand = errand_step.Done; helped = false }

pub record Sorted (R : Type 0) : Type 0 where
  pub users : List OwnUser
  pub writer : Option WriterState
  pub flusher : Option FlusherState
  pub others : List (Actor R)

abbrev pub none_yet : {R : Type 0} → Sorted R
none_yet = record { users = []; writer = None; flusher = None; others = [] }

abbrev pub put : {R : Type 0} → Sorted R → Actor R → Sorted R
put s (own.User u) = record s { users = s.users ++ fresh u ∷ [] }
put s (own.Writer w) = record s { writer = Some w }
put s (own.Flusher f) = record s { flusher = Some f }
put s a = record s { others = s.others ++ a ∷ [] }

abbrev pub sorted : {R : Type 0} → Sorted R → List (Actor R) → Sorted R
sorted s [] = s
sorted s (a ∷ actors) = sorted (put s a) actors

-- one more
pub sorted_more : {R : Type 0} (s : Sorted R) (actors : List (Actor R)) (a : Actor R)
    → ◌≡◌ {A = Sorted R} (sorted s (actors ++ a ∷ [])) (put (sorted s actors) a)
sorted_more s [] a = refl
sorted_more s (x ∷ xs) a = sorted_more (put s x) xs a

module _ {R : Type 0} where
  others_sorted : (s : Sorted R) (os : List (Actor R)) → AreOthers os
      → ◌≡◌ {A = Sorted R} (sorted s os) (record s { others = s.others ++ os })
  others_sorted s [] are = ap (λ (l : List (Actor R)). record s { others = l }) (sym (append-nil s.others))
  others_sorted s (a ∷ os) are = first a are.0 ∙ others_sorted (record s { others = s.others ++ a ∷ [] }) os are.1
      ∙ ap (λ (l : List (Actor R)). record s { others = l }) (append_assoc s.others (a ∷ []) os)
    where
      first : (b : Actor R) → IsOther b
          → ◌≡◌ {A = Sorted R} (sorted (put s b) os) (sorted (record s { others = s.others ++ b ∷ [] }) os)
      first (own.User u) other = absurd other
      first (own.Writer w) other = absurd other
      first (own.Flusher f) other = absurd other
      first _ other = refl

  users_sorted : (s : Sorted R) (us : List UserState) (rest : List (Actor R))
      → ◌≡◌ {A = Sorted R} (sorted s (map own.User us ++ rest)) (sorted (record s { users = s.users ++ map fresh us }) rest)
  users_sorted s [] rest = ap (λ (l : List OwnUser). sorted (record s { users = l }) rest) (sym (append-nil s.users))
  users_sorted s (u ∷ us) rest = users_sorted (record s { users = s.users ++ fresh u ∷ [] }) us rest
      ∙ ap (λ (l : List OwnUser). sorted (record s { users = l }) rest) (append_assoc s.users (fresh u ∷ []) (map fresh us))

  pub all_sorted : (actors : List (Actor R)) (h : HaveWorkers actors) → ◌≡◌ {A = Sorted R} (sorted none_yet actors)
      (record { users = map fresh h.users; writer = Some h.writer; flusher = Some h.flusher; others = h.others })
  all_sorted actors h = ap (sorted none_yet) h.are
      ∙ users_sorted none_yet h.users (own.Writer h.writer ∷ own.Flusher h.flusher ∷ h.others)
      ∙ others_sorted (record {
        users = map fresh h.users;
        writer = Some h.writer;
        flusher = Some h.flusher;
        others = [];
      }) h.others h.kinds

  same_users : (us : List UserState) (rest : List (Actor R))
      → ◌≡◌ {A = List (Actor R)} (map (λ (o : OwnUser). own.User o.user) (map fresh us) ++ rest) (map own.User us ++ rest)
  same_users [] rest = refl
  same_users (u ∷ us) rest = ap (λ (l : List (Actor R)). own.User u ∷ l) (same_users us rest)

  pub crew_is : (actors : List (Actor R)) (h : HaveWorkers actors) → ◌≡◌ {A = List (Actor R)}
      (crew (map fresh h.users) (record { writer = h.writer; flusher = h.flusher }) h.others) actors
  crew_is actors h = same_users h.users (own.Writer h.writer ∷ own.Flusher h.flusher ∷ h.others) ∙ sym h.are

pub at_home : (us : List UserState) → AreAtHome (map fresh us)
at_home [] seat o at = absurd (some-ne-none o (sym at))
at_home (u ∷ us) zero o at = subst (λ (x : OwnUser). (x.errand ≡ errand_step.Done) × (x.helped ≡ false))
    (some-injective (fresh u) o at) (refl, refl)
at_home (u ∷ us) (suc seat) o at = at_home us seat o at

-- THE ACTORS OF A RUN, by what the definitions see of them.
abbrev pub IsOtherView : model.Actor → Type 0
IsOtherView (model.Closer t) = Unit {0}
IsOtherView (model.Cleaner v) = Unit {0}
IsOtherView (model.Checkpointer t) = Unit {0}
IsOtherView (model.Reader r) = Unit {0}
IsOtherView _ = ⊥

abbrev pub AreOtherViews : List model.Actor → Type 0
AreOtherViews [] = Unit {0}
AreOtherViews (a ∷ actors) = IsOtherView a × AreOtherViews actors

abbrev first_of : model.Actor → List model.Actor → model.Actor
first_of d [] = d
first_of d (x ∷ xs) = x

abbrev tail_of : List model.Actor → List model.Actor
tail_of [] = []
tail_of (x ∷ xs) = xs

abbrev user_of : UserState → model.Actor → UserState
user_of d (model.User u) = u
user_of d _ = d

abbrev writer_of : WriterState → model.Actor → WriterState
writer_of d (model.Writer w) = w
writer_of d _ = d

abbrev flusher_of : FlusherState → model.Actor → FlusherState
flusher_of d (model.Flusher f) = f
flusher_of d _ = d

abbrev pub views_with : List UserState → WriterState → FlusherState → List model.Actor → List model.Actor
views_with us w f os = map model.User us ++ model.Writer w ∷ model.Flusher f ∷ os

module _ {R : Type 0} where
  is_user : (a : Actor R) (u : UserState) → ◌≡◌ {A = model.Actor} (view_of a) (model.User u)
      → ◌≡◌ {A = Actor R} a (own.User u)
  is_user (own.User v) u e = ap own.User (ap (user_of u) e)
  is_user (own.Writer v) u e = absurd (cc)
  is_user (own.Flusher v) u e = absurd (cc)
  is_user (own.Closer v) u e = absurd (cc)
  is_user (own.Cleaner v) u e = absurd (cc)
  is_user (own.Checkpointer v) u e = absurd (cc)
  is_user (own.Archiver v) u e = absurd (cc)
  is_user (own.Follower v) u e = absurd (cc)

  is_writer : (a : Actor R) (w : WriterState) → ◌≡◌ {A = model.Actor} (view_of a) (model.Writer w)
      → ◌≡◌ {A = Actor R} a (own.Writer w)
  is_writer (own.Writer v) w e = ap own.Writer (ap (writer_of w) e)
  is_writer (own.User v) w e = absurd (cc)
  is_writer (own.Flusher v) w e = absurd (cc)
  is_writer (own.Closer v) w e = absurd (cc)
  is_writer (own.Cleaner v) w e = absurd (cc)
  is_writer (own.Checkpointer v) w e = absurd (cc)
  is_writer (own.Archiver v) w e = absurd (cc)
  is_writer (own.Follower v) w e = absurd (cc)

  is_flusher : (a : Actor R) (f : FlusherState) → ◌≡◌ {A = model.Actor} (view_of a) (model.Flusher f)
      → ◌≡◌ {A = Actor R} a (own.Flusher f)
  is_flusher (own.Flusher v) f e = ap own.Flusher (ap (flusher_of f) e)
  is_flusher (own.User v) f e = absurd (cc)
  is_flusher (own.Writer v) f e = absurd (cc)
  is_flusher (own.Closer v) f e = absurd (cc)
  is_flusher (own.Cleaner v) f e = absurd (cc)
  is_flusher (own.Checkpointer v) f e = absurd (cc)
  is_flusher (own.Archiver v) f e = absurd (cc)
  is_flusher (own.Follower v) f e = absurd (cc)

  is_other : (a : Actor R) → IsOtherView (view_of a) → IsOther a
  is_other (own.User v) other = other
  is_other (own.Writer v) other = other
  is_other (own.Flusher v) other = other
  is_other (own.Closer v) other = tt
  is_other (own.Cleaner v) other = tt
  is_other (own.Checkpointer v) other = tt
  is_other (own.Archiver v) other = tt
  is_other (own.Follower v) other = tt

  are_others : (actors : List (Actor R)) → AreOtherViews (views_of actors) → AreOthers actors
  are_others [] are = tt
  are_others (a ∷ actors) are = (is_other a are.0, are_others actors are.1)

  pub by_views : (actors : List (Actor R)) (us : List UserState) (w : WriterState) (f : FlusherState)
      (os : List model.Actor) → ◌≡◌ {A = List model.Actor} (views_of actors) (views_with us w f os)
      → AreOtherViews os → HaveWorkers actors
  by_views [] [] w f os e kinds = absurd (let z : 0 ≡ suc (suc (length os)) = ap length e in omega arith)
  by_views (a ∷ []) [] w f os e kinds = absurd (let z : 1 ≡ suc (suc (length os)) = ap length e in omega arith)
  by_views (a ∷ b ∷ actors) [] w f os e kinds = record {
    users = [];
    writer = w;
    flusher = f;
    others = actors;
    are = ap (λ (z : Actor R). z ∷ b ∷ actors) (is_writer a w (ap (first_of (model.Writer w)) e))
        ∙ ap (λ (z : Actor R). own.Writer w ∷ z ∷ actors)
        (is_flusher b f (ap (λ (l : List model.Actor). first_of (model.Flusher f) (tail_of l)) e));
    kinds = are_others actors (subst AreOtherViews (sym (ap (λ (l : List model.Actor). tail_of (tail_of l)) e)) kinds);
  }
  by_views [] (u ∷ us) w f os e kinds =
      absurd (let z : 0 ≡ suc (length (views_with us w f os)) = ap length e in omega arith)
  by_views (a ∷ actors) (u ∷ us) w f os e kinds =
      let h = by_views actors us w f os (ap tail_of e) kinds in record {
        users = u ∷ h.users;
        writer = h.writer;
        flusher = h.flusher;
        others = h.others;
        are = ap (λ (z : Actor R). z ∷ actors) (is_user a u (ap (first_of (model.User u)) e))
            ∙ ap (λ (l : List (Actor R)). own.User u ∷ l) h.are;
        kinds = h.kinds;
      }

-- one more, by what it is
pub put_more : {R : Type 0} (s : Sorted R) (actors : List (Actor R)) (a b : Actor R)
    → ◌≡◌ {A = Sorted R} s (sorted none_yet actors) → ◌≡◌ {A = Actor R} a b
    → ◌≡◌ {A = Sorted R} (put s b) (sorted none_yet (actors ++ a ∷ []))
put_more {R} s actors a b so is = ap (λ (z : Actor R). put s z) (sym is) ∙ ap (λ (z : Sorted R). put z a) so
    ∙ sym (sorted_more none_yet actors a)

pub put_other : {R : Type 0} (s : Sorted R) (a : Actor R) → ((u : UserState) → ◌≡◌ {A = Actor R} a (own.User u) → ⊥)
    → ((w : WriterState) → ◌≡◌ {A = Actor R} a (own.Writer w) → ⊥)
    → ((f : FlusherState) → ◌≡◌ {A = Actor R} a (own.Flusher f) → ⊥)
    → ◌≡◌ {A = Sorted R} (record s { others = s.others ++ a ∷ [] }) (put s a)
put_other s (own.User u) user writer flusher = absurd (user u refl)
put_other s (own.Writer w) user writer flusher = absurd (writer w refl)
put_other s (own.Flusher f) user writer flusher = absurd (flusher f refl)
put_other s _ user writer flusher = refl

-- what all of them come to
module _ {R : Type 0} (actors : List (Actor R)) (h : HaveWorkers actors) (users : List OwnUser)
    (writer : Option WriterState) (flusher : Option FlusherState) (others : List (Actor R))
    (are : ◌≡◌ {A = Sorted R} (record { users = users; writer = writer; flusher = flusher; others = others })
    (sorted none_yet actors)) where
  abbrev all : Sorted R
  all = record { users = users; writer = writer; flusher = flusher; others = others }

  end : ◌≡◌ {A = Sorted R} all
      (record { users = map fresh h.users; writer = Some h.writer; flusher = Some h.flusher; others = h.others })
  end = are ∙ all_sorted actors h

  pub has_writer : writer ≡ Some h.writer
  has_writer = ap (λ (s : Sorted R). s.writer) end

  pub has_flusher : flusher ≡ Some h.flusher
  has_flusher = ap (λ (s : Sorted R). s.flusher) end

  pub its_crew : (w : WriterState) (f : FlusherState) → writer ≡ Some w → flusher ≡ Some f
      → ◌≡◌ {A = List (Actor R)} (crew users (record { writer = w; flusher = f }) others) actors
  its_crew w f is_w is_f =
      let same_w : Some w ≡ Some h.writer = sym is_w ∙ has_writer in
      let same_f : Some f ≡ Some h.flusher = sym is_f ∙ has_flusher in
      let e_w : w ≡ h.writer = cc in
      let e_f : f ≡ h.flusher = cc in
      ap (λ (s : Sorted R). crew s.users (record { writer = w; flusher = f }) s.others) end
      ∙ ap (λ (x : WriterState). crew (map fresh h.users) (record { writer = x; flusher = f }) h.others) e_w
      ∙ ap (λ (x : FlusherState). crew (map fresh h.users) (record { writer = h.writer; flusher = x }) h.others) e_f
      ∙ crew_is actors h

  pub its_home : AreAtHome users
  its_home = subst AreAtHome (sym (ap (λ (s : Sorted R). s.users) end)) (at_home h.users)
