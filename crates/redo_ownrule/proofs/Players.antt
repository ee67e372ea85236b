-- The actors of a run are made its players, and the writer and the flusher among them the log's work.
use Rattle.std.proofs.Common.{List, None, Option, Some, [], ap, append-nil, append_assoc, map, refl}
use Rattle.std.proofs.Common.{subst, sym, ◌++◌, ◌∙◌, ◌∷◌, ◌≡◌}
use Rattle.model_core.specs.{FlusherState, UserState, WriterState}
use Rattle.redo_drive.specs.declared.actor.Actor.{Actor}
use Rattle.redo_drive.specs.declared.actor.Actor.TheVariants as actor
use Rattle.redo_ownmachine.proofs.Sorting.{fresh}
use Rattle.redo_ownmachine.specs.OwnCrew.{AreOthers, HaveWorkers, IsOther}
use Rattle.redo_ownrule.specs.Players.{actor_of, ArePlain, crew, UsersFirst}
use Rattle.redo_ownrule.specs.Staffing.{HaveOthers, StandAtHome}
use Rattle.redo_ownrule.specs.declared.player.Player.{Player}
use Rattle.redo_ownrule.specs.declared.player.Player.TheVariants as player

module _ {R : Type 0} where
  -- each of them by its own program
  abbrev pub plain : List (Actor R) → List (Player R)
  plain actors = map player.Plain actors

  pub are_plain : (actors : List (Actor R)) → ArePlain (plain actors)
  are_plain [] = tt
  are_plain (a ∷ actors) = are_plain actors

  pub users_none : (actors : List (Actor R)) → UsersFirst (plain actors)
  users_none [] = tt
  users_none (a ∷ actors) = are_plain actors

  pub plain_home : (actors : List (Actor R)) → StandAtHome (plain actors)
  plain_home [] = tt
  plain_home (a ∷ actors) = plain_home actors

  same_actors : (actors : List (Actor R)) → ◌≡◌ {A = List (Actor R)} (map actor_of (plain actors)) actors
  same_actors [] = refl
  same_actors (a ∷ actors) = ap (λ (l : List (Actor R)). a ∷ l) (same_actors actors)

  pub plain_crew : (actors : List (Actor R)) → ◌≡◌ {A = List (Actor R)} (crew None (plain actors)) actors
  plain_crew [] = refl
  plain_crew (a ∷ actors) = ap (λ (l : List (Actor R)). a ∷ l) (same_actors actors)

-- WHERE USERS WRITE FOR THEMSELVES: the players so far, and the writer and the flusher as far as they were found
pub record Found (R : Type 0) : Type 0 where
  pub players : List (Player R)
  pub writer : Option WriterState
  pub flusher : Option FlusherState

abbrev pub none_yet : {R : Type 0} → Found R
none_yet = record { players = []; writer = None; flusher = None }

abbrev pub put : {R : Type 0} → Found R → Actor R → Found R
put s (actor.User u) = record s { players = s.players ++ player.Own (fresh u) ∷ [] }
put s (actor.Writer w) = record s { writer = Some w }
put s (actor.Flusher f) = record s { flusher = Some f }
put s a = record s { players = s.players ++ player.Plain a ∷ [] }

abbrev pub found : {R : Type 0} → Found R → List (Actor R) → Found R
found s [] = s
found s (a ∷ actors) = found (put s a) actors

found_more : {R : Type 0} (s : Found R) (actors : List (Actor R)) (a : Actor R)
    → ◌≡◌ {A = Found R} (found s (actors ++ a ∷ [])) (put (found s actors) a)
found_more s [] a = refl
found_more s (x ∷ xs) a = found_more (put s x) xs a

-- one more, by what it is
pub put_more : {R : Type 0} (s : Found R) (actors : List (Actor R)) (a b : Actor R)
    → ◌≡◌ {A = Found R} s (found none_yet actors) → ◌≡◌ {A = Actor R} a b
    → ◌≡◌ {A = Found R} (put s b) (found none_yet (actors ++ a ∷ []))
put_more {R} s actors a b so is = ap (λ (z : Actor R). put s z) (sym is) ∙ ap (λ (z : Found R). put z a) so
    ∙ sym (found_more none_yet actors a)

pub put_other : {R : Type 0} (s : Found R) (a : Actor R) → ((u : UserState) → ◌≡◌ {A = Actor R} a (actor.User u) → ⊥)
    → ((w : WriterState) → ◌≡◌ {A = Actor R} a (actor.Writer w) → ⊥)
    → ((f : FlusherState) → ◌≡◌ {A = Actor R} a (actor.Flusher f) → ⊥)
    → ◌≡◌ {A = Found R} (record s { players = s.players ++ player.Plain a ∷ [] }) (put s a)
put_other s (actor.User u) user writer flusher = absurd (user u refl)
put_other s (actor.Writer w) user writer flusher = absurd (writer w refl)
put_other s (actor.Flusher f) user writer flusher = absurd (flusher f refl)
put_other s _ user writer flusher = refl

module _ {R : Type 0} where
  others_found : (s : Found R) (os : List (Actor R)) → AreOthers os
      → ◌≡◌ {A = Found R} (found s os) (record s { players = s.players ++ plain os })
  others_found s [] are = ap (λ (l : List (Player R)). record s { players = l }) (sym (append-nil s.players))
  others_found s (a ∷ os) are = first a are.0
      ∙ others_found (record s { players = s.players ++ player.Plain a ∷ [] }) os are.1
      ∙ ap (λ (l : List (Player R)). record s { players = l }) (append_assoc s.players (player.Plain a ∷ []) (plain os))
    where
      first : (b : Actor R) → IsOther b
          → ◌≡◌ {A = Found R} (found (put s b) os) (found (record s { players = s.players ++ player.Plain b ∷ [] }) os)
      first (actor.User u) other = absurd other
      first (actor.Writer w) other = absurd other
      first (actor.Flusher f) other = absurd other
      first _ other = refl

  -- the users as players
  abbrev pub own : List UserState → List (Player R)
  own us = map (λ u. player.Own (fresh u)) us

  users_found : (s : Found R) (us : List UserState) (rest : List (Actor R))
      → ◌≡◌ {A = Found R} (found s (map actor.User us ++ rest))
      (found (record s { players = s.players ++ own us }) rest)
  users_found s [] rest =
      ap (λ (l : List (Player R)). found (record s { players = l }) rest) (sym (append-nil s.players))
  users_found s (u ∷ us) rest = users_found (record s { players = s.players ++ player.Own (fresh u) ∷ [] }) us rest
      ∙ ap (λ (l : List (Player R)). found (record s { players = l }) rest)
      (append_assoc s.players (player.Own (fresh u) ∷ []) (own us))

  all_found : (actors : List (Actor R)) (h : HaveWorkers actors) → ◌≡◌ {A = Found R} (found none_yet actors)
      (record { players = own h.users ++ plain h.others; writer = Some h.writer; flusher = Some h.flusher })
  all_found actors h = ap (found none_yet) h.are
      ∙ users_found none_yet h.users (actor.Writer h.writer ∷ actor.Flusher h.flusher ∷ h.others)
      ∙ others_found (record {
        players = own h.users;
        writer = Some h.writer;
        flusher = Some h.flusher;
      }) h.others h.kinds

  -- what holds of users and others
  users_first : (us : List UserState) (os : List (Actor R)) → UsersFirst (own us ++ plain os)
  users_first [] os = users_none os
  users_first (u ∷ us) os = users_first us os

  stand_at_home : (us : List UserState) (os : List (Actor R)) → StandAtHome (own us ++ plain os)
  stand_at_home [] os = plain_home os
  stand_at_home (u ∷ us) os = (refl, refl, stand_at_home us os)

  have_others : (us : List UserState) (os : List (Actor R)) → AreOthers os → HaveOthers (own us ++ plain os)
  have_others [] [] are = tt
  have_others [] (a ∷ os) are = (are.0, have_others [] os are.1)
  have_others (u ∷ us) os are = have_others us os are

  crew_is : (us : List UserState) (w : WriterState) (f : FlusherState) (os : List (Actor R))
      → ◌≡◌ {A = List (Actor R)} (crew (Some (record { writer = w; flusher = f })) (own us ++ plain os))
      (map actor.User us ++ actor.Writer w ∷ actor.Flusher f ∷ os)
  crew_is [] w f [] = refl
  crew_is [] w f (a ∷ os) = ap (λ (l : List (Actor R)). actor.Writer w ∷ actor.Flusher f ∷ a ∷ l) (same_actors os)
  crew_is (u ∷ us) w f os = ap (λ (l : List (Actor R)). actor.User u ∷ l) (crew_is us w f os)

-- what all of them come to
module _ {R : Type 0} (actors : List (Actor R)) (h : HaveWorkers actors) (players : List (Player R))
    (writer : Option WriterState) (flusher : Option FlusherState)
    (are : ◌≡◌ {A = Found R} (record { players = players; writer = writer; flusher = flusher })
    (found none_yet actors)) where
  abbrev all : Found R
  all = record { players = players; writer = writer; flusher = flusher }

  end : ◌≡◌ {A = Found R} all
      (record { players = own h.users ++ plain h.others; writer = Some h.writer; flusher = Some h.flusher })
  end = are ∙ all_found actors h

  pub has_writer : writer ≡ Some h.writer
  has_writer = ap (λ (s : Found R). s.writer) end

  pub has_flusher : flusher ≡ Some h.flusher
  has_flusher = ap (λ (s : Found R). s.flusher) end

  its_players : players ≡ own h.users ++ plain h.others
  its_players = ap (λ (s : Found R). s.players) end

  pub its_order : UsersFirst players
  its_order = subst UsersFirst (sym its_players) (users_first h.users h.others)

  pub its_home : StandAtHome players
  its_home = subst StandAtHome (sym its_players) (stand_at_home h.users h.others)

  pub its_others : HaveOthers players
  its_others = subst HaveOthers (sym its_players) (have_others h.users h.others h.kinds)

  pub its_crew : (w : WriterState) (f : FlusherState) → writer ≡ Some w → flusher ≡ Some f
      → ◌≡◌ {A = List (Actor R)} (crew (Some (record { writer = w; flusher = f })) players) actors
  its_crew w f is_w is_f =
      let same_w : Some w ≡ Some h.writer = sym is_w ∙ has_writer in
      let same_f : Some f ≡ Some h.flusher = sym is_f ∙ has_flusher in
      let e_w : w ≡ h.writer = cc in
      let e_f : f ≡ h.flusher = cc in
      ap (λ (l : List (Player R)). crew (Some (record { writer = w; flusher = f })) l) its_players
      ∙ ap (λ (x : WriterState). crew (Some (record { writer = x; flusher = f })) (own h.users ++ plain h.others)) e_w
      ∙ ap (λ (x : FlusherState). crew (Some (record { writer = h.writer; flusher = x }))
      (own h.users ++ plain h.others)) e_f
      ∙ crew_is h.users h.writer h.flusher h.others ∙ sym h.are
