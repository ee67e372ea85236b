-- The history as it grows, group by group and actor by actor, where there is room for all.
use Rattle.std.proofs.Common.{List, [], add-one, ap, append_assoc, arith, drop, drop-cons, get_or, length, length-append, refl, slice_index, suc, sym, ℕ, ◌++◌, ◌+◌, ◌<◌, ◌∙◌, ◌∷◌, ◌≡◌, ◌≤◌}
use Rattle.std.proofs.lemmas.List.{append-nil, at_drop_all}
use Rattle.std.proofs.lemmas.List.Concat.{flat_map-cons}
use Rattle.model_core.specs.{UserState}
use Rattle.model_report.specs.declared.entry.Entry.{Entry}
use Rattle.model_report.specs.declared.entry.Marks.{Marks}
use Rattle.redo_drive.specs.History.{all_listed, listed, listed_from, view_of, views_of}
use Rattle.redo_drive.specs.Reserved.{listed_group}
use Rattle.redo_drive.specs.declared.actor.Actor.{Actor}

-- what is there, before what is still to come
lengths : (items rest initial more : List Entry) → items ++ rest ≡ initial ++ more → length items + length rest ≡ length initial + length more
lengths items rest initial more e = let a = length-append items rest in let b = length-append initial more in let n : length (items ++ rest) ≡ length (initial ++ more) = ap length e in omega arith

one_more : (items one rest : List Entry) → (items ++ one) ++ rest ≡ items ++ (one ++ rest)
one_more items one rest = append_assoc items one rest

-- a user's groups are as many as its starts
pub length_from : (marks : Marks) (u : UserState) (k : ℕ) (starts : List ℕ) → length (listed_from marks u k starts) ≡ length starts
length_from marks u k [] = refl
length_from marks u k (s ∷ ss) = ap suc (length_from marks u (k + 1) ss)

module _ (marks : Marks) (u : UserState) (k : ℕ) (there : k < length u.starts) where
  next_from : listed_from marks u k (drop k u.starts) ≡ listed_group marks u k (slice_index u.starts k) ∷ listed_from marks u (k + 1) (drop (k + 1) u.starts)
  next_from = ap (listed_from marks u k) (drop-cons u.starts k 0 there) ∙ ap (λ (n : ℕ). listed_group marks u k (slice_index u.starts k) ∷ listed_from marks u (k + 1) (drop n u.starts)) (sym (add-one k))

  module _ (items initial : List Entry) (so_far : items ++ listed_from marks u k (drop k u.starts) ≡ initial ++ listed_from marks u 0 u.starts) where
    pub has_room : (room : ℕ) → length initial + length u.starts ≤ room → length items < room
    has_room room enough =
        let n = lengths items (listed_from marks u k (drop k u.starts)) initial (listed_from marks u 0 u.starts) so_far in
        let all = length_from marks u 0 u.starts in
        let more : length (listed_from marks u k (drop k u.starts)) ≡ suc (length (listed_from marks u (k + 1) (drop (k + 1) u.starts))) = ap length next_from in
        omega arith

    pub group_added : (one : Entry) → one ≡ listed_group marks u k (slice_index u.starts k) → (items ++ one ∷ []) ++ listed_from marks u (k + 1) (drop (k + 1) u.starts) ≡ initial ++ listed_from marks u 0 u.starts
    group_added one is =
        one_more items (one ∷ []) (listed_from marks u (k + 1) (drop (k + 1) u.starts))
        ∙ ap (λ (x : Entry). items ++ x ∷ listed_from marks u (k + 1) (drop (k + 1) u.starts)) is ∙ ap (λ (z : List Entry). items ++ z) (sym next_from) ∙ so_far

module _ {R : Type 0} (marks : Marks) (actors : List (Actor R)) (at : ℕ) (actor : Actor R) (is : actor ≡ get_or actors at actor) (there : at < length actors) where
  next_actor : all_listed marks (views_of (drop at actors)) ≡ listed marks (view_of actor) ++ all_listed marks (views_of (drop (at + 1) actors))
  next_actor =
      ap (λ (l : List (Actor R)). all_listed marks (views_of l))
      (drop-cons actors at actor there ∙ ap (λ (a : Actor R). a ∷ drop (suc at) actors) (sym is))
      ∙ flat_map-cons (listed marks) (view_of actor) (views_of (drop (suc at) actors))
      ∙ ap (λ (n : ℕ). listed marks (view_of actor) ++ all_listed marks (views_of (drop n actors))) (sym (add-one at))

  module _ (items : List Entry) (so_far : items ++ all_listed marks (views_of (drop at actors)) ≡ all_listed marks (views_of actors)) where
    pub has_room_for_all : (room : ℕ) → length (all_listed marks (views_of actors)) ≤ room → length items + length (listed marks (view_of actor)) ≤ room
    has_room_for_all room enough =
        let a = length-append items (all_listed marks (views_of (drop at actors))) in
        let b : length (items ++ all_listed marks (views_of (drop at actors))) ≡ length (all_listed marks (views_of actors)) = ap length so_far in
        let d : length (all_listed marks (views_of (drop at actors))) ≡ length (listed marks (view_of actor) ++ all_listed marks (views_of (drop (at + 1) actors))) = ap length next_actor in
        let e = length-append (listed marks (view_of actor)) (all_listed marks (views_of (drop (at + 1) actors))) in
        omega arith

    pub actor_added : (more : List Entry) → more ≡ items ++ listed marks (view_of actor) → more ++ all_listed marks (views_of (drop (at + 1) actors)) ≡ all_listed marks (views_of actors)
    actor_added more grown =
        ap (λ (z : List Entry). z ++ all_listed marks (views_of (drop (at + 1) actors))) grown ∙ one_more items (listed marks (view_of actor)) (all_listed marks (views_of (drop (at + 1) actors)))
        ∙ ap (λ (z : List Entry). items ++ z) (sym next_actor) ∙ so_far

-- where nothing is still to come, all is there
pub all_groups_added : (marks : Marks) (u : UserState) (k : ℕ) (items whole : List Entry) → length u.starts ≤ k → items ++ listed_from marks u k (drop k u.starts) ≡ whole → items ≡ whole
all_groups_added marks u k items whole past so_far = sym (append-nil items) ∙ sym (at_drop_all (λ (starts : List ℕ). items ++ listed_from marks u k starts) u.starts k past) ∙ so_far

pub all_actors_added : {R : Type 0} (marks : Marks) (actors : List (Actor R)) (at : ℕ) (items whole : List Entry) → length actors ≤ at → items ++ all_listed marks (views_of (drop at actors)) ≡ whole → items ≡ whole
all_actors_added {R} marks actors at items whole past so_far = sym (append-nil items) ∙ sym (at_drop_all (λ (rest : List (Actor R)). items ++ all_listed marks (views_of rest)) actors at past) ∙ so_far
