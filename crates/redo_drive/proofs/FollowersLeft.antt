-- The followers among the actors of a run, at its start and pair by pair; and a run's groups as a receiver gets them.
use Rattle.std.proofs.Common.{Bool, List, None, Option, Some, [], ap, arith, cond, drop, false, length, length-append, map, refl, subst, suc, sym, take, true, zero, ℕ, ◌++◌, ◌+◌, ◌-◌, ◌∙◌, ◌∷◌, ◌≡◌}
use Rattle.std.proofs.lemmas.Bool.Decides.{nat_tests}
use Rattle.std.proofs.lemmas.List.{take-append-drop, take-map, take_at}
use Rattle.std.specs.List.{AllZip}
use Rattle.std.specs.Prelude.{nat_le}
use lib.ListN.{get_elem?}
use mathlib.Core.Option.{some, some-injective, some-ne-none}
use native.Mathlib.Decide.{dec_le}
use Rattle.model_base.specs.declared.shape.Shape.{Shape}
use Rattle.model_core.proofs.Lsns.{lsn_le, lsn_less}
use Rattle.model_core.specs.{end_of, Given, lsn, UserState}
use Rattle.model_core.specs.States as model
use Rattle.model_running.specs.Histories.{AreWholesOf, IsWholeOf, log_span}
use Rattle.model_running.specs.ReadHalf.{groups_upto}
use Rattle.model_running.specs.ReadHalf as read_half
use Rattle.model_log.specs.{Span, span_of}
use Rattle.model_log.specs.declared.group.Whole.{Whole}
use Rattle.model_script.specs.declared.script.ScriptLine.{ScriptLine}
use Rattle.redo_drive.specs.Followed.{given_of, given_upto}
use Rattle.redo_drive.specs.Begins.{EndsWithReaders}
use Rattle.redo_drive.specs.Receiving.{follower_of}
use Rattle.redo_drive.specs.Setups.{followers_from, other_actors, page_actors, readers_of, seated_actors, users_of}
use Rattle.redo_drive.specs.LiveActors.{seated_before}
use Rattle.redo_follow.specs.Following.{Following}
use Rattle.redo_drive.proofs.Viewed.{length_views}
use Rattle.redo_drive.specs.History.{followers_in, view_of, views_of}
use Rattle.redo_drive.specs.declared.actor.Actor.{Actor}
use Rattle.redo_drive.specs.declared.actor.Actor.TheVariants as own
use Rattle.redo_drive.specs.declared.seating.TheConstants.{FIRST_FOLLOWER}
use Rattle.redo_drive.specs.declared.plan.Plan.{Plan}

-- a group that a run tells of is the log's, at its place
module _ (x : ℕ) where
  same_test : (end : ℕ) → nat_le end x ≡ nat_le (lsn end) (lsn x)
  same_test end = elim (dec_le end x) [
    | yes low ↦ (let a : nat_le end x ≡ true = grind (arith, nat_tests) in
        let under = lsn_le end x low in
        let b : nat_le (lsn end) (lsn x) ≡ true = grind (arith, nat_tests) in a ∙ sym b)
    | no high ↦ (let a : nat_le end x ≡ false = grind (arith, nat_tests) in
        let over = lsn_less x end (omega arith) in
        let b : nat_le (lsn end) (lsn x) ≡ false = grind (arith, nat_tests) in a ∙ sym b)
  ]

  same_given : (e : model.Entry) (whole : Whole) → IsWholeOf e whole
      → ◌≡◌ {A = Given} (read_half.given_of e) (given_of whole)
  same_given e whole is =
      let place : ◌≡◌ {A = Span} (span_of whole) (log_span e) = is.place in
      let start : whole.start ≡ lsn e.start = ap (λ (z : Span). z.start) place in
      let end : whole.end ≡ lsn (end_of e) = ap (λ (z : Span). z.end) place in
      let text = is.text in
      λ i. record { start = sym start i; end = sym end i; text = sym text i }

  pub groups_are : (log : List model.Entry) (wholes : List Whole) → AreWholesOf log wholes
      → ◌≡◌ {A = List Given} (groups_upto x log) (given_upto (lsn x) wholes)
  groups_are [] [] are = refl
  groups_are [] (whole ∷ wholes) are = absurd are
  groups_are (e ∷ es) [] are = absurd are
  groups_are (e ∷ es) (whole ∷ wholes) are =
      let rest = groups_are es wholes are.1 in
      let end : lsn (end_of e) ≡ whole.end = sym (ap (λ (z : Span). z.end) are.0.place) in
      let test : nat_le (end_of e) x ≡ nat_le whole.end (lsn x) =
      same_test (end_of e) ∙ ap (λ (n : ℕ). nat_le n (lsn x)) end in
      let mine : Given = read_half.given_of e in
      let low : Bool = nat_le whole.end (lsn x) in
      ap (λ (b : Bool). let l : List Given = cond b (mine ∷ groups_upto x es) (groups_upto x es) in l) test
      ∙ ap (λ (g : Given). let l : List Given = cond low (g ∷ groups_upto x es) (groups_upto x es) in l)
      (same_given e whole are.0)
      ∙ ap (λ (gs : List Given). let l : List Given = cond low (given_of whole ∷ gs) gs in l) rest

-- THE FOLLOWERS AMONG SOME ACTORS, pair by pair.
module _ {R : Type 0} (P : Following R → Following R → Type 0) where
  abbrev pub Pair : Option (Following R) → Option (Following R) → Type 0
  Pair None None = Unit {0}
  Pair (Some f) (Some g) = P f g
  Pair _ _ = ⊥

  first_pair : (a b : Actor R) (xs ys : List (Actor R)) → Pair (follower_of a) (follower_of b)
      → AllZip P (followers_in xs) (followers_in ys) → AllZip P (followers_in (a ∷ xs)) (followers_in (b ∷ ys))
  first_pair (own.Follower f) (own.Follower g) xs ys one rest = (one, rest)
  first_pair (own.Follower f) _ xs ys one rest = absurd one
  first_pair (own.User u) (own.Follower g) xs ys one rest = absurd one
  first_pair (own.Writer s) (own.Follower g) xs ys one rest = absurd one
  first_pair (own.Flusher t) (own.Follower g) xs ys one rest = absurd one
  first_pair (own.Closer t) (own.Follower g) xs ys one rest = absurd one
  first_pair (own.Cleaner v) (own.Follower g) xs ys one rest = absurd one
  first_pair (own.Checkpointer t) (own.Follower g) xs ys one rest = absurd one
  first_pair (own.Archiver r) (own.Follower g) xs ys one rest = absurd one
  first_pair _ _ xs ys one rest = rest

  pub all_pairs : (xs ys : List (Actor R)) → length ys ≡ length xs
      → ((i : ℕ) (a b : Actor R) → get_elem? xs i ≡ some a → get_elem? ys i ≡ some b
      → Pair (follower_of a) (follower_of b)) → AllZip P (followers_in xs) (followers_in ys)
  all_pairs [] [] long each = tt
  all_pairs [] (y ∷ ys) long each = absurd (omega arith)
  all_pairs (x ∷ xs) [] long each = absurd (omega arith)
  all_pairs (x ∷ xs) (y ∷ ys) long each = first_pair x y xs ys (each 0 x y refl refl)
      (all_pairs xs ys (omega arith) (λ i a b at there. each (suc i) a b at there))

followers_both : {R : Type 0} (xs ys : List (Actor R))
    → ◌≡◌ {A = List (Following R)} (followers_in (xs ++ ys)) (followers_in xs ++ followers_in ys)
followers_both [] ys = refl
followers_both (own.Follower f ∷ xs) ys = ap (λ l. f ∷ l) (followers_both xs ys)
followers_both (own.User u ∷ xs) ys = followers_both xs ys
followers_both (own.Writer s ∷ xs) ys = followers_both xs ys
followers_both (own.Flusher t ∷ xs) ys = followers_both xs ys
followers_both (own.Closer t ∷ xs) ys = followers_both xs ys
followers_both (own.Cleaner v ∷ xs) ys = followers_both xs ys
followers_both (own.Checkpointer t ∷ xs) ys = followers_both xs ys
followers_both (own.Archiver r ∷ xs) ys = followers_both xs ys

all_followers : {R : Type 0} (fs : List (Following R))
    → ◌≡◌ {A = List (Following R)} (followers_in (map own.Follower fs)) fs
all_followers [] = refl
all_followers (f ∷ fs) = ap (λ l. f ∷ l) (all_followers fs)

-- no follower is among these
abbrev NoReaders : List model.Actor → Type 0
NoReaders [] = Unit {0}
NoReaders (model.Reader r ∷ actors) = ⊥
NoReaders (_ ∷ actors) = NoReaders actors

none_among : {R : Type 0} (front : List (Actor R)) → NoReaders (views_of front)
    → ◌≡◌ {A = List (Following R)} (followers_in front) []
none_among [] none = refl
none_among (own.Follower f ∷ xs) none = absurd none
none_among (own.User u ∷ xs) none = none_among xs none
none_among (own.Writer s ∷ xs) none = none_among xs none
none_among (own.Flusher t ∷ xs) none = none_among xs none
none_among (own.Closer t ∷ xs) none = none_among xs none
none_among (own.Cleaner v ∷ xs) none = none_among xs none
none_among (own.Checkpointer t ∷ xs) none = none_among xs none
none_among (own.Archiver r ∷ xs) none = absurd none

after_users : (users : List UserState) (others : List model.Actor) → NoReaders others
    → NoReaders (map model.User users ++ others)
after_users [] others none = none
after_users (u ∷ users) others none = after_users users others none

no_others : (shape : Shape) (start : ℕ) (plan : Plan) → NoReaders (page_actors shape start plan)
no_others shape start plan = by plan.log_only
  where
    by : (b : Bool) → NoReaders (page_actors shape start (record plan { log_only = b }))
    by true = tt
    by false = tt

long_followers : (start number n : ℕ) → length (followers_from start number n) ≡ n
long_followers start number zero = refl
long_followers start number (suc n) = ap suc (long_followers start (number + 1) n)

-- before the readers there is no follower
front_has_none : {R : Type 0} (front back : List model.Actor) (starts : List (Actor R)) (n : ℕ)
    → views_of starts ≡ front ++ back → length back ≡ n → NoReaders front
    → ◌≡◌ {A = List (Following R)} (followers_in (take (length starts - n) starts)) []
front_has_none front back starts n are few none =
    let k : ℕ = length starts - n in
    let long : length (views_of starts) ≡ length (front ++ back) = ap length are in
    let both = length-append front back in
    let same = length_views starts in
    let here : length front ≡ k = omega arith in
    let views : ◌≡◌ {A = List model.Actor} (views_of (take k starts)) front =
    sym (take-map view_of k starts) ∙ ap (take k) are ∙ take_at front back k here in
    none_among (take k starts) (subst NoReaders (sym views) none)

-- the followers among the actors of a run's start are those that it was given
pub starts_with : {R : Type 0} (shape : Shape) (script : List ScriptLine) (start : ℕ) (plan : Plan)
    (fs : List (Following R)) (starts : List (Actor R)) → plan.followers ≡ length fs
    → views_of starts ≡ seated_actors shape script start plan → EndsWithReaders start plan.archive starts fs
    → ◌≡◌ {A = List (Following R)} (followers_in starts) fs
starts_with {R} shape script start plan fs starts many are ends =
    by plan.archive (seated_before shape script start plan) are
    (after_users (users_of shape plan.log_only script) (other_actors shape start plan)
    (no_others shape start plan)) ends
  where
    joined : (n : ℕ) → ◌≡◌ {A = List (Following R)} (followers_in (take (length starts - n) starts)) []
        → ◌≡◌ {A = List (Following R)} (followers_in starts) (followers_in (drop (length starts - n) starts))
    joined n nothing =
        let k : ℕ = length starts - n in
        ap followers_in (sym (take-append-drop k starts)) ∙ followers_both (take k starts) (drop k starts)
        ∙ ap (λ (l : List (Following R)). l ++ followers_in (drop k starts)) nothing

    by : (b : Bool) (front : List model.Actor) → views_of starts
        ≡ front ++ readers_of start (record plan { archive = b })
        → NoReaders front → EndsWithReaders start b starts fs
        → ◌≡◌ {A = List (Following R)} (followers_in starts) fs
    by true front are none ends =
        let few : length (followers_from start FIRST_FOLLOWER plan.followers) ≡ length fs =
        long_followers start FIRST_FOLLOWER plan.followers ∙ many in
        joined (suc (length fs))
        (front_has_none front (readers_of start (record plan { archive = true })) starts (suc (length fs)) are
        (ap suc few) none)
        ∙ ap followers_in ends ∙ all_followers fs
    by false front are none ends =
        let few : length (followers_from start FIRST_FOLLOWER plan.followers) ≡ length fs =
        long_followers start FIRST_FOLLOWER plan.followers ∙ many in
        joined (length fs)
        (front_has_none front (readers_of start (record plan { archive = false })) starts (length fs) are few none)
        ∙ ap followers_in ends ∙ all_followers fs

-- what holds of the followers among some actors holds of one at its seat
pub among : {R : Type 0} (P : Following R → Type 0) (xs : List (Actor R))
    → ((i : ℕ) (f : Following R) → get_elem? (followers_in xs) i ≡ some f → P f)
    → (seat : ℕ) (f : Following R) → get_elem? xs seat ≡ some (own.Follower f) → P f
among P [] each seat f at = absurd (some-ne-none (own.Follower f) (sym at))
among P (own.Follower g ∷ xs) each zero f at =
    let same : own.Follower g ≡ own.Follower f = some-injective (own.Follower g) (own.Follower f) at in
    let is : g ≡ f = cc in subst P is (each 0 g refl)
among P (own.Follower g ∷ xs) each (suc seat) f at = among P xs (λ i h there. each (suc i) h there) seat f at
among P (own.User u ∷ xs) each zero f at =
    let same : own.User u ≡ own.Follower f = some-injective (own.User u) (own.Follower f) at in absurd (cc)
among P (own.User u ∷ xs) each (suc seat) f at = among P xs each seat f at
among P (own.Writer s ∷ xs) each zero f at =
    let same : own.Writer s ≡ own.Follower f = some-injective (own.Writer s) (own.Follower f) at in absurd (cc)
among P (own.Writer s ∷ xs) each (suc seat) f at = among P xs each seat f at
among P (own.Flusher t ∷ xs) each zero f at =
    let same : own.Flusher t ≡ own.Follower f = some-injective (own.Flusher t) (own.Follower f) at in absurd (cc)
among P (own.Flusher t ∷ xs) each (suc seat) f at = among P xs each seat f at
among P (own.Closer t ∷ xs) each zero f at =
    let same : own.Closer t ≡ own.Follower f = some-injective (own.Closer t) (own.Follower f) at in absurd (cc)
among P (own.Closer t ∷ xs) each (suc seat) f at = among P xs each seat f at
among P (own.Cleaner v ∷ xs) each zero f at =
    let same : own.Cleaner v ≡ own.Follower f = some-injective (own.Cleaner v) (own.Follower f) at in absurd (cc)
among P (own.Cleaner v ∷ xs) each (suc seat) f at = among P xs each seat f at
among P (own.Checkpointer t ∷ xs) each zero f at =
    let same : own.Checkpointer t ≡ own.Follower f = some-injective (own.Checkpointer t) (own.Follower f) at in absurd (cc)
among P (own.Checkpointer t ∷ xs) each (suc seat) f at = among P xs each seat f at
among P (own.Archiver r ∷ xs) each zero f at =
    let same : own.Archiver r ≡ own.Follower f = some-injective (own.Archiver r) (own.Follower f) at in absurd (cc)
among P (own.Archiver r ∷ xs) each (suc seat) f at = among P xs each seat f at
