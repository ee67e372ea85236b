-- Pages that are gathered and written together.
use Rattle.std.proofs.Common.{◌≡◌, ◌≢◌, ◌≤◌, ◌<◌, ◌+◌, ◌*◌, ◌^◌, ◌==◌, ◌⊎◌, ◌++◌, ℕ, zero, suc, inl, inr, true, false, cond, List, [], ◌∷◌, length, take, drop, Option, Some, refl, sym, ap, subst, ◌∙◌, ⊎_elim, add-one, eq-eqb, arith}
use Rattle.std.specs.Prelude.{IfSome}
use Rattle.std.specs.List.{slice_get}
use Rattle.std.proofs.lemmas.Bool.{cases_lt}
use Rattle.std.proofs.lemmas.Bool.Decides.{nat_tests}
use Rattle.std.proofs.lemmas.List.{drop-append-le, drop_at, length-append, length-drop, length_push, take-append-le, take_all}
use Rattle.std.proofs.lemmas.Option.{slice_get_within}
use Rattle.std.proofs.Math.Nat.{zero-mul}
use Rattle.model_base.specs.{user_length}
use Rattle.model_base.specs.declared.shape.Shape.{Shape}
use Rattle.model_parts.proofs.Joined.{IsPairAt, batch-at, nth_user, pair-at}
use Rattle.model_parts.proofs.Rows.{one-more-row, row_ends}
use Rattle.model_parts.specs.{after_batch, batch_of, Fresh, IsLater, IsNew, IsUpTo, IsWritable, Keeps}
use Rattle.model_parts.specs.Stored.{Stored}
use Rattle.model_device.specs.{Disk}
use Rattle.model_page.proofs.Kept.{same_content}
use Rattle.model_page.specs.declared.content.Content.{Content}
use Rattle.redo_disk.proofs.Told.{known-as}
use Rattle.redo_open.proofs.Writings.{below-next}
use Rattle.redo_open.specs.Rewrite.{AreGathered, Gathered, IsBatchedPage, IsGatheredTo, AreTop, IsWrittenTo, KeepsWritten}
use Rattle.redo_recover.specs.declared.places.Found.{Found}

-- LISTS WITH ONE MORE AT THE END.

at-front : {X : Type 0} (xs ys : List X) (i : ℕ) (x : X) → slice_get xs i ≡ Some x → slice_get (xs ++ ys) i ≡ Some x
at-front [] ys i x at = absurd cc
at-front (first ∷ xs) ys zero x at = at
at-front (first ∷ xs) ys (suc i) x at = at-front xs ys i x at

at-end : {X : Type 0} (xs : List X) (y : X) → slice_get (xs ++ y ∷ []) (length xs) ≡ Some y
at-end [] y = refl
at-end (first ∷ xs) y = at-end xs y

at-either : {X : Type 0} (xs : List X) (y : X) (i : ℕ) (x : X) → slice_get (xs ++ y ∷ []) i ≡ Some x → (slice_get xs i ≡ Some x) ⊎ ((i ≡ length xs) × (y ≡ x))
at-either [] y zero x at = inr (refl, cc)
at-either [] y (suc i) x at = absurd cc
at-either (first ∷ xs) y zero x at = inl at
at-either (first ∷ xs) y (suc i) x at = ⊎_elim (λ here. inl here) (λ last. inr (ap suc last.0, last.1)) (at-either xs y i x at)

-- THE PAGES OF A BATCH.

abbrev pub fresh : Shape → Gathered → List Fresh
fresh shape batch = batch_of shape batch.pairs batch.users

-- the batch with one more page
abbrev pub added : Gathered → ℕ → ℕ → List ℕ → Gathered
added batch page lsn user = record { shape = batch.shape; pairs = batch.pairs ++ (page, lsn) ∷ []; users = batch.users ++ user }

-- what the batch has for a page is the page
pub record AreTopPages (top : ℕ → Content) (batch : List Fresh) : Type 0 where
  pub each : (p : ℕ) (content : Content) → IsNew batch p content → content ≡ top p

pub gathered-top : (shape : Shape) (pages : List Content) (found : List Found) (top start : ℕ → Content) (count : ℕ) (batch : Gathered) → AreTop pages found top start
    → AreGathered shape pages count batch → AreTopPages top (fresh shape batch)
gathered-top shape pages found top start count batch tops gathered = record {
  each = λ p content new.
      let one : IsPairAt shape batch.pairs batch.users new.i (record { page = p; content = content }) = pair-at shape batch.pairs batch.users new.i (record { page = p; content = content }) new.at in
      let page : p ≡ one.pair.0 = ap (λ (f : Fresh). f.page) one.is in
      let is : content ≡ record { lsn = one.pair.1; user = nth_user shape new.i batch.users } = ap (λ (f : Fresh). f.content) one.is in
      is ∙ sym (tops.each one.pair.0 (record { lsn = one.pair.1; user = nth_user shape new.i batch.users }) (gathered.each new.i one.pair one.at)) ∙ ap top (sym page);
}

pub top-later : (top : ℕ → Content) (batch : List Fresh) → AreTopPages top batch → IsLater top batch
top-later top batch are = record {
  no_older = λ p new is. (let same = are.each p new is in omega (arith, ap (λ (c : Content). c.lsn) same));
  same = λ p new is equal. sym (are.each p new is);
}

same-or : (a b : ℕ) → (a ≡ b) ⊎ (a ≢ b)
same-or a b = ⊎_elim (λ less. inr (λ same. absurd (omega arith)))
    (λ not_less. ⊎_elim (λ more. inr (λ same. absurd (omega arith))) (λ not_more. inl (omega arith)) (cases_lt b a)) (cases_lt a b)

new-in_rest : (first : Fresh) (batch : List Fresh) (p : ℕ) (content : Content) (i : ℕ) → first.page ≢ p
    → slice_get (first ∷ batch) i ≡ Some (record { page = p; content = content }) → IsNew batch p content
new-in_rest first batch p content zero other at =
    let same : first ≡ record { page = p; content = content } = cc in absurd (other (ap (λ (f : Fresh). f.page) same))
new-in_rest first batch p content (suc i) other at = record { i = i; at = at }

-- after the batch a page is the one that was read, or the batch doesn't have it and it is as it was
after-which : (batch : List Fresh) (was top : ℕ → Content) (p : ℕ) → AreTopPages top batch
    → (after_batch batch was p ≡ top p) ⊎ ((after_batch batch was p ≡ was p) × ((content : Content) → IsNew batch p content → ⊥))
after-which [] was top p are = inr (refl, λ content new. (let at = new.at in absurd cc))
after-which (first ∷ batch) was top p are =
    let rest : AreTopPages top batch = record { each = λ q content new. are.each q content (record { i = suc new.i; at = new.at }) } in
    ⊎_elim (λ same.
    let test : (first.page == p) ≡ true = eq-eqb first.page p same in
    inl (ap (λ t. cond t first.content (after_batch batch was p)) test ∙ are.each first.page first.content (record { i = 0; at = refl }) ∙ ap top same))
    (λ other.
    let test : (first.page == p) ≡ false = grind (arith, nat_tests) in
    let skip : after_batch (first ∷ batch) was p ≡ after_batch batch was p = ap (λ t. cond t first.content (after_batch batch was p)) test in
    ⊎_elim (λ there. inl (skip ∙ there))
    (λ none. inr (skip ∙ none.0, λ content new. none.1 content (new-in_rest first batch p content new.i other new.at)))
    (after-which batch was top p rest))
    (same-or first.page p)

after-same : (batch : List Fresh) (top : ℕ → Content) → AreTopPages top batch → after_batch batch top ≡ top
after-same batch top are =
    let each : (p : ℕ) → after_batch batch top p ≡ top p = λ p. ⊎_elim (λ is. is) (λ none. none.0) (after-which batch top top p are) in
    λ i p. each p i

among-new : (shape : Shape) (batch : Gathered) (p : ℕ) (among : IsBatchedPage batch p) → IsNew (fresh shape batch) p (record { lsn = among.lsn; user = nth_user shape among.i batch.users })
among-new shape batch p among = record { i = among.i; at = batch-at shape batch.pairs batch.users among.i (p, among.lsn) among.at }

-- A BATCH THAT IS WRITTEN.

pub gathered-writable : (shape : Shape) (pages : List Content) (count : ℕ) (batch : Gathered) → AreGathered shape pages count batch
    → ((p : ℕ) → p < count → p < shape.pages) → ((p : ℕ) (content : Content) → slice_get pages p ≡ Some content → content.lsn < 2 ^ 61)
    → IsWritable shape batch.pairs batch.users
gathered-writable shape pages count batch gathered within small = record {
  few = gathered.few;
  count = gathered.joined;
  below = λ i pair at. within pair.0 (gathered.below i pair at);
  small_lsn = λ i pair at. (
      let low : pair.1 < 2 ^ 61 = small pair.0 (record { lsn = pair.1; user = nth_user shape i batch.users }) (gathered.each i pair at) in omega arith);
  different = gathered.different;
}

pub gathered-keeps : (shape : Shape) (top start : ℕ → Content) (count : ℕ) (batch : Gathered) (told now : Option Disk) → AreTopPages top (fresh shape batch)
    → (w : IsGatheredTo shape top start count batch told) → IfSome now (Keeps shape (IsUpTo top) w.was (fresh shape batch)) → KeepsWritten shape top start now
gathered-keeps shape top start count batch told now are w keeps = record {
  was = w.was;
  batch = fresh shape batch;
  keeps = keeps;
  before = w.before;
  as_top = are.each;
}

pub gathered-done : (shape : Shape) (top start : ℕ → Content) (count : ℕ) (batch after : Gathered) (told now : Option Disk) → AreTopPages top (fresh shape batch)
    → (w : IsGatheredTo shape top start count batch told)
    → IfSome now (Stored shape (IsUpTo (after_batch (fresh shape batch) top)) (after_batch (fresh shape batch) w.was) [] false)
    → IsGatheredTo shape top start count after now
gathered-done shape top start count batch after told now are w done =
    let next : ℕ → Content = after_batch (fresh shape batch) w.was in
    record {
      was = next;
      stored = subst (λ (t : ℕ → Content). IfSome now (Stored shape (IsUpTo t) next [] false)) (after-same (fresh shape batch) top are) done;
      before = λ p. ⊎_elim (λ is. inr is)
          (λ old. ⊎_elim (λ start_is. inl (old.0 ∙ start_is)) (λ top_is. inr (old.0 ∙ top_is)) (w.before p)) (after-which (fresh shape batch) w.was top p are);
      done = λ p below. inl (⊎_elim (λ is. is)
          (λ old. ⊎_elim (λ top_is. old.0 ∙ top_is)
          (λ among. absurd (old.1 (record { lsn = among.lsn; user = nth_user shape among.i batch.users }) (among-new shape batch p among))) (w.done p below))
          (after-which (fresh shape batch) w.was top p are));
    }

-- NOTHING WRITTEN.

pub gathered-steady : (shape : Shape) (top start : ℕ → Content) (count : ℕ) (batch : Gathered) (told : Option Disk) → IsGatheredTo shape top start count batch told
    → KeepsWritten shape top start told
gathered-steady shape top start count batch told w = record {
  was = w.was;
  batch = [];
  keeps = known-as told (Stored shape (IsUpTo top) w.was [] false) (Keeps shape (IsUpTo top) w.was []) (λ disk stored. stored.keeps) w.stored;
  before = w.before;
  as_top = λ p content new. (let at = new.at in absurd cc);
}

pub gathered-written : (shape : Shape) (top start : ℕ → Content) (count : ℕ) (batch : Gathered) (told : Option Disk) → length batch.pairs ≡ 0
    → IsGatheredTo shape top start count batch told → IsWrittenTo shape top start count told
gathered-written shape top start count batch told none w = record {
  was = w.was;
  stored = w.stored;
  before = w.before;
  done = λ p below. ⊎_elim (λ is. is)
      (λ among. (let within = slice_get_within batch.pairs among.i (p, among.lsn) among.at in absurd (omega arith))) (w.done p below);
}

-- ONE PAGE MORE.

pub gathered-added : (shape : Shape) (top start : ℕ → Content) (page lsn : ℕ) (user : List ℕ) (batch : Gathered) (told : Option Disk)
    → IsGatheredTo shape top start page batch told → IsGatheredTo shape top start (page + 1) (added batch page lsn user) told
gathered-added shape top start page lsn user batch told w = record {
  was = w.was;
  stored = w.stored;
  before = w.before;
  done = below-next (λ p. (w.was p ≡ top p) ⊎ IsBatchedPage (added batch page lsn user) p) page
      (λ p below. ⊎_elim (λ is. inl is)
      (λ among. inr (record { i = among.i; lsn = among.lsn; at = at-front batch.pairs ((page, lsn) ∷ []) among.i (p, among.lsn) among.at })) (w.done p below))
      (inr (record { i = length batch.pairs; lsn = lsn; at = at-end batch.pairs (page, lsn) }));
}

pub gathered-more : (shape : Shape) (pages : List Content) (count : ℕ) (batch : Gathered) → AreGathered shape pages count batch
    → AreGathered shape pages (count + 1) batch
gathered-more shape pages count batch gathered = record {
  of_store = gathered.of_store;
  few = gathered.few;
  joined = gathered.joined;
  below = λ i pair at. omega (arith, gathered.below i pair at);
  each = gathered.each;
  different = gathered.different;
}

pub gathered-none : (shape own : Shape) (pages : List Content) (count : ℕ) → own ≡ shape
    → AreGathered shape pages count (record { shape = own; pairs = []; users = [] })
gathered-none shape own pages count is = record {
  of_store = is;
  few = omega arith;
  joined = sym (zero-mul (user_length shape));
  below = λ i pair at. absurd cc;
  each = λ i pair at. absurd cc;
  different = λ i j pair other at there same. absurd cc;
}

user-front : (n i : ℕ) (users user : List ℕ) → i * n + n ≤ length users → take n (drop (i * n) (users ++ user)) ≡ take n (drop (i * n) users)
user-front n i users user within =
    ap (take n) (drop-append-le (i * n) users user (omega arith))
    ∙ take-append-le n (drop (i * n) users) user (omega (arith, length-drop (i * n) users))

user-end : (n i : ℕ) (users user : List ℕ) → length users ≡ i * n → length user ≡ n → take n (drop (i * n) (users ++ user)) ≡ user
user-end n i users user at long = ap (take n) (drop_at users user (i * n) at) ∙ take_all n user (omega arith)

pub gathered-with : (shape : Shape) (pages : List Content) (page lsn : ℕ) (user : List ℕ) (content : Content) (batch : Gathered)
    → AreGathered shape pages page batch
    → length batch.pairs < shape.slots → slice_get pages page ≡ Some content → lsn ≡ content.lsn → user ≡ content.user → length user ≡ user_length shape
    → AreGathered shape pages (page + 1) (added batch page lsn user)
gathered-with shape pages page lsn user content batch gathered room read same_lsn same_user long =
    let one : ℕ × ℕ = (page, lsn) in
    let n : ℕ = user_length shape in
    let counted : length (batch.pairs ++ one ∷ []) ≡ suc (length batch.pairs) = length_push batch.pairs one ∙ add-one (length batch.pairs) in
    let joined : length (batch.users ++ user) ≡ suc (length batch.pairs) * n =
    length-append batch.users user ∙ omega (arith, gathered.joined, long, one-more-row (length batch.pairs) n) in
    record {
      of_store = gathered.of_store;
      few = omega arith;
      joined = joined ∙ ap (λ (k : ℕ). k * n) (sym counted);
      below = λ i pair at. ⊎_elim (λ old. omega (arith, gathered.below i pair old)) (λ last. omega (arith, ap (λ (x : ℕ × ℕ). x.0) last.1)) (at-either batch.pairs one i pair at);
      each = λ i pair at. ⊎_elim
          (λ old. (let within = slice_get_within batch.pairs i pair old in
          gathered.each i pair old ∙ ap (λ (u : List ℕ). Some (record { lsn = pair.1; user = u })) (sym (user-front n i batch.users user (omega (arith, gathered.joined, row_ends i (length batch.pairs) n within))))))
          (λ last. (
          let is : content ≡ record { lsn = lsn; user = user } = same_content content (record { lsn = lsn; user = user }) (sym same_lsn) (sym same_user) in
          let there : slice_get pages page ≡ Some (record { lsn = lsn; user = nth_user shape i (batch.users ++ user) }) =
          read ∙ ap Some is ∙ ap (λ (u : List ℕ). Some (record { lsn = lsn; user = u })) (sym (user-end n i batch.users user (gathered.joined ∙ ap (λ (k : ℕ). k * n) (sym last.0)) long)) in
          subst (λ (x : ℕ × ℕ). slice_get pages x.0 ≡ Some (record { lsn = x.1; user = nth_user shape i (batch.users ++ user) })) last.1 there))
          (at-either batch.pairs one i pair at);
      different = λ i j pair other at there same. ⊎_elim
          (λ old. ⊎_elim (λ other_old. gathered.different i j pair other old other_old same)
          (λ other_last. absurd (omega (arith, gathered.below i pair old, ap (λ (x : ℕ × ℕ). x.0) other_last.1))) (at-either batch.pairs one j other there))
          (λ last. ⊎_elim (λ other_old. absurd (omega (arith, gathered.below j other other_old, ap (λ (x : ℕ × ℕ). x.0) last.1)))
          (λ other_last. omega (arith, last.0, other_last.0)) (at-either batch.pairs one j other there)) (at-either batch.pairs one i pair at);
    }

-- a page that has still the lsn with which it was found is as it was
pub same-gathered : (shape : Shape) (pages : List Content) (found : List Found) (top start : ℕ → Content) (page : ℕ) (one : Found) (content : Content) (batch : Gathered) (told : Option Disk)
    → AreTop pages found top start → slice_get found page ≡ Some one → slice_get pages page ≡ Some content → one.lsn ≡ content.lsn
    → IsGatheredTo shape top start page batch told → IsGatheredTo shape top start (page + 1) batch told
same-gathered shape pages found top start page one content batch told tops there read lsns w =
    let same : start page ≡ top page = tops.same page one content there read lsns in
    record {
      was = w.was;
      stored = w.stored;
      before = w.before;
      done = below-next (λ p. (w.was p ≡ top p) ⊎ IsBatchedPage batch p) page w.done (inl (⊎_elim (λ old. old ∙ same) (λ new. new) (w.before page)));
    }
