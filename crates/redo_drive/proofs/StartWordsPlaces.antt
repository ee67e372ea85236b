-- The words of the readers of the log while they get their places one by one.
use Rattle.std.proofs.Common.{List, [], ap, append-nil, arith, drop, length, refl, subst, suc, sym, take, zero, ℕ, ◌++◌, ◌-◌, ◌<◌, ◌==◌, ◌∙◌, ◌∷◌, ◌≡◌}
use Rattle.std.specs.Prelude.{cond, slice_index, slice_set}
use Rattle.std.proofs.lemmas.Bool.{ne_eqb}
use Rattle.std.proofs.lemmas.List.{drop_all, get_or-replicate, length-replicate, take_all}
use Rattle.model_core.specs.{SharedWords, wrote}
use Rattle.model_core.specs.declared.limits.TheConstants.{READERS}
use Rattle.model_core.specs.declared.words.Word.TheVariants as word
use Rattle.model_log.specs.declared.layout.TheConstants.{BLOCK_HEADER}
use Rattle.redo_drive.specs.Setups.{first_places}
use Rattle.redo_drive.specs.StartWords.{AreNamed}
use Rattle.redo_words.specs.Plain.{Plain}

-- the first so many of a list, and then what another one has
abbrev begun_with : List ℕ → ℕ → List ℕ → List ℕ
begun_with xs n ps = take n xs ++ drop n ps

one_more : (xs ps : List ℕ) (n : ℕ) → n < length xs → n < length ps
    → slice_set (begun_with xs n ps) n (slice_index xs n) ≡ begun_with xs (suc n) ps
one_more [] ps n there room = absurd (omega arith)
one_more (x ∷ xs) [] n there room = absurd (omega arith)
one_more (x ∷ xs) (p ∷ ps) zero there room = refl
one_more (x ∷ xs) (p ∷ ps) (suc n) there room =
    ap (λ (ys : List ℕ). x ∷ ys) (one_more xs ps n (omega arith) (omega arith))

-- there are as many as readers; the first is the archiver's
first_long : (start : ℕ) → length (first_places start) ≡ READERS
first_long start = ap suc (length-replicate (READERS - 1) start)

pub follower_place : (start i : ℕ) → 0 < i → i < READERS → slice_index (first_places start) i ≡ start
follower_place start zero some few = absurd (omega arith)
follower_place start (suc i) some few = get_or-replicate (READERS - 1) i start 0 (omega arith)

pub first_place : (start i : ℕ) → i < READERS
    → slice_index (first_places start) i ≡ cond (i == 0) (start - BLOCK_HEADER) start
first_place start zero few = refl
first_place start (suc i) few =
    follower_place start (suc i) (omega arith) few
    ∙ sym (ap (λ b. cond b (start - BLOCK_HEADER) start) (ne_eqb (suc i) 0 (λ none. omega arith)))

-- so many of them have their places, and the other words are as they were
pub record HavePlacesUpTo (old new : Plain) (start n : ℕ) : Type 0 where
  pub layout : new.layout ≡ old.layout
  pub named : (m : SharedWords) → AreNamed old m
      → AreNamed new (record m { places = begun_with (first_places start) n m.places })

module _ (old : Plain) (start : ℕ) where
  pub places_none : HavePlacesUpTo old old start 0
  places_none = record { layout = refl; named = λ m named. named }

  pub places_more : (mid new : Plain) (n x : ℕ) → HavePlacesUpTo old mid start n → n < READERS
      → x ≡ slice_index (first_places start) n → new.layout ≡ mid.layout
      → ((m : SharedWords) → AreNamed mid m → AreNamed new (wrote m (word.Place n) x))
      → HavePlacesUpTo old new start (suc n)
  places_more mid new n x before few is layout step = record {
    layout = layout ∙ before.layout;
    named = λ m named.
        let mixed : List ℕ = begun_with (first_places start) n m.places in
        let more : slice_set mixed n x ≡ begun_with (first_places start) (suc n) m.places =
        ap (slice_set mixed n) is
        ∙ one_more (first_places start) m.places n
        (omega (arith, first_long start)) (omega (arith, named.sized.places)) in
        subst (λ (ps : List ℕ). AreNamed new (record m { places = ps })) more
        (step (record m { places = mixed }) (before.named m named));
  }

  pub places_all : (new : Plain) (n : ℕ) → HavePlacesUpTo old new start n → n ≡ READERS
      → (m : SharedWords) → AreNamed old m → AreNamed new (record m { places = first_places start })
  places_all new n placed all m named =
      let front : take n (first_places start) ≡ first_places start =
      take_all n (first_places start) (omega (arith, first_long start)) in
      let none : drop n m.places ≡ [] = drop_all n m.places (omega (arith, named.sized.places)) in
      let are : begun_with (first_places start) n m.places ≡ first_places start =
      ap (λ (ps : List ℕ). take n (first_places start) ++ ps) none ∙ append-nil (take n (first_places start)) ∙ front in
      subst (λ (ps : List ℕ). AreNamed new (record m { places = ps })) are (placed.named m named)
