-- Two texts one after another: what reading the first and then the second gives.
use Rattle.std.proofs.Common.{◌≡◌, ◌≢◌, ℕ, List, [], ◌∷◌, ◌++◌, ◌⊎◌, inl, inr, Result, Ok, Err, refl, sym, ap, subst, ◌∙◌, append_assoc}
use Rattle.std.specs.Prelude.{IsErrAnd}
use Rattle.redo_record.specs.declared.no_text.NoText.{NoText}
use Rattle.redo_record.specs.declared.stop.Stop.{Stop}
use Rattle.redo_record.specs.declared.stop.Stop.TheVariants.{Memory, Short, Bad}
use Rattle.redo_record.specs.Reading.{Begins, Stops, Reads, stop_of, Takes}
use Rattle.model_log.proofs.Sequence.{OneText, IsThen}

-- of two fronts of one list, one is a front of the other
pub front_cases : (a b c d : List ℕ) → a ++ b ≡ c ++ d → ((z : List ℕ) × (c ≡ a ++ z)) ⊎ ((z : List ℕ) × (z ≢ []) × (a ≡ c ++ z))
front_cases [] b c d e = inl (c, refl)
front_cases (x ∷ a) b [] d e = inr (x ∷ a, (λ h. absurd cc), refl)
front_cases (x ∷ a) b (y ∷ c) d e =
    let heads : x ≡ y = cc in
    let tails : a ++ b ≡ c ++ d = cc in
    elim (front_cases a b c d tails) [ inl w ↦ inl (w.0, cc) | inr w ↦ inr (w.0, w.1, cc) ]

pub not_nil : (xs ys : List ℕ) → xs ≢ [] → xs ++ ys ≢ []
not_nil [] ys some e = absurd (some refl)
not_nil (x ∷ xs) ys some e = absurd cc

module _ {A B C : Type 0} {IsFirst : List ℕ → A → Type 0} {IsSecond : A → List ℕ → B → Type 0} {IsWhole : List ℕ → C → Type 0} {join : A → B → C} (then : IsThen IsFirst IsSecond IsWhole join) where
  pub both_begin : (bytes rest left : List ℕ) (a : A) (b : B) → Begins IsFirst bytes a rest → Begins (IsSecond a) rest b left → Begins IsWhole bytes (join a b) left
  both_begin bytes rest left a b first second = record {
    text = first.text ++ second.text;
    is_text = then.joined first.text second.text a b first.is_text second.is_text;
    parts = first.parts ∙ ap (λ (x : List ℕ). first.text ++ x) second.parts ∙ sym (append_assoc first.text second.text left);
  }

  pub first_stops : (bytes : List ℕ) (stop : Stop) → Stops IsFirst bytes stop → Stops IsWhole bytes stop
  first_stops bytes Memory h = tt
  first_stops bytes Short h =
      let on = then.goes_on (bytes ++ h.more) h.value h.is_text in
      record {
        more = h.more ++ on.0;
        value = join h.value on.1;
        some = not_nil h.more on.0 h.some;
        is_text = subst (λ (text : List ℕ). IsWhole text (join h.value on.1)) (append_assoc bytes h.more on.0) (then.joined (bytes ++ h.more) on.0 h.value on.1 h.is_text on.2);
      }
  first_stops bytes Bad h = λ text rest more c is e.
      let w = then.parted text c is in
      h w.front (w.back ++ rest) more w.first w.is_first (sym (append_assoc w.front w.back rest) ∙ ap (λ (x : List ℕ). x ++ rest) (sym w.spelled) ∙ e)

  pub second_stops : (one : OneText IsFirst) (bytes rest : List ℕ) (a : A) → Begins IsFirst bytes a rest → (stop : Stop) → Stops (IsSecond a) rest stop → Stops IsWhole bytes stop
  second_stops one bytes rest a first Memory h = tt
  second_stops one bytes rest a first Short h =
      record {
        more = h.more;
        value = join a h.value;
        some = h.some;
        is_text = subst (λ (text : List ℕ). IsWhole text (join a h.value)) (sym (append_assoc first.text rest h.more) ∙ ap (λ (x : List ℕ). x ++ h.more) (sym first.parts)) (then.joined first.text (rest ++ h.more) a h.value first.is_text h.is_text);
      }
  second_stops one bytes rest a first Bad h = λ text left more c is e.
      let w = then.parted text c is in
      let parts : w.front ++ (w.back ++ left) ≡ first.text ++ (rest ++ more) =
      sym (append_assoc w.front w.back left) ∙ ap (λ (x : List ℕ). x ++ left) (sym w.spelled) ∙ e ∙ ap (λ (x : List ℕ). x ++ more) first.parts ∙ append_assoc first.text rest more in
      let same = one w.front first.text (w.back ++ left) (rest ++ more) w.first a w.is_first first.is_text parts in
      h w.back left more w.second (subst (λ (x : A). IsSecond x w.back w.second) same.0 w.is_second) same.1

-- what the exit of a `?` gives
pub passed_on : {X A : Type 0} (view : X → A × List ℕ) (IsText : List ℕ → A → Type 0) (bytes : List ℕ) (result : Result X Stop) (stop : Stop) → IsErrAnd result (λ given. given ≡ stop) → Stops IsText bytes stop → Reads view IsText bytes result
passed_on view IsText bytes (Ok x) stop is h = absurd is
passed_on view IsText bytes (Err given) stop is h = subst (Stops IsText bytes) (sym is) h

pub taken_on : {X A : Type 0} (view : X → A × List ℕ) (IsText : List ℕ → A → Type 0) (bytes : List ℕ)
    (result : Result X NoText) (why : NoText) → IsErrAnd result (λ given. given ≡ why)
    → Stops IsText bytes (stop_of why) → Takes view IsText bytes result
taken_on view IsText bytes (Ok x) why is h = absurd is
taken_on view IsText bytes (Err given) why is h = subst (λ (w : NoText). Stops IsText bytes (stop_of w)) (sym is) h

-- where the second text alone makes the value, what reading it gives is what reading both gives
pub last_reads : {X A B : Type 0} {IsFirst : List ℕ → A → Type 0} {IsSecond : A → List ℕ → B → Type 0} {IsWhole : List ℕ → B → Type 0} (then : IsThen IsFirst IsSecond IsWhole (λ _ value. value)) (one : OneText IsFirst) (view : X → B × List ℕ) (bytes rest : List ℕ) (a : A)
    → Begins IsFirst bytes a rest → (result : Result X Stop) → Reads view (IsSecond a) rest result → Reads view IsWhole bytes result
last_reads then one view bytes rest a first (Ok found) h = both_begin then bytes rest (view found).1 a (view found).0 first h
last_reads then one view bytes rest a first (Err stop) h = second_stops then one bytes rest a first stop h
