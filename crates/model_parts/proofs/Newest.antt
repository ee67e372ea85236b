-- The newest of two checkpoints, where one of them is known.
use Rattle.std.proofs.Common.{◌≡◌, ◌≤◌, ◌<◌, ◌+◌, ◌%◌, ◌^◌, ◌⊎◌, ℕ, inl, inr, Bool, true, false, cond, List, Option, Some, None, refl, sym, ap, subst, ◌∙◌, ⊎_elim, arith}
use Rattle.std.specs.Prelude.{nat_lt}
use Rattle.std.proofs.lemmas.Bool.{cases_lt}
use Rattle.std.proofs.lemmas.Bool.Decides.{nat_tests}
use Rattle.model_base.specs.{field}
use Rattle.model_base.specs.declared.limits.TheConstants.{START_LSN}
use Rattle.model_log.specs.{checkpoint_text, is_checkpoint, IsLayout, newer, place_of, read_checkpoint}
use Rattle.model_log.specs.declared.layout.Layout.{Layout}
use Rattle.model_log.proofs.CheckpointRound.{checkpoint-reads_back}
use Rattle.model_parts.specs.Held.{other_place}

-- THE TWO PLACES.

pub both-places : (number : ℕ) → ((place_of number ≡ 1) × (other_place number ≡ 3)) ⊎ ((place_of number ≡ 3) × (other_place number ≡ 1))
both-places number = grind (arith, nat_tests)

pub next-other : (number : ℕ) → place_of (number + 1) ≡ other_place number
next-other number = grind (arith, nat_tests)

pub other-next : (number : ℕ) → other_place (number + 1) ≡ place_of number
other-next number = grind (arith, nat_tests)

-- a checkpoint's place is one of the header blocks, and not one of the file header's
pub checkpoint-place : (number : ℕ) → (1 ≤ place_of number) × (place_of number < 4) × (place_of number ≡ 2 → ⊥)
checkpoint-place number = ⊎_elim (λ one. (omega (arith, one.0), omega (arith, one.0), λ two. omega (arith, one.0)))
    (λ three. (omega (arith, three.0), omega (arith, three.0), λ two. omega (arith, three.0))) (both-places number)

-- THE NEWEST OF THE TWO.

-- a checkpoint with the lsn and a number between the two is the newest
pub record IsAt (found : Option (ℕ × ℕ)) (low high lsn : ℕ) : Type 0 where
  pub number : ℕ
  pub from : low ≤ number
  pub up_to : number ≤ high
  pub is : found ≡ Some (number, lsn)

-- an older one than this number, or one with the lsn and a number up to the higher one
abbrev pub IsOldOrAt : ℕ → ℕ → ℕ → ℕ × ℕ → Type 0
IsOldOrAt low high lsn pair = (pair.0 < low) ⊎ ((pair.1 ≡ lsn) × (pair.0 ≤ high))

when-less : (a b : ℕ) (first second : Option (ℕ × ℕ)) → a < b → cond (nat_lt a b) second first ≡ second
when-less a b first second less = grind (arith, nat_tests)

when-not_less : (a b : ℕ) (first second : Option (ℕ × ℕ)) → b ≤ a → cond (nat_lt a b) second first ≡ first
when-not_less a b first second less = grind (arith, nat_tests)

at-first : (low high lsn : ℕ) (other : Option (ℕ × ℕ)) → low ≤ high → ((pair : ℕ × ℕ) → other ≡ Some pair → IsOldOrAt low high lsn pair)
    → IsAt (newer (Some (low, lsn)) other) low high lsn
at-first low high lsn None order beside = record { number = low; from = omega arith; up_to = order; is = refl }
at-first low high lsn (Some pair) order beside =
    ⊎_elim (λ less. ⊎_elim (λ old. absurd (omega arith))
    (λ same. record {
      number = pair.0;
      from = omega arith;
      up_to = same.1;
      is = when-less low pair.0 (Some (low, lsn)) (Some pair) less ∙ ap (λ n. Some (pair.0, n)) same.0;
    }) (beside pair refl))
    (λ not_less. record { number = low; from = omega arith; up_to = order; is = when-not_less low pair.0 (Some (low, lsn)) (Some pair) not_less })
    (cases_lt low pair.0)

at-second : (low high lsn : ℕ) (other : Option (ℕ × ℕ)) → low ≤ high → ((pair : ℕ × ℕ) → other ≡ Some pair → IsOldOrAt low high lsn pair)
    → IsAt (newer other (Some (low, lsn))) low high lsn
at-second low high lsn None order beside = record { number = low; from = omega arith; up_to = order; is = refl }
at-second low high lsn (Some pair) order beside =
    ⊎_elim (λ less. record { number = low; from = omega arith; up_to = order; is = when-less pair.0 low (Some pair) (Some (low, lsn)) less })
    (λ not_less. ⊎_elim (λ old. absurd (omega arith))
    (λ same. record {
      number = pair.0;
      from = omega arith;
      up_to = same.1;
      is = when-not_less pair.0 low (Some pair) (Some (low, lsn)) not_less ∙ ap (λ n. Some (pair.0, n)) same.0;
    }) (beside pair refl))
    (cases_lt pair.0 low)

-- whichever of the two places it stands in
pub newest-at : (At : ℕ → Option (ℕ × ℕ)) (number low high lsn : ℕ) → low ≤ high → At (place_of number) ≡ Some (low, lsn)
    → ((pair : ℕ × ℕ) → At (other_place number) ≡ Some pair → IsOldOrAt low high lsn pair) → IsAt (newer (At 1) (At 3)) low high lsn
newest-at At number low high lsn order own beside =
    ⊎_elim
    (λ here.
    let first : At 1 ≡ Some (low, lsn) = sym (ap At here.0) ∙ own in
    subst (λ (x : Option (ℕ × ℕ)). IsAt (newer x (At 3)) low high lsn) (sym first) (at-first low high lsn (At 3) order (λ pair is. beside pair (ap At here.1 ∙ is))))
    (λ here.
    let second : At 3 ≡ Some (low, lsn) = sym (ap At here.0) ∙ own in
    subst (λ (x : Option (ℕ × ℕ)). IsAt (newer (At 1) x) low high lsn) (sym second) (at-second low high lsn (At 1) order (λ pair is. beside pair (ap At here.1 ∙ is))))
    (both-places number)

-- where the number is told, it is that one
pub at-one : (found : Option (ℕ × ℕ)) (number lsn : ℕ) → IsAt found number number lsn → found ≡ Some (number, lsn)
at-one found number lsn is = let same : is.number ≡ number = omega (arith, is.from, is.up_to) in is.is ∙ ap (λ n. Some (n, lsn)) same

-- none of the two is newer than the newest
newer-first : (x : ℕ × ℕ) (other : Option (ℕ × ℕ)) (number ckpt : ℕ) → newer (Some x) other ≡ Some (number, ckpt) → x.0 ≤ number
newer-first x None number ckpt is = let same : x ≡ (number, ckpt) = cc in omega (arith, ap (λ (pair : ℕ × ℕ). pair.0) same)
newer-first x (Some y) number ckpt is =
    ⊎_elim (λ less. let same : y ≡ (number, ckpt) = (let e : Some y ≡ Some (number, ckpt) = sym (when-less x.0 y.0 (Some x) (Some y) less) ∙ is in cc) in omega (arith, ap (λ (pair : ℕ × ℕ). pair.0) same))
    (λ not_less. let same : x ≡ (number, ckpt) = (let e : Some x ≡ Some (number, ckpt) = sym (when-not_less x.0 y.0 (Some x) (Some y) not_less) ∙ is in cc) in omega (arith, ap (λ (pair : ℕ × ℕ). pair.0) same))
    (cases_lt x.0 y.0)

newer-second : (other : Option (ℕ × ℕ)) (y : ℕ × ℕ) (number ckpt : ℕ) → newer other (Some y) ≡ Some (number, ckpt) → y.0 ≤ number
newer-second None y number ckpt is = let same : y ≡ (number, ckpt) = cc in omega (arith, ap (λ (pair : ℕ × ℕ). pair.0) same)
newer-second (Some x) y number ckpt is =
    ⊎_elim (λ less. let same : y ≡ (number, ckpt) = (let e : Some y ≡ Some (number, ckpt) = sym (when-less x.0 y.0 (Some x) (Some y) less) ∙ is in cc) in omega (arith, ap (λ (pair : ℕ × ℕ). pair.0) same))
    (λ not_less. let same : x ≡ (number, ckpt) = (let e : Some x ≡ Some (number, ckpt) = sym (when-not_less x.0 y.0 (Some x) (Some y) not_less) ∙ is in cc) in omega (arith, ap (λ (pair : ℕ × ℕ). pair.0) same))
    (cases_lt x.0 y.0)

pub up-to_newest : (At : ℕ → Option (ℕ × ℕ)) (n number ckpt : ℕ) (pair : ℕ × ℕ) → newer (At 1) (At 3) ≡ Some (number, ckpt) → At (place_of n) ≡ Some pair → pair.0 ≤ number
up-to_newest At n number ckpt pair newest is =
    ⊎_elim
    (λ here.
    let first : At 1 ≡ Some pair = sym (ap At here.0) ∙ is in
    newer-first pair (At 3) number ckpt (sym (ap (λ (x : Option (ℕ × ℕ)). newer x (At 3)) first) ∙ newest))
    (λ here.
    let second : At 3 ≡ Some pair = sym (ap At here.0) ∙ is in
    newer-second (At 1) pair number ckpt (sym (ap (newer (At 1)) second) ∙ newest))
    (both-places n)

-- A CHECKPOINT OF THE OTHER FORMAT reads as nothing, or, where the two offsets of its lsn are the same, as what it is.

some-pair : (t : Bool) (found wanted : ℕ × ℕ) → cond t (Some found) None ≡ Some wanted → found ≡ wanted
some-pair true found wanted is = cc
some-pair false found wanted is = absurd cc

either-pair : (t : Bool) (found wanted : ℕ × ℕ) → found ≡ wanted → (cond t (Some found) None ≡ None) ⊎ (cond t (Some found) None ≡ Some wanted)
either-pair true found wanted same = inr (ap (λ (pair : ℕ × ℕ). Some pair) same)
either-pair false found wanted same = inl refl

text-fields : (number lsn : ℕ) (layout : Layout) → IsLayout layout → number < 2 ^ 64 → START_LSN ≤ lsn → lsn < 2 ^ 60 → lsn % 512 ≡ 0
    → let bytes : List ℕ = checkpoint_text number lsn layout in let pair : ℕ × ℕ = (field 8 0 bytes, field 8 8 bytes) in pair ≡ (number, lsn)
unfolding read_checkpoint
text-fields number lsn layout is_layout small low high aligned =
    let bytes : List ℕ = checkpoint_text number lsn layout in
    some-pair (is_checkpoint (place_of number) layout bytes) (field 8 0 bytes, field 8 8 bytes) (number, lsn)
    (checkpoint-reads_back number lsn layout is_layout small low high aligned)

pub other-format : (which number lsn : ℕ) (layout other : Layout) → IsLayout layout → number < 2 ^ 64 → START_LSN ≤ lsn → lsn < 2 ^ 60 → lsn % 512 ≡ 0
    → (read_checkpoint which other (checkpoint_text number lsn layout) ≡ None) ⊎ (read_checkpoint which other (checkpoint_text number lsn layout) ≡ Some (number, lsn))
unfolding read_checkpoint
other-format which number lsn layout other is_layout small low high aligned =
    let bytes : List ℕ = checkpoint_text number lsn layout in
    either-pair (is_checkpoint which other bytes) (field 8 0 bytes, field 8 8 bytes) (number, lsn) (text-fields number lsn layout is_layout small low high aligned)
