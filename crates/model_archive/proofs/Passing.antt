-- What a head and a mark are that pass.
use Rattle.std.proofs.Common.{◌≡◌, ◌==◌, ◌&&◌, ◌≤◌, ◌<◌, ◌^◌, ℕ, List, refl, sym, ap, subst, ◌∙◌, Bool, true, false, cond, nat_lt, Option, Some, None, ⊎_elim, arith}
use Rattle.std.proofs.lemmas.Bool.{cases_Bool}
use Rattle.std.proofs.lemmas.Bool.Decides.{nat_tests}
use Rattle.model_base.proofs.ShapeLimits.{is_within_limits_facts}
use Rattle.model_base.specs.{field, is_within_limits, IsWithinLimits}
use Rattle.model_base.specs.declared.shape.Shape.{Shape}
use Rattle.model_log.specs.{fits_checksum, IsDataLsn, newer, shape_of}
use Rattle.model_store.proofs.Places.{same_some}
use Rattle.model_archive.specs.Restore.{is_mark_lsn, is_run_start, mark_place, read_archive_head, read_mark}
use Rattle.model_archive.specs.Texts.{IsRunStart}

when-head : (t : Bool) (found : ℕ × Shape) (s : ℕ) (shape : Shape)
    → (let wanted : Option (ℕ × Shape) = Some (s, shape) in cond t (Some found) None ≡ wanted)
    → (t ≡ true) × (found.0 ≡ s) × (found.1 ≡ shape)
when-head true found s shape is =
    let wanted : ℕ × Shape = (s, shape) in
    let same : found ≡ wanted = same_some (Some wanted) found wanted (sym is) refl in
    (refl, ap (λ (p : ℕ × Shape). p.0) same, ap (λ (p : ℕ × Shape). p.1) same)
when-head false found s shape is = absurd cc

and-third : (a b c d : Bool) → (a && b && c && d) ≡ true → (c ≡ true) × (d ≡ true)
and-third true true true true is = (refl, refl)
and-third true true true false is = absurd cc
and-third true true false d is = absurd cc
and-third true false c d is = absurd cc
and-third false b c d is = absurd cc

run-start_is : (s : ℕ) → is_run_start s ≡ true → IsRunStart s
run-start_is s is = record {
  place = grind (arith, nat_tests);
  first = grind (arith, nat_tests);
  small =
      grind (arith, nat_tests);
}

pub head-passes : (bytes : List ℕ) (s : ℕ) (shape : Shape) → read_archive_head bytes ≡ Some (s, shape)
    → IsWithinLimits shape × IsRunStart s
unfolding read_archive_head
head-passes bytes s shape is =
    let found = when-head (fits_checksum bytes && field 4 0 bytes == 1 && is_within_limits
    (shape_of bytes) && is_run_start (field 8 8 bytes)) (field 8 8 bytes, shape_of bytes) s shape is in
    let tests = and-third (fits_checksum bytes) (field 4 0 bytes == 1) (is_within_limits (shape_of bytes))
    (is_run_start (field 8 8 bytes)) found.0 in (
      subst IsWithinLimits found.2 (is_within_limits_facts (shape_of bytes) tests.0),
      subst IsRunStart found.1
          (run-start_is (field 8 8 bytes) tests.1),
    )

when-mark : (t : Bool) (found : ℕ × ℕ) (pair : ℕ × ℕ) → cond t (Some found) None ≡ Some pair
    → (t ≡ true) × (found ≡ pair)
when-mark true found pair is = (refl, same_some (Some pair) found pair (sym is) refl)
when-mark false found pair is = absurd cc

and-last : (a b c : Bool) → (a && b && c) ≡ true → c ≡ true
and-last true true true is = refl
and-last true true false is = absurd cc
and-last true false c is = absurd cc
and-last false b c is = absurd cc

-- what a mark that passes is
pub record IsMarkLsn (s lsn : ℕ) : Type 0 where
  pub place : IsDataLsn lsn
  pub from : s ≤ lsn
  pub small : lsn < 2 ^ 60

mark-lsn_is : (s lsn : ℕ) → is_mark_lsn s lsn ≡ true → IsMarkLsn s lsn
mark-lsn_is s lsn is = record {
  place = (grind (arith, nat_tests), grind (arith, nat_tests));
  from =
      grind (arith, nat_tests);
  small = grind (arith, nat_tests);
}

pub mark-passes : (which s : ℕ) (bytes : List ℕ) (pair : ℕ × ℕ) → read_mark which s bytes ≡ Some pair
    → IsMarkLsn s pair.1
unfolding read_mark
mark-passes which s bytes pair is =
    let found = when-mark (fits_checksum bytes && mark_place (field 8 0 bytes) == which && is_mark_lsn s
    (field 8 8 bytes)) (field 8 0 bytes, field 8 8 bytes) pair is in
    let test = and-last (fits_checksum bytes) (mark_place (field 8 0 bytes) == which)
    (is_mark_lsn s (field 8 8 bytes)) found.0 in
    subst (λ (p : ℕ × ℕ). IsMarkLsn s p.1) found.1 (mark-lsn_is s (field 8 8 bytes) test)

pub newest-passes : (s number lsn : ℕ) (first second : Option (ℕ × ℕ))
    → ((pair : ℕ × ℕ) → first ≡ Some pair → IsMarkLsn s pair.1)
    → ((pair : ℕ × ℕ) → second ≡ Some pair → IsMarkLsn s pair.1)
    → newer first second ≡ Some (number, lsn) → IsMarkLsn s lsn
newest-passes s number lsn None second one two is = two (number, lsn) is
newest-passes s number lsn (Some a) None one two is = one (number, lsn) is
newest-passes s number lsn (Some a) (Some b) one two is =
    ⊎_elim (λ less. two (number, lsn) (sym (ap (λ t. cond t (Some b) (Some a)) less) ∙ is))
    (λ not_less. one (number, lsn) (sym (ap (λ t. cond t (Some b) (Some a)) not_less) ∙ is))
    (cases_Bool (nat_lt a.0 b.0))
