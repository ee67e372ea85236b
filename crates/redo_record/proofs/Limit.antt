-- A group is read off the front of at most 8,192 bytes.
use Rattle.std.proofs.Common.{◌≡◌, ℕ, ◌<◌, ◌≤◌, min, List, [], ◌++◌, length, take, drop, sym, ap, ◌∙◌, append_assoc, arith}
use Rattle.std.proofs.lemmas.List.{append-nil, take_all, take-take, take-append-drop}
use Rattle.model_base.specs.declared.limits.TheConstants.{MAX_GROUP}
use Rattle.model_log.specs.{BeginsWithGroup, group_text, IsFront, IsGroupText}
use Rattle.redo_record.specs.Reading.{IsPartOf, IsNone}
use Rattle.model_log.specs.declared.rec.Rec.{Rec}
use Rattle.model_log.proofs.Several.{OneGroup, back_nil}

-- what is read is no group and no front of one
abbrev IsBad : List ℕ → Type 0
IsBad bytes = ((group : List Rec) (len : ℕ) → BeginsWithGroup bytes group len → ⊥) × (IsFront bytes → ⊥)

module _ (bytes front : List ℕ) (n : ℕ) (is : front ≡ take n bytes) (len : n ≡ min (length bytes) MAX_GROUP) where
  whole_front : length bytes < MAX_GROUP → front ≡ bytes
  whole_front small = is ∙ take_all n bytes (omega arith)

  -- the front, up to a length and from there on
  cut : (k : ℕ) → k ≤ length bytes → k ≤ MAX_GROUP → take k bytes ++ drop k front ≡ front
  cut k within few =
      let below : k ≤ n = omega arith in
      ap (λ (t : List ℕ). t ++ drop k front) (sym (take-take k n bytes below) ∙ ap (take k) (sym is)) ∙ take-append-drop k front

  pub front_none : IsNone IsGroupText front → IsBad bytes
  front_none none = (
    λ group k h. none (take k bytes) (drop k front) [] group h.2 (cut k h.0 h.1 ∙ sym (append-nil front)),
    λ h. none (bytes ++ h.1.0) [] h.1.0 h.1.1 h.1.3 (append-nil (bytes ++ h.1.0) ∙ ap (λ (t : List ℕ). t ++ h.1.0) (sym (whole_front h.0))),
  )

  -- a front of a longer group: no group of at most 8,192 bytes begins so
  pub too_long : OneGroup → MAX_GROUP ≤ length bytes → IsPartOf IsGroupText front → IsBad bytes
  too_long one long part = (
    λ group k h.
        let whole : group_text group ++ (drop k front ++ part.more) ≡ group_text part.value ++ [] =
        ap (λ (t : List ℕ). t ++ (drop k front ++ part.more)) (sym h.2.spelled) ∙ sym (append_assoc (take k bytes) (drop k front) part.more) ∙ ap (λ (t : List ℕ). t ++ part.more) (cut k h.0 h.1)
        ∙ part.is_text.spelled ∙ sym (append-nil (group_text part.value)) in
        part.some (back_nil (drop k front) part.more (one group part.value (drop k front ++ part.more) [] h.2.is_group part.is_text.is_group whole).1),
    λ h. absurd (omega (arith, h.0)),
  )
