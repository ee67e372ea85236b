-- The lanes of a word, stored among the user bytes of a page one by one.
use Rattle.std.proofs.Common.{List, ap, arith, get_or-set_other, get_or-set_same, length, length-set, subst, ℕ, ◌%◌, ◌*◌, ◌+◌, ◌-◌, ◌/◌, ◌<◌, ◌∙◌, ◌≡◌, ◌≢◌}
use Rattle.std.specs.Int.{to_le_bytes, w64}
use Rattle.std.specs.Prelude.{slice_index, slice_set}
use native.Mathlib.Decide.{ℕ_discrete}
use Rattle.model_base.specs.declared.limits.TheConstants.{USER_START}
use Rattle.model_core.proofs.Lanes.{lane_read}
unfoldable use Rattle.model_core.specs.{lane}
use Rattle.model_core.specs.declared.limits.TheConstants.{WORD_LANES}
use Rattle.redo_rule.specs.Reading.{lane_at}

-- the lanes so far are stored, and each other byte is as it was
abbrev pub AreHere : (first now : List ℕ) (number k word : ℕ) → Type 0
AreHere first now number k word = (j : ℕ) → j < length first → (USER_START + j) / WORD_LANES ≡ number
    → (USER_START + j) % WORD_LANES < k → slice_index now j ≡ lane_at j word

abbrev pub AreSame : (first now : List ℕ) (number : ℕ) → Type 0
AreSame first now number = (j : ℕ) → j < length first → (USER_START + j) / WORD_LANES ≢ number
    → slice_index now j ≡ slice_index first j

module _ (first now : List ℕ) (number k word : ℕ) (low : k < 8) (long : length now ≡ length first)
    (here : AreHere first now number k word) (same : AreSame first now number) where
  -- THE NEXT LANE is stored,
  module _ (i byte : ℕ) (is : USER_START + i ≡ 8 * number + k) (room : i < length now)
      (read : byte ≡ slice_index (to_le_bytes w64 word) k) where
    pub put_here : AreHere first (slice_set now i byte) number (k + 1) word
    put_here j there in_word next = elim (ℕ_discrete j i) [
      | yes e ↦ (let at : k ≡ (USER_START + j) % WORD_LANES = omega arith in
          subst (λ (y : ℕ). slice_index (slice_set now i byte) y ≡ byte) (omega arith) (get_or-set_same now i byte 0 room)
          ∙ read ∙ lane_read k word low ∙ ap (λ (y : ℕ). lane y word) at)
      | no n ↦ get_or-set_other now i j byte 0 n ∙ here j there in_word (omega arith)
    ]

    pub put_same : AreSame first (slice_set now i byte) number
    put_same j there other = get_or-set_other now i j byte 0 (λ e. other (omega arith)) ∙ same j there other

    pub put_long : length (slice_set now i byte) ≡ length first
    put_long = length-set now i byte ∙ long

  -- or isn't the page's
  pub left_here : ((i : ℕ) → i < length now → USER_START + i ≢ 8 * number + k) → AreHere first now number (k + 1) word
  left_here aside j there in_word next = elim (ℕ_discrete ((USER_START + j) % WORD_LANES) k) [
    | yes e ↦ absurd (aside j (omega arith) (omega arith))
    | no n ↦ here j there in_word (omega arith)
  ]
