-- One group more in a tally.
use Rattle.std.proofs.Common.{List, [], ◌∷◌, ◌++◌, ℕ, ◌+◌, ◌%◌, ◌^◌, ◌≡◌, ◌∙◌, ap, append_assoc, append-nil, arith, length-append, subst, sym}
use Rattle.model_core.specs.{Given}
use Rattle.redo_crc.specs.Parts.{HasTaken}
use Rattle.redo_follow.specs.Handing.{with_group}
use Rattle.redo_follow.specs.Following.{HasTally, joined_given}

joined_more : (got : List Given) (start end : ℕ) (text : List ℕ)
    → joined_given (with_group got start end text) ≡ joined_given got ++ text
joined_more [] start end text = append-nil text
joined_more (g ∷ gs) start end text =
    ap (λ (x : List ℕ). g.text ++ x) (joined_more gs start end text) ∙ sym (append_assoc g.text (joined_given gs) text)

pub tally_more : (count register after start end : ℕ) (text : List ℕ)
    → ((taken : List ℕ) → HasTaken register taken → HasTaken after (taken ++ text))
    → (got : List Given) → HasTally (record { count = count; register = register }) got
    → HasTally (record { count = (count + 1) % 2 ^ 64; register = after }) (with_group got start end text)
tally_more count register after start end text takes got h =
    let one : List Given = record { start = start; end = end; text = text } ∷ [] in (
      omega (arith, h.0, length-append got one),
      subst (HasTaken after) (sym (joined_more got start end text)) (takes (joined_given got) h.1),
    )
