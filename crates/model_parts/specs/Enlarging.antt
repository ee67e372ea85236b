-- A store of an earlier format gets the slots and places of a run, and then its headers, once it is ready for one by its own
-- sizes: its old slots and places stay as they are, and lie in the new slots.
use Rattle.std.specs.Prelude.{ℕ, ◌≡◌, ◌≤◌, ◌<◌, ◌+◌, ◌⊎◌, List, length, replicate}
use Rattle.model_base.specs.{run_shape}
use Rattle.model_base.specs.declared.shape.Shape.{Shape}
use Rattle.model_log.specs.{head_text, run_format}
use Rattle.model_page.specs.{IsInPlace, stretch_at}
use Rattle.model_page.specs.declared.content.Content.{Content}
use Rattle.model_parts.specs.Changes.{IsPut, IsPutting}

-- each slot and each place of these sizes holds what it held
pub record KeepsStretches (shape : Shape) (old new : List ℕ) : Type 0 where
  pub same_length : length new ≡ length old
  pub each : (n : ℕ) → n < shape.slots + shape.pages → stretch_at shape n new ≡ stretch_at shape n old

-- so they do, each further slot of a run is zeros, and each of its places holds its page
pub record IsEnlarged (shape : Shape) (pages : ℕ → Content) (old new : List ℕ) : Type 0 where
  pub keeps : KeepsStretches shape old new
  pub slots : (slot : ℕ) → shape.slots + shape.pages ≤ slot → slot < (run_shape shape).slots
      → stretch_at shape slot new ≡ replicate shape.page_size 0
  pub places : (p : ℕ) → p < shape.pages → IsInPlace (run_shape shape) new p (pages p)

-- the header of a run
abbrev pub run_head : Shape → List ℕ
run_head shape = head_text (run_format (run_shape shape)) (run_shape shape)

-- an image of the log device while it is put, first into block 2 and then into block 0
abbrev pub IsHeading : Shape → List ℕ → List ℕ → Type 0
IsHeading shape old new =
    IsPutting 2 (run_head shape) old new
    ⊎ ((second : List ℕ) × IsPut 2 (run_head shape) old second × IsPutting 0 (run_head shape) second new)

-- and once it is done
pub record IsHeaded (shape : Shape) (old new : List ℕ) : Type 0 where
  pub second : List ℕ
  pub is_second : IsPut 2 (run_head shape) old second
  pub first : IsPut 0 (run_head shape) second new
