-- What follows from a header or a checkpoint that was read.
use Rattle.std.proofs.Common.{◌≡◌, ℕ, ◌%◌, ◌^◌, ◌<◌, ◌≤◌, ◌⊎◌, inl, inr, Bool, true, false, cond, ◌&&◌, ltb, leb, eqb, List, Option, Some, None, arith, refl, subst, ⊎_elim}
use Rattle.std.proofs.lemmas.Bool.Decides.{nat_tests}
use Rattle.model_base.specs.declared.shape.Shape.{Shape}
use Rattle.model_base.specs.declared.limits.TheConstants.{START_LSN}
use Rattle.model_base.specs.{field, is_within_limits, IsWithinLimits}
use Rattle.model_base.proofs.ShapeLimits.{is_within_limits_facts}
use Rattle.model_log.specs.{fits_checksum, format_of, has_sizes_of, head_among, header_block, is_checkpoint, newer, newest_checkpoint, place_in, place_of, read_checkpoint, read_head, shape_of}
use Rattle.model_log.specs.declared.head.Format.{Format}
use Rattle.model_log.specs.declared.head.Head.{Head}
use Rattle.model_log.specs.declared.layout.Layout.{Layout}
use Rattle.model_log.specs.declared.head.Head.TheVariants.{Good, OtherFormat, Unformatted}

-- what is good passed every test
good_named : (start limits sizes : Bool) (named : Format) (read shape : Shape) (format : Format)
    → cond (start && limits && sizes) (Good named read) Unformatted ≡ Good format shape
    → (limits ≡ true) × ((sizes ≡ true) × ((named ≡ format) × (read ≡ shape)))
good_named true true true named read shape format e = (refl, (refl, (cc, cc)))
good_named true true false named read shape format e = cc
good_named true false sizes named read shape format e = cc
good_named false limits sizes named read shape format e = cc

good_parts : (sum start limits : Bool) (sizes : Format → Bool) (found : Option Format) (n : ℕ) (read shape : Shape) (format : Format)
    → cond sum (elim found [ None ↦ OtherFormat n | Some named ↦ cond (start && limits && sizes named) (Good named read) Unformatted ]) Unformatted ≡ Good format shape
    → (limits ≡ true) × ((sizes format ≡ true) × (read ≡ shape))
good_parts true start limits sizes (Some named) n read shape format e =
    let parts = good_named start limits (sizes named) named read shape format e in
    (parts.0, (subst (λ (f : Format). sizes f ≡ true) parts.1.1.0 parts.1.0, parts.1.1.1))
good_parts true start limits sizes None n read shape format e = cc
good_parts false start limits sizes found n read shape format e = cc

good-tests : (bytes : List ℕ) (format : Format) (shape : Shape) → read_head bytes ≡ Good format shape
    → (is_within_limits (shape_of bytes) ≡ true) × ((has_sizes_of format (shape_of bytes) ≡ true) × (shape_of bytes ≡ shape))
unfolding read_head
good-tests bytes format shape e =
    good_parts (fits_checksum bytes) (eqb (field 8 8 bytes) START_LSN) (is_within_limits (shape_of bytes)) (λ (f : Format). has_sizes_of f (shape_of bytes)) (format_of (field 4 0 bytes)) (field 4 0 bytes) (shape_of bytes) shape format e

-- a header that is good names sizes that a store may have
pub good-limits : (bytes : List ℕ) (format : Format) (shape : Shape) → read_head bytes ≡ Good format shape → IsWithinLimits shape
good-limits bytes format shape e =
    let parts = good-tests bytes format shape e in
    subst (λ (s : Shape). IsWithinLimits s) parts.1.1 (is_within_limits_facts (shape_of bytes) parts.0)

-- and these are sizes of its format
pub good-sizes : (bytes : List ℕ) (format : Format) (shape : Shape) → read_head bytes ≡ Good format shape → has_sizes_of format shape ≡ true
good-sizes bytes format shape e =
    let parts = good-tests bytes format shape e in
    subst (λ (s : Shape). has_sizes_of format s ≡ true) parts.1.1 parts.1.0

either-head : (sound : Bool) (first second head : Head) → cond sound first second ≡ head → (first ≡ head) ⊎ (second ≡ head)
either-head true first second head is = inl is
either-head false first second head is = inr is

-- and so do two header blocks together
pub head-limits : (first second : List ℕ) (format : Format) (shape : Shape) → head_among first second ≡ Good format shape → IsWithinLimits shape
head-limits first second format shape is =
    ⊎_elim (λ one. good-limits first format shape one) (λ two. good-limits second format shape two)
    (either-head (fits_checksum first) (read_head first) (read_head second) (Good format shape) is)

pub head-sizes : (first second : List ℕ) (format : Format) (shape : Shape) → head_among first second ≡ Good format shape → has_sizes_of format shape ≡ true
head-sizes first second format shape is =
    ⊎_elim (λ one. good-sizes first format shape one) (λ two. good-sizes second format shape two)
    (either-head (fits_checksum first) (read_head first) (read_head second) (Good format shape) is)

checkpoint_parts : (a b : Bool) (lsn : ℕ) (f : Bool) → (a && b && eqb (lsn % 512) 0 && leb START_LSN lsn && ltb lsn (2 ^ 60) && f) ≡ true
    → (lsn % 512 ≡ 0) × (START_LSN ≤ lsn) × (lsn < 2 ^ 60)
checkpoint_parts a b lsn f e = grind (arith, nat_tests)

-- what is tested passes the test
tested : {X : Type 0} (test : Bool) (x y : X) → cond test (Some x) None ≡ Some y → (test ≡ true) × (x ≡ y)
tested true x y e = (refl, cc)
tested false x y e = cc

read_checkpoint-bounds : (which : ℕ) (layout : Layout) (bytes : List ℕ) (found : ℕ × ℕ) → read_checkpoint which layout bytes ≡ Some found
    → (found.1 % 512 ≡ 0) × (START_LSN ≤ found.1) × (found.1 < 2 ^ 60)
unfolding read_checkpoint
read_checkpoint-bounds which layout bytes found e =
    let parts = tested (is_checkpoint which layout bytes) (field 8 0 bytes, field 8 8 bytes) found e in
    subst (λ (pair : ℕ × ℕ). (pair.1 % 512 ≡ 0) × (START_LSN ≤ pair.1) × (pair.1 < 2 ^ 60)) parts.1
    (checkpoint_parts (fits_checksum bytes) (eqb (place_of (field 8 0 bytes)) which) (field 8 8 bytes)
    (eqb (field 8 16 bytes) (place_in layout (field 8 8 bytes))) parts.0)

one_of_newer : (a b : Option (ℕ × ℕ)) (x : ℕ × ℕ) → newer a b ≡ Some x → (a ≡ Some x) ⊎ (b ≡ Some x)
one_of_newer None b x e = inr e
one_of_newer (Some m) None x e = inl e
one_of_newer (Some m) (Some n) x e = go (ltb m.0 n.0) m n x e
  where
    go : (test : Bool) (m n x : ℕ × ℕ) → cond test (Some n) (Some m) ≡ Some x → (Some m ≡ Some x) ⊎ (Some n ≡ Some x)
    go true m n x e = inr e
    go false m n x e = inl e

-- the newest checkpoint is at the lsn of a block of the log
pub checkpoint-bounds : (layout : Layout) (image : List ℕ) (number ckpt : ℕ) → newest_checkpoint layout image ≡ Some (number, ckpt)
    → (ckpt % 512 ≡ 0) × (START_LSN ≤ ckpt) × (ckpt < 2 ^ 60)
checkpoint-bounds layout image number ckpt e =
    elim (one_of_newer (read_checkpoint 1 layout (header_block 1 image)) (read_checkpoint 3 layout (header_block 3 image)) (number, ckpt) e) [
      | inl first ↦ read_checkpoint-bounds 1 layout (header_block 1 image) (number, ckpt) first
      | inr second ↦ read_checkpoint-bounds 3 layout (header_block 3 image) (number, ckpt) second
    ]
