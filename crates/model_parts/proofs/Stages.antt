-- In each stage of clearing a log of format 2 the scan takes less at the most, and the same before the start.
use Rattle.std.proofs.Common.{◌≡◌, ◌≢◌, ◌<◌, ◌%◌, ◌⊎◌, ℕ, suc, inl, inr, Bool, true, false, cond, List, Option, Some, None, refl, sym, ap, subst, ◌∙◌, ⊎_elim, arith}
use Rattle.std.specs.Prelude.{nat_lt}
use Rattle.std.proofs.lemmas.Bool.{cases_lt}
use Rattle.model_base.specs.declared.limits.TheConstants.{LSN_LIMIT}
use Rattle.model_log.specs.{block_of, lsn_at}
use Rattle.model_log.specs.declared.block.BlockView.{BlockView}
use Rattle.model_log.specs.declared.head.Format.TheVariants.{Two}
use Rattle.model_store.specs.{in_place_or, longer, read_full, read_tail, Source, Taken, taken_among, taken_from}
use Rattle.model_store.proofs.Taking.{among-none}
use Rattle.model_parts.specs.Changes.{IsUnsealed}
use Rattle.model_parts.proofs.Dropping.{Drops}
use Rattle.model_parts.proofs.Unread.{tail-once, unsealed-full, unsealed-tail}

-- what the scan looks at: the place of each block in the ring, and the two tail blocks
pub record Looked : Type 0 where
  pub place : ℕ → List ℕ
  pub four : List ℕ
  pub five : List ℕ

abbrev pub source_of : Looked → Source
source_of log lsn = cond (nat_lt lsn LSN_LIMIT) (taken_among Two lsn (log.place lsn) log.four log.five) None

-- what is cleared away or stays
abbrev pub MayGo : List ℕ → List ℕ → Type 0
MayGo old new = (new ≡ old) ⊎ IsUnsealed new

may-full : (b : ℕ) (old new : List ℕ) → MayGo old new → read_full b old ≡ None → read_full b new ≡ None
may-full b old new may none = ⊎_elim (λ same. ap (read_full b) same ∙ none) (λ gone. unsealed-full b new gone) may

may-tail : (b : ℕ) (old new : List ℕ) → MayGo old new → read_tail b old ≡ None → read_tail b new ≡ None
may-tail b old new may none = ⊎_elim (λ same. ap (read_tail b) same ∙ none) (λ gone. unsealed-tail b new gone) may

-- WHERE THE SCAN TOOK ITS BLOCKS: all in their places, or the last one from a tail block.

pub record IsInPlace (log : Looked) (b : ℕ) : Type 0 where
  pub view : BlockView
  pub full : read_full b (log.place b) ≡ Some view

-- the scan takes at b what stands in the tail block
pub record IsTaken (log : Looked) (b : ℕ) (tail : List ℕ) : Type 0 where
  pub place : read_full b (log.place b) ≡ None
  pub view : BlockView
  pub fits : read_tail b tail ≡ Some view
  pub is : longer log.four log.five (read_tail b log.four) (read_tail b log.five) ≡ taken_from tail (Some view)

pub record EndsInPlace (log : Looked) (ckpt n most : ℕ) : Type 0 where
  pub each : (i : ℕ) → i < n → IsInPlace log (lsn_at ckpt i)
  pub last : (n ≡ most) ⊎ (source_of log (lsn_at ckpt n) ≡ None)

pub record EndsInTail (log : Looked) (tail : List ℕ) (ckpt n m : ℕ) : Type 0 where
  pub count : n ≡ suc m
  pub each : (i : ℕ) → i < m → IsInPlace log (lsn_at ckpt i)
  pub last : IsTaken log (lsn_at ckpt m) tail

-- WHAT THE SCAN TAKES.

pub among-full : (b : ℕ) (place four five : List ℕ) (view : BlockView) → read_full b place ≡ Some view → taken_among Two b place four five ≡ taken_from place (Some view)
among-full b place four five view full = ap (λ x. in_place_or place x (longer four five (read_tail b four) (read_tail b five))) full

pub among-tails : (b : ℕ) (place four five : List ℕ) → read_full b place ≡ None → taken_among Two b place four five ≡ longer four five (read_tail b four) (read_tail b five)
among-tails b place four five none = ap (λ x. in_place_or place x (longer four five (read_tail b four) (read_tail b five))) none

among-four : (b : ℕ) (place four five : List ℕ) (view : BlockView) → read_full b place ≡ None → read_tail b four ≡ Some view → read_tail b five ≡ None
    → taken_among Two b place four five ≡ taken_from four (Some view)
among-four b place four five view none first second =
    among-tails b place four five none ∙ ap (λ x. longer four five x (read_tail b five)) first ∙ ap (longer four five (Some view)) second

among-five : (b : ℕ) (place four five : List ℕ) (view : BlockView) → read_full b place ≡ None → read_tail b four ≡ None → read_tail b five ≡ Some view
    → taken_among Two b place four five ≡ taken_from five (Some view)
among-five b place four five view none first second =
    among-tails b place four five none ∙ ap (λ x. longer four five x (read_tail b five)) first ∙ ap (longer four five None) second

source-same : (b : ℕ) (x y : Option Taken) → x ≡ y → cond (nat_lt b LSN_LIMIT) x None ≡ cond (nat_lt b LSN_LIMIT) y None
source-same b x y same = ap (λ t. cond (nat_lt b LSN_LIMIT) t None) same

either-none : (t : Bool) (x : Option Taken) → x ≡ None → cond t x None ≡ None
either-none true x none = none
either-none false x none = refl

source-none : (b : ℕ) (log : Looked) → read_full b (log.place b) ≡ None → read_tail b log.four ≡ None → read_tail b log.five ≡ None → source_of log b ≡ None
source-none b log place four five =
    either-none (nat_lt b LSN_LIMIT) (taken_among Two b (log.place b) log.four log.five) (among-none b (log.place b) log.four log.five place four five)

-- and where it takes none
either-some : (t : Bool) (x y : Taken) → cond t (Some x) (Some y) ≡ None → ⊥
either-some true x y is = cc
either-some false x y is = cc

longer-none : (one two : List ℕ) (first second : Option BlockView) → longer one two first second ≡ None → (first ≡ None) × (second ≡ None)
longer-none one two None None is = (refl, refl)
longer-none one two None (Some view) is = absurd cc
longer-none one two (Some view) None is = absurd cc
longer-none one two (Some first) (Some second) is =
    absurd (either-some (nat_lt first.length second.length) _ _ is)

place-none : (bytes : List ℕ) (found : Option BlockView) (tail : Option Taken) → in_place_or bytes found tail ≡ None → (found ≡ None) × (tail ≡ None)
place-none bytes None tail is = (refl, is)
place-none bytes (Some view) tail is = absurd cc

limit-none : (t : Bool) (x : Option Taken) → cond t x None ≡ None → (t ≡ false) ⊎ (x ≡ None)
limit-none true x is = inr is
limit-none false x is = inl refl

past-limit : (t : Bool) (x y : Option Taken) → t ≡ false → cond t x None ≡ cond t y None
past-limit true x y is = absurd cc
past-limit false x y is = refl

-- where none was taken, none comes
same-none : (b : ℕ) (old new : Looked) → source_of old b ≡ None → MayGo (old.place b) (new.place b) → MayGo old.four new.four → MayGo old.five new.five
    → source_of new b ≡ source_of old b
same-none b old new none place four five =
    ⊎_elim (λ past. past-limit (nat_lt b LSN_LIMIT) (taken_among Two b (new.place b) new.four new.five) (taken_among Two b (old.place b) old.four old.five) past)
    (λ inside.
    let parts = place-none (old.place b) (read_full b (old.place b)) (longer old.four old.five (read_tail b old.four) (read_tail b old.five)) inside in
    let tails = longer-none old.four old.five (read_tail b old.four) (read_tail b old.five) parts.1 in
    source-none b new (may-full b (old.place b) (new.place b) place parts.0) (may-tail b old.four new.four four tails.0) (may-tail b old.five new.five five tails.1)
    ∙ sym none)
    (limit-none (nat_lt b LSN_LIMIT) (taken_among Two b (old.place b) old.four old.five) none)

-- a full block whose place stays is taken as before, whatever became of the tail blocks
same-full : (b : ℕ) (old new : Looked) → new.place b ≡ old.place b → IsInPlace old b → source_of new b ≡ source_of old b
same-full b old new same here =
    source-same b (taken_among Two b (new.place b) new.four new.five) (taken_among Two b (old.place b) old.four old.five)
    (among-full b (new.place b) new.four new.five here.view (ap (read_full b) same ∙ here.full)
    ∙ ap (λ (bytes : List ℕ). taken_from bytes (Some here.view)) same
    ∙ sym (among-full b (old.place b) old.four old.five here.view here.full))

-- where a place stays and no tail block fits, there is what was in its place, or none
place-or-none : (b : ℕ) (old new : Looked) → new.place b ≡ old.place b → (found : Option BlockView) → read_full b (old.place b) ≡ found
    → read_tail b new.four ≡ None → read_tail b new.five ≡ None → (source_of new b ≡ source_of old b) ⊎ (source_of new b ≡ None)
place-or-none b old new place None is four five = inr (source-none b new (ap (read_full b) place ∙ is) four five)
place-or-none b old new place (Some view) is four five = inl (same-full b old new place (record { view = view; full = is }))

-- and so it is where the place may be gone too
gone-or-same : (b : ℕ) (old new : Looked) → MayGo (old.place b) (new.place b) → read_tail b new.four ≡ None → read_tail b new.five ≡ None
    → (source_of new b ≡ source_of old b) ⊎ (source_of new b ≡ None)
gone-or-same b old new may four five =
    ⊎_elim (λ same. place-or-none b old new same (read_full b (old.place b)) refl four five)
    (λ gone. inr (source-none b new (unsealed-full b (new.place b) gone) four five)) may

-- STAGE ONE: the places stay, and of the tail blocks those may go that the scan didn't take.

pub record TailsGo (old new : Looked) : Type 0 where
  pub place : (b : ℕ) → new.place b ≡ old.place b
  pub four : MayGo old.four new.four
  pub five : MayGo old.five new.five

pub tails-drop : (ckpt n most start : ℕ) (old new : Looked) → EndsInPlace old ckpt n most → TailsGo old new → Drops n most ckpt start (source_of old) (source_of new)
tails-drop ckpt n most start old new ends goes = record {
  kept = λ i below within before. same-full (lsn_at ckpt i) old new (goes.place (lsn_at ckpt i)) (ends.each i below);
  dropped = λ i up_to within from. inl (⊎_elim
      (λ below. same-full (lsn_at ckpt i) old new (goes.place (lsn_at ckpt i)) (ends.each i below))
      (λ last. ⊎_elim (λ all. absurd (omega arith))
      (λ none. let same : n ≡ i = omega arith in
      same-none (lsn_at ckpt i) old new (subst (λ (k : ℕ). source_of old (lsn_at ckpt k) ≡ None) same none) (inl (goes.place (lsn_at ckpt i))) goes.four goes.five) ends.last) (cases_lt i n));
}

-- the tail block that was taken stays; of the other one nothing may be left
four-same : (b : ℕ) (old new : Looked) → new.place b ≡ old.place b → IsTaken old b old.four → new.four ≡ old.four → MayGo old.five new.five → source_of new b ≡ source_of old b
four-same b old new place taken four five =
    let place_none : read_full b (new.place b) ≡ None = ap (read_full b) place ∙ taken.place in
    let fits : read_tail b new.four ≡ Some taken.view = ap (read_tail b) four ∙ taken.fits in
    let before : taken_among Two b (old.place b) old.four old.five ≡ taken_from old.four (Some taken.view) = among-tails b (old.place b) old.four old.five taken.place ∙ taken.is in
    let after : taken_among Two b (new.place b) new.four new.five ≡ taken_from old.four (Some taken.view) =
    ⊎_elim (λ same. among-tails b (new.place b) new.four new.five place_none
    ∙ ap (λ (x : List ℕ). longer x new.five (read_tail b x) (read_tail b new.five)) four
    ∙ ap (λ (y : List ℕ). longer old.four y (read_tail b old.four) (read_tail b y)) same ∙ taken.is)
    (λ gone. among-four b (new.place b) new.four new.five taken.view place_none fits (unsealed-tail b new.five gone)
    ∙ ap (λ (x : List ℕ). taken_from x (Some taken.view)) four) five in
    source-same b (taken_among Two b (new.place b) new.four new.five) (taken_among Two b (old.place b) old.four old.five) (after ∙ sym before)

five-same : (b : ℕ) (old new : Looked) → new.place b ≡ old.place b → IsTaken old b old.five → MayGo old.four new.four → new.five ≡ old.five → source_of new b ≡ source_of old b
five-same b old new place taken four five =
    let place_none : read_full b (new.place b) ≡ None = ap (read_full b) place ∙ taken.place in
    let fits : read_tail b new.five ≡ Some taken.view = ap (read_tail b) five ∙ taken.fits in
    let before : taken_among Two b (old.place b) old.four old.five ≡ taken_from old.five (Some taken.view) = among-tails b (old.place b) old.four old.five taken.place ∙ taken.is in
    let after : taken_among Two b (new.place b) new.four new.five ≡ taken_from old.five (Some taken.view) =
    ⊎_elim (λ same. among-tails b (new.place b) new.four new.five place_none
    ∙ ap (λ (x : List ℕ). longer x new.five (read_tail b x) (read_tail b new.five)) same
    ∙ ap (λ (y : List ℕ). longer old.four y (read_tail b old.four) (read_tail b y)) five ∙ taken.is)
    (λ gone. among-five b (new.place b) new.four new.five taken.view place_none (unsealed-tail b new.four gone) fits
    ∙ ap (λ (x : List ℕ). taken_from x (Some taken.view)) five) four in
    source-same b (taken_among Two b (new.place b) new.four new.five) (taken_among Two b (old.place b) old.four old.five) (after ∙ sym before)

-- at a later lsn than its own the tail block that was taken doesn't fit, so that only the other one counts
five-or-none : (b : ℕ) (old new : Looked) → new.place b ≡ old.place b → read_tail b old.four ≡ None → new.four ≡ old.four → MayGo old.five new.five
    → (source_of new b ≡ source_of old b) ⊎ (source_of new b ≡ None)
five-or-none b old new place none four five =
    ⊎_elim (λ same. inl (source-same b (taken_among Two b (new.place b) new.four new.five) (taken_among Two b (old.place b) old.four old.five)
    (ap (λ (p : List ℕ). taken_among Two b p new.four new.five) place ∙ ap (λ (x : List ℕ). taken_among Two b (old.place b) x new.five) four ∙ ap (taken_among Two b (old.place b) old.four) same)))
    (λ gone. place-or-none b old new place (read_full b (old.place b)) refl (ap (read_tail b) four ∙ none) (unsealed-tail b new.five gone)) five

four-or-none : (b : ℕ) (old new : Looked) → new.place b ≡ old.place b → read_tail b old.five ≡ None → MayGo old.four new.four → new.five ≡ old.five
    → (source_of new b ≡ source_of old b) ⊎ (source_of new b ≡ None)
four-or-none b old new place none four five =
    ⊎_elim (λ same. inl (source-same b (taken_among Two b (new.place b) new.four new.five) (taken_among Two b (old.place b) old.four old.five)
    (ap (λ (p : List ℕ). taken_among Two b p new.four new.five) place ∙ ap (λ (x : List ℕ). taken_among Two b (old.place b) x new.five) same ∙ ap (taken_among Two b (old.place b) old.four) five)))
    (λ gone. place-or-none b old new place (read_full b (old.place b)) refl (unsealed-tail b new.four gone) (ap (read_tail b) five ∙ none)) four

aligned-at : (ckpt i : ℕ) → ckpt % 512 ≡ 0 → lsn_at ckpt i % 512 ≡ 0
aligned-at ckpt i aligned = omega arith

apart-at : (ckpt m i : ℕ) → (m < i) ⊎ (i < m) → lsn_at ckpt m ≢ lsn_at ckpt i
apart-at ckpt m i apart same = ⊎_elim (λ a. omega arith) (λ b. omega arith) apart

-- the tail block that was taken fits at no other lsn of the round
other-lsn : (ckpt m i : ℕ) (log : Looked) (tail : List ℕ) → ckpt % 512 ≡ 0 → IsTaken log (lsn_at ckpt m) tail → (m < i) ⊎ (i < m) → read_tail (lsn_at ckpt i) tail ≡ None
other-lsn ckpt m i log tail aligned taken apart =
    tail-once (lsn_at ckpt m) (lsn_at ckpt i) tail taken.view (aligned-at ckpt m aligned) (aligned-at ckpt i aligned) (apart-at ckpt m i apart) taken.fits

tail-before : (ckpt n m : ℕ) (old new : Looked) (tail : List ℕ) → EndsInTail old tail ckpt n m → TailsGo old new
    → (source_of new (lsn_at ckpt m) ≡ source_of old (lsn_at ckpt m)) → (i : ℕ) → i < n → source_of new (lsn_at ckpt i) ≡ source_of old (lsn_at ckpt i)
tail-before ckpt n m old new tail ends goes last i below =
    ⊎_elim (λ early. same-full (lsn_at ckpt i) old new (goes.place (lsn_at ckpt i)) (ends.each i early))
    (λ late. let is : m ≡ i = omega (arith, ends.count) in subst (λ (k : ℕ). source_of new (lsn_at ckpt k) ≡ source_of old (lsn_at ckpt k)) is last) (cases_lt i m)

pub tails-drop_four : (ckpt n m most start : ℕ) (old new : Looked) → ckpt % 512 ≡ 0 → EndsInTail old old.four ckpt n m → TailsGo old new → new.four ≡ old.four
    → Drops n most ckpt start (source_of old) (source_of new)
tails-drop_four ckpt n m most start old new aligned ends goes stays =
    let at : source_of new (lsn_at ckpt m) ≡ source_of old (lsn_at ckpt m) = four-same (lsn_at ckpt m) old new (goes.place (lsn_at ckpt m)) ends.last stays goes.five in
    record {
      kept = λ i below within before. tail-before ckpt n m old new old.four ends goes at i below;
      dropped = λ i up_to within from. ⊎_elim (λ below. inl (tail-before ckpt n m old new old.four ends goes at i below))
          (λ last. five-or-none (lsn_at ckpt i) old new (goes.place (lsn_at ckpt i))
          (other-lsn ckpt m i old old.four aligned ends.last (inl (omega (arith, ends.count)))) stays goes.five) (cases_lt i n);
    }

pub tails-drop_five : (ckpt n m most start : ℕ) (old new : Looked) → ckpt % 512 ≡ 0 → EndsInTail old old.five ckpt n m → TailsGo old new → new.five ≡ old.five
    → Drops n most ckpt start (source_of old) (source_of new)
tails-drop_five ckpt n m most start old new aligned ends goes stays =
    let at : source_of new (lsn_at ckpt m) ≡ source_of old (lsn_at ckpt m) = five-same (lsn_at ckpt m) old new (goes.place (lsn_at ckpt m)) ends.last goes.four stays in
    record {
      kept = λ i below within before. tail-before ckpt n m old new old.five ends goes at i below;
      dropped = λ i up_to within from. ⊎_elim (λ below. inl (tail-before ckpt n m old new old.five ends goes at i below))
          (λ last. four-or-none (lsn_at ckpt i) old new (goes.place (lsn_at ckpt i))
          (other-lsn ckpt m i old old.five aligned ends.last (inl (omega (arith, ends.count)))) goes.four stays) (cases_lt i n);
    }

-- STAGE TWO: the other tail blocks are gone, and places from the start on may go.

-- where all blocks stood in their places both tail blocks are gone
pub record BlocksGo (ckpt n most start : ℕ) (old new : Looked) : Type 0 where
  pub kept : (i : ℕ) → i < n → lsn_at ckpt i < block_of start → new.place (lsn_at ckpt i) ≡ old.place (lsn_at ckpt i)
  pub place : (i : ℕ) → i < most → MayGo (old.place (lsn_at ckpt i)) (new.place (lsn_at ckpt i))
  pub four : IsUnsealed new.four
  pub five : IsUnsealed new.five

pub blocks-drop : (ckpt n most start : ℕ) (old new : Looked) → EndsInPlace old ckpt n most → BlocksGo ckpt n most start old new → Drops n most ckpt start (source_of old) (source_of new)
blocks-drop ckpt n most start old new ends goes = record {
  kept = λ i below within before. same-full (lsn_at ckpt i) old new (goes.kept i below before) (ends.each i below);
  dropped = λ i up_to within from. gone-or-same (lsn_at ckpt i) old new (goes.place i within)
      (unsealed-tail (lsn_at ckpt i) new.four goes.four) (unsealed-tail (lsn_at ckpt i) new.five goes.five);
}

-- else the other one is, and the place of the block may go too that was taken from the tail block
pub record TailBlocksGo (ckpt m most start : ℕ) (old new : Looked) (old_tail new_tail new_other : List ℕ) : Type 0 where
  pub kept : (i : ℕ) → i < m → lsn_at ckpt i < block_of start → new.place (lsn_at ckpt i) ≡ old.place (lsn_at ckpt i)
  pub place : (i : ℕ) → i < most → MayGo (old.place (lsn_at ckpt i)) (new.place (lsn_at ckpt i))
  pub tail : lsn_at ckpt m < block_of start → new_tail ≡ old_tail
  pub tail_may : MayGo old_tail new_tail
  pub other : IsUnsealed new_other

-- what becomes of the block that was taken from the tail block
abbrev IsKeptOr : ℕ → Looked → Looked → List ℕ → List ℕ → Type 0
IsKeptOr b old new old_tail new_tail =
    ((new_tail ≡ old_tail) → source_of new b ≡ source_of old b) × ((source_of new b ≡ source_of old b) ⊎ (source_of new b ≡ None))

four-kept : (b : ℕ) (old new : Looked) → MayGo (old.place b) (new.place b) → IsTaken old b old.four → IsUnsealed new.five → MayGo old.four new.four
    → IsKeptOr b old new old.four new.four
four-kept b old new place taken other tail =
    let place_none : read_full b (new.place b) ≡ None = may-full b (old.place b) (new.place b) place taken.place in
    let five_none : read_tail b new.five ≡ None = unsealed-tail b new.five other in
    let before : taken_among Two b (old.place b) old.four old.five ≡ taken_from old.four (Some taken.view) = among-tails b (old.place b) old.four old.five taken.place ∙ taken.is in
    let kept : (new.four ≡ old.four) → source_of new b ≡ source_of old b = λ same.
    source-same b (taken_among Two b (new.place b) new.four new.five) (taken_among Two b (old.place b) old.four old.five)
    (among-four b (new.place b) new.four new.five taken.view place_none (ap (read_tail b) same ∙ taken.fits) five_none ∙ ap (λ (x : List ℕ). taken_from x (Some taken.view)) same ∙ sym before) in
    (kept, ⊎_elim (λ same. inl (kept same)) (λ gone. inr (source-none b new place_none (unsealed-tail b new.four gone) five_none)) tail)

five-kept : (b : ℕ) (old new : Looked) → MayGo (old.place b) (new.place b) → IsTaken old b old.five → IsUnsealed new.four → MayGo old.five new.five
    → IsKeptOr b old new old.five new.five
five-kept b old new place taken other tail =
    let place_none : read_full b (new.place b) ≡ None = may-full b (old.place b) (new.place b) place taken.place in
    let four_none : read_tail b new.four ≡ None = unsealed-tail b new.four other in
    let before : taken_among Two b (old.place b) old.four old.five ≡ taken_from old.five (Some taken.view) = among-tails b (old.place b) old.four old.five taken.place ∙ taken.is in
    let kept : (new.five ≡ old.five) → source_of new b ≡ source_of old b = λ same.
    source-same b (taken_among Two b (new.place b) new.four new.five) (taken_among Two b (old.place b) old.four old.five)
    (among-five b (new.place b) new.four new.five taken.view place_none four_none (ap (read_tail b) same ∙ taken.fits) ∙ ap (λ (x : List ℕ). taken_from x (Some taken.view)) same ∙ sym before) in
    (kept, ⊎_elim (λ same. inl (kept same)) (λ gone. inr (source-none b new place_none four_none (unsealed-tail b new.five gone))) tail)

-- so the source drops at the most, where of the other blocks of the round no tail block fits
tail-drop : (ckpt n m most start : ℕ) (old new : Looked) (old_tail new_tail new_other : List ℕ) → EndsInTail old old_tail ckpt n m
    → TailBlocksGo ckpt m most start old new old_tail new_tail new_other → IsKeptOr (lsn_at ckpt m) old new old_tail new_tail
    → ((i : ℕ) → i < most → (m < i) ⊎ (i < m) → (source_of new (lsn_at ckpt i) ≡ source_of old (lsn_at ckpt i)) ⊎ (source_of new (lsn_at ckpt i) ≡ None))
    → Drops n most ckpt start (source_of old) (source_of new)
tail-drop ckpt n m most start old new old_tail new_tail new_other ends goes here away = record {
  kept = λ i below within before. ⊎_elim (λ early. same-full (lsn_at ckpt i) old new (goes.kept i early before) (ends.each i early))
      (λ late. let is : m ≡ i = omega (arith, ends.count) in
      subst (λ (k : ℕ). source_of new (lsn_at ckpt k) ≡ source_of old (lsn_at ckpt k)) is (here.0 (goes.tail (omega arith)))) (cases_lt i m);
  dropped = λ i up_to within from. ⊎_elim (λ early. away i within (inr early))
      (λ late. ⊎_elim (λ past. away i within (inl past))
      (λ not_past. let is : m ≡ i = omega arith in
      subst (λ (k : ℕ). (source_of new (lsn_at ckpt k) ≡ source_of old (lsn_at ckpt k)) ⊎ (source_of new (lsn_at ckpt k) ≡ None)) is here.1) (cases_lt m i)) (cases_lt i m);
}

pub blocks-drop_four : (ckpt n m most start : ℕ) (old new : Looked) → ckpt % 512 ≡ 0 → m < most → EndsInTail old old.four ckpt n m
    → TailBlocksGo ckpt m most start old new old.four new.four new.five → Drops n most ckpt start (source_of old) (source_of new)
blocks-drop_four ckpt n m most start old new aligned few ends goes =
    tail-drop ckpt n m most start old new old.four new.four new.five ends goes
    (four-kept (lsn_at ckpt m) old new (goes.place m few) ends.last goes.other goes.tail_may)
    (λ i within apart. gone-or-same (lsn_at ckpt i) old new (goes.place i within)
    (may-tail (lsn_at ckpt i) old.four new.four goes.tail_may (other-lsn ckpt m i old old.four aligned ends.last apart))
    (unsealed-tail (lsn_at ckpt i) new.five goes.other))

pub blocks-drop_five : (ckpt n m most start : ℕ) (old new : Looked) → ckpt % 512 ≡ 0 → m < most → EndsInTail old old.five ckpt n m
    → TailBlocksGo ckpt m most start old new old.five new.five new.four → Drops n most ckpt start (source_of old) (source_of new)
blocks-drop_five ckpt n m most start old new aligned few ends goes =
    tail-drop ckpt n m most start old new old.five new.five new.four ends goes
    (five-kept (lsn_at ckpt m) old new (goes.place m few) ends.last goes.other goes.tail_may)
    (λ i within apart. gone-or-same (lsn_at ckpt i) old new (goes.place i within)
    (unsealed-tail (lsn_at ckpt i) new.four goes.other)
    (may-tail (lsn_at ckpt i) old.five new.five goes.tail_may (other-lsn ckpt m i old old.five aligned ends.last apart)))
