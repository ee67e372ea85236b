-- The two header blocks of a log device that is at rest, made alike.
use Rattle.std.proofs.Common.{◌≡◌, ◌≤◌, ℕ, inr, true, cond, List, take, drop, refl, sym, ap, subst, ◌∙◌, ⊎_elim, arith}
use Rattle.std.specs.Prelude.{Result, Ok}
use Rattle.std.proofs.lemmas.Bool.{cases_Bool}
use Rattle.std.proofs.lemmas.Result.{on_ok_weaker}
use Rattle.std.proofs.lemmas.List.{drop-take, take-take}
use Rattle.model_base.specs.declared.shape.Shape.{Shape}
use Rattle.model_device.specs.{sector, Disk}
use Rattle.model_log.specs.{fits_checksum, head_of, read_head, sector_at}
use Rattle.model_log.specs.declared.head.Format.{Format}
use Rattle.model_log.specs.declared.head.Head.TheVariants.{Good, Unformatted}
use Rattle.model_parts.specs.{IsPut, IsPutting, IsUnsealed, KeepsHead}
use Rattle.model_parts.proofs.Reread.{same-head_of}
use Rattle.model_parts.proofs.Unread.{unsealed-head}
use Rattle.redo_disk.specs.{Seen}
use Rattle.redo_disk.specs.declared.error.DevError.{DevError}
use Rattle.redo_disk.proofs.Told.{told-as, told-same}
use Rattle.redo_open.specs.Put.{AlikeStep, HasAlike, HaveHeads, KeepsHeads, HasPut, IsAtRestTo, PutsBlock, PutStep}
use Rattle.redo_open.proofs.Rests.{reads-settled, rests-settled}

-- WHAT WAS READ.

first-is : (heads content : List ℕ) → heads ≡ take 1536 (drop 0 content) → sector_at 0 heads ≡ sector 0 content
first-is heads content is = ap (λ (bytes : List ℕ). take 512 (drop 0 bytes)) is ∙ take-take 512 1536 content (omega arith)

second-is : (heads content : List ℕ) → heads ≡ take 1536 (drop 0 content) → sector_at 1024 heads ≡ sector 2 content
second-is heads content is =
    ap (λ (bytes : List ℕ). take 512 (drop 1024 bytes)) is
    ∙ ap (take 512) (drop-take 1024 512 content) ∙ take-take 512 512 (drop 1024 content) (omega arith)

-- WHAT THE HEADER SAYS.

-- a first block whose checksum fits says it alone
first-says : (bytes : List ℕ) → fits_checksum (sector 0 bytes) ≡ true → head_of bytes ≡ read_head (sector 0 bytes)
first-says bytes sealed = ap (λ t. cond t (read_head (sector 0 bytes)) (read_head (sector 2 bytes))) sealed

-- where it fails the second one does
second-says : (bytes : List ℕ) → IsUnsealed (sector 0 bytes) → head_of bytes ≡ read_head (sector 2 bytes)
second-says bytes broken = ap (λ t. cond t (read_head (sector 0 bytes)) (read_head (sector 2 bytes))) broken

both-say : (bytes : List ℕ) → sector 0 bytes ≡ sector 2 bytes → head_of bytes ≡ read_head (sector 2 bytes)
both-say bytes same = ⊎_elim (λ sealed. first-says bytes sealed ∙ ap read_head same) (λ broken. second-says bytes broken) (cases_Bool (fits_checksum (sector 0 bytes)))

kept-here : (content : List ℕ) → KeepsHead content content
kept-here content = record { same_length = refl; head = refl; others = λ k zero two. refl }

-- while the second block is put, as the first one has it
second-keeps : (content image : List ℕ) → fits_checksum (sector 0 content) ≡ true → IsPutting 2 (sector 0 content) content image → KeepsHead content image
second-keeps content image sealed putting =
    let zero : sector 0 image ≡ sector 0 content = putting.others 0 (λ same. omega arith) in
    record {
      same_length = putting.same_length;
      head = first-says image (ap fits_checksum zero ∙ sealed) ∙ ap read_head zero ∙ sym (first-says content sealed);
      others = λ k not_zero not_two. putting.others k not_two;
    }

-- while the first one is, as the second one has it
first-keeps : (content image : List ℕ) → IsUnsealed (sector 0 content) → IsPutting 0 (sector 2 content) content image → KeepsHead content image
first-keeps content image broken putting =
    let two : sector 2 image ≡ sector 2 content = putting.others 2 (λ same. omega arith) in
    let was : head_of content ≡ read_head (sector 2 content) = second-says content broken in
    record {
      same_length = putting.same_length;
      head = ⊎_elim (λ same. same-head_of content image same two)
          (λ rest. ⊎_elim (λ gone. second-says image gone ∙ ap read_head two ∙ sym was)
          (λ full. both-say image (full ∙ sym two) ∙ ap read_head two ∙ sym was) rest) putting.at;
      others = λ k not_zero not_two. putting.others k not_zero;
    }

is-putting : (k : ℕ) (bytes content image : List ℕ) → IsPut k bytes content image → IsPutting k bytes content image
is-putting k bytes content image put = record { same_length = put.same_length; at = inr (inr put.at); others = put.others }

-- THE STEP.

pub alike-already : (format : Format) (shape : Shape) (heads : List ℕ) (old : Seen) (done : Unit {0}) → sector_at 0 heads ≡ sector_at 1024 heads → AlikeStep format shape heads old (Ok done) old
alike-already format shape heads old done same = record {
  keeps = told-same old.tells old.tells (λ before after. HaveHeads format shape heads before → KeepsHeads before.reads after)
      (λ disk have image fair. subst (KeepsHead disk.reads) (sym (have.rests.rests.one_image image fair.possible)) (kept-here disk.reads)) refl;
  ok = told-same old.tells old.tells (λ before after. HaveHeads format shape heads before → HasAlike before.reads after)
      (λ disk have. record {
        rests = have.rests.rests;
        kept = kept-here disk.reads;
        alike = sym (second-is heads disk.reads have.front) ∙ sym same ∙ first-is heads disk.reads have.front;
      }) refl;
  size = refl;
  cause = record { later = omega arith; failed = λ is. absurd cc };
}

put-rests : (end : ℕ) (disk : Disk) → end ≤ 1536 → IsAtRestTo 1536 disk → IsAtRestTo end disk
put-rests end disk less rests = record { rests = rests.rests; long = omega (arith, rests.long) }

-- a header of a store is no block whose checksum fails
says-sealed : (format : Format) (shape : Shape) (bytes : List ℕ) → read_head bytes ≡ Good format shape → fits_checksum bytes ≡ true
says-sealed format shape bytes says =
    ⊎_elim (λ sealed. sealed)
    (λ broken. (let other : Good format shape ≡ Unformatted = sym says ∙ unsealed-head bytes broken in cc))
    (cases_Bool (fits_checksum bytes))

-- what the code finds of the first block, on a device whose header says this
first-sealed : (format : Format) (shape : Shape) (heads : List ℕ) (disk : Disk) → read_head (sector_at 0 heads) ≡ Good format shape → HaveHeads format shape heads disk
    → fits_checksum (sector 0 disk.reads) ≡ true
first-sealed format shape heads disk says have =
    sym (ap fits_checksum (first-is heads disk.reads have.front)) ∙ says-sealed format shape (sector_at 0 heads) says

-- a first block that doesn't say it fails its checksum
first-broken : (format : Format) (shape : Shape) (heads : List ℕ) (disk : Disk) → (read_head (sector_at 0 heads) ≡ Good format shape → ⊥) → HaveHeads format shape heads disk → IsUnsealed (sector 0 disk.reads)
first-broken format shape heads disk apart have =
    ⊎_elim (λ sealed. absurd (apart (ap read_head (first-is heads disk.reads have.front) ∙ sym (first-says disk.reads sealed) ∙ have.says)))
    (λ broken. broken) (cases_Bool (fits_checksum (sector 0 disk.reads)))

-- and then the second one says it
one-says : (format : Format) (shape : Shape) (heads : List ℕ) (disk : Disk) → (read_head (sector_at 0 heads) ≡ Good format shape → ⊥) → HaveHeads format shape heads disk → read_head (sector_at 1024 heads) ≡ Good format shape
one-says format shape heads disk apart have =
    ap read_head (second-is heads disk.reads have.front) ∙ sym (second-says disk.reads (first-broken format shape heads disk apart have)) ∙ have.says

-- where neither says it there is no such device
pub alike-neither : (format : Format) (shape : Shape) (heads : List ℕ) (old : Seen) (done : Unit {0}) → (read_head (sector_at 0 heads) ≡ Good format shape → ⊥) → (read_head (sector_at 1024 heads) ≡ Good format shape → ⊥)
    → AlikeStep format shape heads old (Ok done) old
alike-neither format shape heads old done first second = record {
  keeps = told-same old.tells old.tells (λ before after. HaveHeads format shape heads before → KeepsHeads before.reads after)
      (λ disk have. absurd (second (one-says format shape heads disk first have))) refl;
  ok = told-same old.tells old.tells (λ before after. HaveHeads format shape heads before → HasAlike before.reads after)
      (λ disk have. absurd (second (one-says format shape heads disk first have))) refl;
  size = refl;
  cause = record { later = omega arith; failed = λ is. absurd cc };
}

second-put : (format : Format) (shape : Shape) (heads : List ℕ) (before after : Disk) → read_head (sector_at 0 heads) ≡ Good format shape → HaveHeads format shape heads before → (IsAtRestTo 1536 before → HasPut 2 (sector_at 0 heads) before.reads after)
    → HasAlike before.reads after
second-put format shape heads before after says have puts =
    let put : HasPut 2 (sector_at 0 heads) before.reads after = puts have.rests in
    let first : sector_at 0 heads ≡ sector 0 before.reads = first-is heads before.reads have.front in
    let own : IsPut 2 (sector 0 before.reads) before.reads after.reads =
    subst (λ (bytes : List ℕ). IsPut 2 (sector 0 before.reads) before.reads bytes) (sym (reads-settled after put.nothing_pending))
    (subst (λ (bytes : List ℕ). IsPut 2 bytes before.reads after.base) first put.put) in
    record {
      rests = rests-settled after put.nothing_pending;
      kept = second-keeps before.reads after.reads (first-sealed format shape heads before says have) (is-putting 2 (sector 0 before.reads) before.reads after.reads own);
      alike = own.at ∙ sym (own.others 0 (λ same. omega arith));
    }

first-put : (format : Format) (shape : Shape) (heads : List ℕ) (before after : Disk) → (read_head (sector_at 0 heads) ≡ Good format shape → ⊥) → HaveHeads format shape heads before → (IsAtRestTo 512 before → HasPut 0 (sector_at 1024 heads) before.reads after)
    → HasAlike before.reads after
first-put format shape heads before after apart have puts =
    let put : HasPut 0 (sector_at 1024 heads) before.reads after = puts (put-rests 512 before (omega arith) have.rests) in
    let second : sector_at 1024 heads ≡ sector 2 before.reads = second-is heads before.reads have.front in
    let own : IsPut 0 (sector 2 before.reads) before.reads after.reads =
    subst (λ (bytes : List ℕ). IsPut 0 (sector 2 before.reads) before.reads bytes) (sym (reads-settled after put.nothing_pending))
    (subst (λ (bytes : List ℕ). IsPut 0 bytes before.reads after.base) second put.put) in
    record {
      rests = rests-settled after put.nothing_pending;
      kept = first-keeps before.reads after.reads (first-broken format shape heads before apart have) (is-putting 0 (sector 2 before.reads) before.reads after.reads own);
      alike = own.others 2 (λ same. omega arith) ∙ sym own.at;
    }

pub alike-second : (format : Format) (shape : Shape) (heads : List ℕ) (old : Seen) (result : Result (Unit {0}) DevError) (new : Seen) → read_head (sector_at 0 heads) ≡ Good format shape
    → PutStep 2 (sector_at 0 heads) old result new → AlikeStep format shape heads old result new
alike-second format shape heads old result new says step = record {
  keeps = told-as old.tells new.tells (λ before after. IsAtRestTo 1536 before → PutsBlock 2 (sector_at 0 heads) before.reads after)
      (λ before after. HaveHeads format shape heads before → KeepsHeads before.reads after)
      (λ before after puts have image fair. (
      let first : sector_at 0 heads ≡ sector 0 before.reads = first-is heads before.reads have.front in
      second-keeps before.reads image (first-sealed format shape heads before says have)
      (subst (λ (bytes : List ℕ). IsPutting 2 bytes before.reads image) first (puts have.rests image fair)))) step.keeps;
  ok = on_ok_weaker result (told-as old.tells new.tells (λ before after. IsAtRestTo 1536 before → HasPut 2 (sector_at 0 heads) before.reads after)
      (λ before after. HaveHeads format shape heads before → HasAlike before.reads after) (λ before after puts have. second-put format shape heads before after says have puts)) step.ok;
  size = step.size;
  cause = step.cause;
}

pub alike-first : (format : Format) (shape : Shape) (heads : List ℕ) (old : Seen) (result : Result (Unit {0}) DevError) (new : Seen) → (read_head (sector_at 0 heads) ≡ Good format shape → ⊥)
    → PutStep 0 (sector_at 1024 heads) old result new → AlikeStep format shape heads old result new
alike-first format shape heads old result new apart step = record {
  keeps = told-as old.tells new.tells (λ before after. IsAtRestTo 512 before → PutsBlock 0 (sector_at 1024 heads) before.reads after)
      (λ before after. HaveHeads format shape heads before → KeepsHeads before.reads after)
      (λ before after puts have image fair. (
      let second : sector_at 1024 heads ≡ sector 2 before.reads = second-is heads before.reads have.front in
      first-keeps before.reads image (first-broken format shape heads before apart have)
      (subst (λ (bytes : List ℕ). IsPutting 0 bytes before.reads image) second (puts (put-rests 512 before (omega arith) have.rests) image fair)))) step.keeps;
  ok = on_ok_weaker result (told-as old.tells new.tells (λ before after. IsAtRestTo 512 before → HasPut 0 (sector_at 1024 heads) before.reads after)
      (λ before after. HaveHeads format shape heads before → HasAlike before.reads after) (λ before after puts have. first-put format shape heads before after apart have puts)) step.ok;
  size = step.size;
  cause = step.cause;
}
