-- The pages of an archive as they are written, one after another.
use Rattle.std.proofs.Common.{◌≡◌, ◌≤◌, ◌<◌, ◌+◌, ◌*◌, ℕ, zero, suc, List, [], ◌∷◌, ◌++◌, length, take, drop, Option, Some, IfSome, sym, ap, ◌∙◌, length-append, length-take-le, append_assoc, add-one, arith}
use Rattle.std.proofs.Math.Nat.{mul-le-mul_right, suc-mul}
use Rattle.std.specs.List.{slice_get}
use Rattle.std.proofs.lemmas.List.{append-nil, drop-drop, drop_at, take-append-drop, take_at}
use Rattle.model_base.specs.{IsWithinLimits, overwritten}
use Rattle.model_base.specs.declared.shape.Shape.{Shape}
use Rattle.model_device.specs.{synced, written, Disk}
use Rattle.model_device.proofs.Overwritten.{length-overwritten}
use Rattle.model_page.specs.{page_text}
use Rattle.model_page.specs.declared.content.Content.{Content}
use Rattle.model_archive.specs.{base_text, pages_end}
use Rattle.redo_disk.specs.{HasSize, OnTold, write_at}
use Rattle.redo_disk.proofs.Told.{OnTold-then, OnTold-weaker, told-step}

-- one write after another, the second where the first ends
overwritten-then : (at : ℕ) (xs ys old : List ℕ) → at + length xs + length ys ≤ length old
    → overwritten (at + length xs) ys (overwritten at xs old) ≡ overwritten at (xs ++ ys) old
overwritten-then at xs ys old fits =
    let front : List ℕ = take at old in
    let back : List ℕ = drop (at + length xs) old in
    let long : length (front ++ xs) ≡ at + length xs =
    length-append front xs ∙ ap (λ n. n + length xs) (length-take-le at old (omega (arith, fits))) in
    let before : take (at + length xs) (overwritten at xs old) ≡ front ++ xs =
    take_at (front ++ xs) back (at + length xs) long in
    let rest : drop (at + length xs + length ys) (overwritten at xs old) ≡ drop (at + length (xs ++ ys)) old =
    ap (λ n. drop n (overwritten at xs old)) (omega arith)
    ∙ sym (drop-drop (length ys) (at + length xs) (overwritten at xs old))
    ∙ ap (drop (length ys)) (drop_at (front ++ xs) back (at + length xs) long)
    ∙ drop-drop (length ys) (at + length xs) old ∙ ap (λ n. drop n old) (omega (arith, length-append xs ys)) in
    ap (λ (bytes : List ℕ). (bytes ++ ys) ++ drop (at + length xs + length ys) (overwritten at xs old)) before
    ∙ ap (λ (bytes : List ℕ). ((front ++ xs) ++ ys) ++ bytes) rest
    ∙ ap (λ (bytes : List ℕ). bytes ++ drop (at + length (xs ++ ys)) old) (append_assoc front xs ys)

-- no bytes overwrite nothing
pub overwritten-none : (at : ℕ) (old : List ℕ) → overwritten at [] old ≡ old
overwritten-none at old =
    let same : at + length {A = ℕ} [] ≡ at = omega arith in
    ap (λ (bytes : List ℕ). bytes ++ drop (at + length {A = ℕ} []) old) (append-nil (take at old))
    ∙ ap (λ n. take at old ++ drop n old) same ∙ take-append-drop at old

text-push : (n space : ℕ) (pages : List Content) (i : ℕ) (page : Content) → slice_get pages i ≡ Some page
    → base_text n space (take (suc i) pages)
    ≡ base_text n space (take i pages) ++ page_text (n + i) space page.lsn page.user
text-push n space [] i page at = absurd cc
text-push n space (first ∷ pages) zero page at =
    let same : first ≡ page = cc in
    let place : n ≡ n + 0 = omega arith in
    append-nil (page_text n space first.lsn first.user)
    ∙ ap (λ (c : Content). page_text n space c.lsn c.user) same ∙ ap (λ k. page_text k space page.lsn page.user) place
text-push n space (first ∷ pages) (suc i) page at =
    let place : n + 1 + i ≡ n + suc i = omega arith in
    let front : List ℕ = page_text n space first.lsn first.user in
    ap (λ l. front ++ l) (text-push (n + 1) space pages i page at)
    ∙ sym (append_assoc front (base_text (n + 1) space (take i pages)) (page_text (n + 1 + i) space page.lsn page.user))
    ∙ ap (λ k. (front ++ base_text (n + 1) space (take i pages)) ++ page_text k space page.lsn page.user) place

-- what reads give once the first so many pages are written
pub record AreWritten (shape : Shape) (pages : List Content) (count : ℕ) (old new : Disk) : Type 0 where
  pub long : length (base_text 0 shape.space (take count pages)) ≡ count * shape.page_size
  pub reads : new.reads ≡ overwritten 1536 (base_text 0 shape.space (take count pages)) old.reads

pub written-next : (shape : Shape) (pages : List Content) (p at : ℕ) (page : Content) (text : List ℕ)
    (old middle new : Disk)
    → IsWithinLimits shape → p < shape.pages → slice_get pages p ≡ Some page → at ≡ 1536 + p * shape.page_size
    → text ≡ page_text p shape.space page.lsn page.user → length text ≡ shape.page_size
    → pages_end shape ≤ length old.reads → new.reads ≡ overwritten at text middle.reads
    → AreWritten shape pages p old middle → AreWritten shape pages (p + 1) old new
written-next shape pages p at page text old middle new limits below there at_is text_is long room is so_far =
    let size : ℕ = shape.page_size in
    let front : List ℕ = base_text 0 shape.space (take p pages) in
    let pushed : base_text 0 shape.space (take (p + 1) pages) ≡ front ++ text =
    ap (λ n. base_text 0 shape.space (take n pages)) (add-one p) ∙ text-push 0 shape.space pages p page there
    ∙ ap (λ n. front ++ page_text n shape.space page.lsn page.user) (omega arith)
    ∙ ap (λ (bytes : List ℕ). front ++ bytes) (sym text_is) in
    let row : (p + 1) * size ≡ p * size + size = ap (λ (k : ℕ). k * size) (add-one p) ∙ suc-mul p size in
    let most : (p + 1) * size ≤ shape.pages * size = mul-le-mul_right size (omega (arith, below)) in
    let fits : 1536 + length front + length text ≤ length old.reads =
    omega (arith, so_far.long, long, row, most, room) in
    record {
      long = ap length pushed ∙ length-append front text ∙ omega (arith, so_far.long, long, row);
      reads = is ∙ ap (λ n. overwritten n text middle.reads) (at_is ∙ ap (λ n. 1536 + n) (sym so_far.long))
          ∙ ap (overwritten (1536 + length front) text) so_far.reads
          ∙ overwritten-then 1536 front text old.reads fits
          ∙ ap (λ (bytes : List ℕ). overwritten 1536 bytes old.reads) (sym pushed);
    }

pub written-none : (shape : Shape) (pages : List Content) (disk : Disk) → AreWritten shape pages 0 disk disk
written-none shape pages disk = record {
  long = omega arith;
  reads = sym (overwritten-none 1536 disk.reads);
}

pub written-told : (old middle new : Option Disk) (shape : Shape) (pages : List Content) (p at size : ℕ)
    (page : Content)
    (text : List ℕ) → IsWithinLimits shape → p < shape.pages → slice_get pages p ≡ Some page
    → at ≡ 1536 + p * shape.page_size → text ≡ page_text p shape.space page.lsn page.user
    → length text ≡ shape.page_size → pages_end shape ≤ size → IfSome old (HasSize size)
    → OnTold old middle (AreWritten shape pages p)
    → OnTold middle new (λ before after. after ≡ written before (write_at at text))
    → OnTold old new (AreWritten shape pages (p + 1))
written-told old middle new shape pages p at size page text limits below there at_is text_is long room sized first
    second =
    let Next : Disk → Disk → Type 0 = λ a c. HasSize size a → AreWritten shape pages (p + 1) a c in
    let both : OnTold old new Next =
    OnTold-then old middle new (AreWritten shape pages p)
    (λ before after. after ≡ written before (write_at at text))
    Next (λ a b c so_far is known.
    let fits : pages_end shape ≤ length a.reads = omega (arith, known.reads, room) in
    written-next shape pages p at page text a b c limits below there at_is text_is long fits
    (ap (λ (d : Disk). d.reads) is) so_far) first second in
    OnTold-weaker old new (HasSize size) Next (AreWritten shape pages (p + 1)) (λ a c known next. next known) sized both

-- a device whose header was zeroed is as long as before
pub sized-zeroed : (old new : Option Disk) (size size_now : ℕ) (zeros : List ℕ) → length zeros ≤ size → size_now ≡ size
    → IfSome old (HasSize size) → OnTold old new (λ before after. after ≡ synced (written before (write_at 0 zeros)))
    → IfSome new (HasSize size_now)
sized-zeroed old new size size_now zeros fits same sized told =
    told-step old new (HasSize size) (HasSize size_now)
    (λ before after. after ≡ synced (written before (write_at 0 zeros)))
    (λ a b known is.
    let long : length (overwritten 0 zeros a.reads) ≡ size_now =
    length-overwritten 0 zeros a.reads (omega (arith, known.reads, fits)) ∙ known.reads ∙ sym same in
    record { base = ap (λ (d : Disk). length d.base) is ∙ long; reads = ap (λ (d : Disk). length d.reads) is ∙ long })
    sized told
