-- What a stretch of page size holds after writes that go round it or over all of it, and what a fair image has there.
use Rattle.std.proofs.Common.{◌≡◌, ◌≢◌, ◌≤◌, ◌<◌, ◌+◌, ◌-◌, ◌*◌, ◌/◌, ◌%◌, ◌⊎◌, ℕ, zero, suc, inl, inr, List, [], ◌∷◌, length, take, drop, get_or, refl, sym, ap, subst, ◌∙◌, ⊎_elim, length-take, length-drop, arith}
use Rattle.std.proofs.lemmas.List.{same_lists, get_or-take, get_or-drop}
use Rattle.model_base.proofs.ShapeLimits.{page_size_facts}
use Rattle.model_base.specs.{IsPageSize}
use Rattle.model_base.specs.declared.shape.Shape.{Shape}
use Rattle.model_page.specs.{page_check, stretch_at}
use Rattle.model_page.specs.declared.page.PageState.{PageState}
use Rattle.model_page.specs.declared.page.PageState.TheVariants.{Blank, Sound, Broken}
use Rattle.model_device.specs.{after_write, after_writes, IsCovered, IsImage, sector, Disk}
use Rattle.model_device.specs.declared.write.Write.{Write}
use Rattle.model_device.proofs.Overwritten.{length-overwritten, part-overwritten_before, part-overwritten_behind, part-overwritten_inside}
use Rattle.model_store.specs.{IsFair, IsWholeContent}
use Rattle.model_parts.proofs.Rows.{row-sector}

-- so many bytes from an offset on
abbrev pub piece : ℕ → ℕ → List ℕ → List ℕ
piece size o bytes = take size (drop o bytes)

-- the write, on a device of that length, touches no byte of the stretch
pub record IsApart (size o long : ℕ) (write : Write) : Type 0 where
  pub within : write.at + length write.bytes ≤ long
  pub beside : (o + size ≤ write.at) ⊎ (write.at + length write.bytes ≤ o)

-- the write makes the stretch these bytes
pub record IsPut (size o long : ℕ) (text : List ℕ) (write : Write) : Type 0 where
  pub within : write.at + length write.bytes ≤ long
  pub from : write.at ≤ o
  pub up_to : o + size ≤ write.at + length write.bytes
  pub same : take size (drop (o - write.at) write.bytes) ≡ text

abbrev pub AreApart : ℕ → ℕ → ℕ → List Write → Type 0
AreApart size o long [] = Unit {0}
AreApart size o long (write ∷ writes) = IsApart size o long write × AreApart size o long writes

-- each write leaves the stretch alone, or makes it these bytes
abbrev pub ArePut : ℕ → ℕ → ℕ → List ℕ → List Write → Type 0
ArePut size o long text [] = Unit {0}
ArePut size o long text (write ∷ writes) = (IsApart size o long write ⊎ IsPut size o long text write) × ArePut size o long text writes

-- one of the writes makes the stretch these bytes
abbrev pub HasPut : ℕ → ℕ → ℕ → List ℕ → List Write → Type 0
HasPut size o long text [] = ⊥
HasPut size o long text (write ∷ writes) = IsPut size o long text write ⊎ HasPut size o long text writes

piece-apart : (size o : ℕ) (bytes : List ℕ) (write : Write) → IsApart size o (length bytes) write
    → piece size o (after_write bytes write) ≡ piece size o bytes
piece-apart size o bytes write apart =
    ⊎_elim (λ before. part-overwritten_before size o write.at write.bytes bytes (omega arith) apart.within)
    (λ behind. part-overwritten_behind size o write.at write.bytes bytes behind apart.within) apart.beside

piece-put : (size o : ℕ) (bytes text : List ℕ) (write : Write) → IsPut size o (length bytes) text write
    → piece size o (after_write bytes write) ≡ text
piece-put size o bytes text write put =
    part-overwritten_inside size o write.at write.bytes bytes put.from put.up_to put.within ∙ put.same

within-apart : (size o long : ℕ) (text : List ℕ) (write : Write)
    → IsApart size o long write ⊎ IsPut size o long text write → write.at + length write.bytes ≤ long
within-apart size o long text write is = ⊎_elim (λ apart. apart.within) (λ put. put.within) is

pub apart-put : (size o long : ℕ) (text : List ℕ) (writes : List Write) → AreApart size o long writes
    → ArePut size o long text writes
apart-put size o long text [] are = tt
apart-put size o long text (write ∷ writes) are = (inl are.0, apart-put size o long text writes are.1)

pub take-apart : (size o long n : ℕ) (writes : List Write) → AreApart size o long writes
    → AreApart size o long (take n writes)
take-apart size o long zero writes are = tt
take-apart size o long (suc n) [] are = tt
take-apart size o long (suc n) (write ∷ writes) are = (are.0, take-apart size o long n writes are.1)

pub take-put : (size o long n : ℕ) (text : List ℕ) (writes : List Write) → ArePut size o long text writes
    → ArePut size o long text (take n writes)
take-put size o long zero text writes are = tt
take-put size o long (suc n) text [] are = tt
take-put size o long (suc n) text (write ∷ writes) are = (are.0, take-put size o long n text writes are.1)

pub pieces-apart : (size o : ℕ) (bytes : List ℕ) (writes : List Write) (long : ℕ) → long ≡ length bytes
    → AreApart size o long writes → piece size o (after_writes bytes writes) ≡ piece size o bytes
pieces-apart size o bytes [] long is are = refl
pieces-apart size o bytes (write ∷ writes) long is are =
    let here : IsApart size o (length bytes) write = subst (λ (n : ℕ). IsApart size o n write) is are.0 in
    pieces-apart size o (after_write bytes write) writes long (is ∙ sym (length-overwritten write.at write.bytes bytes here.within)) are.1
    ∙ piece-apart size o bytes write here

pub pieces-put : (size o : ℕ) (bytes text : List ℕ) (writes : List Write) (long : ℕ) → long ≡ length bytes
    → ArePut size o long text writes
    → (piece size o (after_writes bytes writes) ≡ piece size o bytes) ⊎ (piece size o (after_writes bytes writes) ≡ text)
pieces-put size o bytes text [] long is are = inl refl
pieces-put size o bytes text (write ∷ writes) long is are =
    let within : write.at + length write.bytes ≤ length bytes = subst (λ (n : ℕ). write.at + length write.bytes ≤ n) is (within-apart size o long text write are.0) in
    let rest : (piece size o (after_writes (after_write bytes write) writes) ≡ piece size o (after_write bytes write)) ⊎ (piece size o (after_writes (after_write bytes write) writes) ≡ text) =
    pieces-put size o (after_write bytes write) text writes long (is ∙ sym (length-overwritten write.at write.bytes bytes within)) are.1 in
    ⊎_elim (λ old. ⊎_elim (λ apart. inl (old ∙ piece-apart size o bytes write (subst (λ (n : ℕ). IsApart size o n write) is apart)))
    (λ put. inr (old ∙ piece-put size o bytes text write (subst (λ (n : ℕ). IsPut size o n text write) is put))) are.0)
    (λ new. inr new) rest

pub pieces-has : (size o : ℕ) (bytes text : List ℕ) (writes : List Write) (long : ℕ) → long ≡ length bytes
    → ArePut size o long text writes
    → HasPut size o long text writes ⊎ (piece size o bytes ≡ text) → piece size o (after_writes bytes writes) ≡ text
pieces-has size o bytes text [] long is are has = ⊎_elim (λ none. absurd none) (λ already. already) has
pieces-has size o bytes text (write ∷ writes) long is are has =
    let within : write.at + length write.bytes ≤ length bytes = subst (λ (n : ℕ). write.at + length write.bytes ≤ n) is (within-apart size o long text write are.0) in
    let put : IsPut size o long text write → HasPut size o long text writes ⊎ (piece size o (after_write bytes write) ≡ text) =
    λ here. inr (piece-put size o bytes text write (subst (λ (n : ℕ). IsPut size o n text write) is here)) in
    pieces-has size o (after_write bytes write) text writes long (is ∙ sym (length-overwritten write.at write.bytes bytes within)) are.1
    (⊎_elim (λ some. ⊎_elim put (λ later. inl later) some)
    (λ already. ⊎_elim (λ apart. inr (piece-apart size o bytes write (subst (λ (n : ℕ). IsApart size o n write) is apart) ∙ already)) put are.0) has)

pub length-after : (size o : ℕ) (bytes text : List ℕ) (writes : List Write) (long : ℕ) → long ≡ length bytes
    → ArePut size o long text writes → length (after_writes bytes writes) ≡ length bytes
length-after size o bytes text [] long is are = refl
length-after size o bytes text (write ∷ writes) long is are =
    let within : write.at + length write.bytes ≤ length bytes = subst (λ (n : ℕ). write.at + length write.bytes ≤ n) is (within-apart size o long text write are.0) in
    let same : length (after_write bytes write) ≡ length bytes = length-overwritten write.at write.bytes bytes within in
    length-after size o (after_write bytes write) text writes long (is ∙ sym same) are.1 ∙ same

piece-sectors : (size o : ℕ) (xs ys : List ℕ) → length xs ≡ length ys → o % 512 ≡ 0
    → ((k : ℕ) → o ≤ 512 * k → 512 * k < o + size → 512 * k < length ys → sector k xs ≡ sector k ys)
    → piece size o xs ≡ piece size o ys
piece-sectors size o xs ys same aligned each =
    same_lists (piece size o xs) (piece size o ys) (omega (arith, length-take size (drop o xs), length-take size (drop o ys), length-drop o xs, length-drop o ys)) (λ i d inside.
    let below : i < size = omega (arith, length-take size (drop o xs)) in
    let short : o + i < length ys = omega (arith, length-take size (drop o xs), length-drop o xs) in
    let k = (o + i) / 512 in
    let r = (o + i) % 512 in
    let split : 512 * k + r ≡ o + i = omega arith in
    let small : r < 512 = omega arith in
    let here : (zs : List ℕ) → get_or (piece size o zs) i d ≡ get_or (sector k zs) r d = λ zs.
    get_or-take size (drop o zs) i d below ∙ get_or-drop o zs i d ∙ ap (λ n. get_or zs n d) (sym split)
    ∙ sym (get_or-drop (512 * k) zs r d) ∙ sym (get_or-take 512 (drop (512 * k) zs) r d small) in
    here xs ∙ ap (λ s. get_or s r d) (each k (omega arith) (omega arith) (omega arith)) ∙ sym (here ys))

not-covered : (size o long k : ℕ) (writes : List Write) → AreApart size o long writes → o ≤ 512 * k → 512 * k < o + size
    → IsCovered writes k → ⊥
not-covered size o long k [] are from below is = is
not-covered size o long k (write ∷ writes) are from below is =
    ⊎_elim (λ here. ⊎_elim (λ before. absurd (omega (arith, here.from))) (λ behind. absurd (omega (arith, here.from, here.up_to))) are.0.beside)
    (λ there. not-covered size o long k writes are.1 from below there) is

pub image-apart : (size o : ℕ) (disk : Disk) (image : List ℕ) → o % 512 ≡ 0
    → AreApart size o (length disk.base) disk.writes → IsImage disk image → piece size o image ≡ piece size o disk.base
image-apart size o disk image aligned are is =
    piece-sectors size o image disk.base is.same_length aligned (λ k from below inside.
    ⊎_elim (λ base. base) (λ covered. absurd (not-covered size o (length disk.base) k disk.writes are from below covered)) (is.each k inside))

pub stretch-piece : (shape : Shape) (n : ℕ) (bytes : List ℕ)
    → stretch_at shape n bytes ≡ piece shape.page_size (n * shape.page_size) bytes
unfolding stretch_at
stretch-piece shape n bytes = refl

broken-or : (state : PageState) → (state ≡ Broken) ⊎ (state ≢ Broken)
broken-or Blank = inr (λ is. absurd cc)
broken-or (Sound number space lsn) = inr (λ is. absurd cc)
broken-or Broken = inl refl

pub fair-apart : (shape : Shape) (n : ℕ) (disk : Disk) (image : List ℕ) → IsPageSize shape.page_size
    → AreApart shape.page_size (n * shape.page_size) (length disk.base) disk.writes → IsImage disk image
    → stretch_at shape n image ≡ stretch_at shape n disk.base
fair-apart shape n disk image size are is =
    stretch-piece shape n image
    ∙ image-apart shape.page_size (n * shape.page_size) disk image
    (row-sector n shape.page_size (page_size_facts shape.page_size size).sectors) are is
    ∙ sym (stretch-piece shape n disk.base)

pub fair-put : (shape : Shape) (n : ℕ) (disk : Disk) (image text : List ℕ) → n < shape.slots + shape.pages
    → ArePut shape.page_size (n * shape.page_size) (length disk.base) text disk.writes → IsFair shape disk image
    → (page_check (stretch_at shape n image) ≡ Broken)
    ⊎ (stretch_at shape n image ≡ stretch_at shape n disk.base) ⊎ (stretch_at shape n image ≡ text)
fair-put shape n disk image text below are fair =
    ⊎_elim (λ broken. inl broken) (λ whole.
    let content : IsWholeContent shape disk n (stretch_at shape n image) = fair.each n below whole in
    let after : List ℕ = after_writes disk.base (take content.count disk.writes) in
    let to_piece : stretch_at shape n image ≡ piece shape.page_size (n * shape.page_size) after =
    content.same ∙ stretch-piece shape n after in
    ⊎_elim (λ old. inr (inl (to_piece ∙ old ∙ sym (stretch-piece shape n disk.base)))) (λ new. inr (inr (to_piece ∙ new)))
    (pieces-put shape.page_size (n * shape.page_size) disk.base text (take content.count disk.writes) (length disk.base)
    refl (take-put shape.page_size (n * shape.page_size) (length disk.base) content.count text disk.writes are)))
    (broken-or (page_check (stretch_at shape n image)))
