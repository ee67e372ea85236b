-- The blocks of an archive, one after another.
use Rattle.std.proofs.Common.{◌≡◌, ◌≤◌, ◌<◌, ◌+◌, ◌-◌, ◌*◌, ◌%◌, ℕ, zero, suc, min, true, false, List, [], ◌++◌, length, take, Option, Some, refl, sym, ap, subst, ◌∙◌, ⊎_elim, add-one, append_assoc, length-append, length-take, arith}
use Rattle.std.proofs.lemmas.Bool.{cases_lt}
use Rattle.std.proofs.lemmas.List.{append-nil, take-append-le, take_all, take_min}
use Rattle.std.proofs.Math.Seq.{take-append-add}
use Rattle.model_device.specs.{Disk}
use Rattle.model_log.specs.declared.block.BlockView.{BlockView}
use Rattle.model_log.specs.{block_of, data_of, length_at, read_block, sector_at, sn_of}
use Rattle.model_page.specs.declared.content.Content.{Content}
use Rattle.model_store.specs.{bytes_of, Source, taken_from}
use Rattle.model_archive.specs.{archive_block, archive_length, archived_at, archived_bytes, block_count, block_lsn, BreaksAt, data_of_blocks, HasBadRecord, HasLongBlock, HasLongBlocks, IsFirstShort, pages_end}
use Rattle.model_archive.specs.declared.extent.Extent.{Extent}
use Rattle.model_archive.proofs.Images.{block-is, pages-sector}
use Rattle.redo_disk.specs.{Seen}
use Rattle.redo_archive.specs.Grouped.{Aim, AreRead, HasLsnRoom, IsApplied}
use Rattle.redo_archive.specs.Restoring.{aim_of, IsNoBlock, IsRestoredBy, IsSoundExtent}
use Rattle.redo_archive.specs.declared.groups.Groups.{Groups}
use Rattle.redo_recover.specs.Devices.{IsUnchanged, OnContent}
use Rattle.redo_recover.specs.Piece.{HasSector, IsPieceOf}
use Rattle.redo_recover.specs.declared.piece.Piece.{Piece}
use Rattle.redo_recover.proofs.Contents.{content-any, content-both, content-weaker}
use Rattle.redo_recover.proofs.Pieces.{piece-sector}
use Rattle.redo_recover.proofs.Unchanged.{content-after}

-- ONE BLOCK.

-- the sector that was read is the block's
pub block-read : (told : Option Disk) (extent : Extent) (i at : ℕ) (piece : Piece) (block : List ℕ)
    → at ≡ pages_end extent.shape + 512 * i → HasSector piece at
    → block ≡ sector_at (at - piece.from) piece.bytes.items → OnContent told (IsPieceOf piece)
    → OnContent told (λ image. block ≡ archive_block extent.shape extent.start (block_lsn extent i) image)
block-read told extent i at piece block at_is has is of =
    content-weaker told (IsPieceOf piece)
    (λ image. block ≡ archive_block extent.shape extent.start (block_lsn extent i) image)
    (λ image of_image. piece-sector image piece at block of_image has is
    ∙ ap (λ n. sector_at n image) at_is ∙ sym (block-is extent.shape extent.start i image)) of

block-data : (extent : Extent) (b : ℕ) (image block : List ℕ) (view : BlockView)
    → block ≡ archive_block extent.shape extent.start b image → read_block b block ≡ Some view
    → bytes_of (archived_at extent image b) ≡ data_of view block
block-data extent b image block view is read =
    ap (λ (x : List ℕ). bytes_of (taken_from x (read_block b x))) (sym is)
    ∙ ap (λ found. bytes_of (taken_from block found)) read

no-block : (extent : Extent) (b : ℕ) (image block : List ℕ)
    → block ≡ archive_block extent.shape extent.start b image → IsNoBlock extent.mark b block
    → HasLongBlock extent image b → ⊥
no-block extent b image block is none holds = none holds.view (ap (read_block b) is ∙ holds.read) holds.long

-- THE BLOCKS SO FAR.

-- how many bytes they have to give
abbrev pub byte_count : Extent → ℕ
byte_count extent = sn_of extent.mark - sn_of extent.start

-- the first so many hold what they have to, and give these bytes
pub record AreLongWith (extent : Extent) (i : ℕ) (bytes image : List ℕ) : Type 0 where
  pub blocks : HasLongBlocks extent image i
  pub bytes_are : bytes ≡ take (byte_count extent)
      (data_of_blocks (archived_at extent image) (block_of extent.start) i)

-- their groups were read, and so many bytes are left
pub record AreReadOf (extent : Extent) (lsn : ℕ) (pages : List Content) (i left : ℕ) (groups : Groups)
    (told : Option Disk) : Type 0 where
  pub bytes : List ℕ
  pub read : AreRead (aim_of extent lsn pages) bytes groups
  pub left_is : left ≡ byte_count extent - length bytes
  pub stand : OnContent told (AreLongWith extent i bytes)

pub blocks-none : (told : Option Disk) (extent : Extent) (lsn : ℕ) (pages : List Content) (left : ℕ) (groups : Groups)
    → left ≡ byte_count extent → AreRead (aim_of extent lsn pages) [] groups
    → AreReadOf extent lsn pages 0 left groups told
blocks-none told extent lsn pages left groups left_is read = record {
  bytes = [];
  read = read;
  left_is = omega (arith, left_is);
  stand = content-any told (AreLongWith extent 0 [])
      (λ image. record { blocks = λ i below. absurd (omega arith); bytes_are = sym (take-none (byte_count extent)) });
}
  where
    take-none : (n : ℕ) → take {A = ℕ} n [] ≡ []
    take-none zero = refl
    take-none (suc n) = refl

pub blocks-after : (old new : Seen) (extent : Extent) (lsn : ℕ) (pages : List Content) (i left : ℕ) (groups : Groups)
    → IsUnchanged old new → AreReadOf extent lsn pages i left groups old.tells
    → AreReadOf extent lsn pages i left groups new.tells
blocks-after old new extent lsn pages i left groups same are = record {
  bytes = are.bytes;
  read = are.read;
  left_is = are.left_is;
  stand = content-after old new (AreLongWith extent i are.bytes) same are.stand;
}

data-push : (source : Source) (b n : ℕ)
    → data_of_blocks source b (suc n) ≡ data_of_blocks source b n ++ bytes_of (source (b + 512 * n))
data-push source b zero =
    let here : b ≡ b + 512 * 0 = omega arith in
    append-nil (bytes_of (source b)) ∙ ap (λ k. bytes_of (source k)) here
data-push source b (suc n) =
    let place : b + 512 + 512 * n ≡ b + 512 * suc n = omega arith in
    ap (λ (x : List ℕ). bytes_of (source b) ++ x) (data-push source (b + 512) n)
    ∙ sym (append_assoc (bytes_of (source b)) (data_of_blocks source (b + 512) n)
    (bytes_of (source (b + 512 + 512 * n))))
    ∙ ap (λ k. (bytes_of (source b) ++ data_of_blocks source (b + 512) n) ++ bytes_of (source k)) place

-- of two lists joined the first so many are those of the one and then of the other
take-joined : (n : ℕ) (xs ys : List ℕ) → take n (xs ++ ys) ≡ take n xs ++ take (n - length (take n xs)) ys
take-joined n xs ys =
    ⊎_elim
    (λ short.
    let long : length (take n xs) ≡ n = omega (arith, length-take n xs) in
    let none : n - length (take n xs) ≡ 0 = omega arith in
    take-append-le n xs ys (omega arith) ∙ sym (append-nil (take n xs))
    ∙ ap (λ k. take n xs ++ take k ys) (sym none))
    (λ all.
    let whole : take n xs ≡ xs = take_all n xs all in
    let split : n ≡ length xs + (n - length xs) = omega arith in
    ap (λ k. take k (xs ++ ys)) split ∙ take-append-add xs ys (n - length xs)
    ∙ ap (λ (front : List ℕ). front ++ take (n - length front) ys) (sym whole)) (cases_lt n (length xs))

blocks-more : (extent : Extent) (image : List ℕ) (i : ℕ) → HasLongBlocks extent image i
    → HasLongBlock extent image (block_lsn extent i) → HasLongBlocks extent image (i + 1)
blocks-more extent image i holds next j below =
    ⊎_elim (λ less. holds j less)
    (λ not_less.
    let same : i ≡ j = omega arith in
    subst (λ (k : ℕ). HasLongBlock extent image (block_lsn extent k)) same next) (cases_lt j i)

-- what was read of a block, and what was taken of it
pub record IsBlockRead (extent : Extent) (i : ℕ) (view : BlockView) (block : List ℕ) : Type 0 where
  pub read : read_block (block_lsn extent i) block ≡ Some view
  pub long : length_at extent.mark (block_lsn extent i) ≤ view.length

pub blocks-next : (told : Option Disk) (extent : Extent) (lsn : ℕ) (pages : List Content) (i left : ℕ)
    (old new : Groups) (view : BlockView) (block cut : List ℕ) (count : ℕ) → IsBlockRead extent i view block
    → count ≡ min (length (data_of view block)) left → cut ≡ take count (data_of view block)
    → ((aim : Aim) (before : List ℕ) → aim.shape ≡ extent.shape → aim.lsn ≡ lsn → AreRead aim before old
    → AreRead aim (before ++ cut) new)
    → OnContent told (λ image. block ≡ archive_block extent.shape extent.start (block_lsn extent i) image)
    → AreReadOf extent lsn pages i left old told → AreReadOf extent lsn pages (i + 1) (left - count) new told
blocks-next told extent lsn pages i left old new view block cut count is count_is cut_is takes there are =
    let source : List ℕ → Source = archived_at extent in
    let n : ℕ = byte_count extent in
    let own : List ℕ = data_of view block in
    let taken : cut ≡ take (n - length are.bytes) own =
    cut_is ∙ ap (λ k. take k own) (count_is ∙ min-same (length own) left)
    ∙ take_min left own ∙ ap (λ k. take k own) are.left_is in
    record {
      bytes = are.bytes ++ cut;
      read = takes (aim_of extent lsn pages) are.bytes refl refl are.read;
      left_is =
          omega (arith, are.left_is, count_is, length-append are.bytes cut, ap length cut_is, length-take count own);
      stand = content-both told (AreLongWith extent i are.bytes) _ (AreLongWith extent (i + 1) (are.bytes ++ cut))
          (λ image so_far here.
          let data_is : bytes_of (source image (block_lsn extent i)) ≡ own =
          block-data extent (block_lsn extent i) image block view here is.read in
          let before : List ℕ = data_of_blocks (source image) (block_of extent.start) i in
          record {
            blocks = blocks-more extent image i so_far.blocks (record {
              view = view;
              read = ap (read_block (block_lsn extent i)) (sym here) ∙ is.read;
              long = is.long;
            });
            bytes_are = ap (λ (xs : List ℕ). are.bytes ++ xs) taken
                ∙ ap (λ (front : List ℕ). front ++ take (n - length front) own) so_far.bytes_are
                ∙ sym (take-joined n before own) ∙ ap (λ (xs : List ℕ). take n (before ++ xs)) (sym data_is)
                ∙ ap (take n) (sym (data-push (source image) (block_of extent.start) i))
                ∙ ap (λ k. take n (data_of_blocks (source image) (block_of extent.start) k)) (sym (add-one i));
          }) are.stand there;
    }
  where
    min-same : (a b : ℕ) → min a b ≡ min b a
    min-same a b = omega arith

-- there is room for what is taken, and then for what is left
pub room-next : (at n : ℕ) (rest : List ℕ) (left count : ℕ) (own : List ℕ) → count ≡ min (length own) left
    → HasLsnRoom at n rest left → HasLsnRoom at n rest (length (take count own) + (left - count))
room-next at n rest left count own count_is room = record {
  lsns = omega (arith, count_is, length-take count own, room.lsns);
  numbers = omega (arith, count_is, length-take count own, room.numbers);
}

-- WHERE IT ENDS.

-- a block that doesn't hold what it has to
pub blocks-short : (told : Option Disk) (extent : Extent) (lsn : ℕ) (pages : List Content) (i left : ℕ)
    (groups : Groups)
    (block : List ℕ) (b : ℕ) → i < block_count extent → b ≡ block_lsn extent i → IsNoBlock extent.mark b block
    → OnContent told (λ image. block ≡ archive_block extent.shape extent.start (block_lsn extent i) image)
    → AreReadOf extent lsn pages i left groups told → OnContent told (λ image. IsFirstShort extent image b)
blocks-short told extent lsn pages i left groups block b below b_is none there are =
    content-both told (AreLongWith extent i are.bytes) _ (λ image. IsFirstShort extent image b)
    (λ image so_far here. (
      i,
      below,
      b_is,
      no-block extent b image block
          (here ∙ ap (λ k. archive_block extent.shape extent.start k image) (sym b_is)) none,
      so_far.blocks,
    )) are.stand there

-- all of them: the bytes are those that the archive has
all-bytes : (extent : Extent) (i : ℕ) (bytes image : List ℕ) → block_count extent ≡ i → AreLongWith extent i bytes image
    → HasLongBlocks extent image (block_count extent) × (bytes ≡ archived_bytes extent image)
unfolding archived_bytes
all-bytes extent i bytes image all are = (
  subst (HasLongBlocks extent image) (sym all) are.blocks,
  are.bytes_are
      ∙ ap (λ k. take (byte_count extent) (data_of_blocks (archived_at extent image) (block_of extent.start) k))
      (sym all),
)

pub blocks-restored : (told : Option Disk) (extent : Extent) (lsn : ℕ) (pages : List Content) (i left : ℕ)
    (groups : Groups)
    → block_count extent ≡ i → groups.broken ≡ false → AreReadOf extent lsn pages i left groups told
    → OnContent told (IsRestoredBy extent lsn pages groups.restored)
blocks-restored told extent lsn pages i left groups all on are =
    let live = are.read.live on in
    content-weaker told (AreLongWith extent i are.bytes) (IsRestoredBy extent lsn pages groups.restored)
    (λ image so_far.
    let whole = all-bytes extent i are.bytes image all so_far in
    record {
      blocks = whole.0;
      at = groups.at;
      rest = groups.rest.items;
      applied =
          subst (λ (bytes : List ℕ). IsApplied (aim_of extent lsn pages) bytes groups.at groups.rest.items
          groups.restored)
          whole.1 live.0;
      front = live.1;
    }) are.stand

pub blocks-broken : (told : Option Disk) (extent : Extent) (lsn : ℕ) (pages : List Content) (i left : ℕ)
    (groups : Groups)
    → block_count extent ≡ i → groups.broken ≡ true → AreReadOf extent lsn pages i left groups told
    → OnContent told (λ image. HasLongBlocks extent image (block_count extent) × HasBadRecord image extent groups.at)
blocks-broken told extent lsn pages i left groups all off are =
    content-weaker told (AreLongWith extent i are.bytes)
    (λ image. HasLongBlocks extent image (block_count extent) × HasBadRecord image extent groups.at)
    (λ image so_far.
    let whole = all-bytes extent i are.bytes image all so_far in (
      whole.0,
      subst (λ (bytes : List ℕ). BreaksAt extent.shape bytes extent.start groups.at) whole.1 (are.read.broken off),
    )) are.stand

-- an archive has whole sectors
pub length-sectors : (extent : Extent) → IsSoundExtent extent
    → archive_length extent.shape extent.start extent.mark % 512 ≡ 0
length-sectors extent sound =
    let pages : pages_end extent.shape % 512 ≡ 0 = pages-sector extent.shape sound.limits in
    omega arith
