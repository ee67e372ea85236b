-- Blocks that are taken of a source one after another.
use Rattle.std.proofs.Common.{◌≡◌, ℕ, ◌+◌, ◌-◌, ◌<◌, ◌≤◌, inl, inr, true, false, cond, ltb, List, [], ◌∷◌, ◌++◌, length, drop, min, Option, Some, None, arith, refl, sym, ap, ap₂, subst, ◌∙◌, ◌≢◌}
use Rattle.std.specs.List.{slice_get}
use Rattle.std.proofs.lemmas.List.{length_push, append-nil, length-take}
use Rattle.model_base.specs.declared.limits.TheConstants.{BLOCK_SIZE, LSN_LIMIT}
use Rattle.model_log.specs.{data_of, header_block, is_full, log_block, lsn_at, place_in, read_block, sector_at}
use Rattle.model_log.specs.declared.block.BlockView.{BlockView}
use Rattle.model_log.specs.declared.head.Format.{Format}
use Rattle.model_log.specs.declared.head.Format.TheVariants.{One, Two, Three}
use Rattle.model_log.specs.declared.layout.Layout.{Layout}
use Rattle.model_log.specs.declared.layout.TheConstants.{BLOCK_DATA, HEADER_BYTES}
use Rattle.model_log.proofs.Formats.{two-not_one}
use Rattle.model_store.specs.{bytes_of, joined, Source, Taken, taken, taken_among, taken_from, view_at}
use Rattle.std.specs.Option.{option_map}
use Rattle.model_store.proofs.Places.{push_place, place_push}
use Rattle.model_store.proofs.Sources.{data_at, joined-append, view-none}
use Rattle.model_device.specs.{Disk}
use Rattle.redo_recover.specs.Blocks.{AreBlocksOf}
use Rattle.redo_recover.specs.Devices.{OnContent}
use Rattle.redo_recover.specs.Full.{AreBlocksSoFar}
use Rattle.redo_recover.specs.Piece.{IsPieceOf, HasSector}
use Rattle.redo_recover.specs.Taking.{AreTailsOf, block_at, five_of, found_at, four_of}
use Rattle.redo_recover.specs.declared.piece.Piece.{Piece}
use Rattle.redo_recover.specs.declared.taking.Stand.{Stand}
use Rattle.redo_recover.specs.declared.taking.TheConstants.{TAILS}
use Rattle.redo_recover.proofs.Contents.{content-both}
use Rattle.redo_recover.proofs.Standing.{at-takes, three-not_one}
use Rattle.redo_disk.specs.{part}
use Rattle.redo_recover.proofs.Pieces.{piece-sector}
use Rattle.redo_recover.proofs.Starting.{sector-part}

pub so_far-none : (ckpt : ℕ) (views : List BlockView) (bytes : List ℕ) (source : Source) → views ≡ [] → bytes ≡ [] → AreBlocksSoFar ckpt views bytes 0 source
so_far-none ckpt views bytes source views_are bytes_are =
    let none : AreBlocksSoFar ckpt [] [] 0 source = record {
      many = refl;
      each = λ i view at. absurd cc;
      full = λ i view at. absurd cc;
      bytes_are = refl;
    } in
    subst (λ (vs : List BlockView). AreBlocksSoFar ckpt vs bytes 0 source) (sym views_are) (subst (λ bs. AreBlocksSoFar ckpt [] bs 0 source) (sym bytes_are) none)

-- ONE MORE BLOCK.

-- each of the blocks and of one more that follows is taken
each-push : (ckpt : ℕ) (views : List BlockView) (bytes : List ℕ) (count : ℕ) (source : Source) (view : BlockView) (block : List ℕ)
    → AreBlocksSoFar ckpt views bytes count source → source (lsn_at ckpt count) ≡ taken_from block (Some view)
    → (i : ℕ) (found : BlockView) → slice_get (views ++ view ∷ []) i ≡ Some found → view_at source (lsn_at ckpt i) ≡ Some found
each-push ckpt views bytes count source view block a next i found at =
    elim (push_place views view i found at) [
      | inl there ↦ a.each i found there
      | inr (last, is) ↦ (let here : i ≡ count = omega (arith, a.many) in
          ap (λ k. view_at source (lsn_at ckpt k)) here ∙ ap (option_map (λ (block : Taken). block.view)) next ∙ ap (λ x. Some x) (sym is))
    ]

-- the data of the blocks and of one more
data-push : (ckpt : ℕ) (views : List BlockView) (bytes : List ℕ) (count : ℕ) (source : Source) (view : BlockView) (block : List ℕ)
    → AreBlocksSoFar ckpt views bytes count source → source (lsn_at ckpt count) ≡ taken_from block (Some view)
    → bytes ++ data_of view block ≡ joined source ckpt (views ++ view ∷ [])
data-push ckpt views bytes count source view block a next =
    let last : data_at source (lsn_at ckpt (length views)) ≡ data_of view block = ap (λ n. data_at source (lsn_at ckpt n)) a.many ∙ ap bytes_of next in
    ap₂ ◌++◌ a.bytes_are (sym (append-nil (data_at source (lsn_at ckpt (length views))) ∙ last))
    ∙ sym (joined-append source ckpt views (view ∷ []))

-- a full one more
pub so_far-push : (ckpt : ℕ) (views : List BlockView) (bytes : List ℕ) (count : ℕ) (source : Source) (view : BlockView) (block : List ℕ)
    → AreBlocksSoFar ckpt views bytes count source → source (lsn_at ckpt count) ≡ taken_from block (Some view) → is_full view ≡ true
    → AreBlocksSoFar ckpt (views ++ view ∷ []) (bytes ++ data_of view block) (count + 1) source
so_far-push ckpt views bytes count source view block a next full =
    record {
      many = omega (arith, length_push views view, a.many);
      each = each-push ckpt views bytes count source view block a next;
      full = λ i found at. elim (push_place views view i found at) [ inl there ↦ a.full i found there | inr (last, is) ↦ ap is_full is ∙ full ];
      bytes_are = data-push ckpt views bytes count source view block a next;
    }

pub so_far-next : (ckpt : ℕ) (views : List BlockView) (bytes : List ℕ) (count : ℕ) (source : Source) (view : BlockView) (block : List ℕ)
    (all : List BlockView) (joint data_bytes : List ℕ) → AreBlocksSoFar ckpt views bytes count source → source (lsn_at ckpt count) ≡ taken_from block (Some view)
    → is_full view ≡ true → all ≡ views ++ view ∷ [] → joint ≡ bytes ++ data_bytes → data_bytes ≡ data_of view block
    → AreBlocksSoFar ckpt all joint (count + 1) source
so_far-next ckpt views bytes count source view block all joint data_bytes a next full all_is joint_is data_is =
    subst (λ (vs : List BlockView). AreBlocksSoFar ckpt vs joint (count + 1) source) (sym all_is)
    (subst (λ bs. AreBlocksSoFar ckpt (views ++ view ∷ []) bs (count + 1) source) (sym (joint_is ∙ ap (λ d. bytes ++ d) data_is))
    (so_far-push ckpt views bytes count source view block a next full))

-- a block has room for so many data bytes
pub length-data_of : (view : BlockView) (block : List ℕ) → length (data_of view block) ≤ BLOCK_DATA
length-data_of view block =
    omega (arith, length-take (min view.length 508 - 12) (drop 12 block))

-- WHERE THE READING ENDS.

-- after full blocks none is taken
pub read-stopped : (most ckpt : ℕ) (views : List BlockView) (bytes : List ℕ) (count : ℕ) (source : Source)
    → AreBlocksSoFar ckpt views bytes count source → count ≤ most → source (lsn_at ckpt count) ≡ None
    → AreBlocksOf most ckpt views bytes source
read-stopped most ckpt views bytes count source a few none =
    record {
      views_are = record {
        few = omega (arith, a.many);
        each = a.each;
        full = λ i view h at. a.full i view at;
        last = inr (inr (ap (λ k. view_at source (lsn_at ckpt k)) a.many ∙ view-none source (lsn_at ckpt count) none));
      };
      bytes_are = a.bytes_are;
    }

-- after full blocks comes one that isn't
pub read-part : (most ckpt : ℕ) (views : List BlockView) (bytes : List ℕ) (count : ℕ) (source : Source) (view : BlockView) (block : List ℕ)
    → AreBlocksSoFar ckpt views bytes count source → count < most → source (lsn_at ckpt count) ≡ taken_from block (Some view) → is_full view ≡ false
    → AreBlocksOf most ckpt (views ++ view ∷ []) (bytes ++ data_of view block) source
read-part most ckpt views bytes count source view block a few next part =
    record {
      views_are = record {
        few = omega (arith, length_push views view, a.many);
        each = each-push ckpt views bytes count source view block a next;
        full = λ i found h at. elim (push_place views view i found at) [
          | inl there ↦ a.full i found there
          | inr (last, is) ↦ absurd (omega (arith, length_push views view))
        ];
        last = inr (inl (view, count, omega (arith, length_push views view, a.many), place_push views view count (sym a.many), part));
      };
      bytes_are = data-push ckpt views bytes count source view block a next;
    }

-- the blocks fill the log
pub read-all : (most ckpt : ℕ) (views : List BlockView) (bytes : List ℕ) (count : ℕ) (source : Source)
    → AreBlocksSoFar ckpt views bytes count source → count ≡ most → AreBlocksOf most ckpt views bytes source
read-all most ckpt views bytes count source a all =
    record {
      views_are = record {
        few = omega (arith, a.many);
        each = a.each;
        full = λ i view h at. a.full i view at;
        last = inl (a.many ∙ all);
      };
      bytes_are = a.bytes_are;
    }

pub read-last : (most ckpt : ℕ) (views : List BlockView) (bytes : List ℕ) (count : ℕ) (source : Source) (view : BlockView) (block : List ℕ)
    (all : List BlockView) (joint data_bytes : List ℕ) → AreBlocksSoFar ckpt views bytes count source → count < most
    → source (lsn_at ckpt count) ≡ taken_from block (Some view) → is_full view ≡ false
    → all ≡ views ++ view ∷ [] → joint ≡ bytes ++ data_bytes → data_bytes ≡ data_of view block → AreBlocksOf most ckpt all joint source
read-last most ckpt views bytes count source view block all joint data_bytes a few next part all_is joint_is data_is =
    subst (λ (vs : List BlockView). AreBlocksOf most ckpt vs joint source) (sym all_is)
    (subst (λ bs. AreBlocksOf most ckpt (views ++ view ∷ []) bs source) (sym (joint_is ∙ ap (λ d. bytes ++ d) data_is))
    (read-part most ckpt views bytes count source view block a few next part))

-- WHAT IS TAKEN OF A LOG DEVICE.

-- the sector of a piece in which the block of an lsn stands
block-piece : (layout : Layout) (image : List ℕ) (piece : Piece) (lsn at : ℕ) (block : List ℕ) → IsPieceOf piece image → HasSector piece at
    → at ≡ place_in layout lsn → block ≡ sector_at (at - piece.from) piece.bytes.items → block ≡ log_block layout lsn image
unfolding log_block
block-piece layout image piece lsn at block of has at_is block_is =
    piece-sector image piece at block of has block_is ∙ ap (λ n. sector_at n image) at_is

-- the two tail blocks are those of the image
pub record AreTails (tails image : List ℕ) : Type 0 where
  pub four : four_of tails ≡ header_block 4 image
  pub five : five_of tails ≡ header_block 5 image

tails-part : (tails image : List ℕ) → tails ≡ part image HEADER_BYTES TAILS → AreTails tails image
tails-part tails image is = record {
  four = ap four_of is ∙ sector-part image HEADER_BYTES TAILS 0 (omega arith);
  five = ap five_of is ∙ sector-part image HEADER_BYTES TAILS BLOCK_SIZE (omega arith);
}

among-image : (format : Format) (lsn : ℕ) (place place_in_image tails image : List ℕ) → place ≡ place_in_image → (format ≢ One → AreTails tails image)
    → taken_among format lsn place_in_image (header_block 4 image) (header_block 5 image) ≡ taken_among format lsn place (four_of tails) (five_of tails)
among-image One lsn place place_in_image tails image is are = ap (λ b. taken_from b (read_block lsn b)) (sym is)
among-image Two lsn place place_in_image tails image is are =
    let tails_are : AreTails tails image = are two-not_one in
    ap (λ b. taken_among Two lsn b (header_block 4 image) (header_block 5 image)) (sym is)
    ∙ ap (λ b. taken_among Two lsn place b (header_block 5 image)) (sym tails_are.four)
    ∙ ap (λ b. taken_among Two lsn place (four_of tails) b) (sym tails_are.five)
among-image Three lsn place place_in_image tails image is are =
    let tails_are : AreTails tails image = are three-not_one in
    ap (λ b. taken_among Three lsn b (header_block 4 image) (header_block 5 image)) (sym is)
    ∙ ap (λ b. taken_among Three lsn place b (header_block 5 image)) (sym tails_are.four)
    ∙ ap (λ b. taken_among Three lsn place (four_of tails) b) (sym tails_are.five)

-- what the scan takes at an lsn, of the bytes in the place of its block and of the tail blocks
pub record IsTakenAt (layout : Layout) (ckpt count : ℕ) (found : Option (Stand × BlockView)) (place tails image : List ℕ) : Type 0 where
  pub place_is : place ≡ log_block layout (lsn_at ckpt count) image
  pub tails_are : layout.format ≢ One → AreTails tails image
  pub found_is : found ≡ found_at layout.format (lsn_at ckpt count) place (four_of tails) (five_of tails)
  pub takes : taken layout image (lsn_at ckpt count) ≡ block_at place tails found

-- the stretch that was read of the device has the place, and the tail blocks were read
pub record IsReadOf (format : Format) (piece : Piece) (tails image : List ℕ) : Type 0 where
  pub piece_of : IsPieceOf piece image
  pub tails_of : AreTailsOf format tails image

pub taken-at : (layout : Layout) (ckpt count : ℕ) (piece : Piece) (at : ℕ) (place tails : List ℕ) (found : Option (Stand × BlockView)) (image : List ℕ)
    → HasSector piece at → at ≡ place_in layout (lsn_at ckpt count) → place ≡ sector_at (at - piece.from) piece.bytes.items
    → found ≡ found_at layout.format (lsn_at ckpt count) place (four_of tails) (five_of tails) → IsReadOf layout.format piece tails image
    → IsTakenAt layout ckpt count found place tails image
taken-at layout ckpt count piece at place tails found image has at_is place_is found_is of =
    let lsn : ℕ = lsn_at ckpt count in
    let same : place ≡ log_block layout lsn image = block-piece layout image piece lsn at place of.piece_of has at_is place_is in
    let tails_are : layout.format ≢ One → AreTails tails image = λ two. tails-part tails image (of.tails_of two) in
    record {
      place_is = same;
      tails_are = tails_are;
      found_is = found_is;
      takes = ap (λ (o : Option Taken). cond (ltb lsn LSN_LIMIT) o None) (among-image layout.format lsn place (log_block layout lsn image) tails image same tails_are)
          ∙ sym (at-takes layout.format lsn place tails) ∙ ap (block_at place tails) (sym found_is);
    }

pub taken-here : (told : Option Disk) (layout : Layout) (ckpt count : ℕ) (piece : Piece) (at : ℕ) (place tails : List ℕ) (found : Option (Stand × BlockView))
    → HasSector piece at → at ≡ place_in layout (lsn_at ckpt count) → place ≡ sector_at (at - piece.from) piece.bytes.items
    → found ≡ found_at layout.format (lsn_at ckpt count) place (four_of tails) (five_of tails)
    → OnContent told (IsPieceOf piece) → OnContent told (AreTailsOf layout.format tails) → OnContent told (IsTakenAt layout ckpt count found place tails)
taken-here told layout ckpt count piece at place tails found has at_is place_is found_is piece_of tails_of =
    content-both told (IsPieceOf piece) (AreTailsOf layout.format tails) (IsTakenAt layout ckpt count found place tails)
    (λ image is are. taken-at layout ckpt count piece at place tails found image has at_is place_is found_is (record { piece_of = is; tails_of = are }))
    piece_of tails_of
