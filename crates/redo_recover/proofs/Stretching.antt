-- Full blocks of a log that are taken one after another, and stretches of them that are joined.
use Rattle.std.proofs.Common.{◌≡◌, ℕ, zero, suc, ◌+◌, ◌-◌, ◌≤◌, ◌⊎◌, ⊎_elim, inl, inr, true, List, [], ◌∷◌, ◌++◌, All, Option, length, length-append, Some, arith, refl, sym, ap, ap₂, subst, ◌∙◌}
use Rattle.std.specs.List.{slice_get}
use Rattle.std.proofs.lemmas.Bool.{cases_lt}
use Rattle.std.proofs.lemmas.List.{length_push}
use Rattle.std.proofs.lemmas.List.Elements.{All-weaker}
use Rattle.model_device.specs.{Disk}
use Rattle.model_log.specs.{data_of, is_full, log_block, lsn_at, place_in, sector_at}
use Rattle.model_log.specs.declared.block.BlockView.{BlockView}
use Rattle.model_log.specs.declared.layout.Layout.{Layout}
use Rattle.model_log.specs.declared.layout.TheConstants.{BLOCK_DATA}
use Rattle.model_store.specs.{read_full, Source, taken, view_at}
use Rattle.model_store.proofs.Sources.{joined-append}
use Rattle.redo_recover.specs.Blocks.{AreBounded, HasFirst}
use Rattle.redo_recover.specs.Devices.{OnContent}
use Rattle.redo_recover.specs.Full.{AreBlocksSoFar, AreFullIn, AreFullOf, AreStanding, HasBounds}
use Rattle.redo_recover.specs.Piece.{HasSector, IsPieceOf}
use Rattle.redo_recover.specs.Taking.{AreTailsOf, bytes_at, five_of, found_at, four_of}
use Rattle.redo_recover.specs.declared.full.FullBlocks.{FullBlocks}
use Rattle.redo_recover.specs.declared.piece.Piece.{Piece}
use Rattle.redo_recover.specs.declared.taking.Stand.{Stand}
use Rattle.redo_recover.proofs.Bounds.{bounded-none, bounded-push}
use Rattle.redo_recover.proofs.Contents.{content-both}
use Rattle.redo_recover.proofs.Scanning.{IsReadOf, so_far-next, so_far-none, taken-at}
use Rattle.redo_recover.proofs.Tailing.{standing-next, standing-none}

-- NO BLOCK.

pub full-none : (layout : Layout) (image : List ℕ) (full : FullBlocks) → full.views.items ≡ [] → full.joined.items ≡ [] → AreFullIn layout full image
full-none layout image full views joined = record {
  so_far = rw (views, joined) (so_far-none full.lsn [] [] (taken layout image) refl refl);
  standing = rw views (standing-none layout full.lsn image);
}

pub bounds-none : (full : FullBlocks) → full.views.items ≡ [] → full.joined.items ≡ [] → HasBounds full
bounds-none full views joined = bounded-none (length full.views.items) full.views.items full.joined.items views joined

-- ONE MORE BLOCK.

pub full-next : (layout : Layout) (old new : FullBlocks) (piece : Piece) (at : ℕ) (place tails : List ℕ) (stand : Stand) (view : BlockView) (data_bytes image : List ℕ)
    → new.lsn ≡ old.lsn → new.views.items ≡ old.views.items ++ view ∷ [] → new.joined.items ≡ old.joined.items ++ data_bytes
    → data_bytes ≡ data_of view (bytes_at place tails stand) → is_full view ≡ true
    → HasSector piece at → at ≡ place_in layout (lsn_at old.lsn (length old.views.items)) → place ≡ sector_at (at - piece.from) piece.bytes.items
    → Some (stand, view) ≡ found_at layout.format (lsn_at old.lsn (length old.views.items)) place (four_of tails) (five_of tails)
    → IsReadOf layout.format piece tails image → AreFullIn layout old image → AreFullIn layout new image
full-next layout old new piece at place tails stand view data_bytes image same views joined data_is full has at_is place_is found_is of a =
    let count = length old.views.items in
    let t = taken-at layout old.lsn count piece at place tails (Some (stand, view)) image has at_is place_is found_is of in
    let more : length new.views.items ≡ count + 1 = ap length views ∙ length_push old.views.items view in
    record {
      so_far = rw (more, same) (so_far-next old.lsn old.views.items old.joined.items count (taken layout image) view (bytes_at place tails stand)
          new.views.items new.joined.items data_bytes a.so_far t.takes full views joined data_is);
      standing = rw (more, same) (standing-next layout old.lsn count stand view place tails image t full a.standing);
    }

pub bounds-push : (old new : FullBlocks) (view : BlockView) (data_bytes : List ℕ) → new.views.items ≡ old.views.items ++ view ∷ []
    → new.joined.items ≡ old.joined.items ++ data_bytes → HasBounds old → HasFirst view → length data_bytes ≤ BLOCK_DATA → HasBounds new
bounds-push old new view data_bytes views joined a first room =
    let more : length new.views.items ≡ length old.views.items + 1 = ap length views ∙ length_push old.views.items view in
    bounded-push (length new.views.items) old.views.items new.views.items view old.joined.items new.joined.items data_bytes
    (record { few = omega arith; short = a.short; firsts = a.firsts }) (omega arith) first room views joined

-- TWO STRETCHES, one after the other.

-- a place of both is one of the first or one of the second
append_place : {X : Type 0} (xs ys : List X) (i : ℕ) (x : X) → slice_get (xs ++ ys) i ≡ Some x
    → (slice_get xs i ≡ Some x) ⊎ ((k : ℕ) × (i ≡ length xs + k) × (slice_get ys k ≡ Some x))
append_place [] ys i x e = inr (i, omega arith, e)
append_place (z ∷ xs) ys zero x e = inl e
append_place (z ∷ xs) ys (suc i) x e =
    elim (append_place xs ys i x e) [ inl old ↦ inl old | inr (k, at, is) ↦ inr (k, omega (arith, at), is) ]

blocks-append : (ckpt : ℕ) (vs ws : List BlockView) (xs ys : List ℕ) (source : Source) → AreBlocksSoFar ckpt vs xs (length vs) source
    → AreBlocksSoFar (lsn_at ckpt (length vs)) ws ys (length ws) source → AreBlocksSoFar ckpt (vs ++ ws) (xs ++ ys) (length (vs ++ ws)) source
blocks-append ckpt vs ws xs ys source a b = record {
  many = refl;
  each = λ i view at. elim (append_place vs ws i view at) [
    | inl there ↦ a.each i view there
    | inr (k, place, there) ↦ (let here : lsn_at ckpt i ≡ lsn_at (lsn_at ckpt (length vs)) k = omega (arith, place) in
        ap (view_at source) here ∙ b.each k view there)
  ];
  full = λ i view at. elim (append_place vs ws i view at) [ inl there ↦ a.full i view there | inr (k, place, there) ↦ b.full k view there ];
  bytes_are = ap₂ ◌++◌ a.bytes_are b.bytes_are ∙ sym (joined-append source ckpt vs ws);
}

standing-append : (layout : Layout) (image : List ℕ) (ckpt n m : ℕ) → AreStanding layout ckpt n image → AreStanding layout (lsn_at ckpt n) m image
    → AreStanding layout ckpt (n + m) image
standing-append layout image ckpt n m a b two i below =
    ⊎_elim (λ less. a two i less)
    (λ not_less. (let found = b two (i - n) (omega arith) in
    let here : lsn_at (lsn_at ckpt n) (i - n) ≡ lsn_at ckpt i = omega arith in
    (found.0, subst (λ lsn. read_full lsn (log_block layout lsn image) ≡ Some found.0) here found.1))) (cases_lt i n)

pub full-join : (layout : Layout) (image : List ℕ) (front back all : FullBlocks) → back.lsn ≡ lsn_at front.lsn (length front.views.items)
    → all.lsn ≡ front.lsn → all.views.items ≡ front.views.items ++ back.views.items → all.joined.items ≡ front.joined.items ++ back.joined.items
    → AreFullIn layout front image → AreFullIn layout back image → AreFullIn layout all image
full-join layout image front back all meets same views joined a b =
    let both : length (front.views.items ++ back.views.items) ≡ length front.views.items + length back.views.items = length-append front.views.items back.views.items in
    record {
      so_far = rw (same, views, joined) (blocks-append front.lsn front.views.items back.views.items front.joined.items back.joined.items (taken layout image)
          a.so_far (rw meets at b.so_far));
      standing = rw (same, views, both) (standing-append layout image front.lsn (length front.views.items) (length back.views.items) a.standing (rw meets at b.standing));
    }

bounded-append : (vs ws : List BlockView) (xs ys : List ℕ) → AreBounded (length vs) vs xs → AreBounded (length ws) ws ys
    → AreBounded (length (vs ++ ws)) (vs ++ ws) (xs ++ ys)
bounded-append vs ws xs ys a b = record {
  few = omega arith;
  short = omega (arith, length-append vs ws, length-append xs ys, a.short, b.short);
  firsts = λ i view at. elim (append_place vs ws i view at) [ inl there ↦ a.firsts i view there | inr (k, place, there) ↦ b.firsts k view there ];
}

pub bounds-join : (front back all : FullBlocks) → all.views.items ≡ front.views.items ++ back.views.items
    → all.joined.items ≡ front.joined.items ++ back.joined.items → HasBounds front → HasBounds back → HasBounds all
bounds-join front back all views joined a b =
    rw (views, joined) (bounded-append front.views.items back.views.items front.joined.items back.joined.items a b)

-- what has its bounds has them in a log of so many blocks
pub bounds-within : (full : FullBlocks) (most : ℕ) → HasBounds full → length full.views.items ≤ most → AreBounded most full.views.items full.joined.items
bounds-within full most bounds within = record { few = within; short = bounds.short; firsts = bounds.firsts }

-- ALL STRETCHES out of a piece of the log device.

pub full-all : (told : Option Disk) (layout : Layout) (piece : Piece) (tails : List ℕ) (old new : FullBlocks) (stretches : List FullBlocks)
    → ((any : Layout) (image : List ℕ) → AreFullIn any old image → All (λ (full : FullBlocks). AreFullIn any full image) stretches → AreFullIn any new image)
    → All (AreFullOf layout piece tails) stretches → OnContent told (IsPieceOf piece) → OnContent told (AreTailsOf layout.format tails)
    → OnContent told (AreFullIn layout old) → OnContent told (AreFullIn layout new)
full-all told layout piece tails old new stretches joins made of are before =
    content-both told (IsReadOf layout.format piece tails) (AreFullIn layout old) (AreFullIn layout new)
    (λ image is a. joins layout image a
    (All-weaker (AreFullOf layout piece tails) (λ (full : FullBlocks). AreFullIn layout full image) (λ full one. one.in_log image is.piece_of is.tails_of)
    stretches made))
    (content-both told (IsPieceOf piece) (AreTailsOf layout.format tails) (IsReadOf layout.format piece tails)
    (λ image is also. record { piece_of = is; tails_of = also }) of are) before

pub bounds-all : (layout : Layout) (piece : Piece) (tails : List ℕ) (stretches : List FullBlocks) → All (AreFullOf layout piece tails) stretches
    → All HasBounds stretches
bounds-all layout piece tails stretches made = All-weaker (AreFullOf layout piece tails) HasBounds (λ full one. one.bounds) stretches made
