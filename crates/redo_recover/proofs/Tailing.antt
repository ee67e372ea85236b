-- Where the blocks stand that the scan took: each of them in its place, but the last may stand in a tail block.
use Rattle.std.proofs.Common.{◌≡◌, ℕ, suc, ◌+◌, ◌∙◌, inl, inr, false, true, List, [], ◌∷◌, ◌++◌, length, Some, None, refl, sym, ap, subst, ⊎_elim, arith, ◌≢◌}
use Rattle.std.proofs.lemmas.Bool.{cases_lt}
use Rattle.std.proofs.lemmas.List.{length_push}
use Rattle.model_log.specs.{is_full, log_block, lsn_at, read_block}
use Rattle.model_log.specs.declared.block.BlockView.{BlockView}
use Rattle.model_log.specs.declared.head.Format.{Format}
use Rattle.model_log.specs.declared.head.Format.TheVariants.{One}
use Rattle.model_log.specs.declared.layout.Layout.{Layout}
use Rattle.model_store.specs.{AreFoundIn, AreInPlace, read_full, read_tail, taken_from}
use Rattle.model_store.proofs.Taking.{from-full, from-tail}
use Rattle.redo_recover.specs.Full.{AreStanding}
use Rattle.redo_recover.specs.Taking.{five_of, four_of, tail_block_at}
use Rattle.redo_recover.specs.declared.taking.Stand.{Stand}
use Rattle.redo_recover.specs.declared.taking.Stand.TheVariants.{Place, Four, Five}
use Rattle.redo_recover.proofs.Scanning.{AreTails, IsTakenAt}
use Rattle.redo_recover.proofs.Standing.{IsAt, stands-at}

-- a full block stands in its place
full-read : (format : Format) (lsn : ℕ) (place four five : List ℕ) (stand : Stand) (view : BlockView) → IsAt format lsn place four five view stand
    → is_full view ≡ true → format ≢ One → read_full lsn place ≡ Some view
full-read format lsn place four five Place view is full two = is.1 two
full-read format lsn place four five Four view is full two = let no : is_full view ≡ false = (from-tail lsn (read_block lsn four) view is.2).1 in absurd cc
full-read format lsn place four five Five view is full two = let no : is_full view ≡ false = (from-tail lsn (read_block lsn five) view is.2).1 in absurd cc

in_place-push : (layout : Layout) (image : List ℕ) (ckpt count : ℕ) (view : BlockView) → AreInPlace layout image ckpt count
    → read_full (lsn_at ckpt count) (log_block layout (lsn_at ckpt count) image) ≡ Some view → AreInPlace layout image ckpt (count + 1)
in_place-push layout image ckpt count view before here i below =
    ⊎_elim (λ less. before i less)
    (λ not_less. (let same : count ≡ i = omega arith in
    (view, subst (λ k. read_full (lsn_at ckpt k) (log_block layout (lsn_at ckpt k) image) ≡ Some view) same here))) (cases_lt i count)

pub standing-none : (layout : Layout) (ckpt : ℕ) (image : List ℕ) → AreStanding layout ckpt 0 image
standing-none layout ckpt image two i below = absurd (omega arith)

pub standing-next : (layout : Layout) (ckpt count : ℕ) (stand : Stand) (view : BlockView) (place tails image : List ℕ)
    → IsTakenAt layout ckpt count (Some (stand, view)) place tails image → is_full view ≡ true → AreStanding layout ckpt count image
    → AreStanding layout ckpt (count + 1) image
standing-next layout ckpt count stand view place tails image t full before two =
    let lsn : ℕ = lsn_at ckpt count in
    let at = stands-at layout.format lsn place (four_of tails) (five_of tails) stand view (sym t.found_is) in
    let read : read_full lsn place ≡ Some view = full-read layout.format lsn place (four_of tails) (five_of tails) stand view at full two in
    in_place-push layout image ckpt count view (before two) (sym (ap (read_full lsn) t.place_is) ∙ read)

-- WHERE THE LAST OF THEM STANDS.

-- in no tail block, where all of them are full
pub found-all : (layout : Layout) (ckpt : ℕ) (views : List BlockView) (count : ℕ) (image : List ℕ) → length views ≡ count → AreStanding layout ckpt count image
    → AreFoundIn layout image ckpt views None
found-all layout ckpt views count image many standing two = subst (λ n. AreInPlace layout image ckpt n) (sym many) (standing two)

-- one that isn't full stands in its place in format 1, and else in a tail block
found-part : (layout : Layout) (ckpt : ℕ) (all : List BlockView) (count : ℕ) (stand : Stand) (view : BlockView) (place tails image : List ℕ)
    → IsTakenAt layout ckpt count (Some (stand, view)) place tails image → is_full view ≡ false → AreStanding layout ckpt count image → suc count ≡ length all
    → IsAt layout.format (lsn_at ckpt count) place (four_of tails) (five_of tails) view stand → AreFoundIn layout image ckpt all (tail_block_at (lsn_at ckpt count) stand)
found-part layout ckpt all count Place view place tails image t part standing last at =
    λ two. (let yes : is_full view ≡ true = (from-full (read_block (lsn_at ckpt count) place) view (at.1 two)).1 in absurd cc)
found-part layout ckpt all count Four view place tails image t part standing last at =
    let lsn : ℕ = lsn_at ckpt count in
    let are : AreTails tails image = t.tails_are at.0 in
    record {
      format = at.0;
      place = inl refl;
      last = count;
      is_last = last;
      lsn_is = refl;
      before = standing at.0;
      unread = sym (ap (read_full lsn) t.place_is) ∙ at.1;
      view = view;
      fits = sym (ap (read_tail lsn) are.four) ∙ at.2;
      is_taken = t.takes ∙ ap (λ b. taken_from b (Some view)) are.four;
    }
found-part layout ckpt all count Five view place tails image t part standing last at =
    let lsn : ℕ = lsn_at ckpt count in
    let are : AreTails tails image = t.tails_are at.0 in
    record {
      format = at.0;
      place = inr refl;
      last = count;
      is_last = last;
      lsn_is = refl;
      before = standing at.0;
      unread = sym (ap (read_full lsn) t.place_is) ∙ at.1;
      view = view;
      fits = sym (ap (read_tail lsn) are.five) ∙ at.2;
      is_taken = t.takes ∙ ap (λ b. taken_from b (Some view)) are.five;
    }

pub found-last : (layout : Layout) (ckpt : ℕ) (views all : List BlockView) (count : ℕ) (stand : Stand) (view : BlockView) (place tails image : List ℕ)
    → IsTakenAt layout ckpt count (Some (stand, view)) place tails image → is_full view ≡ false → AreStanding layout ckpt count image
    → length views ≡ count → all ≡ views ++ view ∷ [] → AreFoundIn layout image ckpt all (tail_block_at (lsn_at ckpt count) stand)
found-last layout ckpt views all count stand view place tails image t part standing many all_is =
    found-part layout ckpt all count stand view place tails image t part standing (omega (arith, ap length all_is, length_push views view, many))
    (stands-at layout.format (lsn_at ckpt count) place (four_of tails) (five_of tails) stand view (sym t.found_is))
