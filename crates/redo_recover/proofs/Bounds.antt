-- Where the log ends, whatever its device tells, and that no page is ahead of that.
use Rattle.std.proofs.Common.{◌≡◌, ◌≤◌, ◌<◌, ◌+◌, ◌%◌, ◌∙◌, ℕ, List, [], ◌∷◌, ◌++◌, length, length-append, Option, Some, None, inl, inr, sym, ap, subst, arith}
use Rattle.std.proofs.lemmas.List.{length_push}
use Rattle.std.specs.List.{AllByRecursion, slice_get}
use Rattle.model_base.specs.declared.limits.TheConstants.{BLOCK_SIZE}
use Rattle.model_base.specs.declared.shape.Shape.{Shape}
use Rattle.model_log.specs.{lsn_at}
use Rattle.model_log.specs.declared.block.BlockView.{BlockView}
use Rattle.model_log.specs.declared.layout.Layout.{Layout}
use Rattle.model_log.specs.declared.layout.TheConstants.{BLOCK_DATA, BLOCK_HEADER}
use Rattle.model_page.specs.declared.content.Content.{Content}
use Rattle.model_log.specs.declared.group.Whole.{Whole}
use Rattle.model_store.specs.{groups_start}
use Rattle.model_store.proofs.Ending.{EndsWithin, AreFirstsIn, starts-among, ends-behind, ends-among}
use Rattle.model_store.proofs.Folding.{ends-below, replayed-below}
use Rattle.model_store.proofs.Places.{push_place}
use Rattle.redo_recover.specs.Blocks.{AreBounded, HasFirst}
use Rattle.redo_recover.specs.Groups.{AreParsed, IsEndOf}
use Rattle.redo_apply.specs.{AreReplayed}
use Rattle.redo_recover.specs.Pages.{AreNotAhead}

-- THE BLOCKS, one after another.

pub bounded-none : (most : ℕ) (views : List BlockView) (bytes : List ℕ) → views ≡ [] → bytes ≡ [] → AreBounded most views bytes
bounded-none most views bytes none no_bytes = record {
  few = omega (arith, ap length none);
  short = omega (arith, ap length no_bytes);
  firsts = subst (λ (vs : List BlockView). (i : ℕ) (view : BlockView) → slice_get vs i ≡ Some view → HasFirst view) (sym none) (λ i view at. absurd cc);
}

pub bounded-push : (most : ℕ) (views all : List BlockView) (view : BlockView) (bytes joined more : List ℕ) → AreBounded most views bytes
    → length views < most → HasFirst view → length more ≤ BLOCK_DATA → all ≡ views ++ view ∷ [] → joined ≡ bytes ++ more → AreBounded most all joined
bounded-push most views all view bytes joined more before less first room all_is joined_is =
    let many : length all ≡ length views + 1 = ap length all_is ∙ length_push views view in
    let long : length joined ≡ length bytes + length more = ap length joined_is ∙ length-append bytes more in
    record {
      few = omega arith;
      short = omega (arith, before.short);
      firsts = subst (λ (vs : List BlockView). (i : ℕ) (one : BlockView) → slice_get vs i ≡ Some one → HasFirst one) (sym all_is)
          (λ i found at. elim (push_place views view i found at) [
            | inl there ↦ before.firsts i found there
            | inr (last, is) ↦ subst (λ (one : BlockView). HasFirst one) (sym is) first
          ]);
    }

-- THE END.

firsts-in : (most : ℕ) (views : List BlockView) (bytes : List ℕ) → AreBounded most views bytes → AreFirstsIn views
firsts-in most views bytes bounded i view at some = let own = bounded.firsts i view at some in (own.0, omega (arith, own.1))

ends-in : (shape : Shape) (most ckpt : ℕ) (views : List BlockView) (bytes : List ℕ) (start : Option ℕ) (wholes : List Whole) (end : ℕ) → ckpt % BLOCK_SIZE ≡ 0
    → AreBounded most views bytes → groups_start ckpt views ≡ start → AreParsed ckpt (length views) shape bytes start wholes end
    → EndsWithin ckpt end views × AllByRecursion (λ (whole : Whole). whole.end ≤ end) wholes
ends-in shape most ckpt views bytes None wholes end aligned bounded is (none, at) = (
  ends-behind ckpt end views aligned at,
  subst (AllByRecursion (λ (whole : Whole). whole.end ≤ end)) (sym none) tt,
)
ends-in shape most ckpt views bytes (Some start) wholes end aligned bounded is parsed = (
  ends-among ckpt start end views bytes wholes parsed.rest aligned (starts-among ckpt start views aligned (firsts-in most views bytes bounded) is) bounded.short
      parsed.groups.bytes_are parsed.groups.run parsed.at,
  subst (λ n. AllByRecursion (λ (whole : Whole). whole.end ≤ n) wholes) (sym parsed.at) (ends-below start wholes parsed.groups.run),
)

pub parsed-end : (shape : Shape) (layout : Layout) (most ckpt : ℕ) (views : List BlockView) (bytes : List ℕ) (start : Option ℕ) (wholes : List Whole) (end : ℕ) → ckpt % BLOCK_SIZE ≡ 0
    → AreBounded most views bytes → groups_start ckpt views ≡ start → AreParsed ckpt (length views) shape bytes start wholes end
    → length views ≤ layout.blocks → IsEndOf layout ckpt wholes end
parsed-end shape layout most ckpt views bytes start wholes end aligned bounded is parsed within =
    let both = ends-in shape most ckpt views bytes start wholes end aligned bounded is parsed in
    let ends : EndsWithin ckpt end views = both.0 in
    let up_to : end ≤ lsn_at ckpt (length views) + BLOCK_HEADER = ends.up_to in
    record { place = ends.place; from = ends.from; up_to = omega arith; groups = both.1 }

-- THE PAGES.

pub replayed-not_ahead : (wholes : List Whole) (old new : List Content) (end : ℕ) → AllByRecursion (λ (whole : Whole). whole.end ≤ end) wholes
    → AreNotAhead old end → AreReplayed wholes old new → AreNotAhead new end
replayed-not_ahead wholes old new end below low replay p page at =
    let from = replay.each p page at in
    let fine = replayed-below p from.0.lsn end wholes from.0 below (low p from.0 from.1) in
    omega (arith, ap (λ (c : Content). c.lsn) from.2)
