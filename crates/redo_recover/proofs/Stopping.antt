-- Where and why no further block is read.
use Rattle.std.proofs.Common.{◌≡◌, ℕ, ◌+◌, ◌*◌, ◌<◌, ◌∙◌, true, false, cond, ltb, List, [], ◌∷◌, ◌++◌, Bool, arith, sym, ap, subst}
use Rattle.std.specs.Prelude.{Option}
use Rattle.std.proofs.lemmas.List.{length_push}
use Rattle.model_base.specs.declared.limits.TheConstants.{BLOCK_SIZE, LSN_LIMIT}
use Rattle.model_log.specs.{cause_at, fit_of, is_full, IsStop, log_block, lsn_at, misfit_of}
use Rattle.model_log.specs.declared.layout.Layout.{Layout}
use Rattle.model_log.specs.declared.block.BlockView.{BlockView}
use Rattle.model_log.specs.Stop.{IsUnread}
use Rattle.model_log.specs.declared.cause.Cause.{Cause}
use Rattle.model_log.specs.declared.cause.Cause.TheVariants.{Partial, Round, End, Misfit}
use Rattle.model_store.proofs.Places.{place_push}
use Rattle.model_store.specs.{taken}
use Rattle.redo_recover.specs.declared.taking.Stand.{Stand}
use Rattle.redo_recover.specs.Full.{AreBlocksSoFar}
use Rattle.redo_recover.proofs.Scanning.{IsTakenAt}

-- a cause for which a block isn't read is none of the blocks before it
unread-stop : (layout : Layout) (ckpt : ℕ) (views : List BlockView) (lsn : ℕ) (cause : Cause) (image block : List ℕ) (b : Bool)
    → cause ≡ cond b (Misfit (misfit_of (fit_of lsn block))) End → IsUnread layout ckpt views lsn cause image → IsStop layout ckpt views (lsn, cause) image
unread-stop layout ckpt views lsn cause image block true is unread =
    subst (λ c. IsStop layout ckpt views (lsn, c) image) (sym is) (subst (λ c. IsUnread layout ckpt views lsn c image) is unread)
unread-stop layout ckpt views lsn cause image block false is unread =
    subst (λ c. IsStop layout ckpt views (lsn, c) image) (sym is) (subst (λ c. IsUnread layout ckpt views lsn c image) is unread)

-- after full blocks stands one that isn't read
pub stopped-unread : (layout : Layout) (ckpt : ℕ) (views : List BlockView) (bytes : List ℕ) (count lsn : ℕ) (cause : Cause) (found : Option (Stand × BlockView))
    (block tails image : List ℕ) → AreBlocksSoFar ckpt views bytes count (taken layout image) → count < layout.blocks → IsTakenAt layout ckpt count found block tails image
    → lsn ≡ lsn_at ckpt count → cause ≡ cause_at lsn block → IsStop layout ckpt views (lsn, cause) image
stopped-unread layout ckpt views bytes count lsn cause found block tails image a few t lsn_is cause_is =
    unread-stop layout ckpt views lsn cause image block (ltb lsn LSN_LIMIT) cause_is (record {
      full = a.full;
      few = omega (arith, a.many);
      lsn_is = lsn_is ∙ ap (λ n. ckpt + BLOCK_SIZE * n) (sym a.many);
      cause_is = cause_is ∙ ap (cause_at lsn) (t.place_is ∙ ap (λ n. log_block layout n image) (sym lsn_is));
    })

-- after full blocks was one that isn't full
pub stopped-part : (layout : Layout) (ckpt : ℕ) (views : List BlockView) (bytes : List ℕ) (count lsn : ℕ) (view : BlockView) (all : List BlockView) (image : List ℕ)
    → AreBlocksSoFar ckpt views bytes count (taken layout image) → lsn ≡ lsn_at ckpt count → is_full view ≡ false → all ≡ views ++ view ∷ []
    → IsStop layout ckpt all (lsn, Partial) image
stopped-part layout ckpt views bytes count lsn view all image a lsn_is part all_is =
    subst (λ (vs : List BlockView). IsStop layout ckpt vs (lsn, Partial) image) (sym all_is) (record {
      last = count;
      view = view;
      at = place_push views view count (sym a.many);
      is_last = omega (arith, length_push views view, a.many);
      part = part;
      lsn_is = lsn_is;
    })

-- the blocks fill the log
pub stopped-round : (layout : Layout) (ckpt : ℕ) (views : List BlockView) (bytes : List ℕ) (count lsn : ℕ) (image : List ℕ)
    → AreBlocksSoFar ckpt views bytes count (taken layout image) → count ≡ layout.blocks → lsn ≡ lsn_at ckpt layout.blocks
    → IsStop layout ckpt views (lsn, Round) image
stopped-round layout ckpt views bytes count lsn image a all lsn_is = record {
  full = a.full;
  all = a.many ∙ all;
  lsn_is = lsn_is ∙ ap (λ n. ckpt + BLOCK_SIZE * n) (sym (a.many ∙ all));
}
