-- The words of a store are numbered from 0 on, each below how many there are.
use Rattle.std.proofs.Common.{arith, suc, ℕ, ◌*◌, ◌+◌, ◌<◌, ◌≤◌}
use Rattle.std.proofs.Math.Nat.{mul-le-mul_right, suc-mul}
use Rattle.model_core.specs.Layout.{index, page_stride}
use Rattle.model_core.specs.NamedWords.{IsWord, word_count}
use Rattle.model_core.specs.declared.words.Layout.{Layout}
use Rattle.model_core.specs.declared.words.Word.{Word}
use Rattle.model_core.specs.declared.words.Word.TheVariants as word

-- a page's words end where those of all pages end, or before
pub page_fits : (pages p s : ℕ) → p < pages → p * s + s ≤ pages * s
page_fits pages p s l = let h : suc p * s ≤ pages * s = mul-le-mul_right s l in omega (arith, suc-mul p s)

pub index_below : (layout : Layout) (w : Word) → IsWord layout w → index layout w < word_count layout
index_below layout word.Sn h = omega arith
index_below layout word.Write h = omega arith
index_below layout word.Wtail h = omega arith
index_below layout word.Flushed h = omega arith
index_below layout word.Ckpt h = omega arith
index_below layout word.Ctail h = omega arith
index_below layout word.Failed h = omega arith
index_below layout word.Device h = omega arith
index_below layout (word.List i) h = omega arith
index_below layout (word.Wlink i) h = omega arith
index_below layout (word.Clink i) h = omega arith
index_below layout (word.Cell i) h = omega arith
index_below layout (word.First i) h = omega arith
index_below layout (word.Place i) h = omega arith
index_below layout (word.Latch p) h = let fits = page_fits layout.pages p (page_stride layout) h in omega arith
index_below layout (word.Newest p) h = let fits = page_fits layout.pages p (page_stride layout) h in omega arith
index_below layout (word.Oldest p) h = let fits = page_fits layout.pages p (page_stride layout) h in omega arith
index_below layout (word.Frame p i) h =
    let fits = page_fits layout.pages p (page_stride layout) h.0 in
    let inside = h.1 in omega arith
