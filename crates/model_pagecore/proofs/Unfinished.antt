-- What stays of a batch whose writing failed.
use Rattle.std.proofs.Common.{List, [], arith, sym, ℕ, ◌∙◌, ◌≡◌, ◌≤◌}
use mathlib.Core.Option.{some-ne-none}
use Rattle.model_core.specs.{BatchPage, Entry, KeptPage}
use Rattle.model_pagecore.proofs.PageFrame.{Longer}
use Rattle.model_pagecore.specs.PageFacts.{AreUnfinished}
use Rattle.model_pagecore.specs.Pages.{applied_upto}

pub none_unfinished : (pages : ℕ) (opened kept_page : ℕ → KeptPage) (log : List Entry) (stable : ℕ) → AreUnfinished pages opened kept_page log stable []
none_unfinished pages opened kept_page log stable = record {
  each = λ i x at. absurd (some-ne-none x (sym at));
  apart = λ i j x y at. absurd (some-ne-none x (sym at));
}

-- the history goes on past the stable mark, and the mark grows
pub unfinished_later : (pages : ℕ) (opened kept_page : ℕ → KeptPage) (log log' : List Entry) (stable stable' : ℕ) (batch : List BatchPage) → Longer log log'
    → ((p q : ℕ) (b : List ℕ) → q ≤ stable → applied_upto p q log' b ≡ applied_upto p q log b) → stable ≤ stable'
    → AreUnfinished pages opened kept_page log stable batch → AreUnfinished pages opened kept_page log' stable' batch
unfinished_later pages opened kept_page log log' stable stable' batch longer same grows are = record {
  each = λ i x at. let one = are.each i x at in let end = one.ends in record {
    there = one.there;
    fold = one.fold ∙ sym (same x.page x.lsn (opened x.page).bytes one.behind);
    ends = (end.0, end.1, longer.old end.0 end.1 end.2, end.3, end.4);
    no_older = one.no_older;
    behind = (let b = one.behind in omega arith);
  };
  apart = are.apart;
}
