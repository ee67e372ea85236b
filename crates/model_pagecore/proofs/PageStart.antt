-- The page half at the start of a run, with any actors that stand at theirs.
use Rattle.std.proofs.Common.{List, [], ap, arith, false, inl, refl, subst, sym, ℕ, ◌<◌, ◌≡◌, ◌≤◌}
use Rattle.std.specs.Prelude.{slice_index}
use lib.ListN.{get_elem?}
use mathlib.Core.Option.{some, some-ne-none}
use Rattle.model_core.specs.{Actor, BatchPage, framed_page, KeptPage, lsn, page_words_at, PageWords, SharedWords, DataSide, Setup}
use Rattle.model_pagecore.proofs.Unfinished.{none_unfinished}
use Rattle.model_pagecore.specs.PageFacts.{AreUnfinished, PageGhost}
use Rattle.model_pagecore.specs.PageHalf.{PageFits, PageHalf}
use Rattle.model_pagecore.specs.Pages.{OnePage}

pub record StartPages (E : DataSide) (c : Setup) (m : SharedWords) (stable : ℕ) (h : PageGhost) (d : E.Part) : Type 0 where
  pub page_words : (p : ℕ) → p < c.pages → ◌≡◌ {A = PageWords} (page_words_at m.page_words p) (record { latch = 0; newest = 0; oldest = 0; frame = (page_words_at m.page_words p).frame })
  pub frames : (p : ℕ) → p < c.pages → framed_page c.page_size (page_words_at m.page_words p).frame ≡ (c.opened p).bytes
  pub early : (p : ℕ) → p < c.pages → (c.opened p).lsn ≤ lsn c.base
  pub sn : m.sn ≡ c.base
  pub stable_is : stable ≡ lsn c.base
  pub flushed : m.flushed ≡ lsn c.base
  pub ctail : m.ctail ≡ lsn c.base
  pub clinks : (i : ℕ) → slice_index m.clinks i ≡ 0
  pub tail : h.tail ≡ lsn c.base
  pub closed : (x : ℕ) → h.closed x ≡ false
  pub given : h.given ≤ lsn c.base
  pub kept_page : (p : ℕ) → ◌≡◌ {A = KeptPage} (h.kept_page p) (c.opened p)
  pub stored : E.Holds h.kept_page h.unfinished d
  pub all_written : ◌≡◌ {A = List BatchPage} h.unfinished []

pub pages_start : (E : DataSide) (c : Setup) (m : SharedWords) (stable : ℕ) (h : PageGhost) (d : E.Part) (actors : List Actor) → StartPages E c m stable h d
    → ((seat : ℕ) (a : Actor) → get_elem? actors seat ≡ some a → PageFits E c m [] h (λ _. []) d seat a) → PageHalf E c m [] stable h (λ _. []) d actors
pages_start E c m stable h d actors S fits = let s1 = S.sn in let s2 = S.stable_is in let s3 = S.flushed in let s4 = S.ctail in let s5 = S.tail in let s6 = S.given in
    let top : lsn m.sn ≡ lsn c.base = ap lsn s1 in record {
      paged = record {
        closed_links = record {
          order = omega arith;
          free = λ _. omega arith;
          bound = omega arith;
          known = λ x z. let y = S.closed x in absurd (cc);
          below = λ i e is. absurd (some-ne-none e (sym is));
          window = λ i e is. absurd (some-ne-none e (sym is));
          links_are = λ i l pos. let y = S.clinks i in absurd (omega arith);
          standing = λ i e is. absurd (some-ne-none e (sym is));
        };
        lists = record { relaxed = λ _. tt; near = λ _. tt; real = λ _. tt };
        each_page = λ p t. subst (λ (w : PageWords). OnePage c p [] h.closed h.given stable w 0 (h.kept_page p)) (sym (S.page_words p t)) (subst (λ (k : KeptPage). OnePage c p [] h.closed h.given stable (record { latch = 0; newest = 0; oldest = 0; frame = (page_words_at m.page_words p).frame }) 0 k) (sym (S.kept_page p)) (record {
          latch = omega arith;
          free = λ _. record { frame = S.frames p t; newest = refl; listing = refl };
          oldest = λ z. absurd (omega arith);
          fold = refl;
          ends = inl refl;
          early = S.early p t;
          behind = (let z = S.early p t in omega arith);
          change = λ i e is. absurd (some-ne-none e (sym is));
          passed = λ i e is. absurd (some-ne-none e (sym is));
        }));
        within = omega arith;
        flushed = omega arith;
        stable_top = omega arith;
        stored = S.stored;
        unfinished = subst (AreUnfinished c.pages c.opened h.kept_page [] stable) (sym S.all_written) (none_unfinished c.pages c.opened h.kept_page [] stable);
        alone = λ _. S.given;
      };
      each = fits;
    }
