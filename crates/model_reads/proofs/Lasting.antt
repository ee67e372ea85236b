-- What a reader knows lasts while the log grows, and NEWEST rises.
use Rattle.std.proofs.Common.{Bool, List, [], ap, arith, cond, false, refl, subst, suc, sym, true, zero, ℕ, inl, inr, ⊎_elim, ◌++◌, ◌<◌, ◌∙◌, ◌∷◌, ◌≡◌, ◌≤◌}
use Rattle.std.proofs.lemmas.Bool.{leb-true}
use Rattle.std.specs.Prelude.{IfSome, None, Option, Some, nat_le, slice_index, take}
use lib.ListN.{get_elem?}
use mathlib.Core.Option as maybe
use Rattle.model_core.proofs.Lsns.{lsn_le}
use Rattle.model_core.specs.{Entry, failed_at, sn_at, Setup}
use Rattle.model_page.specs.{user_part}
use Rattle.model_pagecore.proofs.PageHistory.{last_some, whole_none}
use Rattle.model_pagecore.specs.{applied_all, applied_upto, cells_on, end_lsn, is_changed_page, write_cells}
use Rattle.model_pagecore.specs.Pages.{last_end}
use Rattle.model_reads.specs.Reading.{AreRead, GlanceFits, ReadEndFits, HasWords, IsRead, newest_in, top_in}
use Rattle.model_reads.specs.declared.read.Glance.{Glance}
use Rattle.model_reads.specs.declared.read.PageRead.{PageRead}
use Rattle.model_reads.specs.declared.read.ReadEnd.{ReadEnd}
use Rattle.model_reads.specs.declared.read.ReadEnd.TheVariants.{Failed, Page}

-- THE RUN HAS GONE ON: SN and each NEWEST are no less, FAILED isn't 0 again, and what the log has more ends above where it ended.
pub record HasGoneOn (c : Setup) (ws ws' : List ℕ) (log log' : List Entry) : Type 0 where
  pub more_sn : slice_index ws sn_at ≤ slice_index ws' sn_at
  pub rises : (q : ℕ) → q < c.pages → newest_in c ws q ≤ newest_in c ws' q
  pub fails : 0 < slice_index ws failed_at → 0 < slice_index ws' failed_at
  pub rest : List Entry
  pub grown : log' ≡ log ++ rest
  pub late : (i : ℕ) (e : Entry) → get_elem? rest i ≡ maybe.some e → top_in ws < end_lsn e

abbrev AreLate : ℕ → List Entry → Type 0
AreLate q rest = (i : ℕ) (e : Entry) → get_elem? rest i ≡ maybe.some e → q < end_lsn e

-- groups that end later leave a page as of q
upto_none : (p q : ℕ) (rest : List Entry) (b : List ℕ) → AreLate q rest → applied_upto p q rest b ≡ b
upto_none p q [] b late = refl
upto_none p q (e ∷ es) b late = ap (applied_upto p q es) (at (nat_le (end_lsn e) q) refl)
    ∙ upto_none p q es b (λ i f is. late (suc i) f is)
  where
    at : (d : Bool) → nat_le (end_lsn e) q ≡ d → cond d (write_cells (cells_on p e.changes) b) b ≡ b
    at true low = let above = late zero e refl in let z = leb-true (end_lsn e) q low in absurd (omega arith)
    at false low = refl

upto_same : (p q : ℕ) (log rest : List Entry) (b : List ℕ) → AreLate q rest
    → applied_upto p q (log ++ rest) b ≡ applied_upto p q log b
upto_same p q [] rest b late = upto_none p q rest b late
upto_same p q (x ∷ xs) rest b late =
    upto_same p q xs rest (cond (nat_le (end_lsn x) q) (write_cells (cells_on p x.changes) b) b) late

all_both : (p : ℕ) (log rest : List Entry) (b : List ℕ)
    → applied_all p (log ++ rest) b ≡ applied_all p rest (applied_all p log b)
all_both p [] rest b = refl
all_both p (x ∷ xs) rest b = all_both p xs rest (write_cells (cells_on p x.changes) b)

last_both : (p : ℕ) (log rest : List Entry) (n : ℕ) → last_end p (log ++ rest) n ≡ last_end p rest (last_end p log n)
last_both p [] rest n = refl
last_both p (x ∷ xs) rest n = last_both p xs rest (cond (is_changed_page p x.changes) (end_lsn x) n)

-- where the last group on a page isn't one of them, none of them is on it
words_same : (words : List ℕ) (p n : ℕ) (log rest : List Entry) (b : List ℕ) → AreLate n rest
    → (last_end p log 0 ≡ n → HasWords words (applied_all p log b)) → last_end p (log ++ rest) 0 ≡ n
    → HasWords words (applied_all p (log ++ rest) b)
words_same words p n log rest b late has last =
    subst (HasWords words) (sym (all_both p log rest b)) (⊎_elim
    (λ none. subst (HasWords words) (sym (whole_none p rest (applied_all p log b) none.0))
    (has (sym none.1 ∙ sym (last_both p log rest 0) ∙ last)))
    (λ on. let above = late on.0 on.1 on.2 in let end = on.4 in
    let both = last_both p log rest 0 in absurd (omega arith))
    (last_some p rest (last_end p log 0)))

module _ (c : Setup) (ws ws' : List ℕ) (log log' : List Entry) (on : HasGoneOn c ws ws' log log') where
  higher : top_in ws ≤ top_in ws'
  higher = lsn_le (slice_index ws sn_at) (slice_index ws' sn_at) on.more_sn

  late_for : (q : ℕ) → q ≤ top_in ws → AreLate q on.rest
  late_for q low i e is = let above = on.late i e is in omega arith

  upto_lasts : (p q : ℕ) (b : List ℕ) → q ≤ top_in ws → applied_upto p q log' b ≡ applied_upto p q log b
  upto_lasts p q b low = ap (λ (l : List Entry). applied_upto p q l b) on.grown
      ∙ upto_same p q log on.rest b (late_for q low)

  pub read_lasts : (r : PageRead) → IsRead c ws log r → IsRead c ws' log' r
  read_lasts r o = record {
    there = o.there;
    upto = (let low = o.upto in let up = higher in omega arith);
    bytes = o.bytes ∙ ap (λ (b : List ℕ). user_part (take c.page_size b))
        (sym (upto_lasts r.page r.lsn (c.opened r.page).bytes o.upto));
  }

  pub glance_lasts : (g : Glance) → GlanceFits c ws log g → GlanceFits c ws' log' g
  glance_lasts g o = let up = on.rises g.page o.there in record {
    there = o.there;
    newest = (let low = o.newest in omega arith);
    since = o.since;
    upto = (let low = o.upto in let more = higher in omega arith);
    words = λ last. subst (λ (l : List Entry). HasWords g.words (applied_all g.page l (c.opened g.page).bytes))
        (sym on.grown)
        (words_same g.words g.page g.newest log on.rest (c.opened g.page).bytes
        (late_for g.newest (let low = o.since in let top = o.upto in omega arith)) o.words
        (subst (λ (l : List Entry). last_end g.page l 0 ≡ g.newest) on.grown last));
    free = λ seen. ⊎_elim
        (λ has. inl (subst (HasWords g.words)
        (sym (upto_lasts g.page g.upto (c.opened g.page).bytes o.upto)) has))
        (λ less. inr (omega arith)) (o.free seen);
  }

  end_lasts : (r : ReadEnd) → ReadEndFits c ws log r → ReadEndFits c ws' log' r
  end_lasts (Page r) o = read_lasts r o
  end_lasts (Failed code) o = (o.0, on.fails o.1)

  pub reads_last : (reads : List ReadEnd) → AreRead c ws log reads → AreRead c ws' log' reads
  reads_last [] all = tt
  reads_last (r ∷ rs) all = (end_lasts r all.0, reads_last rs all.1)

  pub glance_if : (g : Option Glance) → IfSome g (GlanceFits c ws log) → IfSome g (GlanceFits c ws' log')
  glance_if None fits = tt
  glance_if (Some g) fits = glance_lasts g fits
