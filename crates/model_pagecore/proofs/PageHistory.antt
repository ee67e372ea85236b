-- Facts on one page in the history, and on flush lists, that know nothing of actors.
use Rattle.std.proofs.Common.{Bool, List, [], ap, arith, cond, eq-eqb, eqb, eqb-true, false, inl, inr, leb-false, leb-true, length, ne_eqb, refl, subst, suc, sym, take, true, zero, ℕ, ◌++◌, ◌+◌, ◌<◌, ◌∙◌, ◌∷◌, ◌≡◌, ◌≢◌, ◌≤◌, ◌⊎◌}
use Rattle.std.specs.Prelude.{nat_le}
use lib.ListN.{get_elem?}
use native.Mathlib.Decide.{dec_le, ℕ_discrete}
use Rattle.model_core.proofs.Groups.{some_same, tiles_at, tiles_le}
use Rattle.model_core.proofs.Lsns.{lsn_le, lsn_less}
use Rattle.model_core.specs.{appended, CellWrite, Each, end_of, Entry, Listed, lsn, oldest_of, PageChange, Relaxed, Tiles, without}
use Rattle.model_pagecore.specs.Pages.{EndsAt, Laid, cells_on, end_lsn, last_end, write_cells, is_changed_page, applied_upto, applied_all}
use mathlib.Core.Option as maybe
use Rattle.model_core.specs.declared.limits.TheConstants.{CLOSED_LINKS}

-- a group that doesn't touch a page changes no cell of it
pub none_on : (p : ℕ) (cs : List PageChange) → is_changed_page p cs ≡ false → ◌≡◌ {A = List CellWrite} (cells_on p cs) []
none_on p [] e = refl
none_on p (c ∷ cs) e = at (eqb c.page p) e (λ z. none_on p cs z)
  where
    at : (b : Bool) → cond b true (is_changed_page p cs) ≡ false → (is_changed_page p cs ≡ false → ◌≡◌ {A = List CellWrite} (cells_on p cs) []) → ◌≡◌ {A = List CellWrite} (cond b c.cells (cells_on p cs)) []
    at true e more = absurd (cc)
    at false e more = more e

pub puts_none : (p : ℕ) (cs : List PageChange) (b : List ℕ) → is_changed_page p cs ≡ false → write_cells (cells_on p cs) b ≡ b
puts_none p cs b e = ap (λ (xs : List CellWrite). write_cells xs b) (none_on p cs e)

pub take_all : (xs : List CellWrite) → take (length xs) xs ≡ xs
take_all [] = refl
take_all (x ∷ xs) = ap (λ z. x ∷ z) (take_all xs)

pub whole_snoc : (p : ℕ) (log : List Entry) (e : Entry) (b : List ℕ) → applied_all p (log ++ e ∷ []) b ≡ write_cells (cells_on p e.changes) (applied_all p log b)
whole_snoc p [] e b = refl
whole_snoc p (x ∷ xs) e b = whole_snoc p xs e (write_cells (cells_on p x.changes) b)

pub last_snoc : (p : ℕ) (log : List Entry) (e : Entry) (n : ℕ) → last_end p (log ++ e ∷ []) n ≡ cond (is_changed_page p e.changes) (end_lsn e) (last_end p log n)
last_snoc p [] e n = refl
last_snoc p (x ∷ xs) e n = last_snoc p xs e (cond (is_changed_page p x.changes) (end_lsn x) n)

pub upto_snoc : (p q : ℕ) (log : List Entry) (e : Entry) (b : List ℕ) → q < end_lsn e → applied_upto p q (log ++ e ∷ []) b ≡ applied_upto p q log b
upto_snoc p q [] e b h = ap (λ (d : Bool). cond d (write_cells (cells_on p e.changes) b) b) (over (nat_le (end_lsn e) q) refl)
  where
    over : (d : Bool) → nat_le (end_lsn e) q ≡ d → d ≡ false
    over true z = let k = leb-true (end_lsn e) q z in absurd (omega arith)
    over false z = refl
upto_snoc p q (x ∷ xs) e b h = upto_snoc p q xs e (cond (nat_le (end_lsn x) q) (write_cells (cells_on p x.changes) b) b) h

-- with every group on p at or below q, nothing is missing
pub upto_whole : (p q : ℕ) (log : List Entry) (b : List ℕ) → ((i : ℕ) (e : Entry) → get_elem? log i ≡ maybe.some e → is_changed_page p e.changes ≡ true → end_lsn e ≤ q) → applied_upto p q log b ≡ applied_all p log b
upto_whole p q [] b h = refl
upto_whole p q (x ∷ xs) b h = ap (applied_upto p q xs) (at (nat_le (end_lsn x) q) (is_changed_page p x.changes) refl refl) ∙ upto_whole p q xs (write_cells (cells_on p x.changes) b) (λ i e is. h (suc i) e is)
  where
    at : (d t : Bool) → nat_le (end_lsn x) q ≡ d → is_changed_page p x.changes ≡ t → cond d (write_cells (cells_on p x.changes) b) b ≡ write_cells (cells_on p x.changes) b
    at true t e f = refl
    at false true e f = let k = h zero x refl f in let n = leb-false (end_lsn x) q e in absurd (omega arith)
    at false false e f = sym (puts_none p x.changes b f)

-- where the groups after one don't touch p
pub whole_none : (p : ℕ) (log : List Entry) (b : List ℕ) → ((i : ℕ) (e : Entry) → get_elem? log i ≡ maybe.some e → is_changed_page p e.changes ≡ false) → applied_all p log b ≡ b
whole_none p [] b h = refl
whole_none p (x ∷ xs) b h = ap (applied_all p xs) (puts_none p x.changes b (h zero x refl)) ∙ whole_none p xs b (λ i e is. h (suc i) e is)

pub last_none : (p : ℕ) (log : List Entry) (n : ℕ) → ((i : ℕ) (e : Entry) → get_elem? log i ≡ maybe.some e → is_changed_page p e.changes ≡ false) → last_end p log n ≡ n
last_none p [] n h = refl
last_none p (x ∷ xs) n h = ap (λ (d : Bool). last_end p xs (cond d (end_lsn x) n)) (h zero x refl) ∙ last_none p xs n (λ i e is. h (suc i) e is)

pub whole_after : (p : ℕ) (log : List Entry) (at : ℕ) (e : Entry) (b : List ℕ) → get_elem? log at ≡ maybe.some e → ((i : ℕ) (x : Entry) → get_elem? log i ≡ maybe.some x → at < i → is_changed_page p x.changes ≡ false)
    → applied_all p log b ≡ write_cells (cells_on p e.changes) (applied_all p (take at log) b)
whole_after p [] at e b is h = absurd (maybe.some-ne-none e (sym is))
whole_after p (x ∷ xs) zero e b is h = whole_none p xs (write_cells (cells_on p x.changes) b) (λ i y y_is. h (suc i) y y_is (omega arith)) ∙ ap (λ (y : Entry). write_cells (cells_on p y.changes) b) (maybe.some-injective x e is)
whole_after p (x ∷ xs) (suc at) e b is h = whole_after p xs at e (write_cells (cells_on p x.changes) b) is (λ i y y_is l. h (suc i) y y_is (omega arith))

pub last_after : (p : ℕ) (log : List Entry) (at : ℕ) (e : Entry) (n : ℕ) → get_elem? log at ≡ maybe.some e → is_changed_page p e.changes ≡ true → ((i : ℕ) (x : Entry) → get_elem? log i ≡ maybe.some x → at < i → is_changed_page p x.changes ≡ false) → last_end p log n ≡ end_lsn e
last_after p [] at e n is t h = absurd (maybe.some-ne-none e (sym is))
last_after p (x ∷ xs) zero e n is t h =
    let same : ◌≡◌ {A = Entry} x e = maybe.some-injective x e is in
    last_none p xs (cond (is_changed_page p x.changes) (end_lsn x) n) (λ i y y_is. h (suc i) y y_is (omega arith)) ∙ ap (λ (y : Entry). cond (is_changed_page p y.changes) (end_lsn y) n) same ∙ ap (λ (d : Bool). cond d (end_lsn e) n) t
last_after p (x ∷ xs) (suc at) e n is t h = last_after p xs at e (cond (is_changed_page p x.changes) (end_lsn x) n) is t (λ i y y_is l. h (suc i) y y_is (omega arith))

-- the last group on p, if there is one
abbrev pub LastOn : ℕ → List Entry → ℕ → ℕ → Type 0
LastOn p log n v = (j : ℕ) × (e : Entry) × (get_elem? log j ≡ maybe.some e) × (is_changed_page p e.changes ≡ true) × (v ≡ end_lsn e) × ((i : ℕ) (x : Entry) → get_elem? log i ≡ maybe.some x → j < i → is_changed_page p x.changes ≡ false)

pub last_some : (p : ℕ) (log : List Entry) (n : ℕ) → (((i : ℕ) (e : Entry) → get_elem? log i ≡ maybe.some e → is_changed_page p e.changes ≡ false) × (last_end p log n ≡ n)) ⊎ LastOn p log n (last_end p log n)
last_some p [] n = inl ((λ i e is. absurd (maybe.some-ne-none e (sym is))), refl)
last_some p (x ∷ xs) n = at (is_changed_page p x.changes) refl (last_some p xs (cond (is_changed_page p x.changes) (end_lsn x) n))
  where
    at : (t : Bool) → is_changed_page p x.changes ≡ t
        → (((i : ℕ) (e : Entry) → get_elem? xs i ≡ maybe.some e → is_changed_page p e.changes ≡ false) × (last_end p xs (cond (is_changed_page p x.changes) (end_lsn x) n) ≡ cond (is_changed_page p x.changes) (end_lsn x) n)) ⊎ LastOn p xs (cond (is_changed_page p x.changes) (end_lsn x) n) (last_end p xs (cond (is_changed_page p x.changes) (end_lsn x) n))
        → (((i : ℕ) (e : Entry) → get_elem? (x ∷ xs) i ≡ maybe.some e → is_changed_page p e.changes ≡ false) × (last_end p (x ∷ xs) n ≡ n)) ⊎ LastOn p (x ∷ xs) n (last_end p (x ∷ xs) n)
    at t f (inr r) = inr (suc r.0, r.1, r.2, r.3, r.4, beyond)
      where
        beyond : (i : ℕ) (y : Entry) → get_elem? (x ∷ xs) i ≡ maybe.some y → suc r.0 < i → is_changed_page p y.changes ≡ false
        beyond zero y is l = absurd (omega arith)
        beyond (suc i) y is l = r.5 i y is (omega arith)
    at true f (inl r) = inr (zero, x, refl, f, r.1 ∙ ap (λ (d : Bool). cond d (end_lsn x) n) f, beyond)
      where
        beyond : (i : ℕ) (y : Entry) → get_elem? (x ∷ xs) i ≡ maybe.some y → zero < i → is_changed_page p y.changes ≡ false
        beyond zero y is l = absurd (omega arith)
        beyond (suc i) y is l = r.0 i y is
    at false f (inl r) = inl (none, r.1 ∙ ap (λ (d : Bool). cond d (end_lsn x) n) f)
      where
        none : (i : ℕ) (y : Entry) → get_elem? (x ∷ xs) i ≡ maybe.some y → is_changed_page p y.changes ≡ false
        none zero y is = ap (λ (z : Entry). is_changed_page p z.changes) (sym (maybe.some-injective x y is)) ∙ f
        none (suc i) y is = r.0 i y is

-- every group on p ends at or below the last one's end
pub last_most : (from top p : ℕ) (log : List Entry) (i : ℕ) (e : Entry) → Laid from top log → get_elem? log i ≡ maybe.some e → is_changed_page p e.changes ≡ true → (end_lsn e ≤ last_end p log 0) × EndsAt p log (last_end p log 0)
last_most from top p log i e W is t = at (last_some p log 0)
  where
    at : (((i : ℕ) (e : Entry) → get_elem? log i ≡ maybe.some e → is_changed_page p e.changes ≡ false) × (last_end p log 0 ≡ 0)) ⊎ LastOn p log 0 (last_end p log 0) → (end_lsn e ≤ last_end p log 0) × EndsAt p log (last_end p log 0)
    at (inl r) = let z = r.0 i e is in absurd (cc)
    at (inr r) = (most, (r.0, r.1, r.2, r.3, sym r.4))
      where
        most : end_lsn e ≤ last_end p log 0
        most = elim (ℕ_discrete i r.0) [
          | yes k ↦ (let same = some_same log r.0 e r.1 (subst (λ (j : ℕ). get_elem? log j ≡ maybe.some e) k is) r.2 in let z : end_lsn e ≡ end_lsn r.1 = ap end_lsn same in let v = r.4 in omega arith)
          | no k ↦ elim (dec_le i r.0) [
            | yes d ↦ (let a = W.apart i r.0 e r.1 is r.2 (omega arith) in let w = W.wide r.0 r.1 r.2 in let v = r.4 in omega arith)
            | no d ↦ (let z = r.5 i e is (omega arith) in absurd (cc))
          ]
        ]

-- groups that tile sns are laid in lsns
pub laid : (base sn : ℕ) (log : List Entry) → Tiles base log sn → Laid (lsn base) (lsn sn) log
laid base sn log t = record {
  wide = λ i e is. let w = tiles_at log base sn i e t is in let w2 = w.2 in lsn_less e.start (end_of e) (omega arith);
  over = λ i e is. let w = tiles_at log base sn i e t is in lsn_le base e.start w.0;
  under = λ i e is. let w = tiles_at log base sn i e t is in lsn_le (end_of e) sn w.1;
  apart = λ i j e f ei fj l. lsn_le (end_of e) f.start (tiles_apart log base sn i j e f t ei fj l);
  early = lsn_le base sn (tiles_le log base sn t);
}
  where
    tiles_apart : (log : List Entry) (base sn i j : ℕ) (e f : Entry) → Tiles base log sn → get_elem? log i ≡ maybe.some e → get_elem? log j ≡ maybe.some f → i < j → end_of e ≤ f.start
    tiles_apart [] base sn i j e f t ei fj l = absurd (maybe.some-ne-none e (sym ei))
    tiles_apart (x ∷ xs) base sn zero zero e f t ei fj l = absurd (omega arith)
    tiles_apart (x ∷ xs) base sn zero (suc j) e f t ei fj l = let w = (tiles_at xs (base + length x.bytes) sn j f t.3 fj).0 in let s = t.0 in
        subst (λ (y : Entry). end_of y ≤ f.start) (maybe.some-injective x e ei) (omega arith)
    tiles_apart (x ∷ xs) base sn (suc i) zero e f t ei fj l = absurd (omega arith)
    tiles_apart (x ∷ xs) base sn (suc i) (suc j) e f t ei fj l = tiles_apart xs (base + length x.bytes) sn i j e f t.3 ei fj (omega arith)

-- flush lists

pub each_more : (P Q : Listed → Type 0) (l : List Listed) → ((x : Listed) → P x → Q x) → Each P l → Each Q l
each_more P Q [] f h = tt
each_more P Q (x ∷ xs) f h = (f x h.0, each_more P Q xs f h.1)

pub each_joined : (P : Listed → Type 0) (l : List Listed) (p x : ℕ) → Each P l → P (record { page = p; oldest = x }) → Each P (appended l p x)
each_joined P [] p x h n = (n, tt)
each_joined P (y ∷ ys) p x h n = (h.0, each_joined P ys p x h.1 n)

pub each_without : (P : Listed → Type 0) (l : List Listed) (p : ℕ) → Each P l → Each P (without p l)
each_without P [] p h = tt
each_without P (y ∷ ys) p h = at (eqb y.page p) (each_without P ys p h.1)
  where
    at : (b : Bool) → Each P (without p ys) → Each P (cond b (without p ys) (y ∷ without p ys))
    at true r = r
    at false r = (h.0, r)

pub relaxed_joined : (l : List Listed) (p x : ℕ) → Relaxed l → Each (λ y. y.oldest < x + CLOSED_LINKS) l → Relaxed (appended l p x)
relaxed_joined [] p x r h = (tt, tt)
relaxed_joined (y ∷ ys) p x r h = (each_joined (λ z. y.oldest < z.oldest + CLOSED_LINKS) ys p x r.0 h.0, relaxed_joined ys p x r.1 h.1)

pub relaxed_without : (l : List Listed) (p : ℕ) → Relaxed l → Relaxed (without p l)
relaxed_without [] p r = tt
relaxed_without (y ∷ ys) p r = at (eqb y.page p) (relaxed_without ys p r.1)
  where
    at : (b : Bool) → Relaxed (without p ys) → Relaxed (cond b (without p ys) (y ∷ without p ys))
    at true k = k
    at false k = (each_without (λ z. y.oldest < z.oldest + CLOSED_LINKS) ys p r.0, k)

pub joined_else : (l : List Listed) (p x q : ℕ) → q ≢ p → oldest_of q (appended l p x) ≡ oldest_of q l
joined_else [] p x q n = ap (λ (b : Bool). let k : ℕ = cond b x 0 in k) (ne_eqb p q (λ e. n (sym e)))
joined_else (y ∷ ys) p x q n = ap (λ (k : ℕ). cond (eqb y.page q) y.oldest k) (joined_else ys p x q n)

pub joined_here : (l : List Listed) (p x : ℕ) → Each (λ y. 0 < y.oldest) l → oldest_of p l ≡ 0 → oldest_of p (appended l p x) ≡ x
joined_here [] p x r e = ap (λ (b : Bool). let k : ℕ = cond b x 0 in k) (eq-eqb p p refl)
joined_here (y ∷ ys) p x r e = at (eqb y.page p) e (λ z. joined_here ys p x r.1 z)
  where
    at : (b : Bool) → ◌≡◌ {A = ℕ} (cond b y.oldest (oldest_of p ys)) 0 → (oldest_of p ys ≡ 0 → oldest_of p (appended ys p x) ≡ x) → ◌≡◌ {A = ℕ} (cond b y.oldest (oldest_of p (appended ys p x))) x
    at true e more = let z = r.0 in absurd (omega arith)
    at false e more = more e

pub without_here : (l : List Listed) (p : ℕ) → oldest_of p (without p l) ≡ 0
without_here [] p = refl
without_here (y ∷ ys) p = at (eqb y.page p) refl (without_here ys p)
  where
    at : (b : Bool) → eqb y.page p ≡ b → oldest_of p (without p ys) ≡ 0 → oldest_of p (cond b (without p ys) (y ∷ without p ys)) ≡ 0
    at true e r = r
    at false e r = ap (λ (b : Bool). let k : ℕ = cond b y.oldest (oldest_of p (without p ys)) in k) e ∙ r

pub without_else : (l : List Listed) (p q : ℕ) → q ≢ p → oldest_of q (without p l) ≡ oldest_of q l
without_else [] p q n = refl
without_else (y ∷ ys) p q n = at (eqb y.page p) refl (without_else ys p q n)
  where
    at : (b : Bool) → eqb y.page p ≡ b → oldest_of q (without p ys) ≡ oldest_of q ys → oldest_of q (cond b (without p ys) (y ∷ without p ys)) ≡ cond (eqb y.page q) y.oldest (oldest_of q ys)
    at true e r = r ∙ sym (ap (λ (b : Bool). let k : ℕ = cond b y.oldest (oldest_of q ys) in k) (ne_eqb y.page q (λ z. n (sym z ∙ eqb-true y.page p e))))
    at false e r = ap (λ (k : ℕ). cond (eqb y.page q) y.oldest k) r

-- a list that has p has its oldest lsn at or above the first less 16,384
pub oldest_after : (x : Listed) (l : List Listed) (p : ℕ) → Relaxed (x ∷ l) → 0 < oldest_of p (x ∷ l) → x.oldest < oldest_of p (x ∷ l) + CLOSED_LINKS
oldest_after x l p r h = at (eqb x.page p) h
  where
    in_rest : (ys : List Listed) → Each (λ y. x.oldest < y.oldest + CLOSED_LINKS) ys → 0 < oldest_of p ys → x.oldest < oldest_of p ys + CLOSED_LINKS
    in_rest [] e h = absurd (omega arith)
    in_rest (y ∷ ys) e h = by (eqb y.page p) h (λ z. in_rest ys e.1 z)
      where
        by : (b : Bool) → 0 < cond b y.oldest (oldest_of p ys) → (0 < oldest_of p ys → x.oldest < oldest_of p ys + CLOSED_LINKS) → x.oldest < cond b y.oldest (oldest_of p ys) + CLOSED_LINKS
        by true h more = e.0
        by false h more = more h

    at : (b : Bool) → 0 < cond b x.oldest (oldest_of p l) → x.oldest < cond b x.oldest (oldest_of p l) + CLOSED_LINKS
    at true h = omega arith
    at false h = in_rest l r.0 h
