-- Facts on the list of groups and its stream that know nothing of actors.
use Rattle.std.proofs.Common.{Bool, List, [], ap, append-nil, append_assoc, arith, cond, eq-eqb, eqb, eqb-true, false, get_or, inl, inr, le-ltb, length, length-append, lt-ltb, ltb, ltb-true, ne_eqb, refl, subst, suc, sym, true, zero, ℕ, ⊎_elim, ◌%◌, ◌++◌, ◌+◌, ◌-◌, ◌/◌, ◌<◌, ◌∙◌, ◌∷◌, ◌≡◌, ◌≢◌, ◌≤◌, ◌⊎◌}
use Rattle.std.specs.Prelude.{slice_index}
use lib.ListN.{get_elem?}
use native.Mathlib.Decide.{dec_le}
use Rattle.model_core.specs.States.{Entry, end_of}
use Rattle.model_core.specs.Stream.{IsBound, Tiles, byte_at, crosses, crossing, first_of, stream, sum_of}
use mathlib.Core.Option as maybe
use Rattle.model_log.specs.declared.layout.TheConstants.{BLOCK_DATA}
use Rattle.model_base.specs.declared.limits.TheConstants.{MAX_GROUP}

pub some_same : {A : Type 0} (l : List A) (i : ℕ) (a b : A) → get_elem? l i ≡ maybe.some a → get_elem? l i ≡ maybe.some b → ◌≡◌ {A = A} a b
some_same l i a b x y = maybe.some-injective a b (sym x ∙ y)

pub at_end : {A : Type 0} (l : List A) (a b : A) (j : ℕ) → get_elem? (l ++ a ∷ []) j ≡ maybe.some b → (get_elem? l j ≡ maybe.some b) ⊎ ((j ≡ length l) × ◌≡◌ {A = A} a b)
at_end [] a b zero e = inr (refl, maybe.some-injective a b e)
at_end [] a b (suc j) e = absurd (maybe.some-ne-none b (sym e))
at_end (x ∷ xs) a b zero e = inl e
at_end (x ∷ xs) a b (suc j) e = ⊎_elim (λ t. inl t) (λ t. inr (ap suc t.0, t.1)) (at_end xs a b j e)

pub at_less : {A : Type 0} (l : List A) (i : ℕ) (a : A) → get_elem? l i ≡ maybe.some a → i < length l
at_less [] i a e = absurd (maybe.some-ne-none a (sym e))
at_less (x ∷ xs) zero a e = omega arith
at_less (x ∷ xs) (suc i) a e = let r = at_less xs i a e in omega arith

pub tiles_snoc : (log : List Entry) (s n : ℕ) (e : Entry) → Tiles s log n → e.start ≡ n → 0 < length e.bytes → length e.bytes ≤ MAX_GROUP → Tiles s (log ++ e ∷ []) (n + length e.bytes)
tiles_snoc [] s n e t is some few = (is ∙ sym t, some, few, ap (λ (k : ℕ). k + length e.bytes) t)
tiles_snoc (x ∷ xs) s n e t is some few = (t.0, t.1, t.2, tiles_snoc xs (s + length x.bytes) n e t.3 is some few)

pub tiles_le : (log : List Entry) (s n : ℕ) → Tiles s log n → s ≤ n
tiles_le [] s n t = omega arith
tiles_le (x ∷ xs) s n t = let r = tiles_le xs (s + length x.bytes) n t.3 in omega arith

-- where a group of the list lies
pub tiles_at : (log : List Entry) (s n i : ℕ) (e : Entry) → Tiles s log n → get_elem? log i ≡ maybe.some e → (s ≤ e.start) × (end_of e ≤ n) × (0 < length e.bytes) × (length e.bytes ≤ MAX_GROUP)
tiles_at [] s n i e t is = absurd (maybe.some-ne-none e (sym is))
tiles_at (x ∷ xs) s n zero e t is = let r = tiles_le xs (s + length x.bytes) n t.3 in
    subst (λ (y : Entry). (s ≤ y.start) × (end_of y ≤ n) × (0 < length y.bytes) × (length y.bytes ≤ MAX_GROUP)) (maybe.some-injective x e is) (let a = t.0 in omega arith, (let a = t.0 in omega arith), t.1, t.2)
tiles_at (x ∷ xs) s n (suc i) e t is = let r = tiles_at xs (s + length x.bytes) n i e t.3 is in (let a = r.0 in omega arith, r.1, r.2, r.3)

pub stream_long : (log : List Entry) (s n : ℕ) → Tiles s log n → s + length (stream log) ≡ n
stream_long [] s n t = omega arith
stream_long (x ∷ xs) s n t = let r = stream_long xs (s + length x.bytes) n t.3 in omega (arith, length-append x.bytes (stream xs))

append_front : (xs ys : List ℕ) (i : ℕ) → i < length xs → get_or (xs ++ ys) i 0 ≡ get_or xs i 0
append_front [] ys i h = absurd (omega arith)
append_front (x ∷ xs) ys zero h = refl
append_front (x ∷ xs) ys (suc i) h = append_front xs ys i (omega arith)

append_back : (xs ys : List ℕ) (i : ℕ) → get_or (xs ++ ys) (length xs + i) 0 ≡ get_or ys i 0
append_back [] ys i = ap (λ (k : ℕ). get_or ys k 0) (omega arith)
append_back (x ∷ xs) ys i = ap (λ (k : ℕ). get_or (x ∷ (xs ++ ys)) k 0) (let e : suc (length xs) + i ≡ suc (length xs + i) = omega arith in e) ∙ append_back xs ys i

pub front : (xs ys : List ℕ) (i : ℕ) → i < length xs → get_or (xs ++ ys) i 0 ≡ get_or xs i 0
front = append_front

pub back : (xs ys : List ℕ) (n i : ℕ) → n ≡ length xs → get_or (xs ++ ys) (n + i) 0 ≡ get_or ys i 0
back xs ys n i e = subst (λ (k : ℕ). get_or (xs ++ ys) (k + i) 0 ≡ get_or ys i 0) (sym e) (append_back xs ys i)

pub stream_snoc : (log : List Entry) (e : Entry) → stream (log ++ e ∷ []) ≡ stream log ++ e.bytes
stream_snoc [] e = append-nil e.bytes
stream_snoc (y ∷ ys) e = ap (λ z. y.bytes ++ z) (stream_snoc ys e) ∙ sym (append_assoc y.bytes (stream ys) e.bytes)

-- the bytes of a group are the stream's
pub entry_byte : (log : List Entry) (s n i : ℕ) (e : Entry) (j : ℕ) → Tiles s log n → get_elem? log i ≡ maybe.some e → j < length e.bytes → byte_at s log (e.start + j) ≡ slice_index e.bytes j
entry_byte [] s n i e j t is l = absurd (maybe.some-ne-none e (sym is))
entry_byte (x ∷ xs) s n zero e j t is l =
    let same : ◌≡◌ {A = Entry} x e = maybe.some-injective x e is in
    let lx : j < length x.bytes = subst (λ (y : Entry). j < length y.bytes) (sym same) l in
    subst (λ (y : Entry). slice_index (x.bytes ++ stream xs) (y.start + j - s) ≡ slice_index y.bytes j) same
    (ap (slice_index (x.bytes ++ stream xs)) (let a = t.0 in let z : x.start + j - s ≡ j = omega arith in z) ∙ front x.bytes (stream xs) j lx)
entry_byte (x ∷ xs) s n (suc i) e j t is l =
    let r = entry_byte xs (s + length x.bytes) n i e j t.3 is l in
    let w = tiles_at xs (s + length x.bytes) n i e t.3 is in
    let lo = w.0 in
    let k : ℕ = e.start + j - (s + length x.bytes) in
    ap (slice_index (x.bytes ++ stream xs)) (let z : e.start + j - s ≡ length x.bytes + k = omega arith in z) ∙ back x.bytes (stream xs) (length x.bytes) k refl ∙ r

-- a later group leaves the bytes before it
pub byte_snoc : (log : List Entry) (s n : ℕ) (e : Entry) (x : ℕ) → Tiles s log n → s ≤ x → x < n → byte_at s (log ++ e ∷ []) x ≡ byte_at s log x
byte_snoc log s n e x t lo hi = let w = stream_long log s n t in
    ap (λ (z : List ℕ). slice_index z (x - s)) (stream_snoc log e) ∙ front (stream log) e.bytes (x - s) (omega arith)

pub bound_start : (log : List Entry) (s : ℕ) → IsBound s log s
bound_start [] s = refl
bound_start (x ∷ xs) s = inl refl

pub bound_snoc : (log : List Entry) (s x : ℕ) (e : Entry) → IsBound s log x → IsBound s (log ++ e ∷ []) x
bound_snoc [] s x e b = inl b
bound_snoc (y ∷ ys) s x e b = ⊎_elim (λ t. inl t) (λ t. inr (bound_snoc ys (s + length y.bytes) x e t)) b

pub bound_end : (log : List Entry) (s n i : ℕ) (e : Entry) → Tiles s log n → get_elem? log i ≡ maybe.some e → IsBound s log (end_of e)
bound_end [] s n i e t is = absurd (maybe.some-ne-none e (sym is))
bound_end (x ∷ xs) s n zero e t is = subst (λ (y : Entry). IsBound s (x ∷ xs) (end_of y)) (maybe.some-injective x e is)
    (inr (subst (λ (k : ℕ). IsBound (s + length x.bytes) xs (k + length x.bytes)) (sym t.0) (bound_start xs (s + length x.bytes))))
bound_end (x ∷ xs) s n (suc i) e t is = inr (bound_end xs (s + length x.bytes) n i e t.3 is)

pub sum_of_append : (h : Entry → ℕ) (xs ys : List Entry) → sum_of h (xs ++ ys) ≡ sum_of h xs + sum_of h ys
sum_of_append h [] ys = omega arith
sum_of_append h (x ∷ xs) ys = let r = sum_of_append h xs ys in omega arith

-- crossings

and_true : (a b : Bool) → cond a b false ≡ true → (a ≡ true) × (b ≡ true)
and_true true b e = (refl, e)
and_true false b e = absurd (cc)

pub crosses_is : (q : ℕ) (e : Entry) → crosses q e ≡ true → (end_of e / BLOCK_DATA ≡ q) × (e.start / BLOCK_DATA < q)
crosses_is q e h = let r = and_true (eqb (end_of e / BLOCK_DATA) q) (ltb (e.start / BLOCK_DATA) q) h in (eqb-true (end_of e / BLOCK_DATA) q r.0, ltb-true (e.start / BLOCK_DATA) q r.1)

pub is_crosses : (q : ℕ) (e : Entry) → end_of e / BLOCK_DATA ≡ q → e.start / BLOCK_DATA < q → crosses q e ≡ true
is_crosses q e a b = ap (λ z. cond z (ltb (e.start / BLOCK_DATA) q) false) (eq-eqb (end_of e / BLOCK_DATA) q a) ∙ lt-ltb (e.start / BLOCK_DATA) q b

pub not_crosses : (q : ℕ) (e : Entry) → q ≤ e.start / BLOCK_DATA → crosses q e ≡ false
not_crosses q e h = at (eqb (end_of e / BLOCK_DATA) q)
  where
    at : (b : Bool) → cond b (ltb (e.start / BLOCK_DATA) q) false ≡ false
    at true = le-ltb (e.start / BLOCK_DATA) q h
    at false = refl

-- a crossing is that of some group of the list
pub crossing_some : (q : ℕ) (log : List Entry) → 0 < crossing q log → (i : ℕ) × (e : Entry) × (get_elem? log i ≡ maybe.some e) × (crosses q e ≡ true) × (crossing q log ≡ end_of e % BLOCK_DATA + 12)
crossing_some q [] h = absurd (omega arith)
crossing_some q (x ∷ xs) h = at (λ l. crossing_some q xs l) (crosses q x) refl h
  where
    at : (0 < crossing q xs → (i : ℕ) × (e : Entry) × (get_elem? xs i ≡ maybe.some e) × (crosses q e ≡ true) × (crossing q xs ≡ end_of e % BLOCK_DATA + 12)) → (b : Bool) → crosses q x ≡ b → 0 < cond b (end_of x % BLOCK_DATA + 12) (crossing q xs)
        → (i : ℕ) × (e : Entry) × (get_elem? (x ∷ xs) i ≡ maybe.some e) × (crosses q e ≡ true) × (cond b (end_of x % BLOCK_DATA + 12) (crossing q xs) ≡ end_of e % BLOCK_DATA + 12)
    at more true c h = (zero, x, refl, c, refl)
    at more false c h = let r = more h in (suc r.0, r.1, r.2, r.3, r.4)

-- a group that crosses makes the crossing
pub crossing_there : (q : ℕ) (log : List Entry) (i : ℕ) (e : Entry) → get_elem? log i ≡ maybe.some e → crosses q e ≡ true → 0 < crossing q log
crossing_there q [] i e is c = absurd (maybe.some-ne-none e (sym is))
crossing_there q (x ∷ xs) zero e is c = subst (λ b. 0 < cond b (end_of x % BLOCK_DATA + 12) (crossing q xs)) (sym (ap (crosses q) (maybe.some-injective x e is) ∙ c)) (omega arith)
crossing_there q (x ∷ xs) (suc i) e is c = at (crosses q x) (crossing_there q xs i e is c)
  where
    at : (b : Bool) → 0 < crossing q xs → 0 < cond b (end_of x % BLOCK_DATA + 12) (crossing q xs)
    at true more = omega arith
    at false more = more

pub crossing_snoc : (q : ℕ) (log : List Entry) (e : Entry) → crosses q e ≡ false → crossing q (log ++ e ∷ []) ≡ crossing q log
crossing_snoc q [] e c = ap (λ b. cond b (end_of e % BLOCK_DATA + 12) 0) c
crossing_snoc q (x ∷ xs) e c = ap (cond (crosses q x) (end_of x % BLOCK_DATA + 12)) (crossing_snoc q xs e c)

-- a later group that starts in block q or above leaves q's first offset
pub first_snoc : (base : ℕ) (log : List Entry) (e : Entry) (q : ℕ) → q ≤ e.start / BLOCK_DATA → first_of base (log ++ e ∷ []) q ≡ first_of base log q
first_snoc base log e q h = ap (cond (eqb q (base / BLOCK_DATA)) 12) (crossing_snoc q log e (not_crosses q e h))

-- a first offset other than that of the first block comes from a group that crosses
pub first_from : (base : ℕ) (log : List Entry) (q : ℕ) → q ≢ base / BLOCK_DATA → (first_of base log q ≡ 0) ⊎ ((i : ℕ) × (e : Entry) × (get_elem? log i ≡ maybe.some e) × (crosses q e ≡ true) × (first_of base log q ≡ end_of e % BLOCK_DATA + 12))
first_from base log q ne = let off : first_of base log q ≡ crossing q log = ap (λ z. cond z 12 (crossing q log)) (ne_eqb q (base / BLOCK_DATA) ne) in
    elim (dec_le 1 (crossing q log)) [
      | yes d ↦ (let r = crossing_some q log (omega arith) in inr (r.0, r.1, r.2, r.3, off ∙ r.4))
      | no d ↦ inl (omega arith)
    ]

pub first_base : (base : ℕ) (log : List Entry) → first_of base log (base / BLOCK_DATA) ≡ 12
first_base base log = ap (λ z. cond z 12 (crossing (base / BLOCK_DATA) log)) (eq-eqb (base / BLOCK_DATA) (base / BLOCK_DATA) refl)

-- a value at one place changed, and values from lo to below hi changed
abbrev pub changed : {A : Type 0} → (ℕ → A) → ℕ → A → ℕ → A
changed f k a x = cond (eqb x k) a (f x)

pub changed_here : {A : Type 0} (f : ℕ → A) (k : ℕ) (a : A) (x : ℕ) → x ≡ k → ◌≡◌ {A = A} (changed f k a x) a
changed_here f k a x e = ap (λ b. cond b a (f x)) (eq-eqb x k e)

pub changed_else : {A : Type 0} (f : ℕ → A) (k : ℕ) (a : A) (x : ℕ) → x ≢ k → ◌≡◌ {A = A} (changed f k a x) (f x)
changed_else f k a x n = ap (λ b. cond b a (f x)) (ne_eqb x k n)

abbrev pub ranged : {A : Type 0} → (ℕ → A) → ℕ → ℕ → A → ℕ → A
ranged f lo hi a x = cond (ltb x lo) (f x) (cond (ltb x hi) a (f x))

pub ranged_in : {A : Type 0} (f : ℕ → A) (lo hi : ℕ) (a : A) (x : ℕ) → lo ≤ x → x < hi → ◌≡◌ {A = A} (ranged f lo hi a x) a
ranged_in f lo hi a x l h = ap (λ b. cond b (f x) (cond (ltb x hi) a (f x))) (le-ltb x lo l) ∙ ap (λ b. cond b a (f x)) (lt-ltb x hi h)

pub ranged_below : {A : Type 0} (f : ℕ → A) (lo hi : ℕ) (a : A) (x : ℕ) → x < lo → ◌≡◌ {A = A} (ranged f lo hi a x) (f x)
ranged_below f lo hi a x l = ap (λ b. cond b (f x) (cond (ltb x hi) a (f x))) (lt-ltb x lo l)

pub ranged_above : {A : Type 0} (f : ℕ → A) (lo hi : ℕ) (a : A) (x : ℕ) → lo ≤ x → hi ≤ x → ◌≡◌ {A = A} (ranged f lo hi a x) (f x)
ranged_above f lo hi a x l h = ap (λ b. cond b (f x) (cond (ltb x hi) a (f x))) (le-ltb x lo l) ∙ ap (λ b. cond b a (f x)) (le-ltb x hi h)

-- outside of the range
pub ranged_out : {A : Type 0} (f : ℕ → A) (lo hi : ℕ) (a : A) (x : ℕ) → (lo ≤ x → x < hi → ⊥) → ◌≡◌ {A = A} (ranged f lo hi a x) (f x)
ranged_out f lo hi a x n = elim (dec_le lo x) [
  | yes d ↦ ranged_above f lo hi a x d (elim (dec_le hi x) [ yes q ↦ q | no q ↦ absurd (n d (omega arith)) ])
  | no d ↦ ranged_below f lo hi a x (omega arith)
]
