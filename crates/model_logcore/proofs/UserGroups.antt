-- Facts on the users' groups: counts, ranks, budgets.
use Rattle.std.proofs.Common.{Bool, List, [], ap, arith, cond, drop, eq-eqb, eqb, length, ne_eqb, refl, subst, suc, sym, take, true, zero, ℕ, ◌%◌, ◌*◌, ◌++◌, ◌+◌, ◌-◌, ◌/◌, ◌<◌, ◌∙◌, ◌∷◌, ◌≡◌, ◌≢◌}
use lib.ListN.{get_elem?}
use native.Mathlib.Decide.{dec_le, ℕ_discrete}
use Rattle.model_log.specs.declared.layout.TheConstants.{BLOCK_DATA}
use Rattle.model_core.proofs.Groups.{crosses_is, crossing_some, crossing_there, some_same, sum_of_append, tiles_at}
use Rattle.model_core.specs.{crosses, crossing, end_of, entries_from, Entry, entry, first_of, Line, line_at, Setup}
use Rattle.model_logcore.specs.LogFacts.{Place, Tiled, count_of}
use Rattle.model_logcore.specs.LogFits.{lengths}
use mathlib.Core.Option as maybe

pub entries_snoc : (user : ℕ) (lines : List Line) (k : ℕ) (starts : List ℕ) (n : ℕ) → entries_from user lines k (starts ++ n ∷ []) ≡ entries_from user lines k starts ++ entry user (k + length starts) n (line_at lines (k + length starts)) ∷ []
entries_snoc user lines k [] n = let e : k ≡ k + 0 = omega arith in ap (λ (j : ℕ). entry user j n (line_at lines j) ∷ []) e
entries_snoc user lines k (s ∷ ss) n = let e : k + 1 + length ss ≡ k + suc (length ss) = omega arith in
    ap (λ z. entry user k s (line_at lines k) ∷ z) (entries_snoc user lines (k + 1) ss n ∙ ap (λ (j : ℕ). entries_from user lines (k + 1) ss ++ entry user j n (line_at lines j) ∷ []) e)

-- the bytes left after one more line is taken
pub lengths_step : (lines : List Line) (n : ℕ) → n < length lines → lengths (drop n lines) ≡ length (line_at lines n).bytes + lengths (drop (n + 1) lines)
lengths_step [] n h = absurd (omega arith)
lengths_step (l ∷ ls) zero h = refl
lengths_step (l ∷ ls) (suc n) h = let e : suc n + 1 ≡ suc (n + 1) = omega arith in
    lengths_step ls n (omega arith) ∙ ap (λ (k : ℕ). length (line_at ls n).bytes + lengths (drop k (l ∷ ls))) (sym e)

pub count_snoc : (user : ℕ) (log : List Entry) (e : Entry) → count_of user (log ++ e ∷ []) ≡ count_of user log + cond (eqb e.user user) 1 0
count_snoc user log e = let r = sum_of_append (λ (x : Entry). cond (eqb x.user user) 1 0) log (e ∷ []) in omega arith

pub one_of : (user : ℕ) (e : Entry) → e.user ≡ user → ◌≡◌ {A = ℕ} (cond (eqb e.user user) 1 0) 1
one_of user e is = ap (λ (b : Bool). let k : ℕ = cond b 1 0 in k) (eq-eqb e.user user is)

pub none_of : (user : ℕ) (e : Entry) → e.user ≢ user → ◌≡◌ {A = ℕ} (cond (eqb e.user user) 1 0) 0
none_of user e is = ap (λ (b : Bool). let k : ℕ = cond b 1 0 in k) (ne_eqb e.user user is)

-- a group counts among its user's
pub count_some : (log : List Entry) (i : ℕ) (e : Entry) → get_elem? log i ≡ maybe.some e → 0 < count_of e.user log
count_some [] i e z = absurd (maybe.some-ne-none e (sym z))
count_some (x ∷ xs) zero e z = let o = one_of e.user x (ap (λ (y : Entry). y.user) (maybe.some-injective x e z)) in omega arith
count_some (x ∷ xs) (suc i) e z = let r = count_some xs i e z in omega arith

-- and its rank is below their number
pub count_front : (log : List Entry) (i : ℕ) (e : Entry) → get_elem? log i ≡ maybe.some e → count_of e.user (take i log) < count_of e.user log
count_front [] i e z = absurd (maybe.some-ne-none e (sym z))
count_front (x ∷ xs) zero e z = let o = one_of e.user x (ap (λ (y : Entry). y.user) (maybe.some-injective x e z)) in omega arith
count_front (x ∷ xs) (suc i) e z = let r = count_front xs i e z in omega arith

-- a user's groups before a later one of its are more
pub count_more : (log : List Entry) (i j : ℕ) (e : Entry) → get_elem? log i ≡ maybe.some e → i < j → count_of e.user (take i log) < count_of e.user (take j log)
count_more [] i j e is l = absurd (maybe.some-ne-none e (sym is))
count_more (x ∷ xs) zero zero e is l = absurd (omega arith)
count_more (x ∷ xs) zero (suc j) e is l = let o = one_of e.user x (ap (λ (y : Entry). y.user) (maybe.some-injective x e is)) in omega arith
count_more (x ∷ xs) (suc i) zero e is l = absurd (omega arith)
count_more (x ∷ xs) (suc i) (suc j) e is l = let r = count_more xs i j e is (omega arith) in omega arith

-- one user's groups have one rank each
pub rank_same : (c : Setup) (sn : ℕ) (log : List Entry) (place : ℕ → Place) (i j : ℕ) (e f : Entry) → Tiled c sn log place → get_elem? log i ≡ maybe.some e → get_elem? log j ≡ maybe.some f → e.user ≡ f.user → e.k ≡ f.k → ◌≡◌ {A = Entry} e f
rank_same c sn log place i j e f T ei fj user k =
    let a = T.ranks i e ei in let b = T.ranks j f fj in
    let same : count_of f.user (take i log) ≡ count_of f.user (take j log) = ap (λ (v : ℕ). count_of v (take i log)) (sym user) ∙ sym a ∙ k ∙ b in
    let equal : i ≡ j = elim (ℕ_discrete i j) [
      | yes d ↦ d
      | no n ↦ elim (dec_le i j) [
        | yes d ↦ (let r = count_more log i j e ei (omega arith) in let r' : count_of f.user (take i log) < count_of f.user (take j log) = subst (λ (v : ℕ). count_of v (take i log) < count_of v (take j log)) user r in absurd (omega arith))
        | no d ↦ (let r = count_more log j i f fj (omega arith) in absurd (omega arith))
      ]
    ] in
    some_same log j e f (subst (λ (q : ℕ). get_elem? log q ≡ maybe.some e) equal ei) fj

-- groups that cross into one block start at one place
pub crossing_same : (c : Setup) (sn : ℕ) (log : List Entry) (place : ℕ → Place) (i j : ℕ) (e f : Entry) (q : ℕ) → Tiled c sn log place → get_elem? log i ≡ maybe.some e → get_elem? log j ≡ maybe.some f → end_of e / BLOCK_DATA ≡ q → e.start / BLOCK_DATA < q → end_of f / BLOCK_DATA ≡ q → f.start / BLOCK_DATA < q → e.start ≡ f.start
crossing_same c sn log place i j e f q T ei fj e0 e1 f0 f1 =
    let y : ℕ = BLOCK_DATA * q - 1 in
    sym (T.placed i e ei y (omega arith) (omega arith)).0 ∙ (T.placed j f fj y (omega arith) (omega arith)).0

-- the one group that crosses into a block gives its first offset
pub first_is : (c : Setup) (sn : ℕ) (log : List Entry) (place : ℕ → Place) (i : ℕ) (e : Entry) (q : ℕ) → Tiled c sn log place → get_elem? log i ≡ maybe.some e → crosses q e ≡ true → first_of c.base log q ≡ end_of e % BLOCK_DATA + 12
first_is c sn log place i e q T is x =
    let k = crosses_is q e x in let k0 = k.0 in let k1 = k.1 in
    let w = tiles_at log c.base sn i e T.tiles is in let w0 = w.0 in
    let later : q ≢ c.base / BLOCK_DATA = (λ z. absurd (omega arith)) in
    let r = crossing_some q log (crossing_there q log i e is x) in
    let o = r.1 in
    let v = crosses_is q o r.3 in let v0 = v.0 in let v1 = v.1 in
    let y : ℕ = BLOCK_DATA * q - 1 in
    let a = (T.placed i e is y (omega arith) (omega arith)).1 in
    let b = (T.placed r.0 o r.2 y (omega arith) (omega arith)).1 in
    let same : end_of o ≡ end_of e = sym b ∙ a in
    ap (λ z. cond z 12 (crossing q log)) (ne_eqb q (c.base / BLOCK_DATA) later) ∙ r.4 ∙ ap (λ (n : ℕ). n % BLOCK_DATA + 12) same
