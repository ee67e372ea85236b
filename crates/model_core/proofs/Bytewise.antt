-- A group acts on the user bytes of a page byte by byte: it gives a byte one value, or leaves it.
use Rattle.std.proofs.Common.{Bool, List, [], ap, arith, cond, drop, eqb, false, get_or, inl, inr, length, length-append, length-drop, ne_eqb, eq-eqb, refl, replicate, suc, sym, take, true, zero, ℕ, ⊎_elim, ◌++◌, ◌+◌, ◌-◌, ◌<◌, ◌∙◌, ◌∷◌, ◌≡◌, ◌≤◌, ◌⊎◌}
use Rattle.std.proofs.Math.ListN.{get_or-append}
use Rattle.std.proofs.Math.Seq.{get_or-append_right}
use Rattle.std.proofs.lemmas.List.{get_or-drop, get_or-replicate, get_or-take, length-replicate, length-take-le}
use Rattle.std.specs.Int.{bytes_high_first}
use Rattle.std.specs.List.{AllByRecursion}
use native.Mathlib.Decide.{dec_le}
use Rattle.model_base.specs.{overwritten, user_length}
use Rattle.model_base.specs.declared.shape.Shape.{Shape}
use Rattle.model_core.specs.Changes.{after_from}
use Rattle.model_core.specs.Writes.{value_at, writes}
use Rattle.model_log.specs.{GroupFits, page_of, RecordFits}
use Rattle.model_log.specs.declared.rec.Rec.{Rec}
use Rattle.model_log.specs.declared.rec.Rec.TheVariants.{Init, Num, Text}
use Rattle.model_store.specs.{user_after, user_after_own}

abbrev byte : List ℕ → ℕ → ℕ
byte l j = get_or l j 0

-- a change of rows of n bytes gives byte j one value, or leaves it
abbrev ActsOn : ℕ → ℕ → (List ℕ → List ℕ) → Type 0
ActsOn n j f = ((v : ℕ) × ((u : List ℕ) → length u ≡ n → byte (f u) j ≡ v)) ⊎ ((u : List ℕ) → length u ≡ n → byte (f u) j ≡ byte u j)

long : (at : ℕ) (bytes old : List ℕ) → at + length bytes ≤ length old → length (overwritten at bytes old) ≡ length old
long at bytes old within =
    length-append (take at old ++ bytes) (drop (at + length bytes) old)
    ∙ (let front = length-append (take at old) bytes in let first = length-take-le at old (omega arith) in let last = length-drop (at + length bytes) old in omega arith)

front_long : (at : ℕ) (bytes old : List ℕ) → at + length bytes ≤ length old → length (take at old ++ bytes) ≡ at + length bytes
front_long at bytes old within = let first = length-take-le at old (omega arith) in length-append (take at old) bytes ∙ ap (λ (k : ℕ). k + length bytes) first

below : (at : ℕ) (bytes old : List ℕ) (j : ℕ) → at + length bytes ≤ length old → j < at → byte (overwritten at bytes old) j ≡ byte old j
below at bytes old j within h = let f = front_long at bytes old within in let t = length-take-le at old (omega arith) in
    get_or-append (take at old ++ bytes) (drop (at + length bytes) old) 0 j (omega arith) ∙ (get_or-append (take at old) bytes 0 j (omega arith) ∙ get_or-take at old j 0 h)

within_it : (at : ℕ) (bytes old : List ℕ) (j : ℕ) → at + length bytes ≤ length old → at ≤ j → j < at + length bytes → byte (overwritten at bytes old) j ≡ byte bytes (j - at)
within_it at bytes old j within lo hi = let f = front_long at bytes old within in let t = length-take-le at old (omega arith) in
    get_or-append (take at old ++ bytes) (drop (at + length bytes) old) 0 j (omega arith) ∙ (get_or-append_right (take at old) bytes j 0 (omega arith) ∙ ap (λ (k : ℕ). byte bytes (j - k)) t)

above : (at : ℕ) (bytes old : List ℕ) (j : ℕ) → at + length bytes ≤ length old → at + length bytes ≤ j → byte (overwritten at bytes old) j ≡ byte old j
above at bytes old j within lo = let f = front_long at bytes old within in let n : ℕ = at + length bytes in
    get_or-append_right (take at old ++ bytes) (drop n old) j 0 (omega arith) ∙ (ap (λ (k : ℕ). byte (drop n old) (j - k)) f ∙ (get_or-drop n old (j - n) 0 ∙ ap (λ (k : ℕ). byte old k) (let e : n + (j - n) ≡ j = omega arith in e)))

overwrite_acts : (n j at : ℕ) (bytes : List ℕ) → at + length bytes ≤ n → ActsOn n j (overwritten at bytes)
overwrite_acts n j at bytes within = elim (dec_le at j) [
  | no d ↦ inr (λ u e. below at bytes u j (omega arith) (omega arith))
  | yes d ↦ elim (dec_le (at + length bytes) j) [
    | yes q ↦ inr (λ u e. above at bytes u j (omega arith) q)
    | no q ↦ inl (byte bytes (j - at), λ u e. within_it at bytes u j (omega arith) d (omega arith))
  ]
]

long_number : (k n : ℕ) → length (bytes_high_first k n) ≡ k
long_number zero n = refl
long_number (suc k) n = ap suc (long_number k n)

abbrev Within : ℕ → Rec → Type 0
Within n (Num width space page offset value) = offset - 38 + width ≤ n
Within n (Text space page offset bytes) = offset - 38 + length bytes ≤ n
Within n (Init space page) = Unit {0}

own_long : (rec : Rec) (n : ℕ) (u : List ℕ) → Within n rec → length u ≡ n → length (user_after_own rec u) ≡ n
own_long (Num width space page offset value) n u w e = let l = long_number width value in long (offset - 38) (bytes_high_first width value) u (omega arith) ∙ e
own_long (Text space page offset bytes) n u w e = long (offset - 38) bytes u (omega arith) ∙ e
own_long (Init space page) n u w e = length-replicate (length u) 0 ∙ e

own_acts : (rec : Rec) (n j : ℕ) → Within n rec → j < n → ActsOn n j (user_after_own rec)
own_acts (Num width space page offset value) n j w h = let l = long_number width value in overwrite_acts n j (offset - 38) (bytes_high_first width value) (omega arith)
own_acts (Text space page offset bytes) n j w h = overwrite_acts n j (offset - 38) bytes w
own_acts (Init space page) n j w h = inl (0, λ u e. get_or-replicate (length u) j 0 0 (omega arith))

abbrev stepped : Bool → Rec → List ℕ → List ℕ
stepped b rec u = cond b (user_after_own rec u) u

step_long : (b : Bool) (rec : Rec) (n : ℕ) (u : List ℕ) → Within n rec → length u ≡ n → length (stepped b rec u) ≡ n
step_long true rec n u w e = own_long rec n u w e
step_long false rec n u w e = e

step_acts : (b : Bool) (rec : Rec) (n j : ℕ) → Within n rec → j < n → ActsOn n j (stepped b rec)
step_acts true rec n j w h = own_acts rec n j w h
step_acts false rec n j w h = inr (λ u e. refl)

after : (n j : ℕ) (f g : List ℕ → List ℕ) → ((u : List ℕ) → length u ≡ n → length (f u) ≡ n) → ActsOn n j f → ActsOn n j g → ActsOn n j (λ u. g (f u))
after n j f g long a b = ⊎_elim
    (λ t. inl (t.0, λ u e. t.1 (f u) (long u e)))
    (λ t. ⊎_elim (λ s. inl (s.0, λ u e. t (f u) (long u e) ∙ s.1 u e)) (λ s. inr (λ u e. t (f u) (long u e) ∙ s u e)) a) b

group_acts : (p : ℕ) (group : List Rec) (n j : ℕ) → AllByRecursion (Within n) group → j < n → ActsOn n j (user_after p group)
group_acts p [] n j w h = inr (λ u e. refl)
group_acts p (rec ∷ recs) n j w h = after n j (stepped (eqb (page_of rec) p) rec) (user_after p recs)
    (λ u e. step_long (eqb (page_of rec) p) rec n u w.0 e) (step_acts (eqb (page_of rec) p) rec n j w.0 h) (group_acts p recs n j w.1 h)

record_within : (shape : Shape) (rec : Rec) → RecordFits shape rec → Within (user_length shape) rec
record_within shape (Num width space page offset value) fits = let a = fits.2.after_header in let b = fits.2.before_trailer in omega arith
record_within shape (Text space page offset bytes) fits = let a = fits.1.after_header in let b = fits.1.before_trailer in omega arith
record_within shape (Init space page) fits = tt

group_within : (shape : Shape) (group : List Rec) → GroupFits shape group → AllByRecursion (Within (user_length shape)) group
group_within shape [] fits = tt
group_within shape (rec ∷ recs) fits = (record_within shape rec fits.0, group_within shape recs fits.1)

pub decided : (shape : Shape) (group : List Rec) (p j : ℕ) (user : List ℕ) → GroupFits shape group
    → length user ≡ user_length shape → j < user_length shape
    → get_or (user_after p group user) j 0 ≡ cond (writes shape p group j) (value_at shape p group j) (get_or user j 0)
decided shape group p j user fits l h =
    let n : ℕ = user_length shape in
    let low : List ℕ = replicate n 0 in
    let high : List ℕ = replicate n 255 in
    let low_long : length low ≡ n = length-replicate {A = ℕ} n 0 in
    let high_long : length high ≡ n = length-replicate {A = ℕ} n 255 in
    ⊎_elim
    (λ t. let a = t.1 low low_long in let b = t.1 high high_long in
    t.1 user l ∙ (sym a ∙ sym (ap (λ (x : Bool). cond x (value_at shape p group j) (get_or user j 0)) (eq-eqb (value_at shape p group j) (byte (after_from shape 255 p group) j) (a ∙ sym b)))))
    (λ t. let a = t low low_long ∙ get_or-replicate {A = ℕ} n j 0 0 h in let b = t high high_long ∙ get_or-replicate {A = ℕ} n j 255 0 h in
    t user l ∙ sym (ap (λ (x : Bool). cond x (value_at shape p group j) (get_or user j 0)) (ne_eqb (value_at shape p group j) (byte (after_from shape 255 p group) j) (λ e. let z : ◌≡◌ {A = ℕ} 0 255 = sym a ∙ (e ∙ b) in absurd (omega arith)))))
    (group_acts p group n j (group_within shape group fits) h)

group_long : (p : ℕ) (group : List Rec) (n : ℕ) (u : List ℕ) → AllByRecursion (Within n) group → length u ≡ n → length (user_after p group u) ≡ n
group_long p [] n u w e = e
group_long p (rec ∷ recs) n u w e = group_long p recs n (stepped (eqb (page_of rec) p) rec u) w.1 (step_long (eqb (page_of rec) p) rec n u w.0 e)

-- a page keeps as many user bytes as it has
pub user_long : (shape : Shape) (group : List Rec) (p : ℕ) (user : List ℕ) → GroupFits shape group
    → length user ≡ user_length shape → length (user_after p group user) ≡ user_length shape
user_long shape group p user fits l = group_long p group (user_length shape) user (group_within shape group fits) l
