-- What the records of a group write, byte by byte, is where a page of zeros and one of ones are alike after them.
use Rattle.std.proofs.Common.{Bool, List, None, Option, Some, [], ap, arith, cond, drop, eq-eqb, eqb, false, get_or, inl, inr, leb, length, length-append, length-drop, ltb, ne_eqb, refl, replicate, subst, suc, sym, take, true, zero, ℕ, ◌&&◌, ◌%◌, ◌++◌, ◌+◌, ◌-◌, ◌/◌, ◌<◌, ◌^◌, ◌∙◌, ◌∷◌, ◌≡◌, ◌≤◌, ◌⊎◌}
use Rattle.std.proofs.Math.ListN.{get_or-append}
use Rattle.std.proofs.Math.Nat.{div-one}
use Rattle.std.proofs.Math.Seq.{get_or-append_right}
use Rattle.std.proofs.lemmas.List.{get_or-drop, get_or-replicate, get_or-take, length-replicate, length-take-le}
use Rattle.std.proofs.lemmas.Bool.{and_parts, and_right, le-leb, le-ltb, lt-leb, lt-ltb, ltb-true}
use Rattle.std.specs.Int.{byte_at, bytes_high_first}
use Rattle.std.specs.List.{AllByRecursion}
use Rattle.std.specs.Option.{unwrap_or}
use native.Mathlib.Decide.{dec_le}
use Rattle.model_base.specs.{overwritten, user_length}
use Rattle.model_base.specs.declared.shape.Shape.{Shape}
use Rattle.model_core.specs.{after_from, cell_where_same, CellWrite}
use Rattle.model_log.specs.{page_of}
use Rattle.model_log.specs.declared.rec.Rec.{Rec}
use Rattle.model_log.specs.declared.rec.Rec.TheVariants.{Init, Num, Text}
use Rattle.model_store.specs.{user_after, user_after_own}
use Rattle.redo_apply.specs.{WritesWithin}
use Rattle.redo_useractor.specs.Written.{as_cell, later, own_byte, recorded_byte}

pub byte_at-quotient : (i n : ℕ) → byte_at i n ≡ n / 256 ^ i % 256
byte_at-quotient zero n = ap (λ (q : ℕ). q % 256) (sym (div-one n))
byte_at-quotient (suc i) n = refl

abbrev byte : List ℕ → ℕ → ℕ
byte l j = get_or l j 0

-- NUMBERS: the highest byte stands first
long_number : (w v : ℕ) → length (bytes_high_first w v) ≡ w
long_number zero v = refl
long_number (suc w) v = ap suc (long_number w v)

number_at : (w v k : ℕ) → k < w → byte (bytes_high_first w v) k ≡ byte_at (w - 1 - k) v
number_at zero v k h = absurd (omega arith)
number_at (suc w) v zero h = ap (λ (n : ℕ). byte_at n v) (let e : w ≡ suc w - 1 - 0 = omega arith in e)
number_at (suc w) v (suc k) h = number_at w v k (omega arith) ∙ ap (λ (n : ℕ). byte_at n v) (let e : w - 1 - k ≡ suc w - 1 - suc k = omega arith in e)

-- A WRITE, at one byte
abbrev within : ℕ → ℕ → ℕ → Bool
within at long j = leb at j && ltb (j - at) long

long_row : (at : ℕ) (bytes old : List ℕ) → at + length bytes ≤ length old → length (overwritten at bytes old) ≡ length old
long_row at bytes old fits =
    length-append (take at old ++ bytes) (drop (at + length bytes) old)
    ∙ omega (arith, length-append (take at old) bytes, length-take-le at old (omega arith), length-drop (at + length bytes) old)

write_at : (at : ℕ) (bytes old : List ℕ) (j : ℕ) → at + length bytes ≤ length old → byte (overwritten at bytes old) j ≡ cond (within at (length bytes) j) (byte bytes (j - at)) (byte old j)
write_at at bytes old j fits = by (dec_le at j) (dec_le (at + length bytes) j)
  where
    front : length (take at old ++ bytes) ≡ at + length bytes
    front = let first = length-take-le at old (omega arith) in length-append (take at old) bytes ∙ ap (λ (k : ℕ). k + length bytes) first

    tested : (b : Bool) → within at (length bytes) j ≡ b → byte (overwritten at bytes old) j ≡ cond b (byte bytes (j - at)) (byte old j) → byte (overwritten at bytes old) j ≡ cond (within at (length bytes) j) (byte bytes (j - at)) (byte old j)
    tested b e t = subst (λ (x : Bool). byte (overwritten at bytes old) j ≡ cond x (byte bytes (j - at)) (byte old j)) (sym e) t

    by : Dec (at ≤ j) → Dec (at + length bytes ≤ j) → byte (overwritten at bytes old) j ≡ cond (within at (length bytes) j) (byte bytes (j - at)) (byte old j)
    by (no d) e = tested false (ap (λ (b : Bool). b && ltb (j - at) (length bytes)) (lt-leb at j (omega arith)))
        (get_or-append (take at old ++ bytes) (drop (at + length bytes) old) 0 j (omega (arith, front)) ∙ (get_or-append (take at old) bytes 0 j (omega (arith, length-take-le at old (omega arith))) ∙ get_or-take at old j 0 (omega arith)))
    by (yes d) (no e) = tested true (ap (λ (b : Bool). b && ltb (j - at) (length bytes)) (le-leb at j d) ∙ lt-ltb (j - at) (length bytes) (omega arith))
        (get_or-append (take at old ++ bytes) (drop (at + length bytes) old) 0 j (omega (arith, front)) ∙ (get_or-append_right (take at old) bytes j 0 (omega (arith, length-take-le at old (omega arith))) ∙ ap (λ (k : ℕ). byte bytes (j - k)) (length-take-le at old (omega arith))))
    by (yes d) (yes e) = tested false (ap (λ (b : Bool). b && ltb (j - at) (length bytes)) (le-leb at j d) ∙ le-ltb (j - at) (length bytes) (omega arith))
        (get_or-append_right (take at old ++ bytes) (drop (at + length bytes) old) j 0 (omega (arith, front)) ∙ (ap (λ (k : ℕ). byte (drop (at + length bytes) old) (j - k)) front ∙ (get_or-drop (at + length bytes) old (j - (at + length bytes)) 0 ∙ ap (λ (k : ℕ). byte old k) (let z : at + length bytes + (j - (at + length bytes)) ≡ j = omega arith in z))))

-- A RECORD, at one byte
row_step : (at : ℕ) (bytes u : List ℕ) (j d : ℕ) (acc own : Option ℕ) → at + length bytes ≤ length u → byte u j ≡ unwrap_or acc d
    → own ≡ cond (within at (length bytes) j) (Some (byte bytes (j - at))) None → byte (overwritten at bytes u) j ≡ unwrap_or (later own acc) d
row_step at bytes u j d acc own fits is its = write_at at bytes u j fits ∙ by (within at (length bytes) j) ∙ sym (ap (λ (o : Option ℕ). unwrap_or (later o acc) d) its)
  where
    by : (b : Bool) → cond b (byte bytes (j - at)) (byte u j) ≡ unwrap_or (later (cond b (Some (byte bytes (j - at))) None) acc) d
    by true = refl
    by false = is

own_step : (n : ℕ) (rec : Rec) (u : List ℕ) (j d : ℕ) (acc : Option ℕ) → WritesWithin n rec → length u ≡ n → j < n → byte u j ≡ unwrap_or acc d
    → byte (user_after_own rec u) j ≡ unwrap_or (later (own_byte n rec j) acc) d
own_step n (Num width space page offset value) u j d acc w long h is =
    row_step (offset - 38) (bytes_high_first width value) u j d acc (own_byte n (Num width space page offset value) j) (let l = long_number width value in let a = w.0 in let b = w.1 in omega arith) is its
  where
    by : (b : Bool) → b ≡ within (offset - 38) width j → cond b (Some (byte_at (width - 1 - (j - (offset - 38))) value)) None ≡ cond b (Some (byte (bytes_high_first width value) (j - (offset - 38)))) None
    by true e = ap Some (sym (number_at width value (j - (offset - 38)) (ltb-true (j - (offset - 38)) width (and_parts (leb (offset - 38) j) (ltb (j - (offset - 38)) width) (sym e)).1)))
    by false e = refl

    its : own_byte n (Num width space page offset value) j ≡ cond (within (offset - 38) (length (bytes_high_first width value)) j) (Some (byte (bytes_high_first width value) (j - (offset - 38)))) None
    its = by (within (offset - 38) width j) refl ∙ ap (λ (n : ℕ). let o : Option ℕ = cond (within (offset - 38) n j) (Some (byte (bytes_high_first width value) (j - (offset - 38)))) None in o) (sym (long_number width value))
own_step n (Text space page offset bytes) u j d acc w long h is = row_step (offset - 38) bytes u j d acc (own_byte n (Text space page offset bytes) j) (let a = w.0 in let b = w.1 in omega arith) is refl
own_step n (Init space page) u j d acc w long h is =
    get_or-replicate (length u) j 0 0 (omega arith)
    ∙ sym (ap (λ (b : Bool). unwrap_or (later (cond b (Some 0) None) acc) d) (lt-ltb j n h))

own_long : (n : ℕ) (rec : Rec) (u : List ℕ) → WritesWithin n rec → length u ≡ n → length (user_after_own rec u) ≡ n
own_long n (Num width space page offset value) u w long = long_row (offset - 38) (bytes_high_first width value) u (let l = long_number width value in let a = w.0 in let b = w.1 in omega arith) ∙ long
own_long n (Text space page offset bytes) u w long = long_row (offset - 38) bytes u (let a = w.0 in let b = w.1 in omega arith) ∙ long
own_long n (Init space page) u w long = length-replicate (length u) 0 ∙ long

-- THE RECORDS, at one byte
written_byte : (n p : ℕ) (recs : List Rec) (u : List ℕ) (j d : ℕ) (acc : Option ℕ) → AllByRecursion (WritesWithin n) recs → length u ≡ n → j < n → byte u j ≡ unwrap_or acc d
    → byte (user_after p recs u) j ≡ unwrap_or (recorded_byte n p recs j acc) d
written_byte n p [] u j d acc w long h is = is
written_byte n p (rec ∷ recs) u j d acc w long h is =
    by (eqb (page_of rec) p) (written_byte n p recs (user_after_own rec u) j d (later (own_byte n rec j) acc) w.1 (own_long n rec u w.0 long) h (own_step n rec u j d acc w.0 long h is)) (written_byte n p recs u j d acc w.1 long h is)
  where
    by : (b : Bool) → byte (user_after p recs (user_after_own rec u)) j ≡ unwrap_or (recorded_byte n p recs j (later (own_byte n rec j) acc)) d → byte (user_after p recs u) j ≡ unwrap_or (recorded_byte n p recs j acc) d
        → byte (user_after p recs (cond b (user_after_own rec u) u)) j ≡ unwrap_or (recorded_byte n p recs j (cond b (later (own_byte n rec j) acc) acc)) d
    by true own other = own
    by false own other = other

-- a page of zeros and one of ones are alike after them where they write
cell_or_none : (j x y : ℕ) (o : Option ℕ) → x ≡ unwrap_or o 0 → y ≡ unwrap_or o 255 → cond (eqb x y) (let cells : List CellWrite = record { at = 38 + j; value = x } ∷ [] in cells) [] ≡ as_cell (38 + j) o
cell_or_none j x y None low high =
    ap (λ (b : Bool). cond b (let cells : List CellWrite = record { at = 38 + j; value = x } ∷ [] in cells) []) (ne_eqb x y (λ e. let z : ◌≡◌ {A = ℕ} 0 255 = sym low ∙ e ∙ high in absurd (omega arith)))
cell_or_none j x y (Some v) low high =
    ap (λ (b : Bool). cond b (let cells : List CellWrite = record { at = 38 + j; value = x } ∷ [] in cells) []) (eq-eqb x y (low ∙ sym high))
    ∙ ap (λ (n : ℕ). let cells : List CellWrite = record { at = 38 + j; value = n } ∷ [] in cells) low

pub cell_same : (shape : Shape) (p : ℕ) (recs : List Rec) (j : ℕ) → AllByRecursion (WritesWithin (user_length shape)) recs → j < user_length shape
    → cell_where_same (after_from shape 0 p recs) (after_from shape 255 p recs) j ≡ as_cell (38 + j) (recorded_byte (user_length shape) p recs j None)
cell_same shape p recs j w h =
    let n = user_length shape in
    cell_or_none j (byte (after_from shape 0 p recs) j) (byte (after_from shape 255 p recs) j) (recorded_byte n p recs j None)
    (written_byte n p recs (replicate n 0) j 0 None w (length-replicate {A = ℕ} n 0) h (get_or-replicate {A = ℕ} n j 0 0 h))
    (written_byte n p recs (replicate n 255) j 255 None w (length-replicate {A = ℕ} n 255) h (get_or-replicate {A = ℕ} n j 255 0 h))

-- NOTHING is written past a page's user bytes
pub row_none : (at long j x : ℕ) → (j < at) ⊎ (at + long ≤ j) → cond (within at long j) (Some x) None ≡ None
row_none at long j x (inl less) = ap (λ (b : Bool). let o : Option ℕ = cond (b && ltb (j - at) long) (Some x) None in o) (lt-leb at j less)
row_none at long j x (inr more) =
    ap (λ (b : Bool). let o : Option ℕ = cond b (Some x) None in o) (and_right (leb at j) (ltb (j - at) long) (le-ltb (j - at) long (omega arith)))

own_past : (n : ℕ) (rec : Rec) (j : ℕ) → WritesWithin n rec → n ≤ j → own_byte n rec j ≡ None
own_past n (Num width space page offset value) j w past =
    row_none (offset - 38) width j (byte_at (width - 1 - (j - (offset - 38))) value) (inr (let a = w.0 in let b = w.1 in omega arith))
own_past n (Text space page offset bytes) j w past =
    row_none (offset - 38) (length bytes) j (byte bytes (j - (offset - 38))) (inr (let a = w.0 in let b = w.1 in omega arith))
own_past n (Init space page) j w past = ap (λ (b : Bool). let o : Option ℕ = cond b (Some 0) None in o) (le-ltb j n past)

pub written_past : (n p : ℕ) (recs : List Rec) (j : ℕ) (acc : Option ℕ) → AllByRecursion (WritesWithin n) recs → n ≤ j → recorded_byte n p recs j acc ≡ acc
written_past n p [] j acc w past = refl
written_past n p (rec ∷ recs) j acc w past =
    written_past n p recs j (cond (eqb (page_of rec) p) (later (own_byte n rec j) acc) acc) w.1 past ∙ by (eqb (page_of rec) p)
  where
    by : (b : Bool) → cond b (later (own_byte n rec j) acc) acc ≡ acc
    by false = refl
    by true = ap (λ (o : Option ℕ). later o acc) (own_past n rec j w.0 past)
