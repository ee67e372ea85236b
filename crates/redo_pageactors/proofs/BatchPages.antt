-- The batch that pairs and joined bytes come to.
use Rattle.std.proofs.Common.{List, [], ap, append_assoc, arith, drop, get_or, length, length-append, length-drop, refl, suc, sym, take, ℕ, ◌*◌, ◌+◌, ◌++◌, ◌-◌, ◌∙◌, ◌∷◌, ◌≡◌, ◌<◌, ◌≤◌}
use Rattle.std.proofs.Math.Nat.{mul-le-mul_right, suc-mul}
use Rattle.std.proofs.Math.Seq.{drop-append_seam, take-append_seam, take-length}
use Rattle.std.proofs.lemmas.List.{drop-append-le, length-take-le, take-append-drop, take-append-le}
use Rattle.std.specs.Prelude.{map}
use Rattle.std.specs.List.{flat_map}
use Rattle.model_base.specs.{frame_length}
use Rattle.model_base.specs.declared.limits.TheConstants.{PAGE_TRAILER, USER_START}
use Rattle.model_core.specs.{BatchPage, no_page}
use Rattle.model_page.specs.{user_part}
use Rattle.redo_pageactors.specs.CleanerView.{batch_pages, page_bytes}

take-all : (n : ℕ) (l : List ℕ) → length l ≡ n → take n l ≡ l
take-all n l e = ap (λ k. take k l) (sym e) ∙ take-length l

take-front : (n : ℕ) (xs ys : List ℕ) → length xs ≡ n → take n (xs ++ ys) ≡ xs
take-front n xs ys e = ap (λ k. take k (xs ++ ys)) (sym e) ∙ take-append_seam xs ys

drop-front : (n : ℕ) (xs ys : List ℕ) → length xs ≡ n → drop n (xs ++ ys) ≡ ys
drop-front n xs ys e = ap (λ k. drop k (xs ++ ys)) (sym e) ∙ drop-append_seam xs ys

pub length_batch_pages : (n : ℕ) (pairs : List (ℕ × ℕ)) (users rims : List ℕ) → length (batch_pages n pairs users rims) ≡ length pairs
length_batch_pages n [] users rims = refl
length_batch_pages n (x ∷ xs) users rims = let r = length_batch_pages n xs (drop n users) (drop frame_length rims) in omega arith

-- stretches of n bytes each: one more, the first, all but the first
pub one_more : (count most n : ℕ) → count < most → count * n + n ≤ most * n
one_more count most n few = let h : suc count * n ≤ most * n = mul-le-mul_right n few in omega (arith, suc-mul count n)

pub some_first : (count n : ℕ) → 0 < count → n ≤ count * n
some_first count n some = let h : suc 0 * n ≤ count * n = mul-le-mul_right n some in omega arith

pub with_one_more : (count more n : ℕ) → count + 1 ≡ more → more * n ≡ count * n + n
with_one_more count more n is = ap (λ (k : ℕ). k * n) (sym is) ∙ (let e : (count + 1) * n ≡ count * n + n = omega arith in e)

-- of the stretches of a page and more pages, those that belong to these
rest_long : (count n : ℕ) (bytes : List ℕ) → length bytes ≡ suc count * n → length (drop n bytes) ≡ count * n
rest_long count n bytes e = omega (arith, length-drop n bytes, suc-mul count n)

first_long : (count n : ℕ) (bytes : List ℕ) → length bytes ≡ suc count * n → n ≤ length bytes
first_long count n bytes e = omega (arith, suc-mul count n)

-- a page more
pub batch_pages_push : (n : ℕ) (pairs : List (ℕ × ℕ)) (users rims : List ℕ) (pair : ℕ × ℕ) (user rim : List ℕ)
    → length users ≡ length pairs * n → length rims ≡ length pairs * frame_length → length user ≡ n → length rim ≡ frame_length
    → batch_pages n (pairs ++ pair ∷ []) (users ++ user) (rims ++ rim)
    ≡ batch_pages n pairs users rims ++ (record { page = pair.0; lsn = pair.1; bytes = page_bytes user rim }) ∷ []
batch_pages_push n [] [] [] pair user rim lu lr u r =
    let t = take-all n user u in let s = take-all frame_length rim r in
    λ i. (record { page = pair.0; lsn = pair.1; bytes = page_bytes (t i) (s i) }) ∷ []
batch_pages_push n [] (y ∷ ys) rims pair user rim lu lr u r = absurd (omega arith)
batch_pages_push n [] [] (y ∷ ys) pair user rim lu lr u r = absurd (omega arith)
batch_pages_push n (x ∷ xs) users rims pair user rim lu lr u r =
    let m = frame_length in
    let fu = first_long (length xs) n users lu in let fr = first_long (length xs) m rims lr in
    let t : take n (users ++ user) ≡ take n users = take-append-le n users user fu in
    let s : take m (rims ++ rim) ≡ take m rims = take-append-le m rims rim fr in
    let d : drop n (users ++ user) ≡ drop n users ++ user = drop-append-le n users user fu in
    let e : drop m (rims ++ rim) ≡ drop m rims ++ rim = drop-append-le m rims rim fr in
    let h = batch_pages_push n xs (drop n users) (drop m rims) pair user rim
    (rest_long (length xs) n users lu) (rest_long (length xs) m rims lr) u r in
    λ i. (record { page = x.0; lsn = x.1; bytes = page_bytes (t i) (s i) })
    ∷ (ap (λ (l : List ℕ). batch_pages n (xs ++ pair ∷ []) l (drop m (rims ++ rim))) d
    ∙ (ap (λ (l : List ℕ). batch_pages n (xs ++ pair ∷ []) (drop n users ++ user) l) e ∙ h)) i

-- the first page goes
pub drop_batch_pages : (n : ℕ) (pairs : List (ℕ × ℕ)) (users rims : List ℕ)
    → drop 1 (batch_pages n pairs users rims) ≡ batch_pages n (drop 1 pairs) (drop n users) (drop frame_length rims)
drop_batch_pages n [] users rims = refl
drop_batch_pages n (x ∷ xs) users rims = refl

-- a page's user bytes, and the others
module _ (n : ℕ) (kept : List ℕ) (long : length kept ≡ n + frame_length) where
  abbrev users_of : List ℕ
  users_of = take (length kept - frame_length) (drop USER_START kept)

  abbrev front : List ℕ
  front = take USER_START kept

  abbrev rest : List ℕ
  rest = drop (length kept - frame_length) (drop USER_START kept)

  abbrev rims_of : List ℕ
  rims_of = front ++ rest

  front_long : length front ≡ USER_START
  front_long = length-take-le USER_START kept (omega arith)

  page_bytes_split : page_bytes users_of rims_of ≡ kept
  page_bytes_split =
      let t : take USER_START rims_of ≡ front = take-front USER_START front rest front_long in
      let d : drop USER_START rims_of ≡ rest = drop-front USER_START front rest front_long in
      (λ i. t i ++ users_of ++ d i) ∙ (append_assoc front users_of rest
      ∙ (ap (λ (k : List ℕ). front ++ k) (take-append-drop (length kept - frame_length) (drop USER_START kept)) ∙ take-append-drop USER_START kept))

  users_long : length users_of ≡ n
  users_long = length-take-le (length kept - frame_length) (drop USER_START kept) (omega (arith, length-drop USER_START kept)) ∙ (let e : length kept - frame_length ≡ n = omega arith in e)

  rims_long : length rims_of ≡ frame_length
  rims_long = omega (arith, front_long, length-append front rest, length-drop (length kept - frame_length) (drop USER_START kept), length-drop USER_START kept)

user_part_page_bytes : (n : ℕ) (user rim : List ℕ) → length user ≡ n → length rim ≡ frame_length → user_part (page_bytes user rim) ≡ user
user_part_page_bytes n user rim u r =
    let front : List ℕ = take USER_START rim in
    let rest : List ℕ = drop USER_START rim in
    let l : length front ≡ USER_START = length-take-le USER_START rim (omega arith) in
    let k : length (front ++ user ++ rest) - PAGE_TRAILER - USER_START ≡ n =
    omega (arith, length-append (front ++ user) rest, length-append front user, length-drop USER_START rim) in
    let d : drop USER_START (front ++ user ++ rest) ≡ user ++ rest =
    ap (λ (k : List ℕ). drop USER_START k) (append_assoc front user rest) ∙ drop-front USER_START front (user ++ rest) l in
    (λ i. take (k i) (d i)) ∙ take-front n user rest u

-- the user bytes of the batch
pub users_batch_pages : (n : ℕ) (pairs : List (ℕ × ℕ)) (users rims : List ℕ)
    → length users ≡ length pairs * n → length rims ≡ length pairs * frame_length
    → users ≡ flat_map (λ (b : BatchPage). user_part b.bytes) (batch_pages n pairs users rims)
users_batch_pages n [] [] rims lu lr = refl
users_batch_pages n [] (y ∷ ys) rims lu lr = absurd (omega arith)
users_batch_pages n (x ∷ xs) users rims lu lr =
    let m = frame_length in
    let h = users_batch_pages n xs (drop n users) (drop m rims) (rest_long (length xs) n users lu) (rest_long (length xs) m rims lr) in
    let u = user_part_page_bytes n (take n users) (take m rims)
    (length-take-le n users (first_long (length xs) n users lu)) (length-take-le m rims (first_long (length xs) m rims lr)) in
    sym (take-append-drop n users) ∙ (λ i. sym u i ++ h i)

-- its pages and lsns
pub pairs_batch_pages : (n : ℕ) (pairs : List (ℕ × ℕ)) (users rims : List ℕ)
    → pairs ≡ map (λ (b : BatchPage). (b.page, b.lsn)) (batch_pages n pairs users rims)
pairs_batch_pages n [] users rims = refl
pairs_batch_pages n (x ∷ xs) users rims =
    ap (λ (l : List (ℕ × ℕ)). x ∷ l) (pairs_batch_pages n xs (drop n users) (drop frame_length rims))

pub first_page : (n : ℕ) (pairs : List (ℕ × ℕ)) (users rims : List ℕ) (d : ℕ × ℕ) → 0 < length pairs
    → (get_or (batch_pages n pairs users rims) 0 no_page).page ≡ (get_or pairs 0 d).0
first_page n [] users rims d h = absurd (omega arith)
first_page n (x ∷ xs) users rims d h = refl

-- a page whose bytes are all loaded enters
pub batch_pages_enter : (n : ℕ) (pairs : List (ℕ × ℕ)) (users rims : List ℕ) (page lsn : ℕ) (kept : List ℕ)
    → length kept ≡ n + frame_length → length users ≡ length pairs * n → length rims ≡ length pairs * frame_length
    → batch_pages n (pairs ++ (page, lsn) ∷ []) (users ++ take (length kept - frame_length) (drop USER_START kept))
    ((rims ++ take USER_START kept) ++ drop (length kept - frame_length) (drop USER_START kept))
    ≡ batch_pages n pairs users rims ++ (record { page = page; lsn = lsn; bytes = kept }) ∷ []
batch_pages_enter n pairs users rims page lsn kept long lu lr =
    let user = users_of n kept long in
    ap (λ (l : List ℕ). batch_pages n (pairs ++ (page, lsn) ∷ []) (users ++ user) l) (append_assoc rims (front n kept long) (rest n kept long))
    ∙ (batch_pages_push n pairs users rims (page, lsn) user (rims_of n kept long) lu lr (users_long n kept long) (rims_long n kept long)
    ∙ ap (λ (l : List ℕ). batch_pages n pairs users rims ++ (record { page = page; lsn = lsn; bytes = l }) ∷ []) (page_bytes_split n kept long))
