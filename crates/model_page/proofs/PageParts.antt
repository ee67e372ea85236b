-- Where the parts of a page stand.
use Rattle.std.proofs.Common.{◌≡◌, ℕ, ◌+◌, ◌-◌, List, [], ◌++◌, length, take, drop, ap, ◌∙◌, arith, append_assoc, length-append}
use Rattle.std.proofs.lemmas.List.{drop_at, take_at, append-nil}
use Rattle.model_page.specs.Page.{checked_part, user_part}

-- the parts of a page, in order
pub record Parts : Type 0 where
  pub first : List ℕ
  pub number : List ℕ
  pub neighbours : List ℕ
  pub lsn : List ℕ
  pub kind : List ℕ
  pub flushed : List ℕ
  pub space : List ℕ
  pub user : List ℕ
  pub second : List ℕ
  pub low : List ℕ

-- how long the parts are
pub record AreSized (p : Parts) : Type 0 where
  pub first : length p.first ≡ 4
  pub number : length p.number ≡ 4
  pub neighbours : length p.neighbours ≡ 8
  pub lsn : length p.lsn ≡ 8
  pub kind : length p.kind ≡ 2
  pub flushed : length p.flushed ≡ 8
  pub space : length p.space ≡ 4
  pub second : length p.second ≡ 4
  pub low : length p.low ≡ 4

-- what stands between the checksums
abbrev pub middle_of : Parts → List ℕ
middle_of p = p.number ++ p.neighbours ++ p.lsn ++ p.kind ++ p.flushed ++ p.space ++ p.user

abbrev pub page_of : Parts → List ℕ
page_of p = p.first ++ middle_of p ++ p.second ++ p.low

drop-front : (front part back text : List ℕ) (k : ℕ) → text ≡ front ++ (part ++ back) → length front ≡ k → drop k text ≡ part ++ back
drop-front front part back text k same count = ap (drop k) same ∙ drop_at front (part ++ back) k count

length-middle_of : (p : Parts) → AreSized p → length (middle_of p) ≡ 34 + length p.user
length-middle_of p sized = simp length-append (omega arith)

length-page_of : (p : Parts) → AreSized p → length (page_of p) ≡ 46 + length p.user
length-page_of p sized = simp length-append (omega arith)

pub drop-first : (p : Parts) → drop 0 (page_of p) ≡ p.first ++ (middle_of p ++ p.second ++ p.low)
drop-first p = simp append_assoc

pub drop-number : (p : Parts) → AreSized p → drop 4 (page_of p) ≡ p.number ++ (p.neighbours ++ p.lsn ++ p.kind ++ p.flushed ++ p.space ++ p.user ++ p.second ++ p.low)
drop-number p sized = drop-front p.first p.number _ (page_of p) 4 (simp append_assoc) sized.first

pub drop-lsn : (p : Parts) → AreSized p → drop 16 (page_of p) ≡ p.lsn ++ (p.kind ++ p.flushed ++ p.space ++ p.user ++ p.second ++ p.low)
drop-lsn p sized = drop-front (p.first ++ p.number ++ p.neighbours) p.lsn _ (page_of p) 16 (simp append_assoc) (simp length-append (omega arith))

pub drop-space : (p : Parts) → AreSized p → drop 34 (page_of p) ≡ p.space ++ (p.user ++ p.second ++ p.low)
drop-space p sized = drop-front (p.first ++ p.number ++ p.neighbours ++ p.lsn ++ p.kind ++ p.flushed) p.space _ (page_of p) 34 (simp append_assoc) (simp length-append (omega arith))

pub drop-second : (p : Parts) → AreSized p → drop (length (page_of p) - 8) (page_of p) ≡ p.second ++ p.low
drop-second p sized = drop-front (p.first ++ middle_of p) p.second p.low (page_of p) _ (simp append_assoc) (simp length-append (omega arith))

pub drop-low : (p : Parts) → AreSized p → drop (length (page_of p) - 4) (page_of p) ≡ p.low ++ []
drop-low p sized = drop-front (p.first ++ middle_of p ++ p.second) p.low [] (page_of p) _ (simp (append_assoc, append-nil)) (simp length-append (omega arith))

pub checked_part-page_of : (p : Parts) → AreSized p → checked_part (page_of p) ≡ middle_of p
checked_part-page_of p sized =
    let count : length (middle_of p) ≡ length (page_of p) - 8 - 4 = omega (arith, length-middle_of p sized, length-page_of p sized) in
    ap (take (length (page_of p) - 8 - 4)) (drop-front p.first (middle_of p) (p.second ++ p.low) (page_of p) 4 (simp append_assoc) sized.first)
    ∙ take_at (middle_of p) (p.second ++ p.low) _ count

pub user_part-page_of : (p : Parts) → AreSized p → user_part (page_of p) ≡ p.user
user_part-page_of p sized =
    let count : length p.user ≡ length (page_of p) - 8 - 38 = omega (arith, length-page_of p sized) in
    ap (take (length (page_of p) - 8 - 38)) (drop-front (p.first ++ p.number ++ p.neighbours ++ p.lsn ++ p.kind ++ p.flushed ++ p.space) p.user (p.second ++ p.low) (page_of p) 38 (simp append_assoc) (simp length-append (omega arith)))
    ∙ take_at p.user (p.second ++ p.low) _ count
