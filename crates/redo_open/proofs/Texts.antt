-- What may stand in the place of a page.
use Rattle.std.proofs.Common.{◌≡◌, ◌<◌, ◌*◌, ◌+◌, ◌==◌, ◌&&◌, ℕ, true, List, [], ◌∷◌, length, take, replicate, refl, sym, ap, ◌∙◌, arith}
use Rattle.std.proofs.lemmas.Bool.{and_parts}
use Rattle.std.proofs.lemmas.Bool.Decides.{nat_tests}
use Rattle.std.proofs.lemmas.List.{append-nil, take_all}
use Rattle.model_base.specs.{IsWithinLimits, user_length}
use Rattle.model_base.specs.declared.shape.Shape.{Shape}
use Rattle.model_page.specs.{blank_page, data_device_length, is_blank, IsInPlace, page_check, place_bytes, place_lsn_by, user_part}
use Rattle.model_page.specs.declared.content.Content.{Content}
use Rattle.model_device.specs.{settled}
use Rattle.model_parts.specs.{batch_of, batch_text, Fresh, IsFreshPage, IsOpened, new_text}
use Rattle.model_parts.proofs.Batches.{check-new_text, length-new_text, place-sound, user-new_text}
use Rattle.model_parts.proofs.Stretches.{stretch-piece}
use Rattle.model_parts.proofs.Writes.{sizes-from, stretch-ends}
use Rattle.model_parts.proofs.Zeros.{zeros-opened}
use Rattle.redo_open.proofs.Pieces.{zeros-piece}
use Rattle.redo_open.proofs.Rows.{length-zeros, zeros-is}
use Rattle.redo_open.specs.Enlarge.{IsPlaceText}
use Rattle.redo_open.specs.Zeroing.{zeros}

-- A PAGE THAT WAS NEVER WRITTEN.

zeros-all : (user : List ℕ) → is_blank user ≡ true → user ≡ replicate (length user) 0
zeros-all [] blank = refl
zeros-all (byte ∷ user) blank =
    let parts = and_parts (byte == 0) (is_blank user) blank in
    let first : byte ≡ 0 = (let test : (byte == 0) ≡ true = parts.0 in grind (arith, nat_tests)) in
    ap (λ b. b ∷ user) first ∙ ap (λ rest. 0 ∷ rest) (zeros-all user parts.1)

pub blank-is : (shape : Shape) (lsn : ℕ) (user : List ℕ) → length user ≡ user_length shape
    → (lsn == 0 && is_blank user) ≡ true
    → (record { lsn = lsn; user = user }) ≡ blank_page shape
blank-is shape lsn user long blank =
    let parts = and_parts (lsn == 0) (is_blank user) blank in
    let none : lsn ≡ 0 = (let test : (lsn == 0) ≡ true = parts.0 in grind (arith, nat_tests)) in
    let zero : user ≡ replicate (user_length shape) 0 = zeros-all user parts.1 ∙ ap (λ n. replicate n 0) long in
    ap (λ n. (let c : Content = record { lsn = n; user = user } in c)) none
    ∙ ap (λ u. (let c : Content = record { lsn = 0; user = u } in c)) zero

-- zeros pass as its place
pub zeros-text : (shape : Shape) (page : ℕ) (text : List ℕ) → IsWithinLimits shape → page < shape.pages
    → text ≡ replicate shape.page_size 0
    → IsPlaceText shape page (blank_page shape) text
zeros-text shape page text limits below is =
    let long : ℕ = data_device_length shape in
    let opened : IsOpened shape (λ p. blank_page shape) (λ p. blank_page shape) (settled (replicate long 0)) =
    zeros-opened shape long limits (omega arith) in
    let place : IsInPlace shape (replicate long 0) page (blank_page shape) = opened.places page below in
    let same : place_bytes shape page (replicate long 0) ≡ text =
    stretch-piece shape (shape.slots + page) (replicate long 0)
    ∙ zeros-piece shape.page_size ((shape.slots + page) * shape.page_size) long
    (stretch-ends shape (shape.slots + page) long (sizes-from shape long limits (omega arith)) (omega arith))
    ∙ sym is in
    record {
      long = ap length is ∙ length-zeros shape.page_size;
      passes = ap (λ bytes. place_lsn_by shape page (page_check bytes)) (sym same) ∙ place.passes;
      user = place.user ∙ ap user_part same;
    }

pub zeros-are : (size count : ℕ) (text : List ℕ) → text ≡ zeros count → size ≡ count → text ≡ replicate size 0
zeros-are size count text is same = is ∙ zeros-is count ∙ ap (λ n. replicate n 0) (sym same)

-- ANOTHER.

pub fresh-text : (shape : Shape) (new : Fresh) (text : List ℕ) → IsWithinLimits shape → IsFreshPage shape new
    → text ≡ new_text shape new
    → IsPlaceText shape new.page new.content text
fresh-text shape new text limits fresh is = record {
  long = ap length is ∙ length-new_text shape new limits.page_size fresh.long;
  passes = ap (λ bytes. place_lsn_by shape new.page (page_check bytes)) is
      ∙ ap (place_lsn_by shape new.page) (check-new_text shape new limits fresh)
      ∙ place-sound shape new.page new.content.lsn;
  user = sym (ap user_part is ∙ user-new_text shape new);
}

-- a batch of one page, alone in its room
pub one-text : (shape : Shape) (page lsn : ℕ) (user text : List ℕ) → length user ≡ user_length shape
    → length text ≡ shape.page_size
    → take (1 * shape.page_size) text ≡ batch_text shape (batch_of shape ((page, lsn) ∷ []) user)
    → text ≡ new_text shape (record { page = page; content = record { lsn = lsn; user = user } })
one-text shape page lsn user text user_long long is =
    let all : 1 * shape.page_size ≡ shape.page_size = omega arith in
    let cut : take (user_length shape) user ≡ user = take_all (user_length shape) user (omega arith) in
    sym (ap (λ n. take n text) all ∙ take_all shape.page_size text (omega arith)) ∙ is
    ∙ append-nil _
    ∙ ap (λ u. (let new : Fresh = record { page = page; content = record { lsn = lsn; user = u } } in
    new_text shape new)) cut
