-- A page's bytes read back.
use Rattle.std.proofs.Common.{◌≡◌, ℕ, zero, suc, ◌+◌, ◌-◌, ◌%◌, ◌^◌, ◌<◌, ◌==◌, ◌&&◌, Bool, true, false, List, [], ◌∷◌, ◌++◌, length, get_or, drop, refl, ap, sym, ◌∙◌, subst, arith, eq-eqb}
use Rattle.std.specs.Int.{bytes_high_first, byte_at}
use Rattle.std.proofs.lemmas.Bool.{eqb-true, and_parts}
use Rattle.std.proofs.lemmas.List.{get_or-drop}
use Rattle.byteorder.specs.Endian.{big_from}
use Rattle.byteorder.specs.Numbers.{big_number-reads_back}
use Rattle.model_base.specs.{crc_of, field}
use Rattle.model_page.specs.Fits.{FitsPage}
use Rattle.model_page.specs.Page.{page_text, middle_text, page_check, is_blank, is_sound, user_part, checked_part}
use Rattle.model_page.specs.declared.page.PageState.TheVariants.{Sound}
use Rattle.model_page.proofs.Checksum.{crc_of-lt}
use Rattle.model_page.proofs.PageParts.{Parts, AreSized, page_of, drop-first, drop-number, drop-lsn, drop-space, drop-second, drop-low, checked_part-page_of, user_part-page_of}

-- the parts of the page with these fields
abbrev parts : ℕ → ℕ → ℕ → List ℕ → Parts
parts number space lsn user = record {
  first = bytes_high_first 4 (crc_of (middle_text number space lsn user));
  number = bytes_high_first 4 number;
  neighbours = bytes_high_first 8 0;
  lsn = bytes_high_first 8 lsn;
  kind = bytes_high_first 2 0;
  flushed = bytes_high_first 8 0;
  space = bytes_high_first 4 space;
  user = user;
  second = bytes_high_first 4 (crc_of (middle_text number space lsn user));
  low = bytes_high_first 4 (lsn % 2 ^ 32);
}

sized : (number space lsn : ℕ) (user : List ℕ) → AreSized (parts number space lsn user)
sized number space lsn user = record {
  first = refl;
  number = refl;
  neighbours = refl;
  lsn = refl;
  kind = refl;
  flushed = refl;
  space = refl;
  second = refl;
  low = refl;
}

-- a number at an offset is the field there
field-at : (k x at : ℕ) (text rest : List ℕ) → x < 256 ^ k → drop at text ≡ bytes_high_first k x ++ rest → field k at text ≡ x
field-at k x at text rest small here = ap (big_from 0 k) here ∙ big_number-reads_back k x rest small

-- each is a byte
record AreBytes (bytes : List ℕ) : Type 0 where
  each : (i : ℕ) → get_or bytes i 0 < 256

AreBytes-cons : (x : ℕ) (xs : List ℕ) → x < 256 → AreBytes xs → AreBytes (x ∷ xs)
AreBytes-cons x xs first rest = record { each = λ i. go i }
  where
    go : (i : ℕ) → get_or (x ∷ xs) i 0 < 256
    go zero = first
    go (suc i) = rest.each i

AreBytes-append : (xs ys : List ℕ) → AreBytes xs → AreBytes ys → AreBytes (xs ++ ys)
AreBytes-append [] ys front back = back
AreBytes-append (x ∷ xs) ys front back =
    AreBytes-cons x (xs ++ ys) (front.each 0) (AreBytes-append xs ys (record { each = λ i. front.each (suc i) }) back)

byte_at-lt : (k n : ℕ) → byte_at k n < 256
byte_at-lt zero n = omega arith
byte_at-lt (suc k) n = omega arith

AreBytes-bytes : (k n : ℕ) → AreBytes (bytes_high_first k n)
AreBytes-bytes zero n = record { each = λ i. omega arith }
AreBytes-bytes (suc k) n = AreBytes-cons (byte_at k n) (bytes_high_first k n) (byte_at-lt k n) (AreBytes-bytes k n)

-- lists of bytes, end to end
AreBytes-seven : (a b c d e f g : List ℕ) → AreBytes a → AreBytes b → AreBytes c → AreBytes d → AreBytes e → AreBytes f → AreBytes g → AreBytes (a ++ b ++ c ++ d ++ e ++ f ++ g)
AreBytes-seven a b c d e f g in_a in_b in_c in_d in_e in_f in_g =
    let two = AreBytes-append a b in_a in_b in
    let three = AreBytes-append (a ++ b) c two in_c in
    let four = AreBytes-append (a ++ b ++ c) d three in_d in
    let five = AreBytes-append (a ++ b ++ c ++ d) e four in_e in
    let six = AreBytes-append (a ++ b ++ c ++ d ++ e) f five in_f in
    AreBytes-append (a ++ b ++ c ++ d ++ e ++ f) g six in_g

AreBytes-middle_text : (number space lsn : ℕ) (user : List ℕ) → AreBytes user → AreBytes (middle_text number space lsn user)
AreBytes-middle_text number space lsn user bytes =
    AreBytes-seven (bytes_high_first 4 number) (bytes_high_first 8 0) (bytes_high_first 8 lsn) (bytes_high_first 2 0) (bytes_high_first 8 0) (bytes_high_first 4 space) user
    (AreBytes-bytes 4 number) (AreBytes-bytes 8 0) (AreBytes-bytes 8 lsn) (AreBytes-bytes 2 0) (AreBytes-bytes 8 0) (AreBytes-bytes 4 space) bytes

and_both : (a b c : Bool) → a ≡ true → b ≡ true → c ≡ true → a && b && c ≡ true
and_both a b c p q r = rw (p, q, r) refl

-- each byte of a blank text is 0
zero_from_blank : (text : List ℕ) → is_blank text ≡ true → (i : ℕ) → get_or text i 0 ≡ 0
zero_from_blank [] blank i = refl
zero_from_blank (byte ∷ bytes) blank zero = eqb-true byte 0 (and_parts (byte == 0) (is_blank bytes) blank).0
zero_from_blank (byte ∷ bytes) blank (suc i) =
    zero_from_blank bytes (and_parts (byte == 0) (is_blank bytes) blank).1 i

-- bytes that are 0 make the number 0
big_from-zeros : (k i : ℕ) (bytes : List ℕ) → ((i : ℕ) → get_or bytes i 0 ≡ 0) → big_from i k bytes ≡ 0
big_from-zeros zero i bytes zeros = refl
big_from-zeros (suc k) i bytes zeros = rw (zeros i, big_from-zeros k (suc i) bytes zeros) (omega arith)

-- a text with a number above 0 in it isn't blank
is_blank-some : (text : List ℕ) (k at n : ℕ) (b : Bool) → field k at text ≡ n → 0 < n → is_blank text ≡ b → b ≡ false
is_blank-some text k at n false number_is some blank = refl
is_blank-some text k at n true number_is some blank =
    let none : field k at text ≡ 0 = big_from-zeros k 0 (drop at text) (λ i. get_or-drop at text i 0 ∙ zero_from_blank text blank (at + i)) in
    absurd (omega arith)

page_text-is : (number space lsn : ℕ) (user : List ℕ) → page_text number space lsn user ≡ page_of (parts number space lsn user)
unfolding page_text
page_text-is number space lsn user = refl

page_check-sound : (text : List ℕ) (number space lsn : ℕ) → is_blank text ≡ false → is_sound text ≡ true → field 4 4 text ≡ number → field 4 34 text ≡ space → field 8 16 text ≡ lsn → page_check text ≡ Sound number space lsn
unfolding page_check
page_check-sound text number space lsn not_blank sound number_is space_is lsn_is = rw (not_blank, sound, number_is, space_is, lsn_is) refl

module _ (number space lsn : ℕ) (user : List ℕ) (fits : FitsPage number space lsn user) where
  field-number : field 4 4 (page_of (parts number space lsn user)) ≡ number
  field-number = field-at 4 number 4 (page_of (parts number space lsn user)) _ fits.small_number (drop-number (parts number space lsn user) (sized number space lsn user))

  field-space : field 4 34 (page_of (parts number space lsn user)) ≡ space
  field-space = field-at 4 space 34 (page_of (parts number space lsn user)) _ fits.small_space (drop-space (parts number space lsn user) (sized number space lsn user))

  pub field-lsn : field 8 16 (page_of (parts number space lsn user)) ≡ lsn
  field-lsn = field-at 8 lsn 16 (page_of (parts number space lsn user)) _ fits.small_lsn (drop-lsn (parts number space lsn user) (sized number space lsn user))

  is_sound-page_of : is_sound (page_of (parts number space lsn user)) ≡ true
  is_sound-page_of =
      let p = parts number space lsn user in
      let page = page_of p in
      let checksum = crc_of (middle_text number space lsn user) in
      let small : checksum < 256 ^ 4 = crc_of-lt (middle_text number space lsn user) (AreBytes-middle_text number space lsn user (record { each = fits.bytes })).each in
      let right : crc_of (checked_part page) ≡ checksum = ap crc_of (checked_part-page_of p (sized number space lsn user)) in
      let first : field 4 0 page ≡ crc_of (checked_part page) = field-at 4 checksum 0 page _ small (drop-first p) ∙ sym right in
      let second : field 4 (length page - 8) page ≡ crc_of (checked_part page) = field-at 4 checksum (length page - 8) page _ small (drop-second p (sized number space lsn user)) ∙ sym right in
      let low : field 4 (length page - 4) page ≡ field 8 16 page % 2 ^ 32 =
      field-at 4 (lsn % 2 ^ 32) (length page - 4) page _ (omega arith) (drop-low p (sized number space lsn user)) ∙ ap (λ n. n % 2 ^ 32) (sym field-lsn) in
      and_both _ _ _ (eq-eqb _ _ first) (eq-eqb _ _ second) (eq-eqb _ _ low)

  pub page_check-page_text : is_blank (page_text number space lsn user) ≡ false → page_check (page_text number space lsn user) ≡ Sound number space lsn
  page_check-page_text =
      let P : List ℕ → Type 0 = λ text. is_blank text ≡ false → page_check text ≡ Sound number space lsn in
      subst P (sym (page_text-is number space lsn user)) (λ not_blank. page_check-sound _ number space lsn not_blank is_sound-page_of field-number field-space field-lsn)

  pub is_blank-page_text : 0 < lsn → is_blank (page_text number space lsn user) ≡ false
  is_blank-page_text some =
      ap is_blank (page_text-is number space lsn user)
      ∙ is_blank-some (page_of (parts number space lsn user)) 8 16 lsn _ field-lsn some refl

pub user_part-page_text : (number space lsn : ℕ) (user : List ℕ) → user_part (page_text number space lsn user) ≡ user
user_part-page_text number space lsn user =
    ap user_part (page_text-is number space lsn user) ∙ user_part-page_of (parts number space lsn user) (sized number space lsn user)
