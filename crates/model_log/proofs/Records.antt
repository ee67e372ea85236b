-- The parts of a record, one after another.
use Rattle.std.proofs.Common.{◌≡◌, ℕ, ◌/◌, ◌%◌, ◌<◌, ◌^◌, Bool, true, false, cond, eqb, List, [], ◌∷◌, ◌++◌, length, take, drop, replicate, ◌⊎◌, inl, inr, refl, sym, ap, subst, ◌∙◌, append_assoc, arith}
use Rattle.std.specs.Int.{bytes_high_first}
use Rattle.std.proofs.lemmas.List.{length-replicate, take_at, drop_at}
use Rattle.std.proofs.lemmas.List.Elements.{All-replicate}
use Rattle.model_base.specs.{spelling32, spelling64, Spells32}
use Rattle.model_log.specs.Group.{IsWidth, IsByte, value_text}
use Rattle.model_log.specs.Bodies.{IsShort, IsLength, IsBody, IsValue, IsString, IsPlace, IsSpot, IsAfterType}
use Rattle.model_log.specs.declared.place.Place.{Place}
use Rattle.model_log.specs.declared.place.Spot.{Spot}
use Rattle.model_log.specs.declared.rec.Rec.{Rec}
use Rattle.model_log.specs.declared.rec.Rec.TheVariants.{Num, Text, Init}
use Rattle.model_log.proofs.Sequence.{OneText, Parted, IsThen, both_one}

-- no spelling of a number below the limit begins another
abbrev pub OneSpelling : (ℕ → List ℕ) → ℕ → Type 0
OneSpelling spelling limit = (m n : ℕ) (x y : List ℕ) → m < limit → n < limit → spelling m ++ x ≡ spelling n ++ y → (m ≡ n) × (x ≡ y)

pub one32 : OneSpelling spelling32 (2 ^ 32) → OneText Spells32
one32 one s t x y a b p q e =
    one a b x y p.small q.small (ap (λ (z : List ℕ). z ++ x) (sym p.spelled) ∙ e ∙ ap (λ (z : List ℕ). z ++ y) q.spelled)

-- ---- a page, and a place in it

abbrev pub place_at : ℕ → ℕ → Place
place_at space page = record { space = space; page = page }

pub then_place : IsThen Spells32 (λ _. Spells32) IsPlace place_at
then_place = record {
  joined = λ front back a b p q. record { space = p.small; page = q.small; spelled = ap (λ (x : List ℕ). x ++ back) p.spelled ∙ ap (λ (x : List ℕ). spelling32 a ++ x) q.spelled };
  parted = λ text c h. record {
    front = spelling32 c.space;
    back = spelling32 c.page;
    first = c.space;
    second = c.page;
    is_first = record { small = h.space; spelled = refl };
    is_second = record { small = h.page; spelled = refl };
    spelled = h.spelled;
    made = refl;
  };
  goes_on = λ front a p. (spelling32 0, 0, record { small = omega arith; spelled = refl });
}

abbrev pub spot_at : Place → ℕ → Spot
spot_at place offset = record { place = place; offset = offset }

pub then_spot : IsThen IsPlace (λ _. IsShort) IsSpot spot_at
then_spot = record {
  joined = λ front back a b p q. record { space = p.space; page = p.page; offset = q.small; spelled = ap (λ (x : List ℕ). x ++ back) p.spelled ∙ ap (λ (x : List ℕ). spelling32 a.space ++ spelling32 a.page ++ x) q.spelled };
  parted = λ text c h. record {
    front = spelling32 c.place.space ++ spelling32 c.place.page;
    back = bytes_high_first 2 c.offset;
    first = c.place;
    second = c.offset;
    is_first = record { space = h.space; page = h.page; spelled = refl };
    is_second = record { small = h.offset; spelled = refl };
    spelled = h.spelled;
    made = refl;
  };
  goes_on = λ front a p. (bytes_high_first 2 0, 0, record { small = omega arith; spelled = refl });
}

-- ---- numbers of fixed length, and strings

pub one_short : OneText IsShort
one_short s t x y a b p q e =
    let bytes : bytes_high_first 2 a ++ x ≡ bytes_high_first 2 b ++ y = ap (λ (z : List ℕ). z ++ x) (sym p.spelled) ∙ e ∙ ap (λ (z : List ℕ). z ++ y) q.spelled in
    let high : a / 256 % 256 ≡ b / 256 % 256 = cc in
    let low : a % 256 ≡ b % 256 = cc in
    let small_a : a < 65536 = p.small in
    let small_b : b < 65536 = q.small in
    (omega arith, cc)

pub one_length : OneText IsLength
one_length s t x y a b p q e = one_short s t x y a b p.short q.short e

pub one_body : (number : ℕ) → OneText (IsBody number)
one_body number s t x y a b p q e =
    let long_s : length s ≡ number = ap length p.spelled ∙ p.long in
    let long_t : length t ≡ number = ap length q.spelled ∙ q.long in
    let same : s ≡ t = sym (take_at s x number long_s) ∙ ap (take number) e ∙ take_at t y number long_t in
    (sym p.spelled ∙ same ∙ q.spelled, sym (drop_at s x number long_s) ∙ ap (drop number) e ∙ drop_at t y number long_t)

spelled_one : (b : Bool) → OneSpelling spelling32 (2 ^ 32) → OneSpelling spelling64 (2 ^ 64) → OneSpelling (λ n. cond b (spelling64 n) (spelling32 n)) (cond b (2 ^ 64) (2 ^ 32))
spelled_one true one_32 one_64 = one_64
spelled_one false one_32 one_64 = one_32

pub one_value : OneSpelling spelling32 (2 ^ 32) → OneSpelling spelling64 (2 ^ 64) → (width : ℕ) → OneText (IsValue width)
one_value one_32 one_64 width s t x y a b p q e =
    spelled_one (eqb width 8) one_32 one_64 a b x y p.has_spelling q.has_spelling (ap (λ (z : List ℕ). z ++ x) (sym p.spelled) ∙ e ∙ ap (λ (z : List ℕ). z ++ y) q.spelled)

pub then_string : IsThen IsLength IsBody IsString (λ _ string. string)
then_string = record {
  joined = λ front back a b p q. record {
    some = omega (arith, p.some, q.long);
    short = omega (arith, p.short.small, q.long);
    each = q.each;
    spelled = ap (λ (x : List ℕ). x ++ back) p.short.spelled ∙ ap (λ (k : ℕ). bytes_high_first 2 k ++ back) (sym q.long) ∙ ap (λ (x : List ℕ). bytes_high_first 2 (length b) ++ x) q.spelled;
  };
  parted = λ text c h. record {
    front = bytes_high_first 2 (length c);
    back = c;
    first = length c;
    second = c;
    is_first = record { some = h.some; short = record { small = h.short; spelled = refl } };
    is_second = record { long = refl; each = h.each; spelled = refl };
    spelled = h.spelled;
    made = refl;
  };
  goes_on = λ front a p. (replicate a 0, replicate a 0, record { long = length-replicate a 0; each = All-replicate IsByte a 0 (omega arith); spelled = refl });
}

pub one_string : OneText IsString
one_string = both_one then_string one_length one_body

pub one_place : OneSpelling spelling32 (2 ^ 32) → OneText IsPlace
one_place one = both_one then_place (one32 one) (λ _. one32 one)

pub one_spot : OneSpelling spelling32 (2 ^ 32) → OneText IsSpot
one_spot one = both_one then_spot (one_place one) (λ _. one_short)

-- ---- what follows the type byte

zero_spelled : (b : Bool) → 0 < cond b (2 ^ 64) (2 ^ 32)
zero_spelled true = omega arith
zero_spelled false = omega arith

no_width : (width : ℕ) → IsWidth width → (width ≡ 30) ⊎ (width ≡ 59) → ⊥
no_width width is other = grind arith

abbrev pub num_at : ℕ → Spot → ℕ → Rec
num_at width spot value = Num width spot.place.space spot.place.page spot.offset value

num_parted : (width : ℕ) (text : List ℕ) (c : Rec) → IsWidth width → IsAfterType width text c → Parted IsSpot (λ _. IsValue width) (num_at width) text c
num_parted width text (Num own space page offset value) is h =
    let here : Parted IsSpot (λ _. IsValue own) (num_at own) text (Num own space page offset value) = record {
      front = spelling32 space ++ spelling32 page ++ bytes_high_first 2 offset;
      back = value_text own value;
      first = record { place = record { space = space; page = page }; offset = offset };
      second = value;
      is_first = record { space = h.has_text.1; page = h.has_text.2; offset = h.has_text.3; spelled = refl };
      is_second = record { has_spelling = h.has_text.4; spelled = refl };
      spelled = h.spelled ∙ sym (append_assoc (spelling32 space ++ spelling32 page) (bytes_high_first 2 offset) (value_text own value));
      made = refl;
    } in
    subst (λ (k : ℕ). Parted IsSpot (λ _. IsValue k) (num_at k) text (Num own space page offset value)) h.has_type here
num_parted width text (Text space page offset bytes) is h = absurd (no_width width is (inl (sym h.has_type)))
num_parted width text (Init space page) is h = absurd (no_width width is (inr (sym h.has_type)))

pub then_num : (width : ℕ) → IsWidth width → IsThen IsSpot (λ _. IsValue width) (IsAfterType width) (num_at width)
then_num width is = record {
  joined = λ front back a b p q. record {
    has_type = refl;
    has_text = (is, p.space, p.page, p.offset, q.has_spelling);
    spelled = ap (λ (x : List ℕ). x ++ back) p.spelled ∙ append_assoc (spelling32 a.place.space ++ spelling32 a.place.page) (bytes_high_first 2 a.offset) back
        ∙ ap (λ (x : List ℕ). spelling32 a.place.space ++ spelling32 a.place.page ++ (bytes_high_first 2 a.offset ++ x)) q.spelled;
  };
  parted = λ text c h. num_parted width text c is h;
  goes_on = λ front a p. (value_text width 0, 0, record { has_spelling = zero_spelled (eqb width 8); spelled = refl });
}

abbrev pub text_at : Spot → List ℕ → Rec
text_at spot string = Text spot.place.space spot.place.page spot.offset string

regrouped : (space page offset : ℕ) (bytes : List ℕ) → spelling32 space ++ spelling32 page ++ (bytes_high_first 2 offset ++ bytes_high_first 2 (length bytes) ++ bytes) ≡ spelling32 space ++ spelling32 page ++ bytes_high_first 2 offset ++ (bytes_high_first 2 (length bytes) ++ bytes)
regrouped space page offset bytes =
    let place : List ℕ = spelling32 space ++ spelling32 page in
    ap (λ (x : List ℕ). place ++ x) (append_assoc (bytes_high_first 2 offset) (bytes_high_first 2 (length bytes)) bytes) ∙ sym (append_assoc place (bytes_high_first 2 offset) (bytes_high_first 2 (length bytes) ++ bytes))

text_parted : (text : List ℕ) (c : Rec) → IsAfterType 30 text c → Parted IsSpot (λ _. IsString) text_at text c
text_parted text (Num width space page offset value) h = absurd (no_width width h.has_text.0 (inl h.has_type))
text_parted text (Text space page offset bytes) h = record {
  front = spelling32 space ++ spelling32 page ++ bytes_high_first 2 offset;
  back = bytes_high_first 2 (length bytes) ++ bytes;
  first = record { place = record { space = space; page = page }; offset = offset };
  second = bytes;
  is_first = record { space = h.has_text.0; page = h.has_text.1; offset = h.has_text.2; spelled = refl };
  is_second = record { some = h.has_text.3; short = h.has_text.4; each = h.has_text.5; spelled = refl };
  spelled = h.spelled ∙ regrouped space page offset bytes;
  made = refl;
}
text_parted text (Init space page) h = absurd (omega (arith, h.has_type))

pub then_text : IsThen IsSpot (λ _. IsString) (IsAfterType 30) text_at
then_text = record {
  joined = λ front back a b p q. record {
    has_type = refl;
    has_text = (p.space, p.page, p.offset, q.some, q.short, q.each);
    spelled = ap (λ (x : List ℕ). x ++ back) p.spelled
        ∙ ap (λ (x : List ℕ). spelling32 a.place.space ++ spelling32 a.place.page ++ bytes_high_first 2 a.offset ++ x) q.spelled
        ∙ sym (regrouped a.place.space a.place.page a.offset b);
  };
  parted = text_parted;
  goes_on = λ front a p. (bytes_high_first 2 1 ++ 0 ∷ [], 0 ∷ [], record { some = omega arith; short = omega arith; each = All-replicate IsByte 1 0 (omega arith); spelled = refl });
}

-- nothing
pub record IsNothing (text : List ℕ) (value : Unit {0}) : Type 0 where
  pub empty : text ≡ []

abbrev pub init_at : Place → Unit {0} → Rec
init_at place nothing = Init place.space place.page

init_parted : (text : List ℕ) (c : Rec) → IsAfterType 59 text c → Parted IsPlace (λ _. IsNothing) init_at text c
init_parted text (Num width space page offset value) h = absurd (no_width width h.has_text.0 (inr h.has_type))
init_parted text (Text space page offset bytes) h = absurd (omega (arith, h.has_type))
init_parted text (Init space page) h = record {
  front = spelling32 space ++ spelling32 page;
  back = [];
  first = record { space = space; page = page };
  second = tt;
  is_first = record { space = h.has_text.0; page = h.has_text.1; spelled = refl };
  is_second = record { empty = refl };
  spelled = h.spelled;
  made = refl;
}

pub then_init : IsThen IsPlace (λ _. IsNothing) (IsAfterType 59) init_at
then_init = record {
  joined = λ front back a b p q. record {
    has_type = refl;
    has_text = (p.space, p.page);
    spelled = ap (λ (x : List ℕ). x ++ back) p.spelled ∙ ap (λ (x : List ℕ). spelling32 a.space ++ spelling32 a.page ++ x) q.empty;
  };
  parted = init_parted;
  goes_on = λ front a p. ([], tt, record { empty = refl });
}
