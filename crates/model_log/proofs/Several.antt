-- The texts of groups: no one begins another.
use Rattle.std.proofs.Common.{◌≡◌, ℕ, ◌+◌, ◌<◌, ◌^◌, List, [], ◌∷◌, ◌++◌, refl, sym, ap, subst, ◌∙◌, append_assoc, arith}
use Rattle.std.specs.List.{flat_map, AllByRecursion}
use Rattle.std.proofs.lemmas.List.{append-nil}
use Rattle.model_base.specs.{spelling32, spelling64}
use Rattle.model_log.specs.Group.{type_of, after_type, record_text, single_text, IsWidth, HasText, group_text, IsGroup}
use Rattle.model_log.specs.Bodies.{IsAfterType, IsRecord}
use Rattle.model_log.specs.declared.rec.Rec.{Rec}
use Rattle.model_log.specs.declared.rec.Rec.TheVariants.{Num, Text, Init}
use Rattle.model_base.proofs.SpellingLemmas.{one_spelling32, one_spelling64}
use Rattle.model_log.proofs.Sequence.{OneText, both_one}
use Rattle.model_log.proofs.Records.{OneSpelling, IsNothing, one_place, one_spot, one_string, one_value, then_init, then_num, then_text}

-- ---- one record

one_nothing : OneText IsNothing
one_nothing s t x y a b p q e = (refl, ap (λ (z : List ℕ). z ++ x) (sym p.empty) ∙ e ∙ ap (λ (z : List ℕ). z ++ y) q.empty)

-- what no spelling does, given as one fact
pub record OneOfBoth : Type 0 where
  pub thirty_two : OneSpelling spelling32 (2 ^ 32)
  pub sixty_four : OneSpelling spelling64 (2 ^ 64)

pub one_of_both : OneOfBoth
one_of_both = record { thirty_two = one_spelling32; sixty_four = one_spelling64 }

one_after : OneOfBoth → (kind : ℕ) → OneText (IsAfterType kind)
one_after one kind s t x y (Num width space page offset value) b p q e =
    both_one (then_num kind (subst IsWidth p.has_type p.has_text.0)) (one_spot one.thirty_two) (λ _. one_value one.thirty_two one.sixty_four kind) s t x y (Num width space page offset value) b p q e
one_after one kind s t x y (Text space page offset bytes) b p q e =
    subst (λ (k : ℕ). OneText (IsAfterType k)) p.has_type (both_one then_text (one_spot one.thirty_two) (λ _. one_string)) s t x y (Text space page offset bytes) b p q e
one_after one kind s t x y (Init space page) b p q e =
    subst (λ (k : ℕ). OneText (IsAfterType k)) p.has_type (both_one then_init (one_place one.thirty_two) (λ _. one_nothing)) s t x y (Init space page) b p q e

pub one_record : OneOfBoth → (flag : ℕ) → OneText (IsRecord flag)
one_record one flag s t x y a b p q e =
    let whole : (flag + type_of a) ∷ (after_type a ++ x) ≡ (flag + type_of b) ∷ (after_type b ++ y) = ap (λ (z : List ℕ). z ++ x) (sym p.spelled) ∙ e ∙ ap (λ (z : List ℕ). z ++ y) q.spelled in
    let heads : flag + type_of a ≡ flag + type_of b = cc in
    let tails : after_type a ++ x ≡ after_type b ++ y = cc in
    one_after one (type_of b) (after_type a) (after_type b) x y a b (record { has_type = omega arith; has_text = p.has_text; spelled = refl }) (record { has_type = refl; has_text = q.has_text; spelled = refl }) tails

width_small : (width : ℕ) → IsWidth width → width < 9
width_small width is = grind arith

-- a type byte without the flag
pub type_small : (rec : Rec) → HasText rec → type_of rec < 128
type_small (Num width space page offset value) h = let small = width_small width h.0 in omega arith
type_small (Text space page offset bytes) h = omega arith
type_small (Init space page) h = omega arith

-- the end mark is no type byte
no_end : (rec : Rec) → HasText rec → type_of rec ≡ 31 → ⊥
no_end (Num width space page offset value) h is = let small = width_small width h.0 in omega arith
no_end (Text space page offset bytes) h is = omega arith
no_end (Init space page) h is = omega arith

pub is_record : (rec : Rec) → HasText rec → IsRecord 0 (record_text rec) rec
unfolding record_text
is_record rec h = let same : type_of rec ≡ 0 + type_of rec = omega arith in record { has_text = h; spelled = ap (λ (k : ℕ). k ∷ after_type rec) same }

pub record_is : (text : List ℕ) (rec : Rec) → IsRecord 0 text rec → text ≡ record_text rec
unfolding record_text
record_is text rec h = let same : 0 + type_of rec ≡ type_of rec = omega arith in h.spelled ∙ ap (λ (k : ℕ). k ∷ after_type rec) same

pub is_single : (rec : Rec) → HasText rec → IsRecord 128 (single_text rec) rec
unfolding single_text
is_single rec h = record { has_text = h; spelled = refl }

pub single_is : (text : List ℕ) (rec : Rec) → IsRecord 128 text rec → text ≡ single_text rec
unfolding single_text
single_is text rec h = h.spelled

-- the first byte of a record
pub record_head : (rec : Rec) (x y : List ℕ) (byte : ℕ) → record_text rec ++ x ≡ byte ∷ y → byte ≡ type_of rec
unfolding record_text
record_head rec x y byte e = cc

pub single_head : (rec : Rec) (x y : List ℕ) (byte : ℕ) → single_text rec ++ x ≡ byte ∷ y → byte ≡ 128 + type_of rec
unfolding single_text
single_head rec x y byte e = cc

-- ---- several records

abbrev pub texts : List Rec → List ℕ
texts recs = flat_map record_text recs

-- records that begin a group are the first ones of it
pub record Continued (recs group : List Rec) (x y : List ℕ) : Type 0 where
  pub others : List Rec
  pub group_is : group ≡ recs ++ others
  pub each : AllByRecursion HasText others
  pub rest_is : x ≡ texts others ++ 31 ∷ y

pub continued : OneOfBoth → (recs group : List Rec) (x y : List ℕ) → AllByRecursion HasText recs → AllByRecursion HasText group → texts recs ++ x ≡ texts group ++ 31 ∷ y → Continued recs group x y
continued one [] group x y has_recs has_group e = record { others = group; group_is = refl; each = has_group; rest_is = e }
continued one (rec ∷ recs) [] x y has_recs has_group e =
    absurd (no_end rec has_recs.0 (sym (record_head rec (texts recs ++ x) y 31 (sym (append_assoc (record_text rec) (texts recs) x) ∙ e))))
continued one (rec ∷ recs) (first ∷ group) x y has_recs has_group e =
    let parts : record_text rec ++ (texts recs ++ x) ≡ record_text first ++ (texts group ++ 31 ∷ y) = sym (append_assoc (record_text rec) (texts recs) x) ∙ e ∙ append_assoc (record_text first) (texts group) (31 ∷ y) in
    let same = one_record one 0 (record_text rec) (record_text first) (texts recs ++ x) (texts group ++ 31 ∷ y) rec first (is_record rec has_recs.0) (is_record first has_group.0) parts in
    let w = continued one recs group x y has_recs.1 has_group.1 same.1 in
    let group_is : group ≡ recs ++ w.others = w.group_is in
    record { others = w.others; group_is = ap (λ (r : Rec). r ∷ group) (sym same.0) ∙ ap (λ (g : List Rec). rec ∷ g) group_is; each = w.each; rest_is = w.rest_is }

-- nothing stands before the end mark
pub at_end : (others : List Rec) (x y : List ℕ) → AllByRecursion HasText others → 31 ∷ x ≡ texts others ++ 31 ∷ y → (others ≡ []) × (x ≡ y)
at_end [] x y each e = (refl, cc)
at_end (rec ∷ others) x y each e = absurd (no_end rec each.0 (sym (record_head rec (texts others ++ 31 ∷ y) x 31 (sym (append_assoc (record_text rec) (texts others) (31 ∷ y)) ∙ sym e))))

-- the text of a group of several records, with what follows it
pub several_spelled : (first second : Rec) (others : List Rec) (x : List ℕ) → group_text (first ∷ second ∷ others) ++ x ≡ texts (first ∷ second ∷ others) ++ 31 ∷ x
unfolding group_text
several_spelled first second others x = append_assoc (texts (first ∷ second ∷ others)) (31 ∷ []) x

-- a record alone and several records begin with different bytes
pub not_both : (rec first : Rec) (others : List Rec) (x y : List ℕ) → HasText first → single_text rec ++ x ≡ texts (first ∷ others) ++ y → ⊥
unfolding record_text
not_both rec first others x y has_text e =
    let head = single_head rec x (after_type first ++ (texts others ++ y)) (type_of first) (e ∙ append_assoc (record_text first) (texts others) y) in
    omega (arith, head, type_small first has_text)

pub one_group_text : OneOfBoth → (g h : List Rec) (x y : List ℕ) → IsGroup g → IsGroup h → group_text g ++ x ≡ group_text h ++ y → (g ≡ h) × (x ≡ y)
unfolding group_text
one_group_text one [] h x y p q e = absurd (p.some refl)
one_group_text one (a ∷ g) [] x y p q e = absurd (q.some refl)
one_group_text one (a ∷ []) (b ∷ []) x y p q e =
    let same = one_record one 128 (single_text a) (single_text b) x y a b (is_single a p.each.0) (is_single b q.each.0) e in
    (ap (λ (r : Rec). r ∷ []) same.0, same.1)
one_group_text one (a ∷ []) (b ∷ c ∷ h) x y p q e = absurd (not_both a b (c ∷ h) x (31 ∷ y) q.each.0 (e ∙ several_spelled b c h y))
one_group_text one (a ∷ b ∷ g) (c ∷ []) x y p q e = absurd (not_both c a (b ∷ g) y (31 ∷ x) p.each.0 (sym e ∙ several_spelled a b g x))
one_group_text one (a ∷ b ∷ g) (c ∷ d ∷ h) x y p q e =
    let w = continued one (a ∷ b ∷ g) (c ∷ d ∷ h) (31 ∷ x) y p.each q.each (sym (several_spelled a b g x) ∙ e ∙ several_spelled c d h y) in
    let ended = at_end w.others x y w.each w.rest_is in
    let recs : List Rec = a ∷ b ∷ g in
    (sym (w.group_is ∙ ap (λ (r : List Rec). recs ++ r) ended.0 ∙ append-nil recs), ended.1)

-- no group's text begins another's
abbrev pub OneGroup : Type 0
OneGroup = (g h : List Rec) (x y : List ℕ) → IsGroup g → IsGroup h → group_text g ++ x ≡ group_text h ++ y → (g ≡ h) × (x ≡ y)

pub one_group : OneGroup
one_group = one_group_text one_of_both

-- nothing is joined of nothing
pub back_nil : (xs ys : List ℕ) → xs ++ ys ≡ [] → ys ≡ []
back_nil [] ys e = e
back_nil (x ∷ xs) ys e = absurd cc
