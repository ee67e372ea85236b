-- The text of a group has a byte, and is of bytes.
use Rattle.std.proofs.Common.{◌≢◌, ◌≤◌, ◌<◌, ◌+◌, ◌/◌, ◌%◌, ◌^◌, ◌==◌, ℕ, Bool, true, false, cond, List, [], ◌∷◌, ◌++◌, length, refl, ⊎_elim, length-append, arith}
use Rattle.std.specs.Prelude.{nat_lt}
use Rattle.std.specs.List.{All, AllByRecursion, flat_map}
use Rattle.std.specs.Int.{bytes_high_first}
use Rattle.std.proofs.lemmas.List.Elements.{All-nil, All-cons, All-append}
use Rattle.model_base.specs.declared.shape.Shape.{Shape}
use Rattle.model_base.specs.{spelling32, spelling64}
use Rattle.model_log.specs.declared.rec.Rec.{Rec}
use Rattle.model_log.specs.declared.rec.Rec.TheVariants.{Num, Text, Init}
use Rattle.model_log.specs.declared.group.Whole.{Whole}
use Rattle.model_log.specs.{after_type, group_text, groups_of, HasText, IsByte, IsWidth, record_text, single_text, stream_of, type_of, value_text}
use Rattle.model_log.proofs.Checksums.{bytes-bytes_high_first}
use Rattle.model_store.specs.{IsStorable}

either : (t : Bool) (a b : List ℕ) → All IsByte a → All IsByte b → All IsByte (cond t a b)
either true a b first second = first
either false a b first second = second

high : (k n : ℕ) → All IsByte (bytes_high_first k n)
high k n = bytes-bytes_high_first k n

spelled32 : (n : ℕ) → All IsByte (spelling32 n)
unfolding spelling32
spelled32 n =
    either (nat_lt n 0x80) _ _ (high 1 n)
    (either (nat_lt n 0x4000) _ _ (high 2 (0x8000 + n))
    (either (nat_lt n 0x20_0000) _ _ (high 3 (0xC0_0000 + n))
    (either (nat_lt n 0x1000_0000) _ _ (high 4 (0xE000_0000 + n))
    (either (nat_lt n 0xFF00_0000) _ _ (All-cons IsByte 0xF0 (bytes_high_first 4 n) (omega arith) (high 4 n))
    (either (nat_lt n 0xFFFE_0000) _ _ (high 4 (0xFE00_0000 + n % 0x100_0000))
    (either (nat_lt n 0xFFFF_FC00) _ _ (high 3 (0xFC_0000 + n % 0x2_0000)) (high 2 (0xF800 + n % 0x400))))))))

spelled64 : (n : ℕ) → All IsByte (spelling64 n)
unfolding spelling64
spelled64 n = All-append IsByte (spelling32 (n / 2 ^ 32)) (bytes_high_first 4 (n % 2 ^ 32)) (spelled32 (n / 2 ^ 32)) (high 4 (n % 2 ^ 32))

both : (a b : List ℕ) → All IsByte a → All IsByte b → All IsByte (a ++ b)
both a b first second = All-append IsByte a b first second

after : (rec : Rec) → HasText rec → All IsByte (after_type rec)
after (Num width space page offset value) has =
    both (spelling32 space ++ spelling32 page) (bytes_high_first 2 offset ++ value_text width value) (both (spelling32 space) (spelling32 page) (spelled32 space) (spelled32 page))
    (both (bytes_high_first 2 offset) (value_text width value) (high 2 offset) (either (width == 8) (spelling64 value) (spelling32 value) (spelled64 value) (spelled32 value)))
after (Text space page offset bytes) has =
    both (spelling32 space ++ spelling32 page) (bytes_high_first 2 offset ++ bytes_high_first 2 (length bytes) ++ bytes) (both (spelling32 space) (spelling32 page) (spelled32 space) (spelled32 page))
    (both (bytes_high_first 2 offset ++ bytes_high_first 2 (length bytes)) bytes (both (bytes_high_first 2 offset) (bytes_high_first 2 (length bytes)) (high 2 offset) (high 2 (length bytes))) has.5)
after (Init space page) has =
    both (spelling32 space ++ spelling32 page) [] (both (spelling32 space) (spelling32 page) (spelled32 space) (spelled32 page)) (All-nil IsByte)

type-small : (rec : Rec) → HasText rec → type_of rec < 128
type-small (Num width space page offset value) has =
    let is : IsWidth width = has.0 in
    ⊎_elim (λ a. omega arith) (λ r. ⊎_elim (λ a. omega arith) (λ q. ⊎_elim (λ a. omega arith) (λ b. omega arith) q) r) is
type-small (Text space page offset bytes) has = omega arith
type-small (Init space page) has = omega arith

record-bytes : (rec : Rec) → HasText rec → All IsByte (record_text rec)
unfolding record_text
record-bytes rec has = All-cons IsByte (type_of rec) (after_type rec) (omega (arith, type-small rec has)) (after rec has)

single-bytes : (rec : Rec) → HasText rec → All IsByte (single_text rec)
unfolding single_text
single-bytes rec has = All-cons IsByte (0x80 + type_of rec) (after_type rec) (omega (arith, type-small rec has)) (after rec has)

records-bytes : (recs : List Rec) → AllByRecursion HasText recs → All IsByte (flat_map record_text recs)
records-bytes [] all = All-nil IsByte
records-bytes (rec ∷ recs) all = both (record_text rec) (flat_map record_text recs) (record-bytes rec all.0) (records-bytes recs all.1)

pub group-bytes : (group : List Rec) → AllByRecursion HasText group → All IsByte (group_text group)
unfolding group_text
group-bytes [] all = All-nil IsByte
group-bytes (rec ∷ []) all = single-bytes rec all.0
group-bytes (rec ∷ second ∷ others) all =
    both (flat_map record_text (rec ∷ second ∷ others)) (31 ∷ []) (records-bytes (rec ∷ second ∷ others) all) (All-cons IsByte 31 [] (omega arith) (All-nil IsByte))

pub stream-bytes : (shape : Shape) (wholes : List Whole) → AllByRecursion (IsStorable shape) (groups_of wholes) → All IsByte (stream_of (groups_of wholes))
unfolding stream_of
stream-bytes shape [] all = All-nil IsByte
stream-bytes shape (whole ∷ wholes) all = both (group_text whole.group) (stream_of (groups_of wholes)) (group-bytes whole.group all.0.has_text.each) (stream-bytes shape wholes all.1)

-- there is no empty group, so its text has a byte
pub group_text-some : (group : List Rec) → group ≢ [] → 1 ≤ length (group_text group)
unfolding group_text single_text
group_text-some [] some = absurd (some refl)
group_text-some (rec ∷ []) some = omega arith
group_text-some (rec ∷ second ∷ others) some = omega (arith, length-append (flat_map record_text (rec ∷ second ∷ others)) (31 ∷ []))
