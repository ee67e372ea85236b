-- What a crash leaves of a row of sector writes, as a loop over the sectors finds it.
use Rattle.std.proofs.Common.{◌≡◌, ℕ, zero, suc, ◌+◌, ◌-◌, ◌*◌, ◌/◌, ◌%◌, ◌^◌, ◌<◌, ◌≤◌, eqb, Bool, true, false, cond, List, [], ◌∷◌, ◌++◌, length, take, drop, refl, sym, ◌∙◌, ap, arith, add-one, length-append}
use Rattle.std.specs.List.{flat_map}
use Rattle.std.proofs.lemmas.List.{drop-drop, take-take, length-take-le, append-nil}
use Rattle.std.proofs.lemmas.Grind.{flat_map-append}
use Rattle.std.proofs.lemmas.List.Sums.{fold-append}
use Rattle.model_base.specs.{overwritten}
use Rattle.model_base.specs.declared.limits.TheConstants.{BLOCK_SIZE}
use Rattle.model_device.specs.declared.write.Write.{Write}
use Rattle.model_device.specs.{after_write, after_writes, cut_to, left_of, sector_writes, sectors_from, survives}

-- one sector of a write as a write
abbrev pub sector_write : ℕ → ℕ → List ℕ → Write
sector_write k at bytes = record { at = at + BLOCK_SIZE * k; bytes = take BLOCK_SIZE (drop (BLOCK_SIZE * k) bytes) }

sector_write-suc : (k at : ℕ) (bytes : List ℕ) → sector_write k (at + BLOCK_SIZE) (drop BLOCK_SIZE bytes) ≡ sector_write (suc k) at bytes
sector_write-suc k at bytes =
    let at_is : at + BLOCK_SIZE + BLOCK_SIZE * k ≡ at + BLOCK_SIZE * suc k = omega arith in
    let from_is : BLOCK_SIZE + BLOCK_SIZE * k ≡ BLOCK_SIZE * suc k = omega arith in
    let bytes_is : take BLOCK_SIZE (drop (BLOCK_SIZE * k) (drop BLOCK_SIZE bytes)) ≡ take BLOCK_SIZE (drop (BLOCK_SIZE * suc k) bytes) =
    ap (take BLOCK_SIZE) (drop-drop (BLOCK_SIZE * k) BLOCK_SIZE bytes ∙ ap (λ n. drop n bytes) from_is) in
    cc

length-sectors_from : (n at : ℕ) (bytes : List ℕ) → length (sectors_from n at bytes) ≡ n
length-sectors_from zero at bytes = refl
length-sectors_from (suc n) at bytes = ap suc (length-sectors_from n (at + BLOCK_SIZE) (drop BLOCK_SIZE bytes))

pub length-sector_writes : (write : Write) → length (sector_writes write) ≡ length write.bytes / BLOCK_SIZE
length-sector_writes write = length-sectors_from (length write.bytes / BLOCK_SIZE) write.at write.bytes

take-sectors_from : (n k at : ℕ) (bytes : List ℕ) → k < n → take (suc k) (sectors_from n at bytes) ≡ take k (sectors_from n at bytes) ++ sector_write k at bytes ∷ []
take-sectors_from zero k at bytes below = absurd (omega arith)
take-sectors_from (suc n) zero at bytes below =
    let at_is : at ≡ at + BLOCK_SIZE * 0 = omega arith in
    cc
take-sectors_from (suc n) (suc k) at bytes below =
    ap (λ rest. (record { at = at; bytes = take BLOCK_SIZE bytes }) ∷ rest)
    (take-sectors_from n k (at + BLOCK_SIZE) (drop BLOCK_SIZE bytes) (omega arith)
    ∙ ap (λ w. take k (sectors_from n (at + BLOCK_SIZE) (drop BLOCK_SIZE bytes)) ++ w ∷ []) (sector_write-suc k at bytes))

left_of-append : (cut pick i : ℕ) (xs ys : List Write) → left_of cut pick i (xs ++ ys) ≡ left_of cut pick i xs ++ left_of cut pick (i + length xs) ys
left_of-append cut pick i [] ys = ap (λ n. left_of cut pick n ys) (omega arith)
left_of-append cut pick i (x ∷ xs) ys =
    let rest : left_of cut pick (i + 1) (xs ++ ys) ≡ left_of cut pick (i + 1) xs ++ left_of cut pick (i + suc (length xs)) ys =
    left_of-append cut pick (i + 1) xs ys ∙ ap (λ n. left_of cut pick (i + 1) xs ++ left_of cut pick n ys) (omega arith) in
    ap (λ l. (cond (survives pick i) x (cut_to cut x)) ∷ l) rest

-- the numbers count modulo 64
left_of-mod : (cut pick i j : ℕ) (writes : List Write) → i % 64 ≡ j % 64 → left_of cut pick i writes ≡ left_of cut pick j writes
left_of-mod cut pick i j [] same = refl
left_of-mod cut pick i j (write ∷ writes) same =
    let rest : left_of cut pick (i + 1) writes ≡ left_of cut pick (j + 1) writes = left_of-mod cut pick (i + 1) (j + 1) writes (omega arith) in
    let test : survives pick i ≡ survives pick j = ap (λ n. eqb (pick / 2 ^ n % 2) 1) same in
    ap (λ b. (cond b write (cut_to cut write)) ∷ left_of cut pick (i + 1) writes) test
    ∙ ap (λ l. (cond (survives pick j) write (cut_to cut write)) ∷ l) rest

-- what is left of a sector's write, as so many of its bytes
left-bytes : (cut k at : ℕ) (bytes : List ℕ) → cut ≤ BLOCK_SIZE → (b : Bool) (image : List ℕ)
    → after_write image (cond b (sector_write k at bytes) (cut_to cut (sector_write k at bytes)))
    ≡ overwritten (at + BLOCK_SIZE * k) (take (cond b BLOCK_SIZE cut) (drop (BLOCK_SIZE * k) bytes)) image
left-bytes cut k at bytes short true image = refl
left-bytes cut k at bytes short false image =
    ap (λ part. overwritten (at + BLOCK_SIZE * k) part image) (take-take cut BLOCK_SIZE (drop (BLOCK_SIZE * k) bytes) short)

-- what a crash leaves of one more sector of a write is put in its place
pub after_writes-left_more : (image : List ℕ) (cut pick bit next k count : ℕ) (write : Write) → cut ≤ BLOCK_SIZE → k < length write.bytes / BLOCK_SIZE → next ≡ (bit + k) % 64
    → count ≡ cond (survives pick next) BLOCK_SIZE cut → (before bytes : List ℕ) → before ≡ after_writes image (left_of cut pick bit (take k (sector_writes write))) → bytes ≡ write.bytes
    → overwritten (write.at + k * BLOCK_SIZE) (take (k * BLOCK_SIZE + count - k * BLOCK_SIZE) (drop (k * BLOCK_SIZE) bytes)) before
    ≡ after_writes image (left_of cut pick bit (take (k + 1) (sector_writes write)))
after_writes-left_more image cut pick bit next k count write short below next_is count_is before bytes before_is bytes_is =
    let sectors = sector_writes write in
    let one = sector_write k write.at write.bytes in
    let split : take (k + 1) sectors ≡ take k sectors ++ one ∷ [] =
    rw add-one (take-sectors_from (length write.bytes / BLOCK_SIZE) k write.at write.bytes below) in
    let length_is : length (take k sectors) ≡ k = length-take-le k sectors (omega (arith, length-sector_writes write)) in
    let test : survives pick (bit + length (take k sectors)) ≡ survives pick next = ap (λ n. eqb (pick / 2 ^ n % 2) 1) (omega arith) in
    let more : after_writes image (left_of cut pick bit (take (k + 1) sectors)) ≡ after_write before (cond (survives pick next) one (cut_to cut one)) =
    ap (λ l. after_writes image (left_of cut pick bit l)) split
    ∙ ap (after_writes image) (left_of-append cut pick bit (take k sectors) (one ∷ []))
    ∙ fold-append after_write image (left_of cut pick bit (take k sectors)) (left_of cut pick (bit + length (take k sectors)) (one ∷ []))
    ∙ ap (λ b. after_write (after_writes image (left_of cut pick bit (take k sectors))) (cond b one (cut_to cut one))) test
    ∙ ap (λ row. after_write row (cond (survives pick next) one (cut_to cut one))) (sym before_is) in
    let len : k * BLOCK_SIZE + count - k * BLOCK_SIZE ≡ count = omega arith in
    let from : k * BLOCK_SIZE ≡ BLOCK_SIZE * k = omega arith in
    rw (len, from, bytes_is, count_is) (sym (more ∙ left-bytes cut k write.at write.bytes short (survives pick next) before))

flat_map-sector_writes_push : (writes : List Write) (write : Write) → flat_map sector_writes (writes ++ write ∷ []) ≡ flat_map sector_writes writes ++ sector_writes write
flat_map-sector_writes_push writes write =
    flat_map-append sector_writes writes (write ∷ []) ∙ ap (λ l. flat_map sector_writes writes ++ l) (append-nil (sector_writes write))

-- the number of the sector after one more write, modulo 64
pub length-flat_map_push : (bit : ℕ) (writes : List Write) (write : Write) → bit ≡ length (flat_map sector_writes writes) % 64 → (bit + length (sector_writes write)) % 64 ≡ length (flat_map sector_writes (writes ++ write ∷ [])) % 64
length-flat_map_push bit writes write bit_is =
    let all : length (flat_map sector_writes (writes ++ write ∷ [])) ≡ length (flat_map sector_writes writes) + length (sector_writes write) =
    ap length (flat_map-sector_writes_push writes write) ∙ length-append (flat_map sector_writes writes) (sector_writes write) in
    omega arith

-- what a crash leaves of one more write
pub after_writes-crash_more : (image : List ℕ) (cut pick bit : ℕ) (writes : List Write) (write : Write) → bit ≡ length (flat_map sector_writes writes) % 64 →
    after_writes image (left_of cut pick 0 (flat_map sector_writes (writes ++ write ∷ [])))
    ≡ after_writes (after_writes image (left_of cut pick 0 (flat_map sector_writes writes))) (left_of cut pick bit (sector_writes write))
after_writes-crash_more image cut pick bit writes write bit_is =
    let before = flat_map sector_writes writes in
    ap (λ l. after_writes image (left_of cut pick 0 l)) (flat_map-sector_writes_push writes write)
    ∙ ap (after_writes image) (left_of-append cut pick 0 before (sector_writes write))
    ∙ fold-append after_write image (left_of cut pick 0 before) (left_of cut pick (0 + length before) (sector_writes write))
    ∙ ap (after_writes (after_writes image (left_of cut pick 0 before))) (left_of-mod cut pick (0 + length before) bit (sector_writes write) (omega arith))
