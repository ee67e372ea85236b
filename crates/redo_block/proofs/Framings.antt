-- Steps over the blocks of a stream.
use Rattle.std.proofs.Common.{◌≡◌, ◌≤◌, ◌<◌, ◌+◌, ◌/◌, ℕ, suc, min, cond, true, false, List, [], ◌∷◌, ◌++◌, length, get_or, take, drop, Some, None, IsTrue, refl, sym, ap, subst, ◌∙◌, append_assoc, length-drop, length-take, eq-eqb, ◌↔◌, ◌≢◌, arith}
use Rattle.std.proofs.lemmas.List.{drop_more, append-nil}
use Rattle.std.proofs.lemmas.Bool.{false≢true}
use Rattle.std.proofs.lemmas.Bool.Decides.{nat_tests}
use Rattle.model_log.specs.declared.block.BlockView.{BlockView}
use Rattle.model_log.specs.declared.layout.TheConstants.{BLOCK_DATA}
use Rattle.model_log.specs.{block_text, data_of, framed, is_first, is_full, length_of, read_block}
use Rattle.redo_block.specs.Framing.{AreFirsts, data_with, unframed_blocks, unframed}

-- the first offset of the next block fits it
pub first-fits : (rest bytes firsts : List ℕ) (i : ℕ) → i < length firsts → bytes ≡ take BLOCK_DATA rest → AreFirsts rest (drop i firsts) → IsTrue (is_first (length_of (length bytes)) (get_or firsts i 0))
first-fits rest bytes firsts i below part each =
    let here : AreFirsts rest (get_or firsts i 0 ∷ drop (i + 1) firsts) = subst (AreFirsts rest) (drop_more firsts i 0 below) each in
    subst (λ (xs : List ℕ). IsTrue (is_first (length_of (length xs)) (get_or firsts i 0))) (sym part) here.1

-- and the others fit the others
pub firsts-drop : (rest others firsts : List ℕ) (i : ℕ) → i < length firsts → others ≡ drop BLOCK_DATA rest → AreFirsts rest (drop i firsts) → AreFirsts others (drop (i + 1) firsts)
firsts-drop rest others firsts i below part each =
    let here : AreFirsts rest (get_or firsts i 0 ∷ drop (i + 1) firsts) = subst (AreFirsts rest) (drop_more firsts i 0 below) each in
    subst (λ (xs : List ℕ). AreFirsts xs (drop (i + 1) firsts)) (sym part) here.2

-- one block more
pub framed-more : (rest bytes others blocks block new firsts whole : List ℕ) (lsn ckpt i : ℕ) → i < length firsts → bytes ≡ take BLOCK_DATA rest → others ≡ drop BLOCK_DATA rest
    → block ≡ block_text lsn bytes (get_or firsts i 0) ckpt → new ≡ blocks ++ block
    → blocks ++ framed rest lsn (drop i firsts) ckpt ≡ whole → new ++ framed others (lsn + 512) (drop (i + 1) firsts) ckpt ≡ whole
framed-more rest bytes others blocks block new firsts whole lsn ckpt i below part left filled joined so_far =
    let text : block ≡ block_text lsn (take BLOCK_DATA rest) (get_or firsts i 0) ckpt = filled ∙ ap (λ xs. block_text lsn xs (get_or firsts i 0) ckpt) part in
    let step : framed rest lsn (drop i firsts) ckpt ≡ block_text lsn (take BLOCK_DATA rest) (get_or firsts i 0) ckpt ++ framed (drop BLOCK_DATA rest) (lsn + 512) (drop (i + 1) firsts) ckpt
    = ap (λ xs. framed rest lsn xs ckpt) (drop_more firsts i 0 below) in
    let tail : List ℕ = framed (drop BLOCK_DATA rest) (lsn + 512) (drop (i + 1) firsts) ckpt in
    ap (λ xs. new ++ framed xs (lsn + 512) (drop (i + 1) firsts) ckpt) left
    ∙ ap (λ xs. xs ++ tail) (joined ∙ ap (λ xs. blocks ++ xs) text)
    ∙ append_assoc blocks (block_text lsn (take BLOCK_DATA rest) (get_or firsts i 0) ckpt) tail
    ∙ ap (λ xs. blocks ++ xs) (sym step) ∙ so_far

-- what is left of the blocks, one block on
pub unframed-step : (rest : List ℕ) (lsn : ℕ) → 512 ≤ length rest
    → unframed rest lsn ≡ data_with (read_block lsn (take 512 rest)) (take 512 rest) (unframed (drop 512 rest) (lsn + 512))
unfolding unframed_blocks
unframed-step rest lsn enough =
    let count : length rest / 512 ≡ suc (length (drop 512 rest) / 512) = omega (arith, length-drop 512 rest) in
    ap (λ n. unframed_blocks n rest lsn) count

-- and at their end
pub unframed-end : (rest : List ℕ) (lsn : ℕ) → length rest < 512 → unframed rest lsn ≡ []
unfolding unframed_blocks
unframed-end rest lsn short = let none : length rest / 512 ≡ 0 = omega arith in ap (λ n. unframed_blocks n rest lsn) none

-- no block is left
pub unframed-all : (rest stream whole : List ℕ) (lsn : ℕ) → length rest < 512 → stream ++ unframed rest lsn ≡ whole → stream ≡ whole
unframed-all rest stream whole lsn short so_far =
    sym (append-nil stream) ∙ ap (λ xs. stream ++ xs) (sym (unframed-end rest lsn short)) ∙ so_far

-- the next block isn't read
pub unframed-unread : (rest block stream whole : List ℕ) (lsn : ℕ) → 512 ≤ length rest → block ≡ take 512 rest → None ≡ read_block lsn block
    → stream ++ unframed rest lsn ≡ whole → stream ≡ whole
unframed-unread rest block stream whole lsn enough cut unread so_far =
    let seen : read_block lsn (take 512 rest) ≡ None = ap (read_block lsn) (sym cut) ∙ sym unread in
    let stops : unframed rest lsn ≡ []
    = unframed-step rest lsn enough ∙ ap (λ o. data_with o (take 512 rest) (unframed (drop 512 rest) (lsn + 512))) seen in
    sym (append-nil stream) ∙ ap (λ xs. stream ++ xs) (sym stops) ∙ so_far

-- the next block is read
unframed-read : (rest block : List ℕ) (lsn : ℕ) (view : BlockView) → 512 ≤ length rest → block ≡ take 512 rest → Some view ≡ read_block lsn block
    → unframed rest lsn ≡ cond (is_full view) (data_of view block ++ unframed (drop 512 rest) (lsn + 512)) (data_of view block)
unframed-read rest block lsn view enough cut read =
    let seen : read_block lsn (take 512 rest) ≡ Some view = ap (read_block lsn) (sym cut) ∙ sym read in
    unframed-step rest lsn enough ∙ ap (λ o. data_with o (take 512 rest) (unframed (drop 512 rest) (lsn + 512))) seen
    ∙ ap (λ xs. cond (is_full view) (data_of view xs ++ unframed (drop 512 rest) (lsn + 512)) (data_of view xs)) (sym cut)

-- and it isn't full
pub unframed-last : (rest block bytes stream new whole : List ℕ) (lsn : ℕ) (view : BlockView) → 512 ≤ length rest → block ≡ take 512 rest → Some view ≡ read_block lsn block
    → view.length < 512 → bytes ≡ data_of view block → new ≡ stream ++ bytes → stream ++ unframed rest lsn ≡ whole → new ≡ whole
unframed-last rest block bytes stream new whole lsn view enough cut read short part joined so_far =
    let part_full : is_full view ≡ false = grind (arith, nat_tests) in
    let stops : unframed rest lsn ≡ data_of view block
    = unframed-read rest block lsn view enough cut read ∙ ap (λ full. cond full (data_of view block ++ unframed (drop 512 rest) (lsn + 512)) (data_of view block)) part_full in
    joined ∙ ap (λ xs. stream ++ xs) (part ∙ sym stops) ∙ so_far

-- or it is, and others follow
pub unframed-more : (rest block others bytes stream new whole : List ℕ) (lsn : ℕ) (view : BlockView) → 512 ≤ length rest → block ≡ take 512 rest → others ≡ drop 512 rest → Some view ≡ read_block lsn block
    → view.length ≡ 512 → bytes ≡ data_of view block → new ≡ stream ++ bytes → stream ++ unframed rest lsn ≡ whole → new ++ unframed others (lsn + 512) ≡ whole
unframed-more rest block others bytes stream new whole lsn view enough cut left read long part joined so_far =
    let full : is_full view ≡ true = eq-eqb view.length 512 long in
    let tail : List ℕ = unframed (drop 512 rest) (lsn + 512) in
    let step : unframed rest lsn ≡ data_of view block ++ tail
    = unframed-read rest block lsn view enough cut read ∙ ap (λ test. cond test (data_of view block ++ tail) (data_of view block)) full in
    ap (λ xs. new ++ unframed xs (lsn + 512)) left
    ∙ ap (λ xs. xs ++ tail) (joined ∙ ap (λ xs. stream ++ xs) part)
    ∙ append_assoc stream (data_of view block) tail
    ∙ ap (λ xs. stream ++ xs) (sym step) ∙ so_far

-- the first offset that comes next fits the first block of the bytes
IsNext : List ℕ → ℕ → Type 0
IsNext stream first = (0 < length stream) × IsTrue (is_first (length_of (min BLOCK_DATA (length stream))) first)

pos-length : (xs : List ℕ) → xs ≢ [] → 0 < length xs
pos-length [] some = absurd (some refl)
pos-length (x ∷ xs) some = omega arith

pub some-length : (xs : List ℕ) → 0 < length xs → xs ≢ []
some-length [] some none = omega arith
some-length (x ∷ xs) some none = cc

-- where the next one doesn't fit, they don't
next-fits : (rest firsts : List ℕ) (i : ℕ) → i < length firsts → AreFirsts rest (drop i firsts) → IsNext rest (get_or firsts i 0)
unfolding IsNext
next-fits rest firsts i below each =
    let here : AreFirsts rest (get_or firsts i 0 ∷ drop (i + 1) firsts) = subst (AreFirsts rest) (drop_more firsts i 0 below) each in
    (pos-length rest here.0, subst (λ (n : ℕ). IsTrue (is_first (length_of n) (get_or firsts i 0))) (length-take BLOCK_DATA rest) here.1)

pub firsts-none : (rest stream firsts : List ℕ) (i : ℕ) → i < length firsts
    → ((0 < length rest) × IsTrue (is_first (length_of (min BLOCK_DATA (length rest))) (get_or firsts i 0)) → IsTrue false)
    → (AreFirsts rest (drop i firsts) ↔ AreFirsts stream firsts) → (IsTrue false ↔ AreFirsts stream firsts)
unfolding IsNext
firsts-none rest stream firsts i below wrong so_far =
    (λ never. absurd (false≢true never), λ all. wrong (next-fits rest firsts i below (so_far.1 all)))

-- where it fits, they do if the others do
pub firsts-more : (rest others stream firsts : List ℕ) (i : ℕ) → i < length firsts → others ≡ drop BLOCK_DATA rest
    → (0 < length rest) × IsTrue (is_first (length_of (min BLOCK_DATA (length rest))) (get_or firsts i 0))
    → (AreFirsts rest (drop i firsts) ↔ AreFirsts stream firsts) → (AreFirsts others (drop (i + 1) firsts) ↔ AreFirsts stream firsts)
firsts-more rest others stream firsts i below left next so_far =
    let first : ℕ = get_or firsts i 0 in
    let fits : IsTrue (is_first (length_of (length (take BLOCK_DATA rest))) first) = subst (λ (n : ℕ). IsTrue (is_first (length_of n) first)) (sym (length-take BLOCK_DATA rest)) next.1 in (
      λ each. so_far.0 (subst (AreFirsts rest) (sym (drop_more firsts i 0 below)) (some-length rest next.0, fits, subst (λ (xs : List ℕ). AreFirsts xs (drop (i + 1) firsts)) left each)),
      λ all. firsts-drop rest others firsts i below left (so_far.1 all),
    )
