-- A stream that was cut into blocks is joined again.
use Rattle.std.proofs.Common.{◌≡◌, ◌≤◌, ◌<◌, ◌==◌, ◌+◌, ◌^◌, ℕ, min, cond, Bool, true, false, List, [], ◌∷◌, ◌++◌, length, take, drop, Some, refl, sym, ap, ◌∙◌, take_at, drop_at, length-append, length-take, arith, IsTrue}
use Rattle.std.specs.List.{All}
use Rattle.std.proofs.lemmas.Bool.Decides.{nat_tests}
use Rattle.std.proofs.lemmas.List.{take_all, take-append-drop}
use Rattle.std.proofs.lemmas.List.Elements.{All-take, All-drop}
use Rattle.model_log.specs.declared.block.BlockView.{BlockView}
use Rattle.model_log.specs.declared.layout.TheConstants.{BLOCK_DATA}
use Rattle.model_log.specs.{block_text, data_of, framed, is_first, is_full, length_of, read_block}
use Rattle.model_log.proofs.Checksums.{IsByte}
use Rattle.model_log.proofs.BlockRound.{view-reads_back, data-reads_back, length-block_text}
use Rattle.redo_block.specs.Framing.{AreFirsts, data_with, unframed}
use Rattle.redo_block.proofs.Framings.{unframed-step, unframed-end}

-- a block that isn't full has all of the stream
short-stream : (n : ℕ) → false ≡ (length_of (min BLOCK_DATA n) == 512) → n ≤ BLOCK_DATA
short-stream n part = grind (arith, nat_tests)

-- the data of a block and what follows where it is full are the stream
joined : (full : Bool) (stream : List ℕ) → full ≡ (length_of (length (take BLOCK_DATA stream)) == 512)
    → cond full (take BLOCK_DATA stream ++ drop BLOCK_DATA stream) (take BLOCK_DATA stream) ≡ stream
joined true stream test = take-append-drop BLOCK_DATA stream
joined false stream test =
    take_all BLOCK_DATA stream (short-stream (length stream) (test ∙ ap (λ n. length_of n == 512) (length-take BLOCK_DATA stream)))

-- one block is joined to what the others give
unframed-block : (from ckpt first : ℕ) (stream tail : List ℕ) → All IsByte stream → ckpt < 2 ^ 32 → IsTrue (is_first (length_of (length (take BLOCK_DATA stream))) first)
    → unframed tail (from + 512) ≡ drop BLOCK_DATA stream → unframed (block_text from (take BLOCK_DATA stream) first ckpt ++ tail) from ≡ stream
unframed-block from ckpt first stream tail bytes small good rest =
    let content : List ℕ = take BLOCK_DATA stream in
    let room : length content ≤ BLOCK_DATA = omega (arith, length-take BLOCK_DATA stream) in
    let block : List ℕ = block_text from content first ckpt in
    let view : BlockView = record { length = length_of (length content); first = first; ckpt = ckpt } in
    let long : length block ≡ 512 = length-block_text from content first ckpt room in
    let enough : 512 ≤ length (block ++ tail) = omega (arith, length-append block tail) in
    let read : read_block from block ≡ Some view = view-reads_back from content first ckpt room (All-take IsByte BLOCK_DATA stream bytes) small good in
    let part : data_of view block ≡ content = data-reads_back from content first ckpt room in
    unframed-step (block ++ tail) from enough
    ∙ ap (λ front. data_with (read_block from front) front (unframed (drop 512 (block ++ tail)) (from + 512))) (take_at block tail 512 long)
    ∙ ap (λ back. data_with (read_block from block) block (unframed back (from + 512))) (drop_at block tail 512 long)
    ∙ ap (λ found. data_with found block (unframed tail (from + 512))) read
    ∙ ap (λ others. cond (is_full view) (data_of view block ++ others) (data_of view block)) rest
    ∙ ap (λ xs. cond (is_full view) (xs ++ drop BLOCK_DATA stream) xs) part
    ∙ joined (is_full view) stream refl

-- all of them are
pub unframed-framed : (stream firsts : List ℕ) (from ckpt : ℕ) → AreFirsts stream firsts → All IsByte stream → ckpt < 2 ^ 32 → unframed (framed stream from firsts ckpt) from ≡ stream
unframed-framed stream [] from ckpt each bytes small = unframed-end [] from (omega arith) ∙ sym each
unframed-framed stream (first ∷ firsts) from ckpt each bytes small =
    unframed-block from ckpt first stream (framed (drop BLOCK_DATA stream) (from + 512) firsts ckpt) bytes small each.1
    (unframed-framed (drop BLOCK_DATA stream) firsts (from + 512) ckpt each.2 (All-drop IsByte BLOCK_DATA stream bytes) small)
