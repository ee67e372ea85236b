-- The high half's spelling, and four bytes after it.
use Rattle.std.proofs.Common.{◌≡◌, ◌+◌, ◌-◌, ◌^◌, ◌/◌, ◌%◌, length, ◌∙◌, arith, length-append}
use Rattle.std.specs.Int.{bytes_high_first}
use Rattle.model_base.specs.{spelling32}
use Rattle.model_base.proofs.SpellingLemmas.{length-spelling32, spelling64-halves}
use Rattle.redo_num.proofs.PutLemmas.{put_mid-overwritten, overwritten-behind}
use Rattle.redo_num.proofs.put.put64.Goals as goal

pub slice_bounds-copy_from_slice-end : goal.slice_bounds-copy_from_slice-end
slice_bounds-copy_from_slice-end c =
    let few = length-spelling32 (c.args.n / 2 ^ 32) (omega arith) in
    omega arith

pub returns-clause-written : goal.returns-clause-written
returns-clause-written c =
    let front = spelling32 (c.args.n / 2 ^ 32) in
    let behind = bytes_high_first 4 (c.args.n % 2 ^ 32) in
    let len : c.put32-high.result ≡ length front = c.put32-high.ensures.length in
    let same : c.copy_from_slice.new.self ≡ behind = c.copy_from_slice.ensures.after ∙ c.to_be_bytes.ensures in
    let last = put_mid-overwritten (c.args.at + c.put32-high.result) (c.args.at + c.put32-high.result + 4 - (c.args.at + c.put32-high.result)) behind c.put32-high.new.out (omega arith) in
    let few = length-spelling32 (c.args.n / 2 ^ 32) (omega arith) in
    rw (same, last, c.put32-high.ensures.written, len, spelling64-halves c.args.n) (overwritten-behind c.args.at front behind c.args.out.now (omega arith))

pub returns-clause-length : goal.returns-clause-length
returns-clause-length c =
    let len : c.put32-high.result ≡ length (spelling32 (c.args.n / 2 ^ 32)) = c.put32-high.ensures.length in
    rw spelling64-halves (omega (arith, length-append (spelling32 (c.args.n / 2 ^ 32)) (bytes_high_first 4 (c.args.n % 2 ^ 32))))
