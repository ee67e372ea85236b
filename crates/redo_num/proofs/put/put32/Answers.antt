-- The end of the text of the number's row.
use Rattle.std.proofs.Common.{◌≡◌, ◌+◌, ◌-◌, ℕ, List, take, drop, sym, ap, ◌∙◌, arith}
use Rattle.std.specs.Int.{bytes_high_first}
use Rattle.std.proofs.lemmas.List.{take_rest}
use Rattle.model_base.specs.{spelling32}
use Rattle.model_base.proofs.SpellingLemmas.{row_fits, word_end, length-in_row}
use Rattle.redo_num.proofs.PutLemmas.{put_mid-overwritten}
use Rattle.redo_num.proofs.put.put32.Goals as goal

pub overflow_add-row : goal.overflow_add-row
overflow_add-row c = let fits = row_fits c.args.n c.row_of-row.result c.row_of-row.ensures in omega arith

pub returns-clause-written : goal.returns-clause-written
returns-clause-written c =
    let end = word_end c.args.n c.row_of-row.result c.row_of-row.ensures in
    let len = length-in_row c.args.n c.row_of-row.result c.row_of-row.ensures in
    let row = c.row_of-row.result in
    let text = row.text + (c.args.n - row.first) in
    let word : c.to_be_bytes-bytes.result ≡ bytes_high_first 8 text =
    c.to_be_bytes-bytes.ensures ∙ ap (λ (x : ℕ). bytes_high_first 8 (row.text + x)) c.from.ensures in
    let same : c.copy_from_slice.new.self ≡ spelling32 c.args.n =
    c.copy_from_slice.ensures.after
    ∙ ap (λ (s : List ℕ). take (8 - (8 - row.length)) (drop (8 - row.length) s)) word
    ∙ take_rest (bytes_high_first 8 text) (8 - row.length)
    ∙ end in
    rw same (put_mid-overwritten c.args.at (c.args.at + c.row_of-row.result.length - c.args.at) (spelling32 c.args.n) c.args.out.now (omega arith))

pub returns-clause-length : goal.returns-clause-length
returns-clause-length c = sym (length-in_row c.args.n c.row_of-row.result c.row_of-row.ensures)
