use Rattle.std.proofs.Common.{arith}
use Rattle.redo_rule.proofs.Looks.{all_words, looking, next_words, words_long}
use Rattle.redo_rule.proofs.reading.read_words.Goals as goal
use Rattle.redo_rule.specs.Reading.{looked}

pub add-word-requires-clause-at : goal.add-word-requires-clause-at
add-word-requires-clause-at g c =
    let n = c.requires.at.0 in
    let o = c.requires.at.1 in
    let so = c.loop-number.invariant n o in (
      looked c.args.page n so.words,
      looking c.args.table.now.table_id c.args.layout c.args.page n c.args.token.now c.loop-number.token
          c.loop-number.number c.loop-number.bytes o so,
      words_long c.args.table.now.table_id c.args.layout c.args.page n c.args.token.now c.loop-number.token
          c.loop-number.number c.loop-number.bytes o so,
    )

pub loop-number-preserved : goal.loop-number-preserved
loop-number-preserved g c n o =
    let so = c.loop-number.invariant n o in
    let at = looking c.args.table.now.table_id c.args.layout c.args.page n c.args.token.now c.loop-number.token
    c.loop-number.number c.loop-number.bytes o so in
    next_words c.args.table.now.table_id c.args.layout c.args.page n c.args.token.now c.loop-number.token
    c.loop-number.number c.loop-number.bytes o so c.add-word.result c.add-word.new.token c.put_word.new.bytes
    (c.add-word.ensures (looked c.args.page n so.words) at) c.put_word.ensures.long c.put_word.ensures.here
    c.put_word.ensures.same

pub returns : goal.returns
returns g c n o =
    let so = c.loop-number.invariant n o in
    all_words c.args.table.now.table_id c.args.layout c.args.page n c.args.token.now c.loop-number.token
    c.loop-number.number c.loop-number.bytes o so c.args.layout.page_size
    (omega (arith, c.requires.size, c.loop-number-test.false, c.loop-number.auto.number-end))
