use Rattle.std.proofs.Common.{arith, refl}
use Rattle.model_reads.specs.{begun, dated, freed}
use Rattle.redo_rule.proofs.Looks.{begun_at, dated_at, freed_at, has_read, held_none, lsn_is, moved_none, words_at}
use Rattle.redo_rule.proofs.reading.look.Goals as goal
use Rattle.redo_rule.specs.Reading.{looked}

pub read_words-requires-clause-at : goal.read_words-requires-clause-at
read_words-requires-clause-at g c = (
  c.begin-newest.result,
  begun_at c.args.table.now.table_id c.args.layout c.args.page c.args.token.now c.requires.may
      c.begin-newest.result c.begin-newest.new.token c.begin-newest.ensures,
)

pub date-sn-requires : goal.date-sn-requires
date-sn-requires g c =
    let at1 = begun_at c.args.table.now.table_id c.args.layout c.args.page c.args.token.now c.requires.may
    c.begin-newest.result c.begin-newest.new.token c.begin-newest.ensures in
    let two = c.read_words.ensures c.begin-newest.result at1 in
    let at2 = words_at c.args.table.now.table_id c.args.layout c.args.page c.args.token.now c.requires.may
    c.begin-newest.result c.begin-newest.new.token c.begin-newest.ensures
    c.args.layout.page_size c.read_words.new.bytes c.read_words.new.token two in
    record { at = (looked c.args.page c.begin-newest.result two.words, at2) }

pub free-requires : goal.free-requires
free-requires g c =
    let at1 = begun_at c.args.table.now.table_id c.args.layout c.args.page c.args.token.now c.requires.may
    c.begin-newest.result c.begin-newest.new.token c.begin-newest.ensures in
    let two = c.read_words.ensures c.begin-newest.result at1 in
    let at2 = words_at c.args.table.now.table_id c.args.layout c.args.page c.args.token.now c.requires.may
    c.begin-newest.result c.begin-newest.new.token c.begin-newest.ensures
    c.args.layout.page_size c.read_words.new.bytes c.read_words.new.token two in
    let words = looked c.args.page c.begin-newest.result two.words in
    let three = c.date-sn.ensures.dated words at2 in
    let at3 = dated_at c.args.table.now.table_id c.args.layout c.args.page c.args.token.now c.requires.may
    c.begin-newest.result c.begin-newest.new.token c.begin-newest.ensures
    c.args.layout.page_size c.read_words.new.bytes c.read_words.new.token two
    c.date-sn.result c.date-sn.new.token three in
    record { at = (dated words c.date-sn.result, at3) }

pub returns-then-free-ne0 : goal.returns-then-free-ne0
returns-then-free-ne0 g c =
    let at1 = begun_at c.args.table.now.table_id c.args.layout c.args.page c.args.token.now c.requires.may
    c.begin-newest.result c.begin-newest.new.token c.begin-newest.ensures in
    let two = c.read_words.ensures c.begin-newest.result at1 in
    let at2 = words_at c.args.table.now.table_id c.args.layout c.args.page c.args.token.now c.requires.may
    c.begin-newest.result c.begin-newest.new.token c.begin-newest.ensures
    c.args.layout.page_size c.read_words.new.bytes c.read_words.new.token two in
    let words = looked c.args.page c.begin-newest.result two.words in
    let three = c.date-sn.ensures.dated words at2 in
    let at3 = dated_at c.args.table.now.table_id c.args.layout c.args.page c.args.token.now c.requires.may
    c.begin-newest.result c.begin-newest.new.token c.begin-newest.ensures
    c.args.layout.page_size c.read_words.new.bytes c.read_words.new.token two
    c.date-sn.result c.date-sn.new.token three in
    record {
      read = held_none c.args.table.now.table_id c.args.layout c.args.page c.args.token.now c.requires.may
          c.begin-newest.result c.begin-newest.new.token c.begin-newest.ensures
          c.args.layout.page_size c.read_words.new.bytes c.read_words.new.token two
          c.date-sn.result c.date-sn.new.token three c.free.new.token
          (c.free.ensures.held (λ z. omega (arith, c.if-free-ne0.true)) (dated words c.date-sn.result) at3);
    }

pub end-requires : goal.end-requires
end-requires g c =
    let at1 = begun_at c.args.table.now.table_id c.args.layout c.args.page c.args.token.now c.requires.may
    c.begin-newest.result c.begin-newest.new.token c.begin-newest.ensures in
    let two = c.read_words.ensures c.begin-newest.result at1 in
    let at2 = words_at c.args.table.now.table_id c.args.layout c.args.page c.args.token.now c.requires.may
    c.begin-newest.result c.begin-newest.new.token c.begin-newest.ensures
    c.args.layout.page_size c.read_words.new.bytes c.read_words.new.token two in
    let words = looked c.args.page c.begin-newest.result two.words in
    let three = c.date-sn.ensures.dated words at2 in
    let at3 = dated_at c.args.table.now.table_id c.args.layout c.args.page c.args.token.now c.requires.may
    c.begin-newest.result c.begin-newest.new.token c.begin-newest.ensures
    c.args.layout.page_size c.read_words.new.bytes c.read_words.new.token two
    c.date-sn.result c.date-sn.new.token three in
    let four = c.free.ensures.free (omega (arith, c.if-free-ne0.false)) (dated words c.date-sn.result) at3 in
    let at4 = freed_at c.args.table.now.table_id c.args.layout c.args.page c.args.token.now c.requires.may
    c.begin-newest.result c.begin-newest.new.token c.begin-newest.ensures
    c.args.layout.page_size c.read_words.new.bytes c.read_words.new.token two
    c.date-sn.result c.date-sn.new.token three c.free.new.token four in
    record { at = (freed (dated words c.date-sn.result), at4, refl, two.all) }

pub returns-then-end-newest : goal.returns-then-end-newest
returns-then-end-newest g c =
    let at1 = begun_at c.args.table.now.table_id c.args.layout c.args.page c.args.token.now c.requires.may
    c.begin-newest.result c.begin-newest.new.token c.begin-newest.ensures in
    let two = c.read_words.ensures c.begin-newest.result at1 in
    let at2 = words_at c.args.table.now.table_id c.args.layout c.args.page c.args.token.now c.requires.may
    c.begin-newest.result c.begin-newest.new.token c.begin-newest.ensures
    c.args.layout.page_size c.read_words.new.bytes c.read_words.new.token two in
    let words = looked c.args.page c.begin-newest.result two.words in
    let three = c.date-sn.ensures.dated words at2 in
    let at3 = dated_at c.args.table.now.table_id c.args.layout c.args.page c.args.token.now c.requires.may
    c.begin-newest.result c.begin-newest.new.token c.begin-newest.ensures
    c.args.layout.page_size c.read_words.new.bytes c.read_words.new.token two
    c.date-sn.result c.date-sn.new.token three in
    let four = c.free.ensures.free (omega (arith, c.if-free-ne0.false)) (dated words c.date-sn.result) at3 in
    let at4 = freed_at c.args.table.now.table_id c.args.layout c.args.page c.args.token.now c.requires.may
    c.begin-newest.result c.begin-newest.new.token c.begin-newest.ensures
    c.args.layout.page_size c.read_words.new.bytes c.read_words.new.token two
    c.date-sn.result c.date-sn.new.token three c.free.new.token four in
    record {
      read = moved_none c.args.table.now.table_id c.args.layout c.args.page c.args.token.now c.requires.may
          c.begin-newest.result c.begin-newest.new.token c.begin-newest.ensures
          c.args.layout.page_size c.read_words.new.bytes c.read_words.new.token two
          c.date-sn.result c.date-sn.new.token three c.free.new.token four c.end.new.token
          (c.end.ensures.other (freed (dated words c.date-sn.result)) at4 (λ z. omega (arith, c.if-end-newest.true)));
    }

pub returns : goal.returns
returns g c =
    let at1 = begun_at c.args.table.now.table_id c.args.layout c.args.page c.args.token.now c.requires.may
    c.begin-newest.result c.begin-newest.new.token c.begin-newest.ensures in
    let two = c.read_words.ensures c.begin-newest.result at1 in
    let at2 = words_at c.args.table.now.table_id c.args.layout c.args.page c.args.token.now c.requires.may
    c.begin-newest.result c.begin-newest.new.token c.begin-newest.ensures
    c.args.layout.page_size c.read_words.new.bytes c.read_words.new.token two in
    let words = looked c.args.page c.begin-newest.result two.words in
    let three = c.date-sn.ensures.dated words at2 in
    let at3 = dated_at c.args.table.now.table_id c.args.layout c.args.page c.args.token.now c.requires.may
    c.begin-newest.result c.begin-newest.new.token c.begin-newest.ensures
    c.args.layout.page_size c.read_words.new.bytes c.read_words.new.token two
    c.date-sn.result c.date-sn.new.token three in
    let four = c.free.ensures.free (omega (arith, c.if-free-ne0.false)) (dated words c.date-sn.result) at3 in
    let at4 = freed_at c.args.table.now.table_id c.args.layout c.args.page c.args.token.now c.requires.may
    c.begin-newest.result c.begin-newest.new.token c.begin-newest.ensures
    c.args.layout.page_size c.read_words.new.bytes c.read_words.new.token two
    c.date-sn.result c.date-sn.new.token three c.free.new.token four in
    record {
      read = has_read c.args.table.now.table_id c.args.layout c.args.page c.args.token.now c.requires.may
          c.begin-newest.result c.begin-newest.new.token c.begin-newest.ensures
          c.args.layout.page_size c.read_words.new.bytes c.read_words.new.token two
          c.date-sn.result c.date-sn.new.token three c.free.new.token four
          c.date-sn.ensures.own (omega (arith, c.requires.long)) c.lsn_of.result
          (lsn_is c.date-sn.result c.lsn_of.result c.lsn_of.ensures) c.end.new.token
          (c.end.ensures.same (freed (dated words c.date-sn.result)) at4 (omega (arith, c.if-end-newest.false)));
    }
