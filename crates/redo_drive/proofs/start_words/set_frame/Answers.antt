use Rattle.std.proofs.Common.{add-one, arith}
use Rattle.redo_drive.proofs.StartWordsFrames.{framed_all, framed_more, framed_none}
use Rattle.redo_drive.proofs.start_words.set_frame.Goals as goal

pub loop-number-init : goal.loop-number-init
loop-number-init c = framed_none c.args.words.now c.args.page c.args.page_size c.args.user.now c.requires.there c.requires.its_size

pub loop-number-preserved : goal.loop-number-preserved
loop-number-preserved c = rw add-one
    (framed_more c.args.words.now c.args.page c.args.page_size c.args.user.now c.requires.there c.requires.its_size c.loop-number.words c.set.new.words c.loop-number.number c.frame_word.result
    c.loop-number.invariant (omega arith) c.frame_word.ensures c.set.ensures.layout c.set.ensures.named)

pub returns-clause-named : goal.returns-clause-named
returns-clause-named c = framed_all c.args.words.now c.args.page c.args.page_size c.args.user.now c.requires.there c.requires.its_size c.loop-number.words c.loop-number.number c.loop-number.invariant (omega arith)
