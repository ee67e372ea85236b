use Rattle.std.proofs.Common.{arith, ◌∙◌}
use Rattle.redo_lab.proofs.Contents.{take_content}
use Rattle.redo_lab.proofs.reading.contents.Goals as goal

pub loop-page-preserved : goal.loop-page-preserved
loop-page-preserved c =
    c.in_ok-push.ensures.items
    ∙ take_content c.args.pages.now c.loop-page.page c.lsn.result c.new.result c.user_bytes.result.now c.loop-page.contents.items (omega arith) c.loop-page.invariant
    (c.new.ensures ∙ c.in_ok-user.ensures.items) c.lsn.ensures c.user_bytes.ensures
