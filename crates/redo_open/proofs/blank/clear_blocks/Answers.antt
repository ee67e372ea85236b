-- All blocks but the first two are erased, for good.
use Rattle.std.proofs.Common.{arith}
use Rattle.std.proofs.lemmas.Result.{on_ok_weaker}
use Rattle.model_log.specs.{log_device_length}
use Rattle.redo_disk.proofs.Told.{told-as}
use Rattle.redo_open.specs.Blank.{HasNoBlocks, IsHeadless, LostHead}
use Rattle.redo_open.specs.Erase.{ErasesIn, HasZeros}
use Rattle.redo_open.specs.Put.{IsAtRestTo}
use Rattle.redo_open.proofs.Blanks.{erasing-headless, lost-to, no-blocks}
use Rattle.redo_open.proofs.Inside.{within-longer}
use Rattle.redo_open.proofs.Puts.{put_weaker}
use Rattle.redo_open.proofs.blank.clear_blocks.Goals as goal

pub returns-clause-headless : goal.returns-clause-headless
returns-clause-headless g c =
    let size = (g.L.Sectors.seen c.args.log.now).size in
    let end = c.log_device_length.result in
    told-as _ _ (λ old new. IsAtRestTo end old → ErasesIn 1024 end old.reads new) (λ old new. LostHead size old → IsHeadless new)
    (λ a b erases lost. erasing-headless size end a b lost (erases (lost-to size end a (omega (arith, c.log_device_length.ensures, c.requires.long)) lost)))
    c.erase_and_sync.ensures.keeps

pub returns-clause-ok : goal.returns-clause-ok
returns-clause-ok g c =
    let size = (g.L.Sectors.seen c.args.log.now).size in
    let shape = c.args.shape.now in
    let end = c.log_device_length.result in
    on_ok_weaker c.erase_and_sync.result
    (told-as _ _ (λ old new. IsAtRestTo end old → HasZeros 1024 end old.reads new) (λ old new. LostHead size old → HasNoBlocks shape new)
    (λ a b zeros lost. no-blocks shape size end a b c.log_device_length.ensures c.requires.long c.requires.limits lost
    (zeros (lost-to size end a (omega (arith, c.log_device_length.ensures, c.requires.long)) lost))))
    c.erase_and_sync.ensures.ok

pub returns-clause-calls : goal.returns-clause-calls
returns-clause-calls g c =
    put_weaker (within-longer c.log_device_length.result (log_device_length c.args.shape.now) (omega (arith, c.log_device_length.ensures))) c.erase_and_sync.ensures.calls
