use Rattle.std.proofs.Common.{◌≡◌, ◌*◌, ℕ, List, length, take, arith}
use Rattle.std.proofs.lemmas.Result.{on_ok_weaker, on_err_weaker}
use Rattle.model_parts.specs.{after_both, batch_of, FailsBoth, place_writes, slots_write}
use Rattle.model_device.specs.{Disk}
use Rattle.redo_disk.proofs.Told.{told-as}
use Rattle.redo_disk.specs.{error_of, write_at}
use Rattle.redo_store.specs.Places.{text_writes}
use Rattle.redo_store.proofs.Buffered.{AreTexts, texts-from, both-is, fails-is, both-asked}
use Rattle.redo_store.proofs.batch.put_pages.Goals as goal

pub returns-clause-ok : goal.returns-clause-ok
returns-clause-ok g c =
    let shape = c.args.shape.now in
    let pairs = c.args.batch.now in
    let users = c.args.frames.now in
    let texts : List ℕ = take (length pairs * shape.page_size) c.fill_texts.new.out in
    let are : AreTexts shape pairs users texts = texts-from shape pairs users texts c.requires.limits c.requires.batch (λ j. omega (arith, c.type_inv.frames j)) c.fill_texts.ensures.texts in
    on_ok_weaker c.put_both.result
    (told-as _ _ (λ (old new : Disk). new ≡ after_both (write_at 0 texts) (text_writes shape pairs texts) old)
    (λ (old new : Disk). new ≡ after_both (slots_write shape (batch_of shape pairs users)) (place_writes shape (batch_of shape pairs users)) old)
    (λ a b. both-is shape pairs users texts a b are))
    c.put_both.ensures.ok

pub returns-clause-err : goal.returns-clause-err
returns-clause-err g c =
    let shape = c.args.shape.now in
    let pairs = c.args.batch.now in
    let users = c.args.frames.now in
    let texts : List ℕ = take (length pairs * shape.page_size) c.fill_texts.new.out in
    let are : AreTexts shape pairs users texts = texts-from shape pairs users texts c.requires.limits c.requires.batch (λ j. omega (arith, c.type_inv.frames j)) c.fill_texts.ensures.texts in
    on_err_weaker c.put_both.result
    (told-as _ _ (FailsBoth (write_at 0 texts) (text_writes shape pairs texts))
    (FailsBoth (slots_write shape (batch_of shape pairs users)) (place_writes shape (batch_of shape pairs users)))
    (λ a b. fails-is shape pairs users texts a b are))
    c.put_both.ensures.err

pub returns-clause-calls : goal.returns-clause-calls
returns-clause-calls g c =
    let shape = c.args.shape.now in
    let pairs = c.args.batch.now in
    let users = c.args.frames.now in
    let texts : List ℕ = take (length pairs * shape.page_size) c.fill_texts.new.out in
    let are : AreTexts shape pairs users texts = texts-from shape pairs users texts c.requires.limits c.requires.batch (λ j. omega (arith, c.type_inv.frames j)) c.fill_texts.ensures.texts in
    both-asked g.D.Sectors.gives c.args.device.now c.put_both.new.device shape pairs users texts (error_of c.put_both.result) are c.put_both.ensures.calls
