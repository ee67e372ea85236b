-- The slots and places are erased, and a sync makes that stay.
use Rattle.std.proofs.Common.{◌≡◌, ◌+◌, ◌*◌, ◌%◌, ◌∙◌, ℕ, ap, sym, subst, arith}
use Rattle.std.proofs.lemmas.Result.{err_from_is_err_and, on_ok_weaker}
use Rattle.model_base.proofs.ShapeLimits.{whole_sectors}
use Rattle.model_base.specs.declared.limits.TheConstants.{BLOCK_SIZE}
use Rattle.model_parts.proofs.Rows.{row-sector}
use Rattle.model_device.specs.{synced, Disk}
use Rattle.model_page.specs.{data_device_length}
use Rattle.redo_disk.specs.{HasSize}
use Rattle.redo_open.specs.Blank.{HasBlankPages}
use Rattle.redo_open.specs.Erase.{HasErased, Reaches}
use Rattle.redo_open.proofs.Inside.{within-longer}
use Rattle.redo_open.proofs.Puts.{put_one, put_weaker, puts_then}
use Rattle.redo_open.proofs.Blanks.{reaches-sized, synced-blank}
use Rattle.redo_disk.proofs.Told.{OnTold-then}
use Rattle.redo_open.proofs.Told.{cause-since}
use Rattle.redo_open.proofs.blank.clear_pages.Goals as goal

pub erase-requires-clause-whole : goal.erase-requires-clause-whole
erase-requires-clause-whole g c =
    let shape = c.args.shape.now in
    let length_is : c.from.result * c.from-2.result ≡ data_device_length shape = cc in
    ap (λ (n : ℕ). n % BLOCK_SIZE) length_is ∙ row-sector (shape.slots + shape.pages) shape.page_size (whole_sectors shape c.requires.limits).sectors

pub returns-clause-ok : goal.returns-clause-ok
returns-clause-ok g c =
    let size = (g.D.Sectors.seen c.args.device.now).size in
    let shape = c.args.shape.now in
    let end = c.from.result * c.from-2.result in
    let length_is : end ≡ data_device_length shape = cc in
    on_ok_weaker c.sync.result
    (OnTold-then _ _ _ (λ old new. Reaches end old → HasErased 0 end old new) (λ (old new : Disk). new ≡ synced old)
    (λ old new. HasSize size old → HasBlankPages shape new)
    (λ a b d erased is sized. subst (HasBlankPages shape) (sym is)
    (synced-blank shape size end a b length_is (omega (arith, length_is, c.requires.long)) sized
    (erased (reaches-sized size end a (omega (arith, length_is, c.requires.long)) sized)))) c.in_ok-erase.ensures.ok)
    c.sync.ensures.step.ok

pub returns-in_err-erase-clause-cause : goal.returns-in_err-erase-clause-cause
returns-in_err-erase-clause-cause g c =
    let p = err_from_is_err_and c.from_residual.result c.from_residual.ensures.1 in rw (p.1, p.2) c.in_err-erase.ensures.cause

pub returns-in_err-erase-clause-calls : goal.returns-in_err-erase-clause-calls
returns-in_err-erase-clause-calls g c =
    let end = c.from.result * c.from-2.result in
    let length_is : end ≡ data_device_length c.args.shape.now = cc in
    let made = put_weaker (within-longer end (data_device_length c.args.shape.now) (omega (arith, length_is))) c.in_err-erase.ensures.calls in
    let p = err_from_is_err_and c.from_residual.result c.from_residual.ensures.1 in rw (p.1, p.2) made

pub returns-clause-cause : goal.returns-clause-cause
returns-clause-cause g c = cause-since _ _ _ c.sync.result c.in_ok-erase.ensures.cause.later c.sync.ensures.step.cause

pub returns-clause-calls : goal.returns-clause-calls
returns-clause-calls g c =
    let end = c.from.result * c.from-2.result in
    let length_is : end ≡ data_device_length c.args.shape.now = cc in
    let made = put_weaker (within-longer end (data_device_length c.args.shape.now) (omega (arith, length_is))) c.in_ok-erase.ensures.calls in
    puts_then made (put_one tt c.sync.ensures.gives)
