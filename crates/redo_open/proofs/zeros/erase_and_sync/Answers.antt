-- The stretch is erased, and a sync makes that stay.
use Rattle.std.proofs.Common.{◌≡◌, refl, sym, subst, ap, ◌∙◌}
use Rattle.std.proofs.lemmas.Result.{err_from_is_err_and, on_ok_weaker, on_err_weaker}
use Rattle.model_device.specs.{synced, Disk}
use Rattle.redo_disk.proofs.Told.{OnTold-then, on-err, told-as, told-same}
use Rattle.redo_open.specs.Erase.{Erases, ErasesIn, HasErased, HasZeros, Reaches}
use Rattle.redo_open.specs.Put.{IsAtRestTo}
use Rattle.redo_open.proofs.Erases.{erases-in, has-zeros, rests-reaches, zeros-erases}
use Rattle.redo_open.proofs.Puts.{put_one, puts_then}
use Rattle.redo_open.proofs.Told.{cause-since, either-way}
use Rattle.redo_open.proofs.zeros.erase_and_sync.Goals as goal

pub returns-in_err-erase-clause-keeps : goal.returns-in_err-erase-clause-keeps
returns-in_err-erase-clause-keeps g c =
    let from = c.args.from in
    let end = c.args.end in
    told-as _ _ (λ old new. Reaches end old → Erases from end old new) (λ old new. IsAtRestTo end old → ErasesIn from end old.reads new)
    (λ a b erases rests. erases-in from end a b rests (erases (rests-reaches end a rests))) c.in_err-erase.ensures.err

pub returns-in_err-erase-clause-unmoved : goal.returns-in_err-erase-clause-unmoved
returns-in_err-erase-clause-unmoved g c =
    let from = c.args.from in
    let end = c.args.end in
    on-err c.from_residual.result _
    (told-as _ _ (λ old new. Reaches end old → Erases from end old new) (λ old new. Reaches end old → new.base ≡ old.base)
    (λ a b erases room. (erases room).base) c.in_err-erase.ensures.err)

pub returns-clause-keeps : goal.returns-clause-keeps
returns-clause-keeps g c =
    let from = c.args.from in
    let end = c.args.end in
    let After : Disk → Disk → Type 0 = λ old new. Reaches end old → HasErased from end old new in
    let Keeps : Disk → Disk → Type 0 = λ old new. IsAtRestTo end old → ErasesIn from end old.reads new in
    either-way c.sync.result _ _ _
    (λ ok. OnTold-then _ _ _ After (λ (old new : Disk). new ≡ synced old) Keeps
    (λ a b d erased is rests. subst (ErasesIn from end a.reads) (sym is)
    (zeros-erases from end a.reads (synced b) (has-zeros from end a b (erased (rests-reaches end a rests))))) c.in_ok-erase.ensures.ok ok)
    (λ err. OnTold-then _ _ _ After (λ (old new : Disk). new ≡ old) Keeps
    (λ a b d erased is rests. subst (ErasesIn from end a.reads) (sym is) (erases-in from end a b rests (erased (rests-reaches end a rests)).erases))
    c.in_ok-erase.ensures.ok (told-same _ _ (λ (old new : Disk). new ≡ old) (λ a. refl) err))
    c.sync.ensures.step.ok c.sync.ensures.step.err

pub returns-clause-ok : goal.returns-clause-ok
returns-clause-ok g c =
    let from = c.args.from in
    let end = c.args.end in
    on_ok_weaker c.sync.result
    (OnTold-then _ _ _ (λ old new. Reaches end old → HasErased from end old new) (λ (old new : Disk). new ≡ synced old)
    (λ old new. IsAtRestTo end old → HasZeros from end old.reads new)
    (λ a b d erased is rests. subst (HasZeros from end a.reads) (sym is) (has-zeros from end a b (erased (rests-reaches end a rests)))) c.in_ok-erase.ensures.ok)
    c.sync.ensures.step.ok

pub returns-clause-unmoved : goal.returns-clause-unmoved
returns-clause-unmoved g c =
    let from = c.args.from in
    let end = c.args.end in
    on_err_weaker c.sync.result
    (λ err. OnTold-then _ _ _ (λ old new. Reaches end old → HasErased from end old new) (λ (old new : Disk). new ≡ old)
    (λ old new. Reaches end old → new.base ≡ old.base)
    (λ a b d erased is room. ap (λ (disk : Disk). disk.base) is ∙ (erased room).erases.base) c.in_ok-erase.ensures.ok
    (told-same _ _ (λ (old new : Disk). new ≡ old) (λ a. refl) err)) c.sync.ensures.step.err

pub returns-in_err-erase-clause-cause : goal.returns-in_err-erase-clause-cause
returns-in_err-erase-clause-cause g c =
    let p = err_from_is_err_and c.from_residual.result c.from_residual.ensures.1 in rw (p.1, p.2) c.in_err-erase.ensures.cause

pub returns-in_err-erase-clause-calls : goal.returns-in_err-erase-clause-calls
returns-in_err-erase-clause-calls g c =
    let p = err_from_is_err_and c.from_residual.result c.from_residual.ensures.1 in rw (p.1, p.2) c.in_err-erase.ensures.calls

pub returns-clause-cause : goal.returns-clause-cause
returns-clause-cause g c = cause-since _ _ _ c.sync.result c.in_ok-erase.ensures.cause.later c.sync.ensures.step.cause

pub returns-clause-calls : goal.returns-clause-calls
returns-clause-calls g c = puts_then c.in_ok-erase.ensures.calls (put_one tt c.sync.ensures.gives)
