-- The first checkpoint is put, then the header into the first block, and then into the second.
use Rattle.std.proofs.Common.{◌≡◌, ℕ, List, subst, arith}
use Rattle.std.proofs.lemmas.Result.{err_from_is_err_and, on_ok_weaker}
use Rattle.model_base.specs.declared.limits.TheConstants.{START_LSN}
use Rattle.model_base.specs.declared.shape.Shape.{Shape}
use Rattle.model_device.specs.{Disk}
use Rattle.model_log.specs.{checkpoint_text, head_text, run_layout, run_format}
use Rattle.model_log.specs.declared.layout.Layout.{Layout}
use Rattle.redo_disk.proofs.Told.{OnTold-then, told-as}
use Rattle.redo_open.specs.Blank.{HasNewLog, HasNoBlocks, MayBeNewLog}
use Rattle.redo_open.specs.Put.{HasPut, IsAtRestTo, PutsBlock}
use Rattle.redo_open.proofs.Blanks.{checkpoint-comes, checkpoint-there, checkpoint-to, first-comes, first-there, first-to, HasFirstCheckpoint, HasFirstHead, no_blocks-to, second-comes, second-there}
use Rattle.redo_open.proofs.Lengths.{checkpoint-within, head-within}
use Rattle.redo_open.proofs.Puts.{put_served, puts_then}
use Rattle.redo_open.proofs.blank.put_new_log.Goals as goal

abbrev Keeps : Shape → Disk → Disk → Type 0
Keeps shape old new = HasNoBlocks shape old → MayBeNewLog shape new

abbrev text : Shape → List ℕ
text shape = checkpoint_text 0 START_LSN (run_layout shape)

-- the checkpoint by the layout that the code has
there : (shape : Shape) (layout : Layout) (old new : Disk) → layout ≡ run_layout shape → HasNoBlocks shape old
    → (IsAtRestTo 1024 old → HasPut 1 (checkpoint_text 0 START_LSN layout) old.reads new) → HasFirstCheckpoint shape new
there shape layout old new is none has =
    checkpoint-there shape old new none
    (subst (λ (l : Layout). HasPut 1 (checkpoint_text 0 START_LSN l) old.reads new) is (has (no_blocks-to shape 1024 old (omega arith) none)))

pub returns-in_err-put_checkpoint-clause-keeps : goal.returns-in_err-put_checkpoint-clause-keeps
returns-in_err-put_checkpoint-clause-keeps g c =
    let shape = c.args.shape.now in
    told-as _ _ (λ old new. IsAtRestTo 1024 old → PutsBlock 1 (checkpoint_text 0 START_LSN c.run_layout.result) old.reads new) (Keeps shape)
    (λ a b puts none. checkpoint-comes shape a b none
    (subst (λ (l : Layout). PutsBlock 1 (checkpoint_text 0 START_LSN l) a.reads b) c.run_layout.ensures.is (puts (no_blocks-to shape 1024 a (omega arith) none))))
    c.in_err-put_checkpoint.ensures.step.keeps

pub returns-in_err-put_head-clause-keeps : goal.returns-in_err-put_head-clause-keeps
returns-in_err-put_head-clause-keeps g c =
    let shape = c.args.shape.now in
    let layout = c.run_layout.result in
    OnTold-then _ _ _ (λ old new. IsAtRestTo 1024 old → HasPut 1 (checkpoint_text 0 START_LSN layout) old.reads new)
    (λ old new. IsAtRestTo 512 old → PutsBlock 0 (head_text (run_format shape) shape) old.reads new) (Keeps shape)
    (λ a b d has puts none. (
    let first : HasFirstCheckpoint shape b = there shape layout a b c.run_layout.ensures.is none has in
    first-comes shape b d c.requires.limits first (puts (checkpoint-to shape 512 b (omega arith) first))))
    c.in_ok-put_checkpoint.ensures.step.ok c.in_err-put_head.ensures.step.keeps

pub returns-clause-keeps : goal.returns-clause-keeps
returns-clause-keeps g c =
    let shape = c.args.shape.now in
    let layout = c.run_layout.result in
    let begun = OnTold-then _ _ _ (λ old new. IsAtRestTo 1024 old → HasPut 1 (checkpoint_text 0 START_LSN layout) old.reads new)
    (λ old new. IsAtRestTo 512 old → HasPut 0 (head_text (run_format shape) shape) old.reads new) (λ old new. HasNoBlocks shape old → HasFirstHead shape new)
    (λ a b d has put none. (
    let first : HasFirstCheckpoint shape b = there shape layout a b c.run_layout.ensures.is none has in
    first-there shape b d first (put (checkpoint-to shape 512 b (omega arith) first))))
    c.in_ok-put_checkpoint.ensures.step.ok c.in_ok-put_head.ensures.step.ok in
    OnTold-then _ _ _ (λ old new. HasNoBlocks shape old → HasFirstHead shape new) (λ old new. IsAtRestTo 1536 old → PutsBlock 2 (head_text (run_format shape) shape) old.reads new) (Keeps shape)
    (λ a b d has puts none. second-comes shape b d c.requires.limits (has none)
    (puts (first-to shape 1536 b (omega (arith, c.requires.limits.many_blocks)) (has none))))
    begun c.put_head-2.ensures.step.keeps

pub returns-clause-ok : goal.returns-clause-ok
returns-clause-ok g c =
    let shape = c.args.shape.now in
    let layout = c.run_layout.result in
    let begun = OnTold-then _ _ _ (λ old new. IsAtRestTo 1024 old → HasPut 1 (checkpoint_text 0 START_LSN layout) old.reads new)
    (λ old new. IsAtRestTo 512 old → HasPut 0 (head_text (run_format shape) shape) old.reads new) (λ old new. HasNoBlocks shape old → HasFirstHead shape new)
    (λ a b d has put none. (
    let first : HasFirstCheckpoint shape b = there shape layout a b c.run_layout.ensures.is none has in
    first-there shape b d first (put (checkpoint-to shape 512 b (omega arith) first))))
    c.in_ok-put_checkpoint.ensures.step.ok c.in_ok-put_head.ensures.step.ok in
    on_ok_weaker c.put_head-2.result
    (OnTold-then _ _ _ (λ old new. HasNoBlocks shape old → HasFirstHead shape new) (λ old new. IsAtRestTo 1536 old → HasPut 2 (head_text (run_format shape) shape) old.reads new)
    (λ old new. HasNoBlocks shape old → HasNewLog shape new)
    (λ a b d has put none. second-there shape b d (has none) (put (first-to shape 1536 b (omega (arith, c.requires.limits.many_blocks)) (has none)))) begun)
    c.put_head-2.ensures.step.ok

pub returns-in_err-put_checkpoint-clause-calls : goal.returns-in_err-put_checkpoint-clause-calls
returns-in_err-put_checkpoint-clause-calls g c =
    let made = put_served (checkpoint-within c.args.shape.now 0 START_LSN c.run_layout.result) c.in_err-put_checkpoint.ensures.calls in
    let p = err_from_is_err_and c.from_residual.result c.from_residual.ensures.1 in rw (p.1, p.2) made

pub returns-in_err-put_head-clause-calls : goal.returns-in_err-put_head-clause-calls
returns-in_err-put_head-clause-calls g c =
    let shape = c.args.shape.now in
    let made = puts_then (put_served (checkpoint-within shape 0 START_LSN c.run_layout.result) c.in_ok-put_checkpoint.ensures.calls)
    (put_served (head-within shape 0 (omega arith)) c.in_err-put_head.ensures.calls) in
    let p = err_from_is_err_and c.from_residual-in_err-put_head.result c.from_residual-in_err-put_head.ensures.1 in rw (p.1, p.2) made

pub returns-clause-calls : goal.returns-clause-calls
returns-clause-calls g c =
    let shape = c.args.shape.now in
    puts_then (puts_then (put_served (checkpoint-within shape 0 START_LSN c.run_layout.result) c.in_ok-put_checkpoint.ensures.calls)
    (put_served (head-within shape 0 (omega arith)) c.in_ok-put_head.ensures.calls))
    (put_served (head-within shape 2 (omega arith)) c.put_head-2.ensures.calls)
