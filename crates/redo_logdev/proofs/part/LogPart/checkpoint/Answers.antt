use Rattle.std.proofs.Common.{◌≡◌, ◌*◌, ◌+◌, ◌∙◌, Some, ap, subst, sym, arith}
use Rattle.model_device.specs.{IsPutOrNot, synced, written, Disk}
use Rattle.model_log.specs.{checkpoint_text, IsLayout, run_layout}
use Rattle.model_log.specs.declared.layout.Layout.{Layout}
use Rattle.model_parts.specs.{after_asked, after_checkpoint, HasNextNumber, MayBeNext, next_number, other_place}
use Rattle.model_parts.specs.declared.marks.TailMarks.{TailMarks}
use Rattle.model_parts.proofs.Checkpoints.{WritesSector}
use Rattle.redo_disk.specs.{write_at}
use Rattle.redo_disk.proofs.Told.{told-step}
use Rattle.redo_logdev.specs.Part.{Part}
use Rattle.redo_logdev.specs.Holding.{PartHolds, DiskHolds}
use Rattle.redo_logdev.proofs.Parts.{checkpoint-failed, checkpoint-made, checkpoint-write, run-is_layout}
use Rattle.redo_logdev.proofs.part.LogPart.checkpoint.Goals as goal

pub returns-in-Ok-clause-holds : goal.returns-in-Ok-clause-holds
returns-in-Ok-clause-holds g c is_next s wholes known =
    let part = c.self.inside in
    let lsn = c.args.lsn in
    let at = 512 * c.from-at.result in
    let block = c.fill_ckpt.new.out in
    let small : HasNextNumber part.marks = subst (λ (p : Part _). HasNextNumber p.marks) (sym c.self.view_is) is_next in
    let next : MayBeNext part.marks lsn = subst (λ (p : Part _). MayBeNext p.marks lsn) (sym c.self.view_is) c.requires.next in
    let before = subst (λ (p : Part _). PartHolds g.L.Sectors.seen s wholes p) (sym c.self.view_is) known in
    let is_layout : IsLayout (run_layout part.shape) = run-is_layout part.shape c.self.invariant.many_blocks c.self.invariant.few_blocks in
    let text : block ≡ checkpoint_text (next_number part.marks.number) lsn (run_layout part.shape) =
    c.fill_ckpt.ensures ∙ ap (λ (layout : Layout). checkpoint_text (next_number part.marks.number) lsn layout) c.layout_of.ensures.is in
    let writes : WritesSector (other_place part.marks.number) (checkpoint_text (part.marks.number + 1) lsn (run_layout part.shape)) (write_at at block) =
    checkpoint-write (run_layout part.shape) part.marks lsn c.from-at.result block small (c.from-at.ensures ∙ c.place_of.ensures) text (omega (arith, c.fill_ckpt.auto.out)) in
    told-step _ _ (DiskHolds part.shape s wholes part.marks part.tails part.failed)
    (DiskHolds part.shape s wholes (after_checkpoint (next_number part.marks.number) lsn part.marks) c.tails_synced-self-inside.result part.failed) (λ (old new : Disk). new ≡ synced (written old (write_at at block)))
    (λ a b before is. subst (λ (tails : TailMarks). DiskHolds part.shape s wholes (after_checkpoint (next_number part.marks.number) lsn part.marks) tails part.failed b) (sym c.tails_synced-self-inside.ensures)
    (checkpoint-made part.shape s wholes part.marks part.tails part.failed lsn at block a b is_layout (ap (λ (p : Part _). p.failed) c.self.view_is ∙ c.requires.live) next small writes before is))
    before c.in-Ok.ensures.ok

pub returns-in-Err-clause-holds : goal.returns-in-Err-clause-holds
returns-in-Err-clause-holds g c is_next s wholes known =
    let part = c.self.inside in
    let lsn = c.args.lsn in
    let at = 512 * c.from-at.result in
    let block = c.fill_ckpt.new.out in
    let small : HasNextNumber part.marks = subst (λ (p : Part _). HasNextNumber p.marks) (sym c.self.view_is) is_next in
    let next : MayBeNext part.marks lsn = subst (λ (p : Part _). MayBeNext p.marks lsn) (sym c.self.view_is) c.requires.next in
    let before = subst (λ (p : Part _). PartHolds g.L.Sectors.seen s wholes p) (sym c.self.view_is) known in
    let is_layout : IsLayout (run_layout part.shape) = run-is_layout part.shape c.self.invariant.many_blocks c.self.invariant.few_blocks in
    let text : block ≡ checkpoint_text (next_number part.marks.number) lsn (run_layout part.shape) =
    c.fill_ckpt.ensures ∙ ap (λ (layout : Layout). checkpoint_text (next_number part.marks.number) lsn layout) c.layout_of.ensures.is in
    let writes : WritesSector (other_place part.marks.number) (checkpoint_text (part.marks.number + 1) lsn (run_layout part.shape)) (write_at at block) =
    checkpoint-write (run_layout part.shape) part.marks lsn c.from-at.result block small (c.from-at.ensures ∙ c.place_of.ensures) text (omega (arith, c.fill_ckpt.auto.out)) in
    told-step _ _ (DiskHolds part.shape s wholes part.marks part.tails part.failed)
    (DiskHolds part.shape s wholes (after_asked lsn part.marks) part.tails (Some c.in-Err.error)) (IsPutOrNot (write_at at block))
    (λ a b before calls. checkpoint-failed part.shape s wholes part.marks part.tails part.failed c.in-Err.error lsn at block a b is_layout next small writes before calls)
    before c.in-Err.ensures.err
