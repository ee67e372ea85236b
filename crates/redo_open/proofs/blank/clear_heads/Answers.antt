-- What is pending is made to stay, and then the second header block goes, and then the first.
use Rattle.std.proofs.Common.{◌≡◌, ℕ, subst, arith}
use Rattle.std.proofs.lemmas.Result.{err_from_is_err_and, on_ok_weaker}
use Rattle.model_device.specs.{IsWithin, synced, Disk}
use Rattle.model_log.specs.declared.layout.TheConstants.{HEADER_BYTES}
use Rattle.model_parts.specs.{zero_block}
use Rattle.redo_disk.specs.{HasSize}
use Rattle.redo_disk.proofs.Told.{OnTold-then, told-same}
use Rattle.redo_open.specs.Blank.{LosesHead, LostHead}
use Rattle.redo_open.specs.Put.{block_write, HasPut, IsAtRestTo, PutsBlock}
use Rattle.redo_open.proofs.Blanks.{both-gone, first-goes, put-to, second-goes, still-before, synced-to}
use Rattle.redo_open.proofs.Puts.{put_one, put_served, puts_then}
use Rattle.redo_open.proofs.blank.clear_heads.Goals as goal

abbrev Loses : ℕ → Disk → Disk → Type 0
Loses size old new = HasSize size old → LosesHead old new

-- the second block is gone
abbrev Gone : ℕ → Disk → Disk → Type 0
Gone size old new = HasSize size old → HasPut 2 zero_block old.reads new

pub returns-in_err-sync-clause-loses : goal.returns-in_err-sync-clause-loses
returns-in_err-sync-clause-loses g c =
    told-same _ _ (Loses (g.L.Sectors.seen c.args.log.now).size) (λ disk sized. still-before disk) c.in_err-sync.ensures.step.err

pub returns-in_err-put_block-clause-loses : goal.returns-in_err-put_block-clause-loses
returns-in_err-put_block-clause-loses g c =
    let size = (g.L.Sectors.seen c.args.log.now).size in
    OnTold-then _ _ _ (λ (old new : Disk). new ≡ synced old) (λ old new. IsAtRestTo 1536 old → PutsBlock 2 zero_block old.reads new) (Loses size)
    (λ a b d is puts sized. second-goes a d (omega (arith, sized.reads, c.requires))
    (subst (λ (disk : Disk). IsAtRestTo 1536 disk → PutsBlock 2 zero_block disk.reads d) is puts (synced-to size 1536 a sized (omega (arith, c.requires)))))
    c.in_ok-sync.ensures.step.ok c.in_err-put_block.ensures.step.keeps

pub returns-clause-loses : goal.returns-clause-loses
returns-clause-loses g c =
    let size = (g.L.Sectors.seen c.args.log.now).size in
    let gone = OnTold-then _ _ _ (λ (old new : Disk). new ≡ synced old) (λ old new. IsAtRestTo 1536 old → HasPut 2 zero_block old.reads new) (Gone size)
    (λ a b d is has sized. subst (λ (disk : Disk). IsAtRestTo 1536 disk → HasPut 2 zero_block disk.reads d) is has (synced-to size 1536 a sized (omega (arith, c.requires))))
    c.in_ok-sync.ensures.step.ok c.in_ok-put_block.ensures.step.ok in
    OnTold-then _ _ _ (Gone size) (λ old new. IsAtRestTo 512 old → PutsBlock 0 zero_block old.reads new) (Loses size)
    (λ a b d has puts sized. first-goes a b d (omega (arith, sized.reads, c.requires)) (has sized)
    (puts (put-to size 512 2 zero_block a.reads b sized.reads (omega (arith, c.requires)) (has sized))))
    gone c.put_block-2.ensures.step.keeps

pub returns-clause-ok : goal.returns-clause-ok
returns-clause-ok g c =
    let size = (g.L.Sectors.seen c.args.log.now).size in
    let gone = OnTold-then _ _ _ (λ (old new : Disk). new ≡ synced old) (λ old new. IsAtRestTo 1536 old → HasPut 2 zero_block old.reads new) (Gone size)
    (λ a b d is has sized. subst (λ (disk : Disk). IsAtRestTo 1536 disk → HasPut 2 zero_block disk.reads d) is has (synced-to size 1536 a sized (omega (arith, c.requires))))
    c.in_ok-sync.ensures.step.ok c.in_ok-put_block.ensures.step.ok in
    on_ok_weaker c.put_block-2.result
    (OnTold-then _ _ _ (Gone size) (λ old new. IsAtRestTo 512 old → HasPut 0 zero_block old.reads new) (λ old new. HasSize size old → LostHead size new)
    (λ a b d has put sized. both-gone size a b d c.requires sized.reads (has sized)
    (put (put-to size 512 2 zero_block a.reads b sized.reads (omega (arith, c.requires)) (has sized)))) gone)
    c.put_block-2.ensures.step.ok

pub returns-in_err-sync-clause-calls : goal.returns-in_err-sync-clause-calls
returns-in_err-sync-clause-calls g c =
    let made = put_one {IsSuch = IsWithin HEADER_BYTES} tt c.in_err-sync.ensures.gives in
    let p = err_from_is_err_and c.from_residual.result c.from_residual.ensures.1 in rw (p.1, p.2) made

pub returns-in_err-put_block-clause-calls : goal.returns-in_err-put_block-clause-calls
returns-in_err-put_block-clause-calls g c =
    let inside : IsWithin HEADER_BYTES (block_write 2 zero_block) = omega arith in
    let made = puts_then (put_one tt c.in_ok-sync.ensures.gives) (put_served inside c.in_err-put_block.ensures.calls) in
    let p = err_from_is_err_and c.from_residual-in_err-put_block.result c.from_residual-in_err-put_block.ensures.1 in rw (p.1, p.2) made

pub returns-clause-calls : goal.returns-clause-calls
returns-clause-calls g c =
    let second : IsWithin HEADER_BYTES (block_write 2 zero_block) = omega arith in
    let first : IsWithin HEADER_BYTES (block_write 0 zero_block) = omega arith in
    puts_then (puts_then (put_one tt c.in_ok-sync.ensures.gives) (put_served second c.in_ok-put_block.ensures.calls)) (put_served first c.put_block-2.ensures.calls)
