use Rattle.std.proofs.Common.{◌≡◌, ◌≤◌, ◌<◌, ◌+◌, ◌*◌, ◌%◌, ◌^◌, ℕ, List, length, take, None, Option, Some, ap, subst, sym, ◌∙◌, arith}
use Rattle.std.proofs.lemmas.List.{take_at}
use Rattle.model_device.specs.{Disk}
use Rattle.model_log.specs.{block_of, IsGivenTo, other_tail, run_layout}
use Rattle.model_log.specs.declared.layout.Layout.{Layout}
use Rattle.model_parts.specs.{after_given, after_written}
use Rattle.model_parts.specs.declared.marks.TailMarks.{TailMarks}
use Rattle.redo_disk.specs.{MakesCalls, Serve}
use Rattle.redo_disk.specs.declared.error.DevError.{DevError}
use Rattle.redo_disk.proofs.Told.{told-step}
use Rattle.redo_logdev.specs.Part.{block_writes, framed_full_blocks, full_count, last_block, Part}
use Rattle.redo_logdev.specs.Writing.{FailsBlocks, written_blocks}
use Rattle.redo_logdev.specs.Holding.{PartHolds, DiskHolds}
use Rattle.redo_logdev.specs.PartConditions.{MayWrite}
use Rattle.redo_logdev.proofs.Cuts.{IsCut}
use Rattle.redo_logdev.proofs.Parts.{AreTexts, cut-from, ends-small, few-blocks, texts_served, texts-of, write-err, write-ok}
use Rattle.redo_logdev.proofs.part.LogPart.write_to.Goals as goal

pub fill_blocks-full-requires-clause-small : goal.fill_blocks-full-requires-clause-small
fill_blocks-full-requires-clause-small g c =
    let small : block_of c.self.inside.marks.written + 512 * length c.args.firsts.now < 2 ^ 61 + 512 =
    subst (λ (p : Part _). block_of p.marks.written + 512 * length c.args.firsts.now < 2 ^ 61 + 512) (sym c.self.view_is)
    (ends-small c.args.self.now c.args.mark c.args.bytes.now c.args.firsts.now c.requires) in
    omega (arith, c.block_of-from.ensures)

pub fill_blocks-full-requires-clause-room : goal.fill_blocks-full-requires-clause-room
fill_blocks-full-requires-clause-room g c =
    let few : length c.args.firsts.now ≤ 128 = few-blocks c.args.self.now c.args.mark c.args.bytes.now c.args.firsts.now c.requires in
    omega (arith, c.deref_mut.ensures.len, c.self.invariant.buffer)

pub returns-in-Ok-clause-holds : goal.returns-in-Ok-clause-holds
returns-in-Ok-clause-holds g c s wholes known given =
    let part = c.self.inside in
    let mark = c.args.mark in
    let bytes = c.args.bytes.now in
    let firsts = c.args.firsts.now in
    let ckpt : ℕ = part.marks.number % 4294967296 in
    let may : MayWrite _ mark bytes firsts = subst (λ (p : Part _). MayWrite p mark bytes firsts) (sym c.self.view_is) c.requires in
    let before = subst (λ (p : Part _). PartHolds g.L.Sectors.seen s wholes p) (sym c.self.view_is) known in
    let lent = subst (λ (p : Part _). IsGivenTo s wholes (block_of p.marks.written) mark bytes firsts) (sym c.self.view_is) given in
    let cut : IsCut part.shape part.marks mark ckpt (full_count bytes) bytes firsts = cut-from _ mark ckpt bytes firsts _ _ c.self.invariant may (omega arith) in
    let room = c.fill_blocks-full.new.room in
    let kept : c.deref.result.now ≡ room = c.deref.ensures.value ∙ take_at room _ part.buffer.len (omega (arith, c.fill_blocks-full.auto.room, c.deref_mut.ensures.len)) in
    let full : List ℕ = take c.fill_blocks-full.result.0 c.deref.result.now in
    let last : List ℕ = take c.fill_blocks-full.result.1 c.fill_blocks-full.new.last in
    let at : ℕ = 512 * c.other_tail-free.result in
    let texts : AreTexts part.marks part.tails ckpt bytes firsts c.block_of-from.result at full last =
    texts-of part.marks part.tails ckpt bytes firsts c.block_of-from.result c.other_tail-free.result c.fill_blocks-full.result.0 c.deref.result.now room last
    c.block_of-from.ensures c.other_tail-free.ensures kept c.fill_blocks-full.ensures.full c.fill_blocks-full.ensures.last in
    told-step _ _ (DiskHolds part.shape s wholes part.marks part.tails part.failed) (DiskHolds part.shape s wholes (after_written mark part.marks) c.tails_written-self-inside.result part.failed)
    (λ (old new : Disk). new ≡ written_blocks c.layout_of-layout.result c.block_of-from.result full at last old)
    (λ a b before is. subst (λ (tails : TailMarks). DiskHolds part.shape s wholes (after_written mark part.marks) tails part.failed b) (sym c.tails_written-self-inside.ensures)
    (write-ok part.shape s wholes part.marks part.tails part.failed mark ckpt bytes firsts c.block_of-from.result at full last a b may.live c.self.invariant.written_place cut lent texts before
    (is ∙ ap (λ (layout : Layout). written_blocks layout c.block_of-from.result full at last a) c.layout_of-layout.ensures.is)))
    before c.in-Ok.ensures.ok

pub returns-in-Err-clause-holds : goal.returns-in-Err-clause-holds
returns-in-Err-clause-holds g c s wholes known given =
    let part = c.self.inside in
    let mark = c.args.mark in
    let bytes = c.args.bytes.now in
    let firsts = c.args.firsts.now in
    let ckpt : ℕ = part.marks.number % 4294967296 in
    let may : MayWrite _ mark bytes firsts = subst (λ (p : Part _). MayWrite p mark bytes firsts) (sym c.self.view_is) c.requires in
    let before = subst (λ (p : Part _). PartHolds g.L.Sectors.seen s wholes p) (sym c.self.view_is) known in
    let lent = subst (λ (p : Part _). IsGivenTo s wholes (block_of p.marks.written) mark bytes firsts) (sym c.self.view_is) given in
    let cut : IsCut part.shape part.marks mark ckpt (full_count bytes) bytes firsts = cut-from _ mark ckpt bytes firsts _ _ c.self.invariant may (omega arith) in
    let room = c.fill_blocks-full.new.room in
    let kept : c.deref.result.now ≡ room = c.deref.ensures.value ∙ take_at room _ part.buffer.len (omega (arith, c.fill_blocks-full.auto.room, c.deref_mut.ensures.len)) in
    let full : List ℕ = take c.fill_blocks-full.result.0 c.deref.result.now in
    let last : List ℕ = take c.fill_blocks-full.result.1 c.fill_blocks-full.new.last in
    let at : ℕ = 512 * c.other_tail-free.result in
    let texts : AreTexts part.marks part.tails ckpt bytes firsts c.block_of-from.result at full last =
    texts-of part.marks part.tails ckpt bytes firsts c.block_of-from.result c.other_tail-free.result c.fill_blocks-full.result.0 c.deref.result.now room last
    c.block_of-from.ensures c.other_tail-free.ensures kept c.fill_blocks-full.ensures.full c.fill_blocks-full.ensures.last in
    told-step _ _ (DiskHolds part.shape s wholes part.marks part.tails part.failed) (DiskHolds part.shape s wholes (after_given mark part.marks) part.tails (Some c.in-Err.error))
    (FailsBlocks c.layout_of-layout.result c.block_of-from.result full at last)
    (λ a b before is. write-err part.shape s wholes part.marks part.tails part.failed c.in-Err.error mark ckpt bytes firsts c.block_of-from.result at full last a b may.live c.self.invariant.written_place cut lent texts before
    (subst (λ (layout : Layout). FailsBlocks layout c.block_of-from.result full at last a b) c.layout_of-layout.ensures.is is))
    before c.in-Err.ensures.err

pub returns-in-Ok-clause-calls : goal.returns-in-Ok-clause-calls
returns-in-Ok-clause-calls g c =
    let part = c.self.inside in
    let bytes = c.args.bytes.now in
    let firsts = c.args.firsts.now in
    let room = c.fill_blocks-full.new.room in
    let kept : c.deref.result.now ≡ room = c.deref.ensures.value ∙ take_at room _ part.buffer.len (omega (arith, c.fill_blocks-full.auto.room, c.deref_mut.ensures.len)) in
    let last : List ℕ = take c.fill_blocks-full.result.1 c.fill_blocks-full.new.last in
    let texts = texts-of part.marks part.tails (part.marks.number % 4294967296) bytes firsts c.block_of-from.result c.other_tail-free.result c.fill_blocks-full.result.0 c.deref.result.now room last
    c.block_of-from.ensures c.other_tail-free.ensures kept c.fill_blocks-full.ensures.full c.fill_blocks-full.ensures.last in
    subst (λ (p : Part _). MakesCalls g.L.Sectors.gives p.dev c.write_blocks.new.device
    (Serve (block_writes (run_layout p.shape) (block_of p.marks.written) (framed_full_blocks (block_of p.marks.written) bytes firsts (p.marks.number % 4294967296))
    (512 * other_tail p.tails.tail) (last_block (block_of p.marks.written) bytes firsts)) None)) c.self.view_is
    (texts_served part.shape part.marks part.tails (part.marks.number % 4294967296) bytes firsts c.layout_of-layout.result c.block_of-from.result (512 * c.other_tail-free.result) _ last
    c.layout_of-layout.ensures.is texts c.in-Ok.ensures.calls)

pub returns-in-Err-clause-calls : goal.returns-in-Err-clause-calls
returns-in-Err-clause-calls g c =
    let part = c.self.inside in
    let bytes = c.args.bytes.now in
    let firsts = c.args.firsts.now in
    let room = c.fill_blocks-full.new.room in
    let kept : c.deref.result.now ≡ room = c.deref.ensures.value ∙ take_at room _ part.buffer.len (omega (arith, c.fill_blocks-full.auto.room, c.deref_mut.ensures.len)) in
    let last : List ℕ = take c.fill_blocks-full.result.1 c.fill_blocks-full.new.last in
    let texts = texts-of part.marks part.tails (part.marks.number % 4294967296) bytes firsts c.block_of-from.result c.other_tail-free.result c.fill_blocks-full.result.0 c.deref.result.now room last
    c.block_of-from.ensures c.other_tail-free.ensures kept c.fill_blocks-full.ensures.full c.fill_blocks-full.ensures.last in
    let failed : Option DevError = Some c.in-Err.error in
    subst (λ (p : Part _). MakesCalls g.L.Sectors.gives p.dev c.write_blocks.new.device
    (Serve (block_writes (run_layout p.shape) (block_of p.marks.written) (framed_full_blocks (block_of p.marks.written) bytes firsts (p.marks.number % 4294967296))
    (512 * other_tail p.tails.tail) (last_block (block_of p.marks.written) bytes firsts)) failed)) c.self.view_is
    (texts_served part.shape part.marks part.tails (part.marks.number % 4294967296) bytes firsts c.layout_of-layout.result c.block_of-from.result (512 * c.other_tail-free.result) _ last
    c.layout_of-layout.ensures.is texts c.in-Err.ensures.calls)
