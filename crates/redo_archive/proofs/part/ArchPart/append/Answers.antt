use Rattle.std.proofs.Common.{◌≡◌, ◌≤◌, ◌*◌, ℕ, length, Some, sym, ap, subst, ◌∙◌}
use Rattle.model_device.specs.{Disk}
use Rattle.model_log.specs.{block_of, last_span_end, spans_of}
use Rattle.model_archive.specs.{after_append, after_asking, archive_place, AreArchivedBlocks, HasNextMark}
use Rattle.redo_disk.specs.{IsRange, write_at}
use Rattle.redo_disk.proofs.Told.{told-step}
use Rattle.redo_archive.specs.Part.{after_two, FailsTwo, DiskArchives, MayAppend, Part, PartArchives}
use Rattle.redo_archive.proofs.Appends.{append-failed, append-made, append-range, AreWrites, asked-of, IsAsked}
use Rattle.redo_archive.proofs.part.ArchPart.append.Goals as goal

pub put_in_turn-requires-clause-first : goal.put_in_turn-requires-clause-first
put_in_turn-requires-clause-first g c =
    let part : Part _ =
    record {
      dev = c.self.inside.dev;
      shape = c.self.inside.shape;
      start = c.self.inside.start;
      marks = c.self.inside.marks;
      failed = c.self.inside.failed;
    } in
    let blocks = c.args.blocks.now in
    let may : MayAppend g.A.Sectors.seen part c.args.mark blocks =
    subst (λ (p : Part _). MayAppend g.A.Sectors.seen p c.args.mark blocks) (sym c.self.view_is) c.requires in
    let at : c.archive_place-at.result ≡ archive_place part.shape part.start (block_of part.marks.mark) =
    c.archive_place-at.ensures ∙ ap (archive_place part.shape part.start) c.block_of.ensures in
    subst (λ (n : ℕ). IsRange (g.A.Sectors.seen part.dev).size n (length blocks)) (sym at)
    (append-range (g.A.Sectors.seen part.dev).size part.shape part.start part.marks c.args.mark blocks
    c.self.invariant.limits c.self.invariant.run_start.place c.self.invariant.from may.at_start may.later
    may.count may.room)

pub returns-in-Ok-clause-holds : goal.returns-in-Ok-clause-holds
returns-in-Ok-clause-holds g c next pages wholes known reached are =
    let part : Part _ =
    record {
      dev = c.self.inside.dev;
      shape = c.self.inside.shape;
      start = c.self.inside.start;
      marks = c.self.inside.marks;
      failed = c.self.inside.failed;
    } in
    let mark = c.args.mark in
    let blocks = c.args.blocks.now in
    let size = (g.A.Sectors.seen part.dev).size in
    let now = (g.A.Sectors.seen c.put_in_turn.new.device).size in
    let may : MayAppend g.A.Sectors.seen part mark blocks =
    subst (λ (p : Part _). MayAppend g.A.Sectors.seen p mark blocks) (sym c.self.view_is) c.requires in
    let before : PartArchives g.A.Sectors.seen pages wholes part =
    subst (λ (p : Part _). PartArchives g.A.Sectors.seen pages wholes p) (sym c.self.view_is) known in
    let asked : IsAsked size part.shape part.start wholes part.marks mark blocks =
    asked-of size part.shape part.start wholes part.marks mark blocks may.at_start may.place may.later may.small
    may.count may.room
    (subst (λ (p : Part _). HasNextMark p.marks) (sym c.self.view_is) next)
    (subst (λ (p : Part _). mark ≤ last_span_end p.start (spans_of wholes)) (sym c.self.view_is) reached)
    (subst (λ (p : Part _). AreArchivedBlocks p.start wholes p.marks.mark mark blocks) (sym c.self.view_is) are) in
    let writes : AreWrites part.shape part.start part.marks mark c.archive_place-at.result
    (512 * c.mark_place-next.result) c.fill_mark.new.out = record {
      at_is = c.archive_place-at.ensures ∙ ap (archive_place part.shape part.start) c.block_of.ensures;
      next_is = ap (λ n. 512 * n) c.mark_place-next.ensures;
      sector_is = c.fill_mark.ensures;
    } in
    told-step _ _ (DiskArchives size part.shape part.start pages wholes part.marks part.failed)
    (DiskArchives now part.shape part.start pages wholes (after_append mark part.marks) part.failed)
    (λ (old new : Disk). new ≡ after_two (write_at c.archive_place-at.result blocks)
    (write_at (512 * c.mark_place-next.result) c.fill_mark.new.out) old)
    (λ a b holds is. append-made size now part.shape part.start pages wholes part.marks part.failed mark
    c.archive_place-at.result (512 * c.mark_place-next.result) blocks c.fill_mark.new.out a b
    c.put_in_turn.ensures.size may.live asked writes holds is)
    before c.in-Ok.ensures.ok

pub returns-in-Err-clause-holds : goal.returns-in-Err-clause-holds
returns-in-Err-clause-holds g c next pages wholes known reached are =
    let part : Part _ =
    record {
      dev = c.self.inside.dev;
      shape = c.self.inside.shape;
      start = c.self.inside.start;
      marks = c.self.inside.marks;
      failed = c.self.inside.failed;
    } in
    let mark = c.args.mark in
    let blocks = c.args.blocks.now in
    let size = (g.A.Sectors.seen part.dev).size in
    let now = (g.A.Sectors.seen c.put_in_turn.new.device).size in
    let may : MayAppend g.A.Sectors.seen part mark blocks =
    subst (λ (p : Part _). MayAppend g.A.Sectors.seen p mark blocks) (sym c.self.view_is) c.requires in
    let before : PartArchives g.A.Sectors.seen pages wholes part =
    subst (λ (p : Part _). PartArchives g.A.Sectors.seen pages wholes p) (sym c.self.view_is) known in
    let asked : IsAsked size part.shape part.start wholes part.marks mark blocks =
    asked-of size part.shape part.start wholes part.marks mark blocks may.at_start may.place may.later may.small
    may.count may.room
    (subst (λ (p : Part _). HasNextMark p.marks) (sym c.self.view_is) next)
    (subst (λ (p : Part _). mark ≤ last_span_end p.start (spans_of wholes)) (sym c.self.view_is) reached)
    (subst (λ (p : Part _). AreArchivedBlocks p.start wholes p.marks.mark mark blocks) (sym c.self.view_is) are) in
    let writes : AreWrites part.shape part.start part.marks mark c.archive_place-at.result
    (512 * c.mark_place-next.result) c.fill_mark.new.out = record {
      at_is = c.archive_place-at.ensures ∙ ap (archive_place part.shape part.start) c.block_of.ensures;
      next_is = ap (λ n. 512 * n) c.mark_place-next.ensures;
      sector_is = c.fill_mark.ensures;
    } in
    told-step _ _ (DiskArchives size part.shape part.start pages wholes part.marks part.failed)
    (DiskArchives now part.shape part.start pages wholes (after_asking mark part.marks) (Some c.in-Err.error))
    (FailsTwo (write_at c.archive_place-at.result blocks)
    (write_at (512 * c.mark_place-next.result) c.fill_mark.new.out))
    (λ a b holds fails. append-failed size now part.shape part.start pages wholes part.marks part.failed
    c.in-Err.error mark c.archive_place-at.result (512 * c.mark_place-next.result) blocks c.fill_mark.new.out a b
    c.put_in_turn.ensures.size may.live asked writes holds fails)
    before c.in-Err.ensures.err
