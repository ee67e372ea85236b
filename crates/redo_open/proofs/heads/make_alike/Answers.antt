-- The one is put where the other stands, or nothing.
use Rattle.std.proofs.Common.{◌≡◌, ◌≤◌, ℕ, List, length, drop, ap, sym, subst, ◌∙◌, arith, rules}
use Rattle.std.specs.Prelude.{Result}
use Rattle.std.specs.Cmp.Lexicographic.{same_text}
use Rattle.std.proofs.lemmas.List.{length-take}
use Rattle.model_base.specs.declared.shape.Shape.{Shape}
use Rattle.model_log.specs.{read_head, sector_at}
use Rattle.model_log.specs.declared.head.Format.{Format}
use Rattle.model_log.specs.declared.head.Head.TheVariants.{Good}
use Rattle.redo_disk.specs.{Seen}
use Rattle.redo_disk.specs.declared.error.DevError.{DevError}
use Rattle.redo_open.specs.Put.{PutsHead, block_write, PutStep}
use Rattle.redo_open.proofs.Alike.{alike-already, alike-first, alike-neither, alike-second}
use Rattle.redo_open.proofs.Puts.{put_served}
use Rattle.redo_open.proofs.heads.make_alike.Goals as goal

-- the block that the code has
there : (k : ℕ) (block text : List ℕ) (old : Seen) (result : Result (Unit {0}) DevError) (new : Seen) → block ≡ text → PutStep k block old result new → PutStep k text old result new
there k block text old result new is step = subst (λ (bytes : List ℕ). PutStep k bytes old result new) is step

-- a block lies within the two, and names what it names
puts : (k at : ℕ) (format : Format) (shape : Shape) (heads block : List ℕ) → k ≤ 2 → block ≡ sector_at at heads → read_head block ≡ Good format shape
    → PutsHead format shape (block_write k block)
puts k at format shape heads block low is says = record { inside = omega (arith, low, ap length is, length-take 512 (drop at heads)); says = says }

pub returns-then-eq-clause-step : goal.returns-then-eq-clause-step
returns-then-eq-clause-step g c =
    alike-already c.args.format c.args.shape.now c.args.heads.now (g.L.Sectors.seen c.args.log.now) tt
    (sym c.block_at-first.ensures ∙ same_text c.block_at-first.result.now c.block_at-second.result.now c.if-eq.ensures ∙ c.block_at-second.ensures)

pub returns-then-names-clause-step : goal.returns-then-names-clause-step
returns-then-names-clause-step g c =
    let says : read_head c.block_at-first.result.now ≡ Good c.args.format c.args.shape.now = search rules in
    alike-second c.args.format c.args.shape.now c.args.heads.now (g.L.Sectors.seen c.args.log.now) c.put_block.result (g.L.Sectors.seen c.put_block.new.log)
    (ap read_head (sym c.block_at-first.ensures) ∙ says)
    (there 2 c.block_at-first.result.now _ (g.L.Sectors.seen c.args.log.now) c.put_block.result (g.L.Sectors.seen c.put_block.new.log) c.block_at-first.ensures c.put_block.ensures.step)

pub returns-then-names-clause-calls : goal.returns-then-names-clause-calls
returns-then-names-clause-calls g c =
    let says : read_head c.block_at-first.result.now ≡ Good c.args.format c.args.shape.now = search rules in
    put_served (puts 2 0 c.args.format c.args.shape.now c.args.heads.now c.block_at-first.result.now (omega arith) c.block_at-first.ensures says) c.put_block.ensures.calls

pub returns-then-names-2-clause-step : goal.returns-then-names-2-clause-step
returns-then-names-2-clause-step g c =
    let apart : read_head c.block_at-first.result.now ≡ Good c.args.format c.args.shape.now → ⊥ = search rules in
    alike-first c.args.format c.args.shape.now c.args.heads.now (g.L.Sectors.seen c.args.log.now) c.put_block-then-names-2.result (g.L.Sectors.seen c.put_block-then-names-2.new.log)
    (λ says. apart (ap read_head c.block_at-first.ensures ∙ says))
    (there 0 c.block_at-second.result.now _ (g.L.Sectors.seen c.args.log.now) c.put_block-then-names-2.result (g.L.Sectors.seen c.put_block-then-names-2.new.log)
    c.block_at-second.ensures c.put_block-then-names-2.ensures.step)

pub returns-then-names-2-clause-calls : goal.returns-then-names-2-clause-calls
returns-then-names-2-clause-calls g c =
    let says : read_head c.block_at-second.result.now ≡ Good c.args.format c.args.shape.now = search rules in
    put_served (puts 0 1024 c.args.format c.args.shape.now c.args.heads.now c.block_at-second.result.now (omega arith) c.block_at-second.ensures says) c.put_block-then-names-2.ensures.calls

pub returns-else-names-2-clause-step : goal.returns-else-names-2-clause-step
returns-else-names-2-clause-step g c =
    let first : read_head c.block_at-first.result.now ≡ Good c.args.format c.args.shape.now → ⊥ = search rules in
    let second : read_head c.block_at-second.result.now ≡ Good c.args.format c.args.shape.now → ⊥ = search rules in
    alike-neither c.args.format c.args.shape.now c.args.heads.now (g.L.Sectors.seen c.args.log.now) tt
    (λ says. first (ap read_head c.block_at-first.ensures ∙ says)) (λ says. second (ap read_head c.block_at-second.ensures ∙ says))
