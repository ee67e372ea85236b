use Rattle.std.proofs.Common.{◌≡◌, max, arith}
use Rattle.rayon.specs.Lists.{chunks_of}
use Rattle.redo_lsn.specs.declared.memory.NoMemory.{NoMemory}
use Rattle.redo_papply.proofs.Cutting.{all-well, runs-cut}
use Rattle.redo_papply.proofs.apply.apply_runs.Goals as goal

pub collect-requires-clause-ready : goal.collect-requires-clause-ready
collect-requires-clause-ready g c κs within =
    let cut = runs-cut c.args.pages.now c.args.numbers.now c.args.size c.requires.size c.requires.numbers in
    let some : max c.args.size 1 ≡ c.args.size = omega (arith, c.requires.size) in
    rw (c.map.ensures.base, c.with_min_len.ensures.base, c.par_chunks.ensures.size, c.par_chunks.ensures.slice, some, c.map.ensures.f)
    (λ k d lt x e. ((rw e (cut k d lt), c.requires.fit), λ y p. tt))

pub returns : goal.returns
returns g c =
    let done = c.in_ok-runs.ensures in
    let some : max c.args.size 1 ≡ c.args.size = omega (arith, c.requires.size) in
    let chain = rw (c.map.ensures.base, c.with_min_len.ensures.base, c.par_chunks.ensures.size, c.par_chunks.ensures.slice, some, c.map.ensures.f) at done.1 in
    all-well c.args.groups.now c.args.pages.now NoMemory (chunks_of c.args.size c.args.numbers.now) chain.0 done.0 c.in_ok-runs.runs chain.1 chain.2 done.2
