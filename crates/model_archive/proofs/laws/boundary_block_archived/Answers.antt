use Rattle.std.proofs.Common.{arith}
use Rattle.model_archive.proofs.laws.boundary_block_archived.Goals as goal

pub returns : goal.returns
returns c s wholes boundary mark b bytes is_boundary is below = record {
  m = boundary;
  boundary = is_boundary;
  enough = omega (arith, below);
  block = is;
}
