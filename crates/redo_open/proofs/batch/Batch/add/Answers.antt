-- There is room for the user bytes of one page more.
use Rattle.std.proofs.Common.{◌≡◌, ◌≤◌, ◌<◌, ◌+◌, ◌*◌, length, arith, sym, subst}
use Rattle.model_base.specs.{user_length}
use Rattle.model_parts.proofs.Rows.{row_ends}
use Rattle.redo_open.specs.Rewrite.{Gathered}
use Rattle.redo_open.proofs.batch.Batch.add.Goals as goal

pub unwrap-requires : goal.unwrap-requires
unwrap-requires c =
    let batch = c.self.inside in
    let size = user_length batch.shape in
    let few : length batch.pairs.items < batch.shape.slots = subst (λ (b : Gathered). length b.pairs < b.shape.slots) (sym c.self.view_is) c.requires.few in
    let joined : length batch.users.items ≡ length batch.pairs.items * size =
    subst (λ (b : Gathered). length b.users ≡ length b.pairs * user_length b.shape) (sym c.self.view_is) c.requires.joined in
    let long : length c.args.user.now ≡ size = subst (λ (b : Gathered). length c.args.user.now ≡ user_length b.shape) (sym c.self.view_is) c.requires.long in
    let row : length batch.pairs.items * size + size ≤ batch.shape.slots * size = row_ends (length batch.pairs.items) batch.shape.slots size few in
    c.extend_from_slice.ensures.succeeds (omega (arith, c.self.invariant.for_users))
