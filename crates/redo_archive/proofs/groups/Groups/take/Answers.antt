use Rattle.std.proofs.Common.{◌≡◌, ◌+◌, ◌++◌, ℕ, length, ap, ◌∙◌, length-append, arith}
use Rattle.std.proofs.lemmas.Result.{IfOk-weaker}
use Rattle.redo_archive.specs.Grouped.{HasLsnRoom}
use Rattle.redo_archive.proofs.Applied.{read-broken}
use Rattle.redo_archive.proofs.groups.Groups.take.Goals as goal

pub returns-then-self-clause-read : goal.returns-then-self-clause-read
returns-then-self-clause-read c aim before same_shape same_lsn read =
    read-broken aim before c.args.bytes.now c.args.self c.if-self.true read

pub returns-clause-room : goal.returns-clause-room
returns-clause-room c =
    let self = c.args.self in
    let bytes = c.args.bytes.now in
    let joined : c.as_slice.result.now ≡ self.rest.items ++ bytes =
    c.as_slice.ensures.value ∙ c.in_ok-extend_from_slice.ensures.items in
    let long : length c.as_slice.result.now ≡ length self.rest.items + length bytes =
    ap length joined ∙ length-append self.rest.items bytes in
    IfOk-weaker c.apply_groups.result
    (λ groups. (count : ℕ) → HasLsnRoom self.at self.restored.n c.as_slice.result.now count
    → HasLsnRoom groups.at groups.restored.n groups.rest.items count)
    (λ groups. (count : ℕ) → HasLsnRoom self.at self.restored.n self.rest.items (length bytes + count)
    → HasLsnRoom groups.at groups.restored.n groups.rest.items count)
    (λ groups keeps count room.
    keeps count (record { lsns = omega (arith, long, room.lsns); numbers = omega (arith, long, room.numbers) }))
    c.apply_groups.ensures.room
