use Rattle.std.proofs.Common.{◌+◌, ◌-◌, ◌≡◌, ℕ, ap, arith, take, drop, length}
use Rattle.std.proofs.lemmas.List.{take_rest}
use Rattle.model_core.specs.Lanes.{lsn}
use Rattle.redo_follow.proofs.WholeGroups.{one_step, no_more_text, ends_so}
use Rattle.redo_follow.proofs.handing.hand_on.Goals as goal

pub loop-length-smaller : goal.loop-length-smaller
unfolding lsn
loop-length-smaller g c =
    let taken = c.loop-length.taken in
    let len = c.in-Value.length in
    let bytes = c.args.bytes.now in
    let invariant = c.loop-length.invariant in
    let begins = c.in-Value.ensures in
    let rest = take (length bytes - taken) (drop taken bytes) in
    let text = take ((taken + len) - taken) (drop taken bytes) in
    let long : (taken + len) - taken ≡ len = omega arith in
    let one = one_step g.R.Receiver.stands_for c.args.at bytes c.args.receiver.now c.loop-length.receiver
    c.group.new.self taken len c.lsn_of.result c.lsn_of-in-Value.result rest text invariant.0 invariant.1
    (take_rest bytes taken) (begins.1, begins.2) c.lsn_of.ensures c.lsn_of-in-Value.ensures
    (ap (λ (n : ℕ). take n (drop taken bytes)) long) c.group.ensures in
    omega (arith, one.1, one.2)

pub loop-length-preserved : goal.loop-length-preserved
unfolding lsn
loop-length-preserved g c =
    let taken = c.loop-length.taken in
    let len = c.in-Value.length in
    let bytes = c.args.bytes.now in
    let invariant = c.loop-length.invariant in
    let begins = c.in-Value.ensures in
    let rest = take (length bytes - taken) (drop taken bytes) in
    let text = take ((taken + len) - taken) (drop taken bytes) in
    let long : (taken + len) - taken ≡ len = omega arith in
    let one = one_step g.R.Receiver.stands_for c.args.at bytes c.args.receiver.now c.loop-length.receiver
    c.group.new.self taken len c.lsn_of.result c.lsn_of-in-Value.result rest text invariant.0 invariant.1
    (take_rest bytes taken) (begins.1, begins.2) c.lsn_of.ensures c.lsn_of-in-Value.ensures
    (ap (λ (n : ℕ). take n (drop taken bytes)) long) c.group.ensures in
    (one.0, one.1)

pub returns : goal.returns
returns g c =
    let taken = c.loop-length.taken in
    let bytes = c.args.bytes.now in
    let none = ends_so (drop taken bytes) (take (length bytes - taken) (drop taken bytes)) (take_rest bytes taken)
    c.span.result c.span.ensures c.in_default.not-Value in
    no_more_text g.R.Receiver.stands_for c.args.at bytes c.args.receiver.now c.loop-length.receiver taken
    c.loop-length.invariant.0 none
