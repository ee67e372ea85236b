use Rattle.std.proofs.Common.{inl, ⊎_elim}
use Rattle.model_core.specs.declared.ops.Op.TheVariants as op
use Rattle.redo_ownrule.proofs.OwnPlaying.{no_such, rests_fit, rests_now}
use Rattle.redo_ownrule.proofs.own.play_next.Goals as goal

pub rests-requires-clause-asks : goal.rests-requires-clause-asks
rests-requires-clause-asks g c = rests_now c.requires.seat c.args.op c.requires.asks c.in-Rest.is

pub rests-requires-clause-fits : goal.rests-requires-clause-fits
rests-requires-clause-fits g c = rests_fit c.requires.seat c.args.op c.requires.asks c.in-Rest.is

pub unreachable-requires : goal.unreachable-requires
unreachable-requires g c =
    let none = no_such c.requires.seat c.args.op c.requires.asks in
    ⊎_elim (λ t. none (op.TakeRemove t.0) tt t.1)
    (λ r. ⊎_elim (λ t. none (op.TakeOldest t.0) tt t.1)
    (λ r. ⊎_elim (λ t. none (op.Checkpoint t.0) tt t.1)
    (λ r. ⊎_elim (λ t. none (op.ReadBlock t.0) tt t.1)
    (λ r. ⊎_elim (λ t. none op.WriteBatch tt t) (λ t. none (op.Append t.0) tt t.1) r) r) r) r)
    c.in-TakeRemove.is

pub returns-in-Rest-clause-played : goal.returns-in-Rest-clause-played
returns-in-Rest-clause-played g c = inl (
  rests_now c.requires.seat c.args.op c.requires.asks c.in-Rest.is,
  c.rests.ensures.same,
  c.rests.ensures.step,
)
