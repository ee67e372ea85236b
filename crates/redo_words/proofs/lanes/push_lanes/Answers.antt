use Rattle.std.proofs.Common.{ap, arith, length, vec_capacity, ◌+◌, ◌∙◌}
use Rattle.std.specs.Prelude.{slice_index}
use Rattle.model_core.proofs.Lanes.{lane_read}
use Rattle.redo_words.proofs.LaneLists.{pushed_long, pushed_next, pushed_none}
use Rattle.redo_words.proofs.lanes.push_lanes.Goals as goal

pub loop-i-init : goal.loop-i-init
loop-i-init c = record { items = pushed_none c.args.bytes.now.items c.args.lane c.args.word; room = λ _. vec_capacity c.args.bytes.now }

pub push_reserved-requires : goal.push_reserved-requires
push_reserved-requires c = let long = pushed_long c.args.bytes.now.items c.loop-i.bytes.items c.args.lane c.loop-i.i c.args.word c.loop-i.invariant.items in omega (arith, c.requires.room, c.loop-i.invariant.room, c.loop-i-test.true)

pub loop-i-preserved : goal.loop-i-preserved
loop-i-preserved c = record {
  items = pushed_next c.args.bytes.now.items c.loop-i.bytes.items c.push_reserved.new.self.items c.args.lane c.loop-i.i c.args.word _ c.loop-i.invariant.items c.push_reserved.ensures.items
      (ap (λ l. slice_index l (c.args.lane + c.loop-i.i)) c.to_le_bytes-lanes.ensures ∙ lane_read (c.args.lane + c.loop-i.i) c.args.word (omega (arith, c.requires.lanes, c.loop-i-test.true)));
  room = c.push_reserved.ensures.capacity ∙ c.loop-i.invariant.room;
}

pub returns-clause-longer : goal.returns-clause-longer
returns-clause-longer c = pushed_long c.args.bytes.now.items c.loop-i.bytes.items c.args.lane c.loop-i.i c.args.word c.loop-i.invariant.items ∙ ap (λ n. length c.args.bytes.now.items + n) (omega (arith, c.loop-i-test.false, c.loop-i.auto.i-end))
