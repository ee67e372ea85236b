use Rattle.std.proofs.Common.{inl, inr, subst, sym, ◌∙◌}
use Rattle.model_core.specs.States as model
use Rattle.redo_rule.proofs.Took.{rested}
use Rattle.redo_rule.specs.Seating.{IsSeatOf}
use Rattle.redo_rule.proofs.playing.play_next.Goals as goal

pub took-requires : goal.took-requires
took-requires g c =
    let may = c.requires.seat.mine.may.rest (c.requires.asks ∙ c.in-Rest.is) in record { fits = may.0; mark = may.1 }

pub returns-in-WriteBatch : goal.returns-in-WriteBatch
returns-in-WriteBatch g c = record {
  seat = c.write_batch.ensures.seat;
  same = c.write_batch.ensures.same;
  played = inr c.write_batch.ensures.played;
}

pub returns-in-Rest : goal.returns-in-Rest
returns-in-Rest g c =
    let r = rested g.R.Receiver.stands_for c.args.seat.now.me.0 c.args.actor.now c.took.result c.took.new.self
    (c.requires.asks ∙ c.in-Rest.is) c.requires.seat.mine.may.free c.took.ensures in
    record {
      seat = subst (λ (z : model.Actor). IsSeatOf c.args.table.now.table_id c.args.seat.now z) (sym r.0) c.requires.seat;
      same = r.2;
      played = inl (c.requires.asks ∙ c.in-Rest.is, r.0, r.1);
    }

pub returns-in_default : goal.returns-in_default
returns-in_default g c = record {
  seat = c.play_token.ensures.seat;
  same = c.play_token.ensures.same;
  played = inr c.play_token.ensures.played;
}

pub append-requires-clause-asks : goal.append-requires-clause-asks
append-requires-clause-asks g c = (c.in-Append.field-0, c.requires.asks ∙ c.in-Append.is)

pub returns-in-Append : goal.returns-in-Append
returns-in-Append g c = record {
  seat = c.append.ensures.seat;
  same = c.append.ensures.same;
  played = inr c.append.ensures.played;
}
