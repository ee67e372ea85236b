use Rattle.std.proofs.Common.{refl, rules, ◌∙◌}
use Rattle.redo_ownrule.proofs.Seatings.{all_in_first, none_in_first, one_part}
use Rattle.redo_ownrule.specs.Players.{place}
use Rattle.redo_ownrule.specs.Sharing.{own_of}
use Rattle.redo_rule.specs.Ruled.{none_heard}
use Rattle.redo_ownrule.proofs.shared.Shared.seats.Goals as goal

pub cut_all-requires-clause-apart : goal.cut_all-requires-clause-apart
cut_all-requires-clause-apart g c = (
  own_of c.args.self.now,
  all_in_first _ _ _ c.args.players.now _ _ c.requires.first c.requires.all (search rules),
)

pub returns-clause-seated : goal.returns-clause-seated
returns-clause-seated g c =
    let own = own_of c.args.self.now in
    let apart = c.cut_all.ensures.apart own (all_in_first _ _ _ c.args.players.now _ _ c.requires.first c.requires.all
    (search rules)) in
    record {
      ready = (let r = c.requires.ready in record {
        runnable = r.runnable;
        may = r.may;
        no_entries = r.no_entries;
        room = r.room;
        no_actors = r.no_actors;
        actors_fit = r.actors_fit;
      });
      first = apart.is_first;
      none = none_in_first c.args.self.now.board.shared.table_id (place own c.args.players.now) none_heard
          c.args.players.now c.cut_all.new.first c.cut_all.result.items apart c.cut_all.ensures.all;
      alone = λ alone. one_part c.args.players.now c.cut_all.new.first c.cut_all.ensures.part
          (c.requires.no_cleaner alone);
    }

pub returns-clause-fresh : goal.returns-clause-fresh
returns-clause-fresh g c = record {
  knows = λ i seat at. c.cut_all.ensures.fresh.knows i seat at ∙ c.requires.told;
  none = c.cut_all.ensures.fresh.none;
}

pub returns-clause-seats : goal.returns-clause-seats
returns-clause-seats g c =
    let own = own_of c.args.self.now in
    let apart = c.cut_all.ensures.apart own (all_in_first _ _ _ c.args.players.now _ _ c.requires.first c.requires.all
    (search rules)) in
    record {
      count = c.cut_all.ensures.all;
      each = λ i seat p at there. let e = apart.each i seat p at there in (e.0, e.1);
    }

pub returns-clause-layout : goal.returns-clause-layout
returns-clause-layout g c = (refl, λ i seat at. c.cut_all.ensures.layout i seat at ∙ c.requires.layout)
