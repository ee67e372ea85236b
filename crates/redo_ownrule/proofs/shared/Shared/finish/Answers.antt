use Rattle.std.proofs.Common.{List, ap, length, refl, subst, sym, ◌∙◌}
use Rattle.redo_ownrule.proofs.Finished.{actors_fit, actors_of, all_groups, all_kept, all_out, closes, finished, its_list}
use Rattle.redo_ownrule.proofs.Left.{leaves_players}
use Rattle.redo_ownrule.proofs.Losses.{its_losses}
use Rattle.redo_ownrule.proofs.shared.Shared.finish.Goals as goal
use Rattle.redo_ownrule.specs.Sharing.{AllAtRest, own_of}
use Rattle.redo_ownrule.specs.declared.player.Player.{Player}
use Rattle.redo_rule.proofs.Finishing.{is_owed, leaves_own}
use Rattle.redo_rule.proofs.Reached.{code_has_cause, reaches_all}
use Rattle.redo_rule.specs.Sharing.{heard_by}

pub take_all-requires-clause-apart : goal.take_all-requires-clause-apart
take_all-requires-clause-apart g c = (
  _,
  all_out c.args.self.board.shared.table_id (own_of c.args.self) c.args.players.items c.as_slice.result.now
      c.as_slice.ensures.value c.args.seats.items c.args.self.first c.requires.seats c.requires.seated.first
      c.requires.seated.none,
)

pub take_all-requires-clause-rest : goal.take_all-requires-clause-rest
take_all-requires-clause-rest g c = subst (λ (l : List (Player g.row.R.Denot)). AllAtRest l)
    (sym c.as_slice.ensures.value) c.requires.rest

pub take_all-requires-clause-all : goal.take_all-requires-clause-all
take_all-requires-clause-all g c = c.requires.seats.count
    ∙ ap (λ (l : List (Player g.row.R.Denot)). length l) (sym c.as_slice.ensures.value)

pub close_table-log-requires-clause-ends : goal.close_table-log-requires-clause-ends
close_table-log-requires-clause-ends g c = λ words slots final.
    let E = closes g.L.Sectors.seen g.L.Sectors.gives g.D.Sectors.seen g.D.Sectors.gives c.args.self.board.shared.key
    (heard_by c.args.seats.items) c.args.players.items c.as_slice.result.now c.as_slice.ensures.value
    c.take_all.new.first (c.take_all.ensures.all _
    (all_out c.args.self.board.shared.table_id (own_of c.args.self) c.args.players.items c.as_slice.result.now
    c.as_slice.ensures.value c.args.seats.items c.args.self.first c.requires.seats c.requires.seated.first
    c.requires.seated.none)) c.requires.all c.requires.rest c.take_all.ensures.cleaner
    (λ alone. c.take_all.ensures.part (c.requires.seated.alone alone)) words slots final in
    (E.all_heard, _, E.reaches)

pub close_table-log-requires-clause-lists : goal.close_table-log-requires-clause-lists
close_table-log-requires-clause-lists g c = λ words slots final.
    let E = closes g.L.Sectors.seen g.L.Sectors.gives g.D.Sectors.seen g.D.Sectors.gives c.args.self.board.shared.key
    (heard_by c.args.seats.items) c.args.players.items c.as_slice.result.now c.as_slice.ensures.value
    c.take_all.new.first (c.take_all.ensures.all _
    (all_out c.args.self.board.shared.table_id (own_of c.args.self) c.args.players.items c.as_slice.result.now
    c.as_slice.ensures.value c.args.seats.items c.args.self.first c.requires.seats c.requires.seated.first
    c.requires.seated.none)) c.requires.all c.requires.rest c.take_all.ensures.cleaner
    (λ alone. c.take_all.ensures.part (c.requires.seated.alone alone)) words slots final in
    E.lists

pub give_actors-actors-requires-clause-enough : goal.give_actors-actors-requires-clause-enough
give_actors-actors-requires-clause-enough g c =
    let T = c.close_table-log.ensures in
    let E = closes g.L.Sectors.seen g.L.Sectors.gives g.D.Sectors.seen g.D.Sectors.gives c.args.self.board.shared.key
    (heard_by c.args.seats.items) c.args.players.items c.as_slice.result.now c.as_slice.ensures.value
    c.take_all.new.first (c.take_all.ensures.all _
    (all_out c.args.self.board.shared.table_id (own_of c.args.self) c.args.players.items c.as_slice.result.now
    c.as_slice.ensures.value c.args.seats.items c.args.self.first c.requires.seats c.requires.seated.first
    c.requires.seated.none)) c.requires.all c.requires.rest c.take_all.ensures.cleaner
    (λ alone. c.take_all.ensures.part (c.requires.seated.alone alone)) T.words T.slots T.final in
    actors_fit g.L.Sectors.seen g.L.Sectors.gives g.D.Sectors.seen g.D.Sectors.gives c.args.self.board.shared.key
    (own_of c.args.self) (heard_by c.args.seats.items) c.args.players.items c.take_all.new.first
    c.close_table-log.result T E _ _ c.requires.all c.requires.seated.ready.actors_fit

pub history_of-history-requires : goal.history_of-history-requires
history_of-history-requires g c =
    let T = c.close_table-log.ensures in
    let E = closes g.L.Sectors.seen g.L.Sectors.gives g.D.Sectors.seen g.D.Sectors.gives c.args.self.board.shared.key
    (heard_by c.args.seats.items) c.args.players.items c.as_slice.result.now c.as_slice.ensures.value
    c.take_all.new.first (c.take_all.ensures.all _
    (all_out c.args.self.board.shared.table_id (own_of c.args.self) c.args.players.items c.as_slice.result.now
    c.as_slice.ensures.value c.args.seats.items c.args.self.first c.requires.seats c.requires.seated.first
    c.requires.seated.none)) c.requires.all c.requires.rest c.take_all.ensures.cleaner
    (λ alone. c.take_all.ensures.part (c.requires.seated.alone alone)) T.words T.slots T.final in
    let F = finished g.L.Sectors.seen g.L.Sectors.gives g.D.Sectors.seen g.D.Sectors.gives c.args.self.board.shared.key
    (own_of c.args.self) (heard_by c.args.seats.items) c.args.players.items c.take_all.new.first
    c.close_table-log.result T E c.give_actors-actors.result.items c.give_actors-actors.ensures in
    all_groups g.L.Sectors.seen g.L.Sectors.gives g.D.Sectors.seen g.D.Sectors.gives c.args.self.board.shared.key
    (own_of c.args.self) (heard_by c.args.seats.items) c.args.players.items c.close_table-log.result
    c.give_actors-actors.result.items F c.as_slice-2.result.now c.as_slice-2.ensures.value

pub returns : goal.returns
returns g c =
    let T = c.close_table-log.ensures in
    let E = closes g.L.Sectors.seen g.L.Sectors.gives g.D.Sectors.seen g.D.Sectors.gives c.args.self.board.shared.key
    (heard_by c.args.seats.items) c.args.players.items c.as_slice.result.now c.as_slice.ensures.value
    c.take_all.new.first (c.take_all.ensures.all _
    (all_out c.args.self.board.shared.table_id (own_of c.args.self) c.args.players.items c.as_slice.result.now
    c.as_slice.ensures.value c.args.seats.items c.args.self.first c.requires.seats c.requires.seated.first
    c.requires.seated.none)) c.requires.all c.requires.rest c.take_all.ensures.cleaner
    (λ alone. c.take_all.ensures.part (c.requires.seated.alone alone)) T.words T.slots T.final in
    let F = finished g.L.Sectors.seen g.L.Sectors.gives g.D.Sectors.seen g.D.Sectors.gives c.args.self.board.shared.key
    (own_of c.args.self) (heard_by c.args.seats.items) c.args.players.items c.take_all.new.first
    c.close_table-log.result T E c.give_actors-actors.result.items c.give_actors-actors.ensures in
    let listed = its_list g.L.Sectors.seen g.L.Sectors.gives g.D.Sectors.seen g.D.Sectors.gives
    c.args.self.board.shared.key (own_of c.args.self) (heard_by c.args.seats.items) c.args.players.items
    c.close_table-log.result c.give_actors-actors.result.items F c.requires.fixed
    c.as_slice-2.result.now c.as_slice-2.ensures.value _
    (c.requires.seated.ready.room c.requires.fixed) c.history_of-history.result
    (c.history_of-history.ensures (all_kept g.L.Sectors.seen g.L.Sectors.gives g.D.Sectors.seen g.D.Sectors.gives
    c.args.self.board.shared.key (own_of c.args.self) (heard_by c.args.seats.items) c.args.players.items
    c.close_table-log.result c.give_actors-actors.result.items F c.requires.fixed
    c.as_slice-2.result.now c.as_slice-2.ensures.value) c.requires.seated.ready.no_entries) in
    let loss = its_losses c.args.self.board.shared.key.plan.archive F.work c.args.players.items
    c.give_actors-actors.result.items F.are c.args.lost c.requires.lost in
    let own = leaves_own g.L.Sectors.seen g.L.Sectors.gives g.D.Sectors.seen g.D.Sectors.gives
    c.args.self.board.shared.key F.all_heard c.give_actors-actors.result.items c.close_table-log.result F.parts _ refl
    refl refl refl listed loss c.requires.fixed in
    record {
      actors = actors_of g.L.Sectors.seen g.L.Sectors.gives g.D.Sectors.seen g.D.Sectors.gives
          c.args.self.board.shared.key (own_of c.args.self) (heard_by c.args.seats.items) c.args.players.items
          c.close_table-log.result c.give_actors-actors.result.items F;
      rest = F.rest;
      leaves = λ work starts works same heard. leaves_players g.L.Sectors.seen g.L.Sectors.gives g.D.Sectors.seen
          g.D.Sectors.gives c.args.self.board.shared.key (own_of c.args.self) F.all_heard c.args.seats.items
          c.args.players.items c.requires.seats.count F.heard_is F.work F.works c.give_actors-actors.result.items F.are
          c.close_table-log.result F.parts _ refl refl refl refl listed loss
          c.requires.fixed g.R.Receiver.stands_for work starts works same heard;
      listed = listed;
      owed = is_owed g.L.Sectors.seen g.L.Sectors.gives g.D.Sectors.seen g.D.Sectors.gives c.args.self.board.shared.key
          F.all_heard c.give_actors-actors.result.items c.close_table-log.result F.parts _ refl refl refl refl listed
          loss c.requires.fixed (c.requires.seated.ready.may c.requires.fixed);
      reaches = reaches_all g.L.Sectors.seen g.L.Sectors.gives g.D.Sectors.seen g.D.Sectors.gives (λ r l. Unit {0})
          c.args.self.board.shared.key.opened.value c.args.self.board.shared.key.script.value
          c.args.self.board.shared.key.plan
          c.give_actors-actors.result.items c.give_actors-actors.result.items _ own;
      cause = code_has_cause g.L.Sectors.seen g.L.Sectors.gives g.D.Sectors.seen g.D.Sectors.gives (λ r l. Unit {0})
          c.args.self.board.shared.key.opened.value c.args.self.board.shared.key.script.value
          c.args.self.board.shared.key.plan
          c.give_actors-actors.result.items c.give_actors-actors.result.items _ own;
      loses = refl;
    }
