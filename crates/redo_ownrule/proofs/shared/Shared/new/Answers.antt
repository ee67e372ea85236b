use Rattle.std.proofs.Common.{List, None, Option, Some, ap, arith, length, refl, subst, sym, ◌∙◌}
use Rattle.std.specs.Prelude.{replicate}
use Rattle.model_base.specs.declared.limits.TheConstants.{BLOCK_SIZE}
use Rattle.model_own.specs.{LogWork}
use Rattle.redo_drive.specs.Begins.{EndsWithReaders}
use Rattle.redo_drive.specs.declared.actor.Actor.{Actor}
use Rattle.redo_ownmachine.proofs.Begins.{have_workers}
use Rattle.redo_ownrule.proofs.Opened.{opens_players, starts_are, unseated}
use Rattle.redo_ownrule.proofs.Standing.{work_back}
use Rattle.redo_ownrule.proofs.shared.Shared.new.Goals as goal
use Rattle.redo_rule.proofs.Told.{about_begins, about_may}
use Rattle.redo_rule.specs.Ruled.{starts_about}
use Rattle.redo_rule.specs.Sharing.{laid}
use Rattle.redo_rule.specs.declared.law.About.{About}
use Rattle.redo_store.specs.declared.opened.Opened.{Opened}
use Rattle.redo_words.specs.{shape_layout}

pub take_staff-requires : goal.take_staff-requires
take_staff-requires g c = have_workers g.L.Sectors.seen g.D.Sectors.seen g.R.Receiver.stands_for c.args.opened
    c.args.script.now c.args.plan c.args.followers.items c.in_ok-parts.field-0 c.in_ok-parts.ensures.begins

pub make_board-requires : goal.make_board-requires
make_board-requires g c =
    let about : About g.row.L.Denot g.row.D.Denot = record {
      opened = c.of-opened_is.result;
      script = c.of.result;
      live = None;
      plan = c.args.plan;
      own_writes = c.args.own_writes;
    } in
    let start = c.in_ok-parts.field-0 in
    let B = about_begins g.L.Sectors.seen g.D.Sectors.seen g.R.Receiver.stands_for about c.args.followers.items
    c.args.opened c.args.script.now c.args.plan c.of-opened_is.ensures c.of.ensures refl start
    c.in_ok-parts.ensures.begins in
    let may = about_may g.L.Sectors.seen g.D.Sectors.seen g.R.Receiver.stands_for about c.args.followers.items
    c.args.opened c.args.script.now c.args.plan c.of-opened_is.ensures c.of.ensures refl c.requires.may in
    opens_players g.L.Sectors.seen g.D.Sectors.seen g.R.Receiver.stands_for about refl c.args.followers.items
    start B may c.in-Ok.field-0 c.in-Ok.ensures g.L.Sectors.gives
    g.D.Sectors.gives c.in-Ok-lay_out.ensures.slots.1 (replicate BLOCK_SIZE 0) _ _ c.as_slice.ensures.words
    (c.in-Ok-lay_out.ensures.slots.0
    ∙ ap (λ (k : Option LogWork). laid (record { part = start.parts.log; block = replicate BLOCK_SIZE 0; work = k })
    start.parts.lists start.parts.store) (sym (work_back c.in-Ok.field-0.work c.in-Ok.field-0.players.items)))

pub parts_in-log-requires : goal.parts_in-log-requires
parts_in-log-requires g c = (
  _,
  c.in_ok-parts.field-0.parts.lists,
  c.in_ok-parts.field-0.parts.store,
  c.in-Err-make_board.ensures.err ∙ c.in-Ok-lay_out.ensures.slots.0,
)

pub returns-in-Ok-make_board-clause-new : goal.returns-in-Ok-make_board-clause-new
returns-in-Ok-make_board-clause-new g c =
    let about : About g.row.L.Denot g.row.D.Denot = record {
      opened = c.of-opened_is.result;
      script = c.of.result;
      live = None;
      plan = c.args.plan;
      own_writes = c.args.own_writes;
    } in
    let start = c.in_ok-parts.field-0 in
    let B = about_begins g.L.Sectors.seen g.D.Sectors.seen g.R.Receiver.stands_for about c.args.followers.items
    c.args.opened c.args.script.now c.args.plan c.of-opened_is.ensures c.of.ensures refl start
    c.in_ok-parts.ensures.begins in
    let may = about_may g.L.Sectors.seen g.D.Sectors.seen g.R.Receiver.stands_for about c.args.followers.items
    c.args.opened c.args.script.now c.args.plan c.of-opened_is.ensures c.of.ensures refl c.requires.may in
    let made = c.in-Ok-make_board.ensures in
    record {
      opened_is = ap (λ (z : About _ _). z.opened.value) made.key ∙ c.of-opened_is.ensures;
      script_is = ap (λ (z : About _ _). z.script.value) made.key ∙ c.of.ensures;
      plan_is = ap (λ (z : About _ _). z.plan) made.key;
      own_is = ap (λ (z : About _ _). z.own_writes) made.key;
      followers_are = ap (λ (z : About _ _). z.plan.followers) made.key ∙ c.requires.new.many;
      fixed = ap (λ (z : About _ _). z.live) made.key;
      work = c.in-Ok.field-0.work;
      works = c.in-Ok.ensures.works;
      actors_are = ap (λ (z : About _ _). starts_about z) made.key
          ∙ starts_are g.L.Sectors.seen g.D.Sectors.seen g.R.Receiver.stands_for about refl c.args.followers.items
          start B may c.in-Ok.field-0 c.in-Ok.ensures;
      readers = subst (λ (l : List (Actor g.row.R.Denot)). EndsWithReaders c.args.opened.start c.args.plan.archive l
          c.args.followers.items)
          (sym c.in-Ok.ensures.are) c.in_ok-parts.ensures.begins.followers;
      unseated = unseated g.L.Sectors.seen g.D.Sectors.seen g.R.Receiver.stands_for about refl c.args.followers.items
          start B may c.in-Ok.field-0 c.in-Ok.ensures
          (record {
            board = c.in-Ok-make_board.board;
            first = c.in-Ok-make_board.first;
            layout = shape_layout c.args.opened.shape;
            seats = Some c.in-Ok-lay_out.seats;
            actors = c.in-Ok.field-0.room;
            entries = start.entries;
          })
          made.key made.ids (made.slots ∙ ap length c.in-Ok-lay_out.ensures.slots.0)
          (made.words ∙ c.as_slice.ensures.count) made.me
          (ap (λ (o : Opened _ _). shape_layout o.shape) (sym c.of-opened_is.ensures)) c.in_ok-parts.ensures.begins.no_entries
          (let s = ap length c.of.ensures in let r = c.in_ok-parts.ensures.begins.room in omega arith)
          refl refl (
            c.in-Ok-lay_out.ensures.room.0,
            (let r = c.in-Ok-lay_out.ensures.room.1 in let n = c.len.ensures in omega arith),
          );
    }

pub returns-in-Err-make_board-clause-err : goal.returns-in-Err-make_board-clause-err
returns-in-Err-make_board-clause-err g c =
    let p = c.in_ok-parts.field-0.parts in
    let both = c.parts_in-log.ensures _ p.lists p.store
    (c.in-Err-make_board.ensures.err ∙ c.in-Ok-lay_out.ensures.slots.0) in
    let B = c.in_ok-parts.ensures.begins in (
      c.into_dev-in-Err-make_board.ensures ∙ ap (λ z. z.dev) (both.0 ∙ B.log),
      c.into_dev-in-Err-make_board-2.ensures ∙ ap (λ z. z.dev) (both.1 ∙ B.data_part),
    )
