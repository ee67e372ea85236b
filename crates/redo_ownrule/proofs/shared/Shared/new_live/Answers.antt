use Rattle.std.proofs.Common.{Some, ap, arith, false, length, refl, subst, sym, ◌∙◌}
use Rattle.std.specs.Prelude.{replicate}
use Rattle.model_base.specs.declared.limits.TheConstants.{BLOCK_SIZE}
use Rattle.redo_drive.specs.LiveActors.{live_actors, live_plan}
use Rattle.redo_ownrule.proofs.LiveOpened.{about_live, about_short, actors_are, opens_so, players_are, unseated}
use Rattle.redo_ownrule.proofs.shared.Shared.new_live.Goals as goal
use Rattle.redo_rule.specs.declared.law.About.{About}
use Rattle.redo_rule.specs.declared.law.Live.{Live}
use Rattle.redo_store.specs.{IsRunnable}
use Rattle.redo_store.specs.declared.opened.Opened.{Opened}
use Rattle.redo_words.specs.{shape_layout}

pub make_board-requires : goal.make_board-requires
make_board-requires g c =
    let live : Live = record { users = c.args.users; quota = c.args.quota } in
    let about : About g.row.L.Denot g.row.D.Denot = record {
      opened = c.of-opened_is.result;
      script = c.of.result;
      live = Some live;
      plan = live_plan c.args.log_only;
      own_writes = false;
    } in
    let start = c.in_ok-parts.field-0 in
    let B = about_live g.L.Sectors.seen g.D.Sectors.seen g.R.Receiver.stands_for about live refl refl c.args.opened
    c.of-opened_is.ensures start c.in_ok-parts.ensures.begins in
    let short = about_short g.L.Sectors.seen g.D.Sectors.seen g.R.Receiver.stands_for about live refl refl
    c.args.opened c.of-opened_is.ensures start c.in_ok-parts.ensures.begins c.requires.short in
    opens_so g.L.Sectors.seen g.L.Sectors.gives g.D.Sectors.seen g.D.Sectors.gives g.R.Receiver.stands_for about live
    refl (c.of.ensures ∙ c.new.ensures.items) refl refl start B short c.in-Ok.field-0 c.in-Ok.ensures
    c.in-Ok-lay_out.ensures.slots.1 (replicate BLOCK_SIZE 0) _ _ c.as_slice.ensures.words
    c.in-Ok-lay_out.ensures.slots.0

pub parts_in-log-requires : goal.parts_in-log-requires
parts_in-log-requires g c = (
  _,
  c.in_ok-parts.field-0.parts.lists,
  c.in_ok-parts.field-0.parts.store,
  c.in-Err-make_board.ensures.err ∙ c.in-Ok-lay_out.ensures.slots.0,
)

pub returns-in-Ok-make_board-clause-new : goal.returns-in-Ok-make_board-clause-new
returns-in-Ok-make_board-clause-new g c =
    let live : Live = record { users = c.args.users; quota = c.args.quota } in
    let about : About g.row.L.Denot g.row.D.Denot = record {
      opened = c.of-opened_is.result;
      script = c.of.result;
      live = Some live;
      plan = live_plan c.args.log_only;
      own_writes = false;
    } in
    let start = c.in_ok-parts.field-0 in
    let B = about_live g.L.Sectors.seen g.D.Sectors.seen g.R.Receiver.stands_for about live refl refl c.args.opened
    c.of-opened_is.ensures start c.in_ok-parts.ensures.begins in
    let short = about_short g.L.Sectors.seen g.D.Sectors.seen g.R.Receiver.stands_for about live refl refl
    c.args.opened c.of-opened_is.ensures start c.in_ok-parts.ensures.begins c.requires.short in
    let made = c.in-Ok-make_board.ensures in
    record {
      opened_is = ap (λ (z : About _ _). z.opened.value) made.key ∙ c.of-opened_is.ensures;
      is_live = ap (λ (z : About _ _). z.live) made.key;
      no_script = ap (λ (z : About _ _). z.script.value) made.key ∙ c.of.ensures ∙ c.new.ensures.items;
      plan_is = ap (λ (z : About _ _). z.plan) made.key;
      own_is = ap (λ (z : About _ _). z.own_writes) made.key;
      layout_is = refl;
      actors_are =
          players_are g.L.Sectors.seen g.L.Sectors.gives g.D.Sectors.seen g.D.Sectors.gives g.R.Receiver.stands_for
          about live refl (c.of.ensures ∙ c.new.ensures.items) refl refl start B short c.in-Ok.field-0
          c.in-Ok.ensures
          ∙ actors_are g.L.Sectors.seen g.L.Sectors.gives g.D.Sectors.seen g.D.Sectors.gives g.R.Receiver.stands_for
          about live refl (c.of.ensures ∙ c.new.ensures.items) refl refl start B short c.in-Ok.field-0
          c.in-Ok.ensures
          ∙ ap (λ (o : Opened _ _). live_actors o.shape live.users o.start (live_plan c.args.log_only))
          c.of-opened_is.ensures;
      unseated = unseated g.L.Sectors.seen g.L.Sectors.gives g.D.Sectors.seen g.D.Sectors.gives g.R.Receiver.stands_for
          about live refl (c.of.ensures ∙ c.new.ensures.items) refl refl start B short c.in-Ok.field-0
          c.in-Ok.ensures
          (record {
            board = c.in-Ok-make_board.board;
            first = c.in-Ok-make_board.first;
            layout = shape_layout c.args.opened.shape;
            seats = Some c.in-Ok-lay_out.seats;
            actors = c.in-Ok.field-0.room;
            entries = start.entries;
          })
          made.key made.ids (made.slots ∙ ap length c.in-Ok-lay_out.ensures.slots.0)
          (made.words ∙ c.as_slice.ensures.count) made.me
          (ap (λ (o : Opened _ _). shape_layout o.shape)
          (sym c.of-opened_is.ensures)) c.in_ok-parts.ensures.begins.no_entries
          refl refl (
            c.in-Ok-lay_out.ensures.room.0,
            (let r = c.in-Ok-lay_out.ensures.room.1 in let n = c.len.ensures in omega arith),
          )
          (subst (λ (o : Opened _ _). IsRunnable o) (sym c.of-opened_is.ensures) c.requires.runnable);
    }

pub returns-in-Err-make_board-clause-err : goal.returns-in-Err-make_board-clause-err
returns-in-Err-make_board-clause-err g c =
    let p = c.in_ok-parts.field-0.parts in
    let both = c.parts_in-log.ensures _ p.lists p.store
    (c.in-Err-make_board.ensures.err ∙ c.in-Ok-lay_out.ensures.slots.0) in
    let B = c.in_ok-parts.ensures.begins in (
      c.into_dev-in-Err-make_board.ensures ∙ ap (λ z. z.dev) (both.0 ∙ B.log),
      c.into_dev-in-Err-make_board-2.ensures ∙ ap (λ z. z.dev) (both.1 ∙ B.data_part),
    )
