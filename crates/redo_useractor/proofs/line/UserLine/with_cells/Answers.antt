use Rattle.std.proofs.Common.{List, ap, get_or, subst, sym, ◌∙◌, ◌≡◌}
use Rattle.std.specs.List.{AllByRecursion}
use Rattle.model_base.specs.{user_length}
use Rattle.model_core.proofs.Lanes.{lanes_long}
use Rattle.model_core.specs.{CellWrite, Line, lanes, packed, put_lanes}
use Rattle.redo_apply.specs.{WritesWithin}
use Rattle.redo_useractor.proofs.LinePlaces.{in_run, its_record, line_cells}
use Rattle.redo_useractor.proofs.WholeWords.{all_put, eight_are}
use Rattle.redo_useractor.specs.declared.line.UserLine.TheInside.{Inside}
use Rattle.redo_useractor.proofs.line.UserLine.with_cells.Goals as goal

pub returns-in-Some : goal.returns-in-Some
returns-in-Some c = λ number here.
    let users : c.user_bytes-user_bytes.result ≡ user_length c.self.inside.shape = c.user_bytes-user_bytes.ensures ∙ ap (λ (line : Inside). user_length line.shape) c.self-inside.view_is in
    let line = c.self.inside in
    let n = user_length line.shape in
    let p = c.index-number.result.now in
    let recs = c.as_slice-recs.result.now in
    let its : c.as_slice-recs.result.now ≡ c.self.inside.group = c.as_slice-recs.ensures.value ∙ ap (λ (l : Inside). l.group) c.self-inside.view_is in
    let w = subst (AllByRecursion (WritesWithin n)) (sym its) c.self.invariant.1 in
    let among = c.has.ensures.word c.if-has.true in
    let whole = in_run line _ c.self-inside.view_is p c.args.at.word recs its c.self.invariant.2 (c.has.ensures.page c.if-has.true) among.0 among.1 in
    let rec_is = its_record line _ c.self-inside.view_is recs c.index-recs-self.result c.index-recs-self.is whole.there in
    let bytes = c.in-Some.bytes.now in
    c.packed.ensures
    ∙ ap (packed 0) (all_put n p recs w c.args.at.word bytes (lanes 0 8 c.args.old) c.in-Some.ensures.eight (lanes_long 0 8 c.args.old)
    (eight_are n p recs w line.run.rec c.args.at.word whole c.index-recs-self.result bytes rec_is (rw users at c.in-Some.ensures.bytes)))
    ∙ sym (ap (λ (xs : List CellWrite). packed 0 (put_lanes xs (lanes 0 8 c.args.old)))
    (line_cells line.shape line.group recs line.pages.items c.args.self.now.changes c.args.page p
    (ap (λ (l : Line). l.changes) c.self.view_is) its c.requires.page
    (c.index-number.ensures ∙ ap (λ (l : Inside). get_or l.pages.items c.args.page p) c.self-inside.view_is) (c.self.invariant.0, c.self.invariant.1)
    c.args.at.word c.args.at.count number c.requires.word here))

pub returns : goal.returns
returns c = λ number here.
    let users : c.user_bytes-user_bytes.result ≡ user_length c.self.inside.shape = c.user_bytes-user_bytes.ensures ∙ ap (λ (line : Inside). user_length line.shape) c.self-inside.view_is in
    (rw users at c.with_written.ensures) ∙ sym (ap (λ (xs : List CellWrite). packed 0 (put_lanes xs (lanes 0 8 c.args.old)))
    (line_cells c.self.inside.shape c.self.inside.group c.as_slice-recs.result.now c.self.inside.pages.items c.args.self.now.changes c.args.page c.index-number.result.now
    (ap (λ (line : Line). line.changes) c.self.view_is) (c.as_slice-recs.ensures.value ∙ ap (λ (line : Inside). line.group) c.self-inside.view_is) c.requires.page
    (c.index-number.ensures ∙ ap (λ (line : Inside). get_or line.pages.items c.args.page c.index-number.result.now) c.self-inside.view_is) (c.self.invariant.0, c.self.invariant.1)
    c.args.at.word c.args.at.count number c.requires.word here))
