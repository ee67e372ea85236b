use Rattle.std.proofs.Common.{ap, subst, sym, ℕ, ◌∙◌, ◌≡◌}
use Rattle.model_core.specs.{UserState}
use Rattle.model_script.specs.declared.script.ScriptLine.{ScriptLine}
use Rattle.redo_live.proofs.Answered.{has_committed, has_failed, is_user, may_answer}
use Rattle.redo_live.proofs.Later.{state_is}
use Rattle.redo_live.proofs.user.User.commit.Goals as goal
use Rattle.redo_live.specs.Holding.{line_by}
use Rattle.redo_live.specs.Telling.{HasAnswered, last_end}

pub user_in-requires : goal.user_in-requires
user_in-requires g c =
    let was = c.requires.user in
    let old = c.args.self.now in
    let line : ScriptLine = record { user = c.number.result; mode = c.args.mode; items = c.args.items } in
    let took = c.in-Ok.ensures.ok in
    let played = c.play.ensures _
    (record { plays = took.plays; sits = took.sits; layout = took.layout ∙ was.layout }) in
    (played.state, played.now.plays)

pub outcome-requires : goal.outcome-requires
outcome-requires g c well =
    let was = c.requires.user in
    let old = c.args.self.now in
    let line : ScriptLine = record { user = c.number.result; mode = c.args.mode; items = c.args.items } in
    let took = c.in-Ok.ensures.ok in
    let played = c.play.ensures _
    (record { plays = took.plays; sits = took.sits; layout = took.layout ∙ was.layout }) in
    let same = sym (state_is c.user_in.result.now c.play.new.self.player c.user_in.ensures)
    ∙ state_is played.state c.play.new.self.player played.now.plays in
    subst HasAnswered (sym same)
    (may_answer c.args.store.now old c.take.new.self c.play.new.self line was took played
    (λ failed. well (ap (λ (s : UserState). s.step) same ∙ failed)))

pub returns-in-Ok-outcome-clause-mine : goal.returns-in-Ok-outcome-clause-mine
returns-in-Ok-outcome-clause-mine g c =
    let was = c.requires.user in
    let old = c.args.self.now in
    let line : ScriptLine = record { user = c.number.result; mode = c.args.mode; items = c.args.items } in
    let took = c.in-Ok.ensures.ok in
    let played = c.play.ensures _
    (record { plays = took.plays; sits = took.sits; layout = took.layout ∙ was.layout }) in
    is_user c.args.store.now old c.take.new.self c.play.new.self line was took played

pub returns-in-Ok-outcome-clause-place : goal.returns-in-Ok-outcome-clause-place
returns-in-Ok-outcome-clause-place g c =
    let was = c.requires.user in
    let took = c.in-Ok.ensures.ok in
    let played = c.play.ensures _
    (record { plays = took.plays; sits = took.sits; layout = took.layout ∙ was.layout }) in
    played.seat_number ∙ took.number

pub returns-in-Ok-outcome-clause-ok : goal.returns-in-Ok-outcome-clause-ok
returns-in-Ok-outcome-clause-ok g c =
    let was = c.requires.user in
    let old = c.args.self.now in
    let line : ScriptLine = record { user = c.number.result; mode = c.args.mode; items = c.args.items } in
    let took = c.in-Ok.ensures.ok in
    let played = c.play.ensures _
    (record { plays = took.plays; sits = took.sits; layout = took.layout ∙ was.layout }) in
    let same = sym (state_is c.user_in.result.now c.play.new.self.player c.user_in.ensures)
    ∙ state_is played.state c.play.new.self.player played.now.plays in
    let line_is : line ≡ line_by old c.args.mode c.args.items =
    ap (λ (n : ℕ). let l : ScriptLine = record { user = n; mode = c.args.mode; items = c.args.items } in l)
    (c.number.ensures ∙ ap (λ (s : UserState). s.user)
    (sym (state_is c.user_in-user.result.now old.player c.user_in-user.ensures))) in
    let well = c.in-Ok-outcome.ensures in
    has_committed c.args.store.now old c.take.new.self c.play.new.self line was took played c.args.mode c.args.items
    line_is
    (λ failed. well.0 (ap (λ (s : UserState). s.step) same ∙ failed)) c.in-Ok-outcome.end
    (well.1 ∙ ap last_end same)

pub returns-in-Err-outcome-clause-mine : goal.returns-in-Err-outcome-clause-mine
returns-in-Err-outcome-clause-mine g c =
    let was = c.requires.user in
    let old = c.args.self.now in
    let line : ScriptLine = record { user = c.number.result; mode = c.args.mode; items = c.args.items } in
    let took = c.in-Ok.ensures.ok in
    let played = c.play.ensures _
    (record { plays = took.plays; sits = took.sits; layout = took.layout ∙ was.layout }) in
    is_user c.args.store.now old c.take.new.self c.play.new.self line was took played

pub returns-in-Err-outcome-clause-place : goal.returns-in-Err-outcome-clause-place
returns-in-Err-outcome-clause-place g c =
    let was = c.requires.user in
    let took = c.in-Ok.ensures.ok in
    let played = c.play.ensures _
    (record { plays = took.plays; sits = took.sits; layout = took.layout ∙ was.layout }) in
    played.seat_number ∙ took.number

pub returns-in-Err-outcome-clause-err : goal.returns-in-Err-outcome-clause-err
returns-in-Err-outcome-clause-err g c =
    let was = c.requires.user in
    let old = c.args.self.now in
    let line : ScriptLine = record { user = c.number.result; mode = c.args.mode; items = c.args.items } in
    let took = c.in-Ok.ensures.ok in
    let played = c.play.ensures _
    (record { plays = took.plays; sits = took.sits; layout = took.layout ∙ was.layout }) in
    let same = sym (state_is c.user_in.result.now c.play.new.self.player c.user_in.ensures)
    ∙ state_is played.state c.play.new.self.player played.now.plays in
    let line_is : line ≡ line_by old c.args.mode c.args.items =
    ap (λ (n : ℕ). let l : ScriptLine = record { user = n; mode = c.args.mode; items = c.args.items } in l)
    (c.number.ensures ∙ ap (λ (s : UserState). s.user)
    (sym (state_is c.user_in-user.result.now old.player c.user_in-user.ensures))) in
    let bad = c.in-Err-outcome.ensures in
    has_failed c.args.store.now old c.take.new.self c.play.new.self line was took played c.args.mode c.args.items
    line_is
    (sym (ap (λ (s : UserState). s.step) same) ∙ bad.0) c.in-Err-outcome.code
    (bad.1 ∙ ap (λ (s : UserState). s.code) same)
