use Rattle.std.proofs.Common.{sym, ◌∙◌}
use Rattle.redo_ownrule.proofs.OwnDevice.{lends_work}
use Rattle.redo_ownrule.proofs.OwnPlaying.{ask_is, ask_seat, goes_in}
use Rattle.redo_ownrule.proofs.own.ask_own.Goals as goal

pub slot_mut-requires : goal.slot_mut-requires
slot_mut-requires g c = lends_work c.requires.mine (sym c.has_work.ensures ∙ c.if-has_work.true)

pub next_at-requires : goal.next_at-requires
next_at-requires g c = goes_in c.requires
    (sym c.has_work.ensures ∙ c.if-has_work.true) c.slot_mut.result.now c.slot_mut.ensures.value

pub returns-then-has_work-clause-seat : goal.returns-then-has_work-clause-seat
returns-then-has_work-clause-seat g c = ask_seat c.requires
    (sym c.has_work.ensures ∙ c.if-has_work.true) c.slot_mut.result.now c.slot_mut.ensures.value

pub returns-then-has_work-clause-asks : goal.returns-then-has_work-clause-asks
returns-then-has_work-clause-asks g c = ask_is c.requires
    (sym c.has_work.ensures ∙ c.if-has_work.true) c.slot_mut.result.now c.slot_mut.ensures.value c.next_at.result
    c.next_at.ensures
