-- The place passes, or a copy counts.
use Rattle.std.proofs.Common.{◌∙◌, MatchOption, ap, arith, length, subst, sym}
use Rattle.model_base.proofs.ShapeLimits.{whole_sectors}
use Rattle.model_page.specs.{HasNoCopy, IsBestCopy, slot_bytes, user_part}
use Rattle.redo_recover.proofs.Keeping.{lost-off, slice-is, slot-found, slot-off, slot-size, user-size}
use Rattle.redo_recover.proofs.kept.kept_in.Goals as goal

pub place_lsn-requires : goal.place_lsn-requires
place_lsn-requires c = omega (arith, (whole_sectors c.args.shape.now c.requires.limits).least, c.requires.place)

pub user_part-requires : goal.user_part-requires
user_part-requires c = omega (arith, (whole_sectors c.args.shape.now c.requires.limits).least, c.requires.place)

pub user_part-requires-2 : goal.user_part-requires-2
user_part-requires-2 c =
    let shape = c.args.shape.now in
    let slot = c.in-Some-best_copy.slot in
    omega (
      arith,
      (whole_sectors shape c.requires.limits).least,
      ap length (slice-is shape c.args.slots.now slot),
      slot-size shape c.args.slots.now slot c.requires.slots c.in-Some-best_copy.ensures.below,
    )

pub returns-in-Some-clause-long : goal.returns-in-Some-clause-long
returns-in-Some-clause-long c = rw (c.user_part.ensures) (user-size c.args.shape.now c.args.place.now c.requires.place)

pub returns-in_default-best_copy-clause-kept : goal.returns-in_default-best_copy-clause-kept
returns-in_default-best_copy-clause-kept c image slots place =
    lost-off c.args.shape.now c.args.slots.now c.args.place.now image c.args.page slots place (sym c.place_lsn.ensures ∙ c.in_default.is)
    (subst (λ o. MatchOption o (HasNoCopy c.args.shape.now c.args.slots.now c.args.page) (λ best. IsBestCopy c.args.shape.now c.args.slots.now c.args.page best.0 best.1)) c.in_default-best_copy.is c.best_copy.ensures)

pub returns-clause-kept : goal.returns-clause-kept
returns-clause-kept c image slots place =
    let slot = c.in-Some-best_copy.slot in
    slot-off c.args.shape.now c.args.slots.now c.args.place.now image c.user_part-2.result.now c.args.page slot c.in-Some-best_copy.lsn slots place
    (sym c.place_lsn.ensures ∙ c.in_default.is) c.in-Some-best_copy.ensures
    (c.user_part-2.ensures ∙ ap user_part (slice-is c.args.shape.now c.args.slots.now slot))

pub returns-clause-found : goal.returns-clause-found
returns-clause-found c image slots place =
    slot-found c.args.shape.now c.args.slots.now c.args.place.now image c.args.page c.in-Some-best_copy.slot c.in-Some-best_copy.lsn slots place
    (sym c.place_lsn.ensures ∙ c.in_default.is) c.in-Some-best_copy.ensures

pub returns-clause-long : goal.returns-clause-long
returns-clause-long c =
    let shape = c.args.shape.now in
    let slot = c.in-Some-best_copy.slot in
    ap length (c.user_part-2.ensures ∙ ap user_part (slice-is shape c.args.slots.now slot))
    ∙ user-size shape (slot_bytes shape slot c.args.slots.now) (slot-size shape c.args.slots.now slot c.requires.slots c.in-Some-best_copy.ensures.below)
