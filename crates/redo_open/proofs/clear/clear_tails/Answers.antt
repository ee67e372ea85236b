-- In formats 2 and 3 both tail blocks are cleared, and in format 1 there are none.
use Rattle.std.proofs.Common.{◌≡◌, ◌≢◌, ◌⊎◌, ◌∙◌, sym, ⊎_elim, arith}
use Rattle.model_log.specs.declared.head.Format.{Format}
use Rattle.model_log.specs.declared.head.Format.TheVariants.{One, Two, Three}
use Rattle.model_parts.specs.{IsStaleTail}
use Rattle.redo_open.specs.Clear.{IsStale, ring_end}
use Rattle.redo_open.proofs.Puts.{put_nothing, put_weaker}
use Rattle.redo_open.proofs.Zeroing.{erase_as, erase_nothing, within-longer}
use Rattle.redo_open.proofs.clear.clear_tails.Goals as goal

-- formats 2 and 3 are others than the first
two-or_three : (format : Format) → (format ≡ Two) ⊎ (format ≡ Three) → format ≢ One
two-or_three format is same =
    ⊎_elim (λ two. let other : Two ≡ One = sym two ∙ same in absurd cc)
    (λ three. let other : Three ≡ One = sym three ∙ same in absurd cc) is

pub returns-in-One-clause-step : goal.returns-in-One-clause-step
returns-in-One-clause-step g c =
    erase_nothing (IsStaleTail c.args.layout.now c.args.tail) (ring_end c.args.layout.now) (g.L.Sectors.seen c.args.log.now) tt
    (λ k is. absurd (is.format c.in-One.is))

pub returns-in-One-clause-calls : goal.returns-in-One-clause-calls
returns-in-One-clause-calls g c = put_nothing g.L.Sectors.gives c.args.log.now

pub returns-in-Two-clause-step : goal.returns-in-Two-clause-step
returns-in-Two-clause-step g c =
    erase_as (IsStale c.args.tail) (IsStaleTail c.args.layout.now c.args.tail) 3072 (ring_end c.args.layout.now) (g.L.Sectors.seen c.args.log.now) c.clear_both_tails.result
    (g.L.Sectors.seen c.clear_both_tails.new.log) (omega (arith, c.requires.is_layout.after_header, c.requires.is_layout.many_blocks))
    (λ k is. record { format = two-or_three c.args.layout.now.format c.in-Two.is; place = is.place; not_taken = is.not_taken }) (λ k is. record { place = is.place; not_taken = is.not_taken })
    c.clear_both_tails.ensures.step

pub returns-in-Two-clause-calls : goal.returns-in-Two-clause-calls
returns-in-Two-clause-calls g c =
    put_weaker (within-longer 3072 (ring_end c.args.layout.now) (omega (arith, c.requires.is_layout.after_header, c.requires.is_layout.many_blocks))) c.clear_both_tails.ensures.calls
