use Rattle.std.proofs.Common.{ap, arith, sym, ℕ, ◌%◌, ◌/◌, ◌^◌, ◌∙◌, ◌≡◌}
use Rattle.redo_apply.proofs.Numbers.{quotient-more}
use Rattle.redo_useractor.proofs.RecordBytes.{byte_at-quotient}
use Rattle.redo_useractor.proofs.written.number_byte.Goals as goal

pub loop-preserved : goal.loop-preserved
loop-preserved c = ap (λ (n : ℕ). n / 256) c.loop.invariant ∙ quotient-more c.loop.counter c.args.value

pub returns : goal.returns
returns c =
    let all : c.loop.counter ≡ c.args.place = omega arith in
    ap (λ (n : ℕ). n % 256) (c.loop.invariant ∙ ap (λ (k : ℕ). c.args.value / 256 ^ k) all) ∙ sym (byte_at-quotient c.args.place c.args.value)
