use Rattle.std.proofs.Common.{◌≡◌, ◌-◌, min, length, take, drop, ap, ◌∙◌, arith}
use Rattle.std.proofs.lemmas.List.{take_min, drop_min, take_rest}
use Rattle.model_base.specs.declared.limits.TheConstants.{BLOCK_SIZE}
use Rattle.redo_memdisk.proofs.image.sector_at.Goals as goal

pub returns : goal.returns
returns c =
    let bytes = c.args.bytes.now in
    let rest : take (length bytes - c.min.result) (drop c.min.result bytes) ≡ drop c.args.at bytes =
    take_rest bytes c.min.result ∙ ap (λ n. drop n bytes) c.min.ensures ∙ drop_min c.args.at bytes in
    let count : c.min-2.result ≡ min BLOCK_SIZE (length (drop c.args.at bytes)) = omega (arith, ap length rest) in
    rw rest (ap (λ n. take n (drop c.args.at bytes)) count ∙ take_min BLOCK_SIZE (drop c.args.at bytes))
