use Rattle.std.proofs.Common.{◌<◌, ◌+◌, drop, length, length-drop, ap, arith, subst, sym, ◌∙◌}
use Rattle.std.proofs.lemmas.List.{drop-drop, take_rest}
use Rattle.model_log.specs.{lsn_of}
use Rattle.model_base.specs.declared.got.Got.TheVariants.{Value}
use Rattle.redo_recover.specs.Groups.{GivesStorable}
use Rattle.redo_recover.specs.Runs.{AreGroupsSoFar}
use Rattle.redo_recover.proofs.Grouping.{AreGroupsSoFar-none, AreGroupsSoFar-push, taken-some}
use Rattle.redo_recover.proofs.run.read_run.Goals as goal

pub loop-to-init : goal.loop-to-init
loop-to-init c = (
  c.requires.within,
  subst (λ ws. AreGroupsSoFar c.args.shape.now (drop c.args.from c.args.bytes.now) c.args.start ws c.args.start (drop c.args.from c.args.bytes.now))
      (sym c.new-wholes.ensures.items) (AreGroupsSoFar-none c.args.shape.now (drop c.args.from c.args.bytes.now) c.args.start),
)

pub loop-to-smaller : goal.loop-to-smaller
loop-to-smaller c =
    let bytes = c.args.bytes.now in
    let to = c.loop-to.to in
    let got : GivesStorable c.args.shape.now (drop to bytes) (Value c.in-Value.group c.in-Value.taken) =
    rw (take_rest bytes to, c.in-Value.is) at c.in_ok-group.ensures in
    let some = taken-some c.args.shape.now c.in-Value.group (drop to bytes) c.in-Value.taken got in
    let less : length (drop (to + c.in-Value.taken) bytes) < length (drop to bytes) =
    omega (arith, some, got.1, length-drop to bytes, length-drop (to + c.in-Value.taken) bytes, c.loop-to.invariant.0) in less

pub loop-to-preserved : goal.loop-to-preserved
loop-to-preserved c =
    let bytes = c.args.bytes.now in
    let to = c.loop-to.to in
    let got : GivesStorable c.args.shape.now (drop to bytes) (Value c.in-Value.group c.in-Value.taken) =
    rw (take_rest bytes to, c.in-Value.is) at c.in_ok-group.ensures in (
      omega (arith, got.1, length-drop to bytes, c.loop-to.invariant.0),
      AreGroupsSoFar-push c.lsn_and_sn.ensures.back c.args.shape.now (drop c.args.from bytes) c.args.start c.loop-to.wholes.items c.loop-to.end (drop to bytes)
          c.in-Value.group c.in-Value.taken c.loop-to.invariant.1 got _ _ _ c.in_ok-push.ensures.items
          (c.lsn_of-next.ensures ∙ ap (λ n. lsn_of (n + c.in-Value.taken)) c.sn_of.ensures) (sym (drop-drop c.in-Value.taken to bytes)),
    )
