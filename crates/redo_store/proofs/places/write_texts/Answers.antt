use Rattle.std.proofs.Common.{◌≡◌, ◌≤◌, ◌+◌, ◌-◌, ◌*◌, ℕ, List, length, take, drop, map, Some, None, Ok, sym, ap, subst, ◌∙◌, get_or, arith}
use Rattle.std.specs.List.{slice_get}
use Rattle.std.proofs.lemmas.List.{take_all}
use Rattle.std.proofs.lemmas.Result.{err_from_is_err_and}
use Rattle.std.proofs.lemmas.Option.{slice_get-get_or}
use Rattle.model_device.specs.{Disk, FailsWrite, written}
use Rattle.model_device.specs.declared.write.Write.{Write}
use Rattle.redo_dblwr.proofs.Ranges.{length-row, place-range}
use Rattle.redo_disk.specs.{MakesCalls, Serve, ToWrite, write_at}
use Rattle.redo_store.specs.Places.{text_writes}
use Rattle.model_parts.specs.{FailsOne, written_all}
use Rattle.redo_disk.proofs.Told.{OnTold-then, on-err, told-as}
use Rattle.model_parts.proofs.Written.{written-one_more}
use Rattle.redo_store.proofs.Asked.{writes-more, writes-cut}
use Rattle.redo_store.proofs.TextWrites.{write-made, length-text_writes}
use Rattle.redo_store.proofs.places.write_texts.Goals as goal

pub returns-in_err-write-clause-err : goal.returns-in_err-write-clause-err
returns-in_err-write-clause-err g c =
    let shape = c.args.shape.now in
    let pairs = c.args.batch.now in
    let i = c.loop-i.i in
    let writes : List Write = text_writes shape pairs c.args.texts.now in
    let write : Write = write_at c.place_at.result (take (i * shape.page_size + shape.page_size - i * shape.page_size) (drop (i * shape.page_size) c.args.texts.now)) in
    let at : slice_get writes i ≡ Some write = write-made shape pairs c.args.texts.now i c.place_at.result (get_or pairs i (0, 0)) (slice_get-get_or pairs i (0, 0) c.loop-i-test.true) c.place_at.ensures in
    on-err c.from_residual.result _
    (OnTold-then (g.D.Sectors.seen c.args.device.now).tells (g.D.Sectors.seen c.loop-i.device).tells (g.D.Sectors.seen c.write.new.self).tells
    (λ (old new : Disk). new ≡ written_all old (take i writes)) (FailsWrite write) (FailsOne writes)
    (λ a b d before fails. record { i = i; write = write; at = at; fails = subst (λ (x : Disk). FailsWrite write x d) before fails })
    c.loop-i.invariant.told c.in_err-write.ensures.step.err)

pub returns-in_err-write-clause-calls : goal.returns-in_err-write-clause-calls
returns-in_err-write-clause-calls g c =
    let shape = c.args.shape.now in
    let pairs = c.args.batch.now in
    let i = c.loop-i.i in
    let writes : List Write = text_writes shape pairs c.args.texts.now in
    let write : Write = write_at c.place_at.result (take (i * shape.page_size + shape.page_size - i * shape.page_size) (drop (i * shape.page_size) c.args.texts.now)) in
    let at : slice_get writes i ≡ Some write = write-made shape pairs c.args.texts.now i c.place_at.result (get_or pairs i (0, 0)) (slice_get-get_or pairs i (0, 0) c.loop-i-test.true) c.place_at.ensures in
    let p = err_from_is_err_and c.from_residual.result c.from_residual.ensures.1 in
    rw (p.1, p.2) (writes-cut g.D.Sectors.gives c.args.device.now c.loop-i.device c.write.new.self writes i write c.in_err-write.field-0.0 at c.loop-i.invariant.calls c.in_err-write.ensures.gives)

pub loop-i-preserved : goal.loop-i-preserved
loop-i-preserved g c =
    let shape = c.args.shape.now in
    let pairs = c.args.batch.now in
    let i = c.loop-i.i in
    let writes : List Write = text_writes shape pairs c.args.texts.now in
    let write : Write = write_at c.place_at.result (take (i * shape.page_size + shape.page_size - i * shape.page_size) (drop (i * shape.page_size) c.args.texts.now)) in
    let at : slice_get writes i ≡ Some write = write-made shape pairs c.args.texts.now i c.place_at.result (get_or pairs i (0, 0)) (slice_get-get_or pairs i (0, 0) c.loop-i-test.true) c.place_at.ensures in
    record {
      size = c.in_ok-write.ensures.step.size ∙ c.loop-i.invariant.size;
      later = omega (arith, c.loop-i.invariant.later, c.in_ok-write.ensures.step.cause.later);
      told = OnTold-then (g.D.Sectors.seen c.args.device.now).tells (g.D.Sectors.seen c.loop-i.device).tells (g.D.Sectors.seen c.write.new.self).tells
          (λ (old new : Disk). new ≡ written_all old (take i writes)) (λ (old new : Disk). new ≡ written old write) (λ (old new : Disk). new ≡ written_all old (take (i + 1) writes))
          (λ a b d before after. after ∙ ap (λ (x : Disk). written x write) before ∙ sym (written-one_more a writes i write at))
          c.loop-i.invariant.told c.in_ok-write.ensures.step.ok;
      calls = writes-more g.D.Sectors.gives c.args.device.now c.loop-i.device c.write.new.self writes i write (Ok c.in_ok-write.field-0) at c.loop-i.invariant.calls c.in_ok-write.ensures.gives;
    }

pub returns-clause-ok : goal.returns-clause-ok
returns-clause-ok g c =
    let writes : List Write = text_writes c.args.shape.now c.args.batch.now c.args.texts.now in
    let all : length writes ≤ c.loop-i.i = omega (arith, length-text_writes c.args.shape.now c.args.batch.now c.args.texts.now, c.loop-i.auto.i-end, c.loop-i-test.false) in
    told-as (g.D.Sectors.seen c.args.device.now).tells (g.D.Sectors.seen c.loop-i.device).tells
    (λ (old new : Disk). new ≡ written_all old (take c.loop-i.i writes)) (λ (old new : Disk). new ≡ written_all old writes)
    (λ a b before. before ∙ ap (written_all a) (take_all c.loop-i.i writes all)) c.loop-i.invariant.told

pub returns-clause-calls : goal.returns-clause-calls
returns-clause-calls g c =
    let writes : List Write = text_writes c.args.shape.now c.args.batch.now c.args.texts.now in
    let all : length writes ≤ c.loop-i.i = omega (arith, length-text_writes c.args.shape.now c.args.batch.now c.args.texts.now, c.loop-i.auto.i-end, c.loop-i-test.false) in
    subst (λ (ws : List Write). MakesCalls g.D.Sectors.gives c.args.device.now c.loop-i.device (Serve (map ToWrite ws) None)) (take_all c.loop-i.i writes all) c.loop-i.invariant.calls

pub write-requires : goal.write-requires
write-requires g c =
    let shape = c.args.shape.now in
    let pairs = c.args.batch.now in
    let i = c.loop-i.i in
    let count : ℕ = length pairs in
    let pair = get_or pairs i (0, 0) in
    place-range shape _ pair.0 c.place_at.result _ c.requires.limits.page_size
    (omega (arith, c.loop-i.invariant.size, c.requires.long))
    (c.requires.pages i pair (slice_get-get_or pairs i (0, 0) c.loop-i-test.true)) c.place_at.ensures
    (length-row i count shape.page_size c.args.texts.now c.loop-i-test.true (omega (arith, c.requires.count)))
