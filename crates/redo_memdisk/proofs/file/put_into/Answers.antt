use Rattle.std.proofs.Common.{ℕ, List, take, drop, rules, subst, sym}
use Rattle.std.specs.Io.KnownBytes.{Appends}
use Rattle.std.proofs.KnownBytes.{Appends-kept, Appends-trans}
use Rattle.std.proofs.lemmas.List.{take_rest}
use lib.Seq.{take-add}
use Rattle.redo_memdisk.proofs.file.put_into.Goals.{in-Ok, in-Err}
use Rattle.redo_memdisk.proofs.file.put_into.Goals as goal

pub loop-preserved : goal.loop-preserved
loop-preserved g c =
    let bytes = c.args.bytes.now in
    let taken = c.loop.taken in
    let told = g.F.Write.contents in
    let Has : List ℕ → Type 0 = Appends (told c.args.file.now) (told c.write.new.self) in
    let before = c.loop.invariant.1 in
    let put = λ (rest : List ℕ) (n : ℕ). Appends (told c.loop.file) (told c.write.new.self) (take n rest) in
    elim c.match-write.branch [
      | in-Ok w ↦ (
        search rules,
        subst (λ (n : ℕ). Has (take n bytes)) (sym w.taken-is) (subst Has (sym (take-add taken w.in-Ok.count bytes))
            (Appends-trans (told c.args.file.now) (told c.loop.file) (told c.write.new.self) (take taken bytes)
            (take w.in-Ok.count (drop taken bytes)) before
            (subst (λ (rest : List ℕ). put rest w.in-Ok.count) (take_rest bytes taken) w.in-Ok.ensures.bytes))),
      )
      | in-Err w ↦ (
        search rules,
        subst (λ (n : ℕ). Has (take n bytes)) (sym w.taken-is)
            (Appends-kept (told c.args.file.now) (told c.loop.file) (told c.write.new.self) (take taken bytes) before
            w.in-Err.ensures.bytes),
      )
    ]
