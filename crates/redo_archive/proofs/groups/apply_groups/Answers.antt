use Rattle.std.proofs.Common.{◌≡◌, ◌≤◌, ◌+◌, ℕ, List, length, ap, subst, ◌∙◌, ⊎_elim, length-drop, arith}
use Rattle.std.proofs.lemmas.Bool.{cases_lt}
use Rattle.std.proofs.lemmas.List.{take_rest}
use Rattle.std.proofs.lemmas.Result.{IfOk-weaker}
use Rattle.model_log.specs.{lsn_of, sn_of}
use Rattle.redo_recover.specs.Groups.{GivesStorable}
use Rattle.redo_recover.proofs.Grouping.{rest-shorter, taken-some}
use Rattle.redo_archive.specs.Grouped.{Aim, AreRead, IsApplied, AreEnding}
use Rattle.redo_archive.proofs.Applied.{applied-step, read-breaks, TakesIn}
use Rattle.redo_archive.proofs.groups.apply_groups.Goals as goal

pub groups-smaller : goal.groups-smaller
groups-smaller c =
    let rest = c.groups.rest.now in
    let got = subst (GivesStorable c.args.shape.now rest) c.in-Value.is c.in_ok-group.ensures in
    rest-shorter rest c.in-Value.taken (taken-some c.args.shape.now c.in-Value.group rest c.in-Value.taken got) got.1

pub groups-preserved : goal.groups-preserved
groups-preserved c =
    let shape = c.args.shape.now in
    let rest = c.groups.rest.now in
    let taken : ℕ = c.in-Value.taken in
    let group = c.in-Value.group in
    let old = c.groups.restored in
    let new = c.take_in.new.restored in
    let back = c.lsn_and_sn.ensures.back in
    let got = subst (GivesStorable shape rest) c.in-Value.is c.in_ok-group.ensures in
    let next : c.lsn_of-at.result ≡ lsn_of (sn_of c.groups.at + taken) =
    c.lsn_of-at.ensures ∙ ap (λ n. lsn_of (n + taken)) c.sn_of.ensures in
    let place : sn_of c.lsn_of-at.result ≡ sn_of c.groups.at + taken =
    ap sn_of next ∙ back (sn_of c.groups.at + taken) in
    let more = take_rest rest taken in
    let some : 1 ≤ taken = taken-some shape group rest taken got in
    let number : new.n ≤ old.n + 1 =
    ⊎_elim (λ past. omega (arith, (c.take_in.ensures.past past).0))
    (λ by. omega (arith, (c.take_in.ensures.by by).0))
    (cases_lt c.args.lsn c.lsn_of-at.result) in
    let takes : TakesIn c.args.lsn group c.lsn_of-at.result old new =
    record { by = c.take_in.ensures.by; past = c.take_in.ensures.past } in
    record {
      goes_on = λ aim whole same_shape same_lsn begun.
          applied-step back aim whole c.groups.at rest old new shape c.args.lsn group taken c.lsn_of-at.result _ got
          next
          more takes same_shape same_lsn (c.groups.invariant.goes_on aim whole same_shape same_lsn begun);
      lsns = omega (arith, place, ap length more, length-drop taken rest, got.1, c.groups.invariant.lsns);
      numbers = omega (arith, number, some, got.1, ap length more, length-drop taken rest, c.groups.invariant.numbers);
      its_pages = c.take_in.ensures.its_pages shape c.groups.invariant.its_pages;
    }

pub returns-in-Bad-clause-read : goal.returns-in-Bad-clause-read
returns-in-Bad-clause-read c =
    let shape = c.args.shape.now in
    let rest = c.groups.rest.now in
    let bad = subst (GivesStorable shape rest) c.in-Bad.is c.in_ok-group.ensures in
    IfOk-weaker c.ending-in-Bad.result (AreEnding c.groups.restored c.groups.at rest _)
    (λ groups. (aim : Aim) (whole : List ℕ) → aim.shape ≡ shape → aim.lsn ≡ c.args.lsn
    → IsApplied aim whole c.args.at c.args.bytes.now c.args.restored → AreRead aim whole groups)
    (λ groups is aim whole same_shape same_lsn begun.
    read-breaks aim whole c.groups.at rest c.groups.restored groups shape is bad same_shape
    (c.groups.invariant.goes_on aim whole same_shape same_lsn begun)) c.ending-in-Bad.ensures
