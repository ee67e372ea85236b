use Rattle.std.proofs.Common.{◌≡◌, ap, refl, sym, Err}
use Rattle.std.proofs.lemmas.Bool.{false≢true}
use Rattle.redo_archive.specs.declared.restored.Restored.{Restored}
use Rattle.redo_archive.specs.declared.restored.RestoreFault.{RestoreFault}
use Rattle.redo_archive.specs.{device_error_of}
use Rattle.redo_lab.proofs.Alone.{IsLeftAlone, all-left}
use Rattle.redo_lab.specs.Call.{guarded}
use Rattle.redo_lab.proofs.Restoring.{restored-ends, restored-well, unrestored-ends}
use Rattle.redo_lab.proofs.restore_command.restore_command.Goals as goal
use Rattle.redo_lab.proofs.restore_command.restore_command.Goals.{in-Ok, in-Err}

pub returns : goal.returns
returns g c = λ source. record {
  ends = λ words.
      let alone : (IsLeftAlone (guarded g.L.Sectors.seen c.args.log c.plain-log.result)
      × IsLeftAlone (guarded g.D.Sectors.seen c.args.store c.plain-store.result)) = (
        record { seen = ap g.L.Sectors.seen c.plain-log.ensures.inner; fuse = c.plain-log.ensures.fuse },
        record { seen = ap g.D.Sectors.seen c.plain-store.ensures.inner; fuse = c.plain-store.ensures.fuse },
      ) in
      elim c.match-restore.branch [
        | in-Ok w ↦ rw (w.outcome-is, w.of_text-outcome.ensures) (restored-ends _ c.args.to refl alone
            w.in-Ok.ensures.reads.unchanged.tells w.text_of.result w.in-Ok.found.n w.in-Ok.found.end w.in-Ok.found.pages
            w.in-Ok.ensures.restored w.text_of.ensures)
        | in-Err w ↦ rw (w.outcome-is, w.unrestored.ensures) (unrestored-ends _ c.args.to refl alone
            w.in-Err.ensures.reads.unchanged.tells c.one_restore.ensures.not_both w.in-Err.fault w.in-Err.ensures.caused
            (λ is. w.in-Err.ensures.reads.failed
            (ap (λ (f : RestoreFault). device_error_of {T = Restored} (Err f)) is)))
      ];
  restores = λ words to is.
      let same : (g.L.Sectors.seen c.plain-log.result.inner ≡ g.L.Sectors.seen c.args.log) × (g.D.Sectors.seen c.plain-store.result.inner ≡ g.D.Sectors.seen c.args.store) =
      (ap g.L.Sectors.seen c.plain-log.ensures.inner, ap g.D.Sectors.seen c.plain-store.ensures.inner) in
      elim c.match-restore.branch [
        | in-Ok w ↦ (w.in-Ok.ensures.reads.unchanged.tells, same)
        | in-Err w ↦ (w.in-Err.ensures.reads.unchanged.tells, same)
      ];
  spares = λ drive is. absurd (cc);
  untouched = λ calls. absurd (false≢true (sym calls));
  well =
      elim c.match-restore.branch [
        | in-Ok w ↦ rw (w.outcome-is, w.of_text-outcome.ensures)
            (restored-well g.A.Sectors.gives c.args.arch _ w.text_of.result w.in-Ok.ensures.reads.calls)
        | in-Err w ↦ rw w.outcome-is tt
      ];
  entered = record { log_device = c.plain-log.ensures.entry; data_device = c.plain-store.ensures.entry };
  taken = all-left source.left;
}

pub text_of-requires : goal.text_of-requires
text_of-requires g c = c.in-Ok.ensures.few
