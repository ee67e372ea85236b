use Rattle.std.proofs.Common.{refl}
use Rattle.redo_lab.proofs.Alone.{alone-behind, gen-ends}
use Rattle.redo_lab.proofs.gen_command.print_script.Goals as goal

pub returns : goal.returns
returns g c = λ max. record {
  ends = λ handed unread. rw c.of_text.ensures (gen-ends _ c.args.seed c.args.users c.args.groups max _ (
    alone-behind g.L.Sectors.seen c.args.log c.plain.result c.plain.result c.plain.ensures.inner c.plain.ensures.fuse refl,
    alone-behind g.D.Sectors.seen c.args.store c.plain-2.result c.plain-2.result c.plain-2.ensures.inner c.plain-2.ensures.fuse refl,
  )
      unread c.generate.ensures);
  entered = record { log_device = c.plain.ensures.entry; data_device = c.plain-2.ensures.entry };
}
