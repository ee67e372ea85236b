use Rattle.std.proofs.Common.{rules, subst}
use Rattle.redo_lab.proofs.Sizes.{asked_within}
use Rattle.redo_lab.proofs.Unarchived.{left-done}
use Rattle.redo_lab.proofs.commands.done.Goals as goal
use Rattle.redo_lab.specs.Allowed.{HasAllowedNumbers}

pub returns-in-Format : goal.returns-in-Format
returns-in-Format g c = left-done g.A.Sectors.seen g.A.Sectors.gives (g.S.Source.seen c.args.src.now) c.args.arch
    c.args.command c.format_devices.result (λ to is. let was = c.in-Format.is in cc)
    (rw c.in-Format.is c.format_devices.ensures)

pub returns-in-Run : goal.returns-in-Run
returns-in-Run g c = rw c.in-Run.is c.source_command.ensures

pub returns-in-Crash : goal.returns-in-Crash
returns-in-Crash g c = rw c.in-Crash.is c.source_command-in-Crash.ensures

pub returns-in-Recover : goal.returns-in-Recover
returns-in-Recover g c = left-done g.A.Sectors.seen g.A.Sectors.gives (g.S.Source.seen c.args.src.now) c.args.arch
    c.args.command c.print_pages.result (λ to is. let was = c.in-Recover.is in cc)
    (rw c.in-Recover.is c.print_pages.ensures)

pub returns-in-Dump : goal.returns-in-Dump
returns-in-Dump g c = left-done g.A.Sectors.seen g.A.Sectors.gives (g.S.Source.seen c.args.src.now) c.args.arch
    c.args.command c.print_store.result (λ to is. let was = c.in-Dump.is in cc) (rw c.in-Dump.is c.print_store.ensures)

pub returns-in-Restore : goal.returns-in-Restore
returns-in-Restore g c = rw c.in-Restore.is (c.restore_command.ensures (g.S.Source.seen c.args.src.now))

pub returns-in-Gen : goal.returns-in-Gen
returns-in-Gen g c = left-done g.A.Sectors.seen g.A.Sectors.gives (g.S.Source.seen c.args.src.now) c.args.arch
    c.args.command c.gen_command-done.result (λ to is. let was = c.in-Gen.is in cc)
    (rw c.in-Gen.is c.gen_command-done.ensures)

pub format_devices-requires : goal.format_devices-requires
format_devices-requires g c =
    let asked = subst HasAllowedNumbers c.in-Format.is c.requires.within in
    asked_within c.in-Format.page_size c.in-Format.pages c.in-Format.space c.in-Format.log_blocks
    asked.0 asked.1 asked.2 (search rules) asked.3 asked.4
