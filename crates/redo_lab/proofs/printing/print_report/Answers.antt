use Rattle.redo_lab.proofs.Printed.{put-behind, put-part}
use Rattle.redo_lab.proofs.printing.print_report.Goals as goal

pub returns-in-Ok : goal.returns-in-Ok
returns-in-Ok g c = (
  c.print_fault.ensures.printed.0,
  put-behind (g.O.Sink.seen c.args.out.now) (g.O.Sink.seen c.put_all.new.sink) (g.O.Sink.seen c.print_fault.new.out) c.args.text.now _
      c.in-Ok.ensures.ok c.in-Ok.ensures.later c.print_fault.ensures.later c.print_fault.ensures.printed.1,
)

pub returns-in-Err : goal.returns-in-Err
returns-in-Err g c = (c.status_of.ensures, put-part (g.O.Sink.seen c.args.out.now) (g.O.Sink.seen c.put_all.new.sink) c.args.text.now _ c.in-Err.ensures.cause c.in-Err.ensures.err)
