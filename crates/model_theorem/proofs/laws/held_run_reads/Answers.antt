use Rattle.std.proofs.Common.{subst, Some}
use Rattle.model_theorem.specs.Run.{IsPrefixRead, ReadsPrefix}
use Rattle.model_theorem.proofs.Closing.{reads-prefix}
use Rattle.model_theorem.proofs.laws.held_run_reads.Goals as goal

pub returns-clause-read : goal.returns-clause-read
returns-clause-read c = reads-prefix c.crash_reads.ensures

pub returns-clause-each : goal.returns-clause-each
returns-clause-each c held log data_bytes is log_fair fair reading reads =
    let read : ReadsPrefix held.script held.opened (Some held.run) log data_bytes =
    reads-prefix c.crash_reads.ensures held log data_bytes is log_fair fair in
    let same = c.one_reading.ensures log data_bytes read.reading reading read.is_read reads in
    subst (IsPrefixRead held.script held.opened (Some held.run)) same read.prefix

pub returns-clause-not_refused : goal.returns-clause-not_refused
returns-clause-not_refused c held log data_bytes is log_fair fair refusal refuses =
    let read : ReadsPrefix held.script held.opened (Some held.run) log data_bytes =
    reads-prefix c.crash_reads.ensures held log data_bytes is log_fair fair in
    c.one_answer.ensures.read log data_bytes read.reading refusal read.is_read refuses
