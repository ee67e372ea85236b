-- The steps, one after the other, on both devices.
use Rattle.std.proofs.Common.{◌≤◌, ◌∙◌, Err, refl, arith}
use Rattle.std.specs.Prelude.{IfSome}
use Rattle.model_base.specs.declared.shape.Shape.{Shape}
use Rattle.model_log.specs.{log_device_length}
use Rattle.model_log.specs.declared.layout.TheConstants.{HEADER_BYTES}
use Rattle.redo_disk.specs.{HasSize}
use Rattle.redo_disk.proofs.Made.{ends_then, none_ends}
use Rattle.redo_open.specs.Blank.{HasBlankPages, HasNewLog, HasNoBlocks, IsHeadless, LostHead, MayBeNewLog}
use Rattle.redo_open.proofs.Causes.{calls-data, calls-log, format-data, format-log}
use Rattle.redo_open.proofs.Formats.{blocks-headless, formatted-both, keeps-headless, keeps-losing, keeps-new, known-step, lost-step}
use Rattle.redo_open.proofs.Inside.{ends_of, puts_of, within-longer}
use Rattle.redo_open.proofs.Puts.{put_nothing, put_weaker, puts_then}
use Rattle.redo_open.proofs.Told.{cause-since}
use Rattle.redo_open.proofs.formatting.format_devices.Goals as goal

-- WHAT A CRASH LEAVES.

pub returns-in-Err-clause-keeps : goal.returns-in-Err-clause-keeps
returns-in-Err-clause-keeps g c =
    keeps-losing c.args.shape.now (g.L.Sectors.seen c.args.log.now).size _ _ _ _ c.requires.log_sized c.in-Err.ensures.loses refl

pub returns-in-Err-clear_blocks-clause-keeps : goal.returns-in-Err-clear_blocks-clause-keeps
returns-in-Err-clear_blocks-clause-keeps g c =
    let size = (g.L.Sectors.seen c.args.log.now).size in
    let lost : IfSome (g.L.Sectors.seen c.clear_heads.new.log).tells (LostHead size) = known-step _ _ (HasSize size) (LostHead size) c.requires.log_sized c.in-Ok.ensures.ok in
    keeps-headless c.args.shape.now _ _ _ _ (lost-step _ _ size _ IsHeadless c.in-Ok.ensures.size lost c.in-Err-clear_blocks.ensures.headless)

pub returns-in-Err-clear_pages-clause-keeps : goal.returns-in-Err-clear_pages-clause-keeps
returns-in-Err-clear_pages-clause-keeps g c =
    let size = (g.L.Sectors.seen c.args.log.now).size in
    let shape = c.args.shape.now in
    let lost : IfSome (g.L.Sectors.seen c.clear_heads.new.log).tells (LostHead size) = known-step _ _ (HasSize size) (LostHead size) c.requires.log_sized c.in-Ok.ensures.ok in
    let none : IfSome (g.L.Sectors.seen c.clear_blocks.new.log).tells (HasNoBlocks shape) =
    lost-step _ _ size _ (HasNoBlocks shape) c.in-Ok.ensures.size lost c.in-Ok-clear_blocks.ensures.ok in
    keeps-headless shape _ _ _ _ (blocks-headless shape _ none)

pub returns-in-Err-put_new_log-clause-keeps : goal.returns-in-Err-put_new_log-clause-keeps
returns-in-Err-put_new_log-clause-keeps g c =
    let size = (g.L.Sectors.seen c.args.log.now).size in
    let shape = c.args.shape.now in
    let lost : IfSome (g.L.Sectors.seen c.clear_heads.new.log).tells (LostHead size) = known-step _ _ (HasSize size) (LostHead size) c.requires.log_sized c.in-Ok.ensures.ok in
    let none : IfSome (g.L.Sectors.seen c.clear_blocks.new.log).tells (HasNoBlocks shape) =
    lost-step _ _ size _ (HasNoBlocks shape) c.in-Ok.ensures.size lost c.in-Ok-clear_blocks.ensures.ok in
    let blank : IfSome (g.D.Sectors.seen c.clear_pages.new.device).tells (HasBlankPages shape) =
    known-step _ _ (HasSize (g.D.Sectors.seen c.args.data_device.now).size) (HasBlankPages shape) c.requires.data_sized c.in-Ok-clear_pages.ensures.ok in
    keeps-new shape _ _ _ _ (known-step _ _ (HasNoBlocks shape) (MayBeNewLog shape) none c.in-Err-put_new_log.ensures.keeps) blank

pub returns-in-Ok-put_new_log-clause-keeps : goal.returns-in-Ok-put_new_log-clause-keeps
returns-in-Ok-put_new_log-clause-keeps g c =
    let size = (g.L.Sectors.seen c.args.log.now).size in
    let shape = c.args.shape.now in
    let lost : IfSome (g.L.Sectors.seen c.clear_heads.new.log).tells (LostHead size) = known-step _ _ (HasSize size) (LostHead size) c.requires.log_sized c.in-Ok.ensures.ok in
    let none : IfSome (g.L.Sectors.seen c.clear_blocks.new.log).tells (HasNoBlocks shape) =
    lost-step _ _ size _ (HasNoBlocks shape) c.in-Ok.ensures.size lost c.in-Ok-clear_blocks.ensures.ok in
    let blank : IfSome (g.D.Sectors.seen c.clear_pages.new.device).tells (HasBlankPages shape) =
    known-step _ _ (HasSize (g.D.Sectors.seen c.args.data_device.now).size) (HasBlankPages shape) c.requires.data_sized c.in-Ok-clear_pages.ensures.ok in
    keeps-new shape _ _ _ _ (known-step _ _ (HasNoBlocks shape) (MayBeNewLog shape) none c.in-Ok-put_new_log.ensures.keeps) blank

pub returns-in-Ok-put_new_log-clause-formatted : goal.returns-in-Ok-put_new_log-clause-formatted
returns-in-Ok-put_new_log-clause-formatted g c =
    let size = (g.L.Sectors.seen c.args.log.now).size in
    let shape = c.args.shape.now in
    let lost : IfSome (g.L.Sectors.seen c.clear_heads.new.log).tells (LostHead size) = known-step _ _ (HasSize size) (LostHead size) c.requires.log_sized c.in-Ok.ensures.ok in
    let none : IfSome (g.L.Sectors.seen c.clear_blocks.new.log).tells (HasNoBlocks shape) =
    lost-step _ _ size _ (HasNoBlocks shape) c.in-Ok.ensures.size lost c.in-Ok-clear_blocks.ensures.ok in
    let blank : IfSome (g.D.Sectors.seen c.clear_pages.new.device).tells (HasBlankPages shape) =
    known-step _ _ (HasSize (g.D.Sectors.seen c.args.data_device.now).size) (HasBlankPages shape) c.requires.data_sized c.in-Ok-clear_pages.ensures.ok in
    formatted-both shape _ _ (known-step _ _ (HasNoBlocks shape) (HasNewLog shape) none c.in-Ok-put_new_log.ensures.ok) blank

-- THE CAUSES.

pub returns-in-Err-clause-cause : goal.returns-in-Err-clause-cause
returns-in-Err-clause-cause g c =
    format-log c.args.shape.now (g.L.Sectors.seen c.args.log.now) (g.D.Sectors.seen c.args.data_device.now)
    (g.L.Sectors.seen c.clear_heads.new.log) (g.D.Sectors.seen c.args.data_device.now) c.in-Err.error c.log_fault.result c.log_fault.ensures c.in-Err.ensures.cause

pub returns-in-Err-clear_blocks-clause-cause : goal.returns-in-Err-clear_blocks-clause-cause
returns-in-Err-clear_blocks-clause-cause g c =
    format-log c.args.shape.now (g.L.Sectors.seen c.args.log.now) (g.D.Sectors.seen c.args.data_device.now)
    (g.L.Sectors.seen c.clear_blocks.new.log) (g.D.Sectors.seen c.args.data_device.now) c.in-Err-clear_blocks.error c.log_fault-in-Err-clear_blocks.result c.log_fault-in-Err-clear_blocks.ensures
    (cause-since _ _ _ (Err c.in-Err-clear_blocks.error) c.in-Ok.ensures.cause.later c.in-Err-clear_blocks.ensures.cause)

pub returns-in-Err-clear_pages-clause-cause : goal.returns-in-Err-clear_pages-clause-cause
returns-in-Err-clear_pages-clause-cause g c =
    format-data c.args.shape.now (g.L.Sectors.seen c.args.log.now) (g.D.Sectors.seen c.args.data_device.now)
    (g.L.Sectors.seen c.clear_blocks.new.log) (g.D.Sectors.seen c.clear_pages.new.device) c.in-Err-clear_pages.error c.data_fault.result c.data_fault.ensures c.in-Err-clear_pages.ensures.cause

pub returns-in-Err-put_new_log-clause-cause : goal.returns-in-Err-put_new_log-clause-cause
returns-in-Err-put_new_log-clause-cause g c =
    format-log c.args.shape.now (g.L.Sectors.seen c.args.log.now) (g.D.Sectors.seen c.args.data_device.now)
    (g.L.Sectors.seen c.put_new_log.new.log) (g.D.Sectors.seen c.clear_pages.new.device) c.in-Err-put_new_log.error c.log_fault-in-Err-put_new_log.result c.log_fault-in-Err-put_new_log.ensures
    (cause-since _ _ _ (Err c.in-Err-put_new_log.error) (omega (arith, c.in-Ok.ensures.cause.later, c.in-Ok-clear_blocks.ensures.cause.later)) c.in-Err-put_new_log.ensures.cause)

-- THE CALLS.

pub returns-in-Err-clause-calls : goal.returns-in-Err-clause-calls
returns-in-Err-clause-calls g c =
    calls-log g.L.Sectors.gives g.D.Sectors.gives c.args.log.now _ c.args.data_device.now _ c.in-Err.error c.log_fault.result c.log_fault.ensures
    (record { log = (ends_of c.in-Err.ensures.calls); data_device = none_ends g.D.Sectors.gives c.args.data_device.now })

pub returns-in-Err-clear_blocks-clause-calls : goal.returns-in-Err-clear_blocks-clause-calls
returns-in-Err-clear_blocks-clause-calls g c =
    calls-log g.L.Sectors.gives g.D.Sectors.gives c.args.log.now _ c.args.data_device.now _ c.in-Err-clear_blocks.error c.log_fault-in-Err-clear_blocks.result c.log_fault-in-Err-clear_blocks.ensures
    (record { log = ends_then (ends_of c.in-Ok.ensures.calls) (ends_of c.in-Err-clear_blocks.ensures.calls); data_device = none_ends g.D.Sectors.gives c.args.data_device.now })

pub returns-in-Err-clear_pages-clause-calls : goal.returns-in-Err-clear_pages-clause-calls
returns-in-Err-clear_pages-clause-calls g c =
    calls-data g.L.Sectors.gives g.D.Sectors.gives c.args.log.now _ c.args.data_device.now _ c.in-Err-clear_pages.error c.data_fault.result c.data_fault.ensures
    (record { log = ends_then (ends_of c.in-Ok.ensures.calls) (ends_of c.in-Ok-clear_blocks.ensures.calls); data_device = (ends_of c.in-Err-clear_pages.ensures.calls) })

pub returns-in-Err-put_new_log-clause-calls : goal.returns-in-Err-put_new_log-clause-calls
returns-in-Err-put_new_log-clause-calls g c =
    calls-log g.L.Sectors.gives g.D.Sectors.gives c.args.log.now _ c.args.data_device.now _ c.in-Err-put_new_log.error c.log_fault-in-Err-put_new_log.result c.log_fault-in-Err-put_new_log.ensures
    (record { log = ends_then (ends_of c.in-Ok.ensures.calls) (ends_then (ends_of c.in-Ok-clear_blocks.ensures.calls) (ends_of c.in-Err-put_new_log.ensures.calls)); data_device = (ends_of c.in-Ok-clear_pages.ensures.calls) })

pub returns-in-Ok-put_new_log-clause-calls : goal.returns-in-Ok-put_new_log-clause-calls
returns-in-Ok-put_new_log-clause-calls g c =
    record { log = ends_then (ends_of c.in-Ok.ensures.calls) (ends_then (ends_of c.in-Ok-clear_blocks.ensures.calls) (ends_of c.in-Ok-put_new_log.ensures.calls)); data_device = (ends_of c.in-Ok-clear_pages.ensures.calls) }

-- THE LENGTHS.

longer : (shape : Shape) → HEADER_BYTES ≤ log_device_length shape
longer shape = omega arith

pub returns-in-Err-clause-called : goal.returns-in-Err-clause-called
returns-in-Err-clause-called g c =
    record {
      log = record { size = c.in-Err.ensures.size; later = c.in-Err.ensures.cause.later };
      data_device = record { size = refl; later = omega arith };
      log_calls = puts_of (put_weaker (within-longer HEADER_BYTES (log_device_length c.args.shape.now) (longer c.args.shape.now)) c.in-Err.ensures.calls);
      data_calls = puts_of (put_nothing g.D.Sectors.gives c.args.data_device.now);
    }

pub returns-in-Err-clear_blocks-clause-called : goal.returns-in-Err-clear_blocks-clause-called
returns-in-Err-clear_blocks-clause-called g c =
    let head = put_weaker (within-longer HEADER_BYTES (log_device_length c.args.shape.now) (longer c.args.shape.now)) c.in-Ok.ensures.calls in
    record {
      log = record { size = c.in-Err-clear_blocks.ensures.size ∙ c.in-Ok.ensures.size; later = omega (arith, c.in-Err-clear_blocks.ensures.cause.later, c.in-Ok.ensures.cause.later) };
      data_device = record { size = refl; later = omega arith };
      log_calls = puts_of (puts_then head c.in-Err-clear_blocks.ensures.calls);
      data_calls = puts_of (put_nothing g.D.Sectors.gives c.args.data_device.now);
    }

pub returns-in-Err-clear_pages-clause-called : goal.returns-in-Err-clear_pages-clause-called
returns-in-Err-clear_pages-clause-called g c =
    let head = put_weaker (within-longer HEADER_BYTES (log_device_length c.args.shape.now) (longer c.args.shape.now)) c.in-Ok.ensures.calls in
    record {
      log = record { size = c.in-Ok-clear_blocks.ensures.size ∙ c.in-Ok.ensures.size; later = omega (arith, c.in-Ok-clear_blocks.ensures.cause.later, c.in-Ok.ensures.cause.later) };
      data_device = record { size = c.in-Err-clear_pages.ensures.size; later = c.in-Err-clear_pages.ensures.cause.later };
      log_calls = puts_of (puts_then head c.in-Ok-clear_blocks.ensures.calls);
      data_calls = puts_of c.in-Err-clear_pages.ensures.calls;
    }

pub returns-in-Err-put_new_log-clause-called : goal.returns-in-Err-put_new_log-clause-called
returns-in-Err-put_new_log-clause-called g c =
    let head = put_weaker (within-longer HEADER_BYTES (log_device_length c.args.shape.now) (longer c.args.shape.now)) c.in-Ok.ensures.calls in
    record {
      log = record { size = c.in-Err-put_new_log.ensures.size ∙ c.in-Ok-clear_blocks.ensures.size ∙ c.in-Ok.ensures.size; later = omega (arith, c.in-Err-put_new_log.ensures.cause.later, c.in-Ok-clear_blocks.ensures.cause.later, c.in-Ok.ensures.cause.later) };
      data_device = record { size = c.in-Ok-clear_pages.ensures.size; later = c.in-Ok-clear_pages.ensures.cause.later };
      log_calls = puts_of (puts_then head (puts_then c.in-Ok-clear_blocks.ensures.calls c.in-Err-put_new_log.ensures.calls));
      data_calls = puts_of c.in-Ok-clear_pages.ensures.calls;
    }

pub returns-in-Ok-put_new_log-clause-called : goal.returns-in-Ok-put_new_log-clause-called
returns-in-Ok-put_new_log-clause-called g c =
    let head = put_weaker (within-longer HEADER_BYTES (log_device_length c.args.shape.now) (longer c.args.shape.now)) c.in-Ok.ensures.calls in
    record {
      log = record { size = c.in-Ok-put_new_log.ensures.size ∙ c.in-Ok-clear_blocks.ensures.size ∙ c.in-Ok.ensures.size; later = omega (arith, c.in-Ok-put_new_log.ensures.cause.later, c.in-Ok-clear_blocks.ensures.cause.later, c.in-Ok.ensures.cause.later) };
      data_device = record { size = c.in-Ok-clear_pages.ensures.size; later = c.in-Ok-clear_pages.ensures.cause.later };
      log_calls = puts_of (puts_then head (puts_then c.in-Ok-clear_blocks.ensures.calls c.in-Ok-put_new_log.ensures.calls));
      data_calls = puts_of c.in-Ok-clear_pages.ensures.calls;
    }
