use Rattle.std.proofs.Common.{ap}
use Rattle.block_handles.specs.Store.{locks_in}
use Rattle.vm_blocks.specs.View.{vm_slot}
use Rattle.vm_file.specs.Memory.{medium}
use Rattle.geos_cli.specs.Session.{EndsBytes}
use Rattle.script_commands.proofs.Parts.{only-write, rose-since, kept-since}
use Rattle.geos_cli.proofs.Sessions.{never-fails, passed-on, if-ok, if-fault, hex-ends, if-write, session-due, session-ends, session-ran, session-unflushed, session-stopped}
use Rattle.geos_cli.proofs.session.run_bytes.Goals as goal

pub returns-in_err-image-clause-due : goal.returns-in_err-image-clause-due
returns-in_err-image-clause-due g c = passed-on (EndsBytes c.args.bytes.now) _ _ c.from_residual.ensures.1
    (hex-ends _ c.requires _ c.in_err-image.ensures.bad)

pub returns-in-Ok-clause-ran : goal.returns-in-Ok-clause-ran
returns-in-Ok-clause-ran g c =
    if-ok c.flush.result (session-ran _ _ _ _ _ _ _ c.in_ok-kernel.ensures.honest c.requires c.in_ok-image.ensures.good
    c.in_ok-image.ensures.image c.in_ok-image.ensures.script c.deref.ensures.value c.in_ok-kernel.ensures.tied
    c.in_ok-kernel.ensures.memory c.in_ok-kernel.ensures.failures
    (never-fails medium c.in_ok-kernel.kernel c.run_script.new.kernel c.in_ok-kernel.ensures.steady
    c.in_ok-kernel.ensures.room c.run_script.ensures.steadily c.run_script.ensures.sees c.in_ok-kernel.ensures.failures)
    _ _ _ c.in-Ok.ensures.ran c.flush.ensures.bytes)

pub returns-in-Ok-clause-stopped : goal.returns-in-Ok-clause-stopped
returns-in-Ok-clause-stopped g c =
    if-fault c.flush.result _
    (session-unflushed _ _ _ _ _ _ _ c.in_ok-kernel.ensures.honest c.requires c.in_ok-image.ensures.good
    c.in_ok-image.ensures.image c.in_ok-image.ensures.script c.deref.ensures.value c.in_ok-kernel.ensures.tied
    c.in_ok-kernel.ensures.memory c.in_ok-kernel.ensures.failures
    (never-fails medium c.in_ok-kernel.kernel c.run_script.new.kernel c.in_ok-kernel.ensures.steady
    c.in_ok-kernel.ensures.room c.run_script.ensures.steadily c.run_script.ensures.sees c.in_ok-kernel.ensures.failures)
    _ _ _ c.in-Ok.ensures.ran c.flush.ensures.bytes)

pub returns-clause-stopped : goal.returns-clause-stopped
returns-clause-stopped g c is =
    session-stopped _ _ _ _ _ _ _ c.in_ok-kernel.ensures.honest c.requires c.in_ok-image.ensures.good
    c.in_ok-image.ensures.image c.in_ok-image.ensures.script c.deref.ensures.value c.in_ok-kernel.ensures.tied
    c.in_ok-kernel.ensures.memory c.in_ok-kernel.ensures.failures
    (never-fails medium c.in_ok-kernel.kernel c.run_script.new.kernel c.in_ok-kernel.ensures.steady
    c.in_ok-kernel.ensures.room c.run_script.ensures.steadily c.run_script.ensures.sees c.in_ok-kernel.ensures.failures) _ _
    (c.in-Err.ensures.stopped is)

pub returns-in-Ok-clause-due : goal.returns-in-Ok-clause-due
returns-in-Ok-clause-due g c =
    if-write _ (EndsBytes c.args.bytes.now) c.flush.result c.flush.ensures.failed
    (session-due _ _ _ _ _ _ _ c.in_ok-kernel.ensures.honest c.requires c.in_ok-image.ensures.good c.in_ok-image.ensures.image
    c.in_ok-image.ensures.script c.deref.ensures.value c.in_ok-kernel.ensures.tied c.in_ok-kernel.ensures.memory
    c.in_ok-kernel.ensures.failures (never-fails medium c.in_ok-kernel.kernel c.run_script.new.kernel
    c.in_ok-kernel.ensures.steady c.in_ok-kernel.ensures.room c.run_script.ensures.steadily c.run_script.ensures.sees
    c.in_ok-kernel.ensures.failures) _ _ c.in-Ok.ensures.ran)

pub returns-in-Ok-clause-nothing_written : goal.returns-in-Ok-clause-nothing_written
returns-in-Ok-clause-nothing_written g c = only-write _ _ c.flush.result c.flush.ensures.failed

pub returns-in-Ok-clause-not_asked : goal.returns-in-Ok-clause-not_asked
returns-in-Ok-clause-not_asked g c = only-write _ _ c.flush.result c.flush.ensures.failed

pub returns-in-Ok-clause-writer_failed : goal.returns-in-Ok-clause-writer_failed
returns-in-Ok-clause-writer_failed g c = rose-since _ _ _ c.flush.result c.in-Ok.ensures.writer_kept c.flush.ensures.failed

pub returns-in-Ok-clause-writer_kept : goal.returns-in-Ok-clause-writer_kept
returns-in-Ok-clause-writer_kept g c = kept-since _ _ _ _ c.flush.result c.in-Ok.ensures.writer_kept c.flush.ensures.kept c.flush.ensures.failed

pub run_script-requires : goal.run_script-requires
run_script-requires g c = record { unlocked = λ h p. ap locks_in (c.in_ok-kernel.ensures.store.none (vm_slot h)) }

pub returns-clause-due : goal.returns-clause-due
returns-clause-due g c =
    session-ends _ _ _ _ _ _ c.run_script.new.kernel.core c.in_ok-kernel.ensures.honest c.requires c.in_ok-image.ensures.good
    c.in_ok-image.ensures.image c.in_ok-image.ensures.script c.deref.ensures.value c.in_ok-kernel.ensures.tied
    c.in_ok-kernel.ensures.memory c.in_ok-kernel.ensures.failures
    (never-fails medium c.in_ok-kernel.kernel c.run_script.new.kernel c.in_ok-kernel.ensures.steady
    c.in_ok-kernel.ensures.room c.run_script.ensures.steadily c.run_script.ensures.sees c.in_ok-kernel.ensures.failures)
    c.in_ok-image.ensures.short _ c.in-Err.ensures.due
