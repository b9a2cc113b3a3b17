use Rattle.std.proofs.Common.{ap, subst, sym}
use Rattle.geos_input.specs.declared.fault.ScriptFault.{ScriptFault}
use Rattle.script_commands.specs.declared.call_fault.CallFault.TheVariants.{Script}
use Rattle.script_commands.specs.Reading.{texts}
use Rattle.geos_cli.specs.Calls.{CallEndsBy}
use Rattle.geos_cli.proofs.CallRuns.{asks, call-ran, call-stopped}
use Rattle.geos_cli.proofs.call.run_call.Goals as goal

pub returns-clause-stopped : goal.returns-clause-stopped
returns-clause-stopped g c =
    let asked = asks _ _ _ _ _ c.in-Some.call c.in_ok-checked.ensures.image c.call_on.ensures c.in-Some.is in
    λ is. call-stopped (g.D.Device.medium.honest c.args.kernel.now.device) _ c.args.image.now c.args.name.now
    (texts c.args.words.now) c.in_ok-checked.checked c.in-Some.call c.args.kernel.now.core c.carry_out_all.new.kernel.core
    _ _ asked c.in-Err.ensures.stopped

pub returns-in-Ok-clause-ran : goal.returns-in-Ok-clause-ran
returns-in-Ok-clause-ran g c =
    let asked = asks _ _ _ _ _ c.in-Some.call c.in_ok-checked.ensures.image c.call_on.ensures c.in-Some.is in
    call-ran (g.D.Device.medium.honest c.args.kernel.now.device) _ c.args.image.now c.args.name.now (texts c.args.words.now)
    c.in_ok-checked.checked c.in-Some.call c.args.kernel.now.core c.carry_out_all.new.kernel.core _ _ asked _ c.in-Ok.ensures.ok

pub returns-clause-due : goal.returns-clause-due
returns-clause-due g c =
    let image = c.args.image.now in
    let name = c.args.name.now in
    let words = texts c.args.words.now in
    let asked = asks _ _ _ _ _ c.in-Some.call c.in_ok-checked.ensures.image c.call_on.ensures c.in-Some.is in
    subst (λ (fault : ScriptFault). CallEndsBy image name words (Script fault)) (sym c.in-Err.ensures.failed.0)
    (c.in_ok-checked.checked, c.in-Some.call, asked)

pub returns-clause-kernel_kept : goal.returns-clause-kernel_kept
returns-clause-kernel_kept g c = λ no. absurd (no (ap Script c.in-Err.ensures.failed.0))

pub returns-clause-nothing_written : goal.returns-clause-nothing_written
returns-clause-nothing_written g c = λ no. absurd (no (ap Script c.in-Err.ensures.failed.0))

pub returns-clause-not_asked : goal.returns-clause-not_asked
returns-clause-not_asked g c = λ no. absurd (no (ap Script c.in-Err.ensures.failed.0))

pub returns-clause-writer_failed : goal.returns-clause-writer_failed
returns-clause-writer_failed g c = λ is. c.in-Err.ensures.failed.1

pub returns-clause-writer_kept : goal.returns-clause-writer_kept
returns-clause-writer_kept g c = λ no. absurd (no (ap Script c.in-Err.ensures.failed.0))
