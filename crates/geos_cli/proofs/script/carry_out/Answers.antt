use Rattle.std.proofs.Common.{subst}
use Rattle.std.specs.Io.KnownBytes.{Appends}
use Rattle.std.proofs.KnownBytes.{Appends-nil}
use Rattle.geos_input.specs.Counted.{AppendsPart}
use Rattle.script_commands.specs.Outputs.{printed}
use Rattle.geos_cli.proofs.CommandsRun.{call-ran, call-stopped, not-lent, not-lent-stopped, commit-ran, commit-stopped}
use Rattle.script_commands.proofs.Parts.{IfErr-any}
use Rattle.geos_cli.proofs.script.carry_out.Goals as goal

pub returns-in_ok-print-in-Ok-clause-ok : goal.returns-in_ok-print-in-Ok-clause-ok
returns-in_ok-print-in-Ok-clause-ok g c =
    rw c.in-Call.is
    (call-ran (g.D.Device.medium.honest c.args.kernel.now.device) _ c.args.checked.now c.args.kernel.now.core
    c.run_lent.new.kernel.core _ _ c.in-Call.call c.in-Ok.outcome.now c.in-Ok.ensures.ran
    (subst (λ ws. Appends (g.W.Write.contents c.args.out.now.stream) (g.W.Write.contents c.print.new.out.stream) (printed ws))
    c.as_slice.ensures.value c.in_ok-print-in-Ok.ensures.ok))

pub returns-in_err-print-in-Ok-clause-stopped : goal.returns-in_err-print-in-Ok-clause-stopped
returns-in_err-print-in-Ok-clause-stopped g c =
    rw c.in-Call.is
    (IfErr-any _ (call-stopped
    (g.D.Device.medium.honest c.args.kernel.now.device) _ c.args.checked.now c.args.kernel.now.core c.run_lent.new.kernel.core
    _ _ c.in-Call.call c.in-Ok.outcome.now c.in-Ok.ensures.ran
    (subst (λ ws. AppendsPart (g.W.Write.contents c.args.out.now.stream) (g.W.Write.contents c.print.new.out.stream) (printed ws))
    c.as_slice.ensures.value c.in_err-print-in-Ok.ensures.part)))

pub returns-in_ok-print_refusal-in-Err-clause-ok : goal.returns-in_ok-print_refusal-in-Err-clause-ok
returns-in_ok-print_refusal-in-Err-clause-ok g c =
    rw c.in-Call.is
    (not-lent (g.D.Device.medium.honest c.args.kernel.now.device) _ c.args.checked.now c.args.kernel.now.core
    c.run_lent.new.kernel.core _ _ c.in-Call.call c.in-Err.refusal c.in-Err.ensures.refused c.in_ok-print_refusal-in-Err.ensures.ok)

pub returns-in_err-print_refusal-in-Err-clause-stopped : goal.returns-in_err-print_refusal-in-Err-clause-stopped
returns-in_err-print_refusal-in-Err-clause-stopped g c =
    rw c.in-Call.is
    (IfErr-any _ (not-lent-stopped
    (g.D.Device.medium.honest c.args.kernel.now.device) _ c.args.checked.now c.args.kernel.now.core c.run_lent.new.kernel.core
    _ _ c.in-Call.call c.in-Err.refusal c.in-Err.ensures.refused c.in_err-print_refusal-in-Err.ensures.part))

pub returns-in-Ok-commit_kernel-clause-ok : goal.returns-in-Ok-commit_kernel-clause-ok
returns-in-Ok-commit_kernel-clause-ok g c =
    rw c.in-Commit.is
    (commit-ran (g.D.Device.medium.honest c.args.kernel.now.device) _ c.args.checked.now c.args.kernel.now.core
    c.commit_kernel.new.kernel.core _ _ c.in-Ok-commit_kernel.ensures.stops c.in-Commit.how _ c.in-Ok-commit_kernel.ensures.calls (Appends-nil _))

pub returns-in_ok-print_refusal-in-Err-commit_kernel-clause-ok : goal.returns-in_ok-print_refusal-in-Err-commit_kernel-clause-ok
returns-in_ok-print_refusal-in-Err-commit_kernel-clause-ok g c =
    rw c.in-Commit.is
    (commit-ran (g.D.Device.medium.honest c.args.kernel.now.device) _ c.args.checked.now c.args.kernel.now.core
    c.commit_kernel.new.kernel.core _ _ c.in-Err-commit_kernel.ensures.stops c.in-Commit.how _ c.in-Err-commit_kernel.ensures.calls
    c.in_ok-print_refusal-in-Err-commit_kernel.ensures.ok)

pub returns-in_err-print_refusal-in-Err-commit_kernel-clause-stopped : goal.returns-in_err-print_refusal-in-Err-commit_kernel-clause-stopped
returns-in_err-print_refusal-in-Err-commit_kernel-clause-stopped g c =
    rw c.in-Commit.is
    (IfErr-any _ (commit-stopped
    (g.D.Device.medium.honest c.args.kernel.now.device) _ c.args.checked.now c.args.kernel.now.core
    c.commit_kernel.new.kernel.core _ _ c.in-Err-commit_kernel.ensures.stops c.in-Commit.how _ c.in-Err-commit_kernel.ensures.calls
    c.in_err-print_refusal-in-Err-commit_kernel.ensures.part))
