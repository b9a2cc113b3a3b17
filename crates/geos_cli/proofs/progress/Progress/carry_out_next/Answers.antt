use Rattle.geos_cli.proofs.CommandsRun.{if_ok-map}
use Rattle.geos_cli.proofs.InFormRun.{noted-behind, not-begun, stopped-behind}
use Rattle.script_commands.proofs.Parts.{IfErr-any, IfErr-map}
use Rattle.geos_cli.proofs.progress.Progress.carry_out_next.Goals as goal

pub returns-clause-ok : goal.returns-clause-ok
returns-clause-ok g c =
    if_ok-map c.carry_out_noting.result
    (λ came. noted-behind g.D.Device.medium c.args.form c.args.checked.now c.args.command.now c.args.kernel.now c.carry_out_noting.new.kernel
    (g.W.Write.contents c.args.out.now.stream) (g.W.Write.contents c.give_before.new.out.stream)
    (g.W.Write.contents c.carry_out_noting.new.out.stream) c.give_before.ensures.bytes came.0 came.1)
    c.carry_out_noting.ensures.ok

pub returns-clause-stopped : goal.returns-clause-stopped
returns-clause-stopped g c =
    IfErr-map c.carry_out_noting.result
    (stopped-behind g.D.Device.medium c.args.form c.args.checked.now c.args.command.now c.args.kernel.now c.carry_out_noting.new.kernel
    (g.W.Write.contents c.args.out.now.stream) (g.W.Write.contents c.give_before.new.out.stream)
    (g.W.Write.contents c.carry_out_noting.new.out.stream) c.give_before.ensures.bytes)
    c.carry_out_noting.ensures.stopped

pub returns-in_err-give_before-clause-stopped : goal.returns-in_err-give_before-clause-stopped
returns-in_err-give_before-clause-stopped g c =
    IfErr-any _ (not-begun g.D.Device.medium c.args.form c.args.checked.now c.args.command.now c.args.kernel.now
    (g.W.Write.contents c.args.out.now.stream) (g.W.Write.contents c.give_before.new.out.stream) c.give_before.ensures.bytes)
