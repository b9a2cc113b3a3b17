use Rattle.std.proofs.Common.{◌≡◌, ◌∙◌, [], Some, ap}
use Rattle.script_commands.specs.Forms.{shown_in}
use Rattle.script_commands.specs.Names.{first_put_out}
use Rattle.geos_cli.proofs.InFormRun.{shown-part, stopped-plainly}
use Rattle.geos_cli.proofs.NamedRun.{noted}
use Rattle.script_commands.proofs.Parts.{IfErr-any}
use Rattle.geos_cli.proofs.progress.carry_out_noting.Goals as goal

pub returns-in_err-write-in-Ok-clause-stopped : goal.returns-in_err-write-in-Ok-clause-stopped
returns-in_err-write-in-Ok-clause-stopped g c =
    let empty : c.new-plain.result.stream.items ≡ [] = ap (λ v. v.items) c.new-plain.ensures.stream ∙ c.new.ensures.items in
    let is = c.deref-in-Ok.ensures.value ∙ c.in_ok-text-in-Ok.ensures
    ∙ ap (shown_in c.args.form c.args.checked.now c.args.command.now) c.deref.ensures.value in
    IfErr-any _ (shown-part g.D.Device.medium c.args.form c.args.checked.now c.args.command.now c.in-Ok.done c.args.kernel.now c.carry_out.new.kernel
    c.new-plain.result.stream.items c.carry_out.new.out.stream.items _ _ _ empty is c.in-Ok.ensures.ok c.in_err-write-in-Ok.ensures.part)

pub returns-in-Ok-clause-ok : goal.returns-in-Ok-clause-ok
returns-in-Ok-clause-ok g c =
    let empty : c.new-plain.result.stream.items ≡ [] = ap (λ v. v.items) c.new-plain.ensures.stream ∙ c.new.ensures.items in
    let is = c.deref-in-Ok.ensures.value ∙ c.in_ok-text-in-Ok.ensures
    ∙ ap (shown_in c.args.form c.args.checked.now c.args.command.now) c.deref.ensures.value in
    let first = c.first_put_out.ensures ∙ ap first_put_out c.deref-in-Ok-2.ensures.value in
    noted g.D.Device.medium c.args.form c.args.checked.now c.args.command.now c.in-Ok.done c.args.kernel.now c.carry_out.new.kernel
    c.new-plain.result.stream.items c.carry_out.new.out.stream.items _ _ _ _ empty is first c.in-Ok.ensures.ok c.in_ok-write-in-Ok.ensures.ok

pub returns-clause-stopped : goal.returns-clause-stopped
returns-clause-stopped g c =
    stopped-plainly g.D.Device.medium c.args.form c.args.checked.now c.args.command.now c.args.kernel.now c.carry_out.new.kernel
    (g.W.Write.contents c.args.out.now.stream) (Some c.new-plain.result.stream.items) (Some c.carry_out.new.out.stream.items) c.in-Err.ensures.stopped
