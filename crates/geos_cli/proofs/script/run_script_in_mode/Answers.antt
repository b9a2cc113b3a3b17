use Rattle.std.proofs.Common.{◌∙◌, sym, subst, arith}
use Rattle.std.specs.Prelude.{All}
use Rattle.std.specs.Str.Lines.{lines}
use Rattle.std.proofs.lemmas.Result.{IfErr-weaker}
use Rattle.geos_input.specs.declared.fault.ScriptFault.{ScriptFault}
use Rattle.geos_input.specs.declared.fault.ScriptFault.TheVariants.{Write}
use Rattle.script_commands.specs.declared.command.Numbered.{Numbered}
use Rattle.script_commands.specs.Lines.{IsAdmitted}
use Rattle.geos_cli.specs.Script.{Loads, ScriptEndsBy}
use Rattle.script_commands.proofs.Commands.{commands-admitted}
use Rattle.geos_cli.proofs.CommandsRun.{if_ok-map, if_err-map, kept-unless, script-ran, script-stopped}
use Rattle.script_commands.proofs.Parts.{only-write}
use Rattle.geos_cli.proofs.script.run_script_in_mode.Goals as goal

pub carry_out_all-requires-clause-admitted : goal.carry_out_all-requires-clause-admitted
carry_out_all-requires-clause-admitted g c =
    let same = c.deref.ensures.value ∙ c.in_ok-commands.ensures.commands.1 in
    subst (All (λ (n : Numbered). IsAdmitted c.in_ok-checked.checked n.command)) (sym same)
    (commands-admitted c.in_ok-checked.checked (lines c.args.script.now))

pub returns-clause-ran : goal.returns-clause-ran
returns-clause-ran g c =
    let loads : Loads c.args.image.now (lines c.args.script.now) c.in_ok-checked.checked =
    record { read = c.in_ok-checked.ensures.image.0; accepted = c.in_ok-checked.ensures.image.1; good = c.in_ok-commands.ensures.commands.0 } in
    if_ok-map c.carry_out_all.result
    (script-ran c.args.mode (g.D.Device.medium.honest c.args.kernel.now.device) _ c.args.image.now c.args.script.now
    c.in_ok-checked.checked c.args.kernel.now.core c.carry_out_all.new.kernel.core _ _ (omega (arith, c.if-script-gt-MOST_BYTES.false)) loads
    c.deref.result.now (c.deref.ensures.value ∙ c.in_ok-commands.ensures.commands.1)) c.carry_out_all.ensures.ok

pub returns-clause-stopped : goal.returns-clause-stopped
returns-clause-stopped g c =
    let loads : Loads c.args.image.now (lines c.args.script.now) c.in_ok-checked.checked =
    record { read = c.in_ok-checked.ensures.image.0; accepted = c.in_ok-checked.ensures.image.1; good = c.in_ok-commands.ensures.commands.0 } in
    if_err-map c.carry_out_all.result Write
    (script-stopped c.args.mode (g.D.Device.medium.honest c.args.kernel.now.device) _ c.args.image.now c.args.script.now
    c.in_ok-checked.checked c.args.kernel.now.core c.carry_out_all.new.kernel.core _ _ (omega (arith, c.if-script-gt-MOST_BYTES.false)) loads
    c.deref.result.now (c.deref.ensures.value ∙ c.in_ok-commands.ensures.commands.1)) c.carry_out_all.ensures.stopped

pub returns-clause-kernel_kept : goal.returns-clause-kernel_kept
returns-clause-kernel_kept g c = only-write _ _ c.carry_out_all.result c.carry_out_all.ensures.failed

pub returns-clause-nothing_written : goal.returns-clause-nothing_written
returns-clause-nothing_written g c = only-write _ _ c.carry_out_all.result c.carry_out_all.ensures.failed

pub returns-clause-not_asked : goal.returns-clause-not_asked
returns-clause-not_asked g c = only-write _ _ c.carry_out_all.result c.carry_out_all.ensures.failed

pub returns-clause-writer_failed : goal.returns-clause-writer_failed
returns-clause-writer_failed g c = IfErr-weaker c.carry_out_all.result _ _ (λ fault is write. is.1) c.carry_out_all.ensures.failed

pub returns-clause-writer_kept : goal.returns-clause-writer_kept
returns-clause-writer_kept g c = kept-unless _ c.carry_out_all.result Write _ _ c.carry_out_all.ensures.kept c.carry_out_all.ensures.failed

pub returns-clause-due : goal.returns-clause-due
returns-clause-due g c =
    let image = c.args.image.now in
    let script = c.args.script.now in
    let checked = c.in_ok-checked in
    let loads : Loads image (lines script) checked.checked =
    record { read = checked.ensures.image.0; accepted = checked.ensures.image.1; good = c.in_ok-commands.ensures.commands.0 } in
    IfErr-weaker c.carry_out_all.result _ (ScriptEndsBy image script)
    (λ fault is. subst (λ (f : ScriptFault). ScriptEndsBy image script f) (sym is.0)
    (omega (arith, c.if-script-gt-MOST_BYTES.false), (checked.checked, loads)))
    c.carry_out_all.ensures.failed
