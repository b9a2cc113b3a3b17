use Rattle.std.proofs.Common.{◌∙◌, inl, inr, sym, subst, arith}
use Rattle.std.specs.Prelude.{All}
use Rattle.std.specs.Str.Lines.{lines}
use Rattle.std.proofs.lemmas.Result.{IfErr-weaker}
use Rattle.geos_input.specs.declared.fault.ScriptFault.{ScriptFault}
use Rattle.script_commands.specs.declared.command.Numbered.{Numbered}
use Rattle.script_commands.specs.Lines.{IsAdmitted}
use Rattle.geos_cli.specs.Script.{Loads, ScriptEndsBy}
use Rattle.script_commands.proofs.Commands.{commands-admitted}
use Rattle.geos_cli.proofs.CommandsRun.{if_ok-map}
use Rattle.geos_cli.proofs.InFormRun.{fault-leaves, script-ran, script-stopped}
use Rattle.geos_cli.proofs.in_form.run_script_in_form.Goals as goal

pub carry_out_all_in_form-requires-clause-admitted : goal.carry_out_all_in_form-requires-clause-admitted
carry_out_all_in_form-requires-clause-admitted g c =
    let same = c.deref.ensures.value ∙ c.in_ok-commands.ensures.commands.1 in
    subst (All (λ (n : Numbered). IsAdmitted c.in_ok-checked.checked n.command)) (sym same)
    (commands-admitted c.in_ok-checked.checked (lines c.args.script.now))

pub returns-clause-ran : goal.returns-clause-ran
returns-clause-ran g c =
    let loads : Loads c.args.image.now (lines c.args.script.now) c.in_ok-checked.checked =
    record { read = c.in_ok-checked.ensures.image.0; accepted = c.in_ok-checked.ensures.image.1; good = c.in_ok-commands.ensures.commands.0 } in
    let same = c.deref.ensures.value ∙ c.in_ok-commands.ensures.commands.1 in
    if_ok-map c.carry_out_all_in_form.result
    (script-ran g.D.Device.medium c.args.options.form c.args.options.mode c.args.image.now c.args.script.now
    c.in_ok-checked.checked c.args.kernel.now c.carry_out_all_in_form.new.kernel
    (g.W.Write.contents c.args.out.now.stream) (g.W.Write.contents c.carry_out_all_in_form.new.out.stream)
    (omega (arith, c.if-script-gt-MOST_BYTES.false)) loads c.deref.result.now same)
    c.carry_out_all_in_form.ensures.ran

pub returns-clause-left : goal.returns-clause-left
returns-clause-left g c =
    let loads : Loads c.args.image.now (lines c.args.script.now) c.in_ok-checked.checked =
    record { read = c.in_ok-checked.ensures.image.0; accepted = c.in_ok-checked.ensures.image.1; good = c.in_ok-commands.ensures.commands.0 } in
    let same = c.deref.ensures.value ∙ c.in_ok-commands.ensures.commands.1 in
    fault-leaves c.carry_out_all_in_form.result _ _ _
    (script-stopped g.D.Device.medium c.args.options.form c.args.options.mode c.args.image.now
    c.args.script.now c.in_ok-checked.checked c.args.kernel.now c.carry_out_all_in_form.new.kernel
    (g.W.Write.contents c.args.out.now.stream) (g.W.Write.contents c.carry_out_all_in_form.new.out.stream)
    (omega (arith, c.if-script-gt-MOST_BYTES.false)) loads c.deref.result.now same)
    c.carry_out_all_in_form.ensures.fault c.carry_out_all_in_form.ensures.stopped

pub returns-clause-due : goal.returns-clause-due
returns-clause-due g c =
    let image = c.args.image.now in
    let script = c.args.script.now in
    let checked = c.in_ok-checked in
    let loads : Loads image (lines script) checked.checked =
    record { read = checked.ensures.image.0; accepted = checked.ensures.image.1; good = c.in_ok-commands.ensures.commands.0 } in
    let E : ScriptFault → Type 0 = λ f. ScriptEndsBy image script f in
    IfErr-weaker c.carry_out_all_in_form.result _ (ScriptEndsBy image script)
    (λ fault is. (elim is [
      | inl write ↦ subst E (sym write) (omega (arith, c.if-script-gt-MOST_BYTES.false), (checked.checked, loads))
      | inr memory ↦ subst E (sym memory) (omega (arith, c.if-script-gt-MOST_BYTES.false), tt)
    ]))
    c.carry_out_all_in_form.ensures.fault
