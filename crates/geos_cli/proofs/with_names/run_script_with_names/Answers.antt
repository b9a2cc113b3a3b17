use Rattle.std.proofs.Common.{◌∙◌, inl, inr, ap, map, subst, sym, arith}
use Rattle.std.proofs.lemmas.Result.{IfErr-weaker}
use Rattle.geos_input.specs.declared.fault.ScriptFault.{ScriptFault}
use Rattle.script_commands.specs.Names.{said_by}
use Rattle.geos_cli.specs.WithNames.{LoadsNamed, NamedScriptEndsBy}
use Rattle.geos_cli.proofs.CommandsRun.{if_ok-map}
use Rattle.geos_cli.proofs.InFormRun.{fault-leaves}
use Rattle.geos_cli.proofs.NamedRun.{script-ran, script-stopped}
use Rattle.geos_cli.proofs.with_names.run_script_with_names.Goals as goal

pub returns-clause-ran : goal.returns-clause-ran
returns-clause-ran g c =
    let loads : LoadsNamed c.args.image.now c.args.script.now c.in_ok-checked.checked =
    record {
      short = omega (arith, c.if-script-gt-MOST_BYTES.false);
      read = c.in_ok-checked.ensures.image.0;
      accepted =
          c.in_ok-checked.ensures.image.1;
      good = c.in_ok-lines.ensures.lines.1;
    } in
    let same = ap (map said_by) c.deref.ensures.value ∙ c.in_ok-lines.ensures.lines.0 in
    if_ok-map c.carry_out_lines.result
    (script-ran g.D.Device.medium c.args.options.form c.args.options.mode c.args.image.now c.args.script.now
    c.in_ok-checked.checked c.args.kernel.now c.carry_out_lines.new.kernel
    (g.W.Write.contents c.args.out.now.stream) (g.W.Write.contents c.carry_out_lines.new.out.stream) loads
    (map said_by c.deref.result.now) same)
    c.carry_out_lines.ensures.ran

pub returns-clause-left : goal.returns-clause-left
returns-clause-left g c =
    let loads : LoadsNamed c.args.image.now c.args.script.now c.in_ok-checked.checked =
    record {
      short = omega (arith, c.if-script-gt-MOST_BYTES.false);
      read = c.in_ok-checked.ensures.image.0;
      accepted =
          c.in_ok-checked.ensures.image.1;
      good = c.in_ok-lines.ensures.lines.1;
    } in
    let same = ap (map said_by) c.deref.ensures.value ∙ c.in_ok-lines.ensures.lines.0 in
    fault-leaves c.carry_out_lines.result _ _ _
    (script-stopped g.D.Device.medium c.args.options.form c.args.options.mode c.args.image.now
    c.args.script.now c.in_ok-checked.checked c.args.kernel.now c.carry_out_lines.new.kernel
    (g.W.Write.contents c.args.out.now.stream) (g.W.Write.contents c.carry_out_lines.new.out.stream) loads
    (map said_by c.deref.result.now) same)
    c.carry_out_lines.ensures.fault c.carry_out_lines.ensures.stopped

pub returns-clause-due : goal.returns-clause-due
returns-clause-due g c =
    let image = c.args.image.now in
    let script = c.args.script.now in
    let checked = c.in_ok-checked in
    let loads : LoadsNamed image script checked.checked =
    record {
      short = omega (arith, c.if-script-gt-MOST_BYTES.false);
      read = checked.ensures.image.0;
      accepted =
          checked.ensures.image.1;
      good = c.in_ok-lines.ensures.lines.1;
    } in
    let E : ScriptFault → Type 0 = λ f. NamedScriptEndsBy image script f in
    IfErr-weaker c.carry_out_lines.result _ (NamedScriptEndsBy image script)
    (λ fault is. (elim is [
      | inl write ↦ subst E (sym write) (checked.checked, loads)
      | inr memory ↦ subst E (sym memory) (omega (arith, c.if-script-gt-MOST_BYTES.false))
    ]))
    c.carry_out_lines.ensures.fault
