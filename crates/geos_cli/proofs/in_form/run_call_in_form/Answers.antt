use Rattle.std.proofs.Common.{◌≡◌, inl, inr, ap, subst, sym}
use Rattle.std.specs.Io.KnownBytes.{Keeps}
use Rattle.geos_input.specs.declared.fault.ScriptFault.{ScriptFault}
use Rattle.geos_input.specs.declared.fault.ScriptFault.TheVariants.{Write}
use Rattle.script_commands.specs.declared.call_fault.CallFault.TheVariants.{Script}
use Rattle.script_commands.specs.Reading.{texts}
use Rattle.geos_cli.specs.Calls.{CallEndsBy}
use Rattle.geos_cli.specs.InForm.{Leaves, StoppedCallInForm}
use Rattle.geos_cli.proofs.CallRuns.{asks}
use Rattle.geos_cli.proofs.in_form.run_call_in_form.Goals as goal

pub returns-clause-due : goal.returns-clause-due
returns-clause-due g c =
    let image = c.args.image.now in
    let name = c.args.name.now in
    let words = texts c.args.words.now in
    let asked = asks _ _ _ _ _ c.in-Some.call c.in_ok-checked.ensures.image c.call_on.ensures c.in-Some.is in
    let F : ScriptFault → Type 0 = λ fault. CallEndsBy image name words (Script fault) in
    elim c.in-Err.ensures.fault [
      | inl write ↦ subst F (sym write) (c.in_ok-checked.checked, c.in-Some.call, asked)
      | inr memory ↦ subst F (sym memory) tt
    ]

pub returns-clause-left : goal.returns-clause-left
returns-clause-left g c =
    let image = c.args.image.now in
    let name = c.args.name.now in
    let words = texts c.args.words.now in
    let old = c.args.kernel.now in
    let new = c.carry_out_all_in_form.new.kernel in
    let from = g.W.Write.contents c.args.out.now.stream in
    let to = g.W.Write.contents c.carry_out_all_in_form.new.out.stream in
    let asked = asks _ _ _ _ _ c.in-Some.call c.in_ok-checked.ensures.image c.call_on.ensures c.in-Some.is in
    let stopped : StoppedCallInForm g.D.Device.medium c.args.options.form image name words old new from to =
    (c.in_ok-checked.checked, c.in-Some.call, asked, c.in-Err.ensures.stopped) in
    let F : ScriptFault → Type 0 = λ fault. Leaves fault ((new ≡ old) × Keeps from to)
    (StoppedCallInForm g.D.Device.medium c.args.options.form image name words old new from to) in
    elim c.in-Err.ensures.fault [
      | inl write ↦ subst F (sym write) stopped
      | inr memory ↦ subst F (sym memory) (inr stopped)
    ]

pub returns-clause-writer_failed : goal.returns-clause-writer_failed
returns-clause-writer_failed g c = λ is. (let write : c.in-Err.fault ≡ Write = cc in c.in-Err.ensures.failed write)

pub returns-clause-writer_kept : goal.returns-clause-writer_kept
returns-clause-writer_kept g c = λ no. c.in-Err.ensures.kept (λ write. no (ap Script write))

pub returns-in-Ok-clause-ran : goal.returns-in-Ok-clause-ran
returns-in-Ok-clause-ran g c =
    let asked = asks _ _ _ _ _ c.in-Some.call c.in_ok-checked.ensures.image c.call_on.ensures c.in-Some.is in
    (c.in_ok-checked.checked, c.in-Some.call, asked, c.in-Ok.ensures.ran)
