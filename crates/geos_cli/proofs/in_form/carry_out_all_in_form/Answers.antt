use Rattle.std.proofs.Common.{◌∙◌, inl, refl, arith}
use Rattle.vm_file.proofs.StateLaws.{steadily_then}
use Rattle.geos_kernel.specs.Files.{vm_file_of}
use Rattle.geos_machine.proofs.Honest.{alike-on}
use Rattle.geos_machine.proofs.Stops.{stops-first}
use Rattle.geos_cli.proofs.InFormRun.{none-ran, more-ran, all-ran, refused-ran, stopped-at}
use Rattle.geos_cli.proofs.NamedRun.{shown-of}
use Rattle.script_commands.proofs.Parts.{IfErr-any}
use Rattle.geos_cli.proofs.in_form.carry_out_all_in_form.Goals as goal

pub loop-numbered-init : goal.loop-numbered-init
loop-numbered-init g c = (
  none-ran g.D.Device.medium c.args.options.form c.args.checked.now c.args.options.mode c.args.kernel.now (g.W.Write.contents c.args.out.now.stream)
      (λ f tied h. stops-first g.D.Device.medium c.args.kernel.now f tied (g.met.D.Device.at_once c.args.kernel.now.device)
      c.memory_is_legal.ensures.kept h _ (λ x opens. inl opens)),
  refl,
  ((λ h. h), (λ h. h)),
  c.requires.unlocked,
  c.memory_is_legal.ensures.sees,
  (λ steady room. (room, refl)),
  c.new-progress.ensures,
)

pub returns-clause-ran : goal.returns-clause-ran
returns-clause-ran g c =
    all-ran g.D.Device.medium c.args.options.form c.args.checked.now c.args.options.mode c.args.commands.now c.loop-numbered.numbered-index
    c.args.kernel.now c.loop-numbered.kernel _ _
    (omega (arith, c.loop-numbered-test.false)) c.loop-numbered.invariant.0

pub loop-numbered-preserved : goal.loop-numbered-preserved
loop-numbered-preserved g c =
    let shown = shown-of g.D.Device.medium c.args.options.form c.args.checked.now _ _ _ _ _ _ _ c.in_ok-done.ensures.ok in (
      more-ran g.D.Device.medium c.args.options.form c.args.checked.now c.args.options.mode c.args.commands.now c.loop-numbered.numbered-index
          c.args.kernel.now c.loop-numbered.kernel _ _ _ _ _ c.loop-numbered-test.true c.loop-numbered.invariant.2 _ c.in_default.ensures
          c.loop-numbered.invariant.0 shown,
      c.in_ok-done.ensures.kept ∙ c.loop-numbered.invariant.1,
      alike-on _ _ _ c.carry_out_next.ensures.honest c.loop-numbered.invariant.2,
      c.carry_out_next.ensures.unlocked,
      c.carry_out_next.ensures.sees.1,
      steadily_then g.D.Device.medium (vm_file_of c.args.kernel.now) (vm_file_of c.loop-numbered.kernel)
          (vm_file_of c.carry_out_next.new.kernel) c.loop-numbered.invariant.5 c.carry_out_next.ensures.steadily,
      c.carry_out_next.ensures.begun,
    )

pub returns-in_err-done-clause-stopped : goal.returns-in_err-done-clause-stopped
returns-in_err-done-clause-stopped g c =
    IfErr-any _ (stopped-at g.D.Device.medium c.args.options.form c.args.checked.now c.args.options.mode c.args.commands.now
    c.loop-numbered.numbered-index c.args.kernel.now c.loop-numbered.kernel _ _ _ _ _ c.loop-numbered-test.true
    c.loop-numbered.invariant.2 c.loop-numbered.invariant.0 c.in_err-done.ensures.stopped)

pub returns-clause-sees : goal.returns-clause-sees
returns-clause-sees g c = (c.memory_is_legal.ensures.sees, c.loop-numbered.invariant.4)

pub returns-in_err-done-clause-sees : goal.returns-in_err-done-clause-sees
returns-in_err-done-clause-sees g c = (c.memory_is_legal.ensures.sees, c.carry_out_next.ensures.sees.1)

pub returns-in-Some-clause-ran : goal.returns-in-Some-clause-ran
returns-in-Some-clause-ran g c =
    let shown = shown-of g.D.Device.medium c.args.options.form c.args.checked.now _ _ _ _ _ _ _ c.in_ok-done.ensures.ok in
    refused-ran g.D.Device.medium c.args.options.form c.args.checked.now c.args.options.mode c.args.commands.now c.loop-numbered.numbered-index
    c.args.kernel.now c.loop-numbered.kernel _ _ _ _ _ c.loop-numbered-test.true c.loop-numbered.invariant.2
    c.in-Some.refused c.in-Some.ensures.0 c.in-Some.ensures.1 _ c.in-Some.ensures.2 c.loop-numbered.invariant.0 shown

pub returns-in-Some-clause-sees : goal.returns-in-Some-clause-sees
returns-in-Some-clause-sees g c = (c.memory_is_legal.ensures.sees, c.carry_out_next.ensures.sees.1)

pub returns-in_err-done-clause-steadily : goal.returns-in_err-done-clause-steadily
returns-in_err-done-clause-steadily g c =
    steadily_then g.D.Device.medium (vm_file_of c.args.kernel.now) (vm_file_of c.loop-numbered.kernel)
    (vm_file_of c.carry_out_next.new.kernel) c.loop-numbered.invariant.5 c.carry_out_next.ensures.steadily

pub returns-in-Some-clause-steadily : goal.returns-in-Some-clause-steadily
returns-in-Some-clause-steadily g c =
    steadily_then g.D.Device.medium (vm_file_of c.args.kernel.now) (vm_file_of c.loop-numbered.kernel)
    (vm_file_of c.carry_out_next.new.kernel) c.loop-numbered.invariant.5 c.carry_out_next.ensures.steadily

pub returns-in_err-done-clause-honest : goal.returns-in_err-done-clause-honest
returns-in_err-done-clause-honest g c = alike-on _ _ _ c.carry_out_next.ensures.honest c.loop-numbered.invariant.2

pub returns-in-Some-clause-honest : goal.returns-in-Some-clause-honest
returns-in-Some-clause-honest g c = alike-on _ _ _ c.carry_out_next.ensures.honest c.loop-numbered.invariant.2

pub returns-in-Some-clause-kept : goal.returns-in-Some-clause-kept
returns-in-Some-clause-kept g c = c.in_ok-done.ensures.kept ∙ c.loop-numbered.invariant.1
