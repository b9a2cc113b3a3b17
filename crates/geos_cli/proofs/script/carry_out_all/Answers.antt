use Rattle.std.proofs.Common.{◌∙◌, sym, inl, refl, arith}
use Rattle.vm_file.proofs.StateLaws.{steadily_then}
use Rattle.geos_kernel.specs.Files.{vm_file_of}
use Rattle.geos_machine.specs.Runs.{Throughout}
use Rattle.geos_machine.proofs.Honest.{alike-on}
use Rattle.geos_machine.proofs.Stops.{stops-first}
use Rattle.geos_cli.proofs.CommandsRun.{throughout-then, ran-none, ran-more, ran-refused, ran-all, ran-alike, ran-kept, last-done, stopped-at, stopped-ahead, stopped-alike}
use Rattle.script_commands.proofs.Parts.{IfErr-any}
use Rattle.geos_cli.proofs.script.carry_out_all.Goals as goal

pub loop-numbered-init : goal.loop-numbered-init
loop-numbered-init g c = (
  ran-none c.args.mode (g.D.Device.medium.honest c.args.kernel.now.device)
      (Throughout g.D.Device.medium c.args.kernel.now.device c.args.kernel.now.device) c.args.checked.now c.args.kernel.now.core
      (g.W.Write.contents c.args.out.now.stream)
      (λ f tied h. stops-first g.D.Device.medium c.args.kernel.now f tied
      (g.met.D.Device.at_once c.args.kernel.now.device) c.memory_is_legal.ensures.kept h _ (λ x opens. inl opens)),
  refl,
  ((λ h. h), (λ h. h)),
  c.requires.unlocked,
  c.memory_is_legal.ensures.sees,
  (λ steady room. (room, refl)),
  refl,
)

pub returns-clause-ok : goal.returns-clause-ok
returns-clause-ok g c = ran-all c.args.mode
    (g.D.Device.medium.honest c.args.kernel.now.device) _ c.args.checked.now c.args.commands.now c.loop-numbered.numbered-index
    c.args.kernel.now.core c.loop-numbered.kernel.core _ _ (omega (arith, c.loop-numbered-test.false)) c.loop-numbered.invariant.0

pub loop-numbered-preserved : goal.loop-numbered-preserved
loop-numbered-preserved g c =
    let honest = g.D.Device.medium.honest c.args.kernel.now.device in
    let before = ran-kept c.args.mode honest _ c.args.checked.now _ _ _ _ _ _ c.loop-numbered.invariant.0 c.give_before.ensures.bytes in
    let alike = c.loop-numbered.invariant.2 in
    let ran = ran-alike (g.D.Device.medium.honest c.loop-numbered.kernel.device)
    (g.D.Device.medium.honest c.args.kernel.now.device) alike _ c.args.checked.now _ _ _ _ _ _ c.in_ok-done.ensures.ok in (
      ran-more c.args.mode (g.D.Device.medium.honest c.args.kernel.now.device) _ _ _
          (throughout-then g.D.Device.medium c.args.kernel.now.device c.loop-numbered.kernel.device c.carry_out.new.kernel.device)
          c.args.checked.now c.args.commands.now c.loop-numbered.numbered-index _ _ _ _ _ _ _ c.loop-numbered-test.true
          _ c.in_default.ensures before ran,
      c.in_ok-done.ensures.kept ∙ c.in_ok-give_before.ensures.kept ∙ c.loop-numbered.invariant.1,
      alike-on _ _ _ c.carry_out.ensures.honest alike,
      c.carry_out.ensures.unlocked,
      c.carry_out.ensures.sees.1,
      steadily_then g.D.Device.medium (vm_file_of c.args.kernel.now) (vm_file_of c.loop-numbered.kernel)
          (vm_file_of c.carry_out.new.kernel) c.loop-numbered.invariant.5 c.carry_out.ensures.steadily,
      c.may_commit-ahead.ensures ∙ sym (last-done c.args.checked.now c.args.commands.now c.loop-numbered.numbered-index _ c.loop-numbered-test.true),
    )

pub returns-in_err-done-clause-stopped : goal.returns-in_err-done-clause-stopped
returns-in_err-done-clause-stopped g c =
    let honest = g.D.Device.medium.honest c.args.kernel.now.device in
    let before = ran-kept c.args.mode honest _ c.args.checked.now _ _ _ _ _ _ c.loop-numbered.invariant.0 c.give_before.ensures.bytes in
    let alike = c.loop-numbered.invariant.2 in
    let stopped = stopped-alike (g.D.Device.medium.honest c.loop-numbered.kernel.device)
    (g.D.Device.medium.honest c.args.kernel.now.device) alike _ c.args.checked.now _ _ _ _ _ c.in_err-done.ensures.stopped in
    IfErr-any _ (stopped-at c.args.mode (g.D.Device.medium.honest c.args.kernel.now.device) _ _ _
    (throughout-then g.D.Device.medium c.args.kernel.now.device c.loop-numbered.kernel.device c.carry_out.new.kernel.device)
    c.args.checked.now c.args.commands.now c.loop-numbered.numbered-index _ _ _ _ _ _ _ c.loop-numbered-test.true before stopped)

pub returns-in_err-give_before-clause-stopped : goal.returns-in_err-give_before-clause-stopped
returns-in_err-give_before-clause-stopped g c =
    let honest = g.D.Device.medium.honest c.args.kernel.now.device in
    let before = ran-kept c.args.mode honest _ c.args.checked.now _ _ _ _ _ _ c.loop-numbered.invariant.0 c.give_before.ensures.bytes in
    IfErr-any _ (stopped-ahead c.args.mode honest _ c.args.checked.now c.args.commands.now c.loop-numbered.numbered-index
    _ _ _ _ _ c.loop-numbered-test.true before
    _ _ c.loop-numbered.invariant.6 c.may_commit-ahead.ensures c.in_err-give_before.ensures.due)

pub returns-clause-sees : goal.returns-clause-sees
returns-clause-sees g c = (c.memory_is_legal.ensures.sees, c.loop-numbered.invariant.4)

pub returns-in_err-done-clause-sees : goal.returns-in_err-done-clause-sees
returns-in_err-done-clause-sees g c = (c.memory_is_legal.ensures.sees, c.carry_out.ensures.sees.1)

pub returns-in-Some-clause-ok : goal.returns-in-Some-clause-ok
returns-in-Some-clause-ok g c =
    let honest = g.D.Device.medium.honest c.args.kernel.now.device in
    let before = ran-kept c.args.mode honest _ c.args.checked.now _ _ _ _ _ _ c.loop-numbered.invariant.0 c.give_before.ensures.bytes in
    let alike = c.loop-numbered.invariant.2 in
    let ran = ran-alike (g.D.Device.medium.honest c.loop-numbered.kernel.device)
    (g.D.Device.medium.honest c.args.kernel.now.device) alike _ c.args.checked.now _ _ _ _ _ _ c.in_ok-done.ensures.ok in
    ran-refused c.args.mode honest _ _ _
    (throughout-then g.D.Device.medium c.args.kernel.now.device c.loop-numbered.kernel.device c.carry_out.new.kernel.device)
    c.args.checked.now c.args.commands.now c.loop-numbered.numbered-index _ _ _ _ _ _ _ c.loop-numbered-test.true
    c.in-Some.refused c.in-Some.ensures.1 _ c.in-Some.ensures.2 before ran

pub returns-in-Some-clause-sees : goal.returns-in-Some-clause-sees
returns-in-Some-clause-sees g c = (c.memory_is_legal.ensures.sees, c.carry_out.ensures.sees.1)

pub returns-in_err-done-clause-steadily : goal.returns-in_err-done-clause-steadily
returns-in_err-done-clause-steadily g c =
    steadily_then g.D.Device.medium (vm_file_of c.args.kernel.now) (vm_file_of c.loop-numbered.kernel)
    (vm_file_of c.carry_out.new.kernel) c.loop-numbered.invariant.5 c.carry_out.ensures.steadily

pub returns-in-Some-clause-steadily : goal.returns-in-Some-clause-steadily
returns-in-Some-clause-steadily g c =
    steadily_then g.D.Device.medium (vm_file_of c.args.kernel.now) (vm_file_of c.loop-numbered.kernel)
    (vm_file_of c.carry_out.new.kernel) c.loop-numbered.invariant.5 c.carry_out.ensures.steadily

pub returns-in-Some-clause-honest : goal.returns-in-Some-clause-honest
returns-in-Some-clause-honest g c = alike-on _ _ _ c.carry_out.ensures.honest c.loop-numbered.invariant.2

pub returns-in_err-done-clause-honest : goal.returns-in_err-done-clause-honest
returns-in_err-done-clause-honest g c = alike-on _ _ _ c.carry_out.ensures.honest c.loop-numbered.invariant.2

pub returns-in-Some-clause-kept : goal.returns-in-Some-clause-kept
returns-in-Some-clause-kept g c = c.in_ok-done.ensures.kept ∙ c.in_ok-give_before.ensures.kept ∙ c.loop-numbered.invariant.1
