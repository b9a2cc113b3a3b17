use Rattle.std.proofs.Common.{◌∙◌, ◌+◌, [], ap, inl, refl, sym, subst, take, get_or, map, arith}
use Rattle.vm_file.proofs.StateLaws.{steadily_then}
use Rattle.geos_kernel.specs.Files.{vm_file_of}
use Rattle.geos_machine.proofs.Honest.{alike-on}
use Rattle.geos_machine.proofs.Stops.{stops-first}
use Rattle.geos_text.specs.Words.{words}
use Rattle.script_commands.specs.Names.{names_of, said_by}
use Rattle.geos_cli.proofs.NamedRun.{RanSoFar, admitted-named, all-ran, any_line, ended-badly, more-ran, named-in, none-ran, not-begun, refused-ran, stopped-at, stopped-behind}
use Rattle.script_commands.proofs.Parts.{IfErr-any}
use Rattle.geos_cli.proofs.with_names.carry_out_lines.Goals as goal

pub loop-line-init : goal.loop-line-init
loop-line-init g c = (
  subst (λ ns. RanSoFar g.D.Device.medium c.args.options.form c.args.options.mode c.args.checked.now [] ns c.args.kernel.now c.args.kernel.now
      (g.W.Write.contents c.args.out.now.stream) (g.W.Write.contents c.args.out.now.stream)) (sym (ap names_of c.new-names.ensures.items))
      (none-ran g.D.Device.medium c.args.options.form c.args.options.mode c.args.checked.now c.args.kernel.now (g.W.Write.contents c.args.out.now.stream)
      (λ f tied h. stops-first g.D.Device.medium c.args.kernel.now f tied (g.met.D.Device.at_once c.args.kernel.now.device)
      c.memory_is_legal.ensures.kept h _ (λ x opens. inl opens))),
  refl,
  ((λ h. h), (λ h. h)),
  c.requires.unlocked,
  c.memory_is_legal.ensures.sees,
  (λ steady room. (room, refl)),
  c.new-progress.ensures,
)

pub returns-in_err-command-clause-stopped : goal.returns-in_err-command-clause-stopped
returns-in_err-command-clause-stopped g c =
    IfErr-any _ (not-begun g.D.Device.medium c.args.options.form c.args.options.mode c.args.checked.now c.args.lines.now c.loop-line.line-index
    (names_of c.loop-line.names.items) c.args.kernel.now c.loop-line.kernel (g.W.Write.contents c.args.out.now.stream)
    (g.W.Write.contents c.loop-line.out.stream) c.loop-line.invariant.0 any_line c.loop-line-test.true)

pub returns-in_default-clause-ran : goal.returns-in_default-clause-ran
returns-in_default-clause-ran g c =
    let none = named-in c.args.checked.now c.loop-line.names.items c.deref.result.now
    (words (get_or c.args.lines.now c.loop-line.line-index any_line).text.now) _ _ c.deref.ensures.value c.in_ok-command.ensures c.in_default.is in
    ended-badly g.D.Device.medium c.args.options.form c.args.options.mode c.args.checked.now c.args.lines.now c.loop-line.line-index
    (names_of c.loop-line.names.items) c.args.kernel.now c.loop-line.kernel (g.W.Write.contents c.args.out.now.stream)
    (g.W.Write.contents c.loop-line.out.stream) c.loop-line.invariant.0 any_line c.loop-line-test.true _ refl none

pub carry_out_next-requires-clause-admitted : goal.carry_out_next-requires-clause-admitted
carry_out_next-requires-clause-admitted g c = admitted-named c.args.checked.now (names_of c.deref.result.now)
    (words (get_or c.args.lines.now c.loop-line.line-index any_line).text.now) c.in-Some.command (sym c.in_ok-command.ensures ∙ c.in-Some.is)

pub returns-in_err-done-clause-stopped : goal.returns-in_err-done-clause-stopped
returns-in_err-done-clause-stopped g c =
    let named = named-in c.args.checked.now c.loop-line.names.items c.deref.result.now
    (words (get_or c.args.lines.now c.loop-line.line-index any_line).text.now) _ _ c.deref.ensures.value c.in_ok-command.ensures c.in-Some.is in
    IfErr-any _ (stopped-at g.D.Device.medium c.args.options.form c.args.options.mode c.args.checked.now c.args.lines.now c.loop-line.line-index
    (names_of c.loop-line.names.items) c.args.kernel.now c.loop-line.kernel (g.W.Write.contents c.args.out.now.stream)
    (g.W.Write.contents c.loop-line.out.stream) c.loop-line.invariant.0 any_line c.loop-line-test.true c.in-Some.command named
    c.carry_out_next.new.kernel (g.W.Write.contents c.carry_out_next.new.out.stream) c.loop-line.invariant.2 c.in_err-done.ensures.stopped)

pub returns-in-Some-ended_by-clause-ran : goal.returns-in-Some-ended_by-clause-ran
returns-in-Some-ended_by-clause-ran g c =
    let ended = c.in-Some-ended_by.ensures in
    let named = named-in c.args.checked.now c.loop-line.names.items c.deref.result.now
    (words (get_or c.args.lines.now c.loop-line.line-index any_line).text.now) _ _ c.deref.ensures.value c.in_ok-command.ensures c.in-Some.is in
    refused-ran g.D.Device.medium c.args.options.form c.args.options.mode c.args.checked.now c.args.lines.now c.loop-line.line-index
    (names_of c.loop-line.names.items) c.args.kernel.now c.loop-line.kernel (g.W.Write.contents c.args.out.now.stream)
    (g.W.Write.contents c.loop-line.out.stream) c.loop-line.invariant.0 any_line c.loop-line-test.true c.in-Some.command named
    c.carry_out_next.new.kernel (g.W.Write.contents c.carry_out_next.new.out.stream) c.loop-line.invariant.2 c.in-Some-ended_by.refused
    ended.0 ended.1 _ _ ended.2 c.in_ok-done.ensures.ok

pub returns-in_err-keep-clause-stopped : goal.returns-in_err-keep-clause-stopped
returns-in_err-keep-clause-stopped g c =
    let named = named-in c.args.checked.now c.loop-line.names.items c.deref.result.now
    (words (get_or c.args.lines.now c.loop-line.line-index any_line).text.now) _ _ c.deref.ensures.value c.in_ok-command.ensures c.in-Some.is in
    IfErr-any _ (stopped-behind g.D.Device.medium c.args.options.form c.args.options.mode c.args.checked.now c.args.lines.now
    c.loop-line.line-index (names_of c.loop-line.names.items) c.args.kernel.now c.loop-line.kernel
    (g.W.Write.contents c.args.out.now.stream) (g.W.Write.contents c.loop-line.out.stream) c.loop-line.invariant.0 any_line
    c.loop-line-test.true c.in-Some.command named c.carry_out_next.new.kernel (g.W.Write.contents c.carry_out_next.new.out.stream)
    c.loop-line.invariant.2 _ _ c.in_ok-done.ensures.ok)

pub loop-line-preserved : goal.loop-line-preserved
loop-line-preserved g c =
    let named = named-in c.args.checked.now c.loop-line.names.items c.deref.result.now
    (words (get_or c.args.lines.now c.loop-line.line-index any_line).text.now) _ _ c.deref.ensures.value c.in_ok-command.ensures c.in-Some.is in
    let more = more-ran g.D.Device.medium c.args.options.form c.args.options.mode c.args.checked.now c.args.lines.now c.loop-line.line-index
    (names_of c.loop-line.names.items) c.args.kernel.now c.loop-line.kernel (g.W.Write.contents c.args.out.now.stream)
    (g.W.Write.contents c.loop-line.out.stream) c.loop-line.invariant.0 any_line c.loop-line-test.true c.in-Some.command named
    c.carry_out_next.new.kernel (g.W.Write.contents c.carry_out_next.new.out.stream) c.loop-line.invariant.2 _ _ c.in_default-ended_by.ensures
    c.in_ok-done.ensures.ok in (
      subst (λ ns. RanSoFar g.D.Device.medium c.args.options.form c.args.options.mode c.args.checked.now
          (map said_by (take (c.loop-line.line-index + 1) c.args.lines.now)) ns c.args.kernel.now c.carry_out_next.new.kernel
          (g.W.Write.contents c.args.out.now.stream) (g.W.Write.contents c.carry_out_next.new.out.stream)) (sym c.in_ok-keep.ensures) more,
      c.in_ok-done.ensures.kept ∙ c.loop-line.invariant.1,
      alike-on _ _ _ c.carry_out_next.ensures.honest c.loop-line.invariant.2,
      c.carry_out_next.ensures.unlocked,
      c.carry_out_next.ensures.sees.1,
      steadily_then g.D.Device.medium (vm_file_of c.args.kernel.now) (vm_file_of c.loop-line.kernel)
          (vm_file_of c.carry_out_next.new.kernel) c.loop-line.invariant.5 c.carry_out_next.ensures.steadily,
      c.carry_out_next.ensures.begun,
    )

pub returns-clause-ran : goal.returns-clause-ran
returns-clause-ran g c = all-ran g.D.Device.medium c.args.options.form c.args.options.mode c.args.checked.now c.args.lines.now
    c.loop-line.line-index (names_of c.loop-line.names.items) c.args.kernel.now c.loop-line.kernel
    (g.W.Write.contents c.args.out.now.stream) (g.W.Write.contents c.loop-line.out.stream) c.loop-line.invariant.0
    (omega (arith, c.loop-line-test.false))

pub returns-in_err-done-clause-honest : goal.returns-in_err-done-clause-honest
returns-in_err-done-clause-honest g c = alike-on _ _ _ c.carry_out_next.ensures.honest c.loop-line.invariant.2

pub returns-in_err-done-clause-sees : goal.returns-in_err-done-clause-sees
returns-in_err-done-clause-sees g c = (c.memory_is_legal.ensures.sees, c.carry_out_next.ensures.sees.1)

pub returns-in_err-done-clause-steadily : goal.returns-in_err-done-clause-steadily
returns-in_err-done-clause-steadily g c = steadily_then g.D.Device.medium (vm_file_of c.args.kernel.now) (vm_file_of c.loop-line.kernel)
    (vm_file_of c.carry_out_next.new.kernel) c.loop-line.invariant.5 c.carry_out_next.ensures.steadily

pub returns-in-Some-ended_by-clause-honest : goal.returns-in-Some-ended_by-clause-honest
returns-in-Some-ended_by-clause-honest g c = alike-on _ _ _ c.carry_out_next.ensures.honest c.loop-line.invariant.2

pub returns-in-Some-ended_by-clause-sees : goal.returns-in-Some-ended_by-clause-sees
returns-in-Some-ended_by-clause-sees g c = (c.memory_is_legal.ensures.sees, c.carry_out_next.ensures.sees.1)

pub returns-in-Some-ended_by-clause-steadily : goal.returns-in-Some-ended_by-clause-steadily
returns-in-Some-ended_by-clause-steadily g c = steadily_then g.D.Device.medium (vm_file_of c.args.kernel.now) (vm_file_of c.loop-line.kernel)
    (vm_file_of c.carry_out_next.new.kernel) c.loop-line.invariant.5 c.carry_out_next.ensures.steadily

pub returns-in_err-keep-clause-honest : goal.returns-in_err-keep-clause-honest
returns-in_err-keep-clause-honest g c = alike-on _ _ _ c.carry_out_next.ensures.honest c.loop-line.invariant.2

pub returns-in_err-keep-clause-sees : goal.returns-in_err-keep-clause-sees
returns-in_err-keep-clause-sees g c = (c.memory_is_legal.ensures.sees, c.carry_out_next.ensures.sees.1)

pub returns-in_err-keep-clause-steadily : goal.returns-in_err-keep-clause-steadily
returns-in_err-keep-clause-steadily g c = steadily_then g.D.Device.medium (vm_file_of c.args.kernel.now) (vm_file_of c.loop-line.kernel)
    (vm_file_of c.carry_out_next.new.kernel) c.loop-line.invariant.5 c.carry_out_next.ensures.steadily

pub returns-in-Some-ended_by-clause-kept : goal.returns-in-Some-ended_by-clause-kept
returns-in-Some-ended_by-clause-kept g c = c.in_ok-done.ensures.kept ∙ c.loop-line.invariant.1

pub returns-in_err-command-clause-sees : goal.returns-in_err-command-clause-sees
returns-in_err-command-clause-sees g c = (c.memory_is_legal.ensures.sees, c.loop-line.invariant.4)

pub returns-in_default-clause-sees : goal.returns-in_default-clause-sees
returns-in_default-clause-sees g c = (c.memory_is_legal.ensures.sees, c.loop-line.invariant.4)

pub returns-clause-sees : goal.returns-clause-sees
returns-clause-sees g c = (c.memory_is_legal.ensures.sees, c.loop-line.invariant.4)
