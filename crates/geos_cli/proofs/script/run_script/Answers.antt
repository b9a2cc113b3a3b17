use Rattle.std.proofs.Common.{refl, subst}
use Rattle.geos_machine.specs.Runs.{Throughout}
use Rattle.geos_cli.specs.declared.script.Mode.TheVariants.{Lenient}
use Rattle.geos_cli.specs.Script.{RanScript}
use Rattle.geos_cli.proofs.script.run_script.Goals as goal

pub returns-in-Ok-clause-ran : goal.returns-in-Ok-clause-ran
returns-in-Ok-clause-ran g c =
    subst (λ refused. RanScript Lenient (g.D.Device.medium.honest c.args.kernel.now.device)
    (Throughout g.D.Device.medium c.args.kernel.now.device c.run_script_in_mode.new.kernel.device) c.args.image.now
    c.args.script.now refused c.args.kernel.now.core c.run_script_in_mode.new.kernel.core
    (g.W.Write.contents c.args.out.now.stream) (g.W.Write.contents c.run_script_in_mode.new.out.stream)) (c.in-Ok.ensures.lenient refl) c.in-Ok.ensures.ran
