use Rattle.geos_kernel.proofs.Turns.{answered-alike}
use Rattle.geos_kernel.proofs.law.later_calls_answer_alike.Goals as goal

pub returns : goal.returns
returns g c = λ alike. answered-alike (g.D.Device.medium.honest c.args.later.now) (g.D.Device.medium.honest c.args.earlier.now) alike
