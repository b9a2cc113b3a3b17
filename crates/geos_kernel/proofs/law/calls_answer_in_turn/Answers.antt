use Rattle.geos_kernel.proofs.Turns.{calls_answer_in_turn}
use Rattle.geos_kernel.proofs.law.calls_answer_in_turn.Goals as goal

pub returns : goal.returns
returns g c = calls_answer_in_turn (g.D.Device.medium.honest c.args.device.now)
