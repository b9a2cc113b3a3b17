use Rattle.std.proofs.Common.{List, ap}
use Rattle.host_device.proofs.Laws.{rests-settled}
use Rattle.host_device.specs.Notes.{Note}
use Rattle.host_device.specs.declared.device.HostDevice.{HostDevice}
use Rattle.host_device.proofs.device.HostDeviceNoting.settle.Goals as goal

pub returns-then-not-is_empty-clause-rests : goal.returns-then-not-is_empty-clause-rests
returns-then-not-is_empty-clause-rests c =
    let with : List Note → HostDevice = λ log. record c.args.self.now { log = log } in
    rests-settled _ _ (ap with c.clear.ensures)
