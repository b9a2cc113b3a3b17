use Rattle.std.proofs.Common.{refl}
use Rattle.host_device.proofs.Laws.{reads-synced}
use Rattle.host_device.proofs.device.HostDeviceDevice.sync.Goals as goal

pub returns-clause-reads : goal.returns-clause-reads
returns-clause-reads c = reads-synced _ _ refl c.in-Ok.ensures.noted
