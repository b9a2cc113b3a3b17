use Rattle.geos_dump.proofs.Fields.{long-read}
use Rattle.geos_dump.proofs.areas.read_areas.Goals as goal

pub returns-clause-size : goal.returns-clause-size
returns-clause-size g c = λ h. long-read (g.D.Device.medium.image c.args.device.now) c.read_at.new.into c.from_le_bytes.result
    (c.in-Ok.ensures.bytes h) c.from_le_bytes.ensures
