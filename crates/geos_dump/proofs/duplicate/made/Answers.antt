use Rattle.vm_file.specs.State.{file_of}
use Rattle.geos_dump.proofs.Sizes.{area_found, area_kept}
use Rattle.geos_dump.proofs.duplicate.made.Goals as goal

pub returns-in-Ok-true-clause-size : goal.returns-in-Ok-true-clause-size
returns-in-Ok-true-clause-size g c = λ h.
    let medium = g.E.Device.medium in
    let opened = c.in-Ok-open.ensures.exact (c.put_on.ensures.stays h) in
    area_kept medium c.in-Ok-open.copy c.is_copy.new.copy c.args.area c.is_copy.ensures.copy_read
    (area_found (medium.image c.put_on.new.device) (file_of medium.image c.in-Ok-open.copy) c.args.area opened (c.in-Ok-put_on.ensures.size h))
