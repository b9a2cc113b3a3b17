use Rattle.std.proofs.Common.{refl}
use Rattle.geos_dump.proofs.Looks.{causes_error, causes_then, look_then}
use Rattle.geos_dump.proofs.telling.put_directories.Goals as goal

pub returns-in_err-put_directory-clause-cause : goal.returns-in_err-put_directory-clause-cause
returns-in_err-put_directory-clause-cause g c =
    causes_error _ _ _ _ _ _ _ refl (λ h. h) c.from_residual-in_err-put_directory.ensures.1 c.in_err-put_directory.ensures.cause

pub returns-clause-looks : goal.returns-clause-looks
returns-clause-looks g c =
    look_then g.D.Device.medium c.args.file.now c.put_directory.new.file c.put_directory-2.new.file c.in_ok-put_directory.ensures.looks
    c.put_directory-2.ensures.looks

pub returns-clause-cause : goal.returns-clause-cause
returns-clause-cause g c =
    let current = c.in_ok-put_directory.ensures in
    causes_then _ _ _ _ _ c.put_directory-2.result current.cause current.looks.reads.stays c.put_directory-2.ensures.cause
