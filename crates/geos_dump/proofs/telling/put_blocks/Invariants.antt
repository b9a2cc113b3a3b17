use Rattle.std.proofs.Common.{◌≡◌}
use Rattle.geos_dump.specs.Sides.{IsOnlyRead}
use Rattle.geos_dump.proofs.telling.put_blocks.Given as goal

abbrev pub invariant-loop-i : goal.invariant-loop-i
invariant-loop-i g l =
    let d = g.D.Device in
    record {
      looks : IsOnlyRead d.medium l.fn.file l.file;
      count : d.medium.failed l.file.device ≡ d.medium.failed l.fn.file.device;
    }
