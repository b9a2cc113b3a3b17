use Rattle.std.proofs.Common.{◌≡◌, ◌-◌, ◌≤◌, length, take}
use Rattle.lmem_raw.specs.Bytes.{part}
use Rattle.vm_file.specs.Outcomes.{ReadsOnly}
use Rattle.vm_file.proofs.changes.front_that_stands.Given as goal

abbrev pub invariant-loop-n : goal.invariant-loop-n
invariant-loop-n g l =
    let d = g.D.Device in
    record {
      bound : l.n ≤ length l.bytes;
      long : length l.buffer ≡ 16384;
      reads : ReadsOnly d.medium l.fn.device l.device;
      count : d.medium.failed l.device ≡ d.medium.failed l.fn.device;
      stands : d.medium.honest l.fn.device → part (d.medium.image l.fn.device) l.at l.n ≡ take l.n l.bytes;
    }

abbrev pub decreases-loop-n : goal.decreases-loop-n
decreases-loop-n g l = length l.bytes - l.n
