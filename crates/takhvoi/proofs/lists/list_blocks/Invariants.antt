use Rattle.std.proofs.Common.{◌≤◌}
use Rattle.std.specs.Prelude.{Ok}
use Rattle.geos_kernel.specs.Kernel.{Calls, LeavesVm}
use Rattle.takhvoi.specs.Lists.{Lists, is_block, looks}
use Rattle.takhvoi.proofs.lists.list_blocks.Given as goal

abbrev pub invariant-loop-h : goal.invariant-loop-h
invariant-loop-h l = (l.count ≤ l.h) × Calls (Unit {0}) looks (Ok (tt {0})) l.fn.kernel.core l.kernel.core × LeavesVm l.fn.kernel l.kernel
    × Lists is_block l.h l.fn.kernel.core l.count l.fn.into l.into
