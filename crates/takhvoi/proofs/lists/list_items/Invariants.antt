use Rattle.std.proofs.Common.{◌≤◌}
use Rattle.std.specs.Prelude.{Ok}
use Rattle.geos_terms.specs.Names.{vm}
use Rattle.vm_file.specs.Outcomes.{ReadsOnly}
use Rattle.geos_kernel.specs.Kernel.{Calls}
use Rattle.host_device.specs.Journal.{medium}
use Rattle.takhvoi.specs.Lists.{Lists, brings, is_chunk}
use Rattle.takhvoi.proofs.lists.list_items.Given as goal

abbrev pub invariant-loop-c : goal.invariant-loop-c
invariant-loop-c l = (l.count ≤ l.c) × Calls (Unit {0}) (brings l.group) (Ok (tt {0})) l.fn.kernel.core l.kernel.core
    × ReadsOnly medium l.fn.kernel.device l.kernel.device × Lists (is_chunk (vm l.group)) l.c l.fn.kernel.core l.count l.fn.into l.into
