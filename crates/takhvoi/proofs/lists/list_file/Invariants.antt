use Rattle.std.proofs.Common.{◌≤◌}
use Rattle.takhvoi.specs.Lists.{Lists, is_listed}
use Rattle.takhvoi.proofs.lists.list_file.Given as goal

abbrev pub invariant-loop-h : goal.invariant-loop-h
invariant-loop-h l = (l.count ≤ l.h) × Lists is_listed l.h l.kernel.core l.count l.fn.into l.into
