use Rattle.std.proofs.Common.{◌≤◌}
use Rattle.takhvoi.specs.Lists.{Lists, is_chunk}
use Rattle.takhvoi.proofs.lists.list_chunks.Given as goal

abbrev pub invariant-loop-c : goal.invariant-loop-c
invariant-loop-c l = (l.count ≤ l.c) × Lists (is_chunk l.name) l.c l.kernel.core l.count l.fn.into l.into
