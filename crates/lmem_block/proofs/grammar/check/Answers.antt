use Rattle.lmem_block.proofs.Marking.{blank}
use Rattle.lmem_block.proofs.grammar.check.Goals as goal

pub is_full-requires-clause-blank : goal.is_full-requires-clause-blank
is_full-requires-clause-blank c k = blank 1024 k

pub is_full-requires-2-clause-blank : goal.is_full-requires-2-clause-blank
is_full-requires-2-clause-blank c k = blank 16384 k
