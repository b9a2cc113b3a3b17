use Rattle.vm_blocks.proofs.Freed.{DropsTo}
use Rattle.vm_blocks.proofs.commit.free_all.Given as goal

abbrev pub invariant-loop-h : goal.invariant-loop-h
invariant-loop-h l = DropsTo l.fn.blocks l.blocks l.h
