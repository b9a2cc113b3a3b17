use Rattle.std.proofs.Common.{◌∙◌, sym}
use Rattle.std.proofs.lemmas.Bool.{eq-eqb, eqb-true}
use Rattle.block_handles.proofs.LockSums.{locked-none, none-locked}
use Rattle.geos_kernel.proofs.kernel.none_locked.Goals as goal

pub returns : goal.returns
returns c = (
  λ is. none-locked c.args.blocks.now c.vm_locks.ensures.laid (sym c.vm_locks.ensures.sum ∙ eqb-true c.vm_locks.result 0 is),
  λ none. eq-eqb c.vm_locks.result 0 (c.vm_locks.ensures.sum ∙ locked-none c.args.blocks.now c.vm_locks.ensures.laid none),
)
