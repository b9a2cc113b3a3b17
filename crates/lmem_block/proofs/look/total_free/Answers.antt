use Rattle.std.proofs.Common.{arith}
use Rattle.geos_terms.proofs.Sums.{all-bytes, count-chunks}
use Rattle.lmem_block.proofs.look.total_free.Goals as goal

pub returns : goal.returns
returns c =
    omega (arith, all-bytes c.args.block.now c.requires, count-chunks c.args.block.now, c.get16.ensures)
