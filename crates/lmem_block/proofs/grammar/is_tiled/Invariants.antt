use Rattle.std.proofs.Common.{length, ◌-◌, ◌/◌, ◌≡◌, ◌%◌, ◌≤◌, ◌↔◌}
use Rattle.geos_terms.specs.Block.{table_end}
use Rattle.lmem_block.specs.Check.{CanGoOn, IsTiled, marks_from}
use Rattle.lmem_block.proofs.grammar.is_tiled.Given as goal

abbrev pub invariant-loop-at : goal.invariant-loop-at
invariant-loop-at l = record {
  same : IsTiled l.block ↔ CanGoOn l.block l.starts l.at l.free l.sum l.left;
  marks : marks_from l.starts (l.at / 4) ≤ l.left;
  fours : l.at % 4 ≡ 0;
  from : table_end l.block ≤ l.at;
  upto : l.at ≤ length l.block;
  small : l.sum ≤ l.at;
}

abbrev pub decreases-loop-at : goal.decreases-loop-at
decreases-loop-at l = length l.block - l.at
