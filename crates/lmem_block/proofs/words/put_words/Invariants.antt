use Rattle.std.proofs.Common.{◌≡◌, ◌+◌, ◌*◌, drop}
use Rattle.geos_terms.specs.Bytes.{with_words}
use Rattle.lmem_block.proofs.words.put_words.Given as goal

abbrev pub invariant-loop-i : goal.invariant-loop-i
invariant-loop-i l = with_words l.block (l.at + 2 * l.i) (drop l.i l.words) ≡ with_words l.fn.block l.at l.words
