use Rattle.std.proofs.Common.{◌≡◌, ◌+◌, ◌-◌, ◌*◌, length}
use Rattle.geos_terms.specs.Arrays.{are_offsets, never_fall, words_from}
use Rattle.chunk_array.proofs.shape.are_offsets.Given as goal

abbrev pub invariant-loop-i : goal.invariant-loop-i
invariant-loop-i l =
    are_offsets (words_from l.bytes 8 l.count) (8 + 2 * l.count) (length l.bytes) ≡ never_fall l.last
    (words_from l.bytes (8 + 2 * l.i) (l.count - l.i)) (length l.bytes)
