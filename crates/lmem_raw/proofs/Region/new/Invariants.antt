use Rattle.std.proofs.Common.{◌≡◌, ◌+◌, replicate}
use Rattle.lmem_raw.proofs.Region.new.Given as goal

-- as many zeros as turns, and room for the rest, where it was allocated
abbrev pub invariant-loop-i : goal.invariant-loop-i
invariant-loop-i l = record {
  zeros : l.raw.bytes ≡ replicate l.i 0;
  room : l.raw.spare + l.i ≡ l.size;
  place : l.raw.ptr ≡ l.token.ptr;
}
