use Rattle.std.proofs.Common.{◌≡◌, ◌≢◌, ◌≤◌, ◌<◌, ℕ, length, Some, None}
use Rattle.geos_image.specs.declared.row.Row.{Row}
use Rattle.geos_code.specs.Known.{known_at}
use Rattle.geos_rows.proofs.unreached.guess.Given as goal

-- the table has what is known before pc
abbrev pub invariant-loop-pc : goal.invariant-loop-pc
invariant-loop-pc l = record {
  long : length l.from ≡ 4096;
  same : (pc : ℕ) → l.body.start ≤ pc → pc < l.pc → known_at l.from pc ≡ known_at l.known pc;
}

-- what is known stays, and each place from pc on has a row
abbrev pub invariant-loop-pc-2 : goal.invariant-loop-pc-2
invariant-loop-pc-2 l = record {
  long : length l.from ≡ 4096;
  low : l.body.start ≤ l.pc;
  same : (pc : ℕ) (row : Row) → l.body.start ≤ pc → pc < l.body.end → known_at l.known pc ≡ Some row → known_at l.from pc ≡ Some row;
  there : (pc : ℕ) → l.pc ≤ pc → pc < l.body.end → known_at l.from pc ≢ None;
}
