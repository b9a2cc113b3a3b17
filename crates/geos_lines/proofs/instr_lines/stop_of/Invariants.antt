use Rattle.std.proofs.Common.{◌≤◌, length, drop}
use Rattle.geos_text.specs.Words.{words}
use Rattle.geos_opcodes.specs.Fields.{fields}
use Rattle.geos_lines.specs.Forms.{kinds_of, StopsAt}
use Rattle.geos_lines.specs.declared.instr_lines.Stop.{Stop}
use Rattle.geos_lines.proofs.instr_lines.stop_of.Given as goal

abbrev pub invariant-loop-i : goal.invariant-loop-i
invariant-loop-i l =
    (l.at ≤ length l.line)
    × ((stop : Stop) → StopsAt (kinds_of l.opcode (drop l.i fields)) (words (drop l.at l.line)) stop
    → StopsAt (kinds_of l.opcode fields) (words (drop l.fn.from l.line)) stop)
