use Rattle.std.proofs.Common.{◌≡◌, ◌≤◌, ◌+◌, ◌++◌, List, drop, length}
use Rattle.geos_source.specs.declared.fault.BadLine.{BadLine}
use Rattle.geos_lines.specs.Faulty.{IsFound, all_faults, faults_from}
use Rattle.geos_lines.proofs.faulty.faulty_lines.Given as goal

abbrev pub invariant-loop-i : goal.invariant-loop-i
invariant-loop-i l = record {
  earlier : List BadLine;
  found : IsFound earlier l.faulty.lines.items l.faulty.more;
  rest : all_faults l.faults ≡ earlier ++ faults_from (l.i + 1) (drop l.i l.faults.lines.items);
  few : length l.faulty.lines.items + l.faulty.more ≤ l.i + 1;
}
