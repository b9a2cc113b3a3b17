use Rattle.std.proofs.Common.{◌≤◌, take}
use Rattle.vm_blocks.specs.Listed.{NoneLocked}
use Rattle.geos_cli.specs.Begun.{IsBegunOn}
use Rattle.script_tests.specs.Expected.{expecting_of}
use Rattle.script_tests.proofs.running.run_lines.Given as goal

abbrev pub invariant-loop-line : goal.invariant-loop-line
invariant-loop-line g l =
    (l.passed ≤ expecting_of (take l.line-index l.fn.lines))
    × NoneLocked l.kernel.core.blocks
    × IsBegunOn l.run.checked.now l.run.progress.first
