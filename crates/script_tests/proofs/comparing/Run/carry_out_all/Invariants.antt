use Rattle.vm_blocks.specs.Listed.{NoneLocked}
use Rattle.geos_cli.specs.Begun.{IsBegunOn}
use Rattle.script_tests.proofs.comparing.Run.carry_out_all.Given as goal

abbrev pub invariant-loop-line : goal.invariant-loop-line
invariant-loop-line g l =
    NoneLocked l.kernel.core.blocks
    × IsBegunOn l.self.checked.now l.self.progress.first
    × IsBegunOn l.self.checked.now l.self.first
