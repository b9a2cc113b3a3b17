use Rattle.std.proofs.Common.{subst, sym}
use Rattle.geos_asm.specs.Assembling.{IsAssembled, RunsIfAnyDoes}
use Rattle.geos_asm.proofs.Found.{assembled_keyed, runs_if_any}
use Rattle.geos_asm.proofs.assembler.assemble_with_lines.Goals as goal

pub returns-in-Ok-clause-image : goal.returns-in-Ok-clause-image
returns-in-Ok-clause-image c = subst (IsAssembled c.args.text.now) (sym c.into_keyed.ensures.value)
    (assembled_keyed c.args.text.now c.in-Ok.made.whole c.into_keyed.ensures.formed c.in-Ok.ensures.whole)

pub returns-in-Ok-clause-accepted : goal.returns-in-Ok-clause-accepted
returns-in-Ok-clause-accepted c = subst (RunsIfAnyDoes c.args.text.now) (sym c.into_keyed.ensures.value)
    (runs_if_any c.args.text.now c.in-Ok.made.whole c.in-Ok.ensures.whole)
