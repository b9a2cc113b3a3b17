use Rattle.std.proofs.Common.{refl}
use Rattle.geos_scripts.proofs.Walked.{block-more}
use Rattle.geos_scripts.proofs.calls.pass_block.Goals as goal

pub returns-in-None-clause-walked : goal.returns-in-None-clause-walked
returns-in-None-clause-walked c = λ routine all left walked.
    block-more c.args.names.now.uses routine all left c.args.word.bytes.now c.args.passed _ walked refl refl c.in-None.ensures
