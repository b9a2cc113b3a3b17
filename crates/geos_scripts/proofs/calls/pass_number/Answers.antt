use Rattle.std.proofs.Common.{refl}
use Rattle.geos_scripts.proofs.Walked.{number-more, number-so}
use Rattle.geos_scripts.proofs.calls.pass_number.Goals as goal

pub returns-in-None-clause-walked : goal.returns-in-None-clause-walked
returns-in-None-clause-walked c = λ routine all left there walked.
    number-more c.args.names.now.uses routine all left c.args.word.bytes.now c.args.passed _ walked c.requires.alone c.requires.number refl refl
    c.in-None.ensures.0 (c.in-None.ensures.1 routine there)

pub returns-in-Some-clause-so : goal.returns-in-Some-clause-so
returns-in-Some-clause-so c = λ routine all left walked.
    number-so c.args.names.now.uses routine all left c.args.passed c.args.image.now c.args.word c.in-Some.fault walked c.requires.alone
    c.requires.number c.in-Some.ensures
