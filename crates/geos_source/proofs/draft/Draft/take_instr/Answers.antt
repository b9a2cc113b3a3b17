use Rattle.std.proofs.Common.{◌∙◌, sym, ap}
use Rattle.geos_source.specs.Texts.{why_of}
use Rattle.geos_source.proofs.Quiet.{some_there}
use Rattle.geos_source.proofs.Counted.{instr-quiet}
use Rattle.geos_source.proofs.draft.Draft.take_instr.Goals as goal

pub returns-in-Err-default-clause-lines : goal.returns-in-Err-default-clause-lines
returns-in-Err-default-clause-lines c = λ short quiet.
    let none = instr-quiet c.args.line c.args.read _ _ c.args.self.now.progress _ c.take_instr-self.ensures c.why_of_instr-why.ensures quiet in
    absurd (some_there c.in-Err-default.field-0-0 (sym (ap why_of c.in-Err-default.is-0) ∙ none.1))
