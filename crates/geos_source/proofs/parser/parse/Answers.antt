use Rattle.std.proofs.Common.{◌∙◌, length, ap}
use Rattle.geos_source.specs.Views.{declared_of, draft_in}
use Rattle.geos_source.proofs.TextLaws.{code_of-found}
use Rattle.geos_source.proofs.Ended.{no_fault-formed}
use Rattle.geos_source.proofs.Counted.{code-counted, no_fault-parts}
use Rattle.geos_source.proofs.parser.parse.Goals as goal

pub returns-clause-parsed : goal.returns-clause-parsed
returns-clause-parsed c =
    code_of-found c.args.text.now (declared_of c.in_ok-declarations.declarations) (draft_in c.in_ok-draft.draft) _
    c.in_ok-declarations.ensures c.in_ok-draft.ensures.said c.in-None.ensures

pub returns-clause-formed : goal.returns-clause-formed
returns-clause-formed c = no_fault-formed c.args.text.now _ (returns-clause-parsed c)

pub returns-clause-lines : goal.returns-clause-lines
returns-clause-lines c =
    let none = no_fault-parts c.args.text.now _ _ _ c.in-None.ensures in
    c.in_ok-draft.ensures.lines none.0 none.1

pub returns-clause-each : goal.returns-clause-each
returns-clause-each c = ap length (returns-clause-lines c) ∙ code-counted c.args.text.now _ (returns-clause-parsed c)

pub returns-in-Some-clause-bad : goal.returns-in-Some-clause-bad
returns-in-Some-clause-bad c =
    code_of-found c.args.text.now (declared_of c.in_ok-declarations.declarations) (draft_in c.in_ok-draft.draft) _
    c.in_ok-declarations.ensures c.in_ok-draft.ensures.said c.in-Some.ensures
