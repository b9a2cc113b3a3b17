use Rattle.std.proofs.Common.{◌∙◌, drop, sym}
use Rattle.geos_text.specs.Words.{words}
use Rattle.geos_scripts.proofs.Walked.{behind-found}
use Rattle.geos_scripts.proofs.keeping.arrow_fault.Goals as goal

pub returns-then-is_call : goal.returns-then-is_call
returns-then-is_call c = λ image.
    behind-found image (words c.args.line.now) c.in_ok-arrow.arrow (words (drop c.in_ok-arrow.arrow.end c.args.line.now)) c.in_ok-arrow.ensures.arrow
    (sym c.is_call.ensures ∙ c.if-is_call.true) c.kept_fault.result (c.kept_fault.ensures image)
