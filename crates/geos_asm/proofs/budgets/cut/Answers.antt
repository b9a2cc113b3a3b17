use Rattle.std.proofs.Common.{◌∙◌, sym}
use Rattle.geos_asm.proofs.BudgetLines.{cut-whole}
use Rattle.geos_asm.proofs.budgets.cut.Goals as goal

pub returns-then-is_budget : goal.returns-then-is_budget
returns-then-is_budget c = record {
  whole = cut-whole c.args.line.now c.last_word-start.result.0 c.last_word-start.result.1 c.last_word-start.ensures.0;
  header = c.is_header.ensures c.if-is_header.true;
  budget = sym c.is_budget.ensures ∙ c.if-is_budget.true;
  begins = sym c.begins_word.ensures ∙ c.if-begins_word.true;
  ends = sym c.ends_word.ensures ∙ c.if-ends_word.true;
}
