use Rattle.std.proofs.Common.{◌≡◌, length, sym, ap, subst, ◌∙◌, arith}
use Rattle.geos_flow.specs.Marks.{no_marks}
use Rattle.geos_flow.specs.Waiting.{count, Has}
use Rattle.geos_flow.proofs.Marked.{count-none, none-full, none-marked}
use Rattle.geos_flow.proofs.waiting.Waiting.new.Goals as goal

count-no_marks : count no_marks ≡ 0
unfolding no_marks
count-no_marks = count-none 4096

pub returns-clause-kept : goal.returns-clause-kept
returns-clause-kept c = record {
  long = ap length c.no_marks.ensures ∙ none-full;
  next = omega arith;
  end = sym (ap count c.no_marks.ensures ∙ count-no_marks);
  has = λ n less. absurd (omega arith);
}

pub returns-clause-none : goal.returns-clause-none
returns-clause-none c = λ k has. none-marked k (subst (λ m. Has m k) c.no_marks.ensures has)
