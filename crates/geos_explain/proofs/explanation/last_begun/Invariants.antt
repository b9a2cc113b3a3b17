use Rattle.std.specs.Prelude.{◌≡◌}
use Rattle.geos_explain.specs.Texts.{last_begun}
use Rattle.geos_explain.proofs.explanation.last_begun.Given as goal

abbrev pub invariant-loop-r : goal.invariant-loop-r
invariant-loop-r l = l.last ≡ last_begun l.image l.pc l.r
