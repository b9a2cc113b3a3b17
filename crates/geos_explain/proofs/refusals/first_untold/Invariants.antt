use Rattle.std.specs.Prelude.{◌≡◌, ◌≤◌, take, count_by}
use Rattle.geos_explain.specs.Told.{is_told}
use Rattle.geos_explain.proofs.refusals.first_untold.Given as goal

abbrev pub invariant-loop-pc : goal.invariant-loop-pc
invariant-loop-pc l = record {
  so_far : l.before ≡ count_by is_told (take l.pc l.refused);
  few : l.before ≤ l.most;
}
