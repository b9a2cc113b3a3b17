use Rattle.std.proofs.Common.{◌∙◌, ◌+◌, ◌++◌, ◌<◌, ◌≤◌, length, refl, sym, ap, subst, arith, append-nil}
use Rattle.std.proofs.lemmas.List.{drop_all}
use Rattle.geos_source.specs.Faults.{at_line}
use Rattle.geos_lines.specs.Faulty.{IsFound, faults_from, listed}
use Rattle.geos_lines.proofs.Found.{next-line}
use Rattle.geos_lines.proofs.Silent.{found-silent}
use Rattle.geos_lines.proofs.faulty.faulty_lines.Goals as goal

pub loop-i-init : goal.loop-i-init
loop-i-init c = record {
  earlier = listed c.in_ok-faults.faults.rest;
  found = c.in_ok-faulty.ensures.found;
  rest = refl;
  few = omega (arith, c.in_ok-faulty.ensures.few);
}

pub loop-i-preserved : goal.loop-i-preserved
loop-i-preserved c =
    let whys = c.in_ok-faults.faults.lines.items in
    let so_far = c.loop-i.invariant in
    let why = c.index.result.now in
    let within : c.loop-i.i < length whys = omega (arith, c.len-i-end.ensures) in
    record {
      earlier = so_far.earlier ++ listed (at_line (c.loop-i.i + 1) why);
      found = c.in_ok-take_line.ensures.found so_far.earlier so_far.found;
      rest = so_far.rest ∙ next-line whys c.loop-i.i why so_far.earlier within c.index.ensures;
      few = omega (arith, so_far.few, c.in_ok-take_line.ensures.few);
    }

pub returns-clause-faults : goal.returns-clause-faults
returns-clause-faults c =
    let faults = c.in_ok-faults.faults in
    let whys = faults.lines.items in
    let so_far = c.loop-i.invariant in
    let past : length whys ≤ c.loop-i.i = omega (arith, c.len-i-end.ensures) in
    let all = so_far.rest ∙ ap (λ d. so_far.earlier ++ faults_from (c.loop-i.i + 1) d) (drop_all c.loop-i.i whys past) ∙ append-nil so_far.earlier in (
      faults,
      c.in_ok-faults.ensures,
      subst (λ fs. IsFound fs c.loop-i.faulty.lines.items c.loop-i.faulty.more) (sym all) so_far.found,
    )

pub returns-clause-silent : goal.returns-clause-silent
returns-clause-silent c = found-silent c.args.text.now _ _ (returns-clause-faults c)
