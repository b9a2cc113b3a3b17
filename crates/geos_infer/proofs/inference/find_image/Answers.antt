use Rattle.std.proofs.Common.{sym, subst, rules}
use Rattle.geos_image.specs.Parts.{Parts}
use Rattle.geos_potentials.specs.Constants.{HasLeastConstants, HasCoefficientsForLoops, PaysForLoops}
use Rattle.geos_potentials.specs.Numbers.{numbers_of}
use Rattle.geos_rows.specs.Reached.{AllHoldWhereReached}
use Rattle.geos_rows.proofs.Held.{fit-alike}
use Rattle.geos_infer.specs.Theorem.{FindsWhatThereIs, with_points}
use Rattle.geos_infer.proofs.Found.{found-formed, found-code, found-acceptable, made-formed, made-is, made-code}
use Rattle.geos_infer.proofs.Answering.{least-given, paid-given, for-given}
use Rattle.geos_infer.proofs.Holding.{fit-holds}
use Rattle.geos_infer.proofs.inference.find_image.Goals as goal

pub of_formed-requires : goal.of_formed-requires
of_formed-requires c =
    let image = c.args.skeleton.now in
    let points = c.in_ok-points.points.items in
    let formed = found-formed image c.in_ok-known.field-0.known (numbers_of c.in_ok-known.field-0.potentials) points c.len-legal.ensures.legal c.in_ok-points.ensures in
    made-formed image c.in_ok-routines.routines.items points c.in_ok-routines.ensures formed

pub returns-clause-found : goal.returns-clause-found
returns-clause-found c =
    let image = c.args.skeleton.now in
    let made = c.of_formed.result in
    let legal = c.len-legal.ensures.legal in
    let solved = c.in_ok-known.ensures in
    let known = c.in_ok-known.field-0.known in
    let numbers = numbers_of c.in_ok-known.field-0.potentials in
    let points = c.in_ok-points.points.items in
    let P = c.in_ok-points.ensures in
    let is = made-is image made c.in_ok-routines.routines.items points c.in_ok-routines.ensures c.of_formed.ensures in
    let codes = found-code image known numbers points P in
    let hold : AllHoldWhereReached (with_points image points) =
    (λ r lt. fit-holds image known numbers points P codes r (solved.fit r lt)) in
    record {
      code = made-code image made points is codes;
      all = search rules;
      rows = subst AllHoldWhereReached (sym is) hold;
      alike = λ r lt. fit-alike image r known (solved.fit r lt);
      paid = subst PaysForLoops (sym is) (paid-given image legal known numbers points P codes solved.least);
      least = subst HasLeastConstants (sym is) (least-given image legal known numbers points P codes solved.least);
      wanted = subst HasCoefficientsForLoops (sym is) (for-given image legal known numbers points P codes solved.least);
      what_there_is = subst (λ (x : Parts). FindsWhatThereIs image x) (sym is)
          (found-acceptable image legal known numbers points solved.flowed solved.counted P);
    }
