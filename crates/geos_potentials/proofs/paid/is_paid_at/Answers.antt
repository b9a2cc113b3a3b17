use Rattle.std.proofs.Common.{◌≡◌, ◌≤◌, Bool, true, false, ap, ◌∙◌, arith}
use Rattle.std.specs.Prelude.{slice_get}
use Rattle.std.proofs.lemmas.Bool.{leb-true}
use Rattle.geos_verify.proofs.Places.{if_some}
use Rattle.geos_potentials.specs.Constants.{IsPaidOver}
use Rattle.geos_potentials.specs.Count.{return_steps}
use Rattle.geos_potentials.specs.Numbers.{numbers_of}
use Rattle.geos_potentials.proofs.Numbered.{numbers-at}
use Rattle.geos_potentials.proofs.paid.is_paid_at.Goals as goal

pub returns : goal.returns
returns c = λ is. record {
  edges = edges;
  returns = λ point there.
      let body = c.args.body.now in
      let less : c.return_steps.result ≤ c.from.result = leb-true c.return_steps.result c.from.result is in
      let same : c.instr.result.now ≡ point.instr = if_some (λ x. c.instr.result.now ≡ x.instr)
      (slice_get body.image.now.points c.args.pc) point there c.instr.ensures.there in
      let steps : c.return_steps.result ≡ return_steps point.instr = c.return_steps.ensures ∙ ap return_steps same in
      let constant = (numbers-at c.args.potentials.now c.args.pc c.get.result.now c.get.ensures).0 in
      omega (arith, less, steps, constant, c.from.ensures);
}
  where
    edges : (branch : Bool) → IsPaidOver c.args.body.now.image.now c.args.body.now.r c.args.known.now (numbers_of c.args.potentials.now) c.args.pc branch
    edges false = c.is_paid_over.ensures c.if-not-is_paid_over.false
    edges true = c.is_paid_over-else-not-is_paid_over.ensures c.if-not-is_paid_over-2.false
