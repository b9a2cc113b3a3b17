use Rattle.std.proofs.Common.{rules, arith}
use Rattle.geos_image.specs.Parts.{Parts}
use Rattle.geos_image.specs.Reading.{image_at, Gives}
use Rattle.geos_image.proofs.ImageLaws.{found_by}
use Rattle.geos_image.proofs.reader.read.Goals as goal

pub returns-then-keyed-clause-found : goal.returns-then-keyed-clause-found
unfolding image_at
returns-then-keyed-clause-found c =
    let exact : Gives (λ (image : Parts). image) c.keyed_at.result (image_at c.args.bytes.now) = search rules in
    found_by c.args.bytes.now c.keyed_at.result (λ i. omega (arith, c.type_inv.bytes i)) exact

pub returns-clause-found : goal.returns-clause-found
unfolding image_at
returns-clause-found c =
    let exact : Gives (λ (image : Parts). image) c.whole_at.result (image_at c.args.bytes.now) = search rules in
    found_by c.args.bytes.now c.whole_at.result (λ i. omega (arith, c.type_inv.bytes i)) exact
