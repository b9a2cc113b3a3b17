use Rattle.std.proofs.Common.{arith}
use Rattle.geos_terms.proofs.ArrayPlaces.{element-ends}
use Rattle.chunk_array.proofs.look.Found.place.Goals as goal

pub overflow_sub-result : goal.overflow_sub-result
overflow_sub-result c =
    let s = c.requires.shape in
    let from = c.start-begin.ensures.start s.array s.is in
    let to = c.start-end.ensures.start s.array s.is in
    let e = element-ends s.array c.args.index (omega (arith, s.count, c.requires.known)) in
    omega (arith, from, to, e)

pub returns-clause-end : goal.returns-clause-end
returns-clause-end c a is =
    omega (arith, overflow_sub-result c, c.start-end.ensures.start a is)
