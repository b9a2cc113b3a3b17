use Rattle.std.proofs.Common.{arith, sym, ap, ◌∙◌, ◌<◌, ◌++◌, length, subst}
use Rattle.std.specs.Io.KnownBytes.{Consumes}
use Rattle.std.proofs.lemmas.Grind.{common_steps}
use Rattle.std.proofs.KnownBytes.{Consumes-trans}
use Rattle.std.proofs.lemmas.List.{take-append-le}
use Rattle.geos_text.specs.Words.{most_bytes}
use Rattle.geos_input.proofs.read.read_all.Goals as goal

pub returns-then-len-gt-MOST_BYTES-clause-fault : goal.returns-then-len-gt-MOST_BYTES-clause-fault
returns-then-len-gt-MOST_BYTES-clause-fault g c =
    let given = c.in-Ok.ensures.bytes.0 in
    let before = c.loop.bytes.items in
    let taken = take-append-le c.in-Ok.count c.read.new.into _ (omega (arith, c.in-Ok.ensures.bound)) in
    let more = c.in_ok-extend_from_slice.ensures.items ∙ ap (λ bs. before ++ bs) taken in
    let long : most_bytes < length c.extend_from_slice.new.self.items = omega (arith, c.if-len-gt-MOST_BYTES.true, c.len-in-loop.ensures) in
    (c.extend_from_slice.new.self.items, subst (Consumes _ _) (sym more) (Consumes-trans _ _ _ _ _ c.loop.invariant.4 given), long)

pub loop-preserved : goal.loop-preserved
loop-preserved g c =
    let given = c.in-Ok.ensures.bytes.0 in
    let before = c.loop.bytes.items in
    let taken = take-append-le c.in-Ok.count c.read.new.into _ (omega (arith, c.in-Ok.ensures.bound)) in
    let more = c.in_ok-extend_from_slice.ensures.items ∙ ap (λ bs. before ++ bs) taken in (
      omega (arith, c.if-len-gt-MOST_BYTES.false, c.len-in-loop.ensures),
      grind (arith, common_steps),
      grind (arith, common_steps),
      c.in-Ok.ensures.kept ∙ c.loop.invariant.3,
      subst (Consumes _ _) (sym more) (Consumes-trans _ _ _ _ _ c.loop.invariant.4 given),
    )
