use Rattle.std.proofs.Common.{refl}
use Rattle.geos_image.specs.Reading.{fields_at}
use Rattle.geos_image.proofs.reader.points.fields_at.Goals as goal

pub returns-clause-exact : goal.returns-clause-exact
unfolding fields_at
returns-clause-exact c =
    rw (
      ← c.facts.ensures,
      ← c.in_ok-a.ensures.exact,
      ← c.in_ok-b.ensures.exact,
      ← c.in_ok-c.ensures.exact,
      ← c.in_ok-d.ensures.exact,
      ← c.in_ok-byte_below.ensures.exact,
      ← c.in_ok-imm.ensures.exact,
      ← c.in_ok-target.ensures.exact,
    ) refl
