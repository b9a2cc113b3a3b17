use Rattle.std.proofs.Common.{sym, ◌∙◌}
use Rattle.geos_grants.proofs.Sets.{united-has}
use Rattle.geos_grants.proofs.effects.Effects.or.Goals as goal

pub returns-clause-each : goal.returns-clause-each
returns-clause-each c =
    let a = c.args.self.now in
    let b = c.args.other.now in
    rw (
      c.one_of.ensures,
      c.either.ensures,
      c.either-2.ensures,
      c.one_of-2.ensures,
      c.one_of-3.ensures,
      c.one_of-4.ensures,
      c.one_of-5.ensures,
      c.one_of-6.ensures,
      c.one_of-7.ensures,
    ) (united-has a b (c.have_four.ensures ∙ sym c.have_four-2.ensures) (c.have_four-3.ensures ∙ sym c.have_four-4.ensures))
