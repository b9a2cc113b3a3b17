use Rattle.std.proofs.Common.{◌≡◌, true, ◌∙◌}
use Rattle.geos_image.proofs.KeyLaws.{keyed_short}
use Rattle.geos_image.proofs.image.Image.with_keys.Goals as goal

pub returns-then-not-is_short-clause-some : goal.returns-then-not-is_short-clause-some
returns-then-not-is_short-clause-some c = (
  (λ e. absurd cc),
  (λ h.
      let short = keyed_short c.args.routines.items c.args.points.items c.args.rows.items h in
      let is_short : c.is_short.result ≡ true = c.is_short.ensures ∙ rw (c.deref.ensures.value, c.deref-2.ensures.value) short in
      let no = c.if-not-is_short.true in
      absurd cc),
)
