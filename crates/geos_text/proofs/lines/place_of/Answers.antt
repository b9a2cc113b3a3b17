use Rattle.std.proofs.Common.{◌∙◌}
use Rattle.geos_text.proofs.LineLaws.{first_byte_or_else}
use Rattle.geos_text.proofs.lines.place_of.Goals as goal

pub returns-clause-place : goal.returns-clause-place
returns-clause-place c = c.unwrap_or.ensures ∙ first_byte_or_else _ c.args.text.now c.memchr.result c.memchr.ensures
