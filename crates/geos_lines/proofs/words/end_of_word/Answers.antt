use Rattle.std.proofs.Common.{rules, tests, ◌∙◌, ap, length}
use Rattle.std.specs.Prelude.{unwrap_or}
use Rattle.std.proofs.lemmas.Iterator.{YieldsList-from_slice}
use Rattle.std.proofs.lemmas.Iterator.Search.{position_from_yields_List}
use Rattle.geos_text.proofs.LineLaws.{position_or_else}
use Rattle.geos_lines.proofs.words.end_of_word.Goals as goal

pub returns-clause-place : goal.returns-clause-place
returns-clause-place c =
    let found = position_from_yields_List _ _ _ c.position.result c.position.ensures.ran
    (YieldsList-from_slice c.args.line.now cc) (λ x b q k. search (rules, tests)) in
    c.unwrap_or.ensures ∙ ap (λ r. unwrap_or r (length c.args.line.now)) found ∙ position_or_else _ c.args.line.now
