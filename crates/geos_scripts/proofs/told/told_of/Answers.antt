use Rattle.std.proofs.Common.{◌∙◌, ap}
use Rattle.script_commands.specs.BadLines.{first_of, numbers}
use Rattle.geos_scripts.proofs.Laws.{first-named}
use Rattle.geos_scripts.proofs.told.told_of.Goals as goal

pub returns : goal.returns
returns c =
    c.first_number-first.ensures ∙ ap first_of (ap numbers c.deref-lines.ensures.value ∙ c.in_ok-bad.ensures)
    ∙ first-named c.args.names c.args.checked.now c.args.script.now
