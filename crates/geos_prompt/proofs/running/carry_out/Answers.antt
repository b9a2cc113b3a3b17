use Rattle.std.proofs.Common.{◌∙◌, sym}
use Rattle.geos_text.specs.Words.{words}
use Rattle.script_commands.specs.Names.{names_of}
use Rattle.geos_cli.proofs.NamedRun.{admitted-named}
use Rattle.geos_prompt.proofs.running.carry_out.Goals as goal

pub carry_out_next-requires-clause-admitted : goal.carry_out_next-requires-clause-admitted
carry_out_next-requires-clause-admitted g c = admitted-named c.args.checked.now (names_of c.args.names.now) (words c.args.line.now)
    c.in-Some.command (sym c.in_ok-command.ensures ∙ c.in-Some.is)
