use Rattle.std.proofs.Common.{◌∙◌, sym}
use Rattle.geos_text.specs.Words.{words}
use Rattle.script_commands.specs.Names.{names_of}
use Rattle.geos_cli.proofs.NamedRun.{admitted-named}
use Rattle.script_tests.proofs.comparing.Run.carry_out.Goals as goal

pub carry_out_next-carried-requires-clause-admitted : goal.carry_out_next-carried-requires-clause-admitted
carry_out_next-carried-requires-clause-admitted g c = admitted-named c.args.self.now.checked.now (names_of c.deref.result.now)
    (words c.args.line.now) c.in-Some.command (sym c.in_ok-command.ensures ∙ c.in-Some.is)

pub shown_in-requires : goal.shown_in-requires
shown_in-requires g c = admitted-named c.args.self.now.checked.now (names_of c.deref.result.now) (words c.args.line.now) c.in-Some.command
    (sym c.in_ok-command.ensures ∙ c.in-Some.is)
