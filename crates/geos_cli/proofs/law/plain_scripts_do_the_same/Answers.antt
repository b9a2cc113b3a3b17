use Rattle.script_commands.proofs.PlainLines.{plain-command, plain-first_bad}
use Rattle.geos_cli.proofs.PlainScripts.{plain-runs}
use Rattle.geos_cli.proofs.law.plain_scripts_do_the_same.Goals as goal

pub returns : goal.returns
returns g c = record { say = plain-command; bad = plain-first_bad; run = plain-runs g.D.Device.medium }
