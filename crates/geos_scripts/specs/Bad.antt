-- The bad lines of a script.
use Rattle.std.specs.Prelude.{ℕ, List, [], Option}
use Rattle.std.specs.Str.Lines.{lines}
use Rattle.geos_image.specs.Parts.{Parts}
use Rattle.script_commands.specs.Lines.{first_bad}
use Rattle.script_commands.specs.Names.{first_bad_in, lines_said}
use Rattle.script_commands.specs.BadLines.{bad_lines, bad_lines_with_names}
use Rattle.geos_scripts.specs.declared.names.NameUse.{NameUse}
use Rattle.geos_scripts.specs.declared.names.NameUse.TheVariants.{Allowed, Refused}

-- the lines that are bad, in a script whose lines may write names, or may not
abbrev pub bad_ones : NameUse → Parts → List ℕ → List ℕ
bad_ones Allowed image script = bad_lines_with_names image script
bad_ones Refused image script = bad_lines image script

-- the line that a run of the script names, if it does not begin
abbrev pub named_by_run : NameUse → Parts → List ℕ → Option ℕ
named_by_run Allowed image script = first_bad_in image [] (lines_said script)
named_by_run Refused image script = first_bad image (lines script)
