-- The first bad line of a script.
use Rattle.std.proofs.Common.{◌≡◌, ℕ, List, []}
use Rattle.std.specs.Str.Lines.{lines}
use Rattle.geos_image.specs.Parts.{Parts}
use Rattle.script_commands.specs.BadLines.{first_of}
use Rattle.script_commands.specs.Names.{lines_said}
use Rattle.script_commands.proofs.BadLaws.{first-bad, first-bad-in}
use Rattle.geos_scripts.specs.Bad.{bad_ones, named_by_run}
use Rattle.geos_scripts.specs.declared.names.NameUse.{NameUse}
use Rattle.geos_scripts.specs.declared.names.NameUse.TheVariants.{Allowed, Refused}

-- the first of the bad lines is the one that a run names
pub first-named : (names : NameUse) (image : Parts) (script : List ℕ) → first_of (bad_ones names image script) ≡ named_by_run names image script
first-named Allowed image script = first-bad-in image [] (lines_said script)
first-named Refused image script = first-bad image 1 (lines script)
