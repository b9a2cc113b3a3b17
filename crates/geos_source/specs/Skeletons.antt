-- The image of a code of which nothing is found yet.
use Rattle.std.specs.Prelude.{false, [], ◌∷◌, map, Some}
use Rattle.geos_image.specs.declared.instr.Instr.{Instr}
use Rattle.geos_image.specs.declared.routine.Routine.{Routine}
use Rattle.geos_image.specs.Open.{open_row}
use Rattle.geos_image.specs.declared.point.Point.{Point}
use Rattle.geos_image.specs.Parts.{Parts}
use Rattle.geos_image.specs.Keys.{keyed_of}
use Rattle.geos_source.specs.declared.progress.TextRoutine.{TextRoutine}
use Rattle.geos_source.specs.Texts.{Code}

-- a routine of a text, without its line
abbrev pub routine_of : TextRoutine → Routine
routine_of r = r.routine

-- an instruction where nothing is known and nothing is to be paid
abbrev pub blank_point : Instr → Point
blank_point i = record { instr = i; row = Some open_row; potential = record { constant = 0; coefficients = 0 ∷ 0 ∷ 0 ∷ 0 ∷ [] } }

-- the code with such a point for each instruction
abbrev pub bare_whole : Code → Parts
bare_whole code = record { keyed = false; routines = map routine_of code.routines; points = map blank_point code.instrs }

-- the image of version 2 of that
abbrev pub skeleton : Code → Parts
skeleton code = keyed_of (bare_whole code)
