-- What the image of a code has of the code.
use Rattle.std.proofs.Common.{◌≡◌, ◌∙◌, List, [], ◌∷◌, map, refl, ap}
use Rattle.geos_image.specs.declared.instr.Instr.{Instr}
use Rattle.geos_image.specs.declared.point.Point.{Point}
use Rattle.geos_image.specs.Keys.{key_flags}
use Rattle.geos_image.specs.Parts.{instrs_of}
use Rattle.geos_image.proofs.Kept.{kept-instrs}
use Rattle.geos_source.specs.Texts.{Code}
use Rattle.geos_source.specs.Skeletons.{blank_point, bare_whole, skeleton}

blank_instrs : (instrs : List Instr) → map (λ (point : Point). point.instr) (map blank_point instrs) ≡ instrs
blank_instrs [] = refl
blank_instrs (i ∷ instrs) = ap (λ (rest : List Instr). i ∷ rest) (blank_instrs instrs)

-- it has the instructions of the code
pub skeleton-code : (code : Code) → map (λ (point : Point). point.instr) (skeleton code).points ≡ code.instrs
skeleton-code code =
    let whole = bare_whole code in
    kept-instrs (key_flags whole.routines (instrs_of whole.points)) whole.points ∙ blank_instrs code.instrs
