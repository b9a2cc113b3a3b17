-- Ways within a routine on which a counter stays as it was set.
use Rattle.std.specs.Prelude.{◌≡◌, ℕ, Bool, ◌||◌, ◌==◌, not, true, List, [], ◌∷◌, Option, Some, None, slice_get}
use Rattle.geos_opcodes.specs.declared.opcode.Opcode.{Opcode}
use Rattle.geos_opcodes.specs.declared.opcode.Opcode.TheVariants.{Setk, Setkw, Loop, Call}
use Rattle.geos_image.specs.declared.instr.Instr.{Instr}
use Rattle.geos_image.specs.declared.point.Point.{Point}
use Rattle.geos_image.specs.Parts.{Parts}
use Rattle.geos_verify.specs.Touched.{touches}
use Rattle.geos_code.specs.Code.{IsPcOf}
use Rattle.geos_code.specs.Edges.{LeadsTo}

-- the edge of an instruction does not change the counter: the instruction does not set it, the edge does not leave a
-- LOOP on it at 0, and no called routine touches it
abbrev pub keeps_counter : Parts → ℕ → Instr → Opcode → Bool → Bool
keeps_counter image k i Setk branch = not (i.a == k)
keeps_counter image k i Setkw branch = not (i.a == k)
keeps_counter image k i Loop branch = branch || not (i.a == k)
keeps_counter image k i Call branch = not (touches image k i.imm)
keeps_counter image k i _ branch = true

-- the same, if a counter is given
abbrev pub keeps : Parts → Option ℕ → Instr → Opcode → Bool → Bool
keeps image None i opcode branch = true
keeps image (Some k) i opcode branch = keeps_counter image k i opcode branch

-- the instruction at a pc has an edge to one of routine r, and it keeps the counter
pub record LeadsKeeping (image : Parts) (r : ℕ) (counter : Option ℕ) (pc : ℕ) (branch : Bool) (to : ℕ) : Type 0 where
  pub leads : LeadsTo image pc branch to
  pub stays : IsPcOf image r to
  pub kept : (point : Point) → slice_get image.points pc ≡ Some point → keeps image counter point.instr point.instr.opcode branch ≡ true

-- such edges lead from a pc to another; each says whether it is the one to a target
abbrev pub IsTrail : Parts → ℕ → Option ℕ → ℕ → List Bool → ℕ → Type 0
IsTrail image r counter from [] to = from ≡ to
IsTrail image r counter from (branch ∷ branches) to = (next : ℕ) × LeadsKeeping image r counter from branch next
    × IsTrail image r counter next branches to
