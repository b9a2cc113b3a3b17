use Rattle.std.specs.Prelude.{◌≡◌, length}
use Rattle.geos_image.specs.Parts.{start_of}
use Rattle.geos_verify.specs.Rules.{AcceptedBelow}
use Rattle.geos_verify.specs.Touched.{NotesBelow}
use Rattle.geos_verify.proofs.checked.first_refusal.Given as goal

-- nothing is refused before routine r, and the table says what the routines below it touch
abbrev pub invariant-loop-r : goal.invariant-loop-r
invariant-loop-r l = AcceptedBelow l.image (start_of l.image.routines l.r) × NotesBelow l.image l.touched l.r × (length l.touched ≡ 32)
