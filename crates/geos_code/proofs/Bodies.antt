-- Where a routine's instructions lie.
use Rattle.std.proofs.Common.{◌≡◌, ◌<◌, ◌≤◌, ◌+◌, ℕ, true, [], length, Some, slice_get, arith}
use Rattle.geos_image.specs.declared.routine.Routine.{Routine}
use Rattle.geos_image.specs.Parts.{Parts, start_of}
use Rattle.geos_image.specs.Legal.{is_image}
use Rattle.geos_image.proofs.Instrs.{image_parts}
use Rattle.geos_image.proofs.Starts.{start_of-end}
use Rattle.geos_verify.proofs.Leads.{routine_parts}
use Rattle.geos_code.specs.declared.body.Body.{Body}
use Rattle.geos_code.specs.Code.{IsPcOf}

is-pc : (image : Parts) (r start end pc : ℕ) → start ≡ start_of image.routines r → end ≡ start_of image.routines (r + 1)
    → start ≤ pc → pc < end → IsPcOf image r pc
is-pc image r start end pc begins ends low high = record { above = omega arith; below = omega arith }

-- the instructions of a body are those of its routine
pub in-body : (body : Body) (pc : ℕ) → body.start ≤ pc → pc < body.end → IsPcOf body.image.now body.r pc
in-body body pc low high = is-pc body.image.now body.r body.start body.end pc body.begins body.ends low high

-- where a routine lies
pub lies : (image : Parts) → is_image image ≡ true → (r : ℕ) (routine : Routine) → slice_get image.routines r ≡ Some routine
    → (start_of image.routines r + routine.count ≤ length image.points) × (0 < routine.count) × (length image.points ≤ 4096)
lies image legal r routine there =
    let parts = image_parts image legal in
    let end = start_of-end image.routines r routine there in
    let counts = parts.counts in
    (omega arith, (routine_parts image.keyed [] image.routines r routine parts.routines there).count, parts.short)
