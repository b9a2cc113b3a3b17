-- The number of a refusal tells the refusal.
use Rattle.std.proofs.Common.{◌≡◌, refl}
use Rattle.geos_terms.specs.declared.refusal.Refusal.{Refusal}
use Rattle.geos_terms.specs.declared.refusal.Refusal.TheVariants.{BadHandle, BadChunk, Short, NoRoom, NoHandle, TooBig, Locked}
use Rattle.geos_terms.specs.declared.refusal.Refusal.TheVariants.{BadArray, BadElement, Full, Disk, Unsure, Memory, Range, Reserved}
use Rattle.geos_terms.specs.Refusals.{refusal_number}

-- 4 is the number of no other
pub only_no_room : (why : Refusal) → refusal_number why ≡ 4 → why ≡ NoRoom
only_no_room BadHandle is = absurd cc
only_no_room BadChunk is = absurd cc
only_no_room Short is = absurd cc
only_no_room NoRoom is = refl
only_no_room NoHandle is = absurd cc
only_no_room TooBig is = absurd cc
only_no_room Locked is = absurd cc
only_no_room BadArray is = absurd cc
only_no_room BadElement is = absurd cc
only_no_room Full is = absurd cc
only_no_room Disk is = absurd cc
only_no_room Unsure is = absurd cc
only_no_room Memory is = absurd cc
only_no_room Range is = absurd cc
only_no_room Reserved is = absurd cc
