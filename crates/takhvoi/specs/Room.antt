-- Why a call on chunks is refused for lack of room.
use Rattle.std.specs.Prelude.{ℕ, List, Option}
use Rattle.geos_terms.specs.Edits.{Edit}
use Rattle.geos_terms.specs.declared.name.Name.{Name}
use Rattle.geos_kernel.specs.Kernel.{HasNoRoomFor}
use Rattle.geos_kernel.specs.View.{chunks_at}
use Rattle.takhvoi.specs.declared.system.System.{System}

-- no stretch of the region has room for a block of the size that the chunks need after the edit, and no other block could be evicted
abbrev pub EditHasNoRoom : {A : Type 0} → (List (Option (List ℕ)) → Edit A) → Name → System → System → Type 0
EditHasNoRoom edit name old new = HasNoRoomFor new.kernel.core name (edit (chunks_at old.kernel.core.blocks name)).chunks
