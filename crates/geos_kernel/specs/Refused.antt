-- Refusals of blocks, as the kernel's.
use Rattle.std.specs.Prelude.{Result, Ok, Err}
use Rattle.block_handles.specs.declared.error.HandleError.{HandleError}
use Rattle.block_handles.specs.declared.error.HandleError.TheVariants as handle
use Rattle.geos_terms.specs.declared.refusal.Refusal.{Refusal}
use Rattle.geos_terms.specs.declared.refusal.Refusal.TheVariants.{BadHandle, Locked}

-- why a block was not locked or freed
abbrev pub of_handle : Result (Unit {0}) HandleError → Result (Unit {0}) Refusal
of_handle (Ok done) = Ok tt
of_handle (Err handle.BadHandle) = Err BadHandle
of_handle (Err handle.Locked) = Err Locked
