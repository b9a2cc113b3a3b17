-- Refusals of heaps and of arrays, as the kernel's.
use Rattle.std.specs.Prelude.{Result, Ok, Err}
use Rattle.geos_terms.specs.declared.refusal.Refusal.{Refusal}
use Rattle.geos_terms.specs.declared.refusal.Refusal.TheVariants.{BadChunk, BadArray, BadElement, Range}
use Rattle.lmem_block.specs.declared.look.BadChunk as heap
use Rattle.lmem_heap.specs.declared.error.ReallocError.{ReallocError}
use Rattle.lmem_heap.specs.declared.error.ReallocError.TheVariants as realloc
use Rattle.lmem_heap.specs.declared.error.InsertError.{InsertError}
use Rattle.lmem_heap.specs.declared.error.InsertError.TheVariants as insert
use Rattle.lmem_heap.specs.declared.error.DeleteError.{DeleteError}
use Rattle.lmem_heap.specs.declared.error.DeleteError.TheVariants as delete
use Rattle.chunk_array.specs.declared.error.AppendError.{AppendError}
use Rattle.chunk_array.specs.declared.error.AppendError.TheVariants as append
use Rattle.chunk_array.specs.declared.error.GrowthError.{GrowthError}
use Rattle.chunk_array.specs.declared.error.GrowthError.TheVariants as growth
use Rattle.chunk_array.specs.declared.error.ArrayError.{ArrayError}
use Rattle.chunk_array.specs.declared.error.ArrayError.TheVariants as array
use Rattle.chunk_array.specs.declared.error.ElementError.{ElementError}
use Rattle.chunk_array.specs.declared.error.ElementError.TheVariants as element
use Rattle.chunk_calls.specs.declared.obstacle.Obstacle.{Obstacle}
use Rattle.chunk_calls.specs.declared.obstacle.Obstacle.TheVariants.{Refused, Room}

-- a result with its error replaced
abbrev pub map_err : {A E F : Type 0} → (E → F) → Result A E → Result A F
map_err why (Ok answer) = Ok answer
map_err why (Err error) = Err (why error)

-- why no chunk was found
abbrev pub why_no_chunk : heap.BadChunk → Refusal
why_no_chunk bad = BadChunk

-- why a chunk did not get another length
abbrev pub why_not_resized : ReallocError → Obstacle
why_not_resized realloc.BadChunk = Refused BadChunk
why_not_resized (realloc.Room room) = Room room

-- why no bytes were inserted
abbrev pub why_not_inserted : InsertError → Obstacle
why_not_inserted insert.BadChunk = Refused BadChunk
why_not_inserted insert.Range = Refused Range
why_not_inserted (insert.Room room) = Room room

-- why no bytes were deleted
abbrev pub why_not_deleted : DeleteError → Refusal
why_not_deleted delete.BadChunk = BadChunk
why_not_deleted delete.Range = Range

-- why no element was appended
abbrev pub why_not_appended : AppendError → Obstacle
why_not_appended append.BadChunk = Refused BadChunk
why_not_appended append.BadArray = Refused BadArray
why_not_appended (append.Room room) = Room room

-- why none was inserted, or got another size
abbrev pub why_not_grown : GrowthError → Obstacle
why_not_grown growth.BadChunk = Refused BadChunk
why_not_grown growth.BadArray = Refused BadArray
why_not_grown growth.BadElement = Refused BadElement
why_not_grown (growth.Room room) = Room room

-- why no array was found
abbrev pub why_no_array : ArrayError → Refusal
why_no_array array.BadChunk = BadChunk
why_no_array array.BadArray = BadArray

-- why no element was found
abbrev pub why_no_element : ElementError → Refusal
why_no_element element.BadChunk = BadChunk
why_no_element element.BadArray = BadArray
why_no_element element.BadElement = BadElement
