use Rattle.geos_terms.proofs.Writes.{writes-stay}
use Rattle.lmem_heap.proofs.writes_stay_in_their_chunk.Goals as goal

pub returns : goal.returns
returns c = writes-stay
