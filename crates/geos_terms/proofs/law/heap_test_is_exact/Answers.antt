use Rattle.geos_terms.proofs.HeapTests.{heap-sound, heap-complete}
use Rattle.geos_terms.proofs.law.heap_test_is_exact.Goals as goal

pub returns : goal.returns
returns c = λ bytes. (heap-sound bytes, heap-complete bytes)
