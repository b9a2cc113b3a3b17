use Rattle.geos_terms.proofs.ArrayRound.{array-spelled}
use Rattle.chunk_array.proofs.Sized.{read-sized}
use Rattle.chunk_array.proofs.ReadBack.{read-there, spelled-once}
use Rattle.chunk_array.proofs.law.arrays_are_read_back.Goals as goal

pub returns : goal.returns
returns c = record { read = array-spelled; there = read-there; sized = read-sized; once = spelled-once }
