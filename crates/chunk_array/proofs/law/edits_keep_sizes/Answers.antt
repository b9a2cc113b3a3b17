use Rattle.chunk_array.proofs.Sized.{empty-sized, with-sized, without-sized, with-bytes-sized}
use Rattle.chunk_array.proofs.law.edits_keep_sizes.Goals as goal

pub returns : goal.returns
returns c = record { by_empty = empty-sized; by_insert = with-sized; by_remove = without-sized; by_set = with-bytes-sized }
