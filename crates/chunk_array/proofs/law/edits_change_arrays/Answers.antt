use Rattle.chunk_array.proofs.ReadBack.{edits_change_arrays, changed-found}
use Rattle.chunk_array.proofs.law.edits_change_arrays.Goals as goal

pub returns : goal.returns
returns c = record { edits = edits_change_arrays; found = changed-found }
