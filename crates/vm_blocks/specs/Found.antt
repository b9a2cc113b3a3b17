-- What `open` finds in an image, as the model has it.
use Rattle.std.specs.Prelude.{◌≡◌, ◌⊎◌, ℕ, List, Ok}
use Rattle.geos_calls.specs.VmFile.{Kept, Sure, Unsure}
use Rattle.geos_calls.specs.VmFile as model_file
use Rattle.vm_file.specs.Contents.{Pair}
use Rattle.vm_file.specs.Reading.{found}
use Rattle.vm_blocks.specs.Matches.{stored_pair}

-- it finds a pair that is this one of the model's
abbrev pub OpensAs : model_file.Pair → List ℕ → Type 0
OpensAs pair c = (p : Pair) × (found c ≡ Ok p) × (pair ≡ stored_pair p)

-- `open` finds what the model has committed: its pair, or one of the two if the file is unsure
abbrev pub OpensAsKept : Kept → List ℕ → Type 0
OpensAsKept (Sure p) c = OpensAs p c
OpensAsKept (Unsure p q) c = OpensAs p c ⊎ OpensAs q c
