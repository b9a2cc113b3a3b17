-- What the file keeps along a script: two calls of a routine that makes a block and maps it, a save between them, and an update at the end.
use Rattle.std.proofs.Common.{◌≡◌, refl, false, List, [], ◌∷◌, ◌++◌, replicate, Option, Some, None}
use Rattle.geos_terms.specs.Chunks.{cost}
use Rattle.geos_calls.specs.Directories.{Directory, KeptBlock, no_directory}
use Rattle.geos_calls.specs.Effects.{effect_of, outcome}
use Rattle.geos_calls.specs.Memory.{Memory}
use Rattle.geos_calls.specs.VmCalls.{Keeper, commit, keep_current, keep_saved}
use Rattle.geos_calls.specs.VmFile.{Kept, Sure, empty_file}
use Rattle.geos_opcodes.specs.declared.opcode.Opcode.TheVariants.{Ret, Vnew, Vsetmap, Vunlock}
use Rattle.geos_image.specs.Open.{open_row}
use Rattle.geos_image.specs.Parts.{Parts}
use Rattle.geos_semantics.specs.State.{State}
use Rattle.geos_semantics.specs.Model.{Ending, Faulted, Running, Returned, run}
use Rattle.geos_machine.specs.Runs.{begin, kept_along}
use Rattle.worked_examples.proofs.Images.{instr, point, potential, routine}
use Rattle.worked_examples.proofs.States.{willing}

-- `VNEW s0 w0 w1 x`, `VUNLOCK s0`, `VSETMAP w0 x`, `x: RET`
abbrev pub put : Parts
put = record {
  keyed = false;
  routines = routine (112 ∷ 117 ∷ 116 ∷ replicate 13 0) 4 4 ∷ [];
  points =
      point (instr Vnew 0 0 1 0 3) open_row (potential 4 0)
      ∷ point (instr Vunlock 0 0 0 0 0) open_row (potential 3 0)
      ∷ point (instr Vsetmap 0 0 0 0 3) open_row (potential 2 0)
      ∷ point (instr Ret 0 0 0 0 0) open_row (potential 1 0)
      ∷ [];
}

-- a call of it begins
abbrev pub calling : Memory → State
calling memory = begin put 0 (0 ∷ 5 ∷ replicate 6 0) (replicate 4 0) memory

-- the memory that it leaves
abbrev pub memory_at : Memory → Ending → Memory
memory_at memory Faulted = memory
memory_at memory (Running s) = memory
memory_at memory (Returned steps s) = s.memory

abbrev pub after_put : Memory → Memory
after_put memory = memory_at memory (run put 0 (replicate 4 willing) 0 (calling memory))

-- and that a commit leaves
abbrev pub after_commit : Keeper → Memory → Memory
after_commit keeper memory = (outcome (effect_of (commit keeper) willing memory)).1

-- no block and an empty VM file, and the memory after each command of the script
abbrev pub at_first : Memory
at_first = record { blocks = []; file = empty_file 512; region = 65536; handles = 1024 }

abbrev pub put_once : Memory
put_once = after_put at_first

abbrev pub saved_once : Memory
saved_once = after_commit keep_saved put_once

abbrev pub put_twice : Memory
put_twice = after_put saved_once

abbrev pub updated : Memory
updated = after_commit keep_current put_twice

-- the committed pairs, as the definition of scripts lists them: before the first command, along each call, and before
-- and after each commit
abbrev pub keeps : List Kept
keeps =
    at_first.file.kept
    ∷ (kept_along put (replicate 4 willing) (calling at_first)
    ++ (put_once.file.kept ∷ saved_once.file.kept ∷ [])
    ++ kept_along put (replicate 4 willing) (calling saved_once)
    ++ (put_twice.file.kept ∷ updated.file.kept ∷ []))

-- a block that the file keeps
abbrev pub block : Option KeptBlock
block = Some (record { uid = 5; heap = record { chunks = None ∷ None ∷ []; size = 64 } })

-- its directory with one block or two, of which the last one is mapped
abbrev pub one_block : Directory KeptBlock
one_block = record (no_directory {B = KeptBlock}) { blocks = block ∷ replicate 1023 None; map_block = 1 }

abbrev pub two_blocks : Directory KeptBlock
two_blocks = record (no_directory {B = KeptBlock}) { blocks = block ∷ block ∷ replicate 1022 None; map_block = 2 }

-- nothing until the save; then block 1 mapped, in the saved directory too; and after the update block 2 mapped, beside block 1 in the saved one
pub keeps-along-script : keeps ≡ replicate 7 (Sure (record { cur = no_directory; saved = no_directory }))
    ++ (replicate 7 (Sure (record { cur = one_block; saved = one_block })) ++ (Sure (record { cur = two_blocks; saved = one_block }) ∷ []))
unfolding cost
keeps-along-script = refl
