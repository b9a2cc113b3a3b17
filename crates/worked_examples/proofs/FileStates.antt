-- States of the model for the worked examples on the VM file: beside the three blocks a file that lists
-- two blocks and a group, has a handle that is free, and was saved with one block.
use Rattle.std.proofs.Common.{ℕ, Bool, true, false, List, [], ◌∷◌, Option, Some, None}
use Rattle.geos_terms.specs.Names.{vm}
use Rattle.geos_calls.specs.Directories.{VmBlock as Listed, KeptBlock, Directory}
use Rattle.geos_calls.specs.VmFile.{Pair, Sure, VmFile}
use Rattle.geos_calls.specs.Effects.{Choice}
use Rattle.geos_image.specs.declared.instr.Instr.{Instr}
use Rattle.geos_opcodes.specs.declared.uses.Kind.{Kind}
use Rattle.geos_semantics.specs.State.{State}
use Rattle.geos_semantics.specs.Model.{Outcome, Next, step}
use Rattle.worked_examples.proofs.States.{willing, alone, bytes, few_bytes, memory, held, leads, registers, before}

-- only one thing is refused from outside: room for a block that is brought, room to grow, the device, or the device
-- so late that the file becomes unsure
abbrev pub no_place : Choice
no_place = record willing { first_room = true }

abbrev pub no_growth : Choice
no_growth = record willing { last_room = true }

abbrev pub no_device : Choice
no_device = record willing { device = true }

abbrev pub late : Choice
late = record willing { device = true; unsure = true }

-- only chunk 16; and no chunk
abbrev pub one : List (Option (List ℕ))
one = Some bytes ∷ None ∷ []

abbrev pub no_chunks : List (Option (List ℕ))
no_chunks = None ∷ None ∷ []

-- a block of 64 bytes as it is listed: its user ID, its mark, its locks and its chunks
abbrev pub listed_as : ℕ → Bool → ℕ → List (Option (List ℕ)) → Option Listed
listed_as uid marked locks chunks =
    Some (record { uid = uid; marked = marked; block = record { locks = locks; heap = record { chunks = chunks; size = 64 } } })

-- the same as the device holds it
abbrev pub kept_as : ℕ → List (Option (List ℕ)) → Option KeptBlock
kept_as uid chunks = Some (record { uid = uid; heap = record { chunks = chunks; size = 64 } })

-- what is listed under the handles 1, 2 and 3: a block and a group that are neither marked nor
-- locked, and a marked block that is locked so often
abbrev pub clean : Option Listed
clean = listed_as 18 false 0 one

abbrev pub group : Option Listed
group = listed_as 65280 false 0 one

abbrev pub dirty : ℕ → Option Listed
dirty locks = listed_as 18 true locks no_chunks

-- a directory of these blocks, with what is mapped
abbrev pub directory : List (Option Listed) → ℕ → ℕ → ℕ → Directory Listed
directory blocks map_block map_group map_item = record { blocks = blocks; map_block = map_block; map_group = map_group; map_item = map_item }

-- what is saved: the first block, with other bytes
abbrev pub saved : Directory KeptBlock
saved = record { blocks = kept_as 18 (Some few_bytes ∷ None ∷ []) ∷ None ∷ None ∷ None ∷ []; map_block = 1; map_group = 0; map_item = 0 }

-- this is current, and that saved
abbrev pub pair : Directory KeptBlock → Directory KeptBlock → Pair
pair cur saved = record { cur = cur; saved = saved }

-- the file with this current directory, in areas of 512 bytes
abbrev pub file : Directory Listed → VmFile
file cur = record { cur = cur; saved = saved; kept = Sure (pair saved saved); area = 512 }

-- the three blocks beside a file
abbrev pub with_file : VmFile → State
with_file f = record before { memory = record memory { file = f } }

-- beside one that lists these blocks, of which the first is the map block, and the item 16 of the
-- second the map item
abbrev pub listing : List (Option Listed) → State
listing blocks = with_file (file (directory blocks 1 2 16))

-- before each example
abbrev pub on_file : State
on_file = listing (clean ∷ group ∷ dirty 1 ∷ None ∷ [])

-- the same where this is mapped
abbrev pub mapping : ℕ → ℕ → ℕ → State
mapping map_block map_group map_item = with_file (file (directory (clean ∷ group ∷ dirty 1 ∷ None ∷ []) map_block map_group map_item))

-- no handle is free
abbrev pub no_handle : State
no_handle = listing (clean ∷ group ∷ dirty 1 ∷ [])

-- s3 holds the file's block, or group, with a handle
abbrev pub with_s3 : Kind → ℕ → State → State
with_s3 kind h s = record s { slots = held 1 ∷ held 1 ∷ held 2 ∷ Some (record { kind = kind; handle = h; borrowed = false }) ∷ [] }

-- p3 leads through it to the bytes of chunk 16
abbrev pub with_p3 : ℕ → State → State
with_p3 h s = record s {
  pointers = leads 0 1 4 ∷ leads 1 1 4 ∷ leads 2 2 2 ∷ Some (record { slot = 3; reference = record { name = vm h; chunk = 16; start = 0; len = 4 } })
      ∷ [];
}

-- the step under a choice, from such a state
abbrev pub stepped_from : Choice → State → Instr → Outcome
stepped_from choice s i = step (alone i) choice s

-- the step that is the instruction
abbrev pub stepped_on : Instr → Outcome
stepped_on i = step (alone i) willing on_file

-- n is in w6
abbrev pub having : ℕ → State → State
having n s = record s { words = registers n 0 }

-- at the target with a refusal, where n is in w6
abbrev pub refused_having : ℕ → ℕ → State → Outcome
refused_having n refusal s = Next (record s { pc = 7; words = registers n refusal })
