-- States of the model for the worked examples: a memory of three blocks, two slots that hold
-- the first and one that holds the second; and beside them a VM file that lists a block.
use Rattle.std.proofs.Common.{ℕ, Bool, true, false, List, [], ◌∷◌, Option, Some, None}
use Rattle.geos_terms.specs.Names.{named, mem}
use Rattle.geos_terms.specs.declared.name.Owner.TheVariants.{Vm}
use Rattle.geos_calls.specs.Directories.{VmBlock as Listed, no_directory}
use Rattle.geos_calls.specs.VmFile.{empty_file}
use Rattle.geos_calls.specs.Memory.{Block, Memory}
use Rattle.geos_calls.specs.Effects.{Choice}
use Rattle.geos_image.specs.declared.instr.Instr.{Instr}
use Rattle.geos_image.specs.Open.{open_row}
use Rattle.geos_image.specs.Parts.{Parts}
use Rattle.geos_opcodes.specs.declared.uses.Kind.{Kind}
use Rattle.geos_opcodes.specs.declared.uses.Kind.TheVariants.{MemBlock}
use Rattle.geos_semantics.specs.State.{Held, SlotReference, State}
use Rattle.geos_semantics.specs.Model.{Outcome, Next, step}
use Rattle.worked_examples.proofs.Images.{point, potential, routine}

-- nothing is refused from outside, and nothing given
abbrev pub willing : Choice
willing = record { first_room = false; last_room = false; device = false; unsure = false; memory = false; given = [] }

-- all is refused from outside that may be
abbrev pub unwilling : Choice
unwilling = record { first_room = true; last_room = true; device = true; unsure = true; memory = true; given = [] }

-- the instruction at pc 0 of a routine of nine, of which there is no other
abbrev pub alone : Instr → Parts
alone i = record { keyed = false; routines = routine [] 9 9 ∷ []; points = point i open_row (potential 9 0) ∷ [] }

-- no block, and no handle for one
abbrev pub no_blocks : Memory
no_blocks = record { blocks = []; file = empty_file 0; region = 65536; handles = 1024 }

-- a block of 64 bytes that is locked so often
abbrev pub block : ℕ → List (Option (List ℕ)) → Option Block
block locks chunks = Some (record { locks = locks; heap = record { chunks = chunks; size = 64 } })

-- chunk 16 of the first block and that of the second; both have no chunk 18
abbrev pub bytes : List ℕ
bytes = 1 ∷ 2 ∷ 3 ∷ 4 ∷ []

abbrev pub few_bytes : List ℕ
few_bytes = 9 ∷ 8 ∷ []

-- the blocks with handles 1, 2 and 3
abbrev pub first : Option Block
first = block 2 (Some bytes ∷ None ∷ [])

abbrev pub second : Option Block
second = block 1 (Some few_bytes ∷ None ∷ [])

abbrev pub third : Option Block
third = block 0 (None ∷ None ∷ [])

-- a region of 256 bytes with these blocks
abbrev pub region_of : List (Option Block) → Memory
region_of blocks = record { blocks = blocks; file = empty_file 0; region = 256; handles = 1024 }

-- the three blocks, and a handle that is free
abbrev pub memory : Memory
memory = region_of (first ∷ second ∷ third ∷ None ∷ [])

-- the same with other chunks in the first block
abbrev pub with_first : List (Option (List ℕ)) → Memory
with_first chunks = region_of (block 2 chunks ∷ second ∷ third ∷ None ∷ [])

-- the same with other chunks in the second block
abbrev pub with_second : List (Option (List ℕ)) → Memory
with_second chunks = region_of (first ∷ block 1 chunks ∷ third ∷ None ∷ [])

-- a slot that holds the memory block with a handle
abbrev pub held : ℕ → Option Held
held h = Some (record { kind = MemBlock; handle = h; borrowed = false })

-- a pointer through a slot to so many bytes of chunk 16 of the block with a handle
abbrev pub leads : ℕ → ℕ → ℕ → Option SlotReference
leads slot h len = Some (record { slot = slot; reference = record { name = mem h; chunk = 16; start = 0; len = len } })

-- s0 and s1 hold the first block, s2 the second
abbrev pub slots : List (Option Held)
slots = held 1 ∷ held 1 ∷ held 2 ∷ None ∷ []

-- p0 leads through s0, p1 through s1 and p2 through s2
abbrev pub pointers : List (Option SlotReference)
pointers = leads 0 1 4 ∷ leads 1 1 4 ∷ leads 2 2 2 ∷ None ∷ []

-- what stays of them where the chunks of the first block were changed
abbrev pub moved_first : List (Option SlotReference)
moved_first = None ∷ None ∷ leads 2 2 2 ∷ None ∷ []

-- where those of the second were
abbrev pub moved_second : List (Option SlotReference)
moved_second = leads 0 1 4 ∷ leads 1 1 4 ∷ None ∷ None ∷ []

-- w0 to w7: a chunk's handle, five numbers, and n in w6 and a refusal in w7
abbrev pub registers : ℕ → ℕ → List ℕ
registers n refusal = 16 ∷ 1 ∷ 2 ∷ 3 ∷ 44 ∷ 18 ∷ n ∷ refusal ∷ []

-- before each example
abbrev pub before : State
before = record {
  memory = memory;
  words = registers 43981 0;
  counters = 0 ∷ 0 ∷ 0 ∷ 0 ∷ [];
  slots = slots;
  pointers = pointers;
  routine = 0;
  pc = 0;
  stack = [];
  output = [];
}

-- a pointer through s3 to 4 bytes of a block of the VM file
abbrev pub leads_into_vm : Option SlotReference
leads_into_vm = Some (record { slot = 3; reference = record { name = named Vm 1; chunk = 16; start = 0; len = 4 } })

-- a block of the VM file with this user ID, marked or not, with these chunks, which is locked once
abbrev pub listed : ℕ → Bool → List (Option (List ℕ)) → Option Listed
listed uid marked chunks = Some (record { uid = uid; marked = marked; block = record { locks = 1; heap = record { chunks = chunks; size = 64 } } })

-- the three blocks beside a VM file that lists this under handle 1
abbrev pub beside_listed : Option Listed → Memory
beside_listed entry = record memory { file = record (empty_file 0) { cur = record (no_directory {B = Listed}) { blocks = entry ∷ [] } } }

-- a slot that holds what is listed, as one of this kind
abbrev pub held_listed : Kind → Option Held
held_listed kind = Some (record { kind = kind; handle = 1; borrowed = false })

-- it is in s3, and p3 leads into it
abbrev pub with_vm : Kind → Option Listed → State
with_vm kind entry = record before {
  memory = beside_listed entry;
  slots = held 1 ∷ held 1 ∷ held 2 ∷ held_listed kind ∷ [];
  pointers = leads 0 1 4 ∷ leads 1 1 4 ∷ leads 2 2 2 ∷ leads_into_vm ∷ [];
}

-- the step that is the instruction
abbrev pub stepped : Instr → Outcome
stepped i = step (alone i) willing before

-- the same where all is refused that may be
abbrev pub refused_all : Instr → Outcome
refused_all i = step (alone i) unwilling before

-- on at the next instruction
abbrev pub on : State → Outcome
on s = Next (record s { pc = 1 })

-- at the target, which is 7 in each example, with a refusal
abbrev pub refused : ℕ → State → Outcome
refused refusal s = Next (record s { pc = 7; words = registers 43981 refusal })

-- with n in w6, on at the next instruction
abbrev pub with_w6 : ℕ → State → Outcome
with_w6 n s = on (record s { words = registers n 0 })

-- the same with the greatest word in w6, and at the target with a refusal
abbrev pub greatest : State
greatest = record before { words = registers 65535 0 }

abbrev pub greatest_refused : ℕ → State → Outcome
greatest_refused refusal s = Next (record s { pc = 7; words = registers 65535 refusal })
