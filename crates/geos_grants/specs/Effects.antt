-- What one instruction does outside the routine, given the row before it.
use Rattle.std.specs.Prelude.{ℕ, Bool, true, false, ◌&&◌, ◌||◌, not, ◌==◌, Option, Some, None}
use Rattle.geos_opcodes.specs.declared.opcode.Opcode.{Opcode}
use Rattle.geos_opcodes.specs.declared.opcode.Opcode.TheVariants as op
use Rattle.geos_opcodes.specs.declared.uses.SlotUse.{SlotUse}
use Rattle.geos_opcodes.specs.declared.uses.SlotUse.TheVariants.{Moves, Marks, LooksAt}
use Rattle.geos_opcodes.specs.declared.uses.PointerUse.{PointerUse}
use Rattle.geos_opcodes.specs.declared.uses.PointerUse.TheVariants.{Loads, Stores, Copies}
use Rattle.geos_opcodes.specs.Facts.{uses_of}
use Rattle.geos_image.specs.declared.instr.Instr.{Instr}
use Rattle.geos_image.specs.declared.row.Row.{Row}
use Rattle.geos_image.specs.declared.row.Pointer.{Pointer}
use Rattle.geos_image.specs.declared.row.SlotState.{SlotState}
use Rattle.geos_image.specs.declared.row.SlotState.TheVariants.{Empty, Mem}
use Rattle.geos_image.specs.Legal.{is_own}
use Rattle.geos_verify.specs.Rows.{slot_state, pointer_at}
use Rattle.geos_verify.specs.Rules.{is_of_file}
use Rattle.geos_grants.specs.declared.effect.Effect.{Effect}
use Rattle.geos_grants.specs.declared.effect.Effect.TheVariants.{Output, ReadsLent, ChangesLent, Memory, LocksByHandle, ReadsFile, ChangesFile, Map, Commits}

-- What an opcode does, whatever is known

-- it outputs a word
abbrev pub outputs : Opcode → Bool
outputs op.Out = true
outputs _ = false

-- it makes, locks, unlocks or frees a block of global memory
abbrev pub uses_memory : Opcode → Bool
uses_memory op.Mnew = true
uses_memory op.Mlock = true
uses_memory op.Munlock = true
uses_memory op.Mfree = true
uses_memory _ = false

-- it locks a block of global memory by its handle
abbrev pub locks_by_handle : Opcode → Bool
locks_by_handle op.Mlock = true
locks_by_handle _ = false

-- it finds something in the VM file, or locks a block or a group of it
abbrev pub reads_file : Opcode → Bool
reads_file op.Vlock = true
reads_file op.Vfind = true
reads_file op.Vuid = true
reads_file op.Vgetmap = true
reads_file op.Ilock = true
reads_file op.Igetmap = true
reads_file _ = false

-- it makes or frees blocks or groups of the VM file, changes items by the handle of their group, or restores the
-- saved directory
abbrev pub changes_file : Opcode → Bool
changes_file op.Vnew = true
changes_file op.Vfree = true
changes_file op.Vrevert = true
changes_file op.Gnew = true
changes_file op.Gfree = true
changes_file op.Inew = true
changes_file op.Ifree = true
changes_file op.Irealloc = true
changes_file op.Iins = true
changes_file op.Idel = true
changes_file _ = false

-- it sets the map block or item, may free it, or restores the saved directory
abbrev pub maps : Opcode → Bool
maps op.Vfree = true
maps op.Gfree = true
maps op.Vsetmap = true
maps op.Isetmap = true
maps op.Vrevert = true
maps _ = false

-- it writes the VM file to its device
abbrev pub commits : Opcode → Bool
commits op.Vupdate = true
commits op.Vsave = true
commits op.Vrevert = true
commits _ = false

-- Whose block an instruction changes or reads

-- the slot into whose block a pointer leads
abbrev pub slot_in : Option Pointer → Option ℕ
slot_in None = None
slot_in (Some known) = Some known.slot

-- the same of a pointer register, as the row says
abbrev pub pointed_slot : Row → ℕ → Option ℕ
pointed_slot row p = slot_in (pointer_at row p)

-- the slot whose block the instruction writes through a pointer
abbrev pub changed_through : Instr → PointerUse → Row → Option ℕ
changed_through i (Stores width offset) row = pointed_slot row i.b
changed_through i Copies row = pointed_slot row i.a
changed_through i _ row = None

-- the slot whose block it marks or changes
abbrev pub changed_slot : Instr → SlotUse → PointerUse → Row → Option ℕ
changed_slot i Moves through row = Some i.a
changed_slot i (Marks kind) through row = Some i.a
changed_slot i _ through row = changed_through i through row

-- the slot whose block it reads through a pointer
abbrev pub read_through : Instr → PointerUse → Row → Option ℕ
read_through i (Loads width offset) row = pointed_slot row i.b
read_through i Copies row = pointed_slot row i.b
read_through i _ row = None

-- the slot whose block it reads
abbrev pub read_slot : Instr → SlotUse → PointerUse → Row → Option ℕ
read_slot i LooksAt through row = Some i.a
read_slot i _ through row = read_through i through row

-- what the row says of a slot; of none, that it is empty
abbrev pub state_at : Row → Option ℕ → SlotState
state_at row None = Empty
state_at row (Some a) = slot_state row a

-- the slot has a block of global memory
abbrev pub is_mem : SlotState → Bool
is_mem Mem = true
is_mem _ = false

-- it has a block or a group of the VM file that is not lent
abbrev pub is_own_in_file : SlotState → Bool
is_own_in_file state = is_of_file state && is_own state

-- it is slot k, and has a block that is lent
abbrev pub lends : Row → Option ℕ → ℕ → Bool
lends row None k = false
lends row (Some a) k = a == k && not (is_own (slot_state row k))

-- the slot whose block the instruction marks or changes, by its opcode
abbrev pub changed_at : Instr → Row → Option ℕ
changed_at i row = changed_slot i (uses_of i.opcode).slot (uses_of i.opcode).pointer row

-- the slot whose block it reads, by its opcode
abbrev pub read_at : Instr → Row → Option ℕ
read_at i row = read_slot i (uses_of i.opcode).slot (uses_of i.opcode).pointer row

-- the instruction has the effect
abbrev pub does : Effect → Instr → Row → Bool
does Output i row = outputs i.opcode
does (ReadsLent a) i row = lends row (read_at i row) a
does (ChangesLent a) i row = lends row (changed_at i row) a
does Memory i row = uses_memory i.opcode || is_mem (state_at row (changed_at i row))
does LocksByHandle i row = locks_by_handle i.opcode
does ReadsFile i row = reads_file i.opcode || is_own_in_file (state_at row (read_at i row))
does ChangesFile i row = changes_file i.opcode || is_own_in_file (state_at row (changed_at i row))
does Map i row = maps i.opcode
does Commits i row = commits i.opcode
