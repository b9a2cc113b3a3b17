-- What an instruction does with slots and pointers: how wide it is, and that they are ones that there are.
use Rattle.std.specs.Prelude.{◌<◌, ℕ, Bool, true, false}
use Rattle.geos_image.specs.declared.instr.Instr.{Instr}
use Rattle.geos_opcodes.specs.declared.uses.Kind.{Kind}
use Rattle.geos_opcodes.specs.declared.uses.Kind.TheVariants.{MemBlock, VmBlock, DbGroup}
use Rattle.geos_opcodes.specs.declared.uses.Width.{Width}
use Rattle.geos_opcodes.specs.declared.uses.Width.TheVariants.{Byte, Both}
use Rattle.geos_opcodes.specs.declared.uses.Offset.{Offset}
use Rattle.geos_opcodes.specs.declared.uses.Offset.TheVariants.{Fixed, Indexed, Tested}
use Rattle.geos_opcodes.specs.declared.uses.SlotUse.{SlotUse}
use Rattle.geos_opcodes.specs.declared.uses.SlotUse.TheVariants.{NoSlot, Compares, MovesGroup, Commits}
use Rattle.geos_opcodes.specs.declared.uses.PointerUse.{PointerUse}
use Rattle.geos_opcodes.specs.declared.uses.PointerUse.TheVariants.{NoPointer, Sets, Duplicates, Loads, Stores, Copies, Measures}
use Rattle.geos_opcodes.specs.declared.uses.Uses.{Uses}

-- how many bytes a read or a write is wide
abbrev pub bytes_in : Width → ℕ
bytes_in Byte = 1
bytes_in Both = 2

-- the two kinds are one
abbrev pub same_kind : Kind → Kind → Bool
same_kind MemBlock MemBlock = true
same_kind VmBlock VmBlock = true
same_kind DbGroup DbGroup = true
same_kind _ _ = false

-- the numbers of the slots that the instruction names are in range
abbrev pub SlotFits : SlotUse → Instr → Type 0
SlotFits NoSlot i = Unit {0}
SlotFits MovesGroup i = Unit {0}
SlotFits Commits i = Unit {0}
SlotFits Compares i = (i.a < 4) × (i.b < 4)
SlotFits _ i = i.a < 4

-- the number of the word that has the offset is in range
abbrev pub OffsetFits : Offset → Instr → Type 0
OffsetFits Fixed i = Unit {0}
OffsetFits Indexed i = i.c < 8
OffsetFits Tested i = i.c < 8

-- the numbers of the pointers are in range
abbrev pub PointerFits : PointerUse → Instr → Type 0
PointerFits NoPointer i = Unit {0}
PointerFits Sets i = (i.a < 4) × (i.b < 4)
PointerFits Duplicates i = (i.a < 4) × (i.b < 4)
PointerFits (Loads width offset) i = (i.b < 4) × OffsetFits offset i
PointerFits (Stores width offset) i = (i.b < 4) × OffsetFits offset i
PointerFits Copies i = (i.a < 4) × (i.b < 4)
PointerFits Measures i = i.b < 4

-- the slots and the pointers that an instruction with such uses names are ones that there are
abbrev pub UsesFit : Uses → Instr → Type 0
UsesFit uses i = SlotFits uses.slot i × PointerFits uses.pointer i
