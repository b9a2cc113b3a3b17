-- Names of blocks and their slots.
use Rattle.std.specs.Prelude.{ℕ, ◌+◌, ◌-◌, ◌≤◌, nat_le, ◌&&◌, if◌then◌else◌}
use Rattle.geos_terms.specs.declared.name.Owner.{Owner}
use Rattle.geos_terms.specs.declared.name.Owner.TheVariants.{Mem, Vm}
use Rattle.geos_terms.specs.declared.name.Name.{Name}

-- the slot of an owner's handle 1
abbrev pub first_slot : Owner → ℕ
first_slot Mem = 0
first_slot Vm = 1024

-- 1 for the VM file, and 0 for global memory
abbrev pub of_file : Owner → ℕ
of_file Mem = 0
of_file Vm = 1

-- a handle is from 1 to 1,024
abbrev pub IsHandle : ℕ → Type 0
IsHandle h = (1 ≤ h) × (h ≤ 1024)

-- the slot of a name: 1,024 for each owner, and past the last one for what is no handle
abbrev pub slot_of : Name → ℕ
slot_of name = if nat_le 1 name.h && nat_le name.h 1024 then first_slot name.owner + (name.h - 1) else 2048
