-- Names of blocks.
use Rattle.std.specs.Prelude.{ℕ}
use Rattle.geos_terms.specs.declared.name.Owner.{Owner}
use Rattle.geos_terms.specs.declared.name.Owner.TheVariants.{Mem, Vm}
use Rattle.geos_terms.specs.declared.name.Name.{Name}

-- the block with a handle of an owner
abbrev pub named : Owner → ℕ → Name
named owner h = record { owner = owner; h = h }

-- the block of global memory with a handle
abbrev pub mem : ℕ → Name
mem h = named Mem h

-- the block of the VM file with a handle
abbrev pub vm : ℕ → Name
vm h = named Vm h

-- the user ID by which a block of the VM file is a group
abbrev pub group_uid : ℕ
group_uid = 65280
