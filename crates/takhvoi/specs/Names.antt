-- How C names blocks.
use Rattle.std.specs.Prelude.{ℕ, ◌%◌, nat_lt, if◌then◌else◌}
use Rattle.geos_terms.specs.declared.name.Name.{Name}
use Rattle.geos_terms.specs.Names.{mem, vm}

-- the block with a number: a handle of memory, or 65,536 more than a handle of the VM file
abbrev pub name_of : ℕ → Name
name_of block = if nat_lt block 65536 then mem block else vm (block % 65536)
