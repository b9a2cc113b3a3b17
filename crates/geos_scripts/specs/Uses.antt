-- Whether the lines of a script may write names.
use Rattle.std.specs.Prelude.{Bool, true, false}
use Rattle.geos_scripts.specs.declared.names.NameUse.{NameUse}
use Rattle.geos_scripts.specs.declared.names.NameUse.TheVariants.{Allowed, Refused}

-- they may
abbrev pub may_write : NameUse → Bool
may_write Allowed = true
may_write Refused = false
