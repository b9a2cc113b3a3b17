-- Which causes explain what stops the search for potentials.
use Rattle.std.specs.Prelude.{◌≡◌, ◌⊎◌, true}
use Rattle.control_graph.specs.declared.pieces.Order.{Order}
use Rattle.geos_potentials.specs.declared.reason.Reason.{Reason}
use Rattle.geos_potentials.specs.declared.reason.Reason.TheVariants.{TooMany, NoLoop, InTheWay}
use Rattle.geos_potentials.specs.declared.search.Halt.{Halt}
use Rattle.geos_potentials.specs.declared.search.Halt.TheVariants.{Stuck, Unpaid, Passes}
use Rattle.geos_potentials.specs.declared.units.Lack.{Lack}
use Rattle.geos_potentials.specs.declared.units.Lack.TheVariants as lack
use Rattle.geos_flow.specs.declared.cause.Cause.{Cause}
use Rattle.geos_flow.specs.declared.cause.Cause.TheVariants as cause
use Rattle.loop_causes.specs.Tells.{IsOfPiece, tells_of_waiting, tells_of_setting, tells_of_looks, tells_of_ways}

-- the cause explains a number that is above what a potential can say
abbrev pub TellsOfPassing : Cause → Type 0
TellsOfPassing told = (tells_of_waiting told ≡ true) ⊎ (tells_of_setting told ≡ true)

-- the cause explains what nests lack
abbrev pub TellsOfLack : Order → Lack → Cause → Type 0
TellsOfLack order (lack.SetWithin piece) told = IsOfPiece order piece told
TellsOfLack order (lack.InTurn nest) told = tells_of_waiting told ≡ true
TellsOfLack order lack.Passes told = TellsOfPassing told
TellsOfLack order lack.Looks told = tells_of_looks told ≡ true

-- the cause explains the obstacle of the search
abbrev pub TellsOfHalt : Order → Halt → Cause → Type 0
TellsOfHalt order (Stuck piece) told = IsOfPiece order piece told
TellsOfHalt order (Unpaid missing) told = TellsOfLack order missing told
TellsOfHalt order Passes told = TellsOfPassing told

-- the cause explains why no numbers of steps are found
abbrev pub TellsOfReason : Reason → Cause → Type 0
TellsOfReason TooMany told = tells_of_ways told ≡ true
TellsOfReason (NoLoop back) told = told ≡ cause.NoLoop back
TellsOfReason (InTheWay halted) told = TellsOfHalt halted.search.splitting.order halted.halt told ⊎ (tells_of_ways told ≡ true)
