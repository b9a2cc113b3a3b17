use Rattle.std.specs.Prelude.{◌≡◌, ◌<◌, ℕ, false, length, take, slice_index_or}
use Rattle.geos_listing.specs.Instrs.{is_target}
use Rattle.geos_listing.proofs.targets.targets_of.Given as goal

abbrev pub invariant-loop-pc : goal.invariant-loop-pc
invariant-loop-pc l = (length l.targets ≡ 4096) × ((pc : ℕ) → pc < 4096 → slice_index_or l.targets pc false ≡ is_target (take l.pc l.image.points) pc)
