-- The rows of calls on listed blocks, groups among them; and which pair a commit keeps.
use Rattle.std.specs.Prelude.{ℕ, []}
pub use Rattle.geos_calls.specs.VmCalls.{lock_listed, free_listed}
use Rattle.geos_calls.specs.Effects.{Call}
use Rattle.geos_calls.specs.VmCalls.{Keeper, keep_current, keep_reverted, keep_saved, makes_listed}
use Rattle.vm_file.specs.declared.commit.How.{How}
use Rattle.vm_file.specs.declared.commit.How.TheVariants.{Update, Save, Revert}

-- makes a block or group with this user ID, marked, and locked n times. At
-- this level, below the kernel, the user ID of groups is like any other.
abbrev pub make_listed : ℕ → ℕ → Call ℕ
make_listed uid n = makes_listed [] uid n

-- the pair that a commit keeps
abbrev pub keeper_of : How → Keeper
keeper_of Update = keep_current
keeper_of Save = keep_saved
keeper_of Revert = keep_reverted
