-- Sets of effects.
use Rattle.std.specs.Prelude.{Bool, true, false, ◌||◌, List, [], ◌∷◌, slice_index_or}
use Rattle.geos_verify.specs.Lists.{zip2}
use Rattle.geos_grants.specs.declared.effect.Effect.{Effect}
use Rattle.geos_grants.specs.declared.effect.Effect.TheVariants.{Output, ReadsLent, ChangesLent, Memory, LocksByHandle, ReadsFile, ChangesFile, Map, Commits}
use Rattle.geos_grants.specs.declared.effects.Effects.{Effects}

-- the set has the effect
abbrev pub has : Effects → Effect → Bool
has effects Output = effects.output
has effects (ReadsLent a) = slice_index_or effects.reads_lent a false
has effects (ChangesLent a) = slice_index_or effects.changes_lent a false
has effects Memory = effects.memory
has effects LocksByHandle = effects.locks_by_handle
has effects ReadsFile = effects.reads_file
has effects ChangesFile = effects.changes_file
has effects Map = effects.map
has effects Commits = effects.commits

-- the same for each slot
abbrev pub each_slot : Bool → List Bool
each_slot b = b ∷ b ∷ b ∷ b ∷ []

-- no effect, or every one
abbrev pub only : Bool → Effects
only b = record {
  output = b;
  reads_lent = each_slot b;
  changes_lent = each_slot b;
  memory = b;
  locks_by_handle = b;
  reads_file = b;
  changes_file = b;
  map = b;
  commits = b;
}

-- no effect
abbrev pub no_effects : Effects
no_effects = only false

-- every effect
abbrev pub all_effects : Effects
all_effects = only true

-- the effects that one of the two sets has
abbrev pub united : Effects → Effects → Effects
united effects others = record {
  output = effects.output || others.output;
  reads_lent = zip2 ◌||◌ effects.reads_lent others.reads_lent;
  changes_lent = zip2 ◌||◌ effects.changes_lent others.changes_lent;
  memory = effects.memory || others.memory;
  locks_by_handle = effects.locks_by_handle || others.locks_by_handle;
  reads_file = effects.reads_file || others.reads_file;
  changes_file = effects.changes_file || others.changes_file;
  map = effects.map || others.map;
  commits = effects.commits || others.commits;
}
