-- Sets of effects as bits, which C passes.
use Rattle.std.specs.Prelude.{ℕ, ◌+◌, ◌*◌, ◌/◌, ◌%◌, Bool, false, nat_eq, if◌then◌else◌, List, [], ◌∷◌, slice_index_or}
use Rattle.geos_grants.specs.declared.effect.Effect.{Effect}
use Rattle.geos_grants.specs.declared.effect.Effect.TheVariants.{Output, ReadsLent, ChangesLent, Memory, LocksByHandle, ReadsFile, ChangesFile, Map, Commits}
use Rattle.geos_grants.specs.declared.effects.Effects.{Effects}

-- a bit, if the flag is set
abbrev pub flag_bit : Bool → ℕ → ℕ
flag_bit flag bit = if flag then bit else 0

-- the bits of the flags of four slots
abbrev pub slot_bits : List Bool → ℕ
slot_bits flags = flag_bit (slice_index_or flags 0 false) 1 + flag_bit (slice_index_or flags 1 false) 2
    + flag_bit (slice_index_or flags 2 false) 4 + flag_bit (slice_index_or flags 3 false) 8

-- the bits of a set of effects
abbrev pub bits_of : Effects → ℕ
bits_of effects = flag_bit effects.output 1 + flag_bit effects.memory 2 + flag_bit effects.locks_by_handle 4
    + flag_bit effects.reads_file 8 + flag_bit effects.changes_file 16 + flag_bit effects.map 32 + flag_bit effects.commits 64
    + 256 * slot_bits effects.reads_lent + 4096 * slot_bits effects.changes_lent

-- the bit of a slot, of those that begin with a bit; there are four
abbrev pub bit_of_slot : ℕ → ℕ → ℕ
bit_of_slot first slot = if nat_eq slot 0 then first else if nat_eq slot 1 then 2 * first else if nat_eq slot 2 then 4 * first else 8 * first

-- the bit of an effect
abbrev pub bit_of : Effect → ℕ
bit_of Output = 1
bit_of Memory = 2
bit_of LocksByHandle = 4
bit_of ReadsFile = 8
bit_of ChangesFile = 16
bit_of Map = 32
bit_of Commits = 64
bit_of (ReadsLent slot) = bit_of_slot 256 slot
bit_of (ChangesLent slot) = bit_of_slot 4096 slot

-- a bit is set
abbrev pub has_bit : ℕ → ℕ → Bool
has_bit bits bit = nat_eq ((bits / bit) % 2) 1

-- the flags of the four slots whose bits begin with one
abbrev pub slots_in : ℕ → ℕ → List Bool
slots_in bits first = has_bit bits first ∷ has_bit bits (2 * first) ∷ has_bit bits (4 * first) ∷ has_bit bits (8 * first) ∷ []

-- the effects of which the bits are set
abbrev pub effects_in : ℕ → Effects
effects_in bits = record {
  output = has_bit bits 1;
  reads_lent = slots_in bits 256;
  changes_lent = slots_in bits 4096;
  memory = has_bit bits 2;
  locks_by_handle = has_bit bits 4;
  reads_file = has_bit bits 8;
  changes_file = has_bit bits 16;
  map = has_bit bits 32;
  commits = has_bit bits 64;
}
