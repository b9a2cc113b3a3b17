-- A sound state in which slots hold a block and a group of the VM file.
use Rattle.std.proofs.Common.{◌≡◌, refl, ℕ, zero, suc, ◌+◌, ◌<◌, false, List, [], ◌∷◌, replicate, Option, Some, None, set, sym, subst, arith, inl, inr}
use Rattle.std.specs.Prelude.{option_map}
use Rattle.std.proofs.lemmas.Bool.{cases_lt}
use Rattle.std.proofs.lemmas.List.{get_or-replicate, get_or_past, length-replicate}
use Rattle.geos_terms.specs.Names.{vm}
use Rattle.geos_calls.specs.Directories as directories
use Rattle.geos_calls.specs.VmFile.{empty_file}
use Rattle.geos_calls.specs.VmCalls.{new_listed}
use Rattle.geos_calls.specs.Memory.{Memory, at_handle, with_listed, locks_in, locks_of, with_locks}
use Rattle.geos_calls.specs.Effects.{Nothing}
use Rattle.geos_calls.specs.Legal.{IsLegalListed, IsMemory}
use Rattle.geos_calls.proofs.HandleLists.{entry-kept}
use Rattle.geos_calls.proofs.LegalBlocks.{new_heap-legal, empty-legal, added_listed-legal, with_locks-legal}
use Rattle.geos_opcodes.specs.declared.uses.Kind.TheVariants.{VmBlock, DbGroup}
use Rattle.geos_image.specs.declared.row.SlotState.{SlotState}
use Rattle.geos_image.specs.declared.row.SlotState.TheVariants.{Empty}
use Rattle.geos_semantics.specs.State.{Held, name_of, State, slot, kept_pointers}
use Rattle.geos_semantics.specs.Faults.{lacks_mark}
use Rattle.geos_semantics.specs.Meets.{Base, IsOfKind, Sound}
use Rattle.geos_semantics.specs.Lending.{AreLent, base_of}
use Rattle.geos_semantics.proofs.Locking.{sound-locked}
use Rattle.geos_semantics.proofs.FineLocks.{locks-into}
use Rattle.geos_semantics.proofs.Lending.{sound-lent}

-- a block of whatever kind, which is not borrowed, is locked into a slot
abbrev pub with_lock : ℕ → Held → State → State
with_lock a held s = record s {
  memory = with_locks s.memory (name_of held) (locks_of s.memory (name_of held) + 1);
  slots = set s.slots a (Some held);
  pointers = kept_pointers a Nothing s.pointers;
}

-- the state stays sound
pub lock-sound : (base : Base) (s : State) (a : ℕ) (held : Held) → held.borrowed ≡ false → Sound base s → a < 4
    → slot s a ≡ None → IsOfKind s.memory held.kind (name_of held) → locks_of s.memory (name_of held) < 65535 → Sound base (with_lock a held s)
lock-sound base s a held own S within empty is few =
    let name = name_of held in
    let n = locks_of s.memory name + 1 in
    sound-locked base s a held (with_locks s.memory name n) S within empty
    (locks-into base s held own is (with_locks-legal s.memory name n (omega (arith, few)) S.memory))

-- memory with no block, and with a block of the file under handle 1 and a group under handle 2,
-- both marked
abbrev none : Memory
none = record { blocks = replicate 1024 None; file = empty_file 0; region = 65536; handles = 1024 }

abbrev one : Memory
one = with_listed none 1 (Some (new_listed 5 0))

abbrev two : Memory
two = with_listed one 2 (Some (new_listed 65280 0))

new-legal : (uid : ℕ) → uid < 65536 → IsLegalListed (new_listed uid 0)
new-legal uid small = record { uid = small; block = record { heap = new_heap-legal; few = omega arith } }

two-legal : IsMemory two
two-legal = added_listed-legal one 2 (new_listed 65280 0) (new-legal 65280 (omega arith))
    refl (added_listed-legal none 1 (new_listed 5 0) (new-legal 5 (omega arith)) refl (empty-legal 65536))

-- no block of the file is locked in it
abbrev IsIdle : Option directories.VmBlock → Type 0
IsIdle listed = locks_in (option_map (λ (l : directories.VmBlock). l.block) listed) ≡ 0

none-idle : (h : ℕ) → IsIdle (at_handle None none.file.cur.blocks h)
none-idle zero = refl
none-idle (suc h) = elim (cases_lt h 1024) [
  | inl lt ↦ subst IsIdle (sym (get_or-replicate {A = Option directories.VmBlock} 1024 h None None lt)) refl
  | inr past ↦ subst IsIdle (sym (get_or_past (replicate {A = Option directories.VmBlock} 1024 None) h None
      (omega (arith, past, length-replicate {A = Option directories.VmBlock} 1024 None)))) refl
]

two-idle : (h : ℕ) → locks_of two (vm h) ≡ 0
two-idle h = entry-kept IsIdle one.file.cur.blocks 2 h (Some (new_listed 65280 0)) None
    refl (entry-kept IsIdle none.file.cur.blocks 1 h (Some (new_listed 5 0)) None refl (none-idle h))

-- all slots are empty
abbrev pub idle : State
idle = record {
  memory = two;
  words = replicate 8 0;
  counters = replicate 4 0;
  slots = None ∷ None ∷ None ∷ None ∷ [];
  pointers = None ∷ None ∷ None ∷ None ∷ [];
  routine = 0;
  pc = 0;
  stack = [];
  output = [];
}

-- s0 holds the block and s1 the group
abbrev block_held : Held
block_held = record { kind = VmBlock; handle = 1; borrowed = false }

abbrev group_held : Held
group_held = record { kind = DbGroup; handle = 2; borrowed = false }

abbrev pub both : State
both = with_lock 1 group_held (with_lock 0 block_held idle)

-- what belongs to others
abbrev pub others : Base
others = base_of two idle.slots

-- nothing is lent
abbrev empty : List SlotState
empty = replicate 4 Empty

nothing-lent : AreLent empty (replicate 4 0) two
nothing-lent = record { each = (refl, (refl, (refl, (refl, tt)))); counts = two-idle }

pub record HeldOfFile : Type 0 where
  pub sound : Sound others both
  pub slots : both.slots ≡ Some block_held ∷ Some group_held ∷ None ∷ None ∷ []
  pub block_locked : locks_of both.memory (vm 1) ≡ 1
  pub group_locked : locks_of both.memory (vm 2) ≡ 1
  pub block_by_others : others.locks (vm 1) ≡ 0
  pub group_by_others : others.locks (vm 2) ≡ 0
  pub block_marked : lacks_mark both.memory (vm 1) ≡ false
  pub group_marked : lacks_mark both.memory (vm 2) ≡ false

pub examples : HeldOfFile
examples = record {
  sound = (
      let idle_is = sound-lent idle empty (replicate 4 0) refl refl nothing-lent two-legal
      (omega arith, (omega arith, (omega arith, (omega arith, (omega arith, (omega arith, (omega arith, (omega arith, tt))))))))
      (refl, (refl, (refl, (refl, tt)))) in
      let first = lock-sound others idle 0 block_held refl idle_is (omega arith) refl (refl, refl) (omega arith) in
      lock-sound others (with_lock 0 block_held idle) 1 group_held refl first (omega arith) refl (refl, refl) (omega arith)
      );
  slots = refl;
  block_locked = refl;
  group_locked = refl;
  block_by_others = refl;
  group_by_others = refl;
  block_marked = refl;
  group_marked = refl;
}
