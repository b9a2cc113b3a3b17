-- Runs of routines on blocks of the VM file that their caller has locked.
use Rattle.std.proofs.Common.{◌≡◌, refl, sym, ap, arith, ◌+◌, if◌then◌else◌, ℕ, zero, suc, Bool, true, false, List, [], ◌∷◌, replicate, Option, Some, None}
use Rattle.std.proofs.lemmas.Bool.{ne_eqb}
use Rattle.geos_terms.specs.Bytes.{word}
use Rattle.geos_terms.specs.Chunks.{cost}
use Rattle.geos_terms.specs.Names.{vm}
use Rattle.geos_calls.specs.Directories.{VmBlock as Listed, no_directory}
use Rattle.geos_calls.specs.Memory.{Memory, locks_of}
use Rattle.geos_calls.specs.VmFile.{empty_file}
use Rattle.geos_opcodes.specs.declared.opcode.Opcode.TheVariants.{Vunlock}
use Rattle.geos_opcodes.specs.declared.uses.Kind.TheVariants.{VmBlock}
use Rattle.geos_image.specs.Parts.{Parts}
use Rattle.geos_image.specs.declared.row.SlotState.{SlotState}
use Rattle.geos_image.specs.declared.row.SlotState.TheVariants.{Empty, Vm}
use Rattle.geos_semantics.specs.State.{Held, State}
use Rattle.geos_semantics.specs.Meets.{SlotMeets, holds}
use Rattle.geos_semantics.specs.Lending.{AreLent, base_of, given_slots}
use Rattle.geos_semantics.specs.Model.{Ending, Fault, run, step}
use Rattle.geos_machine.specs.Runs.{begin}
use Rattle.worked_examples.proofs.Images.{instr}
use Rattle.worked_examples.proofs.States.{willing, alone, bytes, listed, with_vm, slots}
use Rattle.worked_examples.proofs.Runs.{returned}
use Rattle.worked_examples.proofs.KeptRuns.{memory_at}
use Rattle.worked_examples.proofs.BorrowedImages.{borrowed, borrowed_marked, peek, poke, two_apart}

-- no block of global memory, and under handle 1 one of the VM file that is locked once and whose chunk 16 is this word below 256
abbrev pub lent_memory : Bool → ℕ → Memory
lent_memory marked n = record {
  blocks = [];
  file = record (empty_file 0) { cur = record (no_directory {B = Listed}) { blocks = listed 5 marked (Some (n ∷ 0 ∷ []) ∷ None ∷ []) ∷ [] } };
  region = 65536;
  handles = 1024;
}

-- block 1 for s0, and none for the other slots
abbrev pub block_1 : List ℕ
block_1 = 1 ∷ 0 ∷ 0 ∷ 0 ∷ []

-- the run of so many steps, on such words and with these handles
abbrev pub ending : Parts → ℕ → List ℕ → List ℕ → Memory → Ending
ending image steps words handles memory = run image 0 (replicate steps willing) 0 (begin image 0 words handles memory)

-- a slot that holds block 1 of the file, borrowed or not
abbrev pub holding_1 : Bool → Option Held
holding_1 borrowed = Some (record { kind = VmBlock; handle = 1; borrowed = borrowed })

-- s3 holds it borrowed, beside blocks of global memory
abbrev pub with_borrowed : State
with_borrowed = record (with_vm VmBlock (listed 5 true (Some bytes ∷ None ∷ []))) { slots = set_last slots }
  where
    set_last : List (Option Held) → List (Option Held)
    set_last (x ∷ y ∷ z ∷ rest) = x ∷ y ∷ z ∷ holding_1 true ∷ []
    set_last other = other

-- what the entry row says where s0 is borrowed, or s0 and s1 are
abbrev pub one_slot : List SlotState
one_slot = borrowed ∷ Empty ∷ Empty ∷ Empty ∷ []

abbrev pub two_slots : List SlotState
two_slots = borrowed ∷ borrowed ∷ Empty ∷ Empty ∷ []

-- the block is locked once, as the one slot says that is given it
pub block-1-lent : AreLent one_slot block_1 (lent_memory false 77)
block-1-lent = record { each = ((refl, refl), (refl, (refl, (refl, tt)))); counts = counts }
  where
    counts : (h : ℕ) → locks_of (lent_memory false 77) (vm h) ≡ holds (given_slots one_slot block_1) (vm h)
    counts zero = refl
    counts (suc zero) = refl
    counts (suc (suc h)) = sym (ap (λ (b : Bool). 0 + (if b then 1 else 0) + 0 + 0 + 0) (ne_eqb 1 (suc (suc h)) (omega arith)))

pub record Borrowed : Type 0 where
  -- a run begins with the block in s0, and the other slots empty
  pub begins : (begin peek 0 (replicate 8 0) block_1 (lent_memory false 77)).slots ≡ holding_1 true ∷ None ∷ None ∷ None ∷ []
  pub lends : (base_of (lent_memory false 77) (begin peek 0 (replicate 8 0) block_1 (lent_memory false 77)).slots).lends ≡ Some
      (vm 1) ∷ None ∷ None ∷ None ∷ []
  pub base : (base_of (lent_memory false 77) (begin peek 0 (replicate 8 0) block_1 (lent_memory false 77)).slots).locks (vm 1) ≡ 0
  -- a handle for a slot that is not borrowed means nothing
  pub other_handle : begin peek 0 (replicate 8 0) (1 ∷ 1 ∷ 0 ∷ 0 ∷ []) (lent_memory false 77) ≡ begin peek 0
      (replicate 8 0) block_1 (lent_memory false 77)
  -- peek puts the word out, and leaves the lock
  pub peek_runs : returned (ending peek 5 (replicate 8 0) block_1 (lent_memory false 77)) ≡ (5, 0 ∷ 16 ∷ 77 ∷ 0 ∷ 0 ∷ 0 ∷ 0 ∷ 0 ∷ [], 77 ∷ []) ∷ []
  pub peek_leaves : memory_at (lent_memory false 0) (ending peek 5 (replicate 8 0) block_1 (lent_memory false 77)) ≡ lent_memory false 77
  -- poke writes the word, and marks the block
  pub poke_leaves : memory_at (lent_memory false 0) (ending poke 5 (8 ∷ replicate 7 0) block_1 (lent_memory false 77)) ≡ lent_memory true 8
  -- a block that both slots hold is no two blocks: SNE goes to its label
  pub two_of_one : returned (ending two_apart 6 (replicate 8 0) (1 ∷ 1 ∷ 0 ∷ 0 ∷ []) (lent_memory false 77)) ≡ (
    6,
    0 ∷ 16 ∷ 4 ∷ 0 ∷ 0 ∷ 0 ∷ 0 ∷ 0 ∷ [],
    [],
  ) ∷ []
  -- two slots are not given a block that is locked once, nor is a block given that is not there, nor one to a slot that is not borrowed
  pub not_twice : AreLent two_slots (1 ∷ 1 ∷ 0 ∷ 0 ∷ []) (lent_memory false 77) → ⊥
  pub not_there : AreLent one_slot (2 ∷ 0 ∷ 0 ∷ 0 ∷ []) (lent_memory false 77) → ⊥
  pub none_given : AreLent one_slot (replicate 4 0) (lent_memory false 77) → ⊥
  pub not_elsewhere : AreLent one_slot (1 ∷ 1 ∷ 0 ∷ 0 ∷ []) (lent_memory false 77) → ⊥
  -- a borrowed slot is as a row says that knows it borrowed
  pub meets : SlotMeets (lent_memory true 0) (holding_1 true) borrowed_marked
  pub meets_own : SlotMeets (lent_memory true 0) (holding_1 true) (Vm false false) → ⊥
  pub own_meets : SlotMeets (lent_memory true 0) (holding_1 false) borrowed → ⊥
  -- an unlock of it is a fault
  pub unlocks : step (alone (instr Vunlock 3 0 0 0 0)) willing with_borrowed ≡ Fault

pub examples : Borrowed
unfolding cost word
examples = record {
  begins = refl;
  lends = refl;
  base = refl;
  other_handle = refl;
  peek_runs = refl;
  peek_leaves = refl;
  poke_leaves = refl;
  two_of_one = refl;
  not_twice = λ h. absurd (let both : 1 ≡ 2 = h.counts 1 in cc);
  not_there = λ h. absurd (let both : false ≡ true = h.each.0.0 in cc);
  none_given = λ h. absurd (let both : 1 ≡ 0 = h.counts 1 in cc);
  not_elsewhere = λ h. absurd (let both : 1 ≡ 0 = h.each.1.0 in cc);
  meets = (refl, refl, λ is. refl);
  meets_own = λ h. absurd (let both : true ≡ false = h.1 in cc);
  own_meets = λ h. absurd (let both : false ≡ true = h.1 in cc);
  unlocks = refl;
}
