-- What each instruction on arrays does, on values that a wrong definition would show itself at.
use Rattle.std.proofs.Common.{◌≡◌, refl, ℕ, List, [], ◌∷◌, Option, Some, None}
use Rattle.geos_terms.specs.Names.{mem}
use Rattle.geos_terms.specs.Bytes.{word}
use Rattle.geos_terms.specs.Chunks.{cost}
use Rattle.geos_terms.specs.Arrays.{arr, spelled}
use Rattle.geos_calls.specs.Memory.{Memory}
use Rattle.geos_opcodes.specs.declared.opcode.Opcode.{Opcode}
use Rattle.geos_opcodes.specs.declared.opcode.Opcode.TheVariants.{Canew, Caadd, Cains, Cadel, Cacount, Caelt, Cazero, Caresize}
use Rattle.geos_image.specs.declared.instr.Instr.{Instr}
use Rattle.geos_semantics.specs.State.{SlotReference, State}
use Rattle.geos_semantics.specs.Model.{Outcome, step}
use Rattle.worked_examples.proofs.Images.{instr}
use Rattle.worked_examples.proofs.States.{willing, unwilling, alone, block, few_bytes, third, region_of, leads, moved_first, moved_second, before, registers, on, refused, with_w6, greatest_refused}

-- chunk 16 of the first block: an array of varying sizes, with elements of 2 bytes and of 1
abbrev pub varying : List ℕ
varying = 2 ∷ 0 ∷ 0 ∷ 0 ∷ 0 ∷ 0 ∷ 8 ∷ 0 ∷ 12 ∷ 0 ∷ 14 ∷ 0 ∷ 7 ∷ 8 ∷ 9 ∷ []

-- its chunk 18: an array of two elements of 2 bytes each
abbrev pub fixed : List ℕ
fixed = 2 ∷ 0 ∷ 2 ∷ 0 ∷ 0 ∷ 0 ∷ 8 ∷ 0 ∷ 1 ∷ 2 ∷ 3 ∷ 4 ∷ []

-- such arrays in the first block, which has no room for 16 bytes more, and chunks of the second
abbrev pub with_arrays : List ℕ → List ℕ → List (Option (List ℕ)) → Memory
with_arrays bytes other chunks = region_of (block 2 (Some bytes ∷ Some other ∷ []) ∷ block 1 chunks ∷ third ∷ None ∷ [])

-- before each example: the chunk of the second block is no array
abbrev pub arrays : State
arrays = record before { memory = with_arrays varying fixed (Some few_bytes ∷ None ∷ []) }

-- the array of the chunk in w0, with fields c and d
abbrev pub on_array : Opcode → ℕ → ℕ → Instr
on_array opcode c d = record (instr opcode 0 0 c 0 7) { d = d }

abbrev pub stepped_here : Instr → Outcome
stepped_here i = step (alone i) willing arrays

-- where all is refused that may be
abbrev pub refused_here : Instr → Outcome
refused_here i = step (alone i) unwilling arrays

-- from where w6 has the greatest word
abbrev pub greatest_here : Instr → Outcome
greatest_here i = step (alone i) willing (record arrays { words = registers 65535 0 })

-- chunks of the first block were changed, or their change was refused
abbrev pub moved : State
moved = record arrays { pointers = moved_first }

-- the same of the second block
abbrev pub moved_of_second : State
moved_of_second = record arrays { pointers = moved_second }

-- another array of varying sizes
abbrev pub varying_to : List ℕ → State
varying_to bytes = record moved { memory = with_arrays bytes fixed (Some few_bytes ∷ None ∷ []) }

-- another one of elements of 2 bytes
abbrev pub fixed_to : List ℕ → State
fixed_to bytes = record moved { memory = with_arrays varying bytes (Some few_bytes ∷ None ∷ []) }

-- a pointer through s0 to an element
abbrev pub element : ℕ → ℕ → ℕ → Option SlotReference
element chunk start len = Some (record { slot = 0; reference = record { name = mem 1; chunk = chunk; start = start; len = len } })

-- w0 to w7 are 16, 1, 2, 3, 44, 18, 43981 and 0; there is no chunk w6
pub record OnArrays : Type 0 where
  pub canew : stepped_here (instr Canew 2 6 0 5 7) ≡ with_w6 18
      (record arrays { memory = with_arrays varying fixed (Some few_bytes ∷ Some (0 ∷ 0 ∷ 5 ∷ 0 ∷ 0 ∷ 0 ∷ 8 ∷ 0 ∷ []) ∷ []); pointers = moved_second })
  -- a third chunk needs more entries, and the block 16 bytes more
  pub canew_no_room : refused_here (instr Canew 0 6 0 5 7) ≡ refused 4 moved
  -- w1 is 1
  pub caadd : stepped_here (instr Caadd 0 0 1 0 7) ≡ on (varying_to (3 ∷ 0 ∷ 0 ∷ 0 ∷ 0 ∷ 0 ∷ 8 ∷ 0 ∷ 14 ∷ 0 ∷ 16 ∷ 0 ∷ 17 ∷ 0 ∷ 7 ∷ 8 ∷ 9 ∷ 0 ∷ []))
  -- w4 is 44, which is not used
  pub caadd_fixed : stepped_here (instr Caadd 0 5 4 0 7) ≡ on (fixed_to (3 ∷ 0 ∷ 2 ∷ 0 ∷ 0 ∷ 0 ∷ 8 ∷ 0 ∷ 1 ∷ 2 ∷ 3 ∷ 4 ∷ 0 ∷ 0 ∷ []))
  pub caadd_no_chunk : stepped_here (instr Caadd 0 6 1 0 7) ≡ refused 2 moved
  pub caadd_no_array : stepped_here (instr Caadd 2 0 1 0 7) ≡ refused 8 moved_of_second
  pub caadd_too_big : greatest_here (instr Caadd 0 0 6 0 7) ≡ greatest_refused 6 moved
  pub caadd_no_room : refused_here (instr Caadd 0 0 4 0 7) ≡ refused 4 moved
  -- 2 bytes at index 1
  pub cains : stepped_here (on_array Cains 1 2) ≡ on (varying_to (3 ∷ 0 ∷ 0 ∷ 0 ∷ 0 ∷ 0 ∷ 8 ∷ 0 ∷ 14 ∷ 0 ∷ 16 ∷ 0 ∷ 18 ∷ 0 ∷ 7 ∷ 8 ∷ 0 ∷ 0 ∷ 9 ∷ []))
  -- the count is an index here
  pub cains_behind : stepped_here (on_array Cains 2 1) ≡ on
      (varying_to (3 ∷ 0 ∷ 0 ∷ 0 ∷ 0 ∷ 0 ∷ 8 ∷ 0 ∷ 14 ∷ 0 ∷ 16 ∷ 0 ∷ 17 ∷ 0 ∷ 7 ∷ 8 ∷ 9 ∷ 0 ∷ []))
  -- 9 comes before 6
  pub cains_past : greatest_here (on_array Cains 3 6) ≡ greatest_refused 9 moved
  pub cains_fixed : stepped_here (record (instr Cains 0 5 1 0 7) { d = 4 }) ≡ on
      (fixed_to (3 ∷ 0 ∷ 2 ∷ 0 ∷ 0 ∷ 0 ∷ 8 ∷ 0 ∷ 1 ∷ 2 ∷ 0 ∷ 0 ∷ 3 ∷ 4 ∷ []))
  pub cains_no_array : stepped_here (record (instr Cains 2 0 3 0 7) { d = 1 }) ≡ refused 8 moved_of_second
  pub cains_no_chunk : stepped_here (record (instr Cains 0 6 3 0 7) { d = 1 }) ≡ refused 2 moved
  pub cains_no_room : refused_here (on_array Cains 1 4) ≡ refused 4 moved
  -- w7 is 0
  pub cadel : stepped_here (instr Cadel 0 0 7 0 7) ≡ on (varying_to (1 ∷ 0 ∷ 0 ∷ 0 ∷ 0 ∷ 0 ∷ 8 ∷ 0 ∷ 10 ∷ 0 ∷ 9 ∷ []))
  pub cadel_last : stepped_here (instr Cadel 0 0 1 0 7) ≡ on (varying_to (1 ∷ 0 ∷ 0 ∷ 0 ∷ 0 ∷ 0 ∷ 8 ∷ 0 ∷ 10 ∷ 0 ∷ 7 ∷ 8 ∷ []))
  pub cadel_past : stepped_here (instr Cadel 0 0 2 0 7) ≡ refused 9 moved
  pub cadel_fixed : stepped_here (instr Cadel 0 5 7 0 7) ≡ on (fixed_to (1 ∷ 0 ∷ 2 ∷ 0 ∷ 0 ∷ 0 ∷ 8 ∷ 0 ∷ 3 ∷ 4 ∷ []))
  pub cadel_no_array : stepped_here (instr Cadel 2 0 2 0 7) ≡ refused 8 moved_of_second
  pub cadel_no_chunk : stepped_here (instr Cadel 0 6 2 0 7) ≡ refused 2 moved
  pub cacount : stepped_here (instr Cacount 0 6 0 0 7) ≡ with_w6 2 arrays
  pub cacount_no_array : stepped_here (instr Cacount 2 6 0 0 7) ≡ refused 8 arrays
  pub cacount_no_chunk : stepped_here (instr Cacount 0 6 6 0 7) ≡ refused 2 arrays
  pub caelt : stepped_here (record (instr Caelt 0 3 0 1 7) { d = 1 }) ≡ on
      (record arrays { pointers = leads 0 1 4 ∷ leads 1 1 4 ∷ leads 2 2 2 ∷ element 16 14 1 ∷ [] })
  pub caelt_fixed : stepped_here (record (instr Caelt 0 3 5 2 7) { d = 1 }) ≡ on
      (record arrays { pointers = leads 0 1 4 ∷ leads 1 1 4 ∷ leads 2 2 2 ∷ element 18 10 2 ∷ [] })
  pub caelt_short : stepped_here (record (instr Caelt 0 3 0 2 7) { d = 1 }) ≡ refused 3 arrays
  -- 9 comes before 3
  pub caelt_past : stepped_here (record (instr Caelt 0 3 0 9 7) { d = 2 }) ≡ refused 9 arrays
  pub caelt_no_array : stepped_here (record (instr Caelt 2 3 0 0 7) { d = 2 }) ≡ refused 8 arrays
  pub caelt_no_chunk : stepped_here (record (instr Caelt 0 3 6 0 7) { d = 2 }) ≡ refused 2 arrays
  pub cazero : stepped_here (instr Cazero 0 0 0 0 7) ≡ on (varying_to (0 ∷ 0 ∷ 0 ∷ 0 ∷ 0 ∷ 0 ∷ 8 ∷ 0 ∷ []))
  pub cazero_fixed : stepped_here (instr Cazero 0 5 0 0 7) ≡ on (fixed_to (0 ∷ 0 ∷ 2 ∷ 0 ∷ 0 ∷ 0 ∷ 8 ∷ 0 ∷ []))
  pub cazero_no_array : stepped_here (instr Cazero 2 0 0 0 7) ≡ refused 8 moved_of_second
  pub cazero_no_chunk : stepped_here (instr Cazero 0 6 0 0 7) ≡ refused 2 moved
  pub caresize_less : stepped_here (on_array Caresize 7 1) ≡ on (varying_to (2 ∷ 0 ∷ 0 ∷ 0 ∷ 0 ∷ 0 ∷ 8 ∷ 0 ∷ 12 ∷ 0 ∷ 13 ∷ 0 ∷ 7 ∷ 9 ∷ []))
  pub caresize_more : stepped_here (on_array Caresize 1 3) ≡ on
      (varying_to (2 ∷ 0 ∷ 0 ∷ 0 ∷ 0 ∷ 0 ∷ 8 ∷ 0 ∷ 12 ∷ 0 ∷ 14 ∷ 0 ∷ 7 ∷ 8 ∷ 9 ∷ 0 ∷ 0 ∷ []))
  -- 9 comes before 6
  pub caresize_past : greatest_here (on_array Caresize 2 6) ≡ greatest_refused 9 moved
  -- its elements have one size: that comes before an index that is past
  pub caresize_fixed : stepped_here (record (instr Caresize 0 5 2 0 7) { d = 1 }) ≡ refused 8 moved
  pub caresize_no_array : stepped_here (record (instr Caresize 2 0 2 0 7) { d = 1 }) ≡ refused 8 moved_of_second
  pub caresize_no_chunk : stepped_here (record (instr Caresize 0 6 2 0 7) { d = 1 }) ≡ refused 2 moved
  pub caresize_too_big : greatest_here (on_array Caresize 1 6) ≡ greatest_refused 6 moved
  pub caresize_no_room : refused_here (on_array Caresize 1 4) ≡ refused 4 moved

pub examples : OnArrays
unfolding arr spelled cost word
examples = record {
  canew = refl;
  canew_no_room = refl;
  caadd = refl;
  caadd_fixed = refl;
  caadd_no_chunk = refl;
  caadd_no_array = refl;
  caadd_too_big = refl;
  caadd_no_room = refl;
  cains = refl;
  cains_behind = refl;
  cains_past = refl;
  cains_fixed = refl;
  cains_no_array = refl;
  cains_no_chunk = refl;
  cains_no_room = refl;
  cadel = refl;
  cadel_last = refl;
  cadel_past = refl;
  cadel_fixed = refl;
  cadel_no_array = refl;
  cadel_no_chunk = refl;
  cacount = refl;
  cacount_no_array = refl;
  cacount_no_chunk = refl;
  caelt = refl;
  caelt_fixed = refl;
  caelt_short = refl;
  caelt_past = refl;
  caelt_no_array = refl;
  caelt_no_chunk = refl;
  cazero = refl;
  cazero_fixed = refl;
  cazero_no_array = refl;
  cazero_no_chunk = refl;
  caresize_less = refl;
  caresize_more = refl;
  caresize_past = refl;
  caresize_fixed = refl;
  caresize_no_array = refl;
  caresize_no_chunk = refl;
  caresize_too_big = refl;
  caresize_no_room = refl;
}
