-- What statements do, on worked examples: a lock that `?` leaves, an `else` that is taken, a loop, a call of a private routine, a commit.
use Rattle.std.proofs.Common.{◌≡◌, refl, sym, ap, replicate, ℕ, suc, List, Bool, true, false, [], ◌∷◌, Option, Some, None, arith, inl, inr, ◌+◌, ◌%◌}
use Rattle.geos_terms.specs.Chunks.{cost}
use Rattle.geos_calls.specs.Directories.{VmBlock, KeptBlock, Directory}
use Rattle.geos_calls.specs.VmFile.{VmFile, Pair, Kept, Sure, Unsure, empty_file}
use Rattle.geos_calls.specs.Memory.{Block as Listed, Memory}
use Rattle.geos_calls.specs.Effects.{Choice}
use Rattle.geos_image.specs.declared.instr.Instr.{Instr}
use Rattle.geos_opcodes.specs.declared.opcode.Opcode.{Opcode}
use Rattle.geos_opcodes.specs.declared.opcode.Opcode.TheVariants as op
use Rattle.geos_opcodes.specs.declared.uses.Kind.TheVariants.{MemBlock}
use Rattle.geos_semantics.specs.State.{State, goto}
use Rattle.geos_semantics.specs.Model.{Next, tried, begun}
use Rattle.tkv_meaning.specs.Statements.{Stmt, Act, Try, Leave, Then, Block, Loop, Closing}
use Rattle.tkv_meaning.specs.Code.{aimed}
use Rattle.tkv_meaning.specs.Meaning.{Scope, On, Out, Drifts, no_code, pc_after, Acts, Again, Does}

-- Statements and scopes

-- an instruction with these fields
abbrev instr : Opcode → ℕ → ℕ → ℕ → ℕ → Instr
instr o a b c imm = record { opcode = o; a = a; b = b; c = c; d = 0; imm = imm; target = 0 }

-- nothing is refused from outside, and nothing given
abbrev willing : Choice
willing = record { first_room = false; last_room = false; device = false; unsure = false; memory = false; given = [] }

-- the only choice that is allowed
abbrev Only : Choice → Choice → Type 0
Only allowed choice = choice ≡ allowed

-- a block of 64 bytes, locked so often, with 4 bytes in chunk 16
abbrev block : ℕ → Option Listed
block locks = Some (record { locks = locks; heap = record { chunks = Some (1 ∷ 2 ∷ 3 ∷ 4 ∷ []) ∷ None ∷ []; size = 64 } })

-- block 1 locked so often, in a region of 256 bytes
abbrev memory : ℕ → Memory
memory locks = record { blocks = block locks ∷ []; file = empty_file 0; region = 256; handles = 1024 }

-- these words w0 to w2, and the last refusal, with no block locked, in the scope of this number
abbrev at_rest : ℕ → ℕ → ℕ → ℕ → ℕ → Scope
at_rest n w0 w1 w2 why = record {
  memory = memory 0;
  words = w0 ∷ w1 ∷ w2 ∷ 0 ∷ 0 ∷ 0 ∷ 0 ∷ why ∷ [];
  counters = 0 ∷ 0 ∷ 0 ∷ 0 ∷ [];
  slots = None ∷ None ∷ None ∷ None ∷ [];
  pointers = None ∷ None ∷ None ∷ None ∷ [];
  output = [];
  kept = replicate n (empty_file 0).kept;
}

-- the same with block 1 locked in s0
abbrev locked : Scope → Scope
locked x = record x {
  memory = memory 1;
  slots = Some (record { kind = MemBlock; handle = 1; borrowed = false }) ∷ None ∷ None ∷ None ∷ [];
}

-- Derivations

-- a state of the machine with this scope
abbrev state : Scope → State
state x = record {
  memory = x.memory;
  words = x.words;
  counters = x.counters;
  slots = x.slots;
  pointers = x.pointers;
  routine = 0;
  pc = 0;
  stack = [];
  output = x.output;
}

-- under a choice, a step of the model takes one scope to another, and leaves or
-- not, whatever the target is; the new scope lists what the file has committed
abbrev Steps : Choice → Instr → Bool → Scope → Scope → Type 0
Steps choice i leaves x y =
    (y.kept ≡ y.memory.file.kept ∷ x.kept)
    × ((target : ℕ) → tried no_code choice (aimed i target) (begun choice (state x)) ≡ Next (goto (pc_after leaves 1 target) (state y)))

acts : (choice : Choice) (i : Instr) (leaves : Bool) (x y : Scope) → Steps choice i leaves x y → Acts (Only choice) i x leaves y
acts choice i leaves x y step =
    record { choice = choice; chosen = refl; before = state x; from_x = refl; after = state y; to_y = ap (λ (kept : List Kept). record y { kept = kept }) (sym step.0); step = step.1 }

-- no step of control
stays : (choice : Choice) (x : Scope) → Drifts (Only choice) x x
stays choice x = ([], tt, refl)

-- an instruction that continues; one that is not refused; one that is refused
did : (choice : Choice) (i : Instr) (x y : Scope) → Steps choice i false x y → Does (Only choice) (Act i) x On y
did choice i x y step = (x, stays choice x, acts choice i false x y step, refl)

done : (choice : Choice) (i : Instr) (l : ℕ) (x y : Scope) → Steps choice i false x y → Does (Only choice) (Try i l) x On y
done choice i l x y step = (x, stays choice x, inl (acts choice i false x y step, refl))

left : (choice : Choice) (i : Instr) (l : ℕ) (x y : Scope) → Steps choice i true x y → Does (Only choice) (Try i l) x (Out l) y
left choice i l x y step = (x, stays choice x, inr (acts choice i true x y step, refl))

-- A lock that `?` leaves, or that control comes to the end of

-- `mlock(h)? as b { n = lsize(b, c)?; }`, with h in w0, c in w1 and n in w2; each `?` leaves to the end of block 0
abbrev sizes : Stmt
sizes = Block 0 (Then (Try (instr op.Mlock 0 0 0 0) 0) (Closing (Try (instr op.Lsize 0 2 1 0) 0) (instr op.Munlock 0 0 0 0)))

-- chunk 16 has 4 bytes, and block 1 is locked no more
sizes-on : Does (Only willing) sizes (at_rest 1 1 16 0 0) On (at_rest 4 1 16 4 0)
unfolding cost
sizes-on = (
  On,
  inl (
    locked (at_rest 2 1 16 0 0),
    done willing (instr op.Mlock 0 0 0 0) 0 (at_rest 1 1 16 0 0) (locked (at_rest 2 1 16 0 0)) (refl, λ target. refl),
    (
      locked (at_rest 3 1 16 4 0),
      locked (at_rest 3 1 16 4 0),
      done willing (instr op.Lsize 0 2 1 0) 0 (locked (at_rest 2 1 16 0 0)) (locked (at_rest 3 1 16 4 0)) (refl, λ target. refl),
      stays willing (locked (at_rest 3 1 16 4 0)),
      acts willing (instr op.Munlock 0 0 0 0) false (locked (at_rest 3 1 16 4 0)) (at_rest 4 1 16 4 0) (refl, λ target. refl),
    ),
  ),
  refl,
)

-- there is no chunk 20: the refusal 2 leaves, and block 1 is locked no more
sizes-left : Does (Only willing) sizes (at_rest 1 1 20 0 0) On (at_rest 4 1 20 0 2)
unfolding cost
sizes-left = (
  Out 0,
  inl (
    locked (at_rest 2 1 20 0 0),
    done willing (instr op.Mlock 0 0 0 0) 0 (at_rest 1 1 20 0 0) (locked (at_rest 2 1 20 0 0)) (refl, λ target. refl),
    (
      locked (at_rest 3 1 20 0 2),
      locked (at_rest 3 1 20 0 2),
      left willing (instr op.Lsize 0 2 1 0) 0 (locked (at_rest 2 1 20 0 0)) (locked (at_rest 3 1 20 0 2)) (refl, λ target. refl),
      stays willing (locked (at_rest 3 1 20 0 2)),
      acts willing (instr op.Munlock 0 0 0 0) false (locked (at_rest 3 1 20 0 2)) (at_rest 4 1 20 0 2) (refl, λ target. refl),
    ),
  ),
  refl,
)

-- An `else` that is taken

-- the same with `else { n = 9; }` after the lock: without a
-- refusal control leaves to the end of block 0, past the `else`
abbrev sizes_or_nine : Stmt
sizes_or_nine = Block 0 (Then (Block 1 (Then (Try (instr op.Mlock 0 0 0 0) 1)
    (Then (Closing (Try (instr op.Lsize 0 2 1 0) 1) (instr op.Munlock 0 0 0 0)) (Leave 0)))) (Act (instr op.Ldi 2 0 0 9)))

-- there is no block 2: the lock is refused with 1, and n is 9
else-taken : Does (Only willing) sizes_or_nine (at_rest 1 2 16 0 0) On (at_rest 3 2 16 9 1)
unfolding cost
else-taken = (
  On,
  inl (
    at_rest 2 2 16 0 1,
    (Out 1, inr (1, left willing (instr op.Mlock 0 0 0 0) 1 (at_rest 1 2 16 0 0) (at_rest 2 2 16 0 1) (refl, λ target. refl), refl), refl),
    did willing (instr op.Ldi 2 0 0 9) (at_rest 2 2 16 0 1) (at_rest 3 2 16 9 1) (refl, λ target. refl),
  ),
  refl,
)

-- A loop

-- the same words with this in counter k0
abbrev counting : ℕ → Scope → Scope
counting k x = record x { counters = k ∷ 0 ∷ 0 ∷ 0 ∷ [] }

-- `for i in 0..3 { x = x + y; }`, with x in w0 and y in w1
abbrev adds : Stmt
adds = Then (Act (instr op.Setk 0 0 0 2)) (Loop 0 (Act (instr op.Add 0 0 1 0)))

-- one turn
added : (n k x : ℕ) → Does (Only willing) (Act (instr op.Add 0 0 1 0)) (counting k (at_rest n x 5 0 0)) On
    (counting k (at_rest (suc n) ((x + 5) % 65536) 5 0 0))
added n k x =
    did willing (instr op.Add 0 0 1 0) (counting k (at_rest n x 5 0 0)) (counting k (at_rest (suc n) ((x + 5) % 65536) 5 0 0)) (refl, λ target. refl)

-- the test of the loop finds 2 in k0, or 1
again_at_2 : Again (Only willing) 0 (counting 2 (at_rest 3 6 5 0 0)) (counting 1 (at_rest 3 6 5 0 0))
again_at_2 = (counting 2 (at_rest 3 6 5 0 0), stays willing (counting 2 (at_rest 3 6 5 0 0)), omega arith, stays willing (counting 1 (at_rest 3 6 5 0 0)))

again_at_1 : Again (Only willing) 0 (counting 1 (at_rest 4 11 5 0 0)) (counting 0 (at_rest 4 11 5 0 0))
again_at_1 = (counting 1 (at_rest 4 11 5 0 0), stays willing (counting 1 (at_rest 4 11 5 0 0)), omega arith, stays willing (counting 0 (at_rest 4 11 5 0 0)))

-- three turns
adds-thrice : Does (Only willing) adds (at_rest 1 1 5 0 0) On (at_rest 5 16 5 0 0)
adds-thrice = inl (
  counting 2 (at_rest 2 1 5 0 0),
  did willing (instr op.Setk 0 0 0 2) (at_rest 1 1 5 0 0) (counting 2 (at_rest 2 1 5 0 0)) (refl, λ target. refl),
  inl (
    counting 2 (at_rest 3 6 5 0 0),
    added 2 2 1,
    (
      2,
      (
        counting 1 (at_rest 3 6 5 0 0),
        counting 1 (at_rest 4 11 5 0 0),
        again_at_2,
        added 3 1 6,
        (
          counting 0 (at_rest 4 11 5 0 0),
          counting 0 (at_rest 5 16 5 0 0),
          again_at_1,
          added 4 0 11,
          inl ((counting 0 (at_rest 5 16 5 0 0), stays willing (counting 0 (at_rest 5 16 5 0 0)), refl, stays willing (counting 0 (at_rest 5 16 5 0 0))), refl),
        ),
      ),
    ),
  ),
)

-- A call of a private routine

-- `out(twice(x))?;`, of `fn twice(a) -> b { return a + a; }`: the routine's statements are a block, and `return` leaves to its end
abbrev calls_twice : Stmt
calls_twice = Block 0 (Then (Block 1 (Then (Act (instr op.Add 1 0 0 0)) (Leave 1))) (Try (instr op.Out 1 0 0 0) 0))

-- the program outputs the double of 21
twice-called : Does (Only willing) calls_twice (at_rest 1 21 0 0 0) On (record (at_rest 3 21 42 0 0) { output = 42 ∷ [] })
twice-called = (
  On,
  inl (
    at_rest 2 21 42 0 0,
    (
      Out 1,
      inl (
        at_rest 2 21 42 0 0,
        did willing (instr op.Add 1 0 0 0) (at_rest 1 21 0 0 0) (at_rest 2 21 42 0 0) (refl, λ target. refl),
        (stays willing (at_rest 2 21 42 0 0), refl),
      ),
      refl,
    ),
    done willing (instr op.Out 1 0 0 0) 0 (at_rest 2 21 42 0 0) (record (at_rest 3 21 42 0 0) { output = 42 ∷ [] }) (refl, λ target. refl),
  ),
  refl,
)

-- A commit

-- a file that lists a marked block, of which nothing is saved and nothing is on the device
abbrev listed : Bool → Directory VmBlock
listed marked = record {
  blocks = Some (record { uid = 18; marked = marked; block = record { locks = 0; heap = record { chunks = None ∷ None ∷ []; size = 64 } } }) ∷ [];
  map_block = 1;
  map_group = 0;
  map_item = 0;
}

-- a directory with no block, and one with this block, as they are stored
abbrev nothing_stored : Directory KeptBlock
nothing_stored = record { blocks = None ∷ []; map_block = 0; map_group = 0; map_item = 0 }

abbrev stored : Directory KeptBlock
stored = record {
  blocks = Some (record { uid = 18; heap = record { chunks = None ∷ None ∷ []; size = 64 } }) ∷ [];
  map_block = 1;
  map_group = 0;
  map_item = 0;
}

-- a pair of a current directory and a saved one
abbrev pair : Directory KeptBlock → Directory KeptBlock → Pair
pair cur saved = record { cur = cur; saved = saved }

-- what the file keeps before the commit, after it, and after one that fails late: then the device may have the old pair or the new one
abbrev old : Kept
old = Sure (pair nothing_stored nothing_stored)

abbrev new : Kept
new = Sure (pair stored stored)

abbrev unsure : Kept
unsure = Unsure (pair nothing_stored nothing_stored) (pair stored stored)

-- a scope with this file and this last refusal, in which the file has committed these contents
abbrev with_file : VmFile → ℕ → List Kept → Scope
with_file f why kept = record (at_rest 0 0 0 0 why) { memory = record { blocks = []; file = f; region = 256; handles = 1024 }; kept = kept }

-- the block is marked, and not saved
abbrev unsaved : ℕ → Kept → List Kept → Scope
unsaved why now before = with_file (record { cur = listed true; saved = nothing_stored; kept = now; area = 512 }) why (now ∷ before)

-- the block is saved, and marked no more
abbrev saved : Scope
saved = with_file (record { cur = listed false; saved = stored; kept = new; area = 512 }) 0 (new ∷ old ∷ [])

-- `vsave()?;`
abbrev saves : Stmt
saves = Block 0 (Try (instr op.Vsave 0 0 0 0) 0)

saves-on : Does (Only willing) saves (unsaved 0 old []) On saved
unfolding cost
saves-on = (On, done willing (instr op.Vsave 0 0 0 0) 0 (unsaved 0 old []) saved (refl, λ target. refl), refl)

-- the device refuses with 11, and is unsure
abbrev late : Choice
late = record willing { device = true; unsure = true }

saves-late : Does (Only late) saves (unsaved 0 old []) On (unsaved 11 unsure (old ∷ []))
unfolding cost
saves-late = (
  Out 0,
  left late (instr op.Vsave 0 0 0 0) 0 (unsaved 0 old []) (unsaved 11 unsure (old ∷ [])) (refl, λ target. refl),
  refl,
)
